-- Steps of the device and of the proxy as lists of events: how they are put together.
use Rattle.std.proofs.{Common.{◌≡◌, ℕ, zero, suc, Bool, true, false, List, [], ◌∷◌, None, refl, sym, subst, ◌∙◌, arith}, lemmas.Grind.common_steps}
use Rattle.vs_contents.{specs.CallTree.{Done, Ask, bind, for_each, played, while_up_to}, proofs.Leads.AllEnds}
use Rattle.vs_device_parts.specs.{Calls.{Answer, Call, DeviceTree}, State.DeviceState}
use Rattle.vs_proxy_parts.specs.State.{ProxyState, Turning, start, with_device}
use Rattle.laws_world.specs.{Answers.{Around, answer_around}, Events.{Event, device_step, happens, proxy_step, unless_failed}, Steps.Leads, World.{World, around}}
use Rattle.laws_world.proofs.GuestLines.{leads_none, leads_one, leads_then}

abbrev pub plays : {A : Type 0} → DeviceTree A → World → A × Around
plays tree w = played answer_around tree (around w)

-- The world with this proxy, and these rings and this host around it.
abbrev pub with_proxy : ProxyState → Around → World → World
with_proxy p a w = record w { proxy = p; rings = record w.rings { lists = a.lists; device = a.log }; host = a.host }

-- Events lead to this proxy and what is around it, and the ring didn't fail.
pub record Does (w : World) (p : ProxyState) (a : Around) : Type 0 where
  pub leads : Leads w (with_proxy p a w)
  pub fine : p.device.failed ≡ None

pub does_nothing : (w : World) → w.proxy.device.failed ≡ None → Does w w.proxy (around w)
does_nothing w fine = record { leads = leads_none w w refl; fine = fine }

-- One conversation after another.
pub device_bind : {A B : Type 0} (p : DeviceTree A) (f : A → DeviceTree B) (a : Around)
    → played answer_around (bind p f) a ≡ (let r = played answer_around p a in played answer_around (f r.0) r.1)
device_bind (Done x) f a = refl
device_bind (Ask call k) f a = let r = answer_around call a in device_bind (k r.0) f r.1

pub leads_bind : {A B : Type 0} (w : World) (p : DeviceTree A) (f : A → DeviceTree B) (state_of : B → ProxyState) (middle : A → ProxyState)
    → (let r = plays p w in Leads w (with_proxy (middle r.0) r.1 w))
    → (let r = plays p w in let v = with_proxy (middle r.0) r.1 w in let x = plays (f r.0) v in Leads v (with_proxy (state_of x.0) x.1 v))
    → (let r = plays (bind p f) w in Leads w (with_proxy (state_of r.0) r.1 w))
leads_bind w p f state_of middle first then_ =
    subst (λ x. Leads w (with_proxy (state_of x.0) x.1 w)) (sym (device_bind p f (around w))) (leads_then w _ _ first then_)

pub does_then : {A B : Type 0} (w : World) (p : DeviceTree A) (f : A → DeviceTree B) (state_of : B → ProxyState) (middle : A → ProxyState)
    → (let r = plays p w in Does w (middle r.0) r.1)
    → (let r = plays p w in let v = with_proxy (middle r.0) r.1 w in let x = plays (f r.0) v in Does v (state_of x.0) x.1)
    → (let r = plays (bind p f) w in Does w (state_of r.0) r.1)
does_then w p f state_of middle first then_ =
    subst (λ x. Does w (state_of x.0) x.1) (sym (device_bind p f (around w))) (record {
      leads = leads_then w _ _ first.leads then_.leads;
      fine = then_.fine;
    })

-- What holds of each end of a conversation.
pub ends_played : {A : Type 0} (P : A → Type 0) (tree : DeviceTree A) (a : Around) → AllEnds P tree → P (played answer_around tree a).0
ends_played P (Done x) a all = all
ends_played P (Ask call k) a all = let r = answer_around call a in ends_played P (k r.0) r.1 (all r.0)

-- In none of its ends did the ring fail.
abbrev pub EndsFine : DeviceTree DeviceState → Type 0
EndsFine tree = AllEnds {Call = Call} {Answer = Answer} (λ d. d.failed ≡ None) tree

pub fine_played : (tree : DeviceTree DeviceState) (a : Around) → EndsFine tree → (played answer_around tree a).0.failed ≡ None
fine_played tree a fine = ends_played (λ (d : DeviceState). d.failed ≡ None) tree a fine

-- A step of a device whose ring didn't fail is an event.
pub unless_is : (w : World) (step : World → World) → w.proxy.device.failed ≡ None → unless_failed step w ≡ step w
unless_is w step fine = grind (arith, common_steps)

pub device_event : (e : Event) (step : DeviceState → DeviceTree DeviceState) (w : World) → happens e w ≡ unless_failed (device_step step) w
    → w.proxy.device.failed ≡ None → (let x = plays (step w.proxy.device) w in Leads w (with_proxy (with_device x.0 w.proxy) x.1 w))
device_event e step w is fine = leads_one e w _ (is ∙ unless_is w (device_step step) fine)

pub proxy_event : (e : Event) (step : Turning → DeviceTree Turning) (w : World) → happens e w ≡ unless_failed (proxy_step step) w
    → w.proxy.device.failed ≡ None → (let x = plays (step (start w.proxy)) w in Leads w (with_proxy x.0.state x.1 w))
proxy_event e step w is fine = leads_one e w _ (is ∙ unless_is w (proxy_step step) fine)

-- Steps of a stage: what the stage counts stands beside the state of the world's device.
module _ {S : Type 0} (at : World → S → S) (of : World → S → ProxyState)
    (same : (w : World) (a : Around) (x : S) → at (with_proxy (of w x) a w) x ≡ x)
    (over : (w : World) (a : Around) (x y : S) → of (with_proxy (of w x) a w) y ≡ of w y)
    (own : (w : World) (x : S) → of w (at w x) ≡ w.proxy) where
  abbrev pub StepDoes : (S → DeviceTree S) → Type 0
  StepDoes step = (w : World) (x : S) → w.proxy.device.failed ≡ None → let r = plays (step (at w x)) w in Does w (of w r.0) r.1

  abbrev pub TestDoes : (S → DeviceTree (S × Bool)) → Type 0
  TestDoes step = (w : World) (x : S) → w.proxy.device.failed ≡ None → let r = plays (step (at w x)) w in Does w (of w r.0.0) r.1

  pub nothing_does : (w : World) (x : S) → w.proxy.device.failed ≡ None → Does w (of w (at w x)) (around w)
  nothing_does w x fine = subst (λ (p : ProxyState). Does w p (around w)) (sym (own w x)) (does_nothing w fine)

  -- One step and then others.
  step_then : {A : Type 0} (w : World) (p : DeviceTree A) (state_of : A → S) (f : A → DeviceTree S)
      → (let r = plays p w in Does w (of w (state_of r.0)) r.1)
      → (let r = plays p w in let v = with_proxy (of w (state_of r.0)) r.1 w in let x = plays (f r.0) v in Does v (of v x.0) x.1)
      → (let r = plays (bind p f) w in Does w (of w r.0) r.1)
  step_then w p state_of f one rest =
      let r = plays p w in
      let v = with_proxy (of w (state_of r.0)) r.1 w in
      let x = plays (f r.0) v in
      does_then w p f (of w) (λ y. of w (state_of y)) one (subst (λ (q : ProxyState). Does v q x.1) (over w r.1 (state_of r.0) x.0) rest)

  pub each_does : {X : Type 0} (step : X → S → DeviceTree S) → ((i : X) → StepDoes (step i)) → (xs : List X) → StepDoes (for_each step xs)
  each_does step does [] w x fine = nothing_does w x fine
  each_does step does (i ∷ is) w x fine =
      let one = does i w x fine in
      let r = plays (step i (at w x)) w in
      let v = with_proxy (of w r.0) r.1 w in
      step_then w (step i (at w x)) (λ y. y) (for_each step is) one
      (subst (λ (y : S). let z = plays (for_each step is y) v in Does v (of v z.0) z.1) (same w r.1 r.0)
      (each_does step does is v r.0 one.fine))

  pub while_does : (step : S → DeviceTree (S × Bool)) → TestDoes step → (n : ℕ) → StepDoes (while_up_to n step)
  while_does step does zero w x fine = nothing_does w x fine
  while_does step does (suc n) w x fine =
      let one = does w x fine in
      let r = plays (step (at w x)) w in
      let v = with_proxy (of w r.0.0) r.1 w in
      step_then w (step (at w x)) (λ y. y.0) (λ r. elim r.1 as (λ _. DeviceTree S) [ true ↦ while_up_to n step r.0 | false ↦ Done r.0 ]) one
      (more r.0.1 (while_does step does n v r.0.0 one.fine) (nothing_does v r.0.0 one.fine))
    where
      more : (b : Bool)
          → (let r = plays (step (at w x)) w in let v = with_proxy (of w r.0.0) r.1 w in
          let z = plays (while_up_to n step (at v r.0.0)) v in Does v (of v z.0) z.1)
          → (let r = plays (step (at w x)) w in let v = with_proxy (of w r.0.0) r.1 w in Does v (of v (at v r.0.0)) (around v))
          → (let r = plays (step (at w x)) w in let v = with_proxy (of w r.0.0) r.1 w in
          let z = plays (elim b as (λ _. DeviceTree S) [ true ↦ while_up_to n step r.0.0 | false ↦ Done r.0.0 ]) v in Does v (of v z.0) z.1)
      more true rest none =
          let r = plays (step (at w x)) w in
          let v = with_proxy (of w r.0.0) r.1 w in
          subst (λ (y : S). let z = plays (while_up_to n step y) v in Does v (of v z.0) z.1) (same w r.1 r.0.0) rest
      more false rest none =
          let r = plays (step (at w x)) w in
          let v = with_proxy (of w r.0.0) r.1 w in
          subst (λ (y : S). Does v (of v y) (around v)) (same w r.1 r.0.0) none
