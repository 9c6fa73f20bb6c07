-- The packets that the device takes in a turn, and the event that it puts, are a list of events.
use Rattle.std.proofs.Common.{◌≡◌, ℕ, zero, suc, ◌+◌, ◌-◌, ◌&&◌, nat_le, nat_lt, Bool, true, false, cond, List, [], ◌∷◌, length, take, Option, Some, None, refl, sym, ap, arith}
use Rattle.std.proofs.{Common.{subst, ◌∙◌}, lemmas.Grind.common_steps}
use Rattle.vs_contents.specs.CallTree.{Done, Ask, bind, played, while_up_to}
use Rattle.vs_conn.specs.{declared.end.Verdict.Verdict}
use Rattle.vs_header.specs.{declared.{Header.Header}, Packet.header_of}
use Rattle.vs_ring_port.specs.{Chains.bytes_in, Contents.{Given, PublishCid, Read, Return, Take, Write}, EndLog.EndLog, Lists.chain_with, declared.device_ring.Chain.Chain}
use Rattle.vs_ring_port.specs.declared.failure.Failure.{Failure}
use Rattle.vs_device_parts.specs.{Transmitting.{failing, on_next, on_packet}}
use Rattle.vs_device_parts.specs.{Steps.{chain_came, puts_event, returns, takes_chain}, Calls.{Answer, Call, DeviceTree, Ring}}
use Rattle.vs_device_parts.specs.{Receiving.pay_event_of, State.{DeviceState}}
use Rattle.vs_device_parts.specs.declared.answers.Taken.{Taken}
use Rattle.vs_limits.specs.declared.TheConstants.{DEVICE_REPLIES}
use Rattle.vs_proxy_parts.specs.{Turns.{device_after, event_stage, take_one, take_stage, took_packet}, State.{Turning, with_device}}
use Rattle.laws_device.{specs.Honest.is_held, proofs.Ringing.same_self}
use Rattle.laws_world.specs.{Events.{DevicePutsEvent, DeviceReturns, DeviceTakes, device_step, holds, holds_event}, Answers.{Around, answer_around}, Steps.Leads, World.World}
use Rattle.laws_world.{specs.World.around, proofs.{DeviceLeads.{Does, device_bind, device_event, does_nothing, does_then, leads_bind, plays, with_proxy}, GuestLines.leads_none}}
use Rattle.laws_world.proofs.{GuestLines.{leads_one, leads_then, possible_is}, TickStage.{TurnDoes, turning_at}}
use Rattle.vs_conn.specs.declared.end.Verdict.TheVariants as verdict
use Rattle.vs_outside.specs.declared.host_net.Dialed.TheVariants as dialed
use Rattle.vs_ring_port.specs.declared.failure.Failure.TheVariants as failure
use Rattle.vs_ring_port.specs.declared.queue.Queue.TheVariants as q
use Rattle.vs_device_parts.specs.declared.answers.Taken.TheVariants as taken

-- A conversation that moves no page: it reads what it holds, and calls the host.
abbrev MovesNone : Call → Type 0
MovesNone (Ring (Read chain place n)) = Unit {0}
MovesNone (Ring _) = ⊥
MovesNone _ = Unit {0}

abbrev OffRing : {A : Type 0} → (A → Type 0) → DeviceTree A → Type 0
OffRing P (Done x) = P x
OffRing P (Ask call k) = MovesNone call × ((a : Answer call) → OffRing P (k a))

pub record Quiet {A : Type 0} (P : A → Type 0) (old : EndLog) (x : A) (new : EndLog) : Type 0 where
  pub ends : P x
  pub log : new ≡ old

off_played : {A : Type 0} (P : A → Type 0) (tree : DeviceTree A) (a : Around) → OffRing P tree
    → let r = played answer_around tree a in Quiet P a.log r.0 r.1.log
off_played P (Done x) a off = record { ends = off; log = refl }
off_played P (Ask call k) a off =
    let r = answer_around call a in
    let rest = off_played P (k r.0) r.1 (off.1 r.0) in
    record { ends = rest.ends; log = rest.log ∙ same call off.0 a }
  where
    same : (call : Call) → MovesNone call → (a : Around) → (answer_around call a).1.log ≡ a.log
    same (Ring (Take queue)) none a = absurd none
    same (Ring (Write chain place bytes)) none a = absurd none
    same (Ring (Return chain len)) none a = absurd none
    same (Ring (Given queue)) none a = absurd none
    same (Ring (PublishCid cid)) none a = absurd none
    same x none a = refl

-- What the device does with a packet is such a conversation, after which the ring didn't fail.
abbrev Fine : DeviceTree (DeviceState × Verdict) → Type 0
Fine tree = OffRing (λ (r : DeviceState × Verdict). r.0.failed ≡ None) tree

module _ (chain : Chain) (h : Header) (s : DeviceState) (fine : s.failed ≡ None) where
  packet_off : Fine (on_packet chain h s)
  packet_off = grind (arith, common_steps)

-- One packet. The stage goes on where the ring didn't fail.
pub record Goes (w : World) (r : Turning × Bool) (a : Around) : Type 0 where
  pub leads : Leads w (with_proxy r.0.state a w)
  pub fine : r.1 ≡ true → r.0.state.device.failed ≡ None

stops : (w : World) (t : Turning) (a : Around) → Leads w (with_proxy t.state a w) → Goes w (t, false) a
stops w t a leads = record { leads = leads; fine = λ no. absurd cc }

-- What the stage does once take_tx is done.
abbrev pub counts : Turning → DeviceState × Taken → DeviceTree (Turning × Bool)
counts t r = elim (took_packet r.1) as (λ _. DeviceTree (Turning × Bool)) [
  | true ↦ Done (record (device_after r.0 t) { took = t.took + 1 }, true)
  | false ↦ Done (device_after r.0 t, false)
]

bind_twice : {A B C : Type 0} (p : DeviceTree A) (f : A → DeviceTree B) (g : B → DeviceTree C) (a : Around)
    → played answer_around (bind (bind p f) g) a ≡ (let r = played answer_around p a in played answer_around (bind (f r.0) g) r.1)
bind_twice (Done x) f g a = refl
bind_twice (Ask call k) f g a = let r = answer_around call a in bind_twice (k r.0) f g r.1

module _ (w : World) (t : Turning) where
  -- The world in which the ring didn't fail, with these pages to take.
  abbrev taking : List (List ℕ) → World
  taking given = record w {
    proxy = with_device (record w.proxy.device { failed = None }) w.proxy;
    rings = record w.rings { lists = record w.rings.lists { tx = record w.rings.lists.tx { given = given } } };
  }

  -- The event that takes a page, where fewer than 64 replies are owed.
  tx_taken : (given : List (List ℕ)) → nat_le DEVICE_REPLIES (length w.proxy.device.replies) ≡ false
      → (let v = taking given in let x = plays (Ask (Ring (Take q.Tx)) (λ answer. chain_came answer v.proxy.device)) v in
      Leads v (with_proxy (with_device x.0 v.proxy) x.1 v))
  tx_taken given few =
      let v = taking given in
      by (nat_le DEVICE_REPLIES (length w.proxy.device.replies)) few (device_event (DeviceTakes q.Tx) (takes_chain q.Tx) v refl refl)
    where
      by : (b : Bool) → b ≡ false
          → (let v = taking given in let x = plays (cond b (Done v.proxy.device) (Ask (Ring (Take q.Tx))
          (λ answer. chain_came answer v.proxy.device))) v in
          Leads v (with_proxy (with_device x.0 v.proxy) x.1 v))
          → (let v = taking given in let x = plays (Ask (Ring (Take q.Tx)) (λ answer. chain_came answer v.proxy.device)) v in
          Leads v (with_proxy (with_device x.0 v.proxy) x.1 v))
      by false is leads = leads
      by true is leads = absurd cc

  module _ (page : List ℕ) (pages : List (List ℕ)) where
    abbrev here : World
    here = taking (page ∷ pages)

    abbrev c : Chain
    c = chain_with q.Tx w.rings.lists.tx.place page

    abbrev s : DeviceState
    s = here.proxy.device

    abbrev a : Around
    a = (answer_around (Ring (Take q.Tx)) (around here)).1

    -- It is returned after all that the packet asks for.
    packet_goes : (h : Header)
        → (let x = played answer_around (bind (on_packet c h s)
        (λ r. Done r.0)) a in Leads here (with_proxy (with_device x.0 w.proxy) x.1 here))
        → (let r = played answer_around (bind (bind (on_packet c h s) (λ r. Ask (Ring (Return c 0))
        (λ _. Done (r.0, taken.Packet r.1)))) (counts (turning_at here t))) a in
        Goes here r.0 r.1)
    packet_goes h leads =
        let y = played answer_around (on_packet c h s) a in
        let quiet = off_played (λ (r : DeviceState × Verdict). r.0.failed ≡ None) (on_packet c h s) a (packet_off c h s refl) in
        let v = with_proxy (with_device y.0.0 w.proxy) y.1 here in
        let first : Leads here v = subst (λ x. Leads here (with_proxy (with_device x.0 w.proxy) x.1 here)) (device_bind
        (on_packet c h s) (λ r. Done r.0) a) leads in
        let held : holds q.Tx c v ≡ true =
        ap (λ (l : EndLog). is_held c l.held) quiet.log ∙ ap (λ (b : Bool). cond b true (is_held c w.rings.device.held)) (same_self c) in
        subst (λ r. Goes here r.0 r.1)
        (sym (bind_twice (on_packet c h s) (λ r. Ask (Ring (Return c 0))
        (λ _. Done (r.0, taken.Packet r.1))) (counts (turning_at here t)) a)) (record {
          leads = leads_then here v _ first (leads_one (DeviceReturns c) v _ (possible_is (holds q.Tx c v) (device_step
              (returns c)) v held));
          fine = λ _. quiet.ends;
        })

    header_goes : (h : Header) (b : Bool)
        → (let x = played answer_around (cond b (Done (failing (failure.PayloadShort h.len (c.readable - 44)) s)) (bind
        (on_packet c h s) (λ r. Done r.0))) a in
        Leads here (with_proxy (with_device x.0 w.proxy) x.1 here))
        → (let r = played answer_around (bind (cond b
        (Done (failing (failure.PayloadShort h.len (c.readable - 44)) s, taken.Failed (failure.PayloadShort h.len (c.readable - 44))))
        (bind (on_packet c h s) (λ r. Ask (Ring (Return c 0))
        (λ _. Done (r.0, taken.Packet r.1))))) (counts (turning_at here t))) a in Goes here r.0 r.1)
    header_goes h true leads = stops here _ a leads
    header_goes h false leads = packet_goes h leads

  page_goes : (given : List (List ℕ))
      → (let v = taking given in let x = plays (Ask (Ring (Take q.Tx)) (λ answer. chain_came answer v.proxy.device)) v in
      Leads v (with_proxy (with_device x.0 v.proxy) x.1 v))
      → (let v = taking given in
      let r = plays (bind (Ask (Ring (Take q.Tx)) (λ answer. on_next answer v.proxy.device)) (counts (turning_at v t))) v in Goes v r.0 r.1)
  page_goes [] leads = stops (taking []) _ _ leads
  page_goes (page ∷ pages) leads =
      let chain = c page pages in
      let h = header_of (take 44 (bytes_in chain (a page pages).log.held)) in
      header_goes page pages h (nat_lt (chain.readable - 44) h.len) leads

  one_goes : (given : List (List ℕ)) (b : Bool) → nat_le DEVICE_REPLIES (length w.proxy.device.replies) ≡ b
      → (let v = taking given in
      let r = plays (bind (cond b (Done (v.proxy.device, taken.RepliesFull DEVICE_REPLIES)) (Ask (Ring (Take q.Tx))
      (λ answer. on_next answer v.proxy.device)))
      (counts (turning_at v t))) v in Goes v r.0 r.1)
  one_goes given true is = let v = taking given in stops v _ _ (leads_none v v refl)
  one_goes given false is = page_goes given (tx_taken given is)

pub take_goes : (w : World) (t : Turning) → w.proxy.device.failed ≡ None → let r = plays (take_one (turning_at w t)) w in Goes w r.0 r.1
take_goes w t fine = by w.proxy.device.failed fine
  where
    by : (o : Option Failure) → o ≡ None → let v = record w { proxy = with_device (record w.proxy.device { failed = o }) w.proxy } in
        let r = plays (take_one (turning_at v t)) v in Goes v r.0 r.1
    by None is = one_goes w t w.rings.lists.tx.given (nat_le DEVICE_REPLIES (length w.proxy.device.replies)) refl
    by (Some f) is = absurd cc

-- All of them.
pub take_stage_leads : (n : ℕ) (w : World) (t : Turning) → w.proxy.device.failed ≡ None
    → let r = plays (take_stage n (turning_at w t)) w in Leads w (with_proxy r.0.state r.1 w)
take_stage_leads zero w t fine = leads_none w w refl
take_stage_leads (suc n) w t fine =
    let one = take_goes w t fine in
    let r = plays (take_one (turning_at w t)) w in
    let v = with_proxy r.0.0.state r.1 w in
    leads_bind w (take_one (turning_at w t)) (λ r. elim r.1 as
    (λ _. DeviceTree Turning) [ true ↦ while_up_to n take_one r.0 | false ↦ Done r.0 ])
    (λ u. u.state) (λ u. u.0.state) one.leads (more r.0.1 (λ goes. take_stage_leads n v r.0.0 (one.fine goes)) refl)
  where
    more : (b : Bool)
        → ((let r = plays (take_one (turning_at w t)) w in r.0.1 ≡ true) → (let r = plays (take_one (turning_at w t)) w in
        let v = with_proxy r.0.0.state r.1 w in let x = plays (take_stage n r.0.0) v in Leads v (with_proxy x.0.state x.1 v)))
        → (let r = plays (take_one (turning_at w t)) w in r.0.1 ≡ b)
        → (let r = plays (take_one (turning_at w t)) w in let v = with_proxy r.0.0.state r.1 w in
        let x = plays (elim b as (λ _. DeviceTree Turning) [ true ↦ while_up_to n take_one r.0.0 | false ↦ Done r.0.0 ]) v in
        Leads v (with_proxy x.0.state x.1 v))
    more true rest is = rest is
    more false rest is = let r = plays (take_one (turning_at w t)) w in let v = with_proxy r.0.0.state r.1 w in leads_none v v refl

-- The owed event.
module _ (w : World) where
  abbrev owing : Bool → List (List ℕ) → World
  owing owed given = record w {
    proxy = with_device (record w.proxy.device { failed = None; event_owed = owed }) w.proxy;
    rings = record w.rings { lists = record w.rings.lists { event = record w.rings.lists.event { given = given } } };
  }

  pays : (owed : Bool) (given : List (List ℕ)) → let v = owing owed given in let r = plays (pay_event_of v.proxy.device) v in
      Does v (with_device r.0.0 w.proxy) r.1
  pays false given = does_nothing (owing false given) refl
  pays true [] = let v = owing true [] in record {
    leads = device_event (DeviceTakes q.Event)
        (takes_chain q.Event) v refl refl;
    fine = refl;
  }
  pays true (page ∷ pages) =
      let v = owing true (page ∷ pages) in
      let c = chain_with q.Event w.rings.lists.event.place page in
      let u = with_proxy v.proxy (answer_around (Ring (Take q.Event)) (around v)).1 v in
      let held : holds_event c u ≡ true = ap (λ (b : Bool). cond b true (is_held c w.rings.device.held) && true) (same_self c) in
      record {
        leads = leads_then v u _ (device_event (DeviceTakes q.Event) (takes_chain q.Event) v refl refl)
            (leads_one (DevicePutsEvent c) u _ (possible_is (holds_event c u) (device_step (puts_event c)) u held));
        fine = refl;
      }

pub event_does : (w : World) → w.proxy.device.failed ≡ None
    → let r = plays (pay_event_of w.proxy.device) w in Does w (with_device r.0.0 w.proxy) r.1
event_does w fine = by w.proxy.device.failed fine
  where
    by : (o : Option Failure) → o ≡ None → let v = record w { proxy = with_device (record w.proxy.device { failed = o }) w.proxy } in
        let r = plays (pay_event_of v.proxy.device) v in Does v (with_device r.0.0 w.proxy) r.1
    by None is = pays w w.proxy.device.event_owed w.rings.lists.event.given
    by (Some f) is = absurd cc

pub event_stage_does : TurnDoes event_stage
event_stage_does w t fine =
    let one = event_does w fine in
    let r = plays (pay_event_of w.proxy.device) w in
    does_then w (pay_event_of w.proxy.device) (λ r. Done (device_after r.0 (turning_at w t))) (λ u. u.state)
    (λ r. with_device r.0 w.proxy) one
    (does_nothing (with_proxy (with_device r.0.0 w.proxy) r.1 w) one.fine)
