-- A turn tells whether it put an event.
use Rattle.std.proofs.{Common.{◌≡◌, ℕ, ◌+◌, ◌-◌, ◌≤◌, ◌&&◌, not, Bool, cond, List, Option, Some, None, refl, sym, ap, subst, arith}, lemmas.Grind.common_steps}
use Rattle.vs_contents.{specs.CallTree.{Done, Ask, Leads, bind}, proofs.Leads.{AllEnds, end_of, ends_bind}}
use Rattle.vs_ring_port.specs.declared.{device_ring.{Chain.Chain, Next.Next}, failure.Failure.Failure}
use Rattle.vs_device_parts.specs.{Calls.{Answer, DeviceTree}}
use Rattle.vs_proxy_parts.specs.{Turns.{event_stage, fill_stage, pump_stage, take_stage, tick_stage, turn_of, turned, unless_failed}, Handshakes.shake_hands, State.{ProxyState, Turning}}
use Rattle.vs_proxy_parts.specs.{State.start, declared.answers.{Turn.Turn, Turned.Turned}}
use Rattle.laws_device.proofs.Walk.{Fields.{AfterTx, Calls, Fields, TxCalls, fields, fields_turn}, Keeping.{Asking, Keeps}}
use Rattle.laws_proxy.specs.Account.{Events.{TellsEvent, event_put, events_put}, Made.{Made, Makes}}
use Rattle.vs_proxy_parts.specs.declared.answers.Turn.TheVariants as turn
use Rattle.vs_ring_port.specs.declared.device_ring.Next.TheVariants as next

abbrev events : Asking ℕ
events = record { asks = λ call n P. (a : Answer call) → P a (event_put call n); weaker = λ call n P R then asks. λ a. then a (event_put call n) (asks a) }

made_to : {A : Type 0} (Q : A → ℕ → Type 0) (tree : DeviceTree A) (calls later : List Made) (x : A) → Keeps events Q tree (events_put calls)
    → Leads Makes tree calls x later → Q x (events_put later)
made_to Q (Done y) calls later x keeps leads =
    let P : List Made → Type 0 = λ m. Q x (events_put m) in subst P leads.1 (subst (λ z. Q z (events_put calls)) leads.0 keeps)
made_to Q (Ask call next) calls later x keeps leads =
    let P : List Made → Type 0 = λ m. Keeps events Q (next leads.0) (events_put m) in
    made_to Q (next leads.0) leads.1 later x (subst P (sym leads.2.1) (keeps leads.0)) leads.3

abbrev one : Bool → ℕ
one b = cond b 1 0

-- From so many events on, where one was owed or not.
module _ (from : ℕ) (was : Bool) where
  abbrev P : Option Chain → Fields → ℕ → Type 0
  P page k n = (n + one k.event_owed ≡ from + one was) × (from ≤ n)

  plain : Calls events P
  plain = grind (arith, common_steps)

  taken : (a : Next) (k : Fields) (n : ℕ) → P None k n → AfterTx events P a k n
  taken (next.Chain chain) k n at = λ bytes. record { short = λ is. at; drops = λ whole is. at; comes = λ whole is. at }
  taken next.None k n at = at
  taken (next.Failed f) k n at = at

  tx_calls : TxCalls events P
  tx_calls = grind (arith, common_steps, taken)

  owed_after : (size now : ℕ) (s : ProxyState) → s.device.event_owed ≡ was
      → Keeps events (λ (x : ProxyState × Turn) n. P None (fields x.0.device) n) (turn_of size now s) from
  owed_after size now s is =
      fields_turn events P plain tx_calls size now s from (ap (λ (b : Bool). from + one b) is, omega arith)

-- What the answer says.
abbrev IsTold : ProxyState → ProxyState × Turn → Type 0
IsTold s x = (t : Turned) → x.1 ≡ turn.Turned t → t.event ≡ (s.device.event_owed && not x.0.device.event_owed)

abbrev pub the_turn : ProxyState → Turning → Turned
the_turn s l = record {
  took = l.took;
  put = l.put;
  read = l.read;
  wrote = l.wrote;
  opened = l.state.device.opened - s.device.opened;
  closed = l.state.device.closed - s.device.closed;
  hands = l.hands;
  event = s.device.event_owed && not l.state.device.event_owed;
}

said_by : (s : ProxyState) (l : Turning) (t : Turned) (o : Option Failure)
    → elim o as (λ _. Turn) [ Some f ↦ turn.Failed f | None ↦ turn.Turned (the_turn s l) ] ≡ turn.Turned t → (o ≡ None) × (the_turn s l ≡ t)
said_by s l t o answer = grind (arith, common_steps)

pub turn_says : (s : ProxyState) (l : Turning) (t : Turned) → turned s l ≡ turn.Turned t → (l.state.device.failed ≡ None) × (the_turn s l ≡ t)
turn_says s l t = said_by s l t l.state.device.failed

at_each : {A : Type 0} (P : A → Type 0) → ((x : A) → P x) → (tree : DeviceTree A) → AllEnds P tree
at_each P holds (Done x) = holds x
at_each P holds (Ask call k) = λ a. at_each P holds (k a)

module _ (size now : ℕ) (s : ProxyState) where
  after : {A : Type 0} (p : DeviceTree A) (f : A → DeviceTree (ProxyState × Turn)) → ((x : A) → AllEnds (IsTold s) (f x))
      → AllEnds (IsTold s) (bind p f)
  after p f holds = ends_bind (IsTold s) p f (at_each (λ x. AllEnds (IsTold s) (f x)) holds p)

  is_told : AllEnds (IsTold s) (turn_of size now s)
  is_told =
      after (unless_failed (tick_stage now) (start s)) _ (λ a. after (unless_failed event_stage a) _ (λ b.
      after (unless_failed (take_stage size) b) _ (λ c. after (unless_failed shake_hands c) _ (λ d.
      after (unless_failed pump_stage d) _ (λ e. after (unless_failed fill_stage e) _ (λ f t answer.
      ap (λ (u : Turned). u.event) (sym (turn_says s f t answer).1)))))))

  by : (from n : ℕ) (was owed event : Bool) → (n + one owed ≡ from + one was) × (from ≤ n) → event ≡ (was && not owed)
      → n ≡ cond event (from + 1) from
  by from n was owed event kept is = grind (arith, common_steps)

  tells : (calls later : List Made) (x : ProxyState × Turn) → Leads Makes (turn_of size now s) calls x later → (a : Turn) → x.1 ≡ a
      → TellsEvent a calls later
  tells calls later x leads (turn.Failed f) is = tt
  tells calls later x leads (turn.Turned t) is =
      let owed = s.device.event_owed in
      let kept = made_to (λ (y : ProxyState × Turn) n. P (events_put calls) owed None (fields y.0.device) n) (turn_of size now s) calls later x
      (owed_after (events_put calls) owed size now s refl) leads in
      by (events_put calls) (events_put later) owed x.0.device.event_owed t.event kept
      (end_of (IsTold s) Makes (turn_of size now s) calls later x is_told leads t is)

  pub turn_tells_event : (calls later : List Made) (x : ProxyState × Turn) → Leads Makes (turn_of size now s) calls x later
      → TellsEvent x.1 calls later
  turn_tells_event calls later x leads = tells calls later x leads x.1 refl
