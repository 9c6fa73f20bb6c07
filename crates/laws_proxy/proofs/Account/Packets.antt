-- The packets of a turn are judged, and counted where they are dropped, as the host's faults are.
use Rattle.std.proofs.lemmas.Grind.{common_steps}
use Rattle.std.proofs.Common.{arith}
use Rattle.std.proofs.Common.{◌≡◌, ℕ, ◌+◌, zero, suc, Bool, true, false, cond, List, length, nat_le, Option, Some, None, Result, refl, sym, subst, ◌∙◌}
use Rattle.vs_contents.{specs.CallTree.{Done, Ask, bind, while_up_to, Leads}, proofs.Leads.{leads_bind, leads_split}}
use Rattle.vs_ring_port.specs.{Contents.Take, declared.{failure.Failure.Failure, queue.Queue.TheVariants.Tx}}
use Rattle.vs_device_parts.specs.{Calls.{DeviceTree, Ring, Situation}, Playing.Runs, State.DeviceState, Transmitting.{on_next, take_tx_of}, declared.answers.Taken.Taken}
use Rattle.vs_limits.specs.declared.TheConstants.{DEVICE_REPLIES}
use Rattle.vs_proxy_parts.specs.{Turns.{device_after, event_stage, proxy_reset_of, take_one, take_stage, tick_stage, took_packet, turn_of, unless_failed}, State.ProxyState}
use Rattle.vs_proxy_parts.specs.{State.{Turning, start}, declared.answers.Turn.Turn}
use Rattle.laws_proxy.specs.Account.{Packets.{AreJudged, AreTaken, after_packets, before_packets, chains_taken}, Counts.{CountsFaults, DeviceCounts, counts_of, counts_shown}}
use Rattle.laws_proxy.{specs.Account.Made.{Made, Makes}, proofs.Account.{Quiet.{counts_after, counts_before, counts_reset, counts_turn}, Judging.take_judged, Walks.counts_made}}
use Rattle.laws_proxy.proofs.Account.Walks.{faults_alike, none_in}
use Rattle.vs_device_parts.specs.declared.answers.Taken.TheVariants as taken

-- The packets of a transmit stage.
taking : (n : ℕ) (t u : Turning) (calls later : List Made) → Leads Makes (while_up_to n take_one t) calls u later
    → AreTaken n t calls u later
taking zero t u calls later leads = (sym leads.0, sym leads.1)
taking (suc n) t u calls later leads =
    let split = leads_split Makes (take_one t) goes calls later u leads in
    let took = leads_split Makes (take_tx_of t.state.device) ends calls split.middle split.end split.first in (
      took.end,
      took.middle,
      took.first,
      take_judged t.state.device calls took.middle took.end took.first,
      by (λ m mid rest. taking n m u mid later rest) took.end took.middle split.end split.middle (took_packet took.end.1) took.rest split.rest,
    )
  where
    ends : DeviceState × Taken → DeviceTree (Turning × Bool)
    ends r = elim (took_packet r.1) [
      | true ↦ Done (record (device_after r.0 t) { took = t.took + 1 }, true)
      | false ↦ Done (device_after r.0 t, false)
    ]

    goes : Turning × Bool → DeviceTree Turning
    goes r = elim r.1 [ true ↦ while_up_to n take_one r.0 | false ↦ Done r.0 ]

    by : ((m : Turning) (mid : List Made) → Leads Makes (while_up_to n take_one m) mid u later → AreTaken n m mid u later)
        → (x : DeviceState × Taken) (mid : List Made) (r : Turning × Bool) (end : List Made) (b : Bool) → Leads {A = Turning × Bool} Makes (elim b [
          | true ↦ Done (record (device_after x.0 t) { took = t.took + 1 }, true)
          | false ↦ Done (device_after x.0 t, false)
        ]) mid r end → Leads Makes (goes r) end u later → elim b as (λ p. Type 0) [
          | true ↦ AreTaken n (record (device_after x.0 t) { took = t.took + 1 }) mid u later
          | false ↦ (u ≡ device_after x.0 t) × (later ≡ mid)
        ]
    by goes_on x mid r end true first rest =
        let P : Turning × Bool → Type 0 = λ q. Leads Makes (goes q) end u later in
        let Q : List Made → Type 0 = λ m. Leads Makes (while_up_to n take_one (record (device_after x.0 t) { took = t.took + 1 })) m u later in
        goes_on (record (device_after x.0 t) { took = t.took + 1 }) mid (subst Q (sym first.1) (subst P (sym first.0) rest))
    by goes_on x mid r end false first rest =
        let P : Turning × Bool → Type 0 = λ q. Leads Makes (goes q) end u later in
        let last = subst P (sym first.0) rest in (sym last.0, sym last.1 ∙ sym first.1)

-- Where the ring failed before, none is taken.
none_of : (n : ℕ) (t : Turning) (f : Failure) (calls : List Made) → t.state.device.failed ≡ Some f → AreTaken n t calls t calls
none_of zero t f calls is = (refl, refl)
none_of (suc n) t f calls is =
    let d = t.state.device in
    let P : Option Failure → Type 0 = λ o. Leads {A = DeviceState × Taken} Makes (elim o [
      | Some f ↦ Done (d, taken.Failed f)
      | None ↦ cond (nat_le DEVICE_REPLIES (length d.replies))
          (Done (d, taken.RepliesFull DEVICE_REPLIES)) (Ask (Ring (Take Tx)) (λ answer. on_next answer d))
    ]) calls (d, taken.Failed f) calls in
    let leads : Leads Makes (take_tx_of d) calls (d, taken.Failed f) calls = subst P (sym is) (refl, refl) in
    ((d, taken.Failed f), calls, leads, take_judged d calls calls (d, taken.Failed f) leads, (refl, refl))

stage_taken : (size : ℕ) (t u : Turning) (calls later : List Made) → Leads Makes (unless_failed (take_stage size) t) calls u later
    → AreTaken size t calls u later
stage_taken size t u calls later leads = grind (arith, common_steps, none_of, taking)

-- A turn.
module _ (size now : ℕ) (s : ProxyState) where
  abbrev taking_on : Turning → DeviceTree (ProxyState × Turn)
  taking_on b = bind (unless_failed (take_stage size) b) (after_packets s)

  abbrev telling_on : Turning → DeviceTree (ProxyState × Turn)
  telling_on a = bind (unless_failed event_stage a) taking_on

  -- A turn.
  pub turn_is_judged : (calls later : List Made) (x : ProxyState × Turn) → Leads Makes (turn_of size now s) calls x later
      → AreJudged size now s calls x later
  turn_is_judged calls later x leads =
      let ticked = leads_split Makes (unless_failed (tick_stage now) (start s)) telling_on calls later x leads in
      let told = leads_split Makes (unless_failed event_stage ticked.end) taking_on ticked.middle later x ticked.rest in
      let took = leads_split Makes (unless_failed (take_stage size) told.end) (after_packets s) told.middle later x told.rest in
      let first : Leads Makes (before_packets now s) calls told.end told.middle =
      leads_bind Makes (unless_failed (tick_stage now) (start s)) (unless_failed event_stage) calls ticked.middle told.middle ticked.end told.end
      ticked.first told.first in
      record {
        begun = told.end;
        first = told.middle;
        before = first;
        none_before = none_in (λ t. counts_shown t.state.device) (before_packets now s) calls told.middle told.end _
            (counts_before true now s) first;
        ended = took.end;
        last = took.middle;
        packets = stage_taken size told.end took.end told.middle took.middle took.first;
        after = took.rest;
        none_after = none_in (λ x. counts_shown x.0.device) (after_packets s took.end) took.middle later x _
            (counts_after true s took.end) took.rest;
      }

-- A reset takes none.
pub reset_takes_none : (cid : ℕ) (s : ProxyState) (calls later : List Made) (x : ProxyState × Result (Unit {0}) Failure)
    → Leads Makes (proxy_reset_of cid s) calls x later → chains_taken later ≡ chains_taken calls
reset_takes_none cid s calls later x leads =
    none_in (λ x. counts_shown x.0.device) (proxy_reset_of cid s) calls later x _ (counts_reset true cid s) leads

-- The counts of a turn and of a reset.
pub turn_counts : (size now : ℕ) (s : ProxyState) (calls later : List Made) (x : ProxyState × Turn) (first : DeviceCounts)
    → Leads Makes (turn_of size now s) calls x later → counts_shown s.device ≡ counts_of first calls
    → counts_shown x.0.device ≡ counts_of first later
turn_counts size now s calls later x first leads same =
    counts_made (λ x. counts_shown x.0.device) (turn_of size now s) calls later x (counts_shown s.device) first (counts_turn size now s) same leads

pub reset_counts : (cid : ℕ) (s : ProxyState) (calls later : List Made) (x : ProxyState × Result (Unit {0}) Failure) (first : DeviceCounts)
    → Leads Makes (proxy_reset_of cid s) calls x later → counts_shown s.device ≡ counts_of first calls
    → counts_shown x.0.device ≡ counts_of first later
reset_counts cid s calls later x first leads same =
    counts_made (λ x. counts_shown x.0.device) (proxy_reset_of cid s) calls later x (counts_shown s.device) first
    (counts_reset false cid s) same leads

-- Their faults are those of the host.
pub turn_faults : (size now : ℕ) (s : ProxyState) (a b : Situation) (x : ProxyState × Turn) → Runs (turn_of size now s) a x b
    → CountsFaults s.device.faults a.faults → CountsFaults x.0.device.faults b.faults
turn_faults size now s a b x runs same =
    faults_alike (λ x. counts_shown x.0.device) (turn_of size now s) a b x (counts_shown s.device) same (counts_turn size now s) runs

pub reset_faults : (cid : ℕ) (s : ProxyState) (a b : Situation) (x : ProxyState × Result (Unit {0}) Failure) → Runs (proxy_reset_of cid s) a x b
    → CountsFaults s.device.faults a.faults → CountsFaults x.0.device.faults b.faults
reset_faults cid s a b x runs same =
    faults_alike (λ x. counts_shown x.0.device) (proxy_reset_of cid s) a b x (counts_shown s.device) same
    (counts_reset false cid s) runs
