-- What a run began with, over its turns and where it comes to rest.
use Rattle.std.proofs.lemmas.Grind.{common_steps}
use Rattle.std.proofs.Common.{◌≡◌, ◌==◌, ◌-◌, ℕ, zero, suc, Bool, true, false, cond, List, [], ◌∷◌, Option, Some, None, refl, sym, ap, subst, ◌∙◌, arith, slice_get}
use Rattle.std.{proofs.lemmas.{List.Elements.{All-cons, All-head, All-nil, All-tail}, Option.same_Some}, specs.{List.All, Option.{ForSome, option_map}}}
use Rattle.vs_flow.specs.{Table.Table, declared.flow.Flow.Flow}
use Rattle.vs_limits.specs.declared.TheConstants.{ASSIGNED_FIRST, DEVICE_CONNECTIONS, FIRST_CID}
use Rattle.vs_outside.specs.{Host.{HostContents, Stream, is_waiting, stream_at}, HostProgram.is_closed}
use Rattle.vs_page.specs.{Log.{Device, Driver, Log, flow_got, packets_got}, Open.{cid_of, is_dropped}, declared.log.LogEntry.TheVariants.{GotPacket, Mark}}
use Rattle.vs_page.proofs.Flows.{same_self}
use Rattle.vs_ring_port.specs.EndLog.{EndLog}
use Rattle.vs_ring_shared.specs.Sights.{DeviceSight, Sight, device_contents, device_log}
use Rattle.vs_driver_parts.specs.State.{DriverState}
use Rattle.vs_device_parts.specs.{Calls.Situation, Playing.Runs, State.DeviceConnection}
use Rattle.laws_device.specs.Carried.Streamed.{IsShaking, IsStreamed, Ports, Seen, client_waits, lasting, look, ports_of, seen, seen_as}
use Rattle.laws_device.proofs.Carried.{Changing.no_labels, Hosts.there}
use Rattle.laws_proxy.specs.Honest.{IsProxyStreamedSince}
use Rattle.laws_rest.{specs.{Rest.has_no_mark}, proofs.Standing.{AreKept, device_kept}}
use Rattle.vs_proxy_parts.specs.{State.ProxyState, Turns.{new_proxy, turn_of}, declared.answers.Turn.Turn}
use Rattle.laws_proxy.proofs.Ordered.{turn_streamed}
use Rattle.laws_settled.{specs.{Begun.{AreUnaccepted, DropsNone, IsBegun, IsKept, IsUnlabelled, Start, start_with}, Settled.{IsSettled, IsSteady}}, proofs.Tallying.{Drops, Tallies, turn_tallies}}

-- A HOST WITHOUT LABELS
abbrev IsPlain : Stream → Type 0
IsPlain s = (s.label ≡ None) × (is_waiting s ≡ true → seen_as None s ≡ client_waits)

abbrev SeenPlain : Seen → Type 0
SeenPlain s = (s.label ≡ None) × (s.waiting ≡ true → s ≡ client_waits)

abbrev IsUnshaken : Stream → Type 0
IsUnshaken s = s.by_client ≡ true → is_closed s ≡ false → is_waiting s ≡ true

all_at : (P : Stream → Type 0) (xs : List Stream) (i : ℕ) (s : Stream) → slice_get xs i ≡ Some s → All P xs → P s
all_at P [] i s is all = absurd cc
all_at P (x ∷ xs) zero s is all = subst P (same_Some x s is) (All-head P x xs all)
all_at P (x ∷ xs) (suc i) s is all = all_at P xs i s is (All-tail P x xs all)

all_under : (P : Stream → Type 0) (xs : List Stream) (b : Bool) (i : ℕ) (s : Stream) → cond b None (slice_get xs i) ≡ Some s → All P xs → P s
all_under P xs true i s is all = absurd cc
all_under P xs false i s is all = all_at P xs i s is all

-- What is accepted of a client has a label or is closed.
none_shaking : (h : HostContents) → AreUnaccepted h → (id : ℕ) (s : Seen) → look h id ≡ Some s → IsShaking s → ⊥
none_shaking h unaccepted id s is busy =
    let st = there id h s is in
    let client : st.stream.by_client ≡ true = ap (λ (y : Seen). y.by_client) st.is ∙ busy.client in
    let still : is_closed st.stream ≡ false = ap (λ (y : Seen). y.closed) st.is ∙ busy.still in
    let waits : is_waiting st.stream ≡ true = all_under IsUnshaken h.streams (id == 0) (id - 1) st.stream st.at unaccepted client still in
    let both : true ≡ false = sym waits ∙ ap (λ (y : Seen). y.waiting) st.is ∙ busy.accepted in absurd cc

seen_plain : (h : HostContents) (id : ℕ) (o : Option Stream) (s : Seen) → option_map (seen h id) o ≡ Some s → ((x : Stream) → o ≡ Some x → IsPlain x)
    → SeenPlain s
seen_plain h id o s is plain = grind (arith, common_steps)

module _ (h : HostContents) (unlabelled : IsUnlabelled h) where
  plain : (id : ℕ) (s : Seen) → look h id ≡ Some s → SeenPlain s
  plain id s is = seen_plain h id (stream_at id h) s is (λ x there. all_under IsPlain h.streams (id == 0) (id - 1) x there unlabelled.1)

  begins_streamed : (port : Ports) (t : Table DeviceConnection) → t.entries ≡ [] → (port.serving.given ≡ 0) × (port.serving.room ≡ DEVICE_CONNECTIONS)
      → (port.fresh ≡ true → AreUnaccepted h) → IsStreamed h [] port t []
  begins_streamed port t empty slots fresh = grind (arith, common_steps, no_labels, plain, none_shaking)

-- THE BEGINNING
pub new_begun : (base : List ℕ) (a : Situation) (l : EndLog) → a.ring.log ≡ Some l → l.entries ≡ []
    → IsBegun (start_with base a.host a.faults) (new_proxy FIRST_CID base) a
new_begun base a l told silent = record {
  based = refl;
  drops = λ on m there all. refl;
  streamed = λ unlabelled. begins_since false unlabelled (λ no. absurd cc);
  shaken = λ unlabelled unaccepted. begins_since true unlabelled (λ known. unaccepted);
  failed = record { grown = omega arith; more = λ some. absurd (omega (arith, some)) };
}
  where
    begins_since : (fresh : Bool) → ForSome a.host IsUnlabelled → (fresh ≡ true → ForSome a.host AreUnaccepted)
        → IsProxyStreamedSince fresh FIRST_CID (new_proxy FIRST_CID base) a
    begins_since fresh unlabelled unaccepted on m is few h there =
        let device = (new_proxy FIRST_CID base).device in
        let same = same_Some l m (sym told ∙ is) in
        subst (λ (log : Log). IsStreamed h log (ports_of (lasting fresh) ASSIGNED_FIRST device) device.table [])
        (sym (ap (λ (x : EndLog). x.entries) (sym same) ∙ silent))
        (begins_streamed h (unlabelled h there) (ports_of (lasting fresh) ASSIGNED_FIRST device) device.table refl (refl, refl) (λ known. unaccepted known h there))

-- A TURN
first_cid : (first : ℕ) (log : Log) → has_no_mark log ≡ true → cid_of first log ≡ first
first_cid first [] marks = refl
first_cid first (Mark cid ∷ log) marks = absurd cc
first_cid first (_ ∷ log) marks = first_cid first log marks

unmarked : (s : ProxyState) (a : Situation) → IsSteady s a → (l : EndLog) → a.ring.log ≡ Some l → has_no_mark l.entries ≡ true
unmarked s a steady l is = grind (arith, common_steps, same_Some)

drops_at : (s : ProxyState) (a : Situation) → IsSteady s a → DropsNone s a.ring → Drops FIRST_CID s.device.cid s.device.dropped a.ring
drops_at s a steady drops on l is =
    let agrees = (steady.order.ring.1.1 l is).1 on in
    (agrees.matches.flows.cid ∙ first_cid FIRST_CID l.entries (unmarked s a steady l is), drops on l is)

pub turn_begun : (size now : ℕ) (s : ProxyState) (a b : Situation) (x : ProxyState × Turn) → IsSteady s a → Runs (turn_of size now s) a x b
    → (start : Start) → IsBegun start s a → IsBegun start x.0 b
turn_begun size now s a b x steady runs start begun =
    let tallies : Tallies FIRST_CID start.faults start.base x.0.device.base x.0.device.cid x.0.device.dropped x.0.device.faults b =
    turn_tallies FIRST_CID start.faults start.base size now s a b x (record { based = begun.based; drops = drops_at s a steady begun.drops; failed = begun.failed }) runs in
    record {
      based = tallies.based;
      drops = λ on l is. (tallies.drops on l is).1;
      streamed = λ unlabelled. turn_streamed s a b size now x runs false FIRST_CID steady.order.ring (begun.streamed unlabelled);
      shaken = λ unlabelled unaccepted. turn_streamed s a b size now x runs true FIRST_CID steady.order.ring (begun.shaken unlabelled unaccepted);
      failed = tallies.failed;
    }

-- THE END
all_kept : (first : ℕ) (log : Log) → has_no_mark log ≡ true → ((f : Flow) → AreKept Device first f log) → All (IsKept first) (packets_got log)
all_kept first [] marks kept = All-nil (IsKept first)
all_kept first (GotPacket p ∷ log) marks kept =
    All-cons (IsKept first) p (packets_got log)
    (subst (λ (c : ℕ). is_dropped Device c p.header ≡ false) (first_cid first log marks) ((kept (flow_got Device p)).0 (same_self (flow_got Device p))))
    (all_kept first log marks (λ f. (kept f).1))
all_kept first (Mark cid ∷ log) marks kept = absurd cc
all_kept first (_ ∷ log) marks kept = all_kept first log marks kept

pub dropped_none : (d : DriverState) (driver : Sight) (p : ProxyState) (device : DeviceSight) → IsSettled d driver p device
    → DropsNone p (device_contents device) → p.device.dropped ≡ 0
dropped_none d driver p device settled drops =
    drops refl (device_log device) refl
    (all_kept FIRST_CID device.sight.log (settled.at_rest.no_reset Device)
    (λ f. device_kept FIRST_CID f driver.log device.sight.log (settled.at_rest.no_reset Driver) (settled.at_rest.no_reset Device) settled.at_rest.routed
    (settled.at_rest.got Device)))
