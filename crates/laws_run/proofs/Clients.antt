-- Clients without a label at rest: what is read of each that was accepted is one of the lines; and the oldest of all was accepted.
use Rattle.std.proofs.lemmas.Grind.{common_steps}
use Rattle.std.proofs.Common.{◌≡◌, ◌<◌, ◌+◌, ◌-◌, ◌==◌, ◌&&◌, not, ℕ, zero, suc, Bool, true, false, cond, List, [], ◌∷◌, length, get_or, slice_get, Option, Some, None, refl, sym, ap, subst, ◌∙◌, arith}
use Rattle.std.proofs.lemmas.{Bool.Decides.nat_tests, List.{Folds.find_at, Sums.fails_before_first}, Option.{get_or_from_slice_get}}
use Rattle.std.specs.{List.{All, find, position_or_len}, Option.{ForSome, is_none, option_map}}
use Rattle.vs_flow.specs.{Table.Table, declared.flow.Flow.Flow}
use Rattle.vs_limits.specs.declared.TheConstants.{FIRST_CID, HANDSHAKES}
use Rattle.vs_outside.specs.{Host.{HostContents, Stream, is_waiting, stream_at}, HostProgram.{is_closed}}
use Rattle.vs_flow.proofs.Entries.{found_passes}
use Rattle.vs_page.specs.Log.{Log}
use Rattle.vs_device_parts.specs.State.{DeviceConnection}
use Rattle.vs_proxy_parts.specs.State.{Handshake, ProxyState}
use Rattle.laws_device.specs.Carried.Streamed.{IsShaking, IsStreamed, Ports, Seen, lasting, look, ports_of, reading, seen}
use Rattle.laws_device.proofs.Carried.Hosts.{none_labelled, there}
use Rattle.vs_ring_shared.specs.Sights.{DeviceSight, Sight, device_contents}
use Rattle.vs_driver_parts.specs.State.{DriverState}
use Rattle.vs_device_parts.specs.Playing.{situation}
use Rattle.laws_proxy.specs.Honest.{IsProxyStreamedSince}
use Rattle.laws_settled.specs.Settled.{IsSettled}
use Rattle.laws_run.proofs.Wrote.{streamed_since}
use Rattle.laws_run.specs.Dry.{AreClientsDry, AreLinesIdle, IsDry, IsTaken, is_free}

-- What each test says.
record IsFree (s : Stream) : Type 0 where
  client : s.by_client ≡ true
  label : s.label ≡ None
  still : is_closed s ≡ false

free_by : (client : Bool) (label : Option Flow) (closed : Bool) → (client && (is_none label && not closed)) ≡ true → (client ≡ true) × (label ≡ None) × (closed ≡ false)
free_by client label closed is = grind (arith, common_steps)

free_of : (s : Stream) → is_free s ≡ true → IsFree s
free_of s is = let y = free_by s.by_client s.label (is_closed s) is in record { client = y.0; label = y.1; still = y.2 }

is_free_of : (s : Stream) → IsFree s → is_free s ≡ true
is_free_of s x = grind (arith, common_steps)

module _ (h : HostContents) (log : Log) (port : Ports) (t : Table DeviceConnection) (hands : List Handshake) (on : IsStreamed h log port t hands)
    (fresh : port.fresh ≡ true) where
  -- The stream at a place, and a stream of one of the lines.
  placed : (i : ℕ) (s : Stream) → slice_get h.streams i ≡ Some s → stream_at (i + 1) h ≡ Some s
  placed i s at = grind (arith, common_steps)

  looked : (i : ℕ) (s : Stream) → slice_get h.streams i ≡ Some s → look h (i + 1) ≡ Some (seen h (i + 1) s)
  looked i s at = ap (option_map (seen h (i + 1))) (placed i s at)

  shaking : (i : ℕ) (s : Stream) → IsFree s → is_waiting s ≡ false → IsShaking (seen h (i + 1) s)
  shaking i s free taken = grind (arith, common_steps)

  module _ (read : All (λ (k : Handshake). (g : HostContents) → ◌≡◌ {A = Option HostContents} (Some h) (Some g) → ForSome (stream_at k.stream g) IsDry) hands) where
    dry_at : (i : ℕ) (s : Stream) → slice_get h.streams i ≡ Some s → IsFree s → is_waiting s ≡ false → IsDry s
    dry_at i s at free taken =
        let hand = (on.shaken fresh).hand (i + 1) (seen h (i + 1) s) (looked i s at) (shaking i s free taken) in
        let place = hand.1.0 in
        let get : get_or hands place hand.0 ≡ hand.0 = hand.1.2 in
        let its = read place hand.0 hand.1.1 h refl in
        its s (ap (λ (k : Handshake). stream_at k.stream h) get ∙ ap (λ (id : ℕ). stream_at id h) hand.2 ∙ placed i s at)

    pub accepted_dry : All (λ (s : Stream). is_free s ≡ true → is_waiting s ≡ false → IsDry s) h.streams
    accepted_dry i d within free taken = dry_at i (get_or h.streams i d) (get_there h.streams i d within) (free_of (get_or h.streams i d) free) taken
      where
        get_there : (xs : List Stream) (i : ℕ) (d : Stream) → i < length xs → slice_get xs i ≡ Some (get_or xs i d)
        get_there [] i d less = absurd (omega (arith, less))
        get_there (x ∷ xs) zero d less = refl
        get_there (x ∷ xs) (suc i) d less = get_there xs i d (omega (arith, less))

    module _ (none_waits : length hands < HANDSHAKES → (id : ℕ) → ForSome (stream_at id h) IsTaken) where
      oldest_by : (hs : List Handshake) → hands ≡ hs → (i : ℕ) (s : Stream) → slice_get h.streams i ≡ Some s → is_waiting s ≡ true
          → ((k : ℕ) (d : Stream) → k < i → is_free (get_or h.streams k d) ≡ false) → ⊥
      oldest_by [] none i s at waiting first =
          let room : length hands < HANDSHAKES = subst (λ (hs : List Handshake). length hs < HANDSHAKES) (sym none) (omega arith) in
          let both : true ≡ false = sym waiting ∙ none_waits room (i + 1) s (placed i s at) in absurd cc
      oldest_by (k ∷ ks) some i s at waiting first =
          let seen_now : look h k.stream ≡ Some (reading k.line) =
          subst (λ (hs : List Handshake). All (λ (g : Handshake). look h g.stream ≡ Some (reading g.line)) hs) some on.streams.lines.read 0 k (omega arith) in
          let st = there k.stream h (reading k.line) seen_now in
          let less = (on.shaken fresh).older k.stream (i + 1) (reading k.line) (seen h (i + 1) s) seen_now
          (record { client = refl; accepted = refl; free = refl; still = refl }) (looked i s at) waiting in
          by st.stream (record {
            client = ap (λ (y : Seen). y.by_client) st.is;
            label = none_labelled h k.stream st.stream.label (ap (λ (y : Seen). y.label) st.is);
            still = ap (λ (y : Seen). y.closed) st.is;
          }) (k.stream == 0) refl st.at less
        where
          by : (st : Stream) → IsFree st → (b : Bool) → (k.stream == 0) ≡ b → cond b None (slice_get h.streams (k.stream - 1)) ≡ Some st → k.stream < i + 1 → ⊥
          by st free true zero_is there_is less = absurd cc
          by st free false not_zero there_is less =
              let below : k.stream - 1 < i = grind (arith, nat_tests, not_zero, less) in
              let both : true ≡ false = sym (is_free_of st free) ∙ ap is_free (sym (get_or_from_slice_get h.streams (k.stream - 1) st st there_is))
              ∙ first (k.stream - 1) st below in absurd cc

      pub oldest_dry : ForSome (find is_free h.streams) IsDry
      oldest_dry s found =
          let at : slice_get h.streams (position_or_len is_free h.streams) ≡ Some s = sym (find_at is_free h.streams) ∙ found in
          let free : is_free s ≡ true = found_passes is_free h.streams s found in
          by (position_or_len is_free h.streams) at (free_of s free) (λ k d less. fails_before_first is_free h.streams k d less) (is_waiting s) refl
        where
          by : (i : ℕ) → slice_get h.streams i ≡ Some s → IsFree s → ((k : ℕ) (d : Stream) → k < i → is_free (get_or h.streams k d) ≡ false) → (b : Bool)
              → is_waiting s ≡ b → IsDry s
          by i at free first true waiting = absurd (oldest_by hands refl i s at waiting first)
          by i at free first false taken = dry_at i s at free taken

-- With its proxy.
proxy_dry : (h : HostContents) (log : Log) (port : Ports) (p : ProxyState) → IsStreamed h log port p.device.table p.handshakes → port.fresh ≡ true
    → AreLinesIdle p (Some h) → AreClientsDry p.device.faults h
proxy_dry h log port p on fresh idle = record {
  accepted = accepted_dry h log port p.device.table p.handshakes on fresh idle.read;
  oldest = λ faults. oldest_dry h log port p.device.table p.handshakes on fresh idle.read (λ room id. idle.waits room faults id h refl);
}

-- At rest.
pub clients_dry : (driver : DriverState) (end : Sight) (p : ProxyState) (e : DeviceSight) (h : HostContents) (faults : ℕ) → IsSettled driver end p e
    → IsProxyStreamedSince true FIRST_CID p (situation (device_contents e) (Some h) faults) → AreLinesIdle p (Some h) → AreClientsDry p.device.faults h
clients_dry driver end p e h faults settled streams idle =
    proxy_dry h e.sight.log (ports_of (lasting true) p.next_port p.device) p (streamed_since driver end p e settled true h faults streams) refl idle
