-- A transport reset leaves nothing, whatever ring and host answer.
use Rattle.std.proofs.Common.{◌≡◌, ℕ, [], Option, Some, None, Result, Ok, Err, refl}
use Rattle.vs_contents.{specs.CallTree.{Done, Ask, bind, for_each}, proofs.Leads.{AllEnds, ends_bind}}
use Rattle.vs_flow.specs.Table.{slots}
use Rattle.vs_ring_port.specs.{Contents.PublishCid, declared.failure.Failure.Failure}
use Rattle.vs_device_parts.specs.{Calls.{DeviceTree, Ring}, State.DeviceState, Turns.{after_reset, close_slot}}
use Rattle.vs_proxy_parts.specs.{Handshakes.streams_of, State.{ProxyState, with_device}, Turns.{close_handshake, proxy_reset_of, reset_with}}
use Rattle.laws_proxy.specs.Resets.{IsEmptied}

all_ends : {A : Type 0} (P : A → Type 0) → ((x : A) → P x) → (tree : DeviceTree A) → AllEnds P tree
all_ends P all (Done x) = all x
all_ends P all (Ask call k) = λ a. all_ends P all (k a)

abbrev pub Emptied : ProxyState × Result (Unit {0}) Failure → Type 0
Emptied r = IsEmptied r.0

module _ (cid : ℕ) (s : ProxyState) where
  abbrev closed : DeviceState → DeviceTree (DeviceState × Result (Unit {0}) Failure)
  closed t = Ask (Ring (PublishCid cid)) (λ _. Done (after_reset cid t, Ok tt))

  hands_closed : (d : DeviceState) → AllEnds Emptied (reset_with (after_reset cid d, Ok tt) s)
  hands_closed d =
      ends_bind Emptied (for_each close_handshake (streams_of s) s)
      (λ t. Done (record (with_device (after_reset cid d) t) { handshakes = [] }, Ok tt))
      (all_ends (λ t. IsEmptied (record (with_device (after_reset cid d) t) { handshakes = [] }))
      (λ t. record { table = refl; replies = refl; handshakes = refl }) (for_each close_handshake (streams_of s) s))

  by_failure : (o : Option Failure) → o ≡ None → AllEnds Emptied
      (bind (elim o as (λ _. DeviceTree (DeviceState × Result (Unit {0}) Failure)) [
        | Some f ↦ Done (s.device, Err f)
        | None ↦ bind (for_each close_slot (slots s.device.table) s.device) closed
      ]) (λ r. reset_with r s))
  by_failure (Some f) is = absurd cc
  by_failure None is =
      let slots_closed = for_each close_slot (slots s.device.table) s.device in
      ends_bind Emptied (bind slots_closed closed) (λ r. reset_with r s)
      (ends_bind (λ r. AllEnds Emptied (reset_with r s)) slots_closed closed
      (all_ends (λ t. (a : Unit {0}) → AllEnds Emptied (reset_with (after_reset cid t, Ok tt) s)) (λ t a. hands_closed t) slots_closed))

  pub reset_empties : s.device.failed ≡ None → AllEnds Emptied (proxy_reset_of cid s)
  reset_empties fine = by_failure s.device.failed fine
