-- What opening a connection and a transport reset come to.
use Rattle.std.proofs.Common.{◌≡◌, ℕ, Option, Some, None, Result, Ok, Err, refl, sym, ap, ◌∙◌}
use Rattle.vs_contents.{specs.CallTree.{Done, Ask, bind, for_each}, proofs.{Leads.{leads_of, leads_bind}, Conditions.{may_first, may_of}}}
use Rattle.vs_flow.specs.{Table.{entry_under, refusal, slots}, declared.{flow.Flow.Flow, table.TableFault.TableFault}}
use Rattle.vs_ring_port.specs.{declared.failure.Failure.Failure, Contents.PublishCid}
use Rattle.vs_device_parts.specs.{Calls.{Situation, DeviceTree, Allows, Ring, Label}, Connections.{stream_closed, with_client}, Playing.{CanMake, MayRun, Runs}, State.DeviceEntry}
use Rattle.vs_device_parts.specs.{State.DeviceState, Streams.closing, Turns.{after_reset, close_slot, open_of, reset_of}}

-- a slot whose stream is closed
module _ (slot : ℕ) (s : DeviceState) where
  pub closes : (e : DeviceEntry) (t : DeviceState) (x y : Situation) → entry_under s.table slot ≡ Some e → Runs (closing e stream_closed s) x t y → Runs (close_slot slot s) x t y
  closes e t x y found runs = let same : close_slot slot s ≡ closing e stream_closed s = rw (found, close_slot) refl in leads_of Allows _ _ x y t same runs

-- a client's connection
module _ (flow : Flow) (stream : ℕ) (s : DeviceState) (accepted : refusal s.table flow ≡ None) where
  labels : open_of flow stream s ≡ Ask (Label stream flow) (λ _. Done (with_client flow stream s, Ok s.table.given))
  labels = rw (accepted, open_of) refl

  pub opened : (t : DeviceState) (slot : ℕ) (x y : Situation) → Allows (Label stream flow) tt x y → t ≡ with_client flow stream s → slot ≡ s.table.given
      → Runs (open_of flow stream s) x (t, Ok slot) y
  opened t slot x y allowed end at =
      let first = ap (λ (u : DeviceState). let r : DeviceState × Result ℕ TableFault = (u, Ok s.table.given) in r) (sym end) in
      let last = ap (λ (n : ℕ). let r : DeviceState × Result ℕ TableFault = (t, Ok n) in r) (sym at) in
      leads_of Allows _ _ x y (t, Ok slot) labels (tt, y, allowed, (first ∙ last, refl))

-- a reset of a ring that didn't fail
module _ (cid : ℕ) (s : DeviceState) (sound : s.failed ≡ None) where
  publishes : DeviceState → DeviceTree (DeviceState × Result (Unit {0}) Failure)
  publishes t = Ask (Ring (PublishCid cid)) (λ _. Done (after_reset cid t, Ok tt))

  unless_failed : Option Failure → DeviceTree (DeviceState × Result (Unit {0}) Failure)
  unless_failed (Some f) = Done (s, Err f)
  unless_failed None = bind (for_each close_slot (slots s.table) s) publishes

  as_cases : (o : Option Failure) → elim o [ Some f ↦ Done (s, Err f) | None ↦ bind (for_each close_slot (slots s.table) s) (λ t. Ask (Ring (PublishCid cid)) (λ _. Done (after_reset cid t, Ok tt))) ] ≡ unless_failed o
  unfolding publishes unless_failed
  as_cases (Some f) = refl
  as_cases None = refl

  resets : reset_of cid s ≡ bind (for_each close_slot (slots s.table) s) publishes
  unfolding publishes unless_failed
  resets = as_cases s.failed ∙ ap unless_failed sound

  pub may_close_all : (x : Situation) → MayRun (reset_of cid s) x → MayRun (for_each close_slot (slots s.table) s) x
  may_close_all x may = may_first CanMake Allows (for_each close_slot (slots s.table) s) publishes x (may_of CanMake Allows _ _ x resets may)

  pub was_reset : (t u : DeviceState) (x y z : Situation) → Runs (for_each close_slot (slots s.table) s) x t y → Allows (Ring (PublishCid cid)) tt y z
      → u ≡ after_reset cid t → Runs (reset_of cid s) x (u, Ok tt) z
  unfolding publishes
  was_reset t u x y z first allowed end =
      let last = ap (λ (v : DeviceState). let r : DeviceState × Result (Unit {0}) Failure = (v, Ok tt) in r) (sym end) in
      leads_of Allows _ _ x z (u, Ok tt) resets (leads_bind Allows (for_each close_slot (slots s.table) s) publishes x y z t (u, Ok tt) first (tt, z, allowed, (last, refl)))
