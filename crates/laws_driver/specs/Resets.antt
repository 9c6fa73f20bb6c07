-- The driver's transport resets (Virtio 1.2, section 5.10.6.7).
use Rattle.std.specs.Prelude.{◌≡◌, ℕ, List, [], ◌∷◌, Some}
use Rattle.vs_page.specs.{Log.Log, declared.log.LogEntry.TheVariants.GotEvent, declared.log.LogEntry.TheVariants.Mark}
use Rattle.vs_ring_port.specs.{Contents.RingContents, DriverCalls.DriverAnswer, DriverCalls.DriverCall, DriverCalls.Reap}
use Rattle.vs_driver_parts.specs.Playing.{RingAllows}

-- Each event of the id 0 that was got has its Mark right behind it, and there is no other Mark: so there are as many Marks as ids 0 got, in
-- their order.
abbrev pub MarksResets : Log → Type 0
MarksResets [] = Unit {0}
MarksResets (Mark cid ∷ GotEvent id ∷ log) = (id ≡ 0) × MarksResets log
MarksResets (Mark cid ∷ log) = ⊥
MarksResets (GotEvent id ∷ log) = (id ≡ 0 → ⊥) × MarksResets log
MarksResets (entry ∷ log) = MarksResets log

-- What a ring may answer, where a page that comes back is this one.
abbrev pub RingBrings : List ℕ → (call : DriverCall) → DriverAnswer call → RingContents → RingContents → Type 0
RingBrings page (Reap queue) a old new = (a ≡ Some page) × RingAllows (Reap queue) a old new
RingBrings page call a old new = RingAllows call a old new
