-- The events that the calls made put.
use Rattle.std.specs.Prelude.{◌≡◌, ℕ, ◌+◌, ◌==◌, if◌then◌else◌, List, [], ◌∷◌}
use Rattle.vs_ring_port.specs.Contents.{Return}
use Rattle.vs_device_parts.specs.Calls.{Call, Ring}
use Rattle.vs_proxy_parts.specs.declared.answers.Turn.{Turn}
use Rattle.laws_proxy.specs.Account.Made.{Made}
use Rattle.vs_proxy_parts.specs.declared.answers.Turn.TheVariants as turn

-- An event is a chain that is returned with its four bytes. A chain of rx is returned with 44 bytes or more, and one of tx with none.
abbrev pub event_put : Call → ℕ → ℕ
event_put (Ring (Return chain len)) n = if len == 4 then n + 1 else n
event_put call n = n

abbrev pub events_put : List Made → ℕ
events_put [] = 0
events_put (m ∷ calls) = event_put m.call (events_put calls)

-- A turn that tells of an event put one; a turn that tells of none put none.
abbrev pub TellsEvent : Turn → List Made → List Made → Type 0
TellsEvent (turn.Turned t) calls later = events_put later ≡ (if t.event then events_put calls + 1 else events_put calls)
TellsEvent (turn.Failed f) calls later = Unit {0}
