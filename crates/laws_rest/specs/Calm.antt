-- A turn in which no transport reset was made and no event is owed.
use Rattle.std.specs.{Prelude.◌≡◌, Prelude.ℕ, Prelude.Bool, Prelude.false, Prelude.List, Prelude.Option, Option.IfSome, Option.option_map}
use Rattle.vs_page.specs.Log.{events_put}
use Rattle.vs_ring_port.specs.{EndLog.EndLog, declared.queue.Queue.TheVariants.Rx}
use Rattle.vs_device_parts.specs.State.{DeviceState}
use Rattle.laws_rest.specs.Rest.{has_no_mark}

-- What a log tells of transport resets: whether none stands in it, and the events that were put.
abbrev pub resets_in : Option EndLog → Option (Bool × List ℕ)
resets_in log = option_map (λ l. (has_no_mark l.entries, events_put l.entries)) log

-- No event is owed, and the chain that is held is one of rx.
abbrev pub OwesNoEvent : DeviceState → Type 0
OwesNoEvent s = (s.event_owed ≡ false) × IfSome s.chain (λ chain. chain.queue ≡ Rx)
