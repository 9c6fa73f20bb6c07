use Rattle.std.proofs.Common.{◌≡◌, ◌&&◌, Some, true, false, refl, rules}
use Rattle.vs_conn.specs.End.{is_reset}
use Rattle.vs_flow.specs.{Flow.host_asks, Table.value_under}
use Rattle.vs_device_parts.{specs.{State.DeviceEntry, Transmitting.{heard, keeps_flow}}, proofs.Under.{value_of, with_its}}
use Rattle.vs_device.proofs.{Leaving.{kept_as_is, leaving_twice}, Verdicts.{heard_in, kept_as, over}}
use Rattle.vs_device.proofs.device.Device.after_message.Goals as goal

pub returns-then-is_reset-clause-calls : goal.returns-then-is_reset-clause-calls
returns-then-is_reset-clause-calls g c = λ s e is was chain ring.
    let v = heard c.args.header.now e.value in
    let k = heard_in s _ c.args.slot e v is was in
    let reset : is_reset c.args.header.now ≡ true = search rules in
    let h = c.args.header.now in
    let x : DeviceEntry = with_its e v in
    let there : value_under c.args.self.now.table c.args.slot ≡ Some v = value_of c.args.self.now.table c.args.slot x k.there in
    let keep : (c.ends_cleanly-cleanly.result && host_asks e.flow) ≡ keeps_flow h e =
    kept_as h e _ c.ends_cleanly-cleanly.result (c.ends_cleanly-cleanly.ensures v (rw (← c.self.view_is) at there)) in
    over chain h e s _ _ _ reset
    (kept_as_is (c.ends_cleanly-cleanly.result && host_asks e.flow) (keeps_flow h e) x s _ _ _ keep
    (leaving_twice (c.ends_cleanly-cleanly.result && host_asks e.flow) x v s c.args.self.now _ _ _ k.here
    (c.leave.ensures.calls x k.there v refl refl ring)))

pub returns-else-is_reset-clause-calls : goal.returns-else-is_reset-clause-calls
returns-else-is_reset-clause-calls g c = λ s e is was chain ring.
    let k = heard_in s _ c.args.slot e (heard c.args.header.now e.value) is was in
    let reset : is_reset c.args.header.now ≡ false = search rules in
    search (rules, reset, k.here)
