use Rattle.std.proofs.Common.{◌≡◌, ℕ, true, false, List, subst, rules}
use Rattle.vs_flow.specs.{Table.has_place, Flow.is_assigned, declared.flow.Flow.Flow}
use Rattle.vs_header.specs.declared.Header.{Header}
use Rattle.vs_uds.specs.Path.{path_of}
use Rattle.vs_device_parts.specs.{Calls.Allows, Calls.Dial, State.DeviceState, Playing.situation}
use Rattle.vs_device.proofs.Takings.{dialed}
use Rattle.vs_device.proofs.device.Device.try_request.Goals as goal

pub returns-clause-calls : goal.returns-clause-calls
returns-clause-calls g c = λ ring.
    let s : DeviceState = c.args.self.now in
    let h : Header = c.args.header.now in
    let mine : is_assigned h.dst_port ≡ false = search rules in
    let free : has_place s.table ≡ true = rw (← c.self.view_is) (search rules) in
    let x = situation ring (g.H.HostNet.contents c.args.host.now) (g.H.HostNet.faults c.args.host.now) in
    let y = situation ring (g.H.HostNet.contents c.dial-answer.new.host) (g.H.HostNet.faults c.dial-answer.new.host) in
    let path : c.as_str-2.result.now ≡ path_of s.base h.dst_port = rw (← c.self.view_is) (search rules) in
    let P : List ℕ → Type 0 = λ b. Allows (Dial b c.args.flow) c.dial-answer.result x y in
    let Q : Flow → Type 0 = λ f. Allows (Dial (path_of s.base h.dst_port) f) c.dial-answer.result x y in
    dialed h s c.dial-answer.result (c.dial_answered.new.self, c.dial_answered.result) x y mine free (subst Q c.requires.flow (subst P path (c.dial-answer.ensures ring))) c.dial_answered.ensures.answered
