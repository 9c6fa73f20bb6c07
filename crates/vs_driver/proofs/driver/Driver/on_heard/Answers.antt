use Rattle.std.proofs.Common.{◌≡◌, ℕ, Some, None, sym, ap, ◌∙◌}
use Rattle.vs_flow.specs.{Table.{entry_under, Table, entry_of}, Flow.same_flow, declared.flow.Flow.Flow}
use Rattle.vs_driver_parts.{specs.State.{DriverConnection, DriverEntry, DriverState}, proofs.{Known.{mapped, unmapped}, Ids.found_under, Packets.{packet_known, packet_unknown}}}
use Rattle.laws_history.specs.declared.packet.Packet.{Packet}
use Rattle.vs_page.specs.Log.{flow_to_guest}
use Rattle.vs_driver.proofs.driver.Driver.on_heard.Goals as goal

pub returns-in-Some-clause-state : goal.returns-in-Some-clause-state
returns-in-Some-clause-state c =
    let p : Packet = record { header = c.args.header.now; payload = c.args.payload.now } in
    let t = c.self.inside.slots.table in
    let m = mapped (λ (e : DriverEntry). e.slot) (entry_of t c.args.flow) c.in-Some.slot c.in-Some.ensures.slot in
    let at : entry_under t m.from.slot ≡ Some m.from = found_under (λ (e : DriverEntry). same_flow c.args.flow e.flow) t m.from c.in-Some.ensures.sound m.some in
    let same : t ≡ c.args.self.now.table = ap (λ (s : DriverState). s.table) c.self.view_is in
    let under : entry_under c.args.self.now.table c.in-Some.slot ≡ Some m.from = ap (λ (x : Table DriverConnection). entry_under x c.in-Some.slot) (sym same) ∙ (ap (λ (n : ℕ). entry_under t n) (sym m.gives) ∙ at) in
    let known : entry_of c.args.self.now.table (flow_to_guest c.args.header.now) ≡ Some m.from =
    ap (λ (x : Table DriverConnection). entry_of x (flow_to_guest c.args.header.now)) (sym same) ∙ (ap (λ (f : Flow). entry_of t f) (sym c.requires.flow) ∙ m.some) in
    c.on_known.ensures.state m.from under ∙ sym (packet_known p c.args.self.now m.from known)

pub returns-in-None-clause-state : goal.returns-in-None-clause-state
returns-in-None-clause-state c =
    let p : Packet = record { header = c.args.header.now; payload = c.args.payload.now } in
    let t = c.self.inside.slots.table in
    let none = unmapped (λ (e : DriverEntry). e.slot) (entry_of t c.args.flow) c.in-None.ensures.slot in
    let same : t ≡ c.args.self.now.table = ap (λ (s : DriverState). s.table) c.self.view_is in
    let unknown : entry_of c.args.self.now.table (flow_to_guest c.args.header.now) ≡ None =
    ap (λ (x : Table DriverConnection). entry_of x (flow_to_guest c.args.header.now)) (sym same) ∙ (ap (λ (f : Flow). entry_of t f) (sym c.requires.flow) ∙ none) in
    c.on_unknown.ensures.state c.args.payload.now ∙ sym (packet_unknown p c.args.self.now unknown)
