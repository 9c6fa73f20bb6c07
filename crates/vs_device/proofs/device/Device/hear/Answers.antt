use Rattle.std.proofs.Common.{Contains, List, sym, subst}
use Rattle.vs_ring_port.specs.declared.device_ring.Chain.{Chain}
use Rattle.vs_device.proofs.Takings.{may_header, may_packet, read_header, too_short, took_packet}
use Rattle.vs_device.proofs.device.Device.hear.Goals as goal

pub returns-then-is_short-clause-calls : goal.returns-then-is_short-clause-calls
returns-then-is_short-clause-calls g c =
    let read = c.read_header-header.ensures.calls.1 (g.H.HostNet.contents c.args.host.now) (g.H.HostNet.faults c.args.host.now) in
    read_header c.args.chain.now c.args.self.now _ _ c.read_header-header.ensures.calls.2 _ _ read _ _
    (too_short c.args.chain.now c.read_header-header.result c.args.self.now _ _ (sym c.if-is_short.ensures) c.fail.ensures)

pub on_packet-requires-clause-is_held : goal.on_packet-requires-clause-is_held
on_packet-requires-clause-is_held g c =
    let P : List Chain → Type 0 = λ cs. Contains cs c.args.chain.now in subst P (sym c.read_header-header.ensures.held) c.requires.is_held

pub on_packet-requires-clause-may : goal.on_packet-requires-clause-may
on_packet-requires-clause-may g c =
    let read = c.read_header-header.ensures.calls.1 (g.H.HostNet.contents c.args.host.now) (g.H.HostNet.faults c.args.host.now) in
    may_packet c.args.chain.now c.read_header-header.result c.args.self.now _ (sym c.if-is_short.ensures)
    (may_header c.args.chain.now c.args.self.now _ _ c.read_header-header.ensures.calls.2 _ _ read c.requires.may)

pub returns-clause-calls : goal.returns-clause-calls
returns-clause-calls g c =
    let read = c.read_header-header.ensures.calls.1 (g.H.HostNet.contents c.args.host.now) (g.H.HostNet.faults c.args.host.now) in
    read_header c.args.chain.now c.args.self.now _ _ c.read_header-header.ensures.calls.2 _ _ read _ _
    (took_packet c.args.chain.now c.read_header-header.result c.args.self.now _ _ _ _ (sym c.if-is_short.ensures) c.on_packet.ensures.calls)
