use Rattle.std.proofs.Common.{◌≡◌, Err, Result, sym, subst, arith}
use Rattle.vs_peer.{specs.{Conversing.Converses, declared.stop.Stop.Stop}, proofs.Conversations.{exchange_ends, open_fails, port_fails}}
use Rattle.vs_peer.proofs.converse.converse.Goals as goal

pub returns-in_err-opened-clause-converses : goal.returns-in_err-opened-clause-converses
returns-in_err-opened-clause-converses g c =
    let e = c.in_err-opened.field-0.0 in
    let is : c.from_residual.result ≡ Err e = grind (arith, c.from_residual.ensures) in
    let host = g.H.HostNet.contents c.args.host.now in
    let after = g.H.HostNet.contents c.open.new.host in
    let out = g.K.Sink.contents c.args.out.now in
    let P : Result (Unit {0}) Stop → Type 0 = λ r. Converses c.args.base.now c.args.port c.args.bytes.now host after out out r in
    subst P (sym is) (open_fails c.args.base.now c.args.port c.args.bytes.now host after out e c.in_err-opened.ensures.opens)

pub returns-in_err-give_port-clause-converses : goal.returns-in_err-give_port-clause-converses
returns-in_err-give_port-clause-converses g c =
    let e = c.in_err-give_port.field-0.0 in
    let is : c.from_residual-in_err-give_port.result ≡ Err e = grind (arith, c.from_residual-in_err-give_port.ensures) in
    let host = g.H.HostNet.contents c.args.host.now in
    let after = g.H.HostNet.contents c.open.new.host in
    let out = g.K.Sink.contents c.args.out.now in
    let out' = g.K.Sink.contents c.give_port.new.out in
    let P : Result (Unit {0}) Stop → Type 0 = λ r. Converses c.args.base.now c.args.port c.args.bytes.now host after out out' r in
    subst P (sym is) (port_fails c.args.base.now c.args.port c.in_ok-opened.opened.id c.in_ok-opened.opened.host_port c.args.bytes.now
    host after out out' e
    c.in_ok-opened.ensures.opens c.in_err-give_port.ensures.gives)

pub returns-clause-converses : goal.returns-clause-converses
returns-clause-converses g c =
    let host = g.H.HostNet.contents c.args.host.now in
    let mid = g.H.HostNet.contents c.open.new.host in
    let after = g.H.HostNet.contents c.exchange.new.host in
    let out = g.K.Sink.contents c.args.out.now in
    let out' = g.K.Sink.contents c.give_port.new.out in
    let out'' = g.K.Sink.contents c.exchange.new.out in
    exchange_ends c.args.base.now c.args.port c.in_ok-opened.opened.id c.in_ok-opened.opened.host_port c.args.bytes.now host mid after
    out out' out''
    c.in_ok-opened.ensures.opens c.in_ok-give_port.ensures.gives c.exchange.result c.exchange.ensures.exchanges
