use Rattle.std.proofs.Common.{◌≡◌, Ok, Err, Result, sym, subst, ◌∙◌, arith, ℕ, List}
use Rattle.vs_uds.specs.ConnectLine.{connect_text}
use Rattle.vs_peer.specs.{Client.Opens, Asking.Asks, declared.converse.Opened.Opened, declared.stop.Stop.Stop}
use Rattle.vs_peer.proofs.Opening.{answer_fails, answered, ask_fails, asked_whole, dial_fails}
use Rattle.vs_peer.proofs.converse.open.Goals as goal

pub returns-in_err-id-clause-opens : goal.returns-in_err-id-clause-opens
returns-in_err-id-clause-opens g c =
    let e = c.in_err-id.field-0.0 in
    let is : c.from_residual.result ≡ Err e = grind (arith, c.from_residual.ensures) in
    let host = g.H.HostNet.contents c.args.host.now in
    let after = g.H.HostNet.contents c.dial.new.host in
    let P : Result Opened Stop → Type 0 = λ r. Opens c.args.base.now c.args.port host after r in
    subst P (sym is) (dial_fails c.args.base.now c.args.port host after e c.in_err-id.ensures.dials)

pub returns-in_err-ask-clause-opens : goal.returns-in_err-ask-clause-opens
returns-in_err-ask-clause-opens g c =
    let e = c.in_err-ask.field-0.0 in
    let is : c.from_residual-in_err-ask.result ≡ Err e = grind (arith, c.from_residual-in_err-ask.ensures) in
    let host = g.H.HostNet.contents c.args.host.now in
    let mid = g.H.HostNet.contents c.dial.new.host in
    let after = g.H.HostNet.contents c.ask.new.host in
    let text : c.as_bytes.result.now ≡ connect_text c.args.port = c.as_bytes.ensures ∙ c.connect_line.ensures.bytes in
    let Q : List ℕ → Type 0 = λ line. Asks c.in_ok-id.id line mid after (Err e) in
    let P : Result Opened Stop → Type 0 = λ r. Opens c.args.base.now c.args.port host after r in
    subst P (sym is) (ask_fails c.args.base.now c.args.port host c.in_ok-id.id mid after c.in_ok-id.ensures.dials e
    (subst Q text c.in_err-ask.ensures.asks))

pub returns-in_err-host_port-clause-opens : goal.returns-in_err-host_port-clause-opens
returns-in_err-host_port-clause-opens g c =
    let e = c.in_err-host_port.field-0.0 in
    let is : c.from_residual-in_err-host_port.result ≡ Err e = grind (arith, c.from_residual-in_err-host_port.ensures) in
    let host = g.H.HostNet.contents c.args.host.now in
    let dialed = g.H.HostNet.contents c.dial.new.host in
    let mid = g.H.HostNet.contents c.ask.new.host in
    let after = g.H.HostNet.contents c.answer.new.host in
    let text : c.as_bytes.result.now ≡ connect_text c.args.port = c.as_bytes.ensures ∙ c.connect_line.ensures.bytes in
    let Q : List ℕ → Type 0 = λ line. Asks c.in_ok-id.id line dialed mid (Ok tt) in
    let P : Result Opened Stop → Type 0 = λ r. Opens c.args.base.now c.args.port host after r in
    let whole = asked_whole c.args.base.now c.args.port host c.in_ok-id.id dialed mid c.in_ok-id.ensures.dials
    (subst Q text c.in_ok-ask.ensures.asks) in
    subst P (sym is) (answer_fails c.args.base.now c.args.port host c.in_ok-id.id mid after whole e c.in_err-host_port.ensures.answers)

pub returns-clause-opens : goal.returns-clause-opens
returns-clause-opens g c =
    let host = g.H.HostNet.contents c.args.host.now in
    let dialed = g.H.HostNet.contents c.dial.new.host in
    let mid = g.H.HostNet.contents c.ask.new.host in
    let after = g.H.HostNet.contents c.answer.new.host in
    let text : c.as_bytes.result.now ≡ connect_text c.args.port = c.as_bytes.ensures ∙ c.connect_line.ensures.bytes in
    let Q : List ℕ → Type 0 = λ line. Asks c.in_ok-id.id line dialed mid (Ok tt) in
    let whole = asked_whole c.args.base.now c.args.port host c.in_ok-id.id dialed mid c.in_ok-id.ensures.dials
    (subst Q text c.in_ok-ask.ensures.asks) in
    answered c.args.base.now c.args.port host c.in_ok-id.id mid after whole c.in_ok-host_port.host_port c.in_ok-host_port.ensures.answers
