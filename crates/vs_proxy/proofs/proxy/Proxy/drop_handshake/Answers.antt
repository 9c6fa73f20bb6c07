use Rattle.std.proofs.Common.{◌+◌, List, ap}
use Rattle.vs_proxy_parts.specs.{State.Handshake, State.Turning, Turning.turning_of}
use Rattle.vs_proxy.{specs.contracts.proxy.Proxy.the_view, proofs.Handshaking.drops}
use Rattle.vs_proxy.proofs.proxy.Proxy.drop_handshake.Goals as goal

pub returns-clause-calls : goal.returns-clause-calls
returns-clause-calls g c = λ ring.
    let t : Turning = turning_of (the_view c.self.inside) c.args.tally.now in
    rw (← c.self.view_is) (drops c.args.stream t _ _ _ (c.close.ensures ring)
    (ap (λ (hs : List Handshake). record t { state = the_view (record c.self.inside { handshakes = hs }); hands = t.hands + 1 }) c.remove.ensures))
