use Rattle.std.proofs.Common.{◌≡◌, ℕ, Some, None, false, sym, ap, ◌∙◌}
use Rattle.vs_flow.specs.{Flow.host_asks, declared.flow.Flow.Flow}
use Rattle.vs_driver_parts.{specs.{Connections.{connect_refusal, free_flow, next_flow}, State.DriverState}, proofs.Clean.{given_to, may_connect}}
use Rattle.vs_driver.specs.contracts.driver.Driver.{the_view}
use Rattle.vs_driver.proofs.driver.Driver.open.Goals as goal

-- The next flow is a free one, and goes to the port of the peer.
record IsNext (s : DriverState) (f : Flow) : Type 0 where
  pub free : free_flow f.peer f.host s.next_port s.clean ≡ Some f
  pub own : host_asks f ≡ false

is_next : (peer to : ℕ) (s : DriverState) (f : Flow) → connect_refusal peer to s ≡ None → f ≡ next_flow peer to s → IsNext s f
is_next peer to s f free is =
    let may = may_connect peer to s free in
    let next : Flow = next_flow peer to s in
    let goes = given_to peer to s.next_port s.clean next may.flow in
    rw is (record {
      free = ap (λ (n : ℕ). free_flow n next.host s.next_port s.clean) goes.peer_is ∙ ap (λ (n : ℕ). free_flow peer n s.next_port s.clean) goes.port_is ∙ may.flow;
      own = may.own;
    })

pub open_asked-requires-clause-next : goal.open_asked-requires-clause-next
open_asked-requires-clause-next c =
    (is_next c.args.peer c.args.port (the_view c.self.inside) c.next_flow-flow.result (rw (← c.self.view_is) at c.requires.free)
    (c.next_flow-flow.ensures ∙ ap (next_flow c.args.peer c.args.port) (sym c.self.view_is))).free

pub open_asked-requires-clause-host : goal.open_asked-requires-clause-host
open_asked-requires-clause-host c = (is_next c.args.peer c.args.port c.args.self.now c.next_flow-flow.result c.requires.free c.next_flow-flow.ensures).own
