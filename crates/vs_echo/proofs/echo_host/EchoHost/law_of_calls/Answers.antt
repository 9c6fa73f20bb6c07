use Rattle.vs_echo.{specs.contracts.echo_host.EchoHost.the_view, proofs.Echoes.no_client}
use Rattle.vs_echo.proofs.echo_host.EchoHost.law_of_calls.Goals as goal

pub returns-clause-clients : goal.returns-clause-clients
returns-clause-clients c = rw (← c.self.view_is) (no_client (the_view c.self.inside).contents c.self.invariant)
