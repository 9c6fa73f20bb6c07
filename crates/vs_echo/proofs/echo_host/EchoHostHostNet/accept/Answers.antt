use Rattle.vs_echo.proofs.Echoes.{accepts}
use Rattle.vs_echo.proofs.echo_host.EchoHostHostNet.accept.Goals as goal

pub returns-clause-exact : goal.returns-clause-exact
returns-clause-exact c = accepts c.args.self.now.contents c.law_of_calls.ensures.to_fail c.law_of_calls.ensures.clients
