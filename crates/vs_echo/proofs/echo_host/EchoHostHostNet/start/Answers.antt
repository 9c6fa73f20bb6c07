use Rattle.vs_echo.proofs.Echoes.{starts}
use Rattle.vs_echo.proofs.echo_host.EchoHostHostNet.start.Goals as goal

pub returns-clause-exact : goal.returns-clause-exact
returns-clause-exact c = starts c.args.self.now.contents c.law_of_calls.ensures.starts
