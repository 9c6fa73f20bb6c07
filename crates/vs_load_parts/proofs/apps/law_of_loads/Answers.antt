use Rattle.vs_load_parts.proofs.Scripted.{right_load}
use Rattle.vs_load_parts.proofs.apps.law_of_loads.Goals as goal

pub returns : goal.returns
returns c = right_load c.args.number c.args.conns c.args.bytes
