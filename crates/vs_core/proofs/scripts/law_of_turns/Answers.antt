use Rattle.laws_world.proofs.TurnLines.{turn_leads}
use Rattle.vs_core.proofs.scripts.law_of_turns.Goals as goal

pub returns : goal.returns
returns c = λ now w. turn_leads now w
