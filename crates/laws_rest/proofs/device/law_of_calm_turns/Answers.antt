use Rattle.laws_rest.proofs.Calm.{calm_turns}
use Rattle.laws_rest.proofs.device.law_of_calm_turns.Goals as goal

pub returns : goal.returns
returns c = calm_turns
