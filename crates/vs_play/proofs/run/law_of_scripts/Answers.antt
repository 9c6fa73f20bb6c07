use Rattle.vs_play.proofs.Scripts.{all_playable}
use Rattle.vs_play.proofs.run.law_of_scripts.Goals as goal

pub returns : goal.returns
returns c = all_playable
