use Rattle.laws_play.proofs.Lawful.{each_play, each_script}
use Rattle.laws_play.proofs.laws.law_of_plays.Goals as goal

pub returns-clause-lines : goal.returns-clause-lines
returns-clause-lines c = λ n lines bounded. each_play n lines bounded

pub returns-clause-scripts : goal.returns-clause-scripts
returns-clause-scripts c = λ n text lines is. each_script n text lines is
