use Rattle.laws_world.{specs.World.opening, proofs.{CallRests.opening_rests, ScriptLines.{opened_leads, reported, script_rests}}}
use Rattle.vs_core.proofs.scripts.law_of_scripts.Goals as goal

pub returns-clause-events : goal.returns-clause-events
returns-clause-events c = λ how host ls may. opened_leads how host ls may

pub returns-clause-rests : goal.returns-clause-rests
returns-clause-rests c = λ how host ls. script_rests ls (opening how host) (opening_rests how host)

pub returns-clause-reported : goal.returns-clause-reported
returns-clause-reported c = λ ls w. reported ls w
