use Rattle.laws_rest.proofs.Stages.{fill_owes_none, stage_owes_none}
use Rattle.laws_rest.proofs.device.law_of_quiet_fills.Goals as goal

pub returns-clause-stage : goal.returns-clause-stage
returns-clause-stage c = stage_owes_none

pub returns-clause-fills : goal.returns-clause-fills
returns-clause-fills c = fill_owes_none
