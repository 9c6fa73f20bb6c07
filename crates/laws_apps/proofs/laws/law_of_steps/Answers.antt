use Rattle.laws_apps.proofs.{Beginning.begins_run, Keeping.polls_keep, Keeping.steps_keep}
use Rattle.laws_apps.proofs.laws.law_of_steps.Goals as goal

pub returns-clause-steps : goal.returns-clause-steps
returns-clause-steps c = λ first k script s moved old new less run steps. steps_keep first script old run k less s moved new steps

pub returns-clause-polls : goal.returns-clause-polls
returns-clause-polls c = λ first script polled old new run polls. polls_keep first script old run polled new polls

pub returns-clause-begins : goal.returns-clause-begins
returns-clause-begins c = begins_run
