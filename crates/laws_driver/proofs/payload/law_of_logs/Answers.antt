use Rattle.laws_driver.proofs.Carried.{Deciding.{call_past, poll_past, step_past}, Growing.{goes_on, shut_still}}
use Rattle.laws_driver.proofs.payload.law_of_logs.Goals as goal

pub returns-clause-grows : goal.returns-clause-grows
returns-clause-grows g c = λ tree r d x plays. (goes_on tree r d x plays).2

pub returns-clause-shut : goal.returns-clause-shut
returns-clause-shut g c = shut_still

pub returns-clause-decided : goal.returns-clause-decided
returns-clause-decided g c = λ first k call s r d x right honest plays. call_past first k s r d honest call x right plays

pub returns-clause-decided_step : goal.returns-clause-decided_step
returns-clause-decided_step g c = λ first k call s r d x right honest plays. step_past first k s r d honest call x right plays

pub returns-clause-decided_poll : goal.returns-clause-decided_poll
returns-clause-decided_poll g c = λ first k s r d x honest plays. poll_past first k s r d honest x plays
