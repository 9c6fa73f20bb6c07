use Rattle.laws_driver.specs.Carried.Calls.{makes_call, whole_call}
use Rattle.laws_driver.proofs.Carried.{Ending.new_righted, Journaling.journaled, Making.made_with, Making.whole_with, Righting.{call_righted, poll_righted, step_righted}}
use Rattle.laws_driver.proofs.payload.law_of_journals.Goals as goal

pub returns-clause-call : goal.returns-clause-call
returns-clause-call c = λ first id opened journal call s r d x right honest account plays.
    journaled first call (whole_call call s) s r d x (λ before after. whole_with first s r call before after right) honest plays id opened journal account

pub returns-clause-step : goal.returns-clause-step
returns-clause-step c = λ first id opened journal call s r d x right honest account plays.
    journaled first call (makes_call call s) s r d x (λ before after. made_with first s r call before after right) honest plays id opened journal account

pub returns-clause-right_new : goal.returns-clause-right_new
returns-clause-right_new c = new_righted

pub returns-clause-right : goal.returns-clause-right
returns-clause-right c = λ first id opened journal call s r d x fits honest right plays.
    call_righted first call s r d x fits honest plays id opened journal right

pub returns-clause-right_step : goal.returns-clause-right_step
returns-clause-right_step c = λ first id opened journal call s r d x fits honest right plays.
    step_righted first call s r d x fits honest plays id opened journal right

pub returns-clause-right_poll : goal.returns-clause-right_poll
returns-clause-right_poll c = poll_righted
