use Rattle.laws_driver.{specs.Carried.Calls.{makes_call, whole_call}, proofs.Carried.{Journaling.sent_just, Making.{made_with, whole_with}, Sending.{poll_sent, shut_sent}}}
use Rattle.laws_driver.proofs.payload.law_of_sent.Goals as goal

pub returns-clause-call : goal.returns-clause-call
returns-clause-call c = λ first call s r d x right honest plays.
    sent_just first call (whole_call call s) s r d x (λ before after. whole_with first s r call before after right) honest plays

pub returns-clause-step : goal.returns-clause-step
returns-clause-step c = λ first call s r d x right honest plays.
    sent_just first call (makes_call call s) s r d x (λ before after. made_with first s r call before after right) honest plays

pub returns-clause-poll : goal.returns-clause-poll
returns-clause-poll c = poll_sent

pub returns-clause-shut : goal.returns-clause-shut
returns-clause-shut c = shut_sent
