use Rattle.laws_world.proofs.{GuestLines.call_leads, Polls.poll_does}
use Rattle.vs_core.proofs.laws.law_of_guest_calls.Goals as goal

pub returns-clause-call : goal.returns-clause-call
returns-clause-call c = λ call w rest right. call_leads w rest call right

pub returns-clause-poll : goal.returns-clause-poll
returns-clause-poll c = λ w rest. (poll_does w rest).leads

pub returns-clause-polled : goal.returns-clause-polled
returns-clause-polled c = λ w rest. (poll_does w rest).rest
