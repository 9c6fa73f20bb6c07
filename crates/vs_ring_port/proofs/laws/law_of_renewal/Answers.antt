use Rattle.std.proofs.Common.{◌≡◌, ◌+◌, ◌++◌, length}
use Rattle.vs_ring_port.{specs.{Chains.{bytes_held, held_of}, Lists.queue_of}, proofs.Renewing.{at_each, back_stays, count_given, given_again, take_again}}
use Rattle.vs_ring_port.proofs.laws.law_of_renewal.Goals as goal

pub returns-clause-given : goal.returns-clause-given
returns-clause-given c = λ queue held w.
    at_each (λ old new. new.given ≡ bytes_held queue held ++ old.given) queue held w (given_again queue w.size held (queue_of queue w))

pub returns-clause-counted : goal.returns-clause-counted
returns-clause-counted c = λ queue held w.
    at_each (λ old new. length new.given ≡ length old.given + held_of queue held) queue held w
    (count_given queue w.size held (queue_of queue w))

pub returns-clause-back : goal.returns-clause-back
returns-clause-back c = λ queue held w.
    at_each (λ old new. new.back ≡ old.back) queue held w (back_stays queue w.size held (queue_of queue w))

pub returns-clause-again : goal.returns-clause-again
returns-clause-again c = take_again
