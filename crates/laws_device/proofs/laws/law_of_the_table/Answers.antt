use Rattle.laws_device.proofs.Shown.{all_advertise, left_open, new_clients, pending_within}
use Rattle.laws_device.proofs.laws.law_of_the_table.Goals as goal

pub returns-clause-open : goal.returns-clause-open
returns-clause-open c = left_open

pub returns-clause-pending : goal.returns-clause-pending
returns-clause-pending c = pending_within

pub returns-clause-no_overrun : goal.returns-clause-no_overrun
returns-clause-no_overrun c = λ first port s l agrees. agrees.none_overrun

pub returns-clause-clients : goal.returns-clause-clients
returns-clause-clients c = new_clients

pub returns-clause-advertised : goal.returns-clause-advertised
returns-clause-advertised c = λ first port s l agrees. all_advertise l.entries agrees.fair
