use Rattle.laws_device.proofs.Packets.{heard_there, puts_event, puts_one, reads_there, takes_one}
use Rattle.laws_device.proofs.laws.law_of_packets.Goals as goal

pub returns-clause-put : goal.returns-clause-put
returns-clause-put c = puts_one

pub returns-clause-event : goal.returns-clause-event
returns-clause-event c = λ chain others s x a b event first runs. puts_event chain others event s x a b first runs

pub returns-clause-taken : goal.returns-clause-taken
returns-clause-taken c = takes_one

pub returns-clause-read : goal.returns-clause-read
returns-clause-read c = reads_there

pub returns-clause-heard : goal.returns-clause-heard
returns-clause-heard c = heard_there
