use Rattle.laws_rest.proofs.Unread.{hears, pays, shuts, writes}
use Rattle.laws_rest.proofs.pending.law_of_pending.Goals as goal

pub returns-clause-hears : goal.returns-clause-hears
returns-clause-hears c = hears

pub returns-clause-pays : goal.returns-clause-pays
returns-clause-pays c = pays

pub returns-clause-writes : goal.returns-clause-writes
returns-clause-writes c = writes

pub returns-clause-shuts : goal.returns-clause-shuts
returns-clause-shuts c = shuts
