use Rattle.laws_tables.proofs.{Frame.{heard_dropped, heard_ended, heard_got, heard_other, heard_put}, Fair.{all_got, all_put, heard_all, heard_puts}}
use Rattle.laws_tables.proofs.laws.law_of_hearing.Goals as goal

pub returns-clause-driver : goal.returns-clause-driver
returns-clause-driver c = heard_all

pub returns-clause-puts : goal.returns-clause-puts
returns-clause-puts c = heard_puts

pub returns-clause-put : goal.returns-clause-put
returns-clause-put c = heard_put

pub returns-clause-got : goal.returns-clause-got
returns-clause-got c = heard_got

pub returns-clause-dropped : goal.returns-clause-dropped
returns-clause-dropped c = heard_dropped

pub returns-clause-ended : goal.returns-clause-ended
returns-clause-ended c = heard_ended

pub returns-clause-other : goal.returns-clause-other
returns-clause-other c = heard_other

pub returns-clause-all_put : goal.returns-clause-all_put
returns-clause-all_put c = all_put

pub returns-clause-all_got : goal.returns-clause-all_got
returns-clause-all_got c = all_got
