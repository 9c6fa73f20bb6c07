use Rattle.vs_conn.proofs.Frames.{got_answering, got_asked, got_kind, got_over, paid_answering, paid_asked, paid_credit, paid_kind, paid_message, paid_over, paid_own, paid_peer}
use Rattle.vs_conn.proofs.laws.law_of_frames.Goals as goal

pub returns-clause-got_kind : goal.returns-clause-got_kind
returns-clause-got_kind c = got_kind

pub returns-clause-got_over : goal.returns-clause-got_over
returns-clause-got_over c = got_over

pub returns-clause-got_asked : goal.returns-clause-got_asked
returns-clause-got_asked c = got_asked

pub returns-clause-got_answering : goal.returns-clause-got_answering
returns-clause-got_answering c = got_answering

pub returns-clause-paid_kind : goal.returns-clause-paid_kind
returns-clause-paid_kind c = paid_kind

pub returns-clause-paid_own : goal.returns-clause-paid_own
returns-clause-paid_own c = paid_own

pub returns-clause-paid_peer : goal.returns-clause-paid_peer
returns-clause-paid_peer c = paid_peer

pub returns-clause-paid_message : goal.returns-clause-paid_message
returns-clause-paid_message c = paid_message

pub returns-clause-paid_credit : goal.returns-clause-paid_credit
returns-clause-paid_credit c = paid_credit

pub returns-clause-paid_over : goal.returns-clause-paid_over
returns-clause-paid_over c = paid_over

pub returns-clause-paid_asked : goal.returns-clause-paid_asked
returns-clause-paid_asked c = paid_asked

pub returns-clause-paid_answering : goal.returns-clause-paid_answering
returns-clause-paid_answering c = paid_answering
