use Rattle.vs_outside.proofs.Connections.{is_of, its_stream, one_id}
use Rattle.vs_outside.proofs.laws.law_of_connections.Goals as goal

pub returns-clause-stream : goal.returns-clause-stream
returns-clause-stream c = its_stream

pub returns-clause-label : goal.returns-clause-label
returns-clause-label c = λ id k h is. let x = is_of id k h is in rw x.at x.label

pub returns-clause-one : goal.returns-clause-one
returns-clause-one c = one_id
