use Rattle.laws_rest.proofs.{Counting.same_numbers, Resting.paired, Resting.same_flows}
use Rattle.laws_rest.proofs.laws.law_of_rest.Goals as goal

pub returns-clause-same_flows : goal.returns-clause-same_flows
returns-clause-same_flows c = same_flows

pub returns-clause-paired : goal.returns-clause-paired
returns-clause-paired c = paired

pub returns-clause-as_many : goal.returns-clause-as_many
returns-clause-as_many c = same_numbers
