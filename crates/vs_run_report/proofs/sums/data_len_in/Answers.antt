use Rattle.std.proofs.Common.{◌∙◌}
use Rattle.vs_script.specs.Data.{content_of}
use Rattle.vs_run_report.proofs.Summing.{size_is}
use Rattle.vs_run_report.proofs.sums.data_len_in.Goals as goal

pub returns-in-Send : goal.returns-in-Send
returns-in-Send c = rw c.in-Send.is (c.len.ensures.size ∙ size_is (content_of c.in-Send.content))

pub returns-in-Exchange : goal.returns-in-Exchange
returns-in-Exchange c = rw c.in-Exchange.is (c.len-in-Exchange.ensures.size ∙ size_is (content_of c.in-Exchange.content))
