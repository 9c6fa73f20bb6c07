use Rattle.vs_report.proofs.Excerpts.{same_text}
use Rattle.vs_report.proofs.bytes.law_of_excerpts.Goals as goal

pub returns : goal.returns
returns c = same_text
