use Rattle.std.proofs.Common.{rules}
use Rattle.vs_load_parts.proofs.tally.add_opened.Goals as goal

pub returns-in-Some : goal.returns-in-Some
returns-in-Some c = λ script. let added = c.add.ensures script in search (rules, added)
