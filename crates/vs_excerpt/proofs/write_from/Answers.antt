use Rattle.std.proofs.Common.{rules}
use Rattle.std.proofs.lemmas.Slice.{overwrites}
use Rattle.vs_excerpt.proofs.write_from.Goals as goal

pub returns : goal.returns
returns c = search (rules, overwrites)
