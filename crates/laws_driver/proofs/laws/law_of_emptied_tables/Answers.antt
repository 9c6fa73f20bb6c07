use Rattle.std.proofs.{Common.arith, lemmas.Bool.Decides.nat_tests}
use Rattle.laws_driver.{specs.Resets.RingBrings, proofs.Emptying.takes_empties}
use Rattle.laws_driver.proofs.laws.law_of_emptied_tables.Goals as goal

pub returns : goal.returns
returns c = λ s t page c d sound few reset.
    takes_empties s page sound reset (RingBrings page) t c d (grind (arith, nat_tests, few)) (λ o m brings. brings.0)
