use Rattle.laws_driver.proofs.Shown.{left_open}
use Rattle.laws_driver.proofs.laws.law_of_the_table.Goals as goal

pub returns-clause-open : goal.returns-clause-open
returns-clause-open c = left_open

pub returns-clause-unread : goal.returns-clause-unread
returns-clause-unread c = λ hosts first s l agrees i e within. let held = (agrees.fits.entries i e within).buffer in (held.fits, held.space)
