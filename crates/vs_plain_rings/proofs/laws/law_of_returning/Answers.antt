use Rattle.vs_plain_rings.proofs.Returning.{returned_page, returned_used}
use Rattle.vs_plain_rings.proofs.laws.law_of_returning.Goals as goal

pub returns-clause-used : goal.returns-clause-used
returns-clause-used c = returned_used

pub returns-clause-page : goal.returns-clause-page
returns-clause-page c = returned_page
