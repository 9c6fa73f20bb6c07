use Rattle.laws_rest.proofs.Pages.{all_back, all_there}
use Rattle.laws_rest.proofs.laws.law_of_pages.Goals as goal

pub returns-clause-there : goal.returns-clause-there
returns-clause-there c = all_there

pub returns-clause-back : goal.returns-clause-back
returns-clause-back c = all_back
