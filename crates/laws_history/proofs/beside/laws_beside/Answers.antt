use Rattle.laws_history.proofs.BesidePairs.{allows_beside, fair_beside, steadied_fair}
use Rattle.laws_history.proofs.beside.laws_beside.Goals as goal

pub returns-clause-fair : goal.returns-clause-fair
returns-clause-fair c = fair_beside

pub returns-clause-steadied : goal.returns-clause-steadied
returns-clause-steadied c = steadied_fair

pub returns-clause-allows : goal.returns-clause-allows
returns-clause-allows c = allows_beside
