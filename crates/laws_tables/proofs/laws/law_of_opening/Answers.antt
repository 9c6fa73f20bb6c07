use Rattle.laws_tables.proofs.Keeps.{accepts, asks, next_clean, opens, start_matches}
use Rattle.laws_tables.proofs.laws.law_of_opening.Goals as goal

pub returns-clause-starts : goal.returns-clause-starts
returns-clause-starts c = start_matches

pub returns-clause-opens : goal.returns-clause-opens
returns-clause-opens c = opens

pub returns-clause-asks : goal.returns-clause-asks
returns-clause-asks c = asks

pub returns-clause-accepts : goal.returns-clause-accepts
returns-clause-accepts c = accepts

pub returns-clause-clean : goal.returns-clause-clean
returns-clause-clean c = λ role first f part log m fair among. (m.fairly fair).kept f among

pub returns-clause-next : goal.returns-clause-next
returns-clause-next c = next_clean
