use Rattle.laws_rest.proofs.BothEnds.{carry, carry_id, carry_told}
use Rattle.laws_rest.proofs.both_ends.law_of_both_ends.Goals as goal

pub returns-clause-connections : goal.returns-clause-connections
returns-clause-connections c = λ b h port table hands k sent received ends streams some tied.
    carry b ends h port table hands streams k some sent received tied

pub returns-clause-ids : goal.returns-clause-ids
returns-clause-ids c = λ b h port table hands first_id opened journal slots id ends streams. carry_id b ends h port table hands streams first_id opened journal slots id

pub returns-clause-rings : goal.returns-clause-rings
returns-clause-rings c = carry_told
