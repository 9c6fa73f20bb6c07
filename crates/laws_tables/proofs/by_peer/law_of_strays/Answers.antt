use Rattle.std.proofs.Common.{arith}
use Rattle.laws_tables.proofs.Keeps.{strays}
use Rattle.laws_tables.proofs.by_peer.law_of_strays.Goals as goal

pub returns : goal.returns
returns c = λ role first p part log m kept none rst given unkept.
    strays role first p part log m kept none rst (record { given = λ asker later. (let now = given asker in omega (arith, now, later)); unkept = unkept })
