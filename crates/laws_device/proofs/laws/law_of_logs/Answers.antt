use Rattle.laws_device.proofs.Logs.{goes_on, shut_still}
use Rattle.laws_device.proofs.laws.law_of_logs.Goals as goal

pub returns-clause-grows : goal.returns-clause-grows
returns-clause-grows g c = λ tree a b x runs. (goes_on tree a b x runs).2

pub returns-clause-shut : goal.returns-clause-shut
returns-clause-shut g c = shut_still
