use Rattle.laws_apps.proofs.Ports.{new_ports, polls_give, steps_give}
use Rattle.laws_apps.proofs.laws.law_of_ports.Goals as goal

pub returns-clause-steps : goal.returns-clause-steps
returns-clause-steps c = λ port first k script s moved old new less run steps gives. steps_give port first script k less s moved old new run steps gives

pub returns-clause-polls : goal.returns-clause-polls
returns-clause-polls c = λ port first script polled old new run polls gives. polls_give port first script old new run polled polls gives

pub returns-clause-begins : goal.returns-clause-begins
returns-clause-begins c = new_ports
