use Rattle.vs_page.specs.Log.{Driver, flow_got}
use Rattle.laws_tables.proofs.{Fair.got_first, Fair.got_in_order, Fair.got_is_taken, Fair.got_not_refused, Fair.heard_all, Keeps.has_room}
use Rattle.laws_tables.proofs.laws.law_of_fair_packets.Goals as goal

pub returns-clause-in_order : goal.returns-clause-in_order
returns-clause-in_order c = got_in_order

pub returns-clause-fits : goal.returns-clause-fits
returns-clause-fits c = got_is_taken

pub returns-clause-asks : goal.returns-clause-asks
returns-clause-asks c = got_first

pub returns-clause-never_refused : goal.returns-clause-never_refused
returns-clause-never_refused c = λ role first p e part log m has fair all. got_not_refused role first p e part log m.flows has fair all

pub returns-clause-driver : goal.returns-clause-driver
returns-clause-driver c = λ first p e part log m has host fair.
    got_not_refused Driver first p e part log m.flows has fair (heard_all first (flow_got Driver p) log host)

pub returns-clause-no_overrun : goal.returns-clause-no_overrun
returns-clause-no_overrun c = has_room
