use Rattle.laws_tables.proofs.ByPeer.{again, of_fair, opens, pays, replies, sends, sound_got}
use Rattle.laws_tables.proofs.by_peer.law_of_fairness_by_peer.Goals as goal

pub returns-clause-got : goal.returns-clause-got
returns-clause-got c = sound_got

pub returns-clause-opens : goal.returns-clause-opens
returns-clause-opens c = opens

pub returns-clause-again : goal.returns-clause-again
returns-clause-again c = again

pub returns-clause-sends : goal.returns-clause-sends
returns-clause-sends c = sends

pub returns-clause-pays : goal.returns-clause-pays
returns-clause-pays c = pays

pub returns-clause-replies : goal.returns-clause-replies
returns-clause-replies c = replies

pub returns-clause-fair : goal.returns-clause-fair
returns-clause-fair c = of_fair
