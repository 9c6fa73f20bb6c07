use Rattle.vs_page.proofs.ByPeer.{allows_by_peer, by_peer, next_fair, one_got, one_put, same_of_host, stray_fair}
use Rattle.vs_page.proofs.laws.laws_by_peer.Goals as goal

pub returns-clause-fair : goal.returns-clause-fair
returns-clause-fair c = by_peer

pub returns-clause-host : goal.returns-clause-host
returns-clause-host c = same_of_host

pub returns-clause-put : goal.returns-clause-put
returns-clause-put c = one_put

pub returns-clause-got : goal.returns-clause-got
returns-clause-got c = one_got

pub returns-clause-allows : goal.returns-clause-allows
returns-clause-allows c = allows_by_peer

pub returns-clause-stray : goal.returns-clause-stray
returns-clause-stray c = stray_fair

pub returns-clause-two_logs : goal.returns-clause-two_logs
returns-clause-two_logs c = next_fair
