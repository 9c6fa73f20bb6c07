use Rattle.vs_page.proofs.ByPeer.{got_within, put_within}
use Rattle.vs_page.proofs.laws.laws_of_credit_by_peer.Goals as goal

pub returns-clause-put : goal.returns-clause-put
returns-clause-put c = put_within

pub returns-clause-got : goal.returns-clause-got
returns-clause-got c = got_within
