use Rattle.laws_tables.proofs.{ByPeer.{fits, in_order}, Standing.known_order}
use Rattle.laws_tables.proofs.by_peer.law_of_order_by_peer.Goals as goal

pub returns-clause-in_order : goal.returns-clause-in_order
returns-clause-in_order c = in_order

pub returns-clause-fits : goal.returns-clause-fits
returns-clause-fits c = fits

pub returns-clause-known : goal.returns-clause-known
returns-clause-known c = known_order
