use Rattle.vs_peer.proofs.Streams.{read_open, read_passes}
use Rattle.vs_peer.proofs.stream.read.Goals as goal

pub returns-clause-passes : goal.returns-clause-passes
returns-clause-passes g c = read_passes c.args.id c.read.new.out c.read.result _ _ c.requires.open c.read.ensures.exact

pub returns-clause-open : goal.returns-clause-open
returns-clause-open g c = read_open c.args.id c.read.new.out c.read.result _ _ (returns-clause-passes g c) c.requires.open
