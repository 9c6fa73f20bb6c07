use Rattle.vs_peer.proofs.Streams.{write_open, write_passes}
use Rattle.vs_peer.proofs.stream.write.Goals as goal

pub returns-clause-passes : goal.returns-clause-passes
returns-clause-passes g c = write_passes c.args.id c.args.bytes.now c.write.result _ _ c.requires.some c.requires.open c.write.ensures.exact

pub returns-clause-open : goal.returns-clause-open
returns-clause-open g c = write_open c.args.id c.args.bytes.now c.write.result _ _ (returns-clause-passes g c) c.requires.open
