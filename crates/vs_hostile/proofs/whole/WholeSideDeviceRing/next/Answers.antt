use Rattle.std.proofs.Common.{refl}
use Rattle.vs_ring_port.specs.Contents.{Take}
use Rattle.vs_hostile.proofs.Seen.{allowed, takes}
use Rattle.vs_hostile.proofs.whole.WholeSideDeviceRing.next.Goals as goal

pub returns-clause-long_enough : goal.returns-clause-long_enough
returns-clause-long_enough c = (takes c.args.queue c.take.result c.self.inside.side c.take.new.self c.take.ensures.exact).long_enough

pub returns-clause-contents : goal.returns-clause-contents
returns-clause-contents c =
    rw (← c.self.view_is) (allowed (Take c.args.queue) c.take.result c.self.inside.side c.take.new.self refl c.take.ensures.exact)
