use Rattle.vs_ring_port.specs.declared.queue.Queue.TheVariants.{Rx}
use Rattle.vs_contents.proofs.{Leads.leads_bind, Conditions.may_first, Conditions.may_rest}
use Rattle.vs_driver_parts.specs.{Playing.{CanMake, RingAllows}, Conversations.{round_of, all_taken, published, take_packet}}
use Rattle.vs_driver.proofs.Taking.{may_published, round_published}
use Rattle.vs_driver.proofs.driver.Driver.take_packets.Goals as goal

pub stage_packets-tally-requires-clause-may : goal.stage_packets-tally-requires-clause-may
stage_packets-tally-requires-clause-may g c = may_first CanMake RingAllows (all_taken take_packet c.args.self.now) (published Rx) (g.R.DriverRing.contents c.args.ring.now) c.requires.may

pub publish-requires-clause-may : goal.publish-requires-clause-may
publish-requires-clause-may g c =
    may_published Rx (round_of c.stage_packets-tally.new.self c.stage_packets-tally.result) (g.R.DriverRing.contents c.stage_packets-tally.new.ring)
    (may_rest CanMake RingAllows (all_taken take_packet c.args.self.now) (published Rx) (g.R.DriverRing.contents c.args.ring.now) (g.R.DriverRing.contents c.stage_packets-tally.new.ring)
    (round_of c.stage_packets-tally.new.self c.stage_packets-tally.result) c.requires.may c.stage_packets-tally.ensures.calls)

pub returns-clause-calls : goal.returns-clause-calls
returns-clause-calls g c =
    leads_bind RingAllows (all_taken take_packet c.args.self.now) (published Rx) (g.R.DriverRing.contents c.args.ring.now) (g.R.DriverRing.contents c.stage_packets-tally.new.ring) (g.R.DriverRing.contents c.publish.new.ring)
    (round_of c.stage_packets-tally.new.self c.stage_packets-tally.result) (round_of c.publish.new.self c.stage_packets-tally.result) c.stage_packets-tally.ensures.calls
    (round_published Rx (round_of c.stage_packets-tally.new.self c.stage_packets-tally.result) c.publish.new.self _ _ c.publish.ensures.calls)
