use Rattle.std.proofs.Common.{◌≡◌, false, length, nat_lt, rules}
use Rattle.vs_limits.specs.declared.TheConstants.{DRIVER_REPLIES_FULL}
use Rattle.vs_driver_parts.specs.Conversations.{round_of}
use Rattle.vs_driver.proofs.Taking.{took_event, took_no_event}
use Rattle.vs_driver.proofs.driver.Driver.take_event.Goals as goal

pub returns-in-Back-clause-calls : goal.returns-in-Back-clause-calls
returns-in-Back-clause-calls g c =
    let few : nat_lt DRIVER_REPLIES_FULL (length c.args.self.now.replies) ≡ false = search rules in
    took_event (round_of c.args.self.now c.args.tally.now) (round_of c.on_event.new.self c.on_event.new.tally)
    c.stage_empty.new.self c.in-Back.page
    (g.R.DriverRing.contents c.args.ring.now) (g.R.DriverRing.contents c.reap.new.self) (g.R.DriverRing.contents c.on_event.new.ring)
    (g.R.DriverRing.contents c.stage_empty.new.ring)
    few c.in-Back.ensures.contents c.on_event.ensures.calls c.stage_empty.ensures.calls

pub returns-in-None-clause-calls : goal.returns-in-None-clause-calls
returns-in-None-clause-calls g c =
    let few : nat_lt DRIVER_REPLIES_FULL (length c.args.self.now.replies) ≡ false = search rules in
    took_no_event (round_of c.args.self.now c.args.tally.now) (g.R.DriverRing.contents c.args.ring.now)
    (g.R.DriverRing.contents c.reap.new.self) few c.in-None.ensures.contents
