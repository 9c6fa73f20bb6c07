use Rattle.vs_ring_port.specs.{Contents.RingContents, declared.queue.Queue.TheVariants.Tx}
use Rattle.vs_driver_parts.specs.Conversations.{Round, pay_all, pay_and_publish, publish_and_pay, publish_of, published, put_all}
use Rattle.vs_driver_parts.specs.{State.DriverState, Conversations.put_replies, Conversations.round_of, Playing.Plays}
use Rattle.vs_driver.proofs.{Rest.IsLeft, Rest.all_left, Rest.may_next, Rest.then, Taking.may_published, Taking.round_published}
use Rattle.vs_driver.proofs.driver.Driver.put_all.Goals as goal

-- What is left once replies are staged, and once they are published.
module _ (s : DriverState) (c : RingContents) (r : Round) (d : RingContents) (staged : Plays (put_replies s) c r d) where
  replied : IsLeft (put_all s) c (publish_and_pay r) d
  replied = then (put_replies s) publish_and_pay (all_left (put_all s) c) r d staged

  pays : (t : DriverState) (e : RingContents) → Plays (publish_of Tx r.state) d t e
      → IsLeft (put_all s) c (pay_and_publish (record r { state = t })) e
  pays t e plays = then (published Tx r) pay_and_publish replied (record r { state = t }) e (round_published Tx r t d e plays)

pub put_replies-tally-requires-clause-may : goal.put_replies-tally-requires-clause-may
put_replies-tally-requires-clause-may g c =
    may_next (put_replies c.args.self.now) publish_and_pay (all_left (put_all c.args.self.now) _) c.requires.may

pub publish-requires-clause-may : goal.publish-requires-clause-may
publish-requires-clause-may g c =
    let r : Round = round_of c.put_replies-tally.new.self c.put_replies-tally.result in
    may_published Tx r _ (may_next (published Tx r) pay_and_publish (replied c.args.self.now _ r _ c.put_replies-tally.ensures.calls)
    c.requires.may)

pub pay_all-requires-clause-may : goal.pay_all-requires-clause-may
pay_all-requires-clause-may g c =
    let r : Round = round_of c.put_replies-tally.new.self c.put_replies-tally.result in
    may_next (pay_all (record r { state = c.publish.new.self })) (published Tx)
    (pays c.args.self.now _ r _ c.put_replies-tally.ensures.calls c.publish.new.self _ c.publish.ensures.calls) c.requires.may

pub publish-requires-2-clause-may : goal.publish-requires-2-clause-may
publish-requires-2-clause-may g c =
    let r : Round = round_of c.put_replies-tally.new.self c.put_replies-tally.result in
    let q : Round = round_of c.pay_all.new.self c.pay_all.new.tally in
    may_published Tx q _ ((then (pay_all (record r { state = c.publish.new.self })) (published Tx)
    (pays c.args.self.now _ r _ c.put_replies-tally.ensures.calls c.publish.new.self _ c.publish.ensures.calls) q _
    c.pay_all.ensures.calls).may c.requires.may)

pub returns-clause-calls : goal.returns-clause-calls
returns-clause-calls g c =
    let r : Round = round_of c.put_replies-tally.new.self c.put_replies-tally.result in
    let q : Round = round_of c.pay_all.new.self c.pay_all.new.tally in
    (then (pay_all (record r { state = c.publish.new.self })) (published Tx)
    (pays c.args.self.now _ r _ c.put_replies-tally.ensures.calls c.publish.new.self _ c.publish.ensures.calls) q _
    c.pay_all.ensures.calls).goes_on _ _
    (round_published Tx q c.publish-2.new.self _ _ c.publish-2.ensures.calls)
