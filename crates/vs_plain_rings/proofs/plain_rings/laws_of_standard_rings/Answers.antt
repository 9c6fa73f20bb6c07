use Rattle.std.proofs.Common.{subst}
use Rattle.vs_ring_list.proofs.Ties.{device_got, driver_got}
use Rattle.laws_plain_rings.specs.{Exposed.BothEnds, Tie.IsTiedTo}
use Rattle.vs_plain_rings.proofs.{Counted.are_counted, Rings.of_ends}
use Rattle.vs_plain_rings.proofs.plain_rings.laws_of_standard_rings.Goals as goal

tied : (c : goal.After-cid-cid) → IsTiedTo c.args.rings.now.parts c.args.rings.now.ends
tied c = subst (λ (r : BothEnds). IsTiedTo r.parts r.ends) c.rings.view_is c.rings.invariant

pub returns-clause-driver_fair : goal.returns-clause-driver_fair
returns-clause-driver_fair c = of_ends c.args.rings.now _ (tied c) (λ w t. t.logs.driver_fair)

pub returns-clause-device_fair : goal.returns-clause-device_fair
returns-clause-device_fair c = of_ends c.args.rings.now _ (tied c) (λ w t. t.logs.device_fair)

pub returns-clause-driver_got : goal.returns-clause-driver_got
returns-clause-driver_got c =
    of_ends c.args.rings.now _ (tied c) (λ w t. driver_got w.lists w.driver.entries w.device.entries t.logs)

pub returns-clause-device_got : goal.returns-clause-device_got
returns-clause-device_got c =
    of_ends c.args.rings.now _ (tied c) (λ w t. device_got w.lists w.driver.entries w.device.entries t.logs)

pub returns-clause-counted : goal.returns-clause-counted
returns-clause-counted c = of_ends c.args.rings.now _ (tied c) (λ w t. are_counted c.args.rings.now.parts w t)

pub returns-clause-apart : goal.returns-clause-apart
returns-clause-apart c = of_ends c.args.rings.now _ (tied c) (λ w t. t.laid)

pub returns-clause-words : goal.returns-clause-words
returns-clause-words c = of_ends c.args.rings.now _ (tied c) (λ w t queue word. (t.queues queue).2.words word)
