use Rattle.std.proofs.Common.{ℕ, ◌≤◌, ◌<◌, ◌^◌, sym, ◌∙◌, arith}
use Rattle.vs_limits.specs.declared.TheConstants.{GUEST_CID_MAX}
use Rattle.vs_hostile.proofs.Determined.{reset_over, served, serving}
use Rattle.vs_hostile.proofs.turns.reset_all.Goals as goal

fits : (cid : ℕ) → cid ≤ GUEST_CID_MAX → cid < 2 ^ 64
fits cid h = omega (arith, h)

pub reset-answer-requires-clause-order : goal.reset-answer-requires-clause-order
reset-answer-requires-clause-order c =
    (3, served c.args.proxy.now c.args.ring.now c.args.host.now.contents c.args.host.now.faults c.requires.serving)

pub returns-then-starved-clause-serving : goal.returns-then-starved-clause-serving
returns-then-starved-clause-serving c =
    serving c.reset-answer.new.self c.reset-answer.new.ring c.reset-answer.new.host.contents c.reset-answer.new.host.faults
    (c.law_of_order.ensures.reset 3 c.args.cid c.args.proxy.now _ _ (c.reset-answer.new.self, c.reset-answer.result) (fits c.args.cid c.requires.cid.1)
    (served c.args.proxy.now c.args.ring.now c.args.host.now.contents c.args.host.now.faults c.requires.serving) c.reset-answer.ensures.calls)

pub returns-clause-played : goal.returns-clause-played
returns-clause-played c =
    reset_over c.args.cid c.args.proxy.now
    (record { ring = c.args.ring.now; host = c.args.host.now.contents })
    (record { ring = c.reset-answer.new.ring; host = c.reset-answer.new.host.contents })
    c.args.host.now.faults c.reset-answer.new.host.faults (c.reset-answer.new.self, c.reset-answer.result)
    (c.law_of_order.ensures.reset_may 3 _ _ _ (served c.args.proxy.now c.args.ring.now c.args.host.now.contents c.args.host.now.faults c.requires.serving))
    c.reset-answer.ensures.calls (sym c.starved.ensures ∙ c.if-starved.false)

pub returns-clause-serving : goal.returns-clause-serving
returns-clause-serving c =
    serving c.reset-answer.new.self c.reset-answer.new.ring c.reset-answer.new.host.contents c.reset-answer.new.host.faults
    (c.law_of_order.ensures.reset 3 c.args.cid c.args.proxy.now _ _ (c.reset-answer.new.self, c.reset-answer.result) (fits c.args.cid c.requires.cid.1)
    (served c.args.proxy.now c.args.ring.now c.args.host.now.contents c.args.host.now.faults c.requires.serving) c.reset-answer.ensures.calls)
