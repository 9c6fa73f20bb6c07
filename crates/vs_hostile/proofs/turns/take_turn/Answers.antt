use Rattle.std.proofs.Common.{sym, ◌∙◌}
use Rattle.vs_hostile.proofs.Determined.{served, serving, turn_over}
use Rattle.vs_hostile.proofs.turns.take_turn.Goals as goal

pub turn-turn-requires-clause-order : goal.turn-turn-requires-clause-order
turn-turn-requires-clause-order c =
    (3, served c.args.proxy.now c.args.ring.now c.args.host.now.contents c.args.host.now.faults c.requires.serving)

pub returns-then-starved-clause-serving : goal.returns-then-starved-clause-serving
returns-then-starved-clause-serving c =
    serving c.turn-turn.new.self c.turn-turn.new.ring c.turn-turn.new.host.contents c.turn-turn.new.host.faults
    (c.law_of_order.ensures.turn 3 c.args.ring.now.size c.args.now c.args.proxy.now _ _ (c.turn-turn.new.self, c.turn-turn.result)
    (served c.args.proxy.now c.args.ring.now c.args.host.now.contents c.args.host.now.faults c.requires.serving) c.turn-turn.ensures.calls)

pub returns-clause-played : goal.returns-clause-played
returns-clause-played c =
    turn_over c.args.ring.now.size c.args.now c.args.proxy.now
    (record { ring = c.args.ring.now; host = c.args.host.now.contents })
    (record { ring = c.turn-turn.new.ring; host = c.turn-turn.new.host.contents })
    c.args.host.now.faults c.turn-turn.new.host.faults (c.turn-turn.new.self, c.turn-turn.result)
    (c.law_of_order.ensures.turn_may 3 _ _ _ _ (served c.args.proxy.now c.args.ring.now c.args.host.now.contents c.args.host.now.faults c.requires.serving))
    c.turn-turn.ensures.calls (sym c.starved.ensures ∙ c.if-starved.false)

pub returns-clause-serving : goal.returns-clause-serving
returns-clause-serving c =
    serving c.turn-turn.new.self c.turn-turn.new.ring c.turn-turn.new.host.contents c.turn-turn.new.host.faults
    (c.law_of_order.ensures.turn 3 c.args.ring.now.size c.args.now c.args.proxy.now _ _ (c.turn-turn.new.self, c.turn-turn.result)
    (served c.args.proxy.now c.args.ring.now c.args.host.now.contents c.args.host.now.faults c.requires.serving) c.turn-turn.ensures.calls)
