use Rattle.laws_proxy.proofs.{Ordered.reset_honest, Ordered.turn_honest, Ordered.turn_may, Turning.{new_proxy_with, reset_past, turn_past}}
use Rattle.laws_proxy.proofs.laws.law_of_turns.Goals as goal

pub returns-clause-new : goal.returns-clause-new
returns-clause-new c = new_proxy_with

pub returns-clause-turn_may : goal.returns-clause-turn_may
returns-clause-turn_may c = λ first size now s a has holds. turn_may first size now s a record { streams = has; ring = holds }

pub returns-clause-turn : goal.returns-clause-turn
returns-clause-turn c = λ first size now s a b x holds runs. turn_honest s a b size now x runs first holds

pub returns-clause-reset : goal.returns-clause-reset
returns-clause-reset c = λ first cid s a b x fits holds runs. reset_honest s a b cid x fits runs first holds

pub returns-clause-decided : goal.returns-clause-decided
returns-clause-decided c = λ first size now k s a b x holds runs. turn_past first k s a b holds size now x runs

pub returns-clause-decided_reset : goal.returns-clause-decided_reset
returns-clause-decided_reset c = λ first cid k s a b x fits holds runs. reset_past first k s a b holds cid x fits runs
