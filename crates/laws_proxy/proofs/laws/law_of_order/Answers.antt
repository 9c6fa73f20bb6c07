use Rattle.laws_proxy.proofs.Ordered.{new_in_order, reset_honest, reset_may, reset_streams, turn_honest, turn_may, turn_streams}
use Rattle.laws_proxy.proofs.laws.law_of_order.Goals as goal

pub returns-clause-new : goal.returns-clause-new
returns-clause-new c = new_in_order

pub returns-clause-turn_may : goal.returns-clause-turn_may
returns-clause-turn_may c = turn_may

pub returns-clause-turn : goal.returns-clause-turn
returns-clause-turn c = λ first size now s a b x is runs. record {
  streams = turn_streams s a b size now x runs is.streams;
  ring = turn_honest s a b size now x runs first is.ring;
}

pub returns-clause-reset_may : goal.returns-clause-reset_may
returns-clause-reset_may c = reset_may

pub returns-clause-reset : goal.returns-clause-reset
returns-clause-reset c = λ first cid s a b x fits is runs. record {
  streams = reset_streams s a b cid x runs is.streams;
  ring = reset_honest s a b cid x fits runs first is.ring;
}
