use Rattle.std.proofs.Common.{◌≢◌, arith}
use Rattle.std.proofs.lemmas.Bool.Decides.{nat_tests}
use Rattle.vs_ring_shared.proofs.Reaps as steps
use Rattle.vs_ring_shared.proofs.driver_queue.sees_back.Goals as goal

pub returns-then-numbers-clause-some : goal.returns-then-numbers-clause-some
returns-then-numbers-clause-some c is =
    let d = c.args.numbers.now in
    let other : d.shown ≢ d.taken = λ same. c.if-numbers.true same in
    steps.sees_before c.args.port.now.size c.args.queue c.args.port.now.token.me d c.requires.seat.carries c.requires.numbers other

pub returns-clause-some : goal.returns-clause-some
returns-clause-some c is =
    let d = c.args.numbers.now in
    let l = c.look_back.ensures.told in
    let other : c.look_back.result ≢ d.taken = grind (arith, nat_tests, is) in
    steps.sees_now c.args.port.now.size c.args.queue c.args.port.now.token.me c.look_back.new.self.token.me d l.0 c.look_back.result
    c.requires.seat.carries c.requires.numbers c.args.port.now.sized.1 c.if-numbers.false l.1 l.2 l.3 l.5 l.6 l.8 other
