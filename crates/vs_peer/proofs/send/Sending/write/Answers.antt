use Rattle.std.proofs.{Common.{◌≡◌, ◌≤◌, [], false, ◌+◌, ◌-◌, length, take, drop, refl, ap, ◌∙◌, arith}, lemmas.List.take_rest}
use Rattle.vs_peer.proofs.{Streams.relates_as, Sends.length_take_le, Sends.nothing_sent, Sends.piece_of}
use Rattle.vs_peer.proofs.send.Sending.write.Goals as goal

pub returns-in-Took-clause-passes : goal.returns-in-Took-clause-passes
returns-in-Took-clause-passes g c =
    let xs = c.args.bytes.now in
    let a = c.args.self.now.sent in
    let n = c.in-Took.n in
    let m = c.min.result in
    let rest = take (length xs - a) (drop a xs) in
    let few : n ≤ m = omega (arith, c.in-Took.ensures.some.0, length_take_le rest m) in
    let same : take n (take m rest) ≡ drop a (take (a + n) xs) = ap (λ ys. take n (take m ys)) (take_rest xs a) ∙ piece_of xs a n m few in
    relates_as c.args.id _ (drop a (take (a + n) xs)) [] [] false false _ _ c.in-Took.ensures.passes same refl refl

pub returns-in-Again-clause-passes : goal.returns-in-Again-clause-passes
returns-in-Again-clause-passes g c = nothing_sent c.args.id c.args.bytes.now c.args.self.now.sent _ _ c.in-Again.ensures.passes.0

pub returns-in-Closed-clause-passes : goal.returns-in-Closed-clause-passes
returns-in-Closed-clause-passes g c = nothing_sent c.args.id c.args.bytes.now c.args.self.now.sent _ _ c.in-Closed.ensures.passes.0

pub returns-in-Failed-clause-passes : goal.returns-in-Failed-clause-passes
returns-in-Failed-clause-passes g c = nothing_sent c.args.id c.args.bytes.now c.args.self.now.sent _ _ c.in-Failed.ensures.passes
