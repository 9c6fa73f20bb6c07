use Rattle.std.proofs.Common.{arith, ℕ, ◌%◌, refl, Option, None, Some, Result, Ok, Err, ap, ◌∙◌}
use Rattle.vs_ring_port.specs.declared.{device_ring.Chain.Chain, failure.Failure.Failure}
use Rattle.vs_ring_plain.specs.{Accesses.over, Chain.taking, PieceTable.HeldState, PieceTable.list_at, Take.ring_in, Take.taken_of}
use Rattle.vs_ring_plain.proofs.HeldChains.{comes, free_in, keeps_more, keeps_same, kept_hold, room_to_hold}
use Rattle.vs_ring_plain.proofs.holds.HeldChains.take.Goals as goal

pub invariant_of-self : goal.invariant_of-self
invariant_of-self c = keeps_same c.args.queue.now.queue c.self.inside c.self.invariant (free_in c.args.queue.now.queue c.self.inside c.args.self.now c.self.view_is c.requires.free) c.take.new.self c.take.ensures.lists

pub invariant_of-self-in-Ok-None : goal.invariant_of-self-in-Ok-None
invariant_of-self-in-Ok-None c = keeps_same c.args.queue.now.queue c.self.inside c.self.invariant (free_in c.args.queue.now.queue c.self.inside c.args.self.now c.self.view_is c.requires.free) c.take.new.self c.take.ensures.lists

pub push_front_reserved-requires : goal.push_front_reserved-requires
push_front_reserved-requires c = omega (arith, room_to_hold c.args.queue.now.queue c.self.inside c.self.invariant (free_in c.args.queue.now.queue c.self.inside c.args.self.now c.self.view_is c.requires.free) c.take.new.self c.take.ensures.lists)

pub invariant_of-self-in-Ok-Some : goal.invariant_of-self-in-Ok-Some
invariant_of-self-in-Ok-Some c =
    let kept = kept_hold c.args.queue.now.queue c.take.new.self c.hold_chain-hold.result (c.args.taken % c.args.queue.now.n)
    (rw c.at.ensures at c.hold_chain-hold.ensures.chain) (rw c.at.ensures at c.hold_chain-hold.ensures.pieces)
    (rw c.at.ensures at c.hold_chain-hold.ensures.several) in
    keeps_more c.args.queue.now.queue c.self.inside c.self.invariant (free_in c.args.queue.now.queue c.self.inside c.args.self.now c.self.view_is c.requires.free) c.take.new.self c.take.ensures.lists
    c.hold_chain-hold.result _ refl refl c.push_front_reserved.ensures.items c.push_front_reserved.ensures.capacity
    (ap (λ (k : Chain). k.queue) c.hold_chain-hold.ensures.chain) kept.0

pub returns-in-Err-clause-exact : goal.returns-in-Err-clause-exact
returns-in-Err-clause-exact c =
    comes c.args.queue.now.queue c.self.inside c.self.invariant (free_in c.args.queue.now.queue c.self.inside c.args.self.now c.self.view_is c.requires.free) c.take.new.self c.take.ensures.lists c.args.self.now.chains
    (ap (λ (s : HeldState). s.chains) c.self.view_is) (c.args.taken % c.args.queue.now.n)
    (over (taking (ring_in c.args.queue.now c.args.mem.now) c.args.taken) c.args.mem.now) (taken_of (Err c.in-Err.failure) (list_at c.args.queue.now.queue c.take.new.self)) c.take.new.mem
    (c.take.ensures.exact ∙ ap (λ (x : Result (Option ℕ) Failure). (taken_of x (list_at c.args.queue.now.queue c.take.new.self), c.take.new.mem)) c.in-Err.is)

pub returns-in-Ok-None-clause-exact : goal.returns-in-Ok-None-clause-exact
returns-in-Ok-None-clause-exact c =
    comes c.args.queue.now.queue c.self.inside c.self.invariant (free_in c.args.queue.now.queue c.self.inside c.args.self.now c.self.view_is c.requires.free) c.take.new.self c.take.ensures.lists c.args.self.now.chains
    (ap (λ (s : HeldState). s.chains) c.self.view_is) (c.args.taken % c.args.queue.now.n)
    (over (taking (ring_in c.args.queue.now c.args.mem.now) c.args.taken) c.args.mem.now) (taken_of (Ok None) (list_at c.args.queue.now.queue c.take.new.self)) c.take.new.mem
    (c.take.ensures.exact ∙ ap (λ (x : Result (Option ℕ) Failure). (taken_of x (list_at c.args.queue.now.queue c.take.new.self), c.take.new.mem)) (c.in-Ok-None.is ∙ ap (λ (o : Option ℕ). let r : Result (Option ℕ) Failure = Ok o in r) c.in-Ok-None.field-0-is))

pub returns-in-Ok-Some-clause-exact : goal.returns-in-Ok-Some-clause-exact
returns-in-Ok-Some-clause-exact c =
    let kept = kept_hold c.args.queue.now.queue c.take.new.self c.hold_chain-hold.result (c.args.taken % c.args.queue.now.n)
    (rw c.at.ensures at c.hold_chain-hold.ensures.chain) (rw c.at.ensures at c.hold_chain-hold.ensures.pieces)
    (rw c.at.ensures at c.hold_chain-hold.ensures.several) in
    let chain = c.twin-chain.ensures ∙ rw c.at.ensures at c.hold_chain-hold.ensures.chain in
    comes c.args.queue.now.queue c.self.inside c.self.invariant (free_in c.args.queue.now.queue c.self.inside c.args.self.now c.self.view_is c.requires.free) c.take.new.self c.take.ensures.lists c.args.self.now.chains
    (ap (λ (s : HeldState). s.chains) c.self.view_is) (c.args.taken % c.args.queue.now.n)
    (over (taking (ring_in c.args.queue.now c.args.mem.now) c.args.taken) c.args.mem.now) (taken_of (Ok (Some c.in-Ok-Some.head)) (list_at c.args.queue.now.queue c.take.new.self)) c.take.new.mem
    (c.take.ensures.exact ∙ ap (λ (x : Result (Option ℕ) Failure). (taken_of x (list_at c.args.queue.now.queue c.take.new.self), c.take.new.mem)) (c.in-Ok-Some.is ∙ ap (λ (o : Option ℕ). let r : Result (Option ℕ) Failure = Ok o in r) c.in-Ok-Some.field-0-is))
    ∙ rw (c.push_front_reserved.ensures.items, kept.1, chain, c.hold_chain-hold.ensures.head) refl
