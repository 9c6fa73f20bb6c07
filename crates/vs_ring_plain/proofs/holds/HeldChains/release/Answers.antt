use Rattle.std.proofs.Common.{◌≡◌, ℕ, refl, List, Contains, map, sym, ap, ap₂, ◌∙◌, subst}
use Rattle.vs_ring_port.specs.declared.device_ring.Chain.{Chain}
use Rattle.vs_ring_plain.specs.{Device.HeldChain, Device.head_of, Device.hold_of, Device.without_hold, PieceTable.HeldState, Held.all_held}
use Rattle.vs_ring_plain.proofs.HeldChains.{IsFound, chains-all_held, hold_is, keeps_less, without_is}
use Rattle.vs_ring_plain.proofs.holds.HeldChains.release.Goals as goal

pub place_of-place-requires : goal.place_of-place-requires
place_of-place-requires c =
    subst (λ (cs : List Chain). Contains cs c.args.chain.now) (chains-all_held c.self.inside.lists c.self.inside.holds.items)
    (subst (λ (s : HeldState). Contains (map (λ (h : HeldChain). h.chain) s.chains) c.args.chain.now) (sym c.self.view_is) c.requires)

found : (c : goal.After-unwrap-hold) → IsFound c.args.chain.now c.self.inside.holds.items c.place_of-place.result c.unwrap-hold.result
found c = record { found = c.place_of-place.ensures.found; there = rw c.unwrap-hold.ensures at c.remove.ensures.value }

pub invariant_of-self : goal.invariant_of-self
invariant_of-self c =
    keeps_less c.args.chain.now c.self.inside _ c.place_of-place.result c.unwrap-hold.result c.self.invariant (found c) refl refl
    (rw c.unwrap-hold.ensures at c.remove.ensures.items) c.remove.ensures.capacity

pub returns-clause-head : goal.returns-clause-head
returns-clause-head c =
    subst (λ (s : HeldState). c.unwrap-hold.result.head ≡ head_of (hold_of c.args.chain.now s.chains)) c.self.view_is
    (sym (ap head_of (hold_is c.args.chain.now c.self.inside.lists c.self.inside.holds.items c.place_of-place.result c.unwrap-hold.result (found c))))

pub returns-clause-after : goal.returns-clause-after
returns-clause-after c =
    let items = rw c.unwrap-hold.ensures at c.remove.ensures.items in
    let chains = ap (all_held c.self.inside.lists) items
    ∙ sym (without_is c.args.chain.now c.self.inside.lists c.self.inside.holds.items c.place_of-place.result c.unwrap-hold.result (found c))
    ∙ ap (λ (s : HeldState). without_hold c.args.chain.now s.chains) c.self.view_is in
    ap₂ (λ (n : ℕ) (hs : List HeldChain). let s : HeldState = record { size = n; chains = hs } in s) (ap (λ (s : HeldState). s.size) c.self.view_is) chains
