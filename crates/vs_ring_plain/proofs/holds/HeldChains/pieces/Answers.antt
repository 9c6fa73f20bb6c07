use Rattle.std.proofs.Common.{◌≡◌, List, Contains, map, sym, ap, ◌∙◌, subst}
use Rattle.vs_ring_port.specs.declared.device_ring.Chain.{Chain}
use Rattle.vs_ring_plain.specs.{declared.holds.HeldPieces.HeldPieces, Device.{HeldChain, hold_of, pieces_of}, PieceTable.{HeldState, list_at, pieces_in}}
use Rattle.vs_ring_plain.proofs.HeldChains.{IsFound, chains-all_held, pieces_found}
use Rattle.vs_ring_plain.proofs.holds.HeldChains.pieces.Goals as goal

pub place_of-place-requires : goal.place_of-place-requires
place_of-place-requires c =
    subst (λ (cs : List Chain). Contains cs c.args.chain.now) (chains-all_held c.self.inside.lists c.self.inside.holds.items)
    (subst (λ (s : HeldState). Contains (map (λ (h : HeldChain). h.chain) s.chains) c.args.chain.now) (sym c.self.view_is) c.requires)

pub returns-in-One : goal.returns-in-One
returns-in-One c =
    let is : IsFound c.args.chain.now c.self.inside.holds.items c.place_of-place.result c.index.result.now =
    record { found = c.place_of-place.ensures.found; there = c.index.ensures } in
    subst (λ (s : HeldState). c.from_ref.result.now ≡ pieces_of (hold_of c.args.chain.now s.chains)) c.self.view_is
    (c.from_ref.ensures.value ∙ sym (ap (λ (p : HeldPieces). pieces_in p (list_at c.args.chain.now.queue c.self.inside.lists)) c.in-One.is)
    ∙ sym (pieces_found c.args.chain.now c.self.inside.lists c.self.inside.holds.items c.place_of-place.result c.index.result.now is))

pub returns-in-Listed : goal.returns-in-Listed
returns-in-Listed c =
    let is : IsFound c.args.chain.now c.self.inside.holds.items c.place_of-place.result c.index.result.now =
    record { found = c.place_of-place.ensures.found; there = c.index.ensures } in
    subst (λ (s : HeldState). c.at.result.now ≡ pieces_of (hold_of c.args.chain.now s.chains)) c.self.view_is
    (c.at.ensures ∙ sym (ap (λ (p : HeldPieces). pieces_in p (list_at c.args.chain.now.queue c.self.inside.lists)) c.in-Listed.is)
    ∙ sym (pieces_found c.args.chain.now c.self.inside.lists c.self.inside.holds.items c.place_of-place.result c.index.result.now is))
