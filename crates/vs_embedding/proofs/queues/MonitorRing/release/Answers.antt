use Rattle.std.proofs.Common.{◌∙◌, ℕ, List, sym, ap, ap₂, subst, Contains}
use Rattle.vs_ring_port.specs.{declared.device_ring.Chain.Chain, Chains.without}
use Rattle.vs_embedding.{specs.Ring.RingState, proofs.Held.found_if_held, proofs.Held.without_found}
use Rattle.vs_embedding.proofs.queues.MonitorRing.release.Goals as goal

pub unwrap-place-requires : goal.unwrap-place-requires
unwrap-place-requires g c =
    rw c.find.ensures (found_if_held c.args.chain.now c.self.inside.held.items
    (subst (λ (s : RingState). Contains s.held c.args.chain.now) (sym c.self.view_is) c.requires))

pub returns : goal.returns
returns g c =
    let items = rw c.unwrap-returned.ensures at c.remove.ensures.items in
    let held = items ∙ sym (without_found c.args.chain.now c.self.inside.held.items c.unwrap-place.result (sym c.find.ensures ∙ c.unwrap-place.ensures))
    ∙ ap (λ (s : RingState). without c.args.chain.now s.held) c.self.view_is in
    let size = ap (λ (s : RingState). s.size) c.self.view_is in
    let room = c.remove.ensures.capacity ∙ ap (λ (s : RingState). s.room) c.self.view_is in
    ap₂ (λ (n : ℕ) (hs : List Chain). let s : RingState = record { size = c.self.inside.size; held = hs; room = n } in s) room held
    ∙ ap (λ (n : ℕ). let s : RingState = record {
      size = n;
      held = without c.args.chain.now c.args.self.now.held;
      room = c.args.self.now.room;
    } in s) size
