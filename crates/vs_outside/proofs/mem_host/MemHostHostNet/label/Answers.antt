use Rattle.std.{proofs.Common.{◌≡◌, true, sym, refl, ap, subst, ◌∙◌, arith}, specs.Prelude.is_none}
use Rattle.vs_outside.{specs.{Host.{HostContents, IsOpen}, HostProgram.HostMemory, contracts.mem_host.MemHost.the_view}, proofs.Streams.{labels_one, after_labels}}
use Rattle.vs_outside.proofs.mem_host.MemHostHostNet.label.Goals as goal

pub push_reserved-requires : goal.push_reserved-requires
push_reserved-requires c =
    let none : is_none c.index_mut.result.now.label ≡ true = sym c.set_label.ensures.first ∙ c.if-not-set_label.false in
    let one = labels_one c.args.id c.args.self.now.contents c.self.inside.streams.items c.index_mut.result.now c.set_label.new.self
    c.requires
    (ap (λ (m : HostMemory). m.contents.streams) c.self.view_is) c.index_mut.ensures.value none (rw c.set_label.ensures.after refl)
    in
    omega (arith, one, c.self.invariant)

pub invariant_of-self-2 : goal.invariant_of-self-2
invariant_of-self-2 c =
    let none : is_none c.index_mut.result.now.label ≡ true = sym c.set_label.ensures.first ∙ c.if-not-set_label.false in
    let one = labels_one c.args.id c.args.self.now.contents c.self.inside.streams.items c.index_mut.result.now c.set_label.new.self
    c.requires
    (ap (λ (m : HostMemory). m.contents.streams) c.self.view_is) c.index_mut.ensures.value none (rw c.set_label.ensures.after refl)
    in
    omega (arith, one, c.self.invariant, c.push_reserved.ensures.len, c.push_reserved.ensures.capacity)

pub returns : goal.returns
returns c =
    let opened = subst (λ (m : HostMemory). IsOpen c.args.id m.contents) (sym c.self.view_is) c.requires in
    let none : is_none c.index_mut.result.now.label ≡ true = sym c.set_label.ensures.first ∙ c.if-not-set_label.false in
    rw (c.push_reserved.ensures.items, ← c.self.view_is, c.set_label.ensures.after, c.one_more-self-inside.ensures)
    (ap (λ (contents : HostContents). record { contents = contents; faults = c.self.inside.faults })
    (after_labels c.args.id c.args.flow (the_view c.self.inside).contents c.index_mut.result.now opened c.index_mut.ensures.value none))
