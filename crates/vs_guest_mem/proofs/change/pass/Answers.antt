use Rattle.std.proofs.{Common.sym, Common.ap, Common.◌∙◌, RetainMut.retains_is_retain_mut}
use Rattle.vs_guest_mem.specs.Memory.{is_later, nearer}
use Rattle.vs_guest_mem.proofs.change.pass.Goals as goal

pub returns : goal.returns
returns c = retains_is_retain_mut _ is_later nearer (λ s x b t y h. let met = h.called.met.0 in (
  met.0
      ∙ ap is_later h.shows,
  sym h.leaves ∙ met.1 ∙ ap nearer h.shows,
)) _ _ _ c.retain_mut.ensures.filtered
