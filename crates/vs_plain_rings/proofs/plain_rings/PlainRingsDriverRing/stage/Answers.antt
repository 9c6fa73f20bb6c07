use Rattle.std.proofs.Common.{◌≤◌, List, ℕ, length, subst}
use Rattle.vs_plain_rings.proofs.Rings.{tied_staged}
use Rattle.vs_plain_rings.proofs.plain_rings.PlainRingsDriverRing.stage.Goals as goal

pub invariant_of-self : goal.invariant_of-self
invariant_of-self c =
    tied_staged c.self.inside.parts c.self.inside.journal.calls c.args.self.now c.self.view_is c.self.invariant c.args.queue
    c.args.page c.stage.new.self
    c.then-journal.result.calls c.in-Ok.ensures.ok c.then-journal.ensures
    (subst (λ (bytes : List ℕ). length bytes ≤ 4096) c.bytes-within.ensures.value c.bytes-within.ensures.within) c.requires.header
    c.requires.packet c.in-Ok.ensures.room
