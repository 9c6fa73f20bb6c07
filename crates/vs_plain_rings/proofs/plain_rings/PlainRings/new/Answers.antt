use Rattle.std.proofs.Common.{◌≡◌, cond, Some, None, ap, ◌∙◌, sym, subst}
use Rattle.vs_ring_list.specs.Ends.{empty_ends}
use Rattle.laws_plain_rings.{specs.{Calls.ends_by, Exposed.first_ends, Parts.{PartsState, new_parts}, Tie.IsTiedTo}, proofs.Starting.told_new}
use Rattle.vs_plain_rings.proofs.Rings.{first_is}
use Rattle.vs_plain_rings.proofs.plain_rings.PlainRings.new.Goals as goal

ends_are : (c : goal.In_ok-parts) → ends_by c.args.n c.first_journal-journal.result.calls ≡ first_ends c.args.mem c.args.base c.args.n
ends_are c =
    first_is c.is_alone.result c.args.n c.first_journal-journal.result.calls c.first_journal-journal.ensures
    ∙ ap (λ b. cond b (Some (empty_ends c.args.n)) None) c.is_alone.ensures.exact

pub invariant_of-result : goal.invariant_of-result
invariant_of-result c =
    subst (λ (p : PartsState). IsTiedTo p (ends_by p.device.size c.first_journal-journal.result.calls)) (sym c.in_ok-parts.ensures)
    (subst (IsTiedTo (new_parts c.args.mem c.args.base c.args.n c.args.indirect)) (sym (ends_are c))
    (told_new c.args.mem c.args.base c.args.n c.args.indirect c.requires.nonzero c.requires.limit c.is_alone.ensures.fits c.requires.from))

pub returns-clause-ends : goal.returns-clause-ends
returns-clause-ends c =
    ap (λ (p : PartsState). ends_by p.device.size c.first_journal-journal.result.calls) c.in_ok-parts.ensures ∙ ends_are c
