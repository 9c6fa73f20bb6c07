use Rattle.std.proofs.{Common.{◌≡◌, ◌≤◌, Some, None, length, get_or, sym, subst, arith, take}, lemmas.{Grind.common_steps, List.{Elements.All-more, take_all}, Option.slice_get_cases}}
use Rattle.std.{proofs.lemmas.Option.{slice_get_within, get_or_from_slice_get}, specs.List.{All, slice_get}}
use Rattle.vs_driver_parts.specs.{Owing.OwesAsNoted, State.DriverEntry}
use Rattle.vs_driver_parts.proofs.owing.looked_at_all.Goals as goal

pub loop-entry-smaller : goal.loop-entry-smaller
loop-entry-smaller c =
    let within = slice_get_within c.args.table.now.entries c.loop-entry.place c.in-Some.entry.now (sym c.in-Some.ensures.entry) in
    omega (arith, within)

pub loop-entry-preserved : goal.loop-entry-preserved
loop-entry-preserved c =
    let es = c.args.table.now.entries in
    let n = c.loop-entry.place in
    let e = c.in-Some.entry.now in
    let P : DriverEntry → Type 0 = OwesAsNoted c.noted-owes.result in
    let is : slice_get es n ≡ Some e = sym c.in-Some.ensures.entry in
    let within = slice_get_within es n e is in
    record {
      noted = All-more P es n e within
          (λ k d lt off. c.loop-entry.invariant.noted k d lt (c.noted-owes.ensures.still (get_or (take n es) k d).slot off))
          (subst P (sym (get_or_from_slice_get es n e e is)) c.noted-owes.ensures.none);
      within = omega (arith, within);
    }

pub returns : goal.returns
returns c =
    let es = c.args.table.now.entries in
    let n = c.loop-entry.place in
    let none : slice_get es n ≡ None = sym c.in_default.ensures.entry in
    let past : length es ≤ n = grind (arith, common_steps, slice_get_cases es n, none) in
    subst (All (OwesAsNoted c.loop-entry.owes)) (take_all n es past) c.loop-entry.invariant.noted
