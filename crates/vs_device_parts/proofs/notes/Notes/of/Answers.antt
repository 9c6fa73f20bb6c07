use Rattle.std.proofs.Common.{◌≡◌, ◌∙◌, ap, ◌++◌, ◌∷◌, [], Some, List, take, sym, subst}
use Rattle.std.specs.List.{slice_get}
use Rattle.vs_device_parts.{specs.{Noted.{AreRising, notes_of}, declared.notes.Note.Note}, proofs.Noting.{all_noted, next_noted, noted_within, notes_rise}}
use Rattle.vs_device_parts.proofs.notes.Notes.of.Goals as goal

pub loop-entry-preserved : goal.loop-entry-preserved
loop-entry-preserved c =
    let t = c.args.table.now in
    let is : slice_get t.entries c.loop-entry.place ≡ Some c.in-Some.entry.now = sym c.in-Some.ensures.entry in
    record {
      items = c.push.ensures.items
          ∙ ap (λ (ns : List Note). ns ++ c.of.result ∷ []) c.loop-entry.invariant.items
          ∙ ap (λ (n : Note). take c.loop-entry.place (notes_of t) ++ n ∷ []) c.of.ensures
          ∙ sym (next_noted t.entries c.loop-entry.place c.in-Some.entry.now is);
      within = noted_within t c.loop-entry.place c.in-Some.entry.now is;
    }

pub invariant_of-result : goal.invariant_of-result
invariant_of-result c =
    let t = c.args.table.now in
    let P : List Note → Type 0 = λ ns. AreRising ns in
    subst P (sym (all_noted t c.loop-entry.place c.loop-entry.notes.items c.loop-entry.invariant.items c.loop-entry.invariant.within (sym c.in_default.ensures.entry)))
    (notes_rise t c.in_default.ensures.sound)

pub returns : goal.returns
returns c =
    all_noted c.args.table.now c.loop-entry.place c.loop-entry.notes.items c.loop-entry.invariant.items c.loop-entry.invariant.within (sym c.in_default.ensures.entry)
