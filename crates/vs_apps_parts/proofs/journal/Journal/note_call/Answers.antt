use Rattle.std.proofs.Common.{◌<◌, subst, sym}
use Rattle.vs_apps_parts.{specs.{Sums.JournalState, Told.wait_of}, proofs.Entries.{space_noted, summed_call}}
use Rattle.vs_apps_parts.proofs.journal.Journal.note_call.Goals as goal

pub invariant_of-self : goal.invariant_of-self
invariant_of-self c =
    let old = c.self.inside in
    let room : 0 < old.room = subst (λ (j : JournalState). 0 < j.room) (sym c.self.view_is) c.requires.room in (
      summed_call old.count old.bytes.items old.entries.items _ c.self.invariant.0 c.args.app c.args.called (wait_of c.add_called.result) _ c.requires.other
          c.add_called.ensures.noted,
      space_noted _ _ _ _ _ _ _ c.self.invariant.1 room c.add_called.ensures.room.0 c.add_called.ensures.room.1,
    )
