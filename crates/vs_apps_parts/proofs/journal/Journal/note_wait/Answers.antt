use Rattle.std.proofs.Common.{◌<◌, subst, sym}
use Rattle.vs_apps_parts.{specs.Sums.JournalState, proofs.Entries.{space_noted, summed_wait}}
use Rattle.vs_apps_parts.proofs.journal.Journal.note_wait.Goals as goal

pub invariant_of-self : goal.invariant_of-self
invariant_of-self c =
    let old = c.self.inside in
    let room : 0 < old.room = subst (λ (j : JournalState). 0 < j.room) (sym c.self.view_is) c.requires.room in (
      summed_wait old.count old.bytes.items old.entries.items _ c.self.invariant.0 c.args.app c.args.why c.args.last _ c.add_wait.ensures.noted,
      space_noted _ _ _ _ _ _ _ c.self.invariant.1 room c.add_wait.ensures.room.0 c.add_wait.ensures.room.1,
    )
