use Rattle.std.proofs.{Common.{◌<◌, [], arith, length, subst, sym}, lemmas.Bool.Decides.nat_tests}
use Rattle.vs_apps_parts.{specs.Sums.{JournalState, given_on}, proofs.Entries.{space_given, summed_receive}}
use Rattle.vs_apps_parts.proofs.journal.Journal.note_received.Goals as goal

pub invariant_of-self : goal.invariant_of-self
invariant_of-self c =
    let old = c.self.inside in
    let is = c.self.invariant.0 in
    let room : 0 < old.room = subst (λ (j : JournalState). 0 < j.room) (sym c.self.view_is) c.requires.room in (
      summed_receive old.count old.bytes.items old.entries.items _ is c.args.app c.args.id c.args.len old.count c.args.answer c.args.bytes.now
          c.requires.count is.counts _ (λ other apart. c.add_piece.ensures.others other (grind (arith, nat_tests, apart)))
          (c.add_piece.ensures.kept (given_on c.args.id old.bytes.items old.entries.items) (is.exact c.args.id)) c.add_called.result _
          c.then-self-inside.result.items (c.add_called.ensures.told [] []) c.add_called.ensures.noted c.then-self-inside.ensures,
      space_given _ _ _ _ _ _ _ c.self.invariant.1 room c.add_called.ensures.room.0 c.add_called.ensures.room.1 _
          (length c.args.bytes.now) c.add_piece.ensures.spare c.requires.few,
    )

pub returns-clause-told : goal.returns-clause-told
returns-clause-told c = λ script. c.add_called.ensures.told script []
