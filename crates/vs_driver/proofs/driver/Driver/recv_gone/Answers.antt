use Rattle.std.{proofs.Common.{◌≡◌, ℕ, List, Some, None, length, take, drop, ◌++◌, ◌==◌, sym, ap, ◌∙◌, rules}, specs.List.find}
use Rattle.vs_driver_parts.{specs.{State.{DriverState, GoneConnection}, Connections.is_at_end}, proofs.GoneChanges.read_none}
use Rattle.vs_driver.{specs.contracts.driver.Driver.the_view, proofs.{Reading.{gone_some, gone_ended, gone_reset}, driver.Driver.recv_gone.Goals.then-not-is_empty}}
use Rattle.vs_driver.proofs.driver.Driver.recv_gone.Goals.{else-not-is_empty+then-at_end, else-not-is_empty+else-at_end}
use Rattle.vs_driver_parts.specs.declared.answers.Received.TheVariants as got
use Rattle.vs_driver.proofs.driver.Driver.recv_gone.Goals as goal

pub returns-in_default-clause-state : goal.returns-in_default-clause-state
returns-in_default-clause-state c =
    let s : DriverState = the_view c.self.inside in
    let none : find (λ (x : GoneConnection). x.id == c.args.id) c.self.inside.slots.gone ≡ None = search rules in
    rw (← c.self.view_is) (ap (λ (gone : List GoneConnection). record s { gone = gone }) (sym (read_none c.args.id s.gone (length c.args.out.now) none)))

pub returns-clause-answer : goal.returns-clause-answer
returns-clause-answer c =
    let g : GoneConnection = c.in-Some.gone.now in
    let there : find (λ (x : GoneConnection). x.id == c.args.id) c.self.inside.slots.gone ≡ Some g = search rules in
    let at_end : c.is_at_end-at_end.result ≡ is_at_end g.end = c.is_at_end-at_end.ensures.end g.end c.end.ensures in
    rw (← c.self.view_is, there) (elim c.if-not-is_empty.branch [
      | then-not-is_empty w ↦ w.result-is ∙ (ap (λ (n : ℕ). got.Got n) (c.read_gone-count.ensures.count g there) ∙ sym
          (gone_some (length c.args.out.now) g (search rules)))
      | else-not-is_empty+then-at_end w ↦ w.result-is ∙ sym (gone_ended (length c.args.out.now) g (search rules) (search rules))
      | else-not-is_empty+else-at_end w ↦ w.result-is ∙ sym (gone_reset (length c.args.out.now) g (search rules) (search rules))
    ])

pub returns-clause-bytes : goal.returns-clause-bytes
returns-clause-bytes c =
    let g : GoneConnection = c.in-Some.gone.now in
    let there : find (λ (x : GoneConnection). x.id == c.args.id) c.self.inside.slots.gone ≡ Some g = search rules in
    rw (← c.self.view_is, there) (c.read_gone-count.ensures.moved g there
    ∙ ap (λ (n : ℕ). take n g.unread ++ drop n c.args.out.now) (c.read_gone-count.ensures.count g there))
