use Rattle.std.proofs.Common.{sym, ◌∙◌}
use Rattle.vs_script.specs.App.{instruction_view}
use Rattle.vs_apps_parts.specs.Told.{told_list}
use Rattle.laws_apps.{specs.Calls.run_of, proofs.Stepping.{moves_as, waits_as}}
use Rattle.vs_apps.proofs.steps.carry_out.Goals as goal

pub returns-in-Some-clause-acts : goal.returns-in-Some-clause-acts
returns-in-Some-clause-acts g c = λ script found.
    let contents = g.R.DriverRing.contents in
    let made = c.make_calls-heard in
    waits_as script c.args.k (instruction_view c.args.instruction.now) (told_list made.result)
    (run_of c.args.driver.now (contents c.args.ring.now) c.args.apps.now.items c.args.journal.now)
    (run_of made.new.driver (contents made.new.ring) c.args.apps.now.items made.new.journal)
    c.args.state c.in-Some.why c.note_wait-place.result c.note_wait-place.new.self.entries c.note_wait-place.new.self.bytes c.note_wait-place.ensures.bytes
    c.requires.state found
    (made.ensures.calls script c.args.apps.now.items found) (sym c.wait.ensures ∙ c.in-Some.is) c.note_wait-place.ensures.place c.note_wait-place.ensures.entries

pub returns-in-None-clause-acts : goal.returns-in-None-clause-acts
returns-in-None-clause-acts g c = λ script found.
    let contents = g.R.DriverRing.contents in
    let made = c.make_calls-heard in
    moves_as script c.args.k (instruction_view c.args.instruction.now) (told_list made.result)
    (run_of c.args.driver.now (contents c.args.ring.now) c.args.apps.now.items c.args.journal.now)
    (run_of made.new.driver (contents made.new.ring) c.args.apps.now.items made.new.journal)
    c.args.state c.after.result c.waiting.result c.requires.state found
    (made.ensures.calls script c.args.apps.now.items found) (sym c.wait.ensures ∙ c.in-None.is) c.after.ensures c.waiting.ensures
