use Rattle.std.proofs.Common.{Ok, List, map, subst, sym}
use Rattle.vs_play.specs.Answer.{answer_to, events_in, printed}
use Rattle.vs_script.specs.{Script.{numbered_event, script_view}, declared.{play.PlayLine.PlayLine, script.{Numbered.Numbered, Script.Script}}}
use Rattle.vs_run.{specs.Ends.EndsAnswer, proofs.Endings.gave_nothing}
use Rattle.vs_run.proofs.play.play_parsed.Goals as goal

pub returns-in-Run : goal.returns-in-Run
returns-in-Run g c =
    subst (λ (s : Script). EndsAnswer (g.K.Sink.contents c.args.out.now) (g.K.Sink.contents c.args.out.now) (g.K.Sink.faults c.args.out.now)
    (g.K.Sink.faults c.args.out.now) (answer_to c.args.queue c.args.first (Ok (script_view s))).lines (answer_to c.args.queue c.args.first (Ok (script_view s))).status 0) (sym c.in-Run.is)
    (gave_nothing (g.K.Sink.contents c.args.out.now) (g.K.Sink.faults c.args.out.now))

pub returns-in-Hostile : goal.returns-in-Hostile
returns-in-Hostile g c =
    subst (λ (s : Script). EndsAnswer (g.K.Sink.contents c.args.out.now) (g.K.Sink.contents c.args.out.now) (g.K.Sink.faults c.args.out.now)
    (g.K.Sink.faults c.args.out.now) (answer_to c.args.queue c.args.first (Ok (script_view s))).lines (answer_to c.args.queue c.args.first (Ok (script_view s))).status 0) (sym c.in-Hostile.is)
    (gave_nothing (g.K.Sink.contents c.args.out.now) (g.K.Sink.faults c.args.out.now))

pub returns-in-Play : goal.returns-in-Play
returns-in-Play g c =
    subst (λ (s : Script). EndsAnswer (g.K.Sink.contents c.args.out.now) (g.K.Sink.contents c.play_lines.new.out) (g.K.Sink.faults c.args.out.now)
    (g.K.Sink.faults c.play_lines.new.out) (answer_to c.args.queue c.args.first (Ok (script_view s))).lines (answer_to c.args.queue c.args.first (Ok (script_view s))).status
    c.play_lines.result) (sym c.in-Play.is)
    (subst (λ (xs : List (Numbered PlayLine)). EndsAnswer (g.K.Sink.contents c.args.out.now) (g.K.Sink.contents c.play_lines.new.out)
    (g.K.Sink.faults c.args.out.now) (g.K.Sink.faults c.play_lines.new.out) (printed c.args.queue c.args.first (events_in (map numbered_event xs))) 0
    c.play_lines.result) c.deref.ensures.value c.play_lines.ensures)
