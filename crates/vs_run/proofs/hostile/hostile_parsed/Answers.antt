use Rattle.std.proofs.Common.{Ok, List, map, subst, sym}
use Rattle.vs_hostile.specs.Answer.{answer_to, attack_of}
use Rattle.vs_script.specs.{Script.{numbered_hostile, script_view}, declared.{hostile.HostileLine.HostileLine, script.{Numbered.Numbered, Script.Script}}}
use Rattle.vs_run.{specs.Ends.EndsAnswer, proofs.Endings.gave_nothing}
use Rattle.vs_run.proofs.hostile.hostile_parsed.Goals as goal

pub returns-in-Run : goal.returns-in-Run
returns-in-Run g c =
    subst (λ (s : Script). EndsAnswer (g.K.Sink.contents c.args.out.now) (g.K.Sink.contents c.args.out.now) (g.K.Sink.faults c.args.out.now)
    (g.K.Sink.faults c.args.out.now) (answer_to (Ok (script_view s))).lines (answer_to (Ok (script_view s))).status 0) (sym c.in-Run.is)
    (gave_nothing (g.K.Sink.contents c.args.out.now) (g.K.Sink.faults c.args.out.now))

pub returns-in-Play : goal.returns-in-Play
returns-in-Play g c =
    subst (λ (s : Script). EndsAnswer (g.K.Sink.contents c.args.out.now) (g.K.Sink.contents c.args.out.now) (g.K.Sink.faults c.args.out.now)
    (g.K.Sink.faults c.args.out.now) (answer_to (Ok (script_view s))).lines (answer_to (Ok (script_view s))).status 0) (sym c.in-Play.is)
    (gave_nothing (g.K.Sink.contents c.args.out.now) (g.K.Sink.faults c.args.out.now))

pub returns-in-Hostile : goal.returns-in-Hostile
returns-in-Hostile g c =
    subst (λ (s : Script). EndsAnswer (g.K.Sink.contents c.args.out.now) (g.K.Sink.contents c.hostile_lines.new.out) (g.K.Sink.faults c.args.out.now)
    (g.K.Sink.faults c.hostile_lines.new.out) (answer_to (Ok (script_view s))).lines (answer_to (Ok (script_view s))).status c.hostile_lines.result)
    (sym c.in-Hostile.is)
    (subst (λ (xs : List (Numbered HostileLine)). EndsAnswer (g.K.Sink.contents c.args.out.now) (g.K.Sink.contents c.hostile_lines.new.out)
    (g.K.Sink.faults c.args.out.now) (g.K.Sink.faults c.hostile_lines.new.out) (attack_of (map numbered_hostile xs)).lines
    (attack_of (map numbered_hostile xs)).status c.hostile_lines.result) c.deref.ensures.value c.hostile_lines.ensures)
