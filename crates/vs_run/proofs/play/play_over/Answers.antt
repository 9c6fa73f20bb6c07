use Rattle.std.proofs.Common.{Ok, Err, ap, map, subst}
use Rattle.vs_play.specs.Answer.{events_in, printed}
use Rattle.vs_report.specs.Gives.{GivesLines}
use Rattle.vs_ring_list.specs.Ends.{Ends}
use Rattle.vs_script.specs.Script.{numbered_event}
use Rattle.vs_run.proofs.Endings.{gave_all, gave_none, gave_part, gave_some, has_line_behind}
use Rattle.vs_run.proofs.play.play_over.Goals as goal

pub returns-in-Err-OutOfMemory : goal.returns-in-Err-OutOfMemory
returns-in-Err-OutOfMemory g c =
    gave_some (g.K.Sink.contents c.args.out.now) (g.K.Sink.contents c.play.new.out) (g.K.Sink.contents c.no_memory-in-Err-OutOfMemory.new.out)
    (g.K.Sink.faults c.args.out.now) (g.K.Sink.faults c.play.new.out) (g.K.Sink.faults c.no_memory-in-Err-OutOfMemory.new.out) _ _
    c.no_memory-in-Err-OutOfMemory.result c.in-Err-OutOfMemory.field-0 (has_line_behind _ _ _)
    c.in-Err-OutOfMemory.field-0-is
    (subst (λ n. GivesLines (g.K.Sink.contents c.args.out.now) (g.K.Sink.contents c.play.new.out) (g.K.Sink.faults c.args.out.now) (g.K.Sink.faults c.play.new.out)
    (printed n c.args.first (events_in (map numbered_event c.args.lines.now))) (Err c.in-Err-OutOfMemory.field-0)) (ap (λ (e : Ends). e.lists.size) c.in-Ok.ensures) c.in-Err-OutOfMemory.ensures)
    c.no_memory-in-Err-OutOfMemory.ensures

pub returns-in_default : goal.returns-in_default
returns-in_default g c =
    gave_none (g.K.Sink.contents c.args.out.now) (g.K.Sink.contents c.no_memory.new.out) (g.K.Sink.faults c.args.out.now)
    (g.K.Sink.faults c.no_memory.new.out) (printed c.args.queue c.args.first (events_in (map numbered_event c.args.lines.now))) 0 c.no_memory.result
    (has_line_behind _ _ _) c.no_memory.ensures

pub returns-in-Ok-play : goal.returns-in-Ok-play
returns-in-Ok-play g c =
    gave_all (g.K.Sink.contents c.args.out.now) (g.K.Sink.contents c.play.new.out) (g.K.Sink.faults c.args.out.now) (g.K.Sink.faults c.play.new.out)
    (printed c.args.queue c.args.first (events_in (map numbered_event c.args.lines.now))) 0
    (subst (λ n. GivesLines (g.K.Sink.contents c.args.out.now) (g.K.Sink.contents c.play.new.out) (g.K.Sink.faults c.args.out.now) (g.K.Sink.faults c.play.new.out)
    (printed n c.args.first (events_in (map numbered_event c.args.lines.now))) (Ok tt)) (ap (λ (e : Ends). e.lists.size) c.in-Ok.ensures) c.in-Ok-play.ensures)

pub returns-in-Err-Sink : goal.returns-in-Err-Sink
returns-in-Err-Sink g c =
    gave_part (g.K.Sink.contents c.args.out.now) (g.K.Sink.contents c.play.new.out) (g.K.Sink.faults c.args.out.now) (g.K.Sink.faults c.play.new.out)
    (printed c.args.queue c.args.first (events_in (map numbered_event c.args.lines.now))) 0 c.in-Err-Sink.field-0 c.in-Err-Sink.field-0-is
    (subst (λ n. GivesLines (g.K.Sink.contents c.args.out.now) (g.K.Sink.contents c.play.new.out) (g.K.Sink.faults c.args.out.now) (g.K.Sink.faults c.play.new.out)
    (printed n c.args.first (events_in (map numbered_event c.args.lines.now))) (Err c.in-Err-Sink.field-0)) (ap (λ (e : Ends). e.lists.size) c.in-Ok.ensures) c.in-Err-Sink.ensures)
