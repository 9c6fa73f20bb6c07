use Rattle.vs_run.proofs.Endings.{gave_part, gave_some, has_line_behind}
use Rattle.vs_run.proofs.hostile.hostile_lines.Goals as goal

pub returns-in-Err-Sink : goal.returns-in-Err-Sink
returns-in-Err-Sink g c =
    gave_part (g.K.Sink.contents c.args.out.now) (g.K.Sink.contents c.hostile.new.out) (g.K.Sink.faults c.args.out.now) (g.K.Sink.faults c.hostile.new.out) _ _
    c.in-Err-Sink.field-0 c.in-Err-Sink.field-0-is c.in-Err-Sink.ensures.lines

pub returns-in-Err-OutOfMemory : goal.returns-in-Err-OutOfMemory
returns-in-Err-OutOfMemory g c =
    gave_some (g.K.Sink.contents c.args.out.now) (g.K.Sink.contents c.hostile.new.out) (g.K.Sink.contents c.no_memory.new.out)
    (g.K.Sink.faults c.args.out.now) (g.K.Sink.faults c.hostile.new.out) (g.K.Sink.faults c.no_memory.new.out) _ _ c.no_memory.result
    c.in-Err-OutOfMemory.field-0 (has_line_behind _ _ _) c.in-Err-OutOfMemory.field-0-is c.in-Err-OutOfMemory.ensures.lines c.no_memory.ensures
