use Rattle.std.proofs.Common.{[], ◌∷◌, Err, None, Ok, arith, subst}
use Rattle.vs_device_parts.specs.declared.answers.Counters.{Counters}
use Rattle.vs_report.specs.{Gives.GivesLines, Report.counts_text}
use Rattle.vs_hostile.proofs.Attacks.{open_given, report_given, report_until_device, report_until_streams, streams_given}
use Rattle.vs_hostile.proofs.run.give_report.Goals as goal

pub returns-in_err-give_device_open : goal.returns-in_err-give_device_open
returns-in_err-give_device_open g c =
    report_until_device c.args.world.now (g.K.Sink.contents c.args.out.now) (g.K.Sink.contents c.give_device_open.new.out)
    (g.K.Sink.faults c.args.out.now) (g.K.Sink.faults c.give_device_open.new.out)
    c.in_err-give_device_open.field-0.0 c.from_residual.result (grind (arith, c.from_residual.ensures)) (open_given c.args.world.now c.entries.result (g.K.Sink.contents c.args.out.now) (g.K.Sink.contents c.give_device_open.new.out)
    (g.K.Sink.faults c.args.out.now) (g.K.Sink.faults c.give_device_open.new.out) (Err c.in_err-give_device_open.field-0.0) c.entries.ensures c.in_err-give_device_open.ensures)

pub returns-in_err-give_streams : goal.returns-in_err-give_streams
returns-in_err-give_streams g c =
    report_until_streams c.args.world.now (g.K.Sink.contents c.args.out.now) (g.K.Sink.contents c.give_streams.new.out)
    (g.K.Sink.faults c.args.out.now) (g.K.Sink.faults c.give_streams.new.out)
    (g.K.Sink.contents c.give_device_open.new.out) (g.K.Sink.faults c.give_device_open.new.out)
    c.in_err-give_streams.field-0.0 c.from_residual-in_err-give_streams.result (grind (arith, c.from_residual-in_err-give_streams.ensures))
    (open_given c.args.world.now c.entries.result (g.K.Sink.contents c.args.out.now) (g.K.Sink.contents c.give_device_open.new.out)
    (g.K.Sink.faults c.args.out.now) (g.K.Sink.faults c.give_device_open.new.out) (Ok tt) c.entries.ensures c.in_ok-give_device_open.ensures)
    (streams_given c.args.world.now c.streams.result.now (g.K.Sink.contents c.give_device_open.new.out)
    (g.K.Sink.contents c.give_streams.new.out) (g.K.Sink.faults c.give_device_open.new.out) (g.K.Sink.faults c.give_streams.new.out)
    (Err c.in_err-give_streams.field-0.0) c.streams.ensures c.in_err-give_streams.ensures)

pub returns : goal.returns
returns g c =
    report_given c.args.world.now (g.K.Sink.contents c.args.out.now) (g.K.Sink.contents c.give_counts.new.out)
    (g.K.Sink.faults c.args.out.now) (g.K.Sink.faults c.give_counts.new.out)
    (g.K.Sink.contents c.give_device_open.new.out) (g.K.Sink.contents c.give_streams.new.out)
    (g.K.Sink.faults c.give_device_open.new.out) (g.K.Sink.faults c.give_streams.new.out)
    c.give_counts.result
    (open_given c.args.world.now c.entries.result (g.K.Sink.contents c.args.out.now) (g.K.Sink.contents c.give_device_open.new.out)
    (g.K.Sink.faults c.args.out.now) (g.K.Sink.faults c.give_device_open.new.out) (Ok tt) c.entries.ensures c.in_ok-give_device_open.ensures)
    (streams_given c.args.world.now c.streams.result.now (g.K.Sink.contents c.give_device_open.new.out)
    (g.K.Sink.contents c.give_streams.new.out) (g.K.Sink.faults c.give_device_open.new.out) (g.K.Sink.faults c.give_streams.new.out)
    (Ok tt) c.streams.ensures c.in_ok-give_streams.ensures)
    (subst (λ (k : Counters). GivesLines (g.K.Sink.contents c.give_streams.new.out) (g.K.Sink.contents c.give_counts.new.out)
    (g.K.Sink.faults c.give_streams.new.out) (g.K.Sink.faults c.give_counts.new.out) (counts_text k None ∷ []) c.give_counts.result)
    c.counters.ensures c.give_counts.ensures)
