use Rattle.std.proofs.Common.{arith}
use Rattle.vs_report.proofs.Reports.{report_until_guest, report_until_device, report_until_streams, report_given}
use Rattle.vs_report.proofs.giving.give_report.Goals as goal

pub returns-in_err-give_guest_open : goal.returns-in_err-give_guest_open
returns-in_err-give_guest_open g c =
    report_until_guest c.args.totals.now c.args.streams.now (g.K.Sink.contents c.args.out.now) (g.K.Sink.contents c.give_guest_open.new.out) (g.K.Sink.faults c.args.out.now) (g.K.Sink.faults c.give_guest_open.new.out)
    c.in_err-give_guest_open.field-0.0 c.from_residual.result (grind (arith, c.from_residual.ensures)) c.in_err-give_guest_open.ensures

pub returns-in_err-give_device_open : goal.returns-in_err-give_device_open
returns-in_err-give_device_open g c =
    report_until_device c.args.totals.now c.args.streams.now (g.K.Sink.contents c.args.out.now) (g.K.Sink.contents c.give_device_open.new.out) (g.K.Sink.faults c.args.out.now) (g.K.Sink.faults c.give_device_open.new.out) (g.K.Sink.contents c.give_guest_open.new.out) (g.K.Sink.faults c.give_guest_open.new.out)
    c.in_err-give_device_open.field-0.0 c.from_residual-in_err-give_device_open.result (grind (arith, c.from_residual-in_err-give_device_open.ensures))
    c.in_ok-give_guest_open.ensures c.in_err-give_device_open.ensures

pub returns-in_err-give_streams : goal.returns-in_err-give_streams
returns-in_err-give_streams g c =
    report_until_streams c.args.totals.now c.args.streams.now (g.K.Sink.contents c.args.out.now) (g.K.Sink.contents c.give_streams.new.out) (g.K.Sink.faults c.args.out.now) (g.K.Sink.faults c.give_streams.new.out) (g.K.Sink.contents c.give_guest_open.new.out) (g.K.Sink.contents c.give_device_open.new.out) (g.K.Sink.faults c.give_guest_open.new.out) (g.K.Sink.faults c.give_device_open.new.out)
    c.in_err-give_streams.field-0.0 c.from_residual-in_err-give_streams.result (grind (arith, c.from_residual-in_err-give_streams.ensures))
    c.in_ok-give_guest_open.ensures c.in_ok-give_device_open.ensures c.in_err-give_streams.ensures

pub returns : goal.returns
returns g c =
    report_given c.args.totals.now c.args.streams.now (g.K.Sink.contents c.args.out.now) (g.K.Sink.contents c.give_counts.new.out) (g.K.Sink.faults c.args.out.now) (g.K.Sink.faults c.give_counts.new.out) (g.K.Sink.contents c.give_guest_open.new.out) (g.K.Sink.contents c.give_device_open.new.out) (g.K.Sink.contents c.give_streams.new.out) (g.K.Sink.faults c.give_guest_open.new.out) (g.K.Sink.faults c.give_device_open.new.out) (g.K.Sink.faults c.give_streams.new.out) c.give_counts.result
    c.in_ok-give_guest_open.ensures c.in_ok-give_device_open.ensures c.in_ok-give_streams.ensures c.give_counts.ensures
