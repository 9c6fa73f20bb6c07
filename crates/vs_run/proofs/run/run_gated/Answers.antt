use Rattle.std.proofs.Common.{◌∙◌, ap}
use Rattle.vs_apps_parts.specs.Scripts.{script_of}
use Rattle.vs_run_apps.specs.declared.whole.RunError.TheVariants as error
use Rattle.vs_run.proofs.Ran.{not_started, over_done, over_less, over_starved, ring_size}
use Rattle.vs_run.proofs.run.run_gated.Goals as goal

pub run-requires-clause-queue : goal.run-requires-clause-queue
run-requires-clause-queue g c κs within = ring_size c.args.queue c.requires.queue

pub returns-in-Ok : goal.returns-in-Ok
returns-in-Ok g c =
    over_done c.args.base.now c.args.idle c.args.first (script_of c.args.apps.items) (g.H.HostNet.contents c.args.host.now) (g.H.HostNet.contents c.run.new.host)
    (g.H.HostNet.faults c.args.host.now)
    (g.H.HostNet.faults c.run.new.host) (g.K.Sink.contents c.args.out.now) (g.K.Sink.contents c.run.new.out) (g.K.Sink.faults c.args.out.now)
    (g.K.Sink.faults c.run.new.out) c.in-Ok.status c.in-Ok.ensures

pub returns-in-Err-NotStarted : goal.returns-in-Err-NotStarted
returns-in-Err-NotStarted g c =
    not_started c.args.base.now c.args.idle c.args.first (script_of c.args.apps.items) (g.H.HostNet.contents c.args.host.now) (g.H.HostNet.contents c.run.new.host)
    (g.H.HostNet.faults c.args.host.now)
    (g.H.HostNet.faults c.run.new.host) (g.K.Sink.contents c.args.out.now) (g.K.Sink.contents c.run.new.out) (g.K.Sink.faults c.args.out.now)
    (g.K.Sink.faults c.run.new.out) (g.K.Sink.contents c.host_fault.new.out) (g.K.Sink.faults c.host_fault.new.out) c.host_fault.result
    c.in-Err-NotStarted.field-0 c.in-Err-NotStarted.field-0-is c.in-Err-NotStarted.ensures c.host_fault.ensures

pub returns-in-Err-NotGiven-Sink : goal.returns-in-Err-NotGiven-Sink
returns-in-Err-NotGiven-Sink g c =
    over_less c.args.base.now c.args.idle c.args.first (script_of c.args.apps.items) (g.H.HostNet.contents c.args.host.now) (g.H.HostNet.contents c.run.new.host)
    (g.H.HostNet.faults c.args.host.now)
    (g.H.HostNet.faults c.run.new.host) (g.K.Sink.contents c.args.out.now) (g.K.Sink.contents c.run.new.out) (g.K.Sink.faults c.args.out.now)
    (g.K.Sink.faults c.run.new.out) c.in-Err-NotGiven-Sink.field-0
    (c.in-Err-NotGiven-Sink.field-0-is ∙ ap (λ e. error.NotGiven e) c.in-Err-NotGiven-Sink.field-0-0-is) c.in-Err-NotGiven-Sink.ensures

pub returns-in-Err-NotGiven-OutOfMemory : goal.returns-in-Err-NotGiven-OutOfMemory
returns-in-Err-NotGiven-OutOfMemory g c =
    over_starved c.args.base.now c.args.idle c.args.first (script_of c.args.apps.items) (g.H.HostNet.contents c.args.host.now) (g.H.HostNet.contents c.run.new.host)
    (g.H.HostNet.faults c.args.host.now)
    (g.H.HostNet.faults c.run.new.host) (g.K.Sink.contents c.args.out.now) (g.K.Sink.contents c.run.new.out) (g.K.Sink.faults c.args.out.now)
    (g.K.Sink.faults c.run.new.out) (g.K.Sink.contents c.no_memory.new.out) (g.K.Sink.faults c.no_memory.new.out) c.no_memory.result
    c.in-Err-NotGiven-OutOfMemory.field-0
    (c.in-Err-NotGiven-OutOfMemory.field-0-is ∙ ap (λ e. error.NotGiven e) c.in-Err-NotGiven-OutOfMemory.field-0-0-is) c.in-Err-NotGiven-OutOfMemory.ensures c.no_memory.ensures
