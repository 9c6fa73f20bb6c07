use Rattle.std.proofs.Common.{List, Option, subst, sym, ℕ}
use Rattle.vs_outside.specs.Host.{HostContents}
use Rattle.vs_ring_shared.specs.Sights.{DeviceSight}
use Rattle.vs_apps_parts.specs.Scripts.{script_of}
use Rattle.laws_settled.specs.Begun.{start_with}
use Rattle.vs_run_apps.specs.{Printed.Reports, Sides.IsReady, Sides.IsSilent}
use Rattle.vs_run_apps.proofs.whole.run_started.Goals as goal

pub run_and_report-requires-clause-ready : goal.run_and_report-requires-clause-ready
run_and_report-requires-clause-ready g c κs within =
    subst (λ (base : List ℕ). (ring : DeviceSight) (contents : Option HostContents) (faults : ℕ) → IsSilent ring
    → IsReady (start_with base contents faults) (record { proxy = c.in-Ok-new_proxy.proxy; ring = ring; contents = contents; faults = faults }))
    (sym c.in-Ok-new_proxy.ensures.base) c.in-Ok-new_proxy.ensures.ready

pub returns : goal.returns
returns g c =
    subst (λ (base : List ℕ). Reports c.args.idle c.args.first (script_of c.args.script.items)
    (start_with base (g.H.HostNet.contents c.args.host.now) (g.H.HostNet.faults c.args.host.now)) (g.H.HostNet.contents c.run_and_report.new.host)
    (g.H.HostNet.faults c.run_and_report.new.host) (g.K.Sink.contents c.args.out.now) (g.K.Sink.contents c.run_and_report.new.out)
    (g.K.Sink.faults c.args.out.now) (g.K.Sink.faults c.run_and_report.new.out) c.run_and_report.result)
    c.in-Ok-new_proxy.ensures.base c.run_and_report.ensures
