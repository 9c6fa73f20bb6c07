use Rattle.std.proofs.Common.{IfOk, subst, sym, ◌∙◌}
use Rattle.vs_run_apps.specs.Runs.{HasRun}
use Rattle.vs_run_apps.proofs.running.run_on.Goals as goal

pub returns-in-Ok : goal.returns-in-Ok
returns-in-Ok g c =
    record {
      ran = subst (λ host. IfOk c.settled.result (λ r. HasRun g.N.RunName.first g.N.RunName.script g.N.StartName.start r.guests
          (record { proxy = r.proxy; ring = r.ring; contents = g.H.HostNet.contents host; faults = g.H.HostNet.faults host }) r.met))
          (sym (c.host-1.given.1 (sym (c.into_parts-proxy.ensures.lent ∙ (c.run_all-ran.ensures.lent ∙ c.new-side.ensures.lent)))))
          c.settled.ensures.ran;
    }
