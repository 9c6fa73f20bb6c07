use Rattle.std.proofs.{Common.sym, Common.subst, lemmas.Result.on_ok_weaker}
use Rattle.vs_script.specs.Outside.{host_view}
use Rattle.vs_report.proofs.HostPrograms.{client_opens}
use Rattle.vs_hostile.{specs.Ready.IsServing, proofs.Hosting.host_serves, proofs.Hosting.serves_on}
use Rattle.vs_hostile.proofs.lines.outside_line.Goals as goal

pub returns-in-Grow-clause-serving : goal.returns-in-Grow-clause-serving
returns-in-Grow-clause-serving c =
    on_ok_weaker c.push_growth.result (λ printed. c.grow_stream-answer.ensures.order _ _ c.requires.serving) c.push_growth.ensures

pub returns-in-Client-clause-serving : goal.returns-in-Client-clause-serving
returns-in-Client-clause-serving c =
    on_ok_weaker c.client.result (λ is. subst (λ h. IsServing c.args.proxy.now h) (sym is)
    (serves_on c.args.proxy.now _ _ (client_opens c.args.host.now.contents) c.requires.serving)) c.client.ensures.host

pub returns-in-Host-clause-serving : goal.returns-in-Host-clause-serving
returns-in-Host-clause-serving c =
    on_ok_weaker c.host_line.result (λ is. host_serves (host_view c.in-Host.line) c.args.proxy.now c.args.host.now.contents
    c.host_line.new.host.contents is c.requires.serving) c.host_line.ensures.host
