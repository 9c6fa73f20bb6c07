use Rattle.std.proofs.Common.{Some, refl, string_bytes, subst, ℕ}
use Rattle.vs_run_apps.specs.{Runs.HasRun, Sides.SideState}
use Rattle.vs_load.proofs.{Echoed.all_came_back, Over.over}
use Rattle.vs_load.proofs.load.load_under.Goals as goal

pub line_of-requires : goal.line_of-requires
line_of-requires g c =
    let side : SideState =
    record {
      proxy = c.in-Ok.ran.proxy;
      ring = c.in-Ok.ran.ring;
      contents = Some c.run_under.new.host.contents;
      faults = c.run_under.new.host.faults;
    } in
    all_came_back _ g.N.RunName.script g.N.StartName.start c.in-Ok.ran.guests side c.in-Ok.ran.met _ c.args.host.now.contents c.run_under.new.host.contents
    c.args.host.now.faults c.in-Ok.ensures.ran c.requires.start c.requires.unlabelled refl c.law_of_echoes.ensures

pub returns-in-Ok : goal.returns-in-Ok
returns-in-Ok g c =
    let side : SideState = record {
      proxy = c.in-Ok.ran.proxy;
      ring = c.in-Ok.ran.ring;
      contents = Some c.run_under.new.host.contents;
      faults = c.run_under.new.host.faults;
    } in
    let ran = subst (λ (first : ℕ). HasRun first g.N.RunName.script g.N.StartName.start c.in-Ok.ran.guests side c.in-Ok.ran.met) c.requires.first c.in-Ok.ensures.ran in
    over string_bytes c.args.conns g.N.RunName.script g.N.StartName.start c.in-Ok.ran.guests side c.in-Ok.ran.met c.line_of.result ran c.line_of.ensures
