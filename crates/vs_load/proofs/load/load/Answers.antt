use Rattle.std.proofs.{Common.{Some, ap, refl, string_bytes, subst, sym, ◌∙◌}, lemmas.List.Elements.All-nil}
use Rattle.vs_outside.specs.HostProgram.{HostMemory}
use Rattle.laws_settled.specs.Begun.{IsUnlabelled, start_with}
use Rattle.vs_apps_parts.specs.Scripts.{AreRight}
use Rattle.vs_run_report.specs.Load.{load_script}
use Rattle.vs_load.specs.Loads.{IsOver, load_base}
use Rattle.vs_load.proofs.load.load.Goals as goal

pub load_under-requires-clause-right : goal.load_under-requires-clause-right
load_under-requires-clause-right g c κs within = subst AreRight (sym c.in_ok-script.ensures.apps) c.law_of_loads.ensures

pub load_under-requires-clause-unlabelled : goal.load_under-requires-clause-unlabelled
load_under-requires-clause-unlabelled g c κs within =
    subst (λ (m : HostMemory). IsUnlabelled m.contents) (sym c.in_ok-host.ensures) (refl, All-nil _)

pub returns : goal.returns
returns g c =
    record {
      first = c.in_ok-host.host.contents;
      empty = ap (λ m. m.contents.streams) c.in_ok-host.ensures;
      host = c.load_under.new.host.contents;
      faults = c.load_under.new.host.faults;
      fed = sym c.starved.ensures ∙ c.if-starved.false;
      over = subst (λ n. IsOver c.args.conns (load_script c.args.number c.args.conns c.args.bytes)
          (start_with load_base (Some c.in_ok-host.host.contents) n) (Some c.load_under.new.host.contents) c.load_under.new.host.faults
          (string_bytes c.in_ok-line.line)) (ap (λ m. m.faults) c.in_ok-host.ensures)
          (subst (λ script. IsOver c.args.conns script (start_with load_base (Some c.in_ok-host.host.contents) c.in_ok-host.host.faults)
          (Some c.load_under.new.host.contents) c.load_under.new.host.faults (string_bytes c.in_ok-line.line)) c.in_ok-script.ensures.apps
          c.in_ok-line.ensures);
    }
