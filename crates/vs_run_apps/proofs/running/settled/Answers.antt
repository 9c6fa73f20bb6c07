use Rattle.vs_run_apps.{specs.Sides.SideState, proofs.{Reading.{all_idle, lines_idle}, Rights.has_run}}
use Rattle.vs_run_apps.proofs.running.settled.Goals as goal

pub returns : goal.returns
returns g c =
    record {
      ran =
          let side : SideState = record {
            proxy = c.settle.new.proxy;
            ring = c.settle.new.ring;
            contents = g.H.HostNet.contents c.settle.new.host;
            faults = g.H.HostNet.faults c.settle.new.host;
          } in
          has_run g.N.RunName.script g.N.StartName.start c.settle.new.guests side g.N.RunName.first c.in-Ok.met c.laws_of_guests.ensures.run
          c.laws_of_guests.ensures.ports c.in-Ok.ensures.rest
          c.in-Ok.ensures.last (all_idle g.N.RunName.script c.settle.new.guests side c.in-Ok.ensures.last c.in-Ok.ensures.rest c.in-Ok.ensures.ring
          c.laws_of_device_end.ensures.size.0 c.laws_of_device_end.ensures.held)
          (lines_idle g.N.RunName.script c.settle.new.guests side c.in-Ok.ensures.last c.in-Ok.ensures.rest c.in-Ok.ensures.ring
          c.laws_of_device_end.ensures.size.0 c.laws_of_device_end.ensures.held) c.in-Ok.ensures.numbers c.in-Ok.ensures.steady
          (c.in-Ok.ensures.begun g.N.StartName.start c.requires.ready.begun);
    }
