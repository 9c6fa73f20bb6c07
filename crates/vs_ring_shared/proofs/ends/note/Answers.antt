use Rattle.std.proofs.Common.{subst}
use Rattle.vs_ring_shared.specs.{Meetings.AreOneTable, Sights.DeviceSight, Sights.Sight}
use Rattle.vs_ring_shared.proofs.ends.note.Goals as goal

pub returns-clause-fits : goal.returns-clause-fits
returns-clause-fits g c =
    let n = c.note_sides.ensures in
    let here : AreOneTable c.driver.inside.side c.device.inside.side.sight = record {
      size = n.size;
      driver_fair = c.laws_of_driver_side.ensures.fair;
      device_fair = c.laws_of_device_side.ensures.fair;
      driver_log = n.driver_log;
      device_log = n.device_log;
      device_got = n.device_got;
      driver_got = n.driver_got;
      there = n.there;
      back = n.back;
      saw_there = n.saw_there;
      saw_back = n.saw_back;
      saw_cid = n.saw_cid;
    } in
    subst (λ (s : Sight). AreOneTable s c.args.device.now.sight) c.driver.view_is
    (subst (λ (s : DeviceSight). AreOneTable c.driver.inside.side s.sight) c.device.view_is here)
