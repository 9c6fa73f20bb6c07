use Rattle.std.proofs.Common.{◌≡◌, false, refl, subst}
use Rattle.vs_conn.specs.End.{is_refused, verdict_of}
use Rattle.vs_limits.specs.declared.TheConstants.{ASSIGNED_FIRST}
use Rattle.laws_tables.{specs.{Both.Both, Steps.HasEnd}, proofs.{Both.{device_has_room, driver_accepts}, Voices.device_takes}}
use Rattle.vs_page.specs.{Log.{Device, Driver, IsNextPacket, flow_got}, Open.is_dropped}
use Rattle.laws_world.{specs.{Events.run, Sides.both_of, World.{first_cid, opening}}, proofs.{Entries.host_of, Opening.{opening_is, reached, run_well}, Runs.{and_then, stays}}}
use Rattle.laws_driver.specs.Honest.{end_in}
use Rattle.vs_core.proofs.laws.law_of_next_packets.Goals as goal

pub returns-clause-driver : goal.returns-clause-driver
returns-clause-driver c = λ how host es p e next has.
    let w = run es (opening how host) in
    let well = run_well how host es in
    driver_accepts first_cid p e (both_of w) well.sound next has
    (host_of end_in w.driver.table (flow_got Driver p) e (λ i d within. (well.driver.entries i d within).peer refl) has)

pub returns-clause-device : goal.returns-clause-device
returns-clause-device c = λ how host es p e. let r = and_then _ _ _ (stays _ _ (opening_is how host)) (reached how host es).runs in
    subst (λ (b : Both). IsNextPacket b.device.log b.driver.log p → HasEnd (flow_got Device p) e b.device.part
    → is_dropped Device b.device.part.cid p.header ≡ false → is_refused (verdict_of e p.header) ≡ false) r.ends
    (device_takes first_cid how.first ASSIGNED_FIRST r.steps p e r.may)

pub returns-clause-room : goal.returns-clause-room
returns-clause-room c = λ how host es p e. device_has_room first_cid p e (both_of (run es (opening how host))) (run_well how host es).sound
