-- At the step at which an end takes a transport reset its table is empty.
use Rattle.std.proofs.Common.{◌≡◌, ℕ, nat_lt, true, false, List, [], length, Some, None, refl, sym, ap, ◌∙◌}
use Rattle.vs_contents.specs.CallTree.{Ask, Done, Leads, played}
use Rattle.vs_limits.specs.declared.TheConstants.{DRIVER_REPLIES_FULL}
use Rattle.vs_ring_port.specs.{DriverCalls.driver_answer, EndLog.EndLog, Lists.Rings, Lists.oldest}
use Rattle.vs_driver_parts.specs.{Conversations.DriverTree, Receiving.is_reset_event, Steps.takes_page}
use Rattle.laws_driver.proofs.Emptying.{takes_empties}
use Rattle.laws_proxy.{specs.Resets.IsEmptied, proofs.Emptying.Emptied, proofs.Emptying.reset_empties}
use Rattle.laws_world.specs.{Events.{GuestTakes, driver_step, happens, reset_made, works_on}, World.World, World.around}
use Rattle.laws_world.proofs.{DeviceLeads.ends_played, GuestLines.possible_is, Sound.IsWell}
use Rattle.vs_ring_port.specs.declared.queue.Queue.TheVariants as q

pub device_emptied : (cid : ℕ) (w : World) → w.proxy.device.failed ≡ None → IsEmptied (reset_made cid w).proxy
device_emptied cid w fine = ends_played Emptied _ (around w) (reset_empties cid w.proxy fine)

-- What is played is what the answers of the lists lead to.
leads_played : {A : Type 0} (tree : DriverTree A) (r : Rings × EndLog) → let x = played driver_answer tree r in
    Leads (λ call a v w. driver_answer call v ≡ (a, w)) tree r x.0 x.1
leads_played (Done x) r = (refl, refl)
leads_played (Ask call k) r = let x = driver_answer call r in (x.0, x.1, refl, leads_played (k x.0) x.1)

pub driver_emptied : {fresh : Type 0} (w : World) → IsWell fresh w → (page : List ℕ) → works_on q.Event w.rings.driver.staged ≡ true
    → nat_lt DRIVER_REPLIES_FULL (length w.driver.replies) ≡ false → oldest w.rings.lists.event.back ≡ Some page
    → is_reset_event page ≡ true → (happens (GuestTakes q.Event) w).driver.table.entries ≡ []
driver_emptied w well page works few page_is reset =
    let r : Rings × EndLog = (w.rings.lists, w.rings.driver) in
    ap (λ (v : World). v.driver.table.entries)
    (possible_is (works_on q.Event w.rings.driver.staged) (driver_step (takes_page q.Event)) w works)
    ∙ takes_empties w.driver page well.driver.sound reset (λ call a v m. driver_answer call v ≡ (a, m)) _ r _ few
    (λ o m is. ap (λ x. x.0) (sym is) ∙ page_is) (leads_played (takes_page q.Event w.driver) r)
