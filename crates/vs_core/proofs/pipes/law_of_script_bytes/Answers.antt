use Rattle.std.proofs.Common.{ℕ, ◌≤◌, subst}
use Rattle.vs_flow.specs.Connection.{Connection}
use Rattle.laws_driver.specs.Carried.{Calls.received_by, Senders.sent_to}
use Rattle.laws_rest.specs.Bytes.{CarryBytes}
use Rattle.laws_world.{proofs.{Carried.carried, Opening.run_well, ScriptLines.opened_leads}, specs.{Events.run, Pipes.IsRightIn, World.{World, opening}}}
use Rattle.vs_core.proofs.pipes.law_of_script_bytes.Goals as goal

pub returns : goal.returns
returns c = λ how host ls right fresh.
    let leads = opened_leads how host ls right in
    let well = run_well how host leads.0 in
    subst (λ (w : World). (opened : ℕ → Connection) × IsRightIn opened w × ((id : ℕ) → 1 ≤ (opened id).number
    → CarryBytes (opened id) (sent_to opened (opened id) w.journal) (received_by id w.journal) w.host)) leads.1
    (well.opened, well.right, carried (run leads.0 (opening how host)) well fresh well.opened well.right)
