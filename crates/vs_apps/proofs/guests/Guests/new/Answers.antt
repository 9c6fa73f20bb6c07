use Rattle.std.proofs.{Common.{◌≡◌, ℕ, [], length, sym, ap, subst, ◌∙◌, arith, refl, rules, None}, lemmas.List.length-map}
use Rattle.vs_limits.specs.declared.TheConstants.{FIRST_CID}
use Rattle.vs_script.specs.App.{app_view}
use Rattle.vs_ring_shared.specs.{Meetings.what_it_did, Sights.{Sight, driver_contents}}
use Rattle.laws_driver.specs.Honest.{IsFresh}
use Rattle.vs_apps_parts.specs.{Scripts.RunScript, Sums.JournalState, declared.progress.{AppState.AppState, Progress.Progress}}
use Rattle.vs_apps.{specs.Guests.{AreGuests, guests_with}, proofs.Guarding.{first_loaded, fresh_end, guests_hear, new_guests}}
use Rattle.vs_apps.proofs.guests.Guests.new.Goals as goal

pub returns-in_err-driver-clause-told : goal.returns-in_err-driver-clause-told
returns-in_err-driver-clause-told g c = (c.args.device.now.sight.heard, refl)

pub invariant_of-result : goal.invariant_of-result
invariant_of-result g c =
    let script : RunScript = g.N.RunName.script in
    let first : ℕ = g.N.RunName.first in
    let long : length script ≡ length c.args.script.items =
    ap (λ (s : RunScript). length s) (sym c.requires.script) ∙ length-map c.args.script.items app_view in
    let many : c.len.result ≡ length script = omega (arith, long, c.len.ensures) in
    let fresh : IsFresh (driver_contents c.args.end) =
    subst (λ (s : Sight). IsFresh (driver_contents s)) (sym c.requires.fresh) (fresh_end g.N.RingName.ring c.args.end.size) in
    let driver = c.in_ok-driver.driver in
    let apps = c.in_ok-apps.apps.items in
    let cid : driver.cid ≡ FIRST_CID =
    first_loaded c.args.end.size c.args.first 1 (driver_contents c.args.end) c.new_at.new.ring driver c.args.device.now.sight.log
    c.in_ok-driver.ensures.calls c.note.ensures.fits.saw_cid c.requires.silent in
    let made = new_guests script c.args.end.size c.args.first c.len.result c.args.end c.new_at.new.ring driver apps
    (record { progress = c.begun.result; waiting = None }) c.requires.right c.requires.first.1 cid fresh c.in_ok-driver.ensures.calls c.in_ok-driver.ensures.ring many
    (c.in_ok-apps.ensures.items_if_clones_equal (λ y is. first_of (search (rules, is), cc)))
    (ap (λ (p : Progress). let s : AppState = record { progress = p; waiting = None } in s) c.begun.ensures) in
    let all = subst (λ (port : ℕ). AreGuests port script (record { driver = driver; end = c.new_at.new.ring; apps = apps; entries = []; bytes = [] }))
    c.requires.own made in
    let heard : AreGuests first script (record { driver = driver; end = c.note.new.driver; apps = apps; entries = []; bytes = [] }) =
    subst (λ (s : Sight). AreGuests first script (record { driver = driver; end = s; apps = apps; entries = []; bytes = [] })) (sym c.note.ensures.driver)
    (guests_hear first script (record { driver = driver; end = c.new_at.new.ring; apps = apps; entries = []; bytes = [] }) all
    (what_it_did c.args.device.now.sight)) in (
      c.requires.script,
      subst (λ (j : JournalState). AreGuests first script (guests_with driver c.note.new.driver apps j)) (sym c.new.ensures) heard,
    )
