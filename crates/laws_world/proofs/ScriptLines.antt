-- Each line of a script, and so each script, is a list of events.
use Rattle.std.proofs.lemmas.Grind.{common_steps}
use Rattle.std.proofs.Common.{arith}
use Rattle.std.proofs.{Common.{◌≡◌, ℕ, true, List, [], ◌∷◌, ◌++◌, refl, sym}, lemmas.List.append-nil}
use Rattle.vs_flow.specs.Connection.{Connection}
use Rattle.vs_outside.specs.Host.{HostContents}
use Rattle.vs_proxy_parts.specs.Growing.{label_at}
use Rattle.laws_world.specs.Events.{ClientConnects, DeviceGrows, HostCloses, HostEnds, HostFails, HostListens, HostTakes, HostUnlistens, HostWrites, Reset, is_at_rest}
use Rattle.laws_world.specs.{Events.{is_guest_cid, reset_made}, Plays.{Line, Guest, Poll, TurnAt, ResetTo, Grow, Client, HostListen, HostUnlisten, HostWrite, HostAllow, HostEnd}}
use Rattle.laws_world.specs.{Plays.{HostClosed, HostFail, AreRight, after, line, is_given_right, play, report, sent_by}, Steps.Leads, World.{Beginning, World, opening}}
use Rattle.laws_world.proofs.{CallRests.{call_rests, opening_rests}, GuestLines.{call_leads, leads_none, leads_one, leads_then, possible_is}, Polls.poll_does, TurnLines.turn_leads}
use Rattle.laws_driver.specs.Carried.Senders.{sent_to}
use Rattle.laws_proxy.proofs.Growing.{label_grow_by}

pub line_leads : (l : Line) (w : World) → is_at_rest w.rings.driver.staged ≡ true → is_given_right l ≡ true → Leads w (line l w).0
line_leads (Guest call) w rest may = call_leads w rest call may
line_leads Poll w rest may = (poll_does w rest).leads
line_leads (TurnAt now) w rest may = turn_leads now w
line_leads (ResetTo cid) w rest may = leads_one (Reset cid) w _ (possible_is (is_guest_cid cid) (reset_made cid) w may)
line_leads (Grow stream alloc) w rest may = label_grow_by (label_at stream w.host) alloc w.proxy (λ s. Leads w (record w { proxy = s }))
    (leads_none w w refl) (λ flow. leads_one (DeviceGrows flow alloc) w _ refl)
line_leads Client w rest may = leads_one ClientConnects w _ refl
line_leads (HostListen port) w rest may = leads_one (HostListens port) w _ refl
line_leads (HostUnlisten port) w rest may = leads_one (HostUnlistens port) w _ refl
line_leads (HostWrite stream bytes) w rest may = leads_one (HostWrites stream bytes) w _ refl
line_leads (HostAllow stream n) w rest may = leads_one (HostTakes stream n) w _ refl
line_leads (HostEnd stream) w rest may = leads_one (HostEnds stream) w _ refl
line_leads (HostClosed stream) w rest may = leads_one (HostCloses stream) w _ refl
line_leads (HostFail n) w rest may = leads_one (HostFails n) w _ refl

pub line_rests : (l : Line) (w : World) → is_at_rest w.rings.driver.staged ≡ true → is_at_rest (line l w).0.rings.driver.staged ≡ true
line_rests x w rest = grind (arith, common_steps, call_rests, poll_does)

pub line_sends : (opened : ℕ → Connection) (c : Connection) (l : Line) (w : World)
    → sent_to opened c (line l w).0.journal ≡ sent_to opened c w.journal ++ sent_by opened c l w
line_sends opened c (Guest call) w = refl
line_sends opened c x w = sym (append-nil (sent_to opened c w.journal))

pub script_leads : (ls : List Line) (w : World) → is_at_rest w.rings.driver.staged ≡ true → AreRight ls → Leads w (after ls w)
script_leads [] w rest may = leads_none w w refl
script_leads (l ∷ ls) w rest may =
    leads_then w (line l w).0 _ (line_leads l w rest may.0) (script_leads ls (line l w).0 (line_rests l w rest) may.1)

pub script_rests : (ls : List Line) (w : World) → is_at_rest w.rings.driver.staged ≡ true
    → is_at_rest (after ls w).rings.driver.staged ≡ true
script_rests [] w rest = rest
script_rests (l ∷ ls) w rest = script_rests ls (line l w).0 (line_rests l w rest)

pub reported : (ls : List Line) (w : World) → (play ls w).1 ≡ report (after ls w)
reported [] w = refl
reported (l ∷ ls) w = reported ls (line l w).0

pub opened_leads : (b : Beginning) (host : HostContents) (ls : List Line) → AreRight ls
    → Leads (opening b host) (after ls (opening b host))
opened_leads b host ls may = script_leads ls (opening b host) (opening_rests b host) may
