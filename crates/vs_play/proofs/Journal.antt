-- What a line does, and what it prints, doesn't look at the journal of the calls that the guest made.
use Rattle.std.proofs.Common.{◌≡◌, ℕ, List, [], ◌∷◌, refl, sym, ap, ◌∙◌}
use Rattle.vs_script.specs.{Data.bytes_of, Outside.{Outside, OfHost}, Play.Event}
use Rattle.laws_world.specs.Plays.{Line}
use Rattle.vs_play.specs.{Answer.{report_of, texts_of, world_after}, Lines.{PlayWorld, event_played, host_line, outside_played, played_line}, Ready.{PlayState, shown, world_in}}
use Rattle.vs_script.specs.Outside as outside
use Rattle.vs_script.specs.Play as script
use Rattle.laws_driver.specs.Carried.Calls as call
use Rattle.laws_world.specs.Plays as world

-- What is left of a line, and what it printed.
abbrev seen : PlayWorld × List ℕ → PlayState × List ℕ
seen r = (shown r.0, r.1)

line_alike : (l : Line) (p : PlayWorld) → seen (played_line l p) ≡ seen (played_line l (world_in (shown p)))
line_alike (world.Guest c) p = refl
line_alike world.Poll p = refl
line_alike (world.TurnAt now) p = refl
line_alike (world.ResetTo cid) p = refl
line_alike (world.Grow stream alloc) p = refl
line_alike world.Client p = refl
line_alike (world.HostListen port) p = refl
line_alike (world.HostUnlisten port) p = refl
line_alike (world.HostWrite stream bytes) p = refl
line_alike (world.HostAllow stream n) p = refl
line_alike (world.HostEnd stream) p = refl
line_alike (world.HostClosed stream) p = refl
line_alike (world.HostFail n) p = refl

outside_alike : (line : Outside) (p : PlayWorld) → seen (outside_played line p) ≡ seen (outside_played line (world_in (shown p)))
outside_alike outside.Turn p = line_alike (world.TurnAt p.moment) p
outside_alike (outside.Reset cid) p = line_alike (world.ResetTo cid) p
outside_alike (outside.Tick ms) p = refl
outside_alike (outside.Grow stream alloc) p = line_alike (world.Grow stream alloc) p
outside_alike outside.Client p = line_alike world.Client p
outside_alike (OfHost host) p = line_alike (host_line host) p

event_alike : (e : Event) (p : PlayWorld) → seen (event_played e p) ≡ seen (event_played e (world_in (shown p)))
event_alike (script.Connect port) p = line_alike (world.Guest (call.Connect port)) p
event_alike (script.Listen port) p = line_alike (world.Guest (call.Listen port)) p
event_alike (script.Unlisten port) p = line_alike (world.Guest (call.Unlisten port)) p
event_alike (script.Accept port) p = line_alike (world.Guest (call.Accept port)) p
event_alike (script.Send id bytes) p = line_alike (world.Guest (call.Send id (bytes_of bytes))) p
event_alike (script.Recv id len) p = line_alike (world.Guest (call.Recv id len)) p
event_alike (script.Shutdown id bits) p = line_alike (world.Guest (call.Shutdown id bits)) p
event_alike (script.Grow id alloc) p = line_alike (world.Guest (call.Grow id alloc)) p
event_alike (script.Close id) p = line_alike (world.Guest (call.Close id)) p
event_alike (script.State id) p = line_alike (world.Guest (call.LookAt id)) p
event_alike script.Poll p = line_alike world.Poll p
event_alike (script.Around line) p = outside_alike line p

-- So it is for many lines, and for the report.
pub texts_alike : (es : List Event) (p : PlayWorld) → texts_of es p ≡ texts_of es (world_in (shown p))
texts_alike [] p = refl
texts_alike (e ∷ es) p =
    let q = world_in (shown p) in
    ap (λ ts. (event_played e p).1 ∷ ts) (texts_alike es (event_played e p).0)
    ∙ (ap (λ (r : PlayState × List ℕ). r.1 ∷ texts_of es (world_in r.0)) (event_alike e p)
    ∙ ap (λ ts. (event_played e q).1 ∷ ts) (sym (texts_alike es (event_played e q).0)))

pub after_alike : (es : List Event) (p : PlayWorld) → shown (world_after es p) ≡ shown (world_after es (world_in (shown p)))
after_alike [] p = refl
after_alike (e ∷ es) p =
    let q = world_in (shown p) in
    after_alike es (event_played e p).0
    ∙ (ap (λ (r : PlayState × List ℕ). shown (world_after es (world_in r.0))) (event_alike e p)
    ∙ sym (after_alike es (event_played e q).0))

pub report_alike : (p : PlayWorld) → report_of (world_in (shown p)).world ≡ report_of p.world
report_alike p = refl
