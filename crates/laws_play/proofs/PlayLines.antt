-- The lines of a script as lines of the world.
use Rattle.std.proofs.lemmas.Grind.{common_steps}
use Rattle.std.proofs.Common.{◌≡◌, ◌≤◌, ℕ, List, [], ◌∷◌, ◌++◌, refl, sym, ap, subst, ◌∙◌, arith, append_assoc}
use Rattle.vs_flow.specs.Connection.{Connection}
use Rattle.vs_script.specs.{Data.bytes_of, Outside.{Host, Outside}, Play.Event, Bounds.{AreBounded, IsBounded}}
use Rattle.laws_world.specs.{Plays.{AreRight, Line, after}, World.World}
use Rattle.laws_driver.specs.Carried.{Calls.{Journal, received_by as journaled}, Senders.{AreSenders, sent_to}}
use Rattle.vs_play.specs.{Answer.world_after, Lines.{PlayWorld, event_played, host_line}}
use Rattle.laws_play.specs.Said.{received_by, received_in, sent_by, sent_in}
use Rattle.laws_tables.proofs.Logs.{nothing_more}
use Rattle.vs_script.specs.Outside as outside
use Rattle.vs_script.specs.Play as script
use Rattle.laws_driver.specs.Carried.Calls as call
use Rattle.laws_world.specs.Plays as world

-- The line of the world that an event line is, at a moment. That time passes is none.
abbrev lines_around : Outside → ℕ → List Line
lines_around outside.Turn now = world.TurnAt now ∷ []
lines_around (outside.Reset cid) now = world.ResetTo cid ∷ []
lines_around (outside.Tick ms) now = []
lines_around (outside.Grow stream alloc) now = world.Grow stream alloc ∷ []
lines_around outside.Client now = world.Client ∷ []
lines_around (outside.OfHost host) now = host_line host ∷ []

abbrev lines_at : Event → ℕ → List Line
lines_at (script.Connect port) now = world.Guest (call.Connect port) ∷ []
lines_at (script.Listen port) now = world.Guest (call.Listen port) ∷ []
lines_at (script.Unlisten port) now = world.Guest (call.Unlisten port) ∷ []
lines_at (script.Accept port) now = world.Guest (call.Accept port) ∷ []
lines_at (script.Send id content) now = world.Guest (call.Send id (bytes_of content)) ∷ []
lines_at (script.Recv id len) now = world.Guest (call.Recv id len) ∷ []
lines_at (script.Shutdown id bits) now = world.Guest (call.Shutdown id bits) ∷ []
lines_at (script.Grow id alloc) now = world.Guest (call.Grow id alloc) ∷ []
lines_at (script.Close id) now = world.Guest (call.Close id) ∷ []
lines_at (script.State id) now = world.Guest (call.LookAt id) ∷ []
lines_at script.Poll now = world.Poll ∷ []
lines_at (script.Around line) now = lines_around line now

abbrev pub lines_of : List Event → PlayWorld → List Line
lines_of [] p = []
lines_of (e ∷ es) p = lines_at e p.moment ++ lines_of es (event_played e p).0

after_append : (xs ys : List Line) (w : World) → after (xs ++ ys) w ≡ after ys (after xs w)
after_append [] ys w = refl
after_append (x ∷ xs) ys w = after_append xs ys (world.line x w).0

event_is : (e : Event) (p : PlayWorld) → (event_played e p).0.world ≡ after (lines_at e p.moment) p.world
event_is e p = grind (arith, common_steps)

-- The world after a script's lines.
pub world_is : (es : List Event) (p : PlayWorld) → (world_after es p).world ≡ after (lines_of es p) p.world
world_is [] p = refl
world_is (e ∷ es) p =
    world_is es (event_played e p).0
    ∙ ap (after (lines_of es (event_played e p).0)) (event_is e p)
    ∙ sym (after_append (lines_at e p.moment) (lines_of es (event_played e p).0) p.world)

-- Lines within bounds may be given.
event_right : (e : Event) (now : ℕ) → IsBounded e → AreRight (lines_at e now)
event_right e now b = grind (arith, common_steps)

right_append : (xs ys : List Line) → AreRight xs → AreRight ys → AreRight (xs ++ ys)
right_append [] ys a b = b
right_append (x ∷ xs) ys a b = (a.0, right_append xs ys a.1 b)

pub lines_right : (es : List Event) (p : PlayWorld) → AreBounded es → AreRight (lines_of es p)
lines_right [] p b = tt
lines_right (e ∷ es) p b = right_append (lines_at e p.moment) _ (event_right e p.moment b.0) (lines_right es (event_played e p).0 b.1)

-- Fronts and rests of a script.
pub after_both : (es more : List Event) (p : PlayWorld) → world_after (es ++ more) p ≡ world_after more (world_after es p)
after_both [] more p = refl
after_both (e ∷ es) more p = after_both es more (event_played e p).0

pub front_bounded : (es more : List Event) → AreBounded (es ++ more) → AreBounded es
front_bounded [] more b = tt
front_bounded (e ∷ es) more b = (b.0, front_bounded es more b.1)

pub rest_bounded : (es more : List Event) → AreBounded (es ++ more) → AreBounded more
rest_bounded [] more b = b
rest_bounded (e ∷ es) more b = rest_bounded es more b.1

-- What each line sends and receives.
pub around_journal : (line : Outside) (p : PlayWorld) → (event_played (script.Around line) p).0.world.journal ≡ p.world.journal
around_journal outside.Turn p = refl
around_journal (outside.Reset cid) p = refl
around_journal (outside.Tick ms) p = refl
around_journal (outside.Grow stream alloc) p = refl
around_journal outside.Client p = refl
around_journal (outside.OfHost host) p = by host
  where
    by : (host : Host) → (event_played (script.Around (outside.OfHost host)) p).0.world.journal ≡ p.world.journal
    by (outside.HostListen port) = refl
    by x = refl

-- A call that moves no bytes.
-- The calls of a journal's older part sent on ids that have connections too.
module _ (opened : ℕ → Connection) where
  senders_one : (e : Event) (p : PlayWorld) → AreSenders opened (event_played e p).0.world.journal → AreSenders opened p.world.journal
  senders_one script.Poll p are = are
  senders_one (script.Around line) p are = subst (AreSenders opened) (around_journal line p) are
  senders_one x p are = are.1

  senders_before : (es : List Event) (p : PlayWorld) → AreSenders opened (world_after es p).world.journal → AreSenders opened p.world.journal
  senders_before [] p are = are
  senders_before (e ∷ es) p are = senders_one e p (senders_before es (event_played e p).0 are)

-- The same connection, by the test.
module _ (id : ℕ) where
  event_receives : (e : Event) (p : PlayWorld)
      → journaled id (event_played e p).0.world.journal ≡ journaled id p.world.journal ++ received_by id e p
  event_receives e p = grind (arith, common_steps)

  pub lines_receive : (es : List Event) (p : PlayWorld)
      → journaled id (world_after es p).world.journal ≡ journaled id p.world.journal ++ received_in id es p
  lines_receive [] p = nothing_more (journaled id p.world.journal)
  lines_receive (e ∷ es) p =
      lines_receive es (event_played e p).0
      ∙ ap (λ (bytes : List ℕ). bytes ++ received_in id es (event_played e p).0) (event_receives e p)
      ∙ append_assoc (journaled id p.world.journal) (received_by id e p) (received_in id es (event_played e p).0)

  -- By connections: no two ids have one.
  module _ (opened : ℕ → Connection) (once : (i j : ℕ) → 1 ≤ (opened i).number → opened i ≡ opened j → i ≡ j) where
    abbrev sent : Journal → List ℕ
    sent journal = sent_to opened (opened id) journal

    more : (journal : Journal) (xs ys : List ℕ) → xs ≡ ys → sent journal ++ xs ≡ sent journal ++ ys
    more journal xs ys is = ap (λ (zs : List ℕ). sent journal ++ zs) is

    event_sends : (e : Event) (p : PlayWorld) → AreSenders opened (event_played e p).0.world.journal
        → sent (event_played e p).0.world.journal ≡ sent p.world.journal ++ sent_by id e p
    event_sends e p are = grind (arith, common_steps)

    pub lines_send : (es : List Event) (p : PlayWorld) → AreSenders opened (world_after es p).world.journal
        → sent (world_after es p).world.journal ≡ sent p.world.journal ++ sent_in id es p
    lines_send [] p are = nothing_more (sent p.world.journal)
    lines_send (e ∷ es) p are =
        lines_send es (event_played e p).0 are
        ∙ ap (λ (bytes : List ℕ). bytes ++ sent_in id es (event_played e p).0)
        (event_sends e p (senders_before opened es (event_played e p).0 are))
        ∙ append_assoc (sent p.world.journal) (sent_by id e p) (sent_in id es (event_played e p).0)
