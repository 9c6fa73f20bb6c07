-- Each line of a script may be played.
use Rattle.std.{proofs.Common.{◌≡◌, ℕ, List, [], ◌∷◌, Ok}, specs.List.AllByRecursion}
use Rattle.vs_script.{specs.{Bounds.{AreBounded, IsBounded}, Outside.Outside, Play.Event, Script.{Plays, parse_of}}, proofs.Bounded.all_bounded}
use Rattle.vs_play.specs.{Answer.events_in, Ready.IsPlayable}
use Rattle.vs_script.specs.Outside as outside
use Rattle.vs_script.specs.Play as script
use Rattle.vs_script.specs.declared.script.Command.TheVariants as command

may_outside : (line : Outside) → IsBounded (script.Around line) → IsPlayable (script.Around line)
may_outside outside.Turn b = tt
may_outside (outside.Reset cid) b = b
may_outside (outside.Tick ms) b = tt
may_outside outside.Client b = tt
may_outside (outside.Grow stream alloc) b = tt
may_outside (outside.OfHost host) b = tt

may_play : (e : Event) → IsBounded e → IsPlayable e
may_play (script.Connect port) b = tt
may_play (script.Listen port) b = tt
may_play (script.Unlisten port) b = tt
may_play (script.Accept port) b = tt
may_play (script.Send id bytes) b = tt
may_play (script.Recv id len) b = tt
may_play (script.Shutdown id bits) b = b
may_play (script.Grow id alloc) b = tt
may_play (script.Close id) b = tt
may_play (script.State id) b = tt
may_play script.Poll b = tt
may_play (script.Around line) b = may_outside line b

may_all : (es : List Event) → AreBounded es → AllByRecursion IsPlayable es
may_all [] b = tt
may_all (e ∷ es) b = (may_play e b.0, may_all es b.1)

-- Each line of a script that is read for a play may be played.
pub all_playable : (bytes : List ℕ) (lines : List (ℕ × Event)) → parse_of command.Play bytes ≡ Ok (Plays lines) → AllByRecursion IsPlayable (events_in lines)
all_playable bytes lines is = may_all (events_in lines) (all_bounded bytes lines is)
