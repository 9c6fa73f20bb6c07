-- The calls that the proxy makes in a play, on its rings and on the host, with their answers, newest first.
use Rattle.std.specs.Prelude.{ℕ, ◌+◌, Bool, true, false, if◌then◌else◌, List, [], ◌∷◌}
use Rattle.vs_contents.specs.CallTree.{played}
use Rattle.vs_device_parts.specs.Calls.{Answer, Call, DeviceTree}
use Rattle.vs_proxy_parts.specs.Turns.{proxy_reset_of, turn_of}
use Rattle.laws_proxy.specs.Account.Made.{Made, made}
use Rattle.vs_script.specs.{Outside.Outside, Play.Event}
use Rattle.laws_world.specs.{Answers.Around, Answers.answer_around, World.World, World.around}
use Rattle.vs_play.specs.Lines.{PlayWorld, event_played}
use Rattle.vs_script.specs.Outside as outside
use Rattle.vs_script.specs.Play as script

-- What surrounds the device, and the calls that it made so far. A call is answered as before, and recorded.
pub record Recorded : Type 0 where
  pub around : Around
  pub calls : List Made

abbrev pub recording : (call : Call) → Recorded → Answer call × Recorded
recording call r = let a = answer_around call r.around in (a.0, record { around = a.1; calls = made call a.0 ∷ r.calls })

-- The calls once a conversation was played in a world.
abbrev pub recorded : {A : Type 0} → DeviceTree A → World → List Made → List Made
recorded tree w calls = (played recording tree (record { around = around w; calls = calls })).1.calls

-- Those of a line: of a turn and of a reset. No other line makes a call of the proxy.
abbrev pub outside_made : Outside → PlayWorld → List Made → List Made
outside_made outside.Turn p calls = recorded (turn_of p.world.rings.lists.size p.moment p.world.proxy) p.world calls
outside_made (outside.Reset cid) p calls = recorded (proxy_reset_of cid p.world.proxy) p.world calls
outside_made line p calls = calls

abbrev pub made_in : Event → PlayWorld → List Made → List Made
made_in (script.Around line) p calls = outside_made line p calls
made_in e p calls = calls

-- Those of lines.
abbrev pub calls_of : List Event → PlayWorld → List Made → List Made
calls_of [] p calls = calls
calls_of (e ∷ es) p calls = calls_of es (event_played e p).0 (made_in e p calls)

-- How many lines tell the host to fail a call.
abbrev pub host_fails : outside.Host → Bool
host_fails (outside.HostFail n) = true
host_fails _ = false

abbrev pub outside_fails : Outside → Bool
outside_fails (outside.OfHost host) = host_fails host
outside_fails _ = false

abbrev pub line_fails : Event → Bool
line_fails (script.Around line) = outside_fails line
line_fails _ = false

abbrev pub fails_in : List Event → ℕ
fails_in [] = 0
fails_in (e ∷ es) = (if line_fails e then 1 else 0) + fails_in es
