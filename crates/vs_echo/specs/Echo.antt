-- A host whose streams give back what they are given. What its calls do is said of all hosts, by what is told of a stream that echoes.
use Rattle.std.specs.Prelude.{◌≡◌, ℕ, ◌-◌, ◌≤◌, true, false, List, [], ◌∷◌, ◌++◌, length, Some, is_some}
use Rattle.vs_header.specs.declared.Kind.TheVariants as kind
use Rattle.vs_outside.specs.{Host.Prepared, Host.Stream, Host.is_waiting, HostProgram.HostMemory, HostProgram.new_host, HostProgram.port_path}
use Rattle.vs_echo.specs.declared.echo_stream.TheConstants.{ECHO_ROOM}

-- A stream at first: nothing waits to be taken, no end comes, and there is room for so many bytes.
abbrev pub echoing : Prepared
echoing = record { untaken = []; ended = false; room = Some ECHO_ROOM; echoes = true; host_closed = false }

-- A host without streams, at which that port alone is listened on.
abbrev pub new_echo : List ℕ → ℕ → HostMemory
new_echo base port = new_host base (port_path base port kind.Stream ∷ []) echoing

-- What came back of a stream, and then what waits, is what was given to it. What waits leaves the rest of the room, and no end comes.
pub record IsEcho (s : Stream) : Type 0 where
  pub labelled : is_some s.label ≡ true
  pub given_out : is_waiting s ≡ false
  pub back : s.taken ++ s.untaken ≡ s.given
  pub few : length s.untaken ≤ ECHO_ROOM
  pub room : s.room ≡ Some (ECHO_ROOM - length s.untaken)
  pub echoes : s.echoes ≡ true
  pub goes_on : s.ended ≡ false
  pub stays : s.host_closed ≡ false
