-- Event lines of a play: what the guest does, and what happens around it.
use Rattle.std.specs.Prelude.{ℕ, if◌then◌else◌, List, codes, bytes_eq, Result}
use Rattle.vs_script.specs.{Data.{Content, content_of}, Field.{after, ending, word, number, port, id, bits, content, only, named}, Outside.{Outside, outside_view, outside_line}}
use Rattle.vs_script.specs.declared.{fault.Why.Why, outside.TheConstants.{MAX_FILL, MAX_GROW}, play.{PlayLine.PlayLine, TheConstants.MAX_RECV}}
use Rattle.vs_script.specs.declared.play.PlayLine.TheVariants as code

-- What the guest does, or what happens around it.
pub data Event : Type 0 where
  Connect : (port : ℕ) → Event
  Listen : (port : ℕ) → Event
  Unlisten : (port : ℕ) → Event
  Accept : (port : ℕ) → Event
  Send : (id : ℕ) → (bytes : Content) → Event
  Recv : (id : ℕ) → (len : ℕ) → Event
  Shutdown : (id : ℕ) → (bits : ℕ) → Event
  Grow : (id : ℕ) → (alloc : ℕ) → Event
  Close : (id : ℕ) → Event
  State : (id : ℕ) → Event
  Poll : Event
  Around : Outside → Event

-- The same, as the program holds it.
abbrev pub play_view : PlayLine → Event
play_view (code.Connect port) = Connect port
play_view (code.Listen port) = Listen port
play_view (code.Unlisten port) = Unlisten port
play_view (code.Accept port) = Accept port
play_view (code.Send id bytes) = Send id (content_of bytes)
play_view (code.Recv id len) = Recv id len
play_view (code.Shutdown id b) = Shutdown id b
play_view (code.Grow id alloc) = Grow id alloc
play_view (code.Close id) = Close id
play_view (code.State id) = State id
play_view code.Poll = Poll
play_view (code.Outside line) = Around (outside_view line)

-- send C DATA, behind its name
abbrev pub send_line : List (List ℕ) → Result Event Why
send_line words = after (id words) (λ c rest. after (content MAX_FILL rest) (λ bytes behind. ending (Send c bytes) behind))

-- recv C N, behind its name
abbrev pub recv_line : List (List ℕ) → Result Event Why
recv_line words = after (id words) (λ c rest. named (Recv c) (only (number 1 MAX_RECV) rest))

-- shutdown C B, behind its name
abbrev pub shutdown_line : List (List ℕ) → Result Event Why
shutdown_line words = after (id words) (λ c rest. named (Shutdown c) (only bits rest))

-- grow C N, behind its name
abbrev pub grow_line : List (List ℕ) → Result Event Why
grow_line words = after (id words) (λ c rest. named (Grow c) (only (number 1 MAX_GROW) rest))

-- The lines that aren't on ports, by their name.
abbrev pub connection_line : List ℕ → List (List ℕ) → Result Event Why
connection_line name words =
    if bytes_eq name (codes "send") then send_line words
    else if bytes_eq name (codes "recv") then recv_line words
    else if bytes_eq name (codes "shutdown") then shutdown_line words
    else if bytes_eq name (codes "grow") then grow_line words
    else if bytes_eq name (codes "close") then named Close (only id words)
    else if bytes_eq name (codes "state") then named State (only id words)
    else if bytes_eq name (codes "poll") then ending Poll words
    else named Around (outside_line name words)

-- The lines of a play, by their name.
abbrev pub named_line : List ℕ → List (List ℕ) → Result Event Why
named_line name words =
    if bytes_eq name (codes "connect") then named Connect (only port words)
    else if bytes_eq name (codes "listen") then named Listen (only port words)
    else if bytes_eq name (codes "unlisten") then named Unlisten (only port words)
    else if bytes_eq name (codes "accept") then named Accept (only port words)
    else connection_line name words

-- What the words of a line say in a play.
abbrev pub play_line : List (List ℕ) → Result Event Why
play_line words = after (word words) named_line
