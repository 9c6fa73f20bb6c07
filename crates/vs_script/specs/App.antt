-- Apps of a run: the instructions that each carries out in turn.
use Rattle.std.specs.Prelude.{ℕ, if◌then◌else◌, Bool, List, map, codes, bytes_eq, Result, Err}
use Rattle.vs_script.specs.{Data.{Content, content_of}, Field.{after, ending, word, number, port, bits, content, only, named}, declared.fault.Why.{Why, TheVariants.BadWord}}
use Rattle.vs_script.specs.declared.{app.{App.App, Instruction.Instruction, RunLine.RunLine, TheConstants.{MAX_APP_FILL, MAX_APP_RECV}}, outside.TheConstants.MAX_GROW}
use Rattle.vs_script.specs.declared.app.Instruction.TheVariants as code
use Rattle.vs_script.specs.declared.app.RunLine.TheVariants as run

-- What an app does next.
pub data Act : Type 0 where
  Connect : (port : ℕ) → Act
  Listen : (port : ℕ) → Act
  Accept : (port : ℕ) → Act
  Send : (bytes : Content) → Act
  Recv : (len : ℕ) → Act
  Drain : Act
  Exchange : (bytes : Content) → Act
  Shutdown : (bits : ℕ) → Act
  Grow : (alloc : ℕ) → Act
  Close : Act

-- A line of a run: an app begins, or the app that began last does something.
pub data RunStep : Type 0 where
  Begin : RunStep
  Do : Act → RunStep

-- The same, as the program holds them.
abbrev pub instruction_view : Instruction → Act
instruction_view (code.Connect port) = Connect port
instruction_view (code.Listen port) = Listen port
instruction_view (code.Accept port) = Accept port
instruction_view (code.Send bytes) = Send (content_of bytes)
instruction_view (code.Recv len) = Recv len
instruction_view code.Drain = Drain
instruction_view (code.Exchange bytes) = Exchange (content_of bytes)
instruction_view (code.Shutdown b) = Shutdown b
instruction_view (code.Grow alloc) = Grow alloc
instruction_view code.Close = Close

abbrev pub run_view : RunLine → RunStep
run_view run.App = Begin
run_view (run.Do instruction) = Do (instruction_view instruction)

abbrev pub app_view : App → List Act
app_view app = map instruction_view app.instructions.items

-- The instructions that aren't on ports, by their name.
abbrev pub connection_instruction : List ℕ → List (List ℕ) → Result Act Why
connection_instruction name words =
    if bytes_eq name (codes "send") then named Send (only (content MAX_APP_FILL) words)
    else if bytes_eq name (codes "recv") then named Recv (only (number 1 MAX_APP_RECV) words)
    else if bytes_eq name (codes "drain") then ending Drain words
    else if bytes_eq name (codes "exchange") then named Exchange (only (content MAX_APP_FILL) words)
    else if bytes_eq name (codes "shutdown") then named Shutdown (only bits words)
    else if bytes_eq name (codes "grow") then named Grow (only (number 1 MAX_GROW) words)
    else if bytes_eq name (codes "close") then ending Close words
    else Err BadWord

-- The instructions, by their name.
abbrev pub instruction_line : List ℕ → List (List ℕ) → Result Act Why
instruction_line name words =
    if bytes_eq name (codes "connect") then named Connect (only port words)
    else if bytes_eq name (codes "listen") then named Listen (only port words)
    else if bytes_eq name (codes "accept") then named Accept (only port words)
    else connection_instruction name words

-- `app`, or an instruction, which stands behind the first `app`.
abbrev pub run_line_named : Bool → List ℕ → List (List ℕ) → Result RunStep Why
run_line_named begun name words =
    if bytes_eq name (codes "app") then ending Begin words
    else if begun then named Do (instruction_line name words)
    else Err BadWord

-- What the words of a line say in a run.
abbrev pub run_line : Bool → List (List ℕ) → Result RunStep Why
run_line begun words = after (word words) (run_line_named begun)
