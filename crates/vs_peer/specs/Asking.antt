-- How a client asks for a port of the guest, and is answered (Firecracker's vsock documentation).
use Rattle.std.specs.Prelude.{◌≡◌, ◌<◌, ◌⊎◌, ℕ, false, List, [], length, take, Option, Result, Ok, Err}
use Rattle.vs_contents.specs.Contents.{Relates}
use Rattle.vs_outside.specs.Host.{HostContents}
use Rattle.vs_uds.specs.{OkLine.IsOkLine, OkLine.ok_step, declared.scan.Step.TheVariants.More, declared.scan.Step.TheVariants.Bad}
use Rattle.vs_peer.specs.{Passing.{Moves, Now, IsClosed, ReadsAgain, ReadsEnd, WritesAgain}, declared.stop.Stop.Stop}
use Rattle.vs_peer.specs.declared.stop.Stop.TheVariants as stop

-- Less than the whole line was given.
pub record AsksSome (id : ℕ) (line : List ℕ) (before after : Option HostContents) : Type 0 where
  pub sent : ℕ
  pub less : sent < length line
  pub passes : Relates before after (Moves id (take sent line) [] false)

-- The line was given; or less than the whole line, and the stream takes nothing now, or was closed.
abbrev pub Asks : ℕ → List ℕ → Option HostContents → Option HostContents → Result (Unit {0}) Stop → Type 0
Asks id line before after (Ok u) = Relates before after (Moves id line [] false)
Asks id line before after (Err stop.Waited) = AsksSome id line before after × Now id WritesAgain after
Asks id line before after (Err stop.Refused) = AsksSome id line before after × Now id IsClosed after
Asks id line before after (Err stop.Host) = AsksSome id line before after
Asks id line before after (Err stop.Sink) = ⊥

-- Bytes came that are no whole line yet.
pub record AnswersSome (id : ℕ) (before after : Option HostContents) : Type 0 where
  pub line : List ℕ
  pub more : ok_step line ≡ More
  pub passes : Relates before after (Moves id [] line false)

-- Bytes came that are no OK line.
pub record AnswersBad (id : ℕ) (before after : Option HostContents) : Type 0 where
  pub line : List ℕ
  pub bad : ok_step line ≡ Bad
  pub passes : Relates before after (Moves id [] line false)

-- The OK line of that port came.
pub record AnswersPort (id port : ℕ) (before after : Option HostContents) : Type 0 where
  pub line : List ℕ
  pub is : IsOkLine line port
  pub passes : Relates before after (Moves id [] line false)

abbrev pub Answers : ℕ → Option HostContents → Option HostContents → Result ℕ Stop → Type 0
Answers id before after (Ok port) = AnswersPort id port before after
Answers id before after (Err stop.Waited) = AnswersSome id before after × Now id ReadsAgain after
Answers id before after (Err stop.Refused) = (AnswersSome id before after × Now id ReadsEnd after) ⊎ AnswersBad id before after
Answers id before after (Err stop.Host) = AnswersSome id before after
Answers id before after (Err stop.Sink) = ⊥
