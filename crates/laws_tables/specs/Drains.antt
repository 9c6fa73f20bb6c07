-- Bytes on their way through a buffer, the payload of a flow in a log, and bytes of one connection.
use Rattle.std.specs.Prelude.{◌≡◌, ℕ, ◌++◌, ◌==◌, ◌&&◌, not, Bool, true, false, if◌then◌else◌, List, []}
use Rattle.vs_conn.specs.{End.ConnectionEnd, declared.end.{State.{State, TheVariants.Ended}, Verdict.Verdict}}
use Rattle.vs_flow.specs.{Connection.Connection, Flow.same_flow, declared.flow.Flow.Flow}
use Rattle.laws_history.specs.History.{puts}
use Rattle.vs_page.specs.{Fair.IsPrefixOf, Fair.payload_of, Log.Log, Log.Role, Log.whole_of}
use Rattle.vs_conn.specs.declared.end.Verdict.TheVariants as verdict

-- What came out of a buffer, and then what it holds, is a prefix of what came in; and all of it, while nothing is left out.
pub record Drains (all : Bool) (out held came : List ℕ) : Type 0 where
  pub front : IsPrefixOf (out ++ held) came
  pub whole : all ≡ true → out ++ held ≡ came

-- Whether an end takes payload: it isn't Ended, and hasn't decided to receive no more.
abbrev pub receives_in : State → Bool → Bool
receives_in Ended shut = false
receives_in _ shut = not shut

abbrev pub receives : ConnectionEnd → Bool
receives e = receives_in e.state e.own.receive

-- How many bytes of a packet are delivered, by its verdict.
abbrev pub delivered : Verdict → ℕ → ℕ
delivered verdict.Deliver n = n
delivered _ n = 0

-- All payload that an end put on a flow.
abbrev pub put_on : Role → Flow → Log → List ℕ
put_on role f log = payload_of (puts (whole_of role f log))

-- These bytes on one connection, and none on any other.
abbrev pub is_same : Connection → Connection → Bool
is_same c d = same_flow c.flow d.flow && (c.number == d.number)

abbrev pub only_on : Connection → List ℕ → Connection → List ℕ
only_on at bytes c = if is_same c at then bytes else []
