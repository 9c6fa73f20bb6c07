-- Each connection is a pipe: what came in on it is read in its order, and a call on one connection leaves all others alone.
use Rattle.std.specs.Prelude.{◌≡◌, ◌≢◌, ◌&&◌, ℕ, nat_lt, Bool, false, not, List, [], take, Option, Some, None}
use Rattle.vs_conn.specs.{End.owes_of, Shut.is_both, declared.end.Owed.Owed}
use Rattle.vs_driver_parts.specs.{declared.answers.{Grown.Grown, Received.Received, Shut.Shut}, State.{DriverEntry, DriverState, GoneConnection, entry_known_as, gone_known_as}}
use Rattle.vs_driver_parts.specs.declared.answers.Grown.TheVariants as rise
use Rattle.vs_driver_parts.specs.declared.answers.Received.TheVariants as got
use Rattle.vs_driver_parts.specs.declared.answers.Shut.TheVariants as shut

-- What the application has under an id: a connection of the table, or one that is gone.
abbrev pub connection_of : ℕ → DriverState → Option DriverEntry × Option GoneConnection
connection_of id s = (entry_known_as id s, gone_known_as id s)

-- Every connection with another id is as it was, and so are its unread bytes.
abbrev pub KeepsOthers : ℕ → DriverState → DriverState → Type 0
KeepsOthers id old new = (other : ℕ) → other ≢ id → connection_of other new ≡ connection_of other old

-- recv: the bytes that it gave, at the front of the buffer.
abbrev pub bytes_given : Received → List ℕ → List ℕ
bytes_given (got.Got n) out = take n out
bytes_given _ out = []

-- P holds unless recv gave bytes.
abbrev pub UnlessGot : Received → Type 0 → Type 0
UnlessGot (got.Got n) P = Unit {0}
UnlessGot _ P = P

-- The connection is one of the table that receives: it hasn't shut that direction.
abbrev pub receives : ℕ → DriverState → Bool
receives id s = elim (entry_known_as id s) [ None ↦ false | Some e ↦ not e.value.end.own.receive ]

-- P holds where shutdown shut the directions, or where it didn't.
abbrev pub IfShut : Shut → Type 0 → Type 0
IfShut shut.Done P = P
IfShut _ P = Unit {0}

abbrev pub UnlessShut : Shut → Type 0 → Type 0
UnlessShut shut.Done P = Unit {0}
UnlessShut _ P = P

-- The packet that the connection owes next, where it is one of the table.
abbrev pub owed_by : ℕ → DriverState → Option Owed
owed_by id s = elim (entry_known_as id s) [ None ↦ None | Some e ↦ owes_of e.value.end ]

-- The connection's buffer space is below this, and its peer wasn't told that both directions are shut.
abbrev pub rises : ℕ → ℕ → DriverState → Bool
rises id alloc s = elim (entry_known_as id s) [
  | None ↦ false
  | Some e ↦ nat_lt e.value.end.credit.alloc alloc && not (is_both e.value.end.told)
]

-- P holds where grow raised the buffer space or found it as asked for, or where it did neither.
abbrev pub IfGrown : Grown → Type 0 → Type 0
IfGrown rise.Done P = P
IfGrown _ P = Unit {0}

abbrev pub UnlessGrown : Grown → Type 0 → Type 0
UnlessGrown rise.Done P = Unit {0}
UnlessGrown _ P = P
