-- Raising the buffer space of a connection: what is answered, and what it leaves.
use Rattle.std.specs.Prelude.{ℕ, nat_lt, ◌&&◌, not, Bool, false, if◌then◌else◌, Option, Some, None}
use Rattle.vs_conn.specs.{End.{ConnectionEnd, grown, owes_of}, Shut.is_both, declared.end.Owed.Owed, declared.end.State.State}
use Rattle.vs_flow.specs.Table.{entry_under}
use Rattle.vs_limits.specs.declared.TheConstants.{BUF_ALLOC_MAX}
use Rattle.vs_device_parts.specs.{declared.answers.Grown.Grown, Connections.with_connection, State.{DeviceEntry, DeviceState}}
use Rattle.vs_conn.specs.declared.end.State.TheVariants as state
use Rattle.vs_device_parts.specs.declared.answers.Grown.TheVariants as rise

-- What is answered by an end that is open, where the buffer space is to be `alloc` bytes, and by one in any state.
abbrev pub live_grow_answer : ℕ → ConnectionEnd → Grown
live_grow_answer alloc end =
    if nat_lt BUF_ALLOC_MAX alloc then rise.TooBig BUF_ALLOC_MAX
    else if nat_lt alloc end.credit.alloc then rise.Shrinks end.credit.alloc
    else rise.Done

abbrev pub grow_answer : State → ℕ → ConnectionEnd → Grown
grow_answer state.Asked alloc end = rise.NotOpen
grow_answer state.Answering alloc end = rise.NotOpen
grow_answer state.Live alloc end = live_grow_answer alloc end
grow_answer state.Ended alloc end = rise.Reset

abbrev pub entry_grow_answer : ℕ → DeviceEntry → Grown
entry_grow_answer alloc e = grow_answer e.value.end.state alloc e.value.end

abbrev pub grow_of : ℕ → ℕ → DeviceState → Grown
grow_of slot alloc s = elim (entry_under s.table slot) [ None ↦ rise.Unknown | Some e ↦ entry_grow_answer alloc e ]

-- What it leaves, by its answer.
abbrev pub grown_by : Grown → ℕ → DeviceEntry → DeviceState → DeviceState
grown_by rise.Done alloc e s = with_connection e.slot (record e.value { end = grown e.value.end alloc }) s
grown_by _ alloc e s = s

abbrev pub after_grow : ℕ → ℕ → DeviceState → DeviceState
after_grow slot alloc s = elim (entry_under s.table slot) [ None ↦ s | Some e ↦ grown_by (entry_grow_answer alloc e) alloc e s ]

-- The packet that the connection in a slot owes next.
abbrev pub owed_in : ℕ → DeviceState → Option Owed
owed_in slot s = elim (entry_under s.table slot) [ None ↦ None | Some e ↦ owes_of e.value.end ]

-- The buffer space of the connection in a slot is below this, and its peer wasn't told that both directions are shut.
abbrev pub rises : ℕ → ℕ → DeviceState → Bool
rises slot alloc s = elim (entry_under s.table slot) [
  | None ↦ false
  | Some e ↦ nat_lt e.value.end.credit.alloc alloc && not (is_both e.value.end.told)
]
