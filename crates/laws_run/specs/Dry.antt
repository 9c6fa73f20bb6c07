-- Streams of the host that are at rest: from which nothing is to be taken now, though more may come; and which take nothing now. By connections.
use Rattle.std.specs.{List.All, Option.{ForSome, is_none, option_map_or}, Prelude.{◌≡◌, ◌<◌, ℕ, ◌==◌, ◌&&◌, not, Bool, true, false, if◌then◌else◌, [], length, find, Option, Some, None}}
use Rattle.vs_limits.specs.declared.TheConstants.{HANDSHAKES}
use Rattle.vs_credit.specs.Credit.{free_of}
use Rattle.vs_flow.specs.{Connection.Connection, Table.Table, Table.entry_under}
use Rattle.laws_device.specs.Streams.{is_open_in}
use Rattle.vs_outside.specs.{Host.{HostContents, Stream, is_waiting, stream_at}, HostBytes.stream_of, HostProgram.is_closed}
use Rattle.vs_proxy_parts.specs.State.{ProxyState}
use Rattle.vs_device_parts.specs.{Receiving.may_read, State.DeviceConnection, State.DeviceEntry, Streams.to_write}

-- A connection has a stream that the proxy hasn't closed; and what is so of that one.
abbrev pub stream_open : Connection → HostContents → Bool
stream_open c h = option_map_or (λ s. is_open_in s.state) (stream_of c h) false

abbrev pub OfOpen : Connection → HostContents → (Stream → Type 0) → Type 0
OfOpen c h P = ForSome (stream_of c h) (λ s. is_open_in s.state ≡ true → P s)

-- A read of it gives Again.
pub record IsDry (s : Stream) : Type 0 where
  pub untaken : s.untaken ≡ []
  pub goes_on : s.ended ≡ false

abbrev pub IsDryAt : ℕ → HostContents → Type 0
IsDryAt id h = ForSome (stream_at id h) IsDry

abbrev pub IsToldDry : ℕ → Option HostContents → Type 0
IsToldDry id host = ForSome host (IsDryAt id)

-- It doesn't wait to be accepted.
abbrev pub IsTaken : Stream → Type 0
IsTaken s = is_waiting s ≡ false

abbrev pub IsTakenAt : ℕ → HostContents → Type 0
IsTakenAt id h = ForSome (stream_at id h) IsTaken

abbrev pub IsToldTaken : ℕ → Option HostContents → Type 0
IsToldTaken id host = ForSome host (IsTakenAt id)

-- The stream that the connection under a slot reads: where it may read, and has credit.
abbrev pub reads_of : DeviceEntry → Option ℕ
reads_of e = if may_read e.value.end e.value.end.state && not (free_of e.value.end.credit == 0) then Some e.value.stream else None

abbrev pub reads_under : ℕ → Table DeviceConnection → Option ℕ
reads_under slot t = elim (entry_under t slot) [ None ↦ None | Some e ↦ reads_of e ]

-- A write of a stream gives Again: there is no room.
abbrev pub IsFull : Stream → Type 0
IsFull s = s.room ≡ Some 0

abbrev pub IsFullAt : ℕ → HostContents → Type 0
IsFullAt id h = ForSome (stream_at id h) IsFull

abbrev pub IsToldFull : ℕ → Option HostContents → Type 0
IsToldFull id host = ForSome host (IsFullAt id)

-- The stream that the connection under a slot has something to write to.
abbrev pub writes_of : DeviceEntry → Option ℕ
writes_of e = if not e.value.closed && not (length (to_write e.value) == 0) then Some e.value.stream else None

abbrev pub writes_under : ℕ → Table DeviceConnection → Option ℕ
writes_under slot t = elim (entry_under t slot) [ None ↦ None | Some e ↦ writes_of e ]

-- Each stream that a connection may read, with credit, is dry, and each that it has something to write to is full.
abbrev pub AreIdle : Table DeviceConnection → Option HostContents → Type 0
AreIdle t host =
    ((slot id : ℕ) → reads_under slot t ≡ Some id → IsToldDry id host) × ((slot id : ℕ) → writes_under slot t ≡ Some id → IsToldFull id host)

-- Each line that is being read is dry; and no client waits, where a place is free and no fault was counted.
pub record AreLinesIdle (p : ProxyState) (host : Option HostContents) : Type 0 where
  pub read : All (λ h. IsToldDry h.stream host) p.handshakes
  pub waits : length p.handshakes < HANDSHAKES → p.device.faults ≡ 0 → (id : ℕ) → IsToldTaken id host

-- A client's stream that has no label and that the proxy hasn't closed. A read of each that was accepted gives Again; and, where no fault was counted, so does
-- one of the oldest, accepted or not.
abbrev pub is_free : Stream → Bool
is_free s = s.by_client && (is_none s.label && not (is_closed s))

pub record AreClientsDry (faults : ℕ) (h : HostContents) : Type 0 where
  pub accepted : All (λ s. is_free s ≡ true → is_waiting s ≡ false → IsDry s) h.streams
  pub oldest : faults ≡ 0 → ForSome (find is_free h.streams) IsDry
