-- Whole calls, one line of a script each, and what each answers.
use Rattle.std.specs.Prelude.{◌≡◌, ℕ, ◌+◌, Bool, true, List, [], ◌∷◌, length, map, Option, Result}
use Rattle.vs_flow.specs.{Connection.Connection, declared.flow.Flow.Flow}
use Rattle.vs_outside.specs.{Host.{HostContents, with_stream}, HostBytes.{wrote_after_connect, read_after_ok}, HostProgram.{after_listen, after_unlisten, after_client}}
use Rattle.vs_outside.specs.{HostProgram.{after_host_write, host_write_answer, has_stream, allowed, ended, closed, after_fail}, declared.mem_stream.HostWritten.HostWritten}
use Rattle.vs_ring_port.specs.declared.failure.Failure.{Failure}
use Rattle.vs_driver_parts.specs.{declared.answers.Polled.Polled, Conversations.poll_of}
use Rattle.vs_device_parts.specs.declared.answers.Grown.{Grown}
use Rattle.vs_proxy_parts.specs.{Growing.{after_label_grow, label_at, label_grow_of}, Turns.{turn_of, proxy_reset_of}, declared.answers.Turn.Turn}
use Rattle.laws_world.specs.{Events.is_guest_cid, World.{World, driver_plays, device_plays}}
use Rattle.laws_driver.specs.Carried.{Calls.{GuestCall, ReplyTo, bytes_sent, id_named, is_right, whole_call, with_call}, Senders.sent_there}
use Rattle.vs_header.specs.declared.Kind.TheVariants as kind

pub data Line : Type 0 where
  Guest : GuestCall → Line
  Poll : Line
  TurnAt : ℕ → Line
  ResetTo : ℕ → Line
  Grow : ℕ → ℕ → Line
  Client : Line
  HostListen : ℕ → Line
  HostUnlisten : ℕ → Line
  HostWrite : ℕ → List ℕ → Line
  HostAllow : ℕ → ℕ → Line
  HostEnd : ℕ → Line
  HostClosed : ℕ → Line
  HostFail : ℕ → Line

pub data Said : Type 0 where
  Replied : (call : GuestCall) → ReplyTo call → Said
  HasPolled : Polled → Said
  HasTurned : Turn → Said
  WasReset : Result (Unit {0}) Failure → Said
  HasGrown : Option Grown → Said
  StreamIs : ℕ → Said
  Wrote : HostWritten → Said
  IsThere : Bool → Said

abbrev pub guest_line : (call : GuestCall) → World → World × Said
guest_line call w =
    let r = driver_plays (whole_call call w.driver) w in
    (record r.1 { driver = r.0.0; journal = with_call call w.driver r.0.1 w.journal }, Replied call r.0.1)

abbrev pub poll_line : World → World × Said
poll_line w = let r = driver_plays (poll_of w.driver) w in (record r.1 { driver = r.0.0 }, HasPolled r.0.1)

abbrev pub turn_line : ℕ → World → World × Said
turn_line now w = let r = device_plays (turn_of w.rings.lists.size now w.proxy) w in (record r.1 { proxy = r.0.0 }, HasTurned r.0.1)

abbrev pub reset_line : ℕ → World → World × Said
reset_line cid w = let r = device_plays (proxy_reset_of cid w.proxy) w in (record r.1 { proxy = r.0.0 }, WasReset r.0.1)

-- The device raises the buffer space of a stream's connection.
abbrev pub grow_line : ℕ → ℕ → World → World × Said
grow_line stream alloc w =
    let label = label_at stream w.host in
    (record w { proxy = after_label_grow label alloc w.proxy }, HasGrown (label_grow_of label alloc w.proxy))

abbrev pub host_line : (HostContents → HostContents) → Said → World → World × Said
host_line f said w = (record w { host = f w.host }, said)

abbrev pub line : Line → World → World × Said
line (Guest call) w = guest_line call w
line Poll w = poll_line w
line (TurnAt now) w = turn_line now w
line (ResetTo cid) w = reset_line cid w
line (Grow stream alloc) w = grow_line stream alloc w
line Client w = host_line after_client (StreamIs (length w.host.streams + 1)) w
line (HostListen port) w = host_line (after_listen port kind.Stream) (IsThere true) w
line (HostUnlisten port) w = host_line (after_unlisten port kind.Stream) (IsThere true) w
line (HostWrite stream bytes) w = let a = host_write_answer stream w.host in host_line (after_host_write stream bytes a) (Wrote a) w
line (HostAllow stream n) w = host_line (with_stream stream (allowed 18446744073709551615 n)) (IsThere (has_stream stream w.host)) w
line (HostEnd stream) w = host_line (with_stream stream ended) (IsThere (has_stream stream w.host)) w
line (HostClosed stream) w = host_line (with_stream stream closed) (IsThere (has_stream stream w.host)) w
line (HostFail n) w = host_line (after_fail n) (IsThere true) w

-- How many connections each table has, what each stream's program wrote and read, and what was counted.
pub record StreamShown : Type 0 where
  pub label : Option Flow
  pub wrote : List ℕ
  pub read : List ℕ

pub record Report : Type 0 where
  pub guest_open : ℕ
  pub device_open : ℕ
  pub streams : List StreamShown
  pub dropped : ℕ
  pub overrun : ℕ
  pub broken : ℕ
  pub faults : ℕ

abbrev pub report : World → Report
report w = record {
  guest_open = length w.driver.table.entries;
  device_open = length w.proxy.device.table.entries;
  streams = map (λ s. record { label = s.label; wrote = wrote_after_connect s; read = read_after_ok s }) w.host.streams;
  dropped = w.proxy.device.dropped;
  overrun = w.proxy.device.overrun;
  broken = w.driver.broken;
  faults = w.proxy.device.faults;
}

-- The answers of a script's lines, and the report at its end.
abbrev pub play : List Line → World → List Said × Report
play [] w = ([], report w)
play (l ∷ ls) w = let r = line l w in let rest = play ls r.0 in (r.1 ∷ rest.0, rest.1)

-- The bytes that a line sends on a connection, where ids were given to these: those that the answer says.
abbrev pub sent_by : (ℕ → Connection) → Connection → Line → World → List ℕ
sent_by opened c (Guest call) w =
    sent_there opened c (id_named call w.driver) (bytes_sent call (driver_plays (whole_call call w.driver) w).0.1)
sent_by opened c _ w = []

-- A line that may be given: a port has 32 bits, and a CID is one that a guest may have.
abbrev pub is_given_right : Line → Bool
is_given_right (Guest call) = is_right call
is_given_right (ResetTo cid) = is_guest_cid cid
is_given_right _ = true

-- Each line of a script may be given.
abbrev pub AreRight : List Line → Type 0
AreRight [] = Unit {0}
AreRight (l ∷ ls) = (is_given_right l ≡ true) × AreRight ls

-- The world after a script.
abbrev pub after : List Line → World → World
after [] w = w
after (l ∷ ls) w = after ls (line l w).0
