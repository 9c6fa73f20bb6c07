-- What the host's streams were given, against the payloads delivered on their connections.
use Rattle.std.specs.{Prelude.{◌≡◌, ◌≢◌, ℕ, ◌++◌, ◌&&◌, not, Bool, true, false, if◌then◌else◌, List, [], Option, Some, None, AllPairs}, List.All, Option.option_map}
use Rattle.vs_conn.specs.declared.end.State.TheVariants.{Asked, Ended}
use Rattle.vs_flow.specs.{Table.{Table, IsTable, entry_of}, declared.flow.Flow.Flow}
use Rattle.vs_page.specs.Fair.{IsPrefixOf}
use Rattle.vs_outside.specs.HostBytes.{after_line, has_line}
use Rattle.vs_uds.specs.{OkLine.ok_text, Reading.is_decided, declared.connect.TheConstants.CONNECT_MAX}
use Rattle.vs_device_parts.specs.State.{DeviceConnection, DeviceEntry}
use Rattle.laws_tables.specs.Drains.{Drains}
use Rattle.laws_device.specs.Carried.Streamed.{gives}
use Rattle.vs_proxy_parts.specs.State.{Handshake, ProxyState}
use Rattle.laws_proxy.specs.Account.Made.{Account, Made, account_of, new_account, payload_put, payload_taken}

-- The OK line that a client's stream is given first.
abbrev pub ok_line_of : Bool → Flow → List ℕ
ok_line_of by_client flow = if by_client then ok_text flow.host else []

-- A stream is given a prefix of its OK line and the payloads delivered on its own connection. Without a label it is given nothing.
abbrev pub IsGiven : Option Flow → Account → Type 0
IsGiven None a = a.given ≡ []
IsGiven (Some flow) a = IsPrefixOf a.given (ok_line_of a.by_client flow ++ a.delivered)

-- The account of a client's stream while its line is read; and when the line is whole: it has its LF, and nothing is taken behind it.
abbrev pub reading_account : List ℕ → Account
reading_account line = record (new_account None true) { line = line }

abbrev pub IsWhole : List ℕ → Type 0
IsWhole line = (has_line line ≡ true) × (after_line line ≡ [])

-- Nothing is taken behind a client's line before its stream has a label, and then the line is whole. The stream of a dial has no line.
abbrev pub IsLine : Bool → List ℕ → Type 0
IsLine true line = IsWhole line
IsLine false line = line ≡ []

abbrev pub IsRead : Option Flow → Account → Type 0
IsRead None a = a.taken ≡ []
IsRead (Some flow) a = IsLine a.by_client a.line

abbrev pub IsLawful : Option Flow → Account → Type 0
IsLawful o a = IsGiven o a × IsRead o a

-- Whether a connection's stream is given all that comes: it isn't closed, and neither did the connection end nor decide to receive no more.
abbrev pub gives_all : DeviceConnection → Bool
gives_all c = not c.closed && gives c.end

-- A connection and the account of its stream: what the stream was given and what is held are what came, all of it while all is given.
pub record IsTiedTo (a : Account) (e : DeviceEntry) : Type 0 where
  pub label : a.label ≡ Some e.flow
  pub client : a.by_client ≡ e.value.by_client
  pub closed : a.closed ≡ e.value.closed
  pub line : IsLine a.by_client a.line
  pub drains : Drains (gives_all e.value) a.given (e.value.ok_line ++ e.value.pending) (ok_line_of e.value.by_client e.flow ++ a.delivered)
  pub asked : e.value.end.state ≡ Asked → (a.given ≡ []) × (a.delivered ≡ []) × (e.value.ok_line ≡ []) × (e.value.pending ≡ [])

abbrev pub IsTied : (ℕ → Option Account) → DeviceEntry → Type 0
IsTied at e = (a : Account) × (at e.value.stream ≡ Some a) × IsTiedTo a e

-- The stream of the connection of a flow.
abbrev pub stream_of : Table DeviceConnection → Flow → Option ℕ
stream_of t flow = option_map (λ e. e.value.stream) (entry_of t flow)

-- Each connection is tied to its stream, each handshake has a client's stream of its own that has no label yet; a stream with a label
-- that isn't closed is that of the connection of its flow.
pub record AreTied (at : ℕ → Option Account) (t : Table DeviceConnection) (hands : List Handshake) : Type 0 where
  pub table : IsTable t
  pub joined : All (IsTied at) t.entries
  pub waiting : All (λ h. at h.stream ≡ Some (reading_account h.line)) hands
  pub undecided : All (λ h. is_decided CONNECT_MAX h.line ≡ false) hands
  pub apart : AllPairs (λ g h. g.stream ≢ h.stream) hands
  pub lawful : (id : ℕ) (a : Account) → at id ≡ Some a → IsLawful a.label a
  pub serves : (id : ℕ) (a : Account) (flow : Flow) → at id ≡ Some a → a.label ≡ Some flow → a.closed ≡ false → stream_of t flow ≡ Some id

-- A connection whose stream is closed is over.
abbrev pub IsOver : DeviceEntry → Type 0
IsOver e = e.value.closed ≡ true → e.value.end.state ≡ Ended

pub record Agree (at : ℕ → Option Account) (put taken : Flow → List ℕ) (t : Table DeviceConnection) (hands : List Handshake) : Type 0 where
  pub tied : AreTied at t hands
  pub over : All IsOver t.entries
  -- What was put on a flow is what was taken of the streams that have its ports.
  pub carried : (flow : Flow) → put flow ≡ taken flow

-- The calls that were made for a proxy so far account for what it holds.
abbrev pub AgreesWith : List Made → Table DeviceConnection → List Handshake → Type 0
AgreesWith calls t hands = Agree (account_of calls) (payload_put calls) (payload_taken calls) t hands

abbrev pub AccountsFor : ProxyState → List Made → Type 0
AccountsFor s calls = AgreesWith calls s.device.table s.handshakes
