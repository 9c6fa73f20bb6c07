-- What a hostile guest can't do: what a stream of the host may be given, what is put on a flow, and what a failed device does.
use Rattle.std.specs.{Prelude.{◌≡◌, ℕ, ◌≤◌, ◌++◌, List, [], ◌∷◌, Option, Some, None, Err}, Option.{option_map_or, option_and_then}}
use Rattle.vs_limits.specs.declared.TheConstants.{GUEST_CID_MIN, GUEST_CID_MAX}
use Rattle.vs_flow.specs.declared.flow.Flow.{Flow}
use Rattle.vs_outside.specs.{Host.{Stream, stream_at}, HostBytes.{read_after_ok, wrote_after_connect}}
use Rattle.vs_page.specs.Fair.{IsPrefixOf}
use Rattle.vs_ring_plain.specs.Device.{DeviceState}
use Rattle.vs_ring_port.specs.declared.failure.Failure.{Failure}
use Rattle.vs_proxy_parts.specs.declared.answers.Turn.{Turn as Turning, TheVariants.Failed}
use Rattle.laws_proxy.specs.Account.{Carried.Carries, Counts.{counts_of, counts_shown}, Made.{Made, account_of}, Packets.{AreJudged, chains_taken}, Tied.ok_line_of}
use Rattle.vs_script.specs.{Hostile.{Around, Hostile}, Outside.{Reset, Turn}}
use Rattle.vs_hostile.specs.{Run.{GuestState, HasRings, HasTurned, HostileState, WasReset, beginning, hostile_does, line_in}, Answer.state_after}
use Rattle.laws_hostile.specs.Recorded.{calls_of, made_in}

-- The payloads delivered on the connection of a stream, joined: those of packets of its flow, read while it had its label and wasn't
-- closed.
abbrev pub delivered_to : ℕ → List Made → List ℕ
delivered_to id calls = option_map_or (λ a. a.delivered) (account_of calls id) []

-- The bytes that were taken of it since it has its label, and so were put on its flow.
abbrev pub taken_from : ℕ → List Made → List ℕ
taken_from id calls = option_map_or (λ a. a.taken) (account_of calls id) []

-- The flow of that connection.
abbrev pub flow_of : ℕ → List Made → Option Flow
flow_of id calls = option_and_then (λ a. a.label) (account_of calls id)

-- A stream without a label was given nothing. One with a label was given a prefix of its OK line, where a client made it, and these
-- payloads.
abbrev pub IsGivenOwn : Option Flow → Stream → List ℕ → Type 0
IsGivenOwn None s delivered = s.given ≡ []
IsGivenOwn (Some flow) s delivered = IsPrefixOf s.given (ok_line_of s.by_client flow ++ delivered)

-- A stream has the label of its connection, and is given the payloads delivered there, and no other.
pub record IsIsolated (id : ℕ) (s : Stream) (calls : List Made) : Type 0 where
  pub label : s.label ≡ flow_of id calls
  pub given : IsGivenOwn s.label s (delivered_to id calls)
  -- So what its program reads behind the OK line are these payloads, as far as they were given.
  pub read : IsPrefixOf (read_after_ok s) (delivered_to id calls)
  -- And what was taken of it since is all that its program wrote behind the CONNECT line.
  pub wrote : (flow : Flow) → s.label ≡ Some flow → wrote_after_connect s ≡ taken_from id calls

-- A device that failed: each turn and each reset tells the failure again, and all stays, the proxy, the memory, the host and its streams.
pub record StaysFailed (s : HostileState) (f : Failure) : Type 0 where
  pub turn : hostile_does (Around Turn) s ≡ (s, HasTurned (Failed f))
  pub reset : (cid : ℕ) → GUEST_CID_MIN ≤ cid → cid ≤ GUEST_CID_MAX → hostile_does (Around (Reset cid)) s ≡ (s, WasReset (Err f))

-- A turn takes the guest's packets and judges each; no other line takes a chain of tx.
abbrev pub IsLineJudged : GuestState → Hostile → HostileState → List Made → Type 0
IsLineJudged (HasRings ring) (Around Turn) s calls =
    (answer : Turning) × ((line_in (HasRings ring) (Around Turn) s).1 ≡ HasTurned answer)
    × AreJudged ring.size s.now s.proxy calls ((line_in (HasRings ring) (Around Turn) s).0.proxy, answer)
    (made_in (HasRings ring) (Around Turn) s calls)
IsLineJudged guest line s calls = chains_taken (made_in guest line s calls) ≡ chains_taken calls

-- Line after line, each from where the one before it led.
abbrev pub AreLinesJudged : List Hostile → HostileState → List Made → Type 0
AreLinesJudged [] s calls = Unit {0}
AreLinesJudged (line ∷ lines) s calls =
    IsLineJudged s.guest line s calls × AreLinesJudged lines (hostile_does line s).0 (made_in s.guest line s calls)

-- What lines of a hostile guest's script lead to, with the calls that the proxy made by then.
pub record IsSafe (lines : List Hostile) : Type 0 where
  -- Each stream has what is its own, and no other.
  pub streams : (id : ℕ) (s : Stream) → stream_at id (state_after lines beginning).host ≡ Some s
      → IsIsolated id s (calls_of lines beginning [])
  -- What was carried: no two streams have one connection, and what is put on a flow is what was taken of its streams, in order.
  pub carried : Carries (calls_of lines beginning []) (state_after lines beginning).proxy.device.table
  -- Each chain that the device took was read and judged: an invalid packet got RST, was dropped and counted, or was the device's failure.
  pub packets : AreLinesJudged lines beginning []
  -- Packets dropped and faults are counted as the calls made say: so many headers from a wrong CID were read, so many calls failed.
  pub counts : counts_shown (state_after lines beginning).proxy.device
      ≡ counts_of (counts_shown beginning.proxy.device) (calls_of lines beginning [])
  -- A failure is kept.
  pub kept : (ring : DeviceState) (f : Failure) → (state_after lines beginning).guest ≡ HasRings ring
      → (state_after lines beginning).proxy.device.failed ≡ Some f → StaysFailed (state_after lines beginning) f
