-- What connect and send leave, for each answer.
use Rattle.std.specs.Prelude.{◌≡◌, ℕ, ◌==◌, ◌≤◌, Bool, true, false, List, length, min, take, Option, Some, None, Result, Ok, Err}
use Rattle.vs_contents.specs.CallTree.{Done, bind}
use Rattle.vs_conn.specs.{End.{CanSend, may_send_of, with_payload_sent, wanting_credit}, declared.end.Stop.Stop}
use Rattle.vs_flow.specs.Table.{entry_under}
use Rattle.vs_driver_parts.specs.{declared.answers.{ConnectError.ConnectError, Sent.Sent}, State.{DriverEntry, DriverState, entry_known_as}}
use Rattle.vs_driver_parts.specs.{Connections.{connect_refusal, connected, is_bad_cid, with_end}, Conversations.{DriverTree, no_credit, not_sent, reap_all, send_stopped, send_with_page}}
use Rattle.vs_page.specs.declared.page.TheConstants.{PAYLOAD_MAX}
use Rattle.vs_driver_parts.specs.declared.answers.ConnectError.TheVariants as refused
use Rattle.vs_driver_parts.specs.declared.answers.Sent.TheVariants as sent

-- Nothing changes, but that transmit pages may have come back.
abbrev pub KeepsAllButPages : DriverState → DriverState → Type 0
KeepsAllButPages old new = new ≡ record old { in_flight = new.in_flight }

-- A connection to a port of a peer is opened under this id. Transmit pages may have come back before.
abbrev pub Opens : ℕ → ℕ → DriverState → DriverState → ℕ → Type 0
Opens peer port old new id =
    (connect_refusal peer port old ≡ None) × (id ≡ old.next_id) × (new ≡ record (connected peer port old) { in_flight = new.in_flight })

abbrev pub OpensCid : ℕ → ℕ → DriverState → DriverState → ℕ → Type 0
OpensCid cid port old new id = (is_bad_cid cid old ≡ false) × Opens cid port old new id

-- No transmit page is free.
abbrev pub FindsNoPage : DriverState → DriverState → ConnectError → Type 0
FindsNoPage old new e = (e ≡ refused.NoDescriptor old.size) × (new.in_flight ≡ old.size) × KeepsAllButPages old new

-- A refusal comes as `connect_refusal` says, and nothing changes; where it says none, no transmit page is free.
abbrev pub RefusesBy : Option ConnectError → DriverState → DriverState → ConnectError → Type 0
RefusesBy (Some refusal) old new e = (e ≡ refusal) × (new ≡ old)
RefusesBy None old new e = FindsNoPage old new e

abbrev pub Refuses : ℕ → ℕ → DriverState → DriverState → ConnectError → Type 0
Refuses peer port old new e = RefusesBy (connect_refusal peer port old) old new e

-- A CID that no peer has is refused first.
abbrev pub RefusesCidBy : Bool → ℕ → ℕ → DriverState → DriverState → ConnectError → Type 0
RefusesCidBy true cid port old new e = (e ≡ refused.BadCid cid) × (new ≡ old)
RefusesCidBy false cid port old new e = Refuses cid port old new e

abbrev pub RefusesCid : ℕ → ℕ → DriverState → DriverState → ConnectError → Type 0
RefusesCid cid port old new e = RefusesCidBy (is_bad_cid cid old) cid port old new e

-- send: how many bytes go, as the credit allows and one packet carries.
abbrev pub sent_at_most : ℕ → List ℕ → ℕ
sent_at_most credit bytes = min (min credit PAYLOAD_MAX) (length bytes)

-- Where there is credit n bytes are sent, or no transmit page is free. Pages may have come back before.
abbrev pub SendsFront : DriverEntry → ℕ → DriverState → DriverState → Sent → Type 0
SendsFront e n old new (sent.Took k) =
    (k ≡ n) × (new.in_flight ≤ old.size) × (new ≡ record (with_end (with_payload_sent e.value.end n) e old) { in_flight = new.in_flight })
SendsFront e n old new (sent.NoDescriptor k) = (k ≡ old.size) × (new.in_flight ≡ old.size) × KeepsAllButPages old new
SendsFront e n old new _ = ⊥

-- An empty slice is sent at once, and where there is no credit some is asked for.
abbrev pub SendsWith : Bool → Bool → DriverEntry → ℕ → List ℕ → DriverState → DriverState → Sent → Type 0
SendsWith true none e credit bytes old new answer = (answer ≡ sent.Took 0) × (new ≡ old)
SendsWith false true e credit bytes old new answer = (answer ≡ no_credit e.value.end) × (new ≡ with_end (wanting_credit e.value.end) e old)
SendsWith false false e credit bytes old new answer = SendsFront e (sent_at_most credit bytes) old new answer

-- A connection that may not send says why, and nothing changes.
abbrev pub SendsOn : Result ℕ Stop → DriverEntry → List ℕ → DriverState → DriverState → Sent → Type 0
SendsOn (Err why) e bytes old new answer = (answer ≡ send_stopped why) × (new ≡ old)
SendsOn (Ok credit) e bytes old new answer = SendsWith (length bytes == 0) (credit == 0) e credit bytes old new answer

abbrev pub SendsBy : Option DriverEntry → ℕ → List ℕ → DriverState → DriverState → Sent → Type 0
SendsBy None id bytes old new answer = (answer ≡ not_sent id old) × (new ≡ old)
SendsBy (Some e) id bytes old new answer = SendsOn (may_send_of e.value.end) e bytes old new answer

-- What send answers and leaves, in the order of its checks.
abbrev pub Sends : ℕ → List ℕ → DriverState → DriverState → Sent → Type 0
Sends id bytes old new answer = SendsBy (entry_known_as id old) id bytes old new answer

-- A send that comes to a page: so many bytes from the front go on the connection in this slot. This is left of the whole call, and of the
-- call on the pages as they stand.
pub record NeedsPage (bytes : List ℕ) (whole step : DriverTree (DriverState × Sent)) (old new : DriverState) (slot n : ℕ) : Type 0 where
  pub entry : DriverEntry
  pub found : entry_under old.table slot ≡ Some entry
  pub credit : CanSend entry.value.end (length (take n bytes))
  pub same : new ≡ old
  pub whole_is : whole ≡ bind (reap_all old) (send_with_page entry (take n bytes))
  pub step_is : step ≡ send_with_page entry (take n bytes) old

-- What a send comes to before a page is looked for: it is over with an answer, or it needs a page.
abbrev pub Readies : List ℕ → DriverTree (DriverState × Sent) → DriverTree (DriverState × Sent) → DriverState → DriverState
    → Result (ℕ × ℕ) Sent → Type 0
Readies bytes whole step old new (Err answer) = (whole ≡ Done (new, answer)) × (step ≡ Done (new, answer))
Readies bytes whole step old new (Ok (slot, n)) = NeedsPage bytes whole step old new slot n
