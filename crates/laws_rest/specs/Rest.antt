-- Driver and device at rest, as plain data: each got all that the other put, and nothing is owed.
use Rattle.std.specs.{Prelude.{◌≡◌, ℕ, ◌+◌, ◌-◌, ◌<◌, ◌≤◌, ◌^◌, Bool, true, false, [], ◌∷◌, None}, List.All, Option.ForSome}
use Rattle.vs_wrap.specs.Wrap.{difference32}
use Rattle.laws_history.specs.Packets.{is_request}
use Rattle.vs_header.specs.declared.Kind.TheVariants.{Stream}
use Rattle.vs_conn.specs.{End.ConnectionEnd, End.is_of, End.owes_of, Shut.is_both, declared.end.State.TheVariants.Live}
use Rattle.vs_flow.specs.declared.flow.Flow.{Flow}
use Rattle.vs_limits.specs.declared.TheConstants.{BUF_ALLOC, HOST_CID, UPDATE_AT}
use Rattle.vs_page.specs.{Fair.IsFairLog, Log.Device, Log.Log, Log.Role, Log.other_role, Log.packets_got, Log.packets_put, Open.cid_of}
use Rattle.vs_page.specs.{Open.is_dropped, declared.log.LogEntry.TheVariants.Mark, declared.log.LogEntry.TheVariants.PutPacket}
use Rattle.vs_ring_port.specs.Contents.{RingContents}
use Rattle.laws_tables.specs.{Both.Both, Both.at, Ends.Ends, Ends.flows_of, Ends.is_among, Matches.Matches}

-- No transport reset stands in a log.
abbrev pub has_no_mark : Log → Bool
has_no_mark [] = true
has_no_mark (Mark cid ∷ log) = false
has_no_mark (_ ∷ log) = has_no_mark log

-- The device drops none of the packets that the driver put, where it knows the guest by the same CID: each has the CID that the guest had at
-- that point, and goes to the host. And each REQUEST is of type stream.
abbrev pub AreRouted : ℕ → Log → Type 0
AreRouted first [] = Unit {0}
AreRouted first (PutPacket p ∷ log) =
    (is_dropped Device (cid_of first log) p.header ≡ false) × (is_request p ≡ true → is_of Stream p.header ≡ true) × AreRouted first log
AreRouted first (_ ∷ log) = AreRouted first log

-- So are the packets that the driver put, as long as all that it got come from the host; and the same where an honest ring tells the log.
abbrev pub IsRoutedLog : ℕ → Log → Type 0
IsRoutedLog first log = All (λ p. p.header.src_cid ≡ HOST_CID) (packets_got log) → AreRouted first log

abbrev pub IsRoutedWith : ℕ → RingContents → Type 0
IsRoutedWith first c = c.honest ≡ true → ForSome c.log (λ l. IsRoutedLog first l.entries)

-- An end owes nothing: no connection of its own does, and no reply is owed.
pub record OwesNothing (part : Ends) : Type 0 where
  pub ends : All (λ x. owes_of x.end ≡ None) part.entries
  pub replies : part.replies ≡ []

-- Both match their logs, which are fair and have no reset; each got all that the other put, the device drops nothing of it, and neither owes
-- anything.
pub record IsAtRest (first : ℕ) (b : Both) : Type 0 where
  pub matches : (role : Role) → Matches role first (at role b).part (at role b).log
  pub fair : (role : Role) → IsFairLog role (at role b).log
  pub got : (role : Role) → packets_put (at (other_role role) b).log ≡ packets_got (at role b).log
  pub no_reset : (role : Role) → has_no_mark (at role b).log ≡ true
  pub routed : AreRouted first b.driver.log
  pub owes : (role : Role) → OwesNothing (at role b).part

-- All connections of an end are with the host.
abbrev pub IsWithHost : Ends → Type 0
IsWithHost part = (f : Flow) → is_among f (flows_of part.entries) ≡ true → f.peer ≡ HOST_CID

-- Counters have 32 bits.
pub record HasWords (e : ConnectionEnd) : Type 0 where
  pub tx_cnt : e.credit.tx_cnt < 2 ^ 32
  pub rx_cnt : e.credit.rx_cnt < 2 ^ 32
  pub fwd_cnt : e.credit.fwd_cnt < 2 ^ 32
  pub told_fwd : e.told_fwd < 2 ^ 32

-- The two ends of a connection, as one sees the other.
pub record Mirrors (e other : ConnectionEnd) : Type 0 where
  pub live : e.state ≡ Live
  pub kind : e.kind ≡ other.kind
  pub words : HasWords e
  -- All payload that one sent came in at the other.
  pub sent : e.credit.tx_cnt ≡ other.credit.rx_cnt
  -- It knows what the other last told, which is all that the other forwarded but less than UPDATE_AT bytes, unless the other told that
  -- it neither receives nor sends.
  pub peer_fwd : e.credit.peer_fwd ≡ other.told_fwd
  pub peer_alloc : BUF_ALLOC ≤ e.credit.peer_alloc
  pub peer_most : e.credit.peer_alloc ≤ other.credit.alloc
  pub updated : is_both other.own ≡ false → difference32 other.credit.fwd_cnt other.told_fwd < UPDATE_AT
  -- It knows the directions that the other shut.
  pub peer : e.peer ≡ other.own

-- More than half of the first buffer space: all of it but what may be forwarded untold.
abbrev pub over_half : ℕ
over_half = BUF_ALLOC - UPDATE_AT + 1

pub record ArePaired (e other : ConnectionEnd) : Type 0 where
  pub here : Mirrors e other
  pub there : Mirrors other e
