-- The packets that the device took in a run were judged, and what its counts come to.
use Rattle.std.proofs.Common.{◌≡◌, ◌&&◌, nat_le, Bool, true, false, cond, List, [], ◌∷◌, refl, subst, ◌∙◌}
use Rattle.vs_limits.specs.declared.TheConstants.{GUEST_CID_MIN, GUEST_CID_MAX}
use Rattle.vs_contents.specs.CallTree.{Leads, played}
use Rattle.vs_ring_plain.specs.Device.{DeviceState}
use Rattle.vs_device_parts.specs.Calls.{DeviceTree}
use Rattle.vs_hostile.specs.{Answer.state_after, Answers.{Around, answer_around}, Run.{Done, GuestState, HasMemory, HasRings, HostileState, Nothing, WasReset, hostile_does}}
use Rattle.vs_hostile.specs.Run.{line_in, over}
use Rattle.laws_proxy.proofs.{Growing.label_grow_counts, Account.{Keeping.Keeps, Packets.{reset_counts, reset_takes_none, turn_counts, turn_is_judged}, Turning.keeps_proxy_reset}}
use Rattle.laws_proxy.{proofs.Account.Turning.keeps_turn, specs.Account.{Counts.{DeviceCounts, counts_of, counts_shown}, Made.{Made, Makes, account_of}, Packets.chains_taken}}
use Rattle.laws_proxy.specs.Account.{Tied.AccountsFor, Told.Shows}
use Rattle.vs_proxy_parts.specs.{Growing.label_at, State.ProxyState, Turns.{proxy_reset_of, turn_of}}
use Rattle.vs_script.specs.{Hostile.{Hostile, Write, WriteDesc, Give, Index, Packet, Before, Look, Memory as SetMemory, Rings as SetRings, Around as OfOutside}, Outside.Client}
use Rattle.vs_script.specs.Outside.{Grow, OfHost, Outside, Reset, Tick, Turn as TakeTurn}
use Rattle.laws_hostile.{specs.{Isolated.{AreLinesJudged, IsLineJudged}, Recorded.{calls_of, made_in, recorded}}, proofs.{Lines.{Holds, line_holds}, Steps.played_makes}}
use Rattle.laws_hostile.proofs.Steps.{played_same}

-- What a conversation was played to, its calls led to.
over_leads : {A : Type 0} (tree : DeviceTree (ProxyState × A)) (ring : DeviceState) (s : HostileState) (calls : List Made)
    → Keeps (λ x later. AccountsFor x.0 later) tree calls → Shows (account_of calls) s.host
    → Leads Makes tree calls (played answer_around tree (record { ring = ring; host = s.host })).0 (recorded tree ring s.host calls)
over_leads {A} tree ring s calls keeps shows =
    let around : Around = record { ring = ring; host = s.host } in
    subst (λ (x : ProxyState × A). Leads Makes tree calls x (recorded tree ring s.host calls)) (played_same tree around calls).end
    (played_makes (λ x later. AccountsFor x.0 later) tree around calls keeps shows)

-- A line: its packets are judged, and the counts go on.
abbrev Goes : GuestState → Hostile → HostileState → List Made → Type 0
Goes guest line s calls =
    IsLineJudged guest line s calls × ((first : DeviceCounts) → counts_shown s.proxy.device ≡ counts_of first calls
    → counts_shown (line_in guest line s).0.proxy.device ≡ counts_of first (made_in guest line s calls))

outside_goes : (line : Outside) (ring : DeviceState) (s : HostileState) (calls : List Made) → Holds s calls
    → Goes (HasRings ring) (OfOutside line) s calls
outside_goes TakeTurn ring s calls holds =
    let tree = turn_of ring.size s.now s.proxy in
    let x = (played answer_around tree (record { ring = ring; host = s.host })).0 in
    let later = recorded tree ring s.host calls in
    let leads = over_leads tree ring s calls (keeps_turn ring.size s.now s.proxy calls holds.accounts) holds.shows in (
      (x.1, refl, turn_is_judged ring.size s.now s.proxy calls later x leads),
      λ first. turn_counts ring.size s.now s.proxy calls later x first leads,
    )
outside_goes (Reset cid) ring s calls holds = by (nat_le GUEST_CID_MIN cid && nat_le cid GUEST_CID_MAX)
  where
    by : (b : Bool) → (chains_taken (cond b (recorded (proxy_reset_of cid s.proxy) ring s.host calls) calls) ≡ chains_taken calls)
        × ((first : DeviceCounts) → counts_shown s.proxy.device ≡ counts_of first calls
        → counts_shown (cond b (over (proxy_reset_of cid s.proxy) (λ r. WasReset r) ring s) (s, Done)).0.proxy.device
        ≡ counts_of first (cond b (recorded (proxy_reset_of cid s.proxy) ring s.host calls) calls))
    by true =
        let tree = proxy_reset_of cid s.proxy in
        let x = (played answer_around tree (record { ring = ring; host = s.host })).0 in
        let later = recorded tree ring s.host calls in
        let leads = over_leads tree ring s calls (keeps_proxy_reset cid s.proxy calls holds.accounts) holds.shows in (
          reset_takes_none cid s.proxy calls later x leads,
          λ first. reset_counts cid s.proxy calls later x first leads,
        )
    by false = (refl, λ first is. is)
outside_goes (Tick ms) ring s calls holds = (refl, λ first is. is)
outside_goes (Grow stream alloc) ring s calls holds =
    (refl, λ first is. label_grow_counts (label_at stream s.host) alloc s.proxy ∙ is)
outside_goes Client ring s calls holds = (refl, λ first is. is)
outside_goes (OfHost line) ring s calls holds = (refl, λ first is. is)

rings_go : (line : Hostile) (ring : DeviceState) (s : HostileState) (calls : List Made) → Holds s calls → Goes (HasRings ring) line s calls
rings_go (SetMemory memory) ring s calls holds = (refl, λ first is. is)
rings_go (SetRings n) ring s calls holds = (refl, λ first is. is)
rings_go (Write addr bytes) ring s calls holds = (refl, λ first is. is)
rings_go (WriteDesc queue number desc) ring s calls holds = (refl, λ first is. is)
rings_go (Give queue place head) ring s calls holds = (refl, λ first is. is)
rings_go (Index queue value) ring s calls holds = (refl, λ first is. is)
rings_go (Packet addr header bytes) ring s calls holds = (refl, λ first is. is)
rings_go (Before nth addr bytes) ring s calls holds = (refl, λ first is. is)
rings_go (Look addr len) ring s calls holds = (refl, λ first is. is)
rings_go (OfOutside line) ring s calls holds = outside_goes line ring s calls holds

line_goes : (line : Hostile) (s : HostileState) (calls : List Made) → Holds s calls → Goes s.guest line s calls
line_goes line s calls holds = by s.guest
  where
    by : (guest : GuestState) → Goes guest line s calls
    by Nothing = (refl, λ first is. is)
    by (HasMemory memory) = (refl, λ first is. is)
    by (HasRings ring) = rings_go line ring s calls holds

pub lines_judged : (lines : List Hostile) (s : HostileState) (calls : List Made) → Holds s calls → AreLinesJudged lines s calls
lines_judged [] s calls holds = tt
lines_judged (line ∷ lines) s calls holds = (
  (line_goes line s calls holds).0,
  lines_judged lines (hostile_does line s).0 (made_in s.guest line s calls) (line_holds line s calls holds),
)

pub lines_counted : (first : DeviceCounts) (lines : List Hostile) (s : HostileState) (calls : List Made) → Holds s calls
    → counts_shown s.proxy.device ≡ counts_of first calls
    → counts_shown (state_after lines s).proxy.device ≡ counts_of first (calls_of lines s calls)
lines_counted first [] s calls holds is = is
lines_counted first (line ∷ lines) s calls holds is =
    lines_counted first lines (hostile_does line s).0 (made_in s.guest line s calls) (line_holds line s calls holds)
    ((line_goes line s calls holds).1 first is)
