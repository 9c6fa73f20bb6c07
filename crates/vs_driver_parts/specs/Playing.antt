-- How a driver and its ring belong together, and what it takes to make a call.
use Rattle.std.specs.{Prelude.{◌≡◌, ℕ, ◌<◌, ◌^◌, List, Option, Some}, Option.ForSome}
use Rattle.vs_contents.specs.CallTree.{Leads, MayPlay}
use Rattle.vs_header.specs.declared.Header.{Header}
use Rattle.vs_page.specs.Held.{packet_held}
use Rattle.vs_ring_port.specs.{declared.queue.Queue.{Queue, TheVariants.Rx}, Contents.RingContents, Counts.{Counts, no_counts, with_count}, DriverCalls.{DriverCall, DriverAnswer}}
use Rattle.vs_ring_port.specs.DriverCalls.{Stage, Publish, Reap, LoadCid, DriverAllows, CanPublish, CanStage}
use Rattle.vs_driver_parts.specs.{State.DriverState, Conversations.DriverTree}
use Rattle.vs_limits.specs.declared.TheConstants.{STAGED_MAX}

-- The counts of pages stay.
abbrev pub SamePages : DriverState → DriverState → Type 0
SamePages old new = (new.size ≡ old.size) × (new.in_flight ≡ old.in_flight) × (new.staged ≡ old.staged)

-- All receive and event pages are in flight, and as many transmit pages as the driver counts.
abbrev pub all_flown : ℕ → DriverState → Counts
all_flown n s = record { rx = n; tx = s.in_flight; event = n }

-- The ring is the driver's, and as many pages of the queue in work are staged as the driver counts.
pub record IsAtWork (queue : Queue) (n : ℕ) (flown waiting : Counts) (s : DriverState) : Type 0 where
  pub size : s.size ≡ n
  pub flight : flown ≡ all_flown n s
  pub staged : waiting ≡ with_count queue s.staged no_counts
  pub few : s.staged < STAGED_MAX

-- The ring that a driver has between two calls: nothing is staged.
pub record IsRingOf (n : ℕ) (flown waiting : Counts) (s : DriverState) : Type 0 where
  pub size : s.size ≡ n
  pub flight : flown ≡ all_flown n s
  pub staged : waiting ≡ no_counts
  pub none : s.staged ≡ 0

-- What a ring asks of a call that the driver makes.
abbrev pub CanMake : DriverCall → RingContents → Type 0
CanMake (Stage queue page) c = CanStage queue page c
CanMake (Publish queue) c = CanPublish queue c
CanMake (Reap queue) c = Unit {0}
CanMake LoadCid c = Unit {0}

-- What a ring may answer: a packet that a page brings has ports of 32 bits, a source of 64 and a fwd_cnt of 32, and the guest's CID has 64.
pub record FitsPorts (h : Header) : Type 0 where
  pub src_port : h.src_port < 2 ^ 32
  pub dst_port : h.dst_port < 2 ^ 32
  pub src_cid : h.src_cid < 2 ^ 64
  pub fwd_cnt : h.fwd_cnt < 2 ^ 32

abbrev pub BringsFit : List ℕ → Type 0
BringsFit page = ForSome (packet_held page) (λ p. FitsPorts p.header)

abbrev pub IsFitPage : Queue → Option (List ℕ) → Type 0
IsFitPage Rx (Some page) = BringsFit page
IsFitPage _ page = Unit {0}

abbrev pub RingAllows : (call : DriverCall) → DriverAnswer call → RingContents → RingContents → Type 0
RingAllows (Stage queue page) a old new = DriverAllows (Stage queue page) a old new
RingAllows (Publish queue) a old new = DriverAllows (Publish queue) a old new
RingAllows (Reap queue) page old new = IsFitPage queue page × DriverAllows (Reap queue) page old new
RingAllows LoadCid cid old new = (cid < 2 ^ 64) × DriverAllows LoadCid cid old new

-- All that a conversation publishes may be published, whatever the ring answered before.
abbrev pub MayPublishAll : {A : Type 0} → DriverTree A → RingContents → Type 0
MayPublishAll tree c = MayPlay CanMake RingAllows tree c

-- From the contents old the conversation may end in x and the contents new.
abbrev pub Plays : {A : Type 0} → DriverTree A → RingContents → A → RingContents → Type 0
Plays tree old x new = Leads RingAllows tree old x new
