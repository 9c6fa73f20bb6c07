-- Whether a flow stands, by the packets put and got on its present connection alone, in whatever order they passed.
use Rattle.std.proofs.{Common.{◌≡◌, ℕ, Bool, true, false, ◌&&◌, not, if◌then◌else◌, Option, Some, None, List, [], ◌∷◌, refl, sym, ap, ◌∙◌, subst, arith}, lemmas.Grind.common_steps}
use Rattle.std.{proofs.lemmas.List.Elements.{All-cons, All-head, All-nil, All-tail}, specs.List.All}
use Rattle.vs_flow.specs.{Flow.{host_asks, same_flow}, declared.flow.Flow.Flow}
use Rattle.laws_history.specs.{Again.{AllowsNow, IsFairAll, now_got, now_put}, History.{Got, History, Put, Side, gots, of_asker, peer, puts}}
use Rattle.laws_history.{specs.{Packets.{asked_kind, has, is_request, is_rst}, declared.packet.Packet.Packet}, proofs.Present.{is_present, swap, swap_back}}
use Rattle.vs_limits.specs.declared.TheConstants.{HOST_CID}
use Rattle.vs_page.specs.{Fair.IsFairOn, Log.{Device, Driver, Log, Role, and_then, flow_got, flow_put, history_of, other_role, packets_got, packets_put, side_of, whole_of}}
use Rattle.vs_page.specs.{Open.{cid_of, is_dropped, kind_got, left_kind}, declared.log.LogEntry.TheVariants.{GotPacket, Mark, PutPacket}}
use Rattle.vs_page.proofs.{Entries.{fair_got_on, fair_put_on, got_on, present_is}, Flows.{opposite_by, same_is, other_twice}}
use Rattle.laws_tables.{specs.Heard.IsAllHeard, proofs.{Fair.{all_got}, Frame.{open_got}}}
use Rattle.laws_rest.specs.Rest.{AreRouted, has_no_mark}

-- Something passed, and no RST.
abbrev pub is_none : List Packet → Bool
is_none [] = true
is_none (p ∷ ps) = false

abbrev pub stands : List Packet → List Packet → Bool
stands put got = not (is_none put && is_none got) && not (has is_rst put) && not (has is_rst got)

pub stands_both : (put got : List Packet) → stands put got ≡ stands got put
stands_both put got = grind (arith, common_steps)

abbrev pub standing : Side → History → Option ℕ
standing side h = if stands (puts h) (gots h) then Some (asked_kind (of_asker side (puts h) (gots h))) else None

got_stands : (b : Bool) (side : Side) (h : History) (p : Packet) → is_request p ≡ b → AllowsNow side h (Got p)
    → kind_got p (standing side h) ≡ standing side (and_then (Got p) h)
got_stands b side h p is may = grind (arith, common_steps)

-- Nothing that an end got on a flow was dropped: of the driver on each flow with the host, of the device on every flow, where the packets that
-- it got have the guest's CID and go to the host.
abbrev pub AreKept : Role → ℕ → Flow → Log → Type 0
AreKept role first f [] = Unit {0}
AreKept role first f (GotPacket p ∷ log) =
    (same_flow f (flow_got role p) ≡ true → is_dropped role (cid_of first log) p.header ≡ false) × AreKept role first f log
AreKept role first f (_ ∷ log) = AreKept role first f log

host_kept : (f : Flow) (p : Packet) (cid : ℕ) → f ≡ flow_got Driver p → f.peer ≡ HOST_CID → is_dropped Driver cid p.header ≡ false
host_kept f p cid same host = let from : p.header.src_cid ≡ HOST_CID = sym (ap (λ (g : Flow). g.peer) same) ∙ host in rw from refl

pub driver_kept : (first : ℕ) (f : Flow) (log : Log) → f.peer ≡ HOST_CID → AreKept Driver first f log
driver_kept first f [] host = tt
driver_kept first f (GotPacket p ∷ log) host =
    (λ same. host_kept f p (cid_of first log) (same_is f (flow_got Driver p) same) host, driver_kept first f log host)
driver_kept first f (_ ∷ log) host = driver_kept first f log host

cid_first : (first : ℕ) (log : Log) → has_no_mark log ≡ true → cid_of first log ≡ first
cid_first first [] marks = refl
cid_first first (Mark cid ∷ log) marks = absurd cc
cid_first first (_ ∷ log) marks = cid_first first log marks

abbrev IsKept : ℕ → Packet → Type 0
IsKept cid p = is_dropped Device cid p.header ≡ false

routed : (first : ℕ) (log : Log) → has_no_mark log ≡ true → AreRouted first log → All (IsKept first) (packets_put log)
routed first [] marks are = All-nil (IsKept first)
routed first (PutPacket p ∷ log) marks are =
    All-cons (IsKept first) p (packets_put log) (subst (λ c. IsKept c p) (cid_first first log marks) are.0) (routed first log marks are.2)
routed first (Mark cid ∷ log) marks are = absurd cc
routed first (_ ∷ log) marks are = routed first log marks are

came : (first : ℕ) (f : Flow) (log : Log) → has_no_mark log ≡ true → All (IsKept first) (packets_got log) → AreKept Device first f log
came first f [] marks all = tt
came first f (GotPacket p ∷ log) marks all = (
  λ same. subst (λ c. IsKept c p) (sym (cid_first first log marks)) (All-head (IsKept first) p (packets_got log) all),
  came first f log marks (All-tail (IsKept first) p (packets_got log) all),
)
came first f (Mark cid ∷ log) marks all = absurd cc
came first f (_ ∷ log) marks all = came first f log marks all

pub device_kept : (first : ℕ) (f : Flow) (driver device : Log) → has_no_mark driver ≡ true → has_no_mark device ≡ true
    → AreRouted first driver → packets_put driver ≡ packets_got device → AreKept Device first f device
device_kept first f driver device marks marks_there are got =
    came first f device marks_there (subst (All (IsKept first)) got (routed first driver marks are))

-- A fair log without a reset of which nothing was dropped leaves a flow open exactly where its present connection stands; and all was heard.
abbrev Stands : Role → ℕ → Flow → Log → Type 0
Stands role first f log =
    (left_kind role first f log ≡ standing (side_of role f) (history_of role f log)) × IsAllHeard role first f log

put_at : (role : Role) (first : ℕ) (f : Flow) (p : Packet) (log : Log) (b : Bool) → same_flow f (flow_put role p) ≡ b
    → (b ≡ true → AllowsNow (side_of role f) (history_of role f log) (Put p)) → Stands role first f log → Stands role first f (PutPacket p ∷ log)
put_at role first f p log b same may is = grind (arith, common_steps)

got_at : (role : Role) (first : ℕ) (f : Flow) (p : Packet) (log : Log) (b : Bool) → same_flow f (flow_got role p) ≡ b
    → (b ≡ true → is_dropped role (cid_of first log) p.header ≡ false)
    → (b ≡ true → AllowsNow (side_of role f) (history_of role f log) (Got p)) → Stands role first f log → Stands role first f (GotPacket p ∷ log)
got_at role first f p log true same kept may is =
    let side = side_of role f in
    let h = history_of role f log in (
      open_got role first f p log (sym (same_is f (flow_got role p) same)) (kept refl) ∙ ap (kind_got p) is.0
          ∙ got_stands (is_request p) side h p refl (may refl) ∙ (rw same refl),
      all_got role first f p log (kept refl) is.1,
    )
got_at role first f p log false same kept may is = (rw same is.0, rw same is.1)

pub open_stands : (role : Role) (first : ℕ) (f : Flow) (log : Log) → IsFairOn role f log → AreKept role first f log
    → has_no_mark log ≡ true → Stands role first f log
open_stands role first f [] fair kept marks = (refl, refl)
open_stands role first f (PutPacket p ∷ log) fair kept marks =
    let two = fair_put_on role f p log (same_flow f (flow_put role p)) refl fair in
    put_at role first f p log (same_flow f (flow_put role p)) refl two.1 (open_stands role first f log two.0 kept marks)
open_stands role first f (GotPacket p ∷ log) fair kept marks =
    let two = fair_got_on role f p log (same_flow f (flow_got role p)) refl fair in
    got_at role first f p log (same_flow f (flow_got role p)) refl kept.0 two.1 (open_stands role first f log two.0 kept.1 marks)
open_stands role first f (Mark cid ∷ log) fair kept marks = absurd cc
open_stands role first f (_ ∷ log) fair kept marks = open_stands role first f log fair kept marks

-- What one got on a flow is what the other put; so what one got on the flow's present connection is what the other put there, and
-- the other way round.
whole_tied : (role : Role) (f : Flow) (mine other : Log) → packets_put other ≡ packets_got mine
    → puts (whole_of (other_role role) f other) ≡ gots (whole_of role f mine)
whole_tied role f mine other tie = got_on role f mine other [] tie

pub record AreTiedOn (role : Role) (f : Flow) (mine other : Log) : Type 0 where
  pub came : puts (history_of (other_role role) f other) ≡ gots (history_of role f mine)
  pub went : gots (history_of (other_role role) f other) ≡ puts (history_of role f mine)

pub tied : (role : Role) (f : Flow) (mine other : Log) → IsFairOn role f mine → IsFairOn (other_role role) f other
    → packets_put other ≡ packets_got mine → packets_put mine ≡ packets_got other → AreTiedOn role f mine other
tied role f mine other fair fair_there came went =
    let w = whole_of role f mine in
    let v = whole_of (other_role role) f other in
    let side = side_of role f in
    let there : side_of (other_role role) f ≡ peer side = opposite_by role (host_asks f) in
    let c : puts v ≡ gots w = whole_tied role f mine other came in
    let g : gots v ≡ puts w = sym (subst (λ r. puts (whole_of r f mine) ≡ gots v) (other_twice role) (whole_tied (other_role role) f other mine went)) in
    let here = is_present side w fair in
    let far = is_present (peer side) v (subst (λ s. IsFairAll s v) there fair_there) in
    let mine_is = present_is role f mine in
    let other_is = present_is (other_role role) f other in
    record {
      came = ap puts (sym other_is) ∙ far.put ∙ ap (λ (ps : List Packet). now_put (peer side) ps (gots v)) c ∙ ap (λ (ps : List Packet). now_put (peer side) (gots w) ps) g
          ∙ swap side (puts w) (gots w) ∙ sym here.got ∙ ap gots mine_is;
      went = ap gots (sym other_is) ∙ far.got ∙ ap (λ (ps : List Packet). now_got (peer side) ps (gots v)) c ∙ ap (λ (ps : List Packet). now_got (peer side) (gots w) ps) g
          ∙ swap_back side (puts w) (gots w) ∙ sym here.put ∙ ap puts mine_is;
    }
