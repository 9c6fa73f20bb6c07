-- Logs that are fair by the peer.
use Rattle.std.proofs.{Common.{◌≡◌, ◌+◌, ◌≤◌, Bool, true, false, if◌then◌else◌, ◌∷◌, ◌↔◌, refl, sym, subst, arith}, lemmas.Grind.common_steps}
use Rattle.vs_flow.specs.{Flow.{host_asks, is_host, same_flow}, declared.flow.Flow.Flow}
use Rattle.laws_history.specs.{declared.packet.Packet.Packet, Again.{AllowsNow, IsFairAll, present}, Beside.{is_plain_rst}, History.{Entry, Got, HasGot, History, IsNext, Put, Side, gots, peer, puts}}
use Rattle.laws_history.specs.Packets.{IsFormed, allowance, bytes, forwarded_by, is_request, is_rst, size}
use Rattle.laws_history.proofs.{BesidePairs.{allows_beside, fair_beside, next_beside, within_got, within_put}, Now.{next, now}, TiedPairs.next_allowed}
use Rattle.vs_page.specs.{Fair.{AllowsTo, IsFairByPeer, IsFairLog, IsFairLogByPeer, IsFairOn, IsFairTo}, Log.{HasGotAll, IsNextPacket, Log, Role, flow_got, flow_put, history_of}}
use Rattle.vs_page.specs.{Log.{other_role, side_of, whole_of}, declared.log.LogEntry.TheVariants.{GotPacket, PutPacket}}
use Rattle.vs_page.proofs.{Entries.{got_on, next_on, present_is}, Flows.{opposite_by, other_twice, same_is, same_self}}

-- On one flow.
fair_to : (host : Bool) (side : Side) (h : History) → IsFairAll side h → IsFairTo host side h
fair_to true side h fair = fair
fair_to false side h fair = fair_beside side h fair

allows_to : (host : Bool) (side : Side) (h : History) (entry : Entry) → IsFairTo host side h → AllowsNow side (present h) entry
    → AllowsTo host side (present h) entry
allows_to true side h entry fair may = may
allows_to false side h entry fair may = allows_beside side h entry fair may

older : (host : Bool) (side : Side) (h : History) (entry : Entry) → IsFairTo host side (entry ∷ h) → IsFairTo host side h
older true side h entry fair = fair.1
older false side h entry fair = fair.1

newest : (host : Bool) (side : Side) (h : History) (entry : Entry) → IsFairTo host side (entry ∷ h) → AllowsTo host side (present h) entry
newest true side h entry fair = now side h entry fair.1 fair.0
newest false side h entry fair = fair.0

with_newest : (host : Bool) (side : Side) (h : History) (entry : Entry) → IsFairTo host side h → AllowsTo host side (present h) entry
    → IsFairTo host side (entry ∷ h)
with_newest true side h entry fair may = (next side h entry fair may, fair)
with_newest false side h entry fair may = (may, fair)

next_to : (host : Bool) (side : Side) (mine other : History) (p : Packet) → IsFairTo host side mine → IsFairTo host (peer side) other
    → IsNext mine other p → HasGot other mine → AllowsTo host side (present mine) (Got p)
next_to true side mine other p fair fair_other after got = now side mine (Got p) fair (next_allowed side mine other p fair fair_other after got)
next_to false side mine other p fair fair_other after got = next_beside side mine other p fair fair_other after got

-- Histories by flow, one of which gets one more entry.
rest_of : (host : Bool) (side : Side) (h : History) (entry : Entry) (b : Bool) → IsFairTo host side (if b then entry ∷ h else h)
    → IsFairTo host side h
rest_of host side h entry true fair = older host side h entry fair
rest_of host side h entry false fair = fair

more_of : (host : Flow → Bool) (side : Flow → Side) (h : Flow → History) (f g : Flow) (entry : Entry) (b : Bool) → same_flow g f ≡ b
    → IsFairTo (host g) (side g) (h g) → AllowsTo (host f) (side f) (present (h f)) entry
    → IsFairTo (host g) (side g) (if b then entry ∷ h g else h g)
more_of host side h f g entry true is fair may =
    with_newest (host g) (side g) (h g) entry fair
    (subst (λ x. AllowsTo (host x) (side x) (present (h x)) entry) (sym (same_is g f is)) may)
more_of host side h f g entry false is fair may = fair

one_more : (host : Flow → Bool) (side : Flow → Side) (h : Flow → History) (f : Flow) (entry : Entry)
    → ((g : Flow) → IsFairTo (host g) (side g) (if same_flow g f then entry ∷ h g else h g)) ↔ (((g : Flow)
    → IsFairTo (host g) (side g) (h g)) × AllowsTo (host f) (side f) (present (h f)) entry)
one_more host side h f entry = (
  λ fair. (
    λ g. rest_of (host g) (side g) (h g) entry (same_flow g f) (fair g),
    newest (host f) (side f) (h f) entry (rw (same_self f) at (fair f)),
  ),
  λ two g. more_of host side h f g entry (same_flow g f) refl (two.0 g) two.1,
)

pub one_put : (role : Role) (log : Log) (p : Packet) → let f = flow_put role p in IsFairLogByPeer role (PutPacket p ∷ log)
    ↔ (IsFairLogByPeer role log × AllowsTo (is_host f) (side_of role f) (history_of role f log) (Put p))
one_put role log p =
    let f = flow_put role p in
    subst (λ h. IsFairLogByPeer role (PutPacket p ∷ log) ↔ (IsFairLogByPeer role log × AllowsTo (is_host f) (side_of role f) h (Put p)))
    (present_is role f log) (one_more is_host (side_of role) (λ g. whole_of role g log) f (Put p))

pub one_got : (role : Role) (log : Log) (p : Packet) → let f = flow_got role p in IsFairLogByPeer role (GotPacket p ∷ log)
    ↔ (IsFairLogByPeer role log × AllowsTo (is_host f) (side_of role f) (history_of role f log) (Got p))
one_got role log p =
    let f = flow_got role p in
    subst (λ h. IsFairLogByPeer role (GotPacket p ∷ log) ↔ (IsFairLogByPeer role log × AllowsTo (is_host f) (side_of role f) h (Got p)))
    (present_is role f log) (one_more is_host (side_of role) (λ g. whole_of role g log) f (Got p))

pub by_peer : (role : Role) (log : Log) → IsFairLog role log → IsFairLogByPeer role log
by_peer role log fair f = fair_to (is_host f) (side_of role f) (whole_of role f log) (fair f)

pub same_of_host : (role : Role) (f : Flow) (log : Log) → is_host f ≡ true → IsFairByPeer role f log ↔ IsFairOn role f log
same_of_host role f log host =
    let P : Bool → Type 0 = λ b. IsFairTo b (side_of role f) (whole_of role f log) in (λ fair. subst P host fair, λ fair. subst P (sym host) fair)

pub allows_by_peer : (role : Role) (f : Flow) (log : Log) (entry : Entry) → IsFairByPeer role f log
    → AllowsNow (side_of role f) (history_of role f log) entry → AllowsTo (is_host f) (side_of role f) (history_of role f log) entry
allows_by_peer role f log entry fair may =
    let is = present_is role f log in
    subst (λ h. AllowsTo (is_host f) (side_of role f) h entry) is
    (allows_to (is_host f) (side_of role f) (whole_of role f log) entry fair
    (subst (λ h. AllowsNow (side_of role f) h entry) (sym is) may))

pub plain_puts : (side : Side) (h : History) (p : Packet) (host : Bool) → host ≡ false → IsFormed p → is_plain_rst p ≡ true
    → AllowsTo host side h (Put p)
plain_puts side h p host other formed plain = grind (arith, common_steps)

pub stray_fair : (role : Role) (log : Log) (p : Packet) → IsFormed p → is_plain_rst p ≡ true → is_host (flow_got role p) ≡ false
    → IsFairLogByPeer role log → IsFairLogByPeer role (GotPacket p ∷ log)
stray_fair role log p formed plain other fair = grind (arith, common_steps)

-- Two logs.
pub next_fair : (role : Role) (mine other : Log) (p : Packet) → IsFairLogByPeer role mine → IsFairLogByPeer (other_role role) other
    → HasGotAll other mine → IsNextPacket mine other p → IsFairLogByPeer role (GotPacket p ∷ mine)
next_fair role mine other p fair fair_other got after =
    let f = flow_got role p in
    let there = whole_of (other_role role) f other in
    let here = whole_of role f mine in
    let tie = got_on (other_role role) f other mine got.packets.0 got.packets.1 in
    let has : HasGot there here = subst (λ r. HasGot there (whole_of r f mine)) (other_twice role) (_, tie) in
    let fair_there : IsFairTo (is_host f) (peer (side_of role f)) there =
    subst (λ side. IsFairTo (is_host f) side there) (opposite_by role (host_asks f)) (fair_other f) in
    let may = next_to (is_host f) (side_of role f) here there p (fair f) fair_there (next_on role mine other p after) has in
    (one_got role mine p).1 (fair, subst (λ h. AllowsTo (is_host f) (side_of role f) h (Got p)) (present_is role f mine) may)

-- Credit.
credit_put : (host : Bool) (side : Side) (h : History) (p : Packet) → IsFairTo host side (Put p ∷ h) → is_request p ≡ false
    → is_rst p ≡ false → (bytes (puts (present h)) + size p ≤ allowance (gots (present h)))
    × (forwarded_by (puts (present h)) p ≤ bytes (gots (present h)))
credit_put true side h p fair other plain =
    let honest = ((now side h (Put p) fair.1 fair.0).goes_on other).honest plain in (honest.fits, honest.forwarded_got)
credit_put false side h p fair other plain = within_put side h p fair other plain

credit_got : (host : Bool) (side : Side) (h : History) (p : Packet) → IsFairTo host side (Got p ∷ h) → is_request p ≡ false
    → is_rst p ≡ false → (bytes (gots (present h)) + size p ≤ allowance (puts (present h)))
    × (forwarded_by (gots (present h)) p ≤ bytes (puts (present h)))
credit_got true side h p fair other plain =
    let honest = ((now side h (Got p) fair.1 fair.0).goes_on other).honest plain in (honest.fits, honest.forwarded_got)
credit_got false side h p fair other plain = within_got side h p fair other plain

pub put_within : (role : Role) (log : Log) (p : Packet) → let f = flow_put role p in IsFairLogByPeer role (PutPacket p ∷ log)
    → is_request p ≡ false → is_rst p ≡ false → let h = history_of role f log in
    (bytes (puts h) + size p ≤ allowance (gots h)) × (forwarded_by (puts h) p ≤ bytes (gots h))
put_within role log p fair other plain =
    let f = flow_put role p in
    subst (λ (h : History). (bytes (puts h) + size p ≤ allowance (gots h)) × (forwarded_by (puts h) p ≤ bytes (gots h))) (present_is role f log)
    (credit_put (is_host f) (side_of role f) (whole_of role f log) p (rw (same_self f) at (fair f)) other plain)

pub got_within : (role : Role) (log : Log) (p : Packet) → let f = flow_got role p in IsFairLogByPeer role (GotPacket p ∷ log)
    → is_request p ≡ false → is_rst p ≡ false → let h = history_of role f log in
    (bytes (gots h) + size p ≤ allowance (puts h)) × (forwarded_by (gots h) p ≤ bytes (puts h))
got_within role log p fair other plain =
    let f = flow_got role p in
    subst (λ (h : History). (bytes (gots h) + size p ≤ allowance (puts h)) × (forwarded_by (gots h) p ≤ bytes (puts h))) (present_is role f log)
    (credit_got (is_host f) (side_of role f) (whole_of role f log) p (rw (same_self f) at (fair f)) other plain)
