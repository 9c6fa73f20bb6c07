-- Both ends at rest, flow by flow.
use Rattle.std.proofs.Common.{◌≡◌, ℕ, ◌≤◌, Bool, true, false, ◌||◌, if◌then◌else◌, List, [], ◌∷◌, Option, Some, None, refl, sym, ◌∙◌, subst, arith}
use Rattle.std.{proofs.lemmas.{Grind.common_steps, List.Elements.{All-head, All-tail}}, specs.List.All}
use Rattle.vs_header.specs.{declared.Kind.Kind}
use Rattle.vs_conn.specs.{End.{ConnectionEnd, asked, owes_of}, Follows.{Follows}, declared.{end.State.TheVariants.Live}}
use Rattle.vs_flow.specs.{Flow.{host_asks, same_flow}, declared.flow.Flow.Flow}
use Rattle.laws_history.specs.{History.{Answerer, Asker, Got, History, IsFair, MayPut, Put, Side, gots, of_asker, peer, puts}, Packets.{asked_kind, has}}
use Rattle.laws_history.specs.{Packets.{is_rst, told_alloc}, declared.packet.Packet.Packet}
use Rattle.vs_limits.specs.declared.TheConstants.{BUF_ALLOC, HOST_CID}
use Rattle.vs_page.{specs.{Log.{Device, Driver, Role, history_of, other_role, packets_got, packets_put, side_of}, Open.left_kind}, proofs.Flows.{opposite_by, other_twice}}
use Rattle.laws_tables.specs.{Both.{Both, at}, Ends.{FlowEnd, ends_of, flows_of, is_among, replied}, Heard.heard_of, Matches.{IsBefore, IsHeld, IsLeftOn}, Steps.HasEnd}
use Rattle.laws_tables.proofs.Fair.{fair_now}
use Rattle.laws_rest.{specs.Rest.{ArePaired, IsAtRest, Mirrors}, proofs.Standing.{AreKept, AreTiedOn, device_kept, driver_kept, is_none, open_stands, stands}}
use Rattle.laws_rest.proofs.Standing.{stands_both, tied}

abbrev pub OweNone : List ConnectionEnd → Type 0
OweNone ends = (e : ConnectionEnd) (more : List ConnectionEnd) → ends ≡ e ∷ more → owes_of e ≡ None

owes_at : (b : Bool) (e y : ConnectionEnd) (more ys : List ConnectionEnd) → owes_of y ≡ None → OweNone ys
    → (if b then y ∷ ys else ys) ≡ e ∷ more → owes_of e ≡ None
owes_at true e y more ys own rest is = grind (arith, common_steps)
owes_at false e y more ys own rest is = rest e more is

owes_all : (f : Flow) (xs : List FlowEnd) → All (λ x. owes_of x.end ≡ None) xs → OweNone (ends_of f xs)
owes_all f [] all e more is = absurd cc
owes_all f (x ∷ xs) all e more is =
    owes_at (same_flow f x.flow) e x.end more (ends_of f xs) (All-head (λ y. owes_of y.end ≡ None) x xs all)
    (owes_all f xs (All-tail (λ y. owes_of y.end ≡ None) x xs all)) is

-- The end of a flow that stands, and none of any other.
abbrev IsRestingOn : Bool → Side → List Packet → List Packet → List ConnectionEnd → Type 0
IsRestingOn true side put got ends = (e : ConnectionEnd) × (ends ≡ e ∷ []) × Follows side put got e × (owes_of e ≡ None)
IsRestingOn false side put got ends = ends ≡ []

asking_owes : (e : ConnectionEnd) (kind : Kind) → e ≡ asked kind BUF_ALLOC → owes_of e ≡ None → ⊥
asking_owes e kind is none = let some : owes_of (asked kind BUF_ALLOC) ≡ None = subst (λ x. owes_of x ≡ None) is none in absurd cc

rest_by : (b : Bool) (role : Role) (side : Side) (h : History) (k : ℕ) (kind : Option ℕ) (ends : List ConnectionEnd)
    → kind ≡ (if b then Some k else None) → IsLeftOn role side h kind false ends → OweNone ends
    → IsRestingOn b side (puts h) (gots h) ends
rest_by true role side h k kind ends is left owes =
    let held : IsHeld k side h ends = subst (λ o. IsLeftOn role side h o false ends) is left in
    (held.0, held.1, held.2, owes held.0 [] held.1)
rest_by false Driver side h k kind ends is left owes = subst (λ o. IsLeftOn Driver side h o false ends) is left
rest_by false Device side h k kind [] is left owes = refl
rest_by false Device side h k kind (e ∷ more) is left owes =
    let before : IsBefore Device side h (e ∷ more) = subst (λ o. IsLeftOn Device side h o false (e ∷ more)) is left in
    absurd (asking_owes e e.kind before.1.asks (owes e more refl))

kept_of : (role : Role) (first : ℕ) (b : Both) (f : Flow) → f.peer ≡ HOST_CID → IsAtRest first b → AreKept role first f (at role b).log
kept_of Driver first b f host r = driver_kept first f b.driver.log host
kept_of Device first b f host r =
    device_kept first f b.driver.log b.device.log (r.no_reset Driver) (r.no_reset Device) r.routed (r.got Device)

rest_at : (role : Role) (first : ℕ) (b : Both) (f : Flow) → f.peer ≡ HOST_CID → IsAtRest first b
    → let h = history_of role f (at role b).log in
    IsRestingOn (stands (puts h) (gots h)) (side_of role f) (puts h) (gots h) (ends_of f (at role b).part.entries)
rest_at role first b f host r =
    let log = (at role b).log in
    let part = (at role b).part in
    let h = history_of role f log in
    let ends = ends_of f part.entries in
    let stood = open_stands role first f log (r.fair role f) (kept_of role first b f host r) (r.no_reset role) in
    let left : IsLeftOn role (side_of role f) h (left_kind role first f log) false ends =
    subst (λ x. IsLeftOn role (side_of role f) x (left_kind role first f log) false ends) stood.1
    (subst (λ rs. IsLeftOn role (side_of role f) (heard_of role first f log) (left_kind role first f log) (is_among f (replied rs)) ends)
    (r.owes role).replies ((r.matches role).flows.on f)) in
    rest_by (stands (puts h) (gots h)) role (side_of role f) h (asked_kind (of_asker (side_of role f) (puts h) (gots h)))
    (left_kind role first f log) ends stood.0 left (owes_all f part.entries (r.owes role).ends)

-- The same of the other end, by what this one put and got.
ties : (role : Role) (first : ℕ) (b : Both) (f : Flow) → IsAtRest first b → AreTiedOn role f (at role b).log (at (other_role role) b).log
ties role first b f r =
    let there = other_role role in
    let back : packets_put (at role b).log ≡ packets_got (at there b).log =
    subst (λ x. packets_put (at x b).log ≡ packets_got (at there b).log) (other_twice role) (r.got there) in
    tied role f (at role b).log (at there b).log (r.fair role f) (r.fair there f) (r.got role) back

rest_there : (role : Role) (first : ℕ) (b : Both) (f : Flow) → f.peer ≡ HOST_CID → IsAtRest first b
    → let h = history_of role f (at role b).log in
    IsRestingOn (stands (puts h) (gots h)) (peer (side_of role f)) (gots h) (puts h) (ends_of f (at (other_role role) b).part.entries)
rest_there role first b f host r =
    let h = history_of role f (at role b).log in
    let ends = ends_of f (at (other_role role) b).part.entries in
    let there = rest_at (other_role role) first b f host r in
    let t = ties role first b f r in
    let side = opposite_by role (host_asks f) in
    subst (λ s. IsRestingOn (stands (puts h) (gots h)) s (gots h) (puts h) ends) side
    (subst (λ c. IsRestingOn c (side_of (other_role role) f) (gots h) (puts h) ends) (sym (stands_both (puts h) (gots h)))
    (subst (λ x. IsRestingOn (stands (gots h) x) (side_of (other_role role) f) (gots h) x ends) t.went
    (subst (λ x. let k = history_of (other_role role) f (at (other_role role) b).log in
    IsRestingOn (stands x (gots k)) (side_of (other_role role) f) x (gots k) ends) t.came there)))

-- Whether a table has a flow.
abbrev has_some : List ConnectionEnd → Bool
has_some [] = false
has_some (e ∷ more) = true

among_ends : (f : Flow) (xs : List FlowEnd) → is_among f (flows_of xs) ≡ has_some (ends_of f xs)
among_ends f [] = refl
among_ends f (x ∷ xs) = let rest = among_ends f xs in grind (arith, common_steps)

resting_some : (b : Bool) (side : Side) (put got : List Packet) (ends : List ConnectionEnd) → IsRestingOn b side put got ends
    → has_some ends ≡ b
resting_some true side put got ends resting = let one = resting.1 in grind (arith, common_steps)
resting_some false side put got ends resting = rw resting refl

pub same_flows : (first : ℕ) (b : Both) (f : Flow) → f.peer ≡ HOST_CID → IsAtRest first b
    → is_among f (flows_of b.driver.part.entries) ≡ is_among f (flows_of b.device.part.entries)
same_flows first b f host r =
    among_ends f b.driver.part.entries ∙ resting_some _ _ _ _ _ (rest_at Driver first b f host r)
    ∙ sym (among_ends f b.device.part.entries ∙ resting_some _ _ _ _ _ (rest_there Driver first b f host r))

-- The two ends of a flow.
both_live : (side : Side) (put got : List Packet) (e other : ConnectionEnd) → Follows side put got e → Follows (peer side) got put other
    → owes_of e ≡ None → owes_of other ≡ None → (e.state ≡ Live) × (other.state ≡ Live)
both_live side put got e other f g owes none = grind (arith, common_steps)

mirrors : (side : Side) (put got : List Packet) (e other : ConnectionEnd) → e.state ≡ Live → other.state ≡ Live
    → Follows side put got e → Follows (peer side) got put other → owes_of other ≡ None → BUF_ALLOC ≤ told_alloc got → Mirrors e other
mirrors side put got e other live live_there f g none least = grind (arith, common_steps)

-- Buffer space that was told is BUF_ALLOC at least.
first_no : (a b : Bool) → (a || b) ≡ false → (a ≡ false) × (b ≡ false)
first_no = grind (arith, common_steps)

newest_least : (side : Side) (put got : List Packet) (p : Packet) → MayPut side put got p → has is_rst (p ∷ put) ≡ false
    → (is_none put ≡ false → BUF_ALLOC ≤ told_alloc put) → BUF_ALLOC ≤ told_alloc (p ∷ put)
newest_least side put got p may none older = grind (arith, common_steps)

least_told : (side : Side) (h : History) → IsFair side h → is_none (gots h) ≡ false → has is_rst (gots h) ≡ false
    → BUF_ALLOC ≤ told_alloc (gots h)
least_told side [] fair some none = absurd cc
least_told side (Put p ∷ h) fair some none = least_told side h fair.1 some none
least_told side (Got p ∷ h) fair some none =
    newest_least (peer side) (gots h) (puts h) p fair.0 none
    (λ more. least_told side h fair.1 more (first_no (is_rst p) (has is_rst (gots h)) none).1)

least_put : (side : Side) (h : History) → IsFair side h → is_none (puts h) ≡ false → has is_rst (puts h) ≡ false
    → BUF_ALLOC ≤ told_alloc (puts h)
least_put side [] fair some none = absurd cc
least_put side (Got p ∷ h) fair some none = least_put side h fair.1 some none
least_put side (Put p ∷ h) fair some none =
    newest_least side (puts h) (gots h) p fair.0 none
    (λ more. least_put side h fair.1 more (first_no (is_rst p) (has is_rst (puts h)) none).1)

begun_some : (side : Side) (put got : List Packet) (e other : ConnectionEnd) → Follows side put got e → Follows (peer side) got put other
    → e.state ≡ Live → other.state ≡ Live → (is_none put ≡ false) × (is_none got ≡ false)
begun_some side put got e other f g live live_there = grind (arith, common_steps)

stood : (put got : List Packet) → stands put got ≡ true → (has is_rst put ≡ false) × (has is_rst got ≡ false)
stood = grind (arith, common_steps)

mirrored : (side : Side) (put got : List Packet) (e other : ConnectionEnd) → e.state ≡ Live → other.state ≡ Live
    → Follows side put got e → Follows (peer side) got put other → owes_of e ≡ None → BUF_ALLOC ≤ told_alloc put → Mirrors other e
mirrored Asker put got e other live live_there f g owes least = mirrors Answerer got put other e live_there live g f owes least
mirrored Answerer put got e other live live_there f g owes least = mirrors Asker got put other e live_there live g f owes least

pair_of : (side : Side) (h : History) (e other : ConnectionEnd) → IsFair side h → stands (puts h) (gots h) ≡ true
    → Follows side (puts h) (gots h) e → Follows (peer side) (gots h) (puts h) other → owes_of e ≡ None → owes_of other ≡ None
    → ArePaired e other
pair_of side h e other fair stand f g owes none =
    let live = both_live side (puts h) (gots h) e other f g owes none in
    let some = begun_some side (puts h) (gots h) e other f g live.0 live.1 in
    let no_rst = stood (puts h) (gots h) stand in
    record {
      here = mirrors side (puts h) (gots h) e other live.0 live.1 f g none (least_told side h fair some.1 no_rst.1);
      there = mirrored side (puts h) (gots h) e other live.0 live.1 f g owes (least_put side h fair some.0 no_rst.0);
    }

paired_by : (b : Bool) (side : Side) (h : History) (ends others : List ConnectionEnd) (e : ConnectionEnd) → IsFair side h
    → stands (puts h) (gots h) ≡ b → IsRestingOn b side (puts h) (gots h) ends
    → IsRestingOn b (peer side) (gots h) (puts h) others → ends ≡ e ∷ []
    → (other : ConnectionEnd) × (others ≡ other ∷ []) × ArePaired e other
paired_by false side h ends others e fair is here there has = let none : [] ≡ e ∷ [] = sym here ∙ has in absurd cc
paired_by true side h ends others e fair is here there has =
    let same : here.0 ≡ e = (let one = sym here.1 ∙ has in cc) in (
      there.0,
      there.1,
      pair_of side h e there.0 fair is (subst (Follows side (puts h) (gots h)) same here.2) there.2
          (subst (λ x. owes_of x ≡ None) same here.3) there.3,
    )

pub paired : (role : Role) (first : ℕ) (b : Both) (f : Flow) (e : ConnectionEnd) → f.peer ≡ HOST_CID → IsAtRest first b → HasEnd f e (at role b).part
    → (other : ConnectionEnd) × HasEnd f other (at (other_role role) b).part × ArePaired e other
paired role first b f e host r has =
    let h = history_of role f (at role b).log in
    paired_by (stands (puts h) (gots h)) (side_of role f) h _ _ e (fair_now role f (at role b).log (r.fair role f)) refl (rest_at role first b f host r)
    (rest_there role first b f host r) has
