-- The chains that are held, and their pieces.
use Rattle.std.proofs.lemmas.Grind.{common_steps}
use Rattle.std.proofs.Common.{inl, inr, ◌≡◌, ℕ, zero, suc, ◌+◌, ◌*◌, ◌<◌, ◌≤◌, ◌==◌, ◌&&◌, ◌||◌, Bool, true, false, cond, not, List, [], ◌∷◌, length, map, get_or, take, drop, Some}
use Rattle.std.proofs.{Common.{Contains, All, IsTrue, refl, sym, ap, ap₂, ◌∙◌, subst, arith}, lemmas.Bool.{false≢true, cases_lt, lt-ltb, Decides.nat_tests}}
use Rattle.std.proofs.lemmas.List.{Elements.{All-cons, All-head, All-tail, All-append, All-take, All-drop}, Sums.{fails_before_first, passes_at_first, position_or_len_is}}
use Rattle.std.{proofs.lemmas.List.{Sums.sum_by-cons, get_or-map, length-map, Quantifiers.position-Some}, specs.{Prelude.{count_by, nat_le, nat_lt}, List.position}}
use Rattle.std.specs.{List.{position_or_len, remove}, Option.IsSome, VecDeque.deque_capacity}
use Rattle.vs_guest_mem.specs.Memory.{Memory, is_inside}
use Rattle.vs_ring_port.specs.{declared.{queue.Queue.{TheVariants.{Rx, Tx, Event}, Queue}, device_ring.Chain.Chain}, Chains.{same_chain, same_queue}}
use Rattle.vs_ring_plain.specs.declared.{holds.{HeldPieces.{TheVariants.{Listed}, HeldPieces}, Hold.Hold, HeldChains.TheInside.Inside}, piece.Piece.Piece}
use Rattle.vs_ring_plain.specs.{declared.take.PlainQueue.PlainQueue, Device.{HeldChain, chain_at, hold_of, is_busy, pieces_of, readable_in, without_hold, writable_in}}
use Rattle.vs_ring_plain.specs.{PieceTable.{HeldState, PieceTable, is_listed, keeping, list_at, pieces_in, with_list}, Accesses.over, Held.{IsKept, KeepsAll, all_held, held_as}}
use Rattle.vs_ring_plain.specs.{Held.{held_in, is_busy_with}, Side.IsSoundHold, Take.ring_in, Chain.{Taken, taking, total_len, NoChain, Failed, Chain as Found}}
use Rattle.vs_ring_plain.proofs.Outcomes.{IsGood, IsGoodTaken, good_taken}

same_queue_refl : (q : Queue) → same_queue q q ≡ true
same_queue_refl q = grind (arith, common_steps)

same_queue_is : (a b : Queue) → same_queue a b ≡ true → a ≡ b
same_queue_is a b e = grind (arith, common_steps)

pub same_chain_refl : (c : Chain) → same_chain c c ≡ true
same_chain_refl c = rw (same_queue_refl c.queue) (grind arith)

same_chain_is : (a b : Chain) → same_chain a b ≡ true → a ≡ b
same_chain_is a b e = grind (arith, common_steps)

-- the newest hold of c stands at i
record IsFirst (c : Chain) (holds : List Hold) (i : ℕ) (d : Hold) : Type 0 where
  within : i < length holds
  here : same_chain c (get_or holds i d).chain ≡ true
  below : (k : ℕ) → k < i → same_chain c (get_or holds k d).chain ≡ false

next_first : (c : Chain) (h : Hold) (holds : List Hold) (i : ℕ) (d : Hold) → IsFirst c (h ∷ holds) (suc i) d → IsFirst c holds i d
next_first c h holds i d f = record { within = omega (arith, f.within); here = f.here; below = λ k l. f.below (suc k) (omega arith) }

first_found : (c : Chain) (holds : List Hold) (i : ℕ) (d : Hold) → position (λ (h : Hold). same_chain c h.chain) holds ≡ Some i
    → IsFirst c holds i d
first_found c holds i d found =
    let p = position-Some (λ (h : Hold). same_chain c h.chain) holds i d found in
    record { within = p.0; here = p.1; below = p.2 }

of_first : (c : Chain) (lists : PieceTable) (holds : List Hold) (i : ℕ) (d : Hold) → IsFirst c holds i d
    → hold_of c (all_held lists holds) ≡ Some (held_as lists (get_or holds i d))
of_first c lists [] i d f = absurd (omega (arith, f.within))
of_first c lists (h ∷ holds) zero d f = rw f.here refl
of_first c lists (h ∷ holds) (suc i) d f = rw (f.below 0 (omega arith)) (of_first c lists holds i d (next_first c h holds i d f))

without_first : (c : Chain) (lists : PieceTable) (holds : List Hold) (i : ℕ) (d : Hold) → IsFirst c holds i d
    → without_hold c (all_held lists holds) ≡ all_held lists (remove holds i)
without_first c lists [] i d f = absurd (omega (arith, f.within))
without_first c lists (h ∷ holds) zero d f = rw f.here refl
without_first c lists (h ∷ holds) (suc i) d f =
    rw (f.below 0 (omega arith)) (ap (λ (hs : List HeldChain). held_as lists h ∷ hs) (without_first c lists holds i d (next_first c h holds i d f)))

-- a chain that is held is found
pub found_if_held : (c : Chain) (holds : List Hold) → Contains (map (λ (h : Hold). h.chain) holds) c
    → IsSome (position (λ (h : Hold). same_chain c h.chain) holds)
found_if_held c holds has =
    let test : Hold → Bool = λ h. same_chain c h.chain in
    let d : Hold = record { chain = c; head = 0; pieces = Listed } in
    let within : has.0 < length holds = omega (arith, has.1, length-map holds (λ (h : Hold). h.chain)) in
    let there : (get_or holds has.0 d).chain ≡ c = sym (get_or-map (λ (h : Hold). h.chain) holds has.0 d c within) ∙ has.2 in
    let passes : test (get_or holds has.0 d) ≡ true = rw there (same_chain_refl c) in
    let early : position_or_len test holds < length holds = elim (cases_lt (position_or_len test holds) (length holds)) [
      | inl low ↦ low
      | inr high ↦ absurd (false≢true (sym (fails_before_first test holds has.0 d (omega arith)) ∙ passes))
    ] in
    rw (
      position_or_len_is test holds (position_or_len test holds) d (omega (arith, early)) (λ k l. fails_before_first test holds k d l)
          (λ _. passes_at_first test holds d early),
      lt-ltb _ _ early,
    ) refl

pub chains-all_held : (lists : PieceTable) (holds : List Hold)
    → map (λ (h : HeldChain). h.chain) (all_held lists holds) ≡ map (λ (h : Hold). h.chain) holds
chains-all_held lists [] = refl
chains-all_held lists (h ∷ holds) = ap (λ (cs : List Chain). h.chain ∷ cs) (chains-all_held lists holds)

-- the hold x of c, found at place i
pub record IsFound (c : Chain) (holds : List Hold) (i : ℕ) (x : Hold) : Type 0 where
  pub found : position (λ (h : Hold). same_chain c h.chain) holds ≡ Some i
  pub there : x ≡ get_or holds i x

module _ (c : Chain) (lists : PieceTable) (holds : List Hold) (i : ℕ) (x : Hold) (is : IsFound c holds i x) where
  first : IsFirst c holds i x
  first = first_found c holds i x is.found

  pub hold_is : hold_of c (all_held lists holds) ≡ Some (held_as lists x)
  hold_is = of_first c lists holds i x first ∙ ap (λ (h : Hold). Some (held_as lists h)) (sym is.there)

  pub without_is : without_hold c (all_held lists holds) ≡ all_held lists (remove holds i)
  without_is = without_first c lists holds i x first

  pub same : x.chain ≡ c
  same = sym (same_chain_is c x.chain (subst (λ (h : Hold). same_chain c h.chain ≡ true) (sym is.there) first.here))

  pub within_holds : i < length holds
  within_holds = first.within

-- how many of a queue
count-cons : (q : Queue) (h : Hold) (holds : List Hold)
    → count_by (λ (x : Hold). same_queue q x.chain.queue) (h ∷ holds)
    ≡ cond (same_queue q h.chain.queue) 1 0 + count_by (λ (x : Hold). same_queue q x.chain.queue) holds
count-cons q h holds = sum_by-cons (λ (x : Hold). cond (same_queue q x.chain.queue) 1 0) h holds

count_listed-cons : (q : Queue) (h : Hold) (holds : List Hold)
    → count_by (λ (x : Hold). same_queue q x.chain.queue && is_listed x.pieces) (h ∷ holds)
    ≡ cond (same_queue q h.chain.queue && is_listed h.pieces) 1 0 + count_by (λ (x : Hold). same_queue q x.chain.queue && is_listed x.pieces) holds
count_listed-cons q h holds = sum_by-cons (λ (x : Hold). cond (same_queue q x.chain.queue && is_listed x.pieces) 1 0) h holds

count-all_held : (q : Queue) (lists : PieceTable) (holds : List Hold)
    → count_by (λ (x : HeldChain). same_queue q x.chain.queue) (all_held lists holds) ≡ count_by (λ (x : Hold). same_queue q x.chain.queue) holds
count-all_held q lists holds = grind (arith, common_steps)

count_listed-all_held : (q : Queue) (lists : PieceTable) (holds : List Hold) → All (IsKept lists) holds
    → count_by (λ (x : HeldChain). same_queue q x.chain.queue && not (length x.pieces == 1)) (all_held lists holds)
    ≡ count_by (λ (x : Hold). same_queue q x.chain.queue && is_listed x.pieces) holds
count_listed-all_held q lists [] kept = refl
count_listed-all_held q lists (h ∷ holds) kept =
    sum_by-cons (λ (x : HeldChain). cond (same_queue q x.chain.queue && not (length x.pieces == 1)) 1 0) (held_as lists h) (all_held lists holds)
    ∙ ap (λ n. cond (same_queue q h.chain.queue && not (length (held_as lists h).pieces == 1)) 1 0 + n)
    (count_listed-all_held q lists holds (All-tail (IsKept lists) h holds kept))
    ∙ ap (λ b. cond (same_queue q h.chain.queue && b) 1 0 + count_by (λ (x : Hold). same_queue q x.chain.queue && is_listed x.pieces) holds)
    (sym (All-head (IsKept lists) h holds kept))
    ∙ sym (count_listed-cons q h holds)

pub busy_is : (q : Queue) (n : ℕ) (lists : PieceTable) (holds : List Hold) → All (IsKept lists) holds
    → is_busy_with q n holds ≡ is_busy q n (all_held lists holds)
busy_is q n lists holds kept =
    sym (ap₂ (λ a b. nat_le n a || nat_lt 0 b) (count-all_held q lists holds) (count_listed-all_held q lists holds kept))

-- what is known where a queue isn't busy
pub record IsFree (q : Queue) (n : ℕ) (holds : List Hold) : Type 0 where
  pub below : count_by (λ (x : Hold). same_queue q x.chain.queue) holds < n
  pub none : count_by (λ (x : Hold). same_queue q x.chain.queue && is_listed x.pieces) holds ≡ 0

pub is_free : (q : Queue) (n : ℕ) (lists : PieceTable) (holds : List Hold) → All (IsKept lists) holds
    → is_busy q n (all_held lists holds) ≡ false → IsFree q n holds
is_free q n lists holds kept free =
    let here : is_busy_with q n holds ≡ false = busy_is q n lists holds kept ∙ free in
    let two = two_false (nat_le n (count_by (λ (x : Hold). same_queue q x.chain.queue) holds)) _ here in
    record { below = grind (arith, nat_tests, two.0); none = grind (arith, nat_tests, two.1) }
  where
    two_false : (a b : Bool) → (a || b) ≡ false → (a ≡ false) × (b ≡ false)
    two_false false false e = (refl, refl)
    two_false false true e = absurd (false≢true (sym e))
    two_false true b e = absurd (false≢true (sym e))

-- the list of one queue is another: holds that don't have their pieces there are seen as before
seen_as : (q : Queue) (list : List Piece) (lists : PieceTable) (of : Queue) (pieces : HeldPieces) → (same_queue q of && is_listed pieces) ≡ false
    → pieces_in pieces (list_at of (with_list q list lists)) ≡ pieces_in pieces (list_at of lists)
seen_as q list lists of pieces e = grind (arith, common_steps)

none_here : (b : Bool) (n : ℕ) → cond b 1 0 + n ≡ 0 → (b ≡ false) × (n ≡ 0)
none_here true n e = absurd (omega (arith, e))
none_here false n e = (refl, omega (arith, e))

held_same : (q : Queue) (list : List Piece) (lists : PieceTable) (h : Hold) → (same_queue q h.chain.queue && is_listed h.pieces) ≡ false
    → held_as (with_list q list lists) h ≡ held_as lists h
held_same q list lists h e =
    ap (λ (ps : List Piece). let x : HeldChain = record { chain = h.chain; head = h.head; pieces = ps } in x) (seen_as q list lists h.chain.queue h.pieces e)

pub all_same : (q : Queue) (list : List Piece) (lists : PieceTable) (holds : List Hold)
    → count_by (λ (x : Hold). same_queue q x.chain.queue && is_listed x.pieces) holds ≡ 0
    → all_held (with_list q list lists) holds ≡ all_held lists holds
all_same q list lists [] e = refl
all_same q list lists (h ∷ holds) e =
    let n = none_here (same_queue q h.chain.queue && is_listed h.pieces) _ (sym (count_listed-cons q h holds) ∙ e) in
    ap₂ (λ (x : HeldChain) (hs : List HeldChain). x ∷ hs) (held_same q list lists h n.0) (all_same q list lists holds n.1)

pub kept_same : (q : Queue) (list : List Piece) (lists : PieceTable) (holds : List Hold)
    → count_by (λ (x : Hold). same_queue q x.chain.queue && is_listed x.pieces) holds ≡ 0
    → All (IsKept lists) holds → All (IsKept (with_list q list lists)) holds
kept_same q list lists holds e kept = grind (arith, common_steps)

pub few_more : (q : Queue) (n : ℕ) (h : Hold) (holds : List Hold) → h.chain.queue ≡ q
    → count_by (λ (x : Hold). same_queue q x.chain.queue) holds < n
    → ((k : Queue) → count_by (λ (x : Hold). same_queue k x.chain.queue) holds ≤ n)
    → (k : Queue) → count_by (λ (x : Hold). same_queue k x.chain.queue) (h ∷ holds) ≤ n
few_more q n h holds is below few k = at_most (same_queue k h.chain.queue) refl
  where
    at_most : (b : Bool) → same_queue k h.chain.queue ≡ b → count_by (λ (x : Hold). same_queue k x.chain.queue) (h ∷ holds) ≤ n
    at_most true e =
        let same : k ≡ q = same_queue_is k h.chain.queue e ∙ is in
        omega (
          arith,
          count-cons k h holds,
          ap (λ (c : Bool). cond {A = ℕ} c 1 0) e,
          subst (λ (j : Queue). count_by (λ (x : Hold). same_queue j x.chain.queue) holds < n) (sym same) below,
        )
    at_most false e = omega (arith, count-cons k h holds, ap (λ (c : Bool). cond {A = ℕ} c 1 0) e, few k)

-- those of the three queues are all
length-holds : (holds : List Hold) → length holds ≡ count_by (λ (x : Hold). same_queue Rx x.chain.queue) holds
    + count_by (λ (x : Hold). same_queue Tx x.chain.queue) holds + count_by (λ (x : Hold). same_queue Event x.chain.queue) holds
length-holds [] = refl
length-holds (h ∷ holds) =
    omega (arith, length-holds holds, one_of_three h.chain.queue, count-cons Rx h holds, count-cons Tx h holds, count-cons Event h holds)
  where
    one_of_three : (q : Queue) → cond (same_queue Rx q) 1 0 + cond (same_queue Tx q) 1 0 + cond (same_queue Event q) 1 0 ≡ 1
    one_of_three Rx = omega arith
    one_of_three Tx = omega arith
    one_of_three Event = omega arith

pub room_for : (q : Queue) (n : ℕ) (holds : List Hold) → count_by (λ (x : Hold). same_queue q x.chain.queue) holds < n
    → ((k : Queue) → count_by (λ (x : Hold). same_queue k x.chain.queue) holds ≤ n) → length holds < 3 * n
room_for Rx n holds below few = omega (arith, length-holds holds, below, few Tx, few Event)
room_for Tx n holds below few = omega (arith, length-holds holds, below, few Rx, few Event)
room_for Event n holds below few = omega (arith, length-holds holds, below, few Rx, few Tx)

-- one is let go
pub few_left : (q : Queue) (holds : List Hold) (i : ℕ) (d : Hold) → i < length holds
    → count_by (λ (x : Hold). same_queue q x.chain.queue) (remove holds i) ≤ count_by (λ (x : Hold). same_queue q x.chain.queue) holds
few_left q [] i d within = absurd (omega (arith, within))
few_left q (h ∷ holds) zero d within = omega (arith, count-cons q h holds)
few_left q (h ∷ holds) (suc i) d within =
    omega (arith, count-cons q h holds, count-cons q h (remove holds i), few_left q holds i d (omega (arith, within)))

pub kept_left : (lists : PieceTable) (holds : List Hold) (i : ℕ) → All (IsKept lists) holds → All (IsKept lists) (remove holds i)
kept_left lists holds i all =
    All-append (IsKept lists) (take i holds) (drop (suc i) holds) (All-take (IsKept lists) i holds all) (All-drop (IsKept lists) (suc i) holds all)

same_room_with : (q : Queue) (list : List Piece) (lists : PieceTable) → (with_list q list lists).room ≡ lists.room
same_room_with q list lists = grind (arith, common_steps)

pub free_in : (q : Queue) (h : Inside) (now : HeldState) → held_in h ≡ now → is_busy q now.size now.chains ≡ false
    → is_busy q h.size (all_held h.lists h.holds.items) ≡ false
free_in q h now seen free = subst (λ (s : HeldState). is_busy q s.size s.chains ≡ false) (sym seen) free

-- a queue that isn't busy has another list
module _ (q : Queue) (h : Inside) (order : KeepsAll h) (free : is_busy q h.size (all_held h.lists h.holds.items) ≡ false)
    (new : PieceTable) (is : new ≡ with_list q (list_at q new) h.lists) where
  f : IsFree q h.size h.holds.items
  f = is_free q h.size h.lists h.holds.items order.kept free

  pub seen_same : all_held new h.holds.items ≡ all_held h.lists h.holds.items
  seen_same = ap (λ (t : PieceTable). all_held t h.holds.items) is ∙ all_same q (list_at q new) h.lists h.holds.items f.none

  kept_now : All (IsKept new) h.holds.items
  kept_now = subst (λ (t : PieceTable). All (IsKept t) h.holds.items) (sym is) (kept_same q (list_at q new) h.lists h.holds.items f.none order.kept)

  same_room : new.room ≡ h.size
  same_room = ap (λ (t : PieceTable). t.room) is ∙ same_room_with q (list_at q new) h.lists ∙ order.pieces_room

  pub keeps_same : KeepsAll (record h { lists = new })
  keeps_same = record { pieces_room = same_room; room = order.room; few = order.few; kept = kept_now }

  -- what comes of taking, with the chains as they are seen then
  pub comes : (now : List HeldChain) → all_held h.lists h.holds.items ≡ now → (place : ℕ) (found : Taken × Memory) (t : Taken) (mem : Memory)
      → found ≡ (t, mem) → keeping q place found.0 now ≡ keeping q place t (all_held new h.holds.items)
  comes now seen place found t mem is_found =
      ap₂ (λ (x : Taken × Memory) (hs : List HeldChain). keeping q place x.0 hs) is_found (sym seen ∙ sym seen_same)

  pub room_to_hold : length h.holds.items < deque_capacity h.holds
  room_to_hold = omega (arith, room_for q h.size h.holds.items f.below order.few, order.room)

  -- and one chain more is held
  pub keeps_more : (x : Hold) (now : Inside) → now.size ≡ h.size → now.lists ≡ new → now.holds.items ≡ x ∷ h.holds.items
      → deque_capacity now.holds ≡ deque_capacity h.holds → x.chain.queue ≡ q → IsKept new x → KeepsAll now
  keeps_more x now size lists items capacity queue kept = record {
    pieces_room = ap (λ (t : PieceTable). t.room) lists ∙ same_room ∙ sym size;
    room = rw (size, capacity) order.room;
    few = rw (size, items) (few_more q h.size x h.holds.items queue f.below order.few);
    kept = rw (lists, items) (All-cons (IsKept new) x h.holds.items kept kept_now);
  }

-- the hold of a chain that has the pieces of its queue's list
pub kept_hold : (q : Queue) (new : PieceTable) (x : Hold) (place : ℕ) → x.chain ≡ chain_at q place (list_at q new)
    → pieces_in x.pieces (list_at q new) ≡ list_at q new → is_listed x.pieces ≡ not (length (list_at q new) == 1)
    → IsKept new x × (held_as new x ≡ record { chain = chain_at q place (list_at q new); head = x.head; pieces = list_at q new })
kept_hold q new x place chain pieces several = grind (arith, common_steps)

-- one chain is let go
pub keeps_less : (c : Chain) (h now : Inside) (i : ℕ) (x : Hold) → KeepsAll h → IsFound c h.holds.items i x → now.size ≡ h.size
    → now.lists ≡ h.lists → now.holds.items ≡ remove h.holds.items i → deque_capacity now.holds ≡ deque_capacity h.holds → KeepsAll now
keeps_less c h now i x order is size lists items capacity = record {
  pieces_room = ap (λ (t : PieceTable). t.room) lists ∙ order.pieces_room ∙ sym size;
  room = rw (size, capacity) order.room;
  few = λ q. rw (size, items) (omega (arith, few_left q h.holds.items i x (within_holds c h.lists h.holds.items i x is), order.few q));
  kept = rw (lists, items) (kept_left h.lists h.holds.items i order.kept);
}

-- the pieces of a chain that is found
pub pieces_found : (c : Chain) (lists : PieceTable) (holds : List Hold) (i : ℕ) (x : Hold) → IsFound c holds i x
    → pieces_of (hold_of c (all_held lists holds)) ≡ pieces_in x.pieces (list_at c.queue lists)
pieces_found c lists holds i x is =
    ap pieces_of (hold_is c lists holds i x is)
    ∙ ap (λ (k : Chain). pieces_in x.pieces (list_at k.queue lists)) (same c lists holds i x is)

-- a chain that is held is sound
pub record IsHeld (m : Memory) (c : Chain) (held : List HeldChain) : Type 0 where
  pub hold : HeldChain
  pub is : hold_of c held ≡ Some hold
  pub same : hold.chain ≡ c
  pub sound : IsSoundHold m hold

pub is_held : (m : Memory) (c : Chain) (held : List HeldChain) → Contains (map (λ (h : HeldChain). h.chain) held) c
    → All (IsSoundHold m) held → IsHeld m c held
is_held m c [] has all = absurd (omega (arith, has.1))
is_held m c (h ∷ held) has all =
    by_test (λ e. is_held m c held (later e has.0 has.1 has.2) (All-tail (IsSoundHold m) h held all)) (same_chain c h.chain) refl
  where
    later : same_chain c h.chain ≡ false → (i : ℕ) → i < length (map (λ (x : HeldChain). x.chain) (h ∷ held))
        → get_or (map (λ (x : HeldChain). x.chain) (h ∷ held)) i c ≡ c → Contains (map (λ (x : HeldChain). x.chain) held) c
    later other zero within is = absurd (false≢true (sym other ∙ rw is (same_chain_refl c)))
    later other (suc i) within is = (i, omega (arith, within), is)

    by_test : (same_chain c h.chain ≡ false → IsHeld m c held) → (b : Bool) → same_chain c h.chain ≡ b → IsHeld m c (h ∷ held)
    by_test rest true e = record { hold = h; is = rw e refl; same = sym (same_chain_is c h.chain e); sound = All-head (IsSoundHold m) h held all }
    by_test rest false e =
        let r = rest e in record { hold = r.hold; is = rw e r.is; same = r.same; sound = r.sound }

pub held_inside : (m : Memory) (c : Chain) (held : List HeldChain) → Contains (map (λ (h : HeldChain). h.chain) held) c
    → All (IsSoundHold m) held → All (λ (p : Piece). IsTrue (is_inside m p.addr p.len)) (pieces_of (hold_of c held))
held_inside m c held has all = let h = is_held m c held has all in rw h.is h.sound.inside

readable_fits : (queue : Queue) (pieces : List Piece) → readable_in queue pieces ≤ total_len pieces
readable_fits queue pieces = grind (arith, common_steps)

writable_fits : (queue : Queue) (pieces : List Piece) → writable_in queue pieces ≤ total_len pieces
writable_fits queue pieces = grind (arith, common_steps)

pub held_readable : (m : Memory) (c : Chain) (held : List HeldChain) → Contains (map (λ (h : HeldChain). h.chain) held) c
    → All (IsSoundHold m) held → c.readable ≤ total_len (pieces_of (hold_of c held))
held_readable m c held has all =
    let h = is_held m c held has all in
    rw h.is (omega (arith, ap (λ (k : Chain). k.readable) h.same, h.sound.readable, readable_fits h.hold.chain.queue h.hold.pieces))

pub held_writable : (m : Memory) (c : Chain) (held : List HeldChain) → Contains (map (λ (h : HeldChain). h.chain) held) c
    → All (IsSoundHold m) held → c.writable ≤ total_len (pieces_of (hold_of c held))
held_writable m c held has all =
    let h = is_held m c held has all in
    rw h.is (omega (arith, ap (λ (k : Chain). k.writable) h.same, h.sound.writable, writable_fits h.hold.chain.queue h.hold.pieces))

-- in a memory that begins and ends where the other does, chains are as sound
pub sound_in : (m new : Memory) (held : List HeldChain) → new.base ≡ m.base → length new.bytes ≡ length m.bytes → All (IsSoundHold m) held
    → All (IsSoundHold new) held
sound_in m new held base size all = grind (arith, common_steps)

-- so they are where one is let go
pub sound_left : (m : Memory) (c : Chain) (held : List HeldChain) → All (IsSoundHold m) held → All (IsSoundHold m) (without_hold c held)
sound_left m c [] all = all
sound_left m c (h ∷ held) all =
    elim (same_chain c h.chain) as (λ b. All (IsSoundHold m) (cond b held (h ∷ without_hold c held))) [
      | true ↦ All-tail (IsSoundHold m) h held all
      | false ↦ All-cons (IsSoundHold m) h (without_hold c held) (All-head (IsSoundHold m) h held all)
          (sound_left m c held (All-tail (IsSoundHold m) h held all))
    ]

-- and where one is taken
pub sound_kept : (q : PlainQueue) (taken place : ℕ) (m new : Memory) (t : Taken) (held : List HeldChain)
    → t ≡ (over (taking (ring_in q m) taken) m).0 → new.base ≡ m.base → length new.bytes ≡ length m.bytes
    → All (IsSoundHold m) held → All (IsSoundHold new) (keeping q.queue place t held).1
sound_kept q taken place m new NoChain held is base size all = sound_in m new held base size all
sound_kept q taken place m new (Failed failure) held is base size all = sound_in m new held base size all
sound_kept q taken place m new (Found head pieces) held is base size all =
    let good : IsGood (ring_in q m) pieces = subst (IsGoodTaken (ring_in q m)) (sym is) (good_taken (ring_in q m) taken m) in
    All-cons (IsSoundHold new) (record { chain = chain_at q.queue place pieces; head = head; pieces = pieces }) held
    (record { inside = rw (base, size) good.walked.inside; readable = refl; writable = refl }) (sound_in m new held base size all)
