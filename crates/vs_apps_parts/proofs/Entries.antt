-- What an entry more, a wait more and bytes more leave of a journal, and what each says was received on a connection.
use Rattle.std.proofs.Common.{◌≡◌, ℕ, zero, suc, ◌+◌, ◌-◌, ◌<◌, ◌≤◌, ◌==◌, Bool, true, false, cond, List, [], ◌∷◌, ◌++◌, length, take, drop, Option, Some, None, refl, sym, ap}
use Rattle.std.proofs.{Common.{subst, ◌∙◌, append_assoc, append-nil, slice_set, arith}, lemmas.{Bool.eqb-true, List.{drop-append-le, length-append, length-drop, take-append-le}}}
use Rattle.std.{proofs.Math.Seq.{drop-append_seam, take-length}, specs.{Option.unwrap_or, Prelude.slice_get}}
use Rattle.vs_excerpt.specs.{Excerpt.excerpt_of, declared.Excerpt.Excerpt}
use Rattle.vs_driver_parts.specs.{Connections.got_count, declared.answers.Received.Received}
use Rattle.laws_driver.specs.Carried.Calls.{Journal, bytes_received, names, received_by}
use Rattle.vs_apps_parts.specs.Journals.{AllStandIn, StandsIn, called_noted, calls_of, ends_at, entry_called, entry_waited, made_by, made_of, one_more, times_in, wait_noted}
use Rattle.vs_apps_parts.specs.{Journals.waited_before, Scripts.{RunScript, slice_of}, Sums.{HasSpace, IsSummed, given_by, given_in, given_on, is_receive, kept_of}, Told.wait_of}
use Rattle.vs_apps_parts.specs.{Told.told_recv, declared.{journal.{Called.Called, Deed.Deed, Entry.Entry, WaitsFor.WaitsFor}, progress.TheConstants.SLICE, told.Told.Told}}
use Rattle.vs_apps_parts.specs.declared.journal.Called.TheVariants as called
use Rattle.vs_apps_parts.specs.declared.journal.Deed.TheVariants as deed
use Rattle.vs_driver_parts.specs.declared.answers.Received.TheVariants as recv

-- Bytes behind those that are there leave the older ones where they stand.
pub slice_stays : (from n : ℕ) (bytes more : List ℕ) → from + n ≤ length bytes → slice_of from n (bytes ++ more) ≡ slice_of from n bytes
slice_stays from n bytes more within =
    ap (λ (xs : List ℕ). take n xs) (drop-append-le from bytes more (omega (arith, within)))
    ∙ take-append-le n (drop from bytes) more (omega (arith, within, length-drop from bytes))

pub stand_snoc : (n : ℕ) (es : List Entry) (e : Entry) → AllStandIn n es → StandsIn n e → AllStandIn n (es ++ e ∷ [])
stand_snoc n [] e are is = (is, tt)
stand_snoc n (x ∷ es) e are is = (are.0, stand_snoc n es e are.1 is)

pub stand_set : (n k times : ℕ) (why : WaitsFor) (es : List Entry) (place : ℕ) → AllStandIn n es → AllStandIn n (slice_set es place (entry_waited k times why))
stand_set n k times why [] place are = tt
stand_set n k times why (x ∷ es) zero are = (tt, are.1)
stand_set n k times why (x ∷ es) (suc place) are = (are.0, stand_set n k times why es place are.1)

pub more_stand : (n m : ℕ) → n ≤ m → (es : List Entry) → AllStandIn n es → AllStandIn m es
more_stand n m less [] are = tt
more_stand n m less (e ∷ es) are = (by e.deed are.0, more_stand n m less es are.1)
  where
    by : (d : Deed) → elim d as (λ _. Type 0) [ deed.Called c ↦ ends_at c ≤ n | deed.Waited times why ↦ Unit {0} ]
        → elim d as (λ _. Type 0) [ deed.Called c ↦ ends_at c ≤ m | deed.Waited times why ↦ Unit {0} ]
    by (deed.Called c) stands = omega (arith, stands, less)
    by (deed.Waited times why) stands = tt

-- What is so of the entries with a wait more, and with one more at its place, is so of those that note a wait.
pub wait_as : (P : List Entry → Type 0) (k : ℕ) (why : WaitsFor) (last : Option ℕ) (es : List Entry) → P (es ++ entry_waited k 1 why ∷ [])
    → ((place times : ℕ) (e : Entry) → slice_get es place ≡ Some e → times_in k e ≡ Some times
    → P (slice_set es place (entry_waited k (one_more times) why))) → P (wait_noted k why last es)
wait_as P k why last es added changed = by (waited_before k last es) refl
  where
    here : (place times : ℕ) (o : Option Entry) → slice_get es place ≡ o → elim o as (λ _. Option ℕ) [ None ↦ None | Some e ↦ times_in k e ] ≡ Some times
        → P (slice_set es place (entry_waited k (one_more times) why))
    here place times None at is = absurd cc
    here place times (Some e) at is = changed place times e at is

    placed : (l : Option ℕ) (times : ℕ) → waited_before k l es ≡ Some times → P (slice_set es (unwrap_or l 0) (entry_waited k (one_more times) why))
    placed None times is = absurd cc
    placed (Some place) times is = here place times (slice_get es place) refl is

    by : (o : Option ℕ) → waited_before k last es ≡ o → P (elim o as (λ _. List Entry) [
      | None ↦ es ++ entry_waited k 1 why ∷ []
      | Some times ↦ slice_set es (unwrap_or last 0) (entry_waited k (one_more times) why)
    ])
    by None is = added
    by (Some times) is = placed last times is

-- What came on a connection.
given_snoc : (id : ℕ) (bytes : List ℕ) (es : List Entry) (e : Entry) → given_on id bytes (es ++ e ∷ []) ≡ given_on id bytes es ++ given_by id bytes e
given_snoc id bytes [] e = append-nil (given_by id bytes e)
given_snoc id bytes (x ∷ es) e =
    ap (λ (xs : List ℕ). given_by id bytes x ++ xs) (given_snoc id bytes es e) ∙ sym (append_assoc (given_by id bytes x) (given_on id bytes es) (given_by id bytes e))

given_set : (id : ℕ) (bytes : List ℕ) (es : List Entry) (place : ℕ) (e new : Entry) → slice_get es place ≡ Some e → given_by id bytes new ≡ given_by id bytes e
    → given_on id bytes (slice_set es place new) ≡ given_on id bytes es
given_set id bytes [] place e new at same = refl
given_set id bytes (x ∷ es) zero e new at same =
    let is : x ≡ e = cc in ap (λ (xs : List ℕ). xs ++ given_on id bytes es) (same ∙ ap (given_by id bytes) (sym is))
given_set id bytes (x ∷ es) (suc place) e new at same = ap (λ (xs : List ℕ). given_by id bytes x ++ xs) (given_set id bytes es place e new at same)

given_stays : (id : ℕ) (bytes more : List ℕ) (es : List Entry) → AllStandIn (length bytes) es → given_on id (bytes ++ more) es ≡ given_on id bytes es
given_stays id bytes more [] stand = refl
given_stays id bytes more (e ∷ es) stand =
    ap (λ (xs : List ℕ). xs ++ given_on id (bytes ++ more) es) (by e.deed stand.0)
    ∙ ap (λ (xs : List ℕ). given_by id bytes e ++ xs) (given_stays id bytes more es stand.1)
  where
    one : (b : Bool) (from n : ℕ) → from + n ≤ length bytes → cond b (slice_of from n (bytes ++ more)) [] ≡ cond b (slice_of from n bytes) []
    one true from n within = slice_stays from n bytes more within
    one false from n within = refl

    call : (c : Called) → ends_at c ≤ length bytes → given_in id (bytes ++ more) c ≡ given_in id bytes c
    call (called.Recv other len from answer) within = one (id == other) from (got_count answer) within
    call c within = refl

    by : (d : Deed) → elim d as (λ _. Type 0) [ deed.Called c ↦ ends_at c ≤ length bytes | deed.Waited times why ↦ Unit {0} ]
        → elim d as (λ _. List ℕ) [ deed.Called c ↦ given_in id (bytes ++ more) c | deed.Waited times why ↦ [] ]
        ≡ elim d as (λ _. List ℕ) [ deed.Called c ↦ given_in id bytes c | deed.Waited times why ↦ [] ]
    by (deed.Called c) within = call c within
    by (deed.Waited times why) within = refl

none_of_wait : (id : ℕ) (bytes : List ℕ) (k times : ℕ) (e : Entry) → times_in k e ≡ Some times → [] ≡ given_by id bytes e
none_of_wait id bytes k times e is = by (e.app == k) e.deed is
  where
    by : (b : Bool) (d : Deed) → cond b (elim d as (λ _. Option ℕ) [ deed.Called c ↦ None | deed.Waited times why ↦ Some times ]) None ≡ Some times
        → [] ≡ elim d as (λ _. List ℕ) [ deed.Called c ↦ given_in id bytes c | deed.Waited times why ↦ [] ]
    by true (deed.Called c) is = absurd cc
    by true (deed.Waited n why) is = refl
    by false d is = absurd cc

-- It is what was received there, by the calls of the journal.
received_append : (id : ℕ) (newer older : Journal) → received_by id (newer ++ older) ≡ received_by id older ++ received_by id newer
received_append id [] older = sym (append-nil (received_by id older))
received_append id (m ∷ ms) older =
    ap (λ (xs : List ℕ). xs ++ cond (names id m.id) (bytes_received m.call m.reply) []) (received_append id ms older)
    ∙ append_assoc (received_by id older) (received_by id ms) (cond (names id m.id) (bytes_received m.call m.reply) [])

none_either : (b : Bool) (xs : List ℕ) → xs ≡ [] → cond b xs [] ≡ []
none_either true xs none = none
none_either false xs none = refl

module _ (id : ℕ) (script : RunScript) (bytes : List ℕ) where
  given_called : (app : ℕ) (c : Called) → received_by id (made_of script bytes app c ∷ []) ≡ given_in id bytes c
  given_called app (called.Connect port answer flow) = refl
  given_called app (called.Listen port answer) = refl
  given_called app (called.Accept port answer flow) = refl
  given_called app (called.Send other at from len answer) = none_either (id == other) [] refl
  given_called app (called.Recv other len from answer) = refl
  given_called app (called.Shutdown other bits answer) = none_either (id == other) [] refl
  given_called app (called.Grow other alloc answer) = none_either (id == other) [] refl
  given_called app (called.Close other answer) = none_either (id == other) [] refl
  given_called app (called.LookAt other answer) = none_either (id == other) [] refl

  given_made : (app : ℕ) (d : Deed) → received_by id (made_by script bytes (record { app = app; deed = d })) ≡ given_by id bytes (record { app = app; deed = d })
  given_made app (deed.Called c) = given_called app c
  given_made app (deed.Waited times why) = refl

  pub given_is : (es : List Entry) → given_on id bytes es ≡ received_by id (calls_of script bytes es)
  given_is [] = refl
  given_is (e ∷ es) =
      ap (λ (xs : List ℕ). xs ++ given_on id bytes es) (sym (given_made e.app e.deed))
      ∙ ap (λ (xs : List ℕ). received_by id (made_by script bytes e) ++ xs) (given_is es)
      ∙ sym (received_append id (calls_of script bytes es) (made_by script bytes e))

-- What a note leaves of it.
abbrev Excerpts : Type 0
Excerpts = ℕ → Option Excerpt

-- A call other than a receive gives none.
none_given : (id : ℕ) (bytes : List ℕ) (c : Called) → is_receive c ≡ false → given_in id bytes c ≡ []
none_given id bytes (called.Recv other len from answer) other_call = absurd cc
none_given id bytes c other_call = refl

none_ends : (n : ℕ) (c : Called) → is_receive c ≡ false → ends_at c ≤ n
none_ends n (called.Recv other len from answer) other_call = absurd cc
none_ends n c other_call = omega arith

module _ (count : ℕ) (bytes : List ℕ) (es : List Entry) (kept : Excerpts) (is : IsSummed count bytes es kept) where
  same_given : (fs : List Entry) → AllStandIn (length bytes) fs → ((id : ℕ) → given_on id bytes fs ≡ given_on id bytes es) → IsSummed count bytes fs kept
  same_given fs stand same = record {
    counts = is.counts;
    stands = stand;
    few = λ id. omega (arith, ap (λ (xs : List ℕ). length xs) (same id), is.few id);
    exact = λ id. is.exact id ∙ ap excerpt_of (sym (same id));
  }

  pub summed_wait : (k : ℕ) (why : WaitsFor) (last : Option ℕ) (new : List Entry) → new ≡ wait_noted k why last es → IsSummed count bytes new kept
  summed_wait k why last new noted =
      subst (λ (fs : List Entry). IsSummed count bytes fs kept) (sym noted) (wait_as (λ fs. IsSummed count bytes fs kept) k why last es
      (same_given _ (stand_snoc (length bytes) es (entry_waited k 1 why) is.stands tt)
      (λ id. given_snoc id bytes es (entry_waited k 1 why) ∙ append-nil (given_on id bytes es)))
      (λ place times e at so. same_given _ (stand_set (length bytes) k (one_more times) why es place is.stands)
      (λ id. given_set id bytes es place e (entry_waited k (one_more times) why) at (none_of_wait id bytes k times e so))))

  noted_call : (k : ℕ) (c : Called) → is_receive c ≡ false → (o : Option WaitsFor) → IsSummed count bytes (called_noted k c o es) kept
  noted_call k c other (Some why) = is
  noted_call k c other None =
      same_given _ (stand_snoc (length bytes) es (entry_called k c) is.stands (none_ends (length bytes) c other))
      (λ id. given_snoc id bytes es (entry_called k c) ∙ ap (λ (xs : List ℕ). given_on id bytes es ++ xs) (none_given id bytes c other)
      ∙ append-nil (given_on id bytes es))

  pub summed_call : (k : ℕ) (c : Called) (o : Option WaitsFor) (new : List Entry) → is_receive c ≡ false → new ≡ called_noted k c o es
      → IsSummed count bytes new kept
  summed_call k c o new other noted = subst (λ (fs : List Entry). IsSummed count bytes fs kept) (sym noted) (noted_call k c other o)

-- A receive: its bytes come behind the others.
pub stands_there : (bytes more : List ℕ) (n : ℕ) → length more ≡ n → slice_of (length bytes) n (bytes ++ more) ≡ more
stands_there bytes more n is =
    ap (λ (k : ℕ). slice_of (length bytes) k (bytes ++ more)) (sym is)
    ∙ ap (λ (xs : List ℕ). take (length more) xs) (drop-append_seam bytes more) ∙ take-length more

-- One that told to wait gave none.
none_came : (r : Received) (why : WaitsFor) → wait_of (told_recv r) ≡ Some why → got_count r ≡ 0
none_came (recv.Got n) why waits = absurd cc
none_came r why waits = refl

empty : (xs : List ℕ) → length xs ≡ 0 → xs ≡ []
empty [] is = refl
empty (x ∷ xs) is = absurd (omega (arith, is))

module _ (count : ℕ) (bytes : List ℕ) (es : List Entry) (kept : Excerpts) (is : IsSummed count bytes es kept) (k id len from : ℕ) (r : Received)
    (piece : List ℕ) (many : length piece ≡ got_count r) (at : from ≡ length bytes) (now : Excerpts)
    (others : (other : ℕ) → (other == id) ≡ false → now other ≡ kept other)
    (adds : kept_of (now id) ≡ excerpt_of (given_on id bytes es ++ piece)) where
  abbrev there : Entry
  there = entry_called k (called.Recv id len from r)

  slice_is : slice_of from (got_count r) (bytes ++ piece) ≡ piece
  slice_is = ap (λ (n : ℕ). slice_of n (got_count r) (bytes ++ piece)) at ∙ stands_there bytes piece (got_count r) many

  -- So much more each connection got.
  abbrev more_on : ℕ → List ℕ
  more_on other = cond (other == id) piece []

  with_entry : (other : ℕ) → given_on other (bytes ++ piece) (es ++ there ∷ []) ≡ given_on other bytes es ++ more_on other
  with_entry other =
      given_snoc other (bytes ++ piece) es there
      ∙ ap (λ (xs : List ℕ). xs ++ given_by other (bytes ++ piece) there) (given_stays other bytes piece es is.stands)
      ∙ ap (λ (xs : List ℕ). given_on other bytes es ++ cond (other == id) xs []) slice_is

  exact_by : (other : ℕ) (b : Bool) → (other == id) ≡ b → kept_of (now other) ≡ excerpt_of (given_on other bytes es ++ cond b piece [])
  exact_by other true same =
      let one : other ≡ id = eqb-true other id same in
      ap (λ (i : ℕ). kept_of (now i)) one ∙ adds ∙ ap (λ (i : ℕ). excerpt_of (given_on i bytes es ++ piece)) (sym one)
  exact_by other false apart =
      ap kept_of (others other apart) ∙ is.exact other ∙ ap excerpt_of (sym (append-nil (given_on other bytes es)))

  few_by : (other : ℕ) (b : Bool) → length (given_on other bytes es ++ cond b piece []) ≤ length (bytes ++ piece)
  few_by other true = omega (arith, length-append (given_on other bytes es) piece, length-append bytes piece, is.few other)
  few_by other false = omega (arith, ap (λ (xs : List ℕ). length xs) (append-nil (given_on other bytes es)), length-append bytes piece, is.few other)

  stand_more : AllStandIn (length (bytes ++ piece)) es
  stand_more = more_stand (length bytes) (length (bytes ++ piece)) (omega (arith, length-append bytes piece)) es is.stands

  summed_noted : IsSummed (count + length piece) (bytes ++ piece) (es ++ there ∷ []) now
  summed_noted = record {
    counts = omega (arith, length-append bytes piece, is.counts);
    stands = stand_snoc (length (bytes ++ piece)) es there stand_more (omega (arith, length-append bytes piece, many, at));
    few = λ other. subst (λ (xs : List ℕ). length xs ≤ length (bytes ++ piece)) (sym (with_entry other)) (few_by other (other == id));
    exact = λ other. exact_by other (other == id) refl ∙ ap excerpt_of (sym (with_entry other));
  }

  summed_silent : piece ≡ [] → IsSummed (count + length piece) (bytes ++ piece) es now
  summed_silent none = record {
    counts = omega (arith, length-append bytes piece, is.counts);
    stands = stand_more;
    few = λ other. omega (arith, length-append bytes piece, is.few other, ap (λ (xs : List ℕ). length xs) (given_stays other bytes piece es is.stands));
    exact = λ other. exact_by other (other == id) refl
        ∙ ap excerpt_of (ap (λ (xs : List ℕ). given_on other bytes es ++ xs) (none_either (other == id) piece none) ∙ append-nil (given_on other bytes es)
        ∙ sym (given_stays other bytes piece es is.stands));
  }

  noted_receive : (o : Option WaitsFor) → wait_of (told_recv r) ≡ o
      → IsSummed (count + length piece) (bytes ++ piece) (called_noted k (called.Recv id len from r) o es) now
  noted_receive None told = summed_noted
  noted_receive (Some why) told = summed_silent (empty piece (many ∙ none_came r why told))

  pub summed_receive : (told : Told) (new : List Entry) (given : List ℕ) → told ≡ told_recv r
      → new ≡ called_noted k (called.Recv id len from r) (wait_of told) es → given ≡ bytes ++ piece → IsSummed (count + length piece) given new now
  summed_receive told new given says noted more =
      subst (λ (bs : List ℕ). IsSummed (count + length piece) bs new now) (sym more)
      (subst (λ (fs : List Entry). IsSummed (count + length piece) (bytes ++ piece) fs now) (sym noted)
      (noted_receive (wait_of told) (ap (λ (t : Told). wait_of t) (sym says))))

-- One was noted: room for one less is left.
module _ (room len new capacity now spare count : ℕ) (space : HasSpace room len capacity spare count) (some : 0 < room) (same : now ≡ capacity)
    (few : new ≤ len + 1) where
  pub space_noted : HasSpace (room - 1) new now spare count
  space_noted = record {
    entries = omega (arith, space.entries, some, same, few);
    excerpts = omega (arith, space.excerpts);
    bytes = omega (arith, space.bytes);
  }

  pub space_given : (left given : ℕ) → spare ≤ left + 1 → given ≤ SLICE → HasSpace (room - 1) new now left (count + given)
  space_given left given kept small = record {
    entries = omega (arith, space.entries, some, same, few);
    excerpts = omega (arith, space.excerpts, some, kept);
    bytes = omega (arith, space.bytes, some, small);
  }
