-- What an app's done instructions name was moved, where none of them was over early.
use Rattle.std.proofs.lemmas.Grind.{common_steps}
use Rattle.std.proofs.Common.{◌≡◌, ◌⊎◌, inl, inr, ℕ, ◌+◌, ◌≤◌, ◌||◌, ◌&&◌, not, nat_le, nat_lt, Bool, true, false, cond, List, [], ◌∷◌, ◌++◌, Option, Some, None, slice_get}
use Rattle.std.{proofs.{Common.{refl, sym, ap, subst, ◌∙◌, arith}, lemmas.Bool.{Decides.nat_tests, and_parts, eq-eqb}}, specs.Option.{option_or}}
use Rattle.vs_script.specs.{App.{Act, Drain, Exchange, Recv, Send}, Data.{Content, size_of}}
use Rattle.vs_driver_parts.specs.declared.answers.{Received.Received}
use Rattle.laws_driver.specs.Carried.Calls.{GuestCall, Journal, Made, ReplyTo, names}
use Rattle.vs_apps_parts.specs.Scripts.{Follows, after_step, all_counted, all_noted, begun, calls_in, calls_next, counted, goes_to, id_of, is_complete, on_to_next}
use Rattle.vs_apps_parts.specs.{Scripts.{told_in, with_noted}, Journals.id_in, Told.{is_any_end, is_end, step_wait, told_by, told_of, wait_of, told_recv}}
use Rattle.vs_apps_parts.specs.declared.{journal.WaitsFor.WaitsFor, progress.Progress.Progress, told.Told.Told}
use Rattle.laws_apps.specs.Traces.{id_told, is_shut, shuts}
use Rattle.laws_run.specs.Bounds.{done_at, done_by, exchanged_by, is_at, received_in, sent_by, step_on, total, went}
use Rattle.vs_driver_parts.specs.declared.answers.Received.TheVariants as got
use Rattle.laws_driver.specs.Carried.Calls as call
use Rattle.vs_apps_parts.specs.declared.told.Told.TheVariants as says

-- An instruction that sends or receives; and a call that does.
abbrev moves : Act → Bool
moves (Send c) = true
moves (Recv n) = true
moves Drain = true
moves (Exchange c) = true
moves act = false

abbrev pub is_send : GuestCall → Bool
is_send (call.Send id bytes) = true
is_send c = false

abbrev pub is_recv : GuestCall → Bool
is_recv (call.Recv id n) = true
is_recv c = false

abbrev pub is_move : GuestCall → Bool
is_move (call.Send id bytes) = true
is_move (call.Recv id n) = true
is_move c = false

abbrev AreOf : (GuestCall → Bool) → List GuestCall → Type 0
AreOf of [] = Unit {0}
AreOf of (c ∷ cs) = (of c ≡ true) × AreOf of cs

-- A way of bytes: what instructions name, how much of one was moved so far, what a reply tells of it, and whose calls may end it early.
pub record Way : Type 0 where
  pub size : Act → ℕ
  pub count : Progress → ℕ
  pub tell : Told → ℕ
  pub of : GuestCall → Bool
  pub adds : (act : Act) (t : Told) (p : Progress) → count (counted act t p) ≤ count p + tell t
  pub full : (act : Act) (p : Progress) → is_complete act p ≡ true → size act ≤ count p
  pub fresh : (p : Progress) → count (on_to_next p) ≡ 0
  pub begins : count begun ≡ 0
  pub waits : (why : WaitsFor) → tell (says.Waits why) ≡ 0
  pub still : (act : Act) → moves act ≡ false → size act ≡ 0
  pub fits : (act : Act) (p : Progress) → (size act ≡ 0) ⊎ AreOf of (calls_next act p)

abbrev pub sent_told : Told → ℕ
sent_told (says.Took n) = n
sent_told t = 0

abbrev pub got_told : Told → ℕ
got_told (says.Got n) = n
got_told t = 0

pub sent_adds : (act : Act) (t : Told) (p : Progress) → (counted act t p).sent ≤ p.sent + sent_told t
sent_adds act t p = grind (arith, common_steps)

pub got_adds : (act : Act) (t : Told) (p : Progress) → (counted act t p).got ≤ p.got + got_told t
got_adds act t p = grind (arith, common_steps)

at_most : (n m : ℕ) → nat_le n m ≡ true → n ≤ m
at_most n m is = grind (arith, nat_tests, is)

exchange_of : (c : Content) (p : Progress) → AreOf is_move (calls_next (Exchange c) p)
exchange_of c p = grind (arith, common_steps)

-- Sends; those and what exchanges send; and what is received.
pub full_sending : (act : Act) (p : Progress) → is_complete act p ≡ true → sent_by act ≤ p.sent
full_sending (Send c) p is = at_most (size_of c) p.sent is
full_sending _ p is = omega arith

pub still_sending : (act : Act) → moves act ≡ false → sent_by act ≡ 0
still_sending (Send c) is = absurd cc
still_sending _ is = refl

pub fits_sending : (act : Act) (p : Progress) → (sent_by act ≡ 0) ⊎ AreOf is_send (calls_next act p)
fits_sending (Send c) p = inr (refl, tt)
fits_sending _ p = inl refl

abbrev pub sending : Way
sending = record {
  size = sent_by;
  count = λ p. p.sent;
  tell = sent_told;
  of = is_send;
  adds = sent_adds;
  full = full_sending;
  fresh = λ p. refl;
  begins = refl;
  waits = λ why. refl;
  still = still_sending;
  fits = fits_sending;
}

pub full_sending_all : (act : Act) (p : Progress) → is_complete act p ≡ true → sent_by act + exchanged_by act ≤ p.sent
full_sending_all act p is = grind (arith, common_steps, at_most, and_parts)

pub still_sending_all : (act : Act) → moves act ≡ false → sent_by act + exchanged_by act ≡ 0
still_sending_all act is = grind (arith, common_steps)

pub fits_sending_all : (act : Act) (p : Progress) → (sent_by act + exchanged_by act ≡ 0) ⊎ AreOf is_move (calls_next act p)
fits_sending_all act p = grind (arith, common_steps, exchange_of)

abbrev pub sending_all : Way
sending_all = record {
  size = λ act. sent_by act + exchanged_by act;
  count = λ p. p.sent;
  tell = sent_told;
  of = is_move;
  adds = sent_adds;
  full = full_sending_all;
  fresh = λ p. refl;
  begins = refl;
  waits = λ why. refl;
  still = still_sending_all;
  fits = fits_sending_all;
}

pub full_receiving : (act : Act) (p : Progress) → is_complete act p ≡ true → received_in act ≤ p.got
full_receiving act p is = grind (arith, common_steps, at_most, and_parts)

pub still_receiving : (act : Act) → moves act ≡ false → received_in act ≡ 0
still_receiving act is = grind (arith, common_steps)

pub fits_receiving : (act : Act) (p : Progress) → (received_in act ≡ 0) ⊎ AreOf is_move (calls_next act p)
fits_receiving act p = grind (arith, common_steps, exchange_of)

abbrev pub receiving : Way
receiving = record {
  size = received_in;
  count = λ p. p.got;
  tell = got_told;
  of = is_move;
  adds = got_adds;
  full = full_receiving;
  fresh = λ p. refl;
  begins = refl;
  waits = λ why. refl;
  still = still_receiving;
  fits = fits_receiving;
}

-- How much a journal tells on an id; and that no call there of these ended early but behind a shutdown or a close.
abbrev pub tally : (Told → ℕ) → ℕ → Journal → ℕ
tally tell id [] = 0
tally tell id (m ∷ older) = cond (names id m.id) (tell (told_of m)) 0 + tally tell id older

abbrev pub IsFree : (GuestCall → Bool) → ℕ → Made → Journal → Type 0
IsFree of id m older = of m.call ≡ true → m.id ≡ Some id → told_of m ≡ says.Ends → is_shut id older ≡ true

abbrev pub AreFree : (GuestCall → Bool) → ℕ → Journal → Type 0
AreFree of id [] = Unit {0}
AreFree of id (m ∷ older) = IsFree of id m older × AreFree of id older

-- Where steps lead.
pub follows_went : (acts : List Act) (steps : List (List Made)) (q : Progress) → Follows acts begun steps q → q ≡ went acts steps
follows_went acts [] q follows = sym follows
follows_went acts (ms ∷ steps) q (mid, act, follows, next, (calls, goes)) =
    goes ∙ sym (ap (λ (o : Option Act). elim o as (λ _. Progress) [ None ↦ mid | Some a ↦ after_step a (told_in ms) mid ]) next)
    ∙ ap (λ (p : Progress). step_on acts ms p) (follows_went acts steps mid follows)

total_both : (size : Act → ℕ) (xs ys : List Act) → total size (xs ++ ys) ≡ total size xs + total size ys
total_both size [] ys = omega arith
total_both size (x ∷ xs) ys = let rest = total_both size xs ys in omega (arith, rest)

-- What a step tells.
counted_at : (act : Act) (t : Told) (p : Progress) → (counted act t p).at ≡ p.at
counted_at act t p = grind (arith, common_steps)

pub all_counted_at : (act : Act) (ts : List Told) (p : Progress) → (all_counted act ts p).at ≡ p.at
all_counted_at act [] p = refl
all_counted_at act (t ∷ ts) p = all_counted_at act ts (counted act t p) ∙ counted_at act t p

conn_counted : (act : Act) (t : Told) (p : Progress) → (counted act t p).conn ≡ option_or (id_told t) p.conn
conn_counted act t p = grind (arith, common_steps)

-- A call that an app makes to send or receive at its connection.
record IsMove (n : ℕ) (m : Made) : Type 0 where
  id_is : wait_of (told_of m) ≡ None → m.id ≡ Some n
  none : id_told (told_of m) ≡ None
  still : (id : ℕ) → shuts m.call id ≡ false

abbrev AreMoves : ℕ → List Made → Type 0
AreMoves n [] = Unit {0}
AreMoves n (m ∷ ms) = IsMove n m × AreMoves n ms

-- Steps of an app at a connection, or elsewhere.
module _ (w : Way) (id : ℕ) (acts : List Act) where
  abbrev is_moving : Option Act → Bool
  is_moving None = false
  is_moving (Some act) = moves act

  -- What was moved of the instruction that the app is at.
  abbrev part : Progress → Journal → ℕ
  part p journal = cond (is_at id p journal) (cond (is_moving (slice_get acts p.at)) (w.count p) 0) 0

  abbrev done_step : Act → List Made → Progress → List Act
  done_step act ms p = cond (nat_lt p.at (after_step act (told_in ms) p).at) (act ∷ []) []

  abbrev GoesTo : Act → List Made → Progress → Progress → Journal → Journal → Type 0
  GoesTo act ms p q old new =
      total w.size (cond (is_at id p old) (cond (nat_lt p.at q.at) (act ∷ []) []) []) + part q new + tally w.tell id old ≤ part p old + tally w.tell id new

  least : (b : Bool) (n : ℕ) → cond b n 0 ≤ n
  least true n = omega arith
  least false n = omega arith

  part_least : (p : Progress) (journal : Journal) → part p journal ≤ w.count p
  part_least p journal = grind (arith, common_steps, least)

  done_most : (a b : Bool) (act : Act) → total w.size (cond a (cond b (act ∷ []) []) []) ≤ w.size act
  done_most a b act = grind (arith, common_steps)

  done_none : (a b : Bool) (act : Act) → (a ≡ true → b ≡ false) → total w.size (cond a (cond b (act ∷ []) []) []) ≡ 0
  done_none true b act none = ap (λ (d : Bool). total w.size (cond d (act ∷ []) [])) (none refl)
  done_none false b act none = refl

  not_before : (n : ℕ) → nat_lt n n ≡ false
  not_before n = grind (arith, nat_tests)

  tally_more : (ms : List Made) (journal : Journal) → tally w.tell id journal ≤ tally w.tell id (with_noted ms journal)
  tally_more [] journal = omega arith
  tally_more (m ∷ ms) journal = by (tally_more ms) (wait_of (told_of m))
    where
      by : ((j : Journal) → tally w.tell id j ≤ tally w.tell id (with_noted ms j)) → (o : Option WaitsFor)
          → tally w.tell id journal ≤ tally w.tell id (with_noted ms (elim o as (λ _. Journal) [ None ↦ m ∷ journal | Some why ↦ journal ]))
      by then (Some why) = then journal
      by then None = let rest = then (m ∷ journal) in omega (arith, rest)

  -- Any other instruction.
  stays_or_goes : (act : Act) (ts : List Told) (p : Progress) → ((after_step act ts p).at ≡ p.at) ⊎ (w.count (after_step act ts p) ≡ 0)
  stays_or_goes act ts p = grind (arith, common_steps, all_counted_at)

  quiet : (act : Act) (ms : List Made) (p : Progress) (journal : Journal) → slice_get acts p.at ≡ Some act → moves act ≡ false
      → GoesTo act ms p (after_step act (told_in ms) p) journal (with_noted ms journal)
  quiet act ms p journal at none = grind (arith, common_steps, tally_more, stays_or_goes, done_most, least, part_least)

  -- An instruction that moves bytes.
  shut_still : (n : ℕ) (ms : List Made) (journal : Journal) → AreMoves n ms → is_shut id (with_noted ms journal) ≡ is_shut id journal
  shut_still n [] journal all = refl
  shut_still n (m ∷ ms) journal all = by (λ j. shut_still n ms j all.1) (wait_of (told_of m))
    where
      by : ((j : Journal) → is_shut id (with_noted ms j) ≡ is_shut id j) → (o : Option WaitsFor)
          → is_shut id (with_noted ms (elim o as (λ _. Journal) [ None ↦ m ∷ journal | Some why ↦ journal ])) ≡ is_shut id journal
      by then (Some why) = then journal
      by then None = then (m ∷ journal) ∙ ap (λ (b : Bool). b || is_shut id journal) (all.0.still id)

  conn_still : (n : ℕ) (act : Act) (ms : List Made) (p : Progress) → AreMoves n ms → (all_counted act (told_in ms) p).conn ≡ p.conn
  conn_still n act [] p all = refl
  conn_still n act (m ∷ ms) p all =
      conn_still n act ms (counted act (told_of m) p) all.1 ∙ conn_counted act (told_of m) p ∙ ap (λ (o : Option ℕ). option_or o p.conn) all.0.none

  counted_most : (act : Act) (ms : List Made) (p : Progress) (journal : Journal) → AreMoves id ms
      → w.count (all_counted act (told_in ms) p) + tally w.tell id journal ≤ w.count p + tally w.tell id (with_noted ms journal)
  counted_most act [] p journal all = omega arith
  counted_most act (m ∷ ms) p journal all = by (told_of m) refl (λ j. counted_most act ms (counted act (told_of m) p) j all.1)
    where
      noted : wait_of (told_of m) ≡ None → ((j : Journal) → w.count (all_counted act (told_in ms) (counted act (told_of m) p)) + tally w.tell id j
          ≤ w.count (counted act (told_of m) p) + tally w.tell id (with_noted ms j))
          → w.count (all_counted act (told_in ms) (counted act (told_of m) p)) + tally w.tell id journal ≤ w.count p + tally w.tell id (with_noted ms (m ∷ journal))
      noted goes then =
          let rest = then (m ∷ journal) in
          let one = w.adds act (told_of m) p in
          let named : tally w.tell id (m ∷ journal) ≡ w.tell (told_of m) + tally w.tell id journal =
          ap (λ (b : Bool). cond b (w.tell (told_of m)) 0 + tally w.tell id journal)
          (ap (λ (o : Option ℕ). names id o) (all.0.id_is goes) ∙ eq-eqb id id refl) in omega (arith, rest, one, named)

      by : (t : Told) → told_of m ≡ t → ((j : Journal) → w.count (all_counted act (told_in ms) (counted act (told_of m) p)) + tally w.tell id j
          ≤ w.count (counted act (told_of m) p) + tally w.tell id (with_noted ms j))
          → w.count (all_counted act (told_in ms) (counted act (told_of m) p)) + tally w.tell id journal
          ≤ w.count p + tally w.tell id (with_noted ms (elim (wait_of t) as (λ _. Journal) [ None ↦ m ∷ journal | Some why ↦ journal ]))
      by (says.Waits why) told then =
          let rest = then journal in
          let one = w.adds act (told_of m) p in
          let zero = ap w.tell told ∙ w.waits why in omega (arith, rest, one, zero)
      by (says.Asked i) told then = noted (ap wait_of told) then
      by (says.Given i) told then = noted (ap wait_of told) then
      by (says.Took n) told then = noted (ap wait_of told) then
      by (says.Got n) told then = noted (ap wait_of told) then
      by says.Ends told then = noted (ap wait_of told) then

  -- None ended early, while the app was there.
  free_before : (ms : List Made) (journal : Journal) → AreFree w.of id (with_noted ms journal) → AreFree w.of id journal
  free_before [] journal free = free
  free_before (m ∷ ms) journal free = by (wait_of (told_of m)) (free_before ms (with_noted (m ∷ []) journal) free)
    where
      by : (o : Option WaitsFor) → AreFree w.of id (elim o as (λ _. Journal) [ None ↦ m ∷ journal | Some why ↦ journal ]) → AreFree w.of id journal
      by None all = all.1
      by (Some why) all = all

  none_early : (ms : List Made) (journal : Journal) → AreMoves id ms → AreOf w.of (calls_in ms) → AreFree w.of id (with_noted ms journal)
      → is_any_end (told_in ms) ≡ true → is_shut id journal ≡ true
  none_early [] journal all of free ends = absurd cc
  none_early (m ∷ ms) journal all of free ends =
      by (told_of m) refl (free_before ms (with_noted (m ∷ []) journal) free) (λ more. none_early ms (with_noted (m ∷ []) journal) all.1 of.1 free more) ends
    where
      first : is_shut id (with_noted (m ∷ []) journal) ≡ true → is_shut id journal ≡ true
      first is = sym (shut_still id (m ∷ []) journal (all.0, tt)) ∙ is

      by : (t : Told) → told_of m ≡ t → AreFree w.of id (elim (wait_of t) as (λ _. Journal) [ None ↦ m ∷ journal | Some why ↦ journal ])
          → (is_any_end (told_in ms) ≡ true → is_shut id (with_noted (m ∷ []) journal) ≡ true) → (is_end t || is_any_end (told_in ms)) ≡ true
          → is_shut id journal ≡ true
      by says.Ends told before rest is = before.0 of.0 (all.0.id_is (ap wait_of told)) told
      by (says.Given i) told before rest is = absurd (let no : Some i ≡ None = sym (ap id_told told) ∙ all.0.none in cc)
      by (says.Asked i) told before rest is = first (rest is)
      by (says.Took n) told before rest is = first (rest is)
      by (says.Got n) told before rest is = first (rest is)
      by (says.Waits why) told before rest is = first (rest is)

  pub at_parts : (p : Progress) (journal : Journal) → is_at id p journal ≡ true → (id_of p ≡ id) × (is_shut id journal ≡ false)
  at_parts p journal is = grind (arith, common_steps)

  module _ (act : Act) (ms : List Made) (p : Progress) (journal : Journal) (at : slice_get acts p.at ≡ Some act) (moving : moves act ≡ true)
      (all : AreMoves (id_of p) ms) (fit : (w.size act ≡ 0) ⊎ AreOf w.of (calls_in ms)) (free : AreFree w.of id (with_noted ms journal)) where
    abbrev new : Journal
    new = with_noted ms journal

    abbrev r : Progress
    r = all_counted act (told_in ms) p

    still_at : (q : Progress) → q.conn ≡ p.conn → is_at id q new ≡ is_at id p journal
    still_at q same =
        ap (λ (o : Option ℕ). names id o && not (is_shut id new)) same
        ∙ ap (λ (b : Bool). names id p.conn && not b) (shut_still (id_of p) ms journal all)

    part_is : (q : Progress) (js : Journal) (b : Bool) → slice_get acts q.at ≡ Some act → is_at id q js ≡ b → part q js ≡ cond b (w.count q) 0
    part_is q js b there is =
        ap (λ (d : Bool). cond d (cond (is_moving (slice_get acts q.at)) (w.count q) 0) 0) is
        ∙ ap (λ (o : Option Act). cond b (cond (is_moving o) (w.count q) 0) 0) there ∙ ap (λ (d : Bool). cond b (cond d (w.count q) 0) 0) moving

    gains : is_at id p journal ≡ true → w.count r + tally w.tell id journal ≤ w.count p + tally w.tell id new
    gains is = counted_most act ms p journal (subst (λ (n : ℕ). AreMoves n ms) (at_parts p journal is).0 all)

    waits_go : (why : WaitsFor) → GoesTo act ms p p journal new
    waits_go why =
        let none = done_none (is_at id p journal) (nat_lt p.at p.at) act (λ is. not_before p.at) in
        let same = part_is p new (is_at id p journal) at (still_at p refl) ∙ sym (part_is p journal (is_at id p journal) at refl) in
        let more = tally_more ms journal in omega (arith, none, same, more)

    ends_go : (a : Bool) → is_at id p journal ≡ a → (e : Bool) → is_any_end (told_in ms) ≡ e → (e || is_complete act r) ≡ true
        → GoesTo act ms p (on_to_next r) journal new
    ends_go false off e ends is =
        let none = done_none (is_at id p journal) (nat_lt p.at (r.at + 1)) act (λ on. absurd (let no : true ≡ false = sym on ∙ off in cc)) in
        let rest = part_least (on_to_next r) new in
        let zero = w.fresh r in
        let more = tally_more ms journal in omega (arith, none, rest, zero, more)
    ends_go true on e ends is = by fit
      where
        done : total w.size (cond (is_at id p journal) (cond (nat_lt p.at (r.at + 1)) (act ∷ []) []) []) ≤ w.size act
        done = done_most (is_at id p journal) (nat_lt p.at (r.at + 1)) act

        rest : part (on_to_next r) new ≤ 0
        rest = let one = part_least (on_to_next r) new in let zero = w.fresh r in omega (arith, one, zero)

        whole : (b : Bool) → is_any_end (told_in ms) ≡ b → (b || is_complete act r) ≡ true → AreOf w.of (calls_in ms) → w.size act ≤ w.count r
        whole true early so of =
            let parts = at_parts p journal on in
            let shut = none_early ms journal (subst (λ (n : ℕ). AreMoves n ms) parts.0 all) of free early in
            absurd (let no : true ≡ false = sym shut ∙ parts.1 in cc)
        whole false early so of = w.full act r so

        by : (w.size act ≡ 0) ⊎ AreOf w.of (calls_in ms) → GoesTo act ms p (on_to_next r) journal new
        by (inl none) = let more = tally_more ms journal in omega (arith, done, rest, none, more)
        by (inr of) =
            let size = whole e ends is of in
            let grown = gains on in
            let own = part_is p journal true at on in omega (arith, done, rest, size, grown, own)

    stays_go : (a : Bool) → is_at id p journal ≡ a → GoesTo act ms p r journal new
    stays_go a on =
        let same = all_counted_at act (told_in ms) p in
        let there : slice_get acts r.at ≡ Some act = ap (λ (n : ℕ). slice_get acts n) same ∙ at in
        let none = done_none (is_at id p journal) (nat_lt p.at r.at) act (λ is. ap (λ (n : ℕ). nat_lt p.at n) same ∙ not_before p.at) in
        let now = part_is r new a there (still_at r (conn_still (id_of p) act ms p all) ∙ on) in
        let was = part_is p journal a at on in by a on none now was
      where
        by : (b : Bool) → is_at id p journal ≡ b → total w.size (cond (is_at id p journal) (cond (nat_lt p.at r.at) (act ∷ []) []) []) ≡ 0
            → part r new ≡ cond b (w.count r) 0 → part p journal ≡ cond b (w.count p) 0 → GoesTo act ms p r journal new
        by true is none now was = let grown = gains is in omega (arith, none, now, was, grown)
        by false is none now was = let more = tally_more ms journal in omega (arith, none, now, more)

    goes : GoesTo act ms p (after_step act (told_in ms) p) journal new
    goes = by (step_wait (told_in ms))
      where
        either : (e : Bool) → (is_any_end (told_in ms) || is_complete act r) ≡ e → GoesTo act ms p (cond e (on_to_next r) r) journal new
        either true is = ends_go (is_at id p journal) refl (is_any_end (told_in ms)) refl is
        either false is = stays_go (is_at id p journal) refl

        by : (o : Option WaitsFor) → GoesTo act ms p (elim o as (λ _. Progress) [ Some why ↦ p | None ↦ goes_to act (told_in ms) r ]) journal new
        by (Some why) = waits_go why
        by None = either (is_any_end (told_in ms) || is_complete act r) refl

-- The calls of a step that moves bytes.
pub no_received : (r : Received) → id_told (told_recv r) ≡ None
no_received r = grind (arith, common_steps)

record IsMoveCall (n : ℕ) (c : GuestCall) : Type 0 where
  named : id_in c ≡ Some n
  none : (reply : ReplyTo c) → id_told (told_by c reply) ≡ None
  still : (id : ℕ) → shuts c id ≡ false

abbrev AreMoveCalls : ℕ → List GuestCall → Type 0
AreMoveCalls n [] = Unit {0}
AreMoveCalls n (c ∷ cs) = IsMoveCall n c × AreMoveCalls n cs

next_moves : (act : Act) (p : Progress) → moves act ≡ true → AreMoveCalls (id_of p) (calls_next act p)
next_moves act p is = grind (arith, common_steps)

abbrev pub ArePlain : Journal → Type 0
ArePlain [] = Unit {0}
ArePlain (m ∷ older) = (m.id ≡ id_in m.call) × ArePlain older

plain_before : (ms : List Made) (journal : Journal) → ArePlain (with_noted ms journal) → ArePlain journal
plain_before [] journal plain = plain
plain_before (m ∷ ms) journal plain = by (wait_of (told_of m)) (plain_before ms (with_noted (m ∷ []) journal) plain)
  where
    by : (o : Option WaitsFor) → ArePlain (elim o as (λ _. Journal) [ None ↦ m ∷ journal | Some why ↦ journal ]) → ArePlain journal
    by None all = all.1
    by (Some why) all = all

moves_are : (n : ℕ) (ms : List Made) (journal : Journal) → AreMoveCalls n (calls_in ms) → ArePlain (with_noted ms journal) → AreMoves n ms
moves_are n [] journal calls plain = tt
moves_are n (m ∷ ms) journal calls plain = (
  record {
    id_is = λ goes. by (wait_of (told_of m)) goes (plain_before ms (with_noted (m ∷ []) journal) plain) ∙ calls.0.named;
    none = calls.0.none m.reply;
    still = calls.0.still;
  },
  moves_are n ms (with_noted (m ∷ []) journal) calls.1 plain,
)
  where
    by : (o : Option WaitsFor) → o ≡ None → ArePlain (elim o as (λ _. Journal) [ None ↦ m ∷ journal | Some why ↦ journal ]) → m.id ≡ id_in m.call
    by None goes all = all.0
    by (Some why) goes all = absurd cc

-- All steps.
module _ (w : Way) (id : ℕ) (acts : List Act) where
  step_goes : (act : Act) (ms : List Made) (p : Progress) (journal : Journal) → slice_get acts p.at ≡ Some act → calls_in ms ≡ calls_next act p
      → ArePlain (with_noted ms journal) → AreFree w.of id (with_noted ms journal)
      → GoesTo w id acts act ms p (after_step act (told_in ms) p) journal (with_noted ms journal)
  step_goes act ms p journal at calls plain free = by (moves act) refl
    where
      fits : (w.size act ≡ 0) ⊎ AreOf w.of (calls_next act p) → (w.size act ≡ 0) ⊎ AreOf w.of (calls_in ms)
      fits (inl none) = inl none
      fits (inr of) = inr (subst (AreOf w.of) (sym calls) of)

      by : (b : Bool) → moves act ≡ b → GoesTo w id acts act ms p (after_step act (told_in ms) p) journal (with_noted ms journal)
      by false none = quiet w id acts act ms p journal at none
      by true moving = goes w id acts act ms p journal at moving
          (moves_are (id_of p) ms journal (subst (AreMoveCalls (id_of p)) (sym calls) (next_moves act p moving)) plain) (fits (w.fits act p)) free

  pub all_moved : (steps : List (List Made)) (q : Progress) → Follows acts begun steps q → ArePlain (all_noted steps) → AreFree w.of id (all_noted steps)
      → total w.size (done_at id acts steps) + part w id acts (went acts steps) (all_noted steps) ≤ tally w.tell id (all_noted steps)
  all_moved [] q follows plain free = let least = part_least w id acts begun [] in let none = w.begins in omega (arith, least, none)
  all_moved (ms ∷ steps) q (mid, act, follows, next, (calls, goes)) plain free =
      let p : Progress = went acts steps in
      let old : Journal = all_noted steps in
      let is : mid ≡ p = follows_went acts steps mid follows in
      let at : slice_get acts p.at ≡ Some act = subst (λ (x : Progress). slice_get acts x.at ≡ Some act) is next in
      let calls_are : calls_in ms ≡ calls_next act p = subst (λ (x : Progress). calls_in ms ≡ calls_next act x) is calls in
      let rest = all_moved steps mid follows (plain_before ms old plain) (free_before w id acts ms old free) in
      let one = step_goes act ms p old at calls_are plain free in
      let both = total_both w.size (done_at id acts steps) (cond (is_at id p old) (done_by acts ms p) []) in
      let done : total w.size (cond (is_at id p old) (done_by acts ms p) []) ≡ total w.size (cond (is_at id p old) (done_step w id acts act ms p) []) =
      ap (λ (o : Option Act). total w.size (cond (is_at id p old) (elim o as (λ _. List Act) [ None ↦ [] | Some a ↦ done_step w id acts a ms p ]) [])) at in
      let leads : part w id acts (step_on acts ms p) (with_noted ms old) ≡ part w id acts (after_step act (told_in ms) p) (with_noted ms old) =
      ap (λ (o : Option Act). part w id acts (elim o as (λ _. Progress) [ None ↦ p | Some a ↦ after_step a (told_in ms) p ]) (with_noted ms old)) at in
      omega (arith, rest, one, both, done, leads)
