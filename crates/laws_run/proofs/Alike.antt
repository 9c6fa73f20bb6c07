-- Drivers whose connections differ in no more than what they ask for of credit.
use Rattle.std.proofs.Common.{◌≡◌, ◌==◌, ◌||◌, ℕ, not, Bool, true, false, cond, List, [], ◌∷◌, map, Option, Some, None, refl, sym, ap, subst, ◌∙◌, arith}
use Rattle.std.{proofs.{Math.Path.fun_ext, lemmas.{Bool.eq-eqb, Grind.common_steps, List.length-map}}, specs.{Option.option_map, Prelude.{find, is_some}}}
use Rattle.vs_conn.specs.{End.{ConnectionEnd, may_send_of, state_may_send, wanting_credit}, declared.end.State.{State}}
use Rattle.vs_flow.{specs.Table.{revalued, slots}, proofs.Lookups.find-map_same}
use Rattle.vs_driver_parts.specs.{Listening.{is_answered, next_accepted}, Connections.{entry_answer, gone_answer, is_full, recv_of, state_of, state_shown, with_end}}
use Rattle.vs_driver_parts.specs.State.{DriverConnection, DriverEntry, DriverState, GoneConnection, entry_known_as, gone_known_as, is_known_as}
use Rattle.vs_driver_parts.specs.declared.answers.{ConnectionState.ConnectionState, Received.Received}
use Rattle.laws_rest.proofs.{Owing.same_slots, Quiet.in_list}
use Rattle.laws_run.proofs.Still.{SameCore}
use Rattle.vs_driver_parts.specs.declared.answers.ConnectionState.TheVariants as seen
use Rattle.vs_driver_parts.specs.declared.answers.Received.TheVariants as got

-- An entry without what it asks for of credit.
abbrev pub calmed : ConnectionEnd → ConnectionEnd
calmed e = record e { credit_asked = false; credit_request_owed = false }

abbrev pub quieted : DriverEntry → DriverEntry
quieted e = record e { value = record e.value { end = calmed e.value.end } }

pub record Alike (s t : DriverState) : Type 0 where
  pub entries : map quieted t.table.entries ≡ map quieted s.table.entries
  pub gone : t.gone ≡ s.gone
  pub listeners : t.listeners ≡ s.listeners

-- No two connections have one slot.
abbrev pub AreApart : List ℕ → Type 0
AreApart [] = Unit {0}
AreApart (n ∷ ns) = (in_list n ns ≡ false) × AreApart ns

abbrev pub HasApart : DriverState → Type 0
HasApart s = AreApart (slots s.table)

-- What leaves a driver alike, where that is so.
abbrev pub Leaves : DriverState → DriverState → Type 0
Leaves s t = HasApart t → HasApart s × Alike s t

pub leaves_none : (s : DriverState) → Leaves s s
leaves_none s = λ apart. (apart, record { entries = refl; gone = refl; listeners = refl })

pub leaves_then : (r s t : DriverState) → Leaves r s → Leaves s t → Leaves r t
leaves_then r s t one two = grind (arith, common_steps)

pub leaves_core : (s t : DriverState) → SameCore s t → Leaves s t
leaves_core s t same = grind (arith, common_steps)

-- A connection that wants credit.
slot_unlisted : (slot : ℕ) (c : DriverConnection) (es : List DriverEntry) → in_list slot (map (λ x. x.slot) es) ≡ false → map (revalued slot c) es ≡ es
slot_unlisted slot c [] none = refl
slot_unlisted slot c (x ∷ es) none = by (slot == x.slot) refl (x.slot == slot) refl (slot_unlisted slot c es)
  where
    by : (a : Bool) → (slot == x.slot) ≡ a → (b : Bool) → (x.slot == slot) ≡ b
        → (in_list slot (map (λ y. y.slot) es) ≡ false → map (revalued slot c) es ≡ es) → map (revalued slot c) (x ∷ es) ≡ x ∷ es
    by true own b is rest = let no : true ≡ false = sym (ap (λ (d : Bool). d || in_list slot (map (λ y. y.slot) es)) own) ∙ none in absurd cc
    by false other true is rest = absurd (grind (arith, common_steps, other, is))
    by false other false is rest =
        ap (λ (d : Bool). cond d (record x { value = c }) x ∷ map (revalued slot c) es) is
        ∙ ap (λ (ys : List DriverEntry). x ∷ ys) (rest (sym (ap (λ (d : Bool). d || in_list slot (map (λ y. y.slot) es)) other) ∙ none))

found_listed : (p : DriverEntry → Bool) (es : List DriverEntry) (e : DriverEntry) → find p es ≡ Some e → in_list e.slot (map (λ x. x.slot) es) ≡ true
found_listed p [] e at = absurd cc
found_listed p (x ∷ es) e at = by (p x) at (found_listed p es e)
  where
    own : in_list x.slot (map (λ y. y.slot) (x ∷ es)) ≡ true
    own = ap (λ (d : Bool). d || in_list x.slot (map (λ y. y.slot) es)) (eq-eqb x.slot x.slot refl)

    more : (a b : Bool) → b ≡ true → (a || b) ≡ true
    more true b is = refl
    more false b is = is

    by : (b : Bool) → cond b (Some x) (find p es) ≡ Some e → (find p es ≡ Some e → in_list e.slot (map (λ y. y.slot) es) ≡ true)
        → in_list e.slot (map (λ y. y.slot) (x ∷ es)) ≡ true
    by true is rest = let same : x ≡ e = cc in subst (λ (y : DriverEntry). in_list y.slot (map (λ z. z.slot) (x ∷ es)) ≡ true) same own
    by false is rest = more (e.slot == x.slot) (in_list e.slot (map (λ y. y.slot) es)) (rest is)

-- Another value of the entry that is found, which is the same but for that.
quieted_same : (p : DriverEntry → Bool) (es : List DriverEntry) (e : DriverEntry) (c : DriverConnection) → AreApart (map (λ x. x.slot) es)
    → find p es ≡ Some e → quieted (record e { value = c }) ≡ quieted e → map quieted (map (revalued e.slot c) es) ≡ map quieted es
quieted_same p [] e c apart at same = refl
quieted_same p (x ∷ es) e c apart at same = by (p x) at (quieted_same p es e c apart.1)
  where
    here : map quieted (map (revalued x.slot c) (x ∷ es)) ≡ quieted (record x { value = c }) ∷ map quieted es
    here =
        ap (λ (b : Bool). quieted (cond b (record x { value = c }) x) ∷ map quieted (map (revalued x.slot c) es)) (eq-eqb x.slot x.slot refl)
        ∙ ap (λ (ys : List DriverEntry). quieted (record x { value = c }) ∷ map quieted ys) (slot_unlisted x.slot c es apart.0)

    differs : (b : Bool) → (x.slot == e.slot) ≡ b → in_list e.slot (map (λ y. y.slot) es) ≡ true → (x.slot == e.slot) ≡ false
    differs false is listed = is
    differs true is listed = absurd (grind (arith, common_steps, apart.0, is, listed))

    by : (b : Bool) → cond b (Some x) (find p es) ≡ Some e
        → (find p es ≡ Some e → quieted (record e { value = c }) ≡ quieted e → map quieted (map (revalued e.slot c) es) ≡ map quieted es)
        → map quieted (map (revalued e.slot c) (x ∷ es)) ≡ map quieted (x ∷ es)
    by true is rest =
        let own : x ≡ e = cc in
        let For : DriverEntry → Type 0 = λ y. quieted (record y { value = c }) ≡ quieted y → map quieted (map (revalued y.slot c) (x ∷ es)) ≡ map quieted (x ∷ es) in
        subst For own (λ alike. here ∙ ap (λ (y : DriverEntry). y ∷ map quieted es) alike) same
    by false is rest =
        let other = differs (x.slot == e.slot) refl (found_listed p es e is) in
        ap (λ (b : Bool). quieted (cond b (record x { value = c }) x) ∷ map quieted (map (revalued e.slot c) es)) other
        ∙ ap (λ (ys : List DriverEntry). quieted x ∷ ys) (rest is same)

pub leaves_wanting : (id : ℕ) (s : DriverState) (e : DriverEntry) → entry_known_as id s ≡ Some e → Leaves s (with_end (wanting_credit e.value.end) e s)
leaves_wanting id s e at = grind (arith, common_steps, same_slots, quieted_same)

-- What alike drivers tell of a connection.
module _ (s t : DriverState) (alike : Alike s t) where
  known_alike : (id : ℕ) → option_map quieted (entry_known_as id t) ≡ option_map quieted (entry_known_as id s)
  known_alike id =
      sym (find-map_same (is_known_as id) quieted (λ x. refl) t.table.entries) ∙ ap (λ (es : List DriverEntry). find (is_known_as id) es) alike.entries
      ∙ find-map_same (is_known_as id) quieted (λ x. refl) s.table.entries

  pub record KnownToo (id : ℕ) (e : DriverEntry) : Type 0 where
    pub entry : DriverEntry
    pub there : entry_known_as id t ≡ Some entry
    pub same : quieted entry ≡ quieted e

  known_in : (id : ℕ) (e : DriverEntry) (o q : Option DriverEntry) → option_map quieted o ≡ option_map quieted q → q ≡ Some e → entry_known_as id t ≡ o
      → KnownToo id e
  known_in id e o q same at is = grind (arith, common_steps)

  pub known_too : (id : ℕ) (e : DriverEntry) → entry_known_as id s ≡ Some e → KnownToo id e
  known_too id e at = known_in id e (entry_known_as id t) (entry_known_as id s) (known_alike id) at refl

  may_send_calmed : (st : State) (x : ConnectionEnd) → state_may_send st (calmed x) ≡ state_may_send st x
  may_send_calmed st x = grind (arith, common_steps)

  pub may_send_too : (id : ℕ) (e : DriverEntry) (at : entry_known_as id s ≡ Some e)
      → may_send_of (known_too id e at).entry.value.end ≡ may_send_of e.value.end
  may_send_too id e at = grind (arith, common_steps, known_too, may_send_calmed)

  by_entry : {A : Type 0} (f : DriverEntry → A) (d : A) → ((e : DriverEntry) → f (quieted e) ≡ f e) → (o q : Option DriverEntry)
      → option_map quieted o ≡ option_map quieted q
      → elim o as (λ _. A) [ None ↦ d | Some e ↦ f e ] ≡ elim q as (λ _. A) [ None ↦ d | Some e ↦ f e ]
  by_entry f d same o q is = grind (arith, common_steps)

  pub recv_alike : (id n : ℕ) → recv_of id n t ≡ recv_of id n s
  recv_alike id n =
      by_entry (λ e. entry_answer n e)
      (elim (gone_known_as id t) as (λ _. Received) [ None ↦ got.Unknown | Some g ↦ gone_answer n g ]) (λ e. refl) (entry_known_as id t) (entry_known_as id s)
      (known_alike id)
      ∙ ap (λ (gs : List GoneConnection). elim (entry_known_as id s) as (λ _. Received) [
        | None ↦ elim (find (λ g. g.id == id) gs) as (λ _. Received) [ None ↦ got.Unknown | Some g ↦ gone_answer n g ]
        | Some e ↦ entry_answer n e
      ]) alike.gone

  pub state_alike : (id : ℕ) → state_of id t ≡ state_of id s
  state_alike id =
      by_entry (λ e. state_shown e.value.end.state) (cond (is_some (gone_known_as id t)) seen.Gone seen.Unknown) (λ e. refl) (entry_known_as id t)
      (entry_known_as id s) (known_alike id)
      ∙ ap (λ (gs : List GoneConnection). elim (entry_known_as id s) as (λ _. ConnectionState) [
        | None ↦ cond (is_some (find (λ g. g.id == id) gs)) seen.Gone seen.Unknown
        | Some e ↦ state_shown e.value.end.state
      ]) alike.gone

  -- Whether all slots are held, and who may be accepted on a port.
  pub full_alike : is_full t ≡ is_full s
  full_alike = grind (arith, common_steps, length-map)

  answered_alike : (id : ℕ) → is_answered t id ≡ is_answered s id
  answered_alike id =
      by_entry (λ e. not e.value.unanswered) (is_some (gone_known_as id t)) (λ e. refl) (entry_known_as id t) (entry_known_as id s) (known_alike id)
      ∙ ap (λ (gs : List GoneConnection). elim (entry_known_as id s) as (λ _. Bool) [
        | None ↦ is_some (find (λ g. g.id == id) gs)
        | Some e ↦ not e.value.unanswered
      ]) alike.gone

  pub accepted_alike : (port : ℕ) → next_accepted port t ≡ next_accepted port s
  accepted_alike port = grind (arith, common_steps, fun_ext, answered_alike)
