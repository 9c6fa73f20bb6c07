-- What reading, shutting and closing come to in each case.
use Rattle.std.proofs.Common.{◌≡◌, ℕ, suc, ◌==◌, Bool, true, false, List, [], ◌∷◌, Option, Some, None, length, min, cond, refl, sym, ap, ◌∙◌, arith, drop, get_or, ◌<◌, ◌≤◌, ◌+◌}
use Rattle.std.{proofs.{Common.{drop-cons, add-one}, lemmas.Bool.Decides.nat_tests, Math.ListN.drop_of_length-le}, specs.{List.find, Option.option_map_or}}
use Rattle.vs_flow.specs.declared.flow.Flow.{Flow}
use Rattle.vs_driver_parts.specs.Connections.{read_of, gone_answer, is_at_end, entry_read, after_read, with_connection, shut_in, after_shut, after_closing, entry_closed}
use Rattle.vs_driver_parts.specs.{Connections.{gone_closed, waiting_on, all_closed, after_close}, Listening.{with_waiting, without_id, next_accepted, is_answered, listener_on}}
use Rattle.vs_driver_parts.specs.{declared.answers.Received.Received, State.{DriverConnection, DriverEntry, DriverState, GoneConnection, gone_known_as, Listener}}
use Rattle.vs_conn.specs.declared.end.State.{State}
use Rattle.vs_conn.specs.declared.end.State.TheVariants as state
use Rattle.vs_driver_parts.specs.declared.answers.Received.TheVariants as got

not_empty : (n : ℕ) → (suc n == 0) ≡ true → ⊥
not_empty n e = let is : suc n ≡ 0 = grind (arith, nat_tests, e) in omega arith

pub read_some : (n : ℕ) (unread : List ℕ) (none : Received) → (length unread == 0) ≡ false → read_of n unread none ≡ got.Got (min n (length unread))
read_some n [] none some = absurd (cc)
read_some n (b ∷ bs) none some = refl

pub read_none_left : (n : ℕ) (unread : List ℕ) (none : Received) → (length unread == 0) ≡ true → read_of n unread none ≡ none
read_none_left n [] none empty = refl
read_none_left n (b ∷ bs) none empty = absurd (not_empty (length bs) empty)

pub gone_some : (n : ℕ) (g : GoneConnection) → (length g.unread == 0) ≡ false → gone_answer n g ≡ got.Got (min n (length g.unread))
gone_some n g some = read_some n g.unread (cond (is_at_end g.end) got.End got.Reset) some

pub gone_ended : (n : ℕ) (g : GoneConnection) → (length g.unread == 0) ≡ true → is_at_end g.end ≡ true → gone_answer n g ≡ got.End
gone_ended n g none ended = read_none_left n g.unread (cond (is_at_end g.end) got.End got.Reset) none ∙ ap (λ (b : Bool). cond b got.End got.Reset) ended

pub gone_reset : (n : ℕ) (g : GoneConnection) → (length g.unread == 0) ≡ true → is_at_end g.end ≡ false → gone_answer n g ≡ got.Reset
gone_reset n g none goes_on = read_none_left n g.unread (cond (is_at_end g.end) got.End got.Reset) none ∙ ap (λ (b : Bool). cond b got.End got.Reset) goes_on

pub entry_read_some : (n slot : ℕ) (e : DriverEntry) (s : DriverState) → (length e.value.unread == 0) ≡ false → e.slot ≡ slot
    → with_connection slot (after_read n e.value) s ≡ entry_read n e s
entry_read_some n slot e s some at =
    ap (λ (k : ℕ). with_connection k (after_read n e.value) s) (sym at) ∙ ap (λ (b : Bool). cond b s (with_connection e.slot (after_read n e.value) s)) (sym some)

pub shut_in_live : (bits slot : ℕ) (e : DriverEntry) (s : DriverState) → state.Live ≡ e.value.end.state → e.slot ≡ slot
    → with_connection slot (after_shut bits e.value) s ≡ shut_in e.value.end.state bits e s
shut_in_live bits slot e s live at =
    ap (λ (k : ℕ). with_connection k (after_shut bits e.value) s) (sym at) ∙ ap (λ (x : State). shut_in x bits e s) live

pub closed_entry : (slot id : ℕ) (e : DriverEntry) (f : Flow) (s : DriverState) → e.slot ≡ slot → f ≡ e.flow → e.value.id ≡ id
    → record (with_connection slot (after_closing e.value.end.state e.value) s) { listeners = with_waiting f.guest (without_id id) s.listeners } ≡ entry_closed e s
closed_entry slot id e f s at flow is =
    let c : DriverConnection = after_closing e.value.end.state e.value in
    ap (λ (k : ℕ). record (with_connection k c s) { listeners = with_waiting f.guest (without_id id) s.listeners }) (sym at)
    ∙ (ap (λ (k : Flow). record (with_connection e.slot c s) { listeners = with_waiting k.guest (without_id id) s.listeners }) flow
    ∙ ap (λ (k : ℕ). record (with_connection e.slot c s) { listeners = with_waiting e.flow.guest (without_id k) s.listeners }) (sym is))

pub gone_closed_none : (id : ℕ) (s : DriverState) → gone_known_as id s ≡ None → gone_closed id s ≡ s
gone_closed_none id s none = rw (none, gone_closed) refl

pub next_is : (port : ℕ) (s : DriverState) → next_accepted port s ≡ find (is_answered s) (waiting_on port s)
next_is port s = by (listener_on port s.listeners)
  where
    by : (o : Option Listener) → elim o as (λ _. Option ℕ) [ None ↦ None | Some l ↦ find (is_answered s) l.waiting ]
        ≡ find (is_answered s) (option_map_or (λ (l : Listener). l.waiting) o [])
    by None = refl
    by (Some l) = refl

pub closed_next : (ids : List ℕ) (i d : ℕ) (s : DriverState) → i < length ids
    → all_closed (drop i ids) s ≡ all_closed (drop (i + 1) ids) (after_close (get_or ids i d) s)
closed_next ids i d s lt = rw (drop-cons ids i d lt) (ap (λ (n : ℕ). all_closed (drop n ids) (after_close (get_or ids i d) s)) (sym (add-one i)))

pub closed_ended : (ids : List ℕ) (i : ℕ) (s : DriverState) → length ids ≤ i → all_closed (drop i ids) s ≡ s
closed_ended ids i s ends = rw (drop_of_length-le ids ends) refl
