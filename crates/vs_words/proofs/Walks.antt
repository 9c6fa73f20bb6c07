-- A parse of a command whose options each take one value gives the options that its words give, or it has a fault.
use Rattle.std.proofs.Common.{◌≡◌, ◌∙◌, ◌&&◌, ◌⊎◌, inl, inr, Bool, true, false, not, cond, refl, sym, ap, subst, List, [], ◌∷◌, ◌++◌, map, fold, drop, Option, Some, None}
use Rattle.std.{proofs.{Common.{append-nil, append_assoc}, lemmas.Slice.Eq.bytes_eq-Decides}, specs.{Prelude.{if◌then◌else◌, option_map, option_and_then, is_some}, List.list_any}}
use Rattle.std.specs.Str.{IsUtf8, bytes_eq}
use Rattle.clap.specs.{Lexer.long_of, Walk.{Held, Row, Rule, Text, Waiting, Walk, finished, has_row, idle, nothing_held, option, settled, rows_after, settled_rows, used, walk}}
use Rattle.clap.specs.{Walk.{walk_from, walked, with_default}, Simple.{App, entered, matches_of, names_of}, Kinds.{Kinds, or_else}, Faults.{built_fault, check_fault}}
use Rattle.clap.specs.Faults.{defaults_fault, entered_fault, fault_of, level_fault, settle_fault, turn_fault, use_fault, walk_fault}
use Rattle.vs_words.{specs.{Options.{Given, given_by, have_names, is_empty, is_given, is_value, options_of}, Reading.app_with}, proofs.Rules.{built_is, built_rule, given_row}}
use Rattle.vs_words.proofs.{Rules.{is_known, rules, shape_with, use_again, use_new, used_new}, Steps.{Look, Plain, Dashes, Long, Short, dashes, look, chars_some, or_left}}
use Rattle.vs_words.proofs.Steps.{or_right, or_nil, or_assoc, held_at, walk_at, trailing_at, plain_idle, short_idle, short_waits, unknown_idle, unknown_waits, whole_fault}
use Rattle.vs_words.proofs.Steps.{whole_walked, name_fault, name_walked, long_waits, value_fault, value_walked, end_fault, end_walked, behind_end, settle_given, settled_given}
use Rattle.vs_words.proofs.Steps.{settle_name}

-- the words are texts
abbrev pub AreTexts : List Text → Type 0
AreTexts [] = Unit {0}
AreTexts (word ∷ words) = IsUtf8 word × AreTexts words

-- what waits between two words: nothing, an option that was given last, or the name of one
pub data Pending : Type 0 where
  Nothing : Pending
  Has : Given → Pending
  Waits : Text → Pending

abbrev pending_of : Pending → Option (Text × List Text)
pending_of Nothing = None
pending_of (Has g) = Some (g.name, g.value ∷ [])
pending_of (Waits name) = Some (name, [])

abbrev waiting_of : Pending → Waiting
waiting_of (Waits name) = option name
waiting_of _ = idle

abbrev name_of : Pending → Option Text
name_of (Waits name) = Some name
name_of _ = None

abbrev list_of : Pending → List Given
list_of (Has g) = g ∷ []
list_of _ = []

-- an answer and what a parse comes to
abbrev pub Meets : Option (List Given) → Kinds → List Row → Type 0
Meets (Some all) fault rows = (fault ≡ []) × (rows ≡ map given_row all)
Meets None fault rows = is_empty fault ≡ false

meets : (r r' : Option (List Given)) (f f' : Kinds) (rows rows' : List Row) → r' ≡ r → f' ≡ f → rows' ≡ rows → Meets r f rows
    → Meets r' f' rows'
meets r r' f f' rows rows' a b c h = rw (a, b, c) h

no_answer : (r : Option (List Given)) (f : Kinds) (rows : List Row) → r ≡ None → is_empty f ≡ false → Meets r f rows
no_answer r f rows none bad = rw none bad

and_false : (a : Bool) → (a && false) ≡ false
and_false true = refl
and_false false = refl

module _ (command : Text) (names : List Text) where
  abbrev IsFine : Pending → Type 0
  IsFine Nothing = Unit {0}
  IsFine (Has g) = is_known g.name names ≡ true
  IsFine (Waits name) = is_known name names ≡ true

  abbrev state : List Given → Pending → Walk
  state before p = walk_at command names before (pending_of p) (waiting_of p)

  -- what the options before and these come to
  abbrev taken : List Given → List Given → Option (List Given)
  taken before options = if have_names names before options then Some (before ++ options) else None

  abbrev answer : List Given → List Given → Option (List Given) → Option (List Given)
  answer before first more = option_and_then (λ options. taken before (first ++ options)) more

  have_both : (before xs ys : List Given) → have_names names before (xs ++ ys) ≡ (have_names names before xs && have_names names
      (before ++ xs) ys)
  have_both before [] ys = ap (λ (b : List Given). have_names names b ys) (sym (append-nil before))
  have_both before (x ∷ xs) ys = go (is_known x.name names) (is_given x.name before) (have_both (before ++ x ∷ []) xs ys)
    where
      go : (a b : Bool) → have_names names (before ++ x ∷ []) (xs ++ ys) ≡ (have_names names (before ++ x ∷ []) xs && have_names names
          ((before ++ x ∷ []) ++ xs) ys)
          → (a && (not b && have_names names (before ++ x ∷ []) (xs ++ ys)))
          ≡ ((a && (not b && have_names names (before ++ x ∷ []) xs)) && have_names names (before ++ x ∷ xs) ys)
      go false b e = refl
      go true true e = refl
      go true false e = e ∙ ap (λ (l : List Given). have_names names (before ++ x ∷ []) xs && have_names names l ys) (append_assoc before
          (x ∷ []) xs)

  -- options that have names go to those before
  resplit : (before xs : List Given) (more : Option (List Given)) → have_names names before xs ≡ true
      → answer before xs more ≡ answer (before ++ xs) [] more
  resplit before xs None h = refl
  resplit before xs (Some ys) h =
      rw (have_both before xs ys, h) (go (have_names names (before ++ xs) ys))
    where
      go : (b : Bool) → cond b (Some (before ++ (xs ++ ys))) None ≡ cond b (Some ((before ++ xs) ++ ys)) None
      go true = ap Some (sym (append_assoc before xs ys))
      go false = refl

  -- and those that haven't give no answer
  nothing : (before xs : List Given) (more : Option (List Given)) → have_names names before xs ≡ false → answer before xs more ≡ None
  nothing before xs None h = refl
  nothing before xs (Some ys) h = rw (have_both before xs ys, h) refl

  unknown : (before xs : List Given) (g : Given) (more : Option (List Given)) → is_known g.name names ≡ false
      → answer before xs (option_map (λ ys. g ∷ ys) more) ≡ None
  unknown before xs g None k = refl
  unknown before xs g (Some ys) k = rw (have_both before xs (g ∷ ys), k, and_false (have_names names before xs)) refl

  unknown_name : (before xs : List Given) (name : Text) (words : List Text) → is_known name names ≡ false
      → answer before xs (given_by (Some name) words) ≡ None
  unknown_name before xs name [] k = refl
  unknown_name before xs name (word ∷ words) k = go (is_value word) refl
    where
      go : (b : Bool) → is_value word ≡ b → answer before xs (given_by (Some name) (word ∷ words)) ≡ None
      go false e = rw e refl
      go true e = rw e (unknown before xs (record { name = name; value = word }) (given_by None words) k)

  one_more : (before xs : List Given) (g : Given) (more : Option (List Given))
      → answer before xs (option_map (λ ys. g ∷ ys) more) ≡ answer before (xs ++ g ∷ []) more
  one_more before xs g None = refl
  one_more before xs g (Some ys) = ap (taken before) (sym (append_assoc xs (g ∷ []) ys))

  -- ---- the end

  no_defaults : (rows : List Row) (ns : List Text) → defaults_fault rows (rules ns) ≡ []
  unfolding defaults_fault
  no_defaults rows [] = refl
  no_defaults rows (n ∷ ns) = go (list_any (λ (r : Row). bytes_eq r.id n) rows) refl (no_defaults rows ns)
    where
      go : (b : Bool) → list_any (λ (r : Row). bytes_eq r.id n) rows ≡ b → defaults_fault rows (rules ns) ≡ []
          → defaults_fault rows (rules (n ∷ ns)) ≡ []
      go true e rest = rw e rest
      go false e rest = rw e rest

  same_default : (rows : List Row) (n : Text) → with_default rows (built_rule n) ≡ rows
  same_default rows n = go (has_row n rows) refl
    where
      go : (b : Bool) → has_row n rows ≡ b → with_default rows (built_rule n) ≡ rows
      go true e = rw e refl
      go false e = rw e refl

  same_rows : (rows : List Row) (ns : List Text) → fold with_default rows (rules ns) ≡ rows
  same_rows rows [] = refl
  same_rows rows (n ∷ ns) = ap (λ (r : List Row). fold with_default r (rules ns)) (same_default rows n) ∙ same_rows rows ns

  none_required : (rows : List Row) (ns : List Text) → list_any (λ (a : Rule). a.required && not
      (Rattle.clap.specs.Takes.is_given a.id rows)) (rules ns) ≡ false
  none_required rows [] = refl
  none_required rows (n ∷ ns) = none_required rows ns

  no_check : (rows : List Row) → check_fault (shape_with command names) rows false ≡ []
  no_check rows = rw (none_required rows names) refl

  abbrev end_fault_of : Walk → Kinds
  end_fault_of w = or_else [] (or_else (settle_fault (rules names) false w.held)
      (or_else (defaults_fault (settled (rules names) w.held).rows (rules names)) (check_fault (shape_with command names) (finished
      (rules names) w.held) false)))

  abbrev fault_from : Walk → List Text → Kinds
  fault_from w words = or_else (walk_fault (shape_with command names) [] w words) (end_fault_of (fold (walked (rules names) []) w words))

  abbrev rows_from : Walk → List Text → List Row
  rows_from w words = finished (rules names) (fold (walked (rules names) []) w words).held

  end_is : (w : Walk) → end_fault_of w ≡ settle_fault (rules names) false w.held
  end_is w =
      rw (no_defaults (settled (rules names) w.held).rows names, no_check (finished (rules names) w.held)) (or_nil (settle_fault
      (rules names) false w.held))

  -- one word
  next_fault : (w : Walk) (word : Text) (words : List Text)
      → fault_from w (word ∷ words) ≡ or_else (turn_fault (shape_with command names) [] w word) (fault_from (walked
      (rules names) [] w word) words)
  unfolding walk_fault
  next_fault w word words =
      or_assoc (turn_fault (shape_with command names) [] w word) (walk_fault (shape_with command names) [] (walked
      (rules names) [] w word) words) _

  -- a word with a fault
  stops : (r : Option (List Given)) (w : Walk) (word : Text) (words : List Text) → r ≡ None
      → is_empty (turn_fault (shape_with command names) [] w word) ≡ false
      → Meets r (fault_from w (word ∷ words)) (rows_from w (word ∷ words))
  stops r w word words none bad =
      no_answer r (fault_from w (word ∷ words)) (rows_from w (word ∷ words)) none
      (ap is_empty (next_fault w word words) ∙ or_left (turn_fault (shape_with command names) [] w word) (fault_from (walked
      (rules names) [] w word) words) bad)

  -- a word without one
  goes_on : (r r' : Option (List Given)) (w w' : Walk) (word : Text) (words : List Text) → r ≡ r'
      → turn_fault (shape_with command names) [] w word ≡ []
      → walked (rules names) [] w word ≡ w' → Meets r' (fault_from w' words) (rows_from w' words)
      → Meets r (fault_from w (word ∷ words)) (rows_from w (word ∷ words))
  goes_on r r' w w' word words same good is h =
      meets r' r (fault_from w' words) (fault_from w (word ∷ words)) (rows_from w' words) (rows_from w (word ∷ words)) same
      (next_fault w word words ∙ ap (λ (k : Kinds). or_else k (fault_from (walked (rules names) [] w word) words)) good
      ∙ ap (λ (v : Walk). fault_from v words) is)
      (ap (λ (v : Walk). rows_from v words) is) h

  -- ---- settling what waits

  abbrev Settles : List Given → Option (Text × List Text) → List Given → Type 0
  Settles before pending xs =
      ((have_names names before xs ≡ true) × (settle_fault (rules names) false (held_at command names before pending) ≡ [])
      × (settled_rows (rules names) pending (map given_row before) ≡ map given_row (before ++ xs)))
      ⊎ ((have_names names before xs ≡ false) × (is_empty (settle_fault (rules names) false
      (held_at command names before pending)) ≡ false))

  settles_nothing : (before : List Given) → Settles before None []
  settles_nothing before = inl (refl, refl, ap (map given_row) (sym (append-nil before)))

  settles_given : (before : List Given) (g : Given) → is_known g.name names ≡ true → Settles before (Some (g.name, g.value ∷ [])) (g ∷ [])
  settles_given before g k = go (is_given g.name before) refl
    where
      go : (b : Bool) → is_given g.name before ≡ b → Settles before (Some (g.name, g.value ∷ [])) (g ∷ [])
      go false e =
          inl (
            rw (k, e) refl,
            settle_given command names before g k ∙ use_new g before e,
            settled_given command names before g k
                ∙ used_new g before e,
          )
      go true e = inr (rw (k, e) refl, ap is_empty (settle_given command names before g k ∙ use_again g before e))

  -- the words are at their end
  at_end : (before : List Given) (pending : Option (Text × List Text)) (xs : List Given) (w : Walk)
      → w.held ≡ held_at command names before pending
      → Settles before pending xs → Meets (answer before xs (Some [])) (end_fault_of w) (finished (rules names) w.held)
  at_end before pending xs w is (inl h) =
      meets (Some (before ++ xs)) (answer before xs (Some [])) [] (end_fault_of w) (map given_row (before ++ xs)) (finished
      (rules names) w.held)
      (ap (taken before) (append-nil xs) ∙ rw h.0 refl)
      (end_is w ∙ ap (settle_fault (rules names) false) is ∙ h.1)
      (ap (finished (rules names)) is ∙ same_rows (settled (rules names) (held_at command names before pending)).rows names ∙ h.2)
      (refl, refl)
  at_end before pending xs w is (inr h) =
      no_answer (answer before xs (Some [])) (end_fault_of w) (finished (rules names) w.held)
      (nothing before xs (Some []) h.0)
      (ap is_empty (end_is w ∙ ap (settle_fault (rules names) false) is) ∙ h.1)

  no_words : (before : List Given) (pending : Option (Text × List Text)) (xs : List Given) (w : Walk)
      → w.held ≡ held_at command names before pending
      → Settles before pending xs → Meets (answer before xs (Some [])) (fault_from w []) (rows_from w [])
  unfolding walk_fault
  no_words before pending xs w is h = at_end before pending xs w is h

  -- what the rest of the words comes to, from every state
  abbrev Rest : List Text → Type 0
  Rest words = (before : List Given) (p : Pending) → IsFine p
      → Meets (answer before (list_of p) (given_by (name_of p) words)) (fault_from (state before p) words) (rows_from
      (state before p) words)

  module _ (before : List Given) (pending : Option (Text × List Text)) (xs : List Given) (settled_is : Settles before pending xs) where
    abbrev now : Walk
    now = walk_at command names before pending idle

    abbrev now_held : Held
    now_held = held_at command names before pending

    abbrev rows_now : List Row
    rows_now = settled_rows (rules names) pending (map given_row before)

    dashes_idle : (words : List Text) → Meets (answer before xs (given_by None (dashes ∷ words))) (fault_from now (dashes ∷ words))
        (rows_from now (dashes ∷ words))
    dashes_idle [] =
        goes_on (answer before xs (Some [])) (answer before xs (Some [])) now (trailing_at command names before pending idle) dashes [] refl
        (end_fault command names before pending idle) (end_walked command names before pending idle)
        (no_words before pending xs (trailing_at command names before pending idle) refl settled_is)
    dashes_idle (word ∷ words) =
        goes_on None None now (trailing_at command names before pending idle) dashes (word ∷ words) refl
        (end_fault command names before pending idle) (end_walked command names before pending idle)
        (stops None (trailing_at command names before pending idle) word words refl (behind_end command names before pending idle word))

    -- `--NAME=VALUE` of an option of the command
    whole_idle : (word name value : Text) (words : List Text) → bytes_eq word dashes ≡ false → long_of word ≡ Some (name, Some value)
        → is_known name names ≡ true → Rest words → Settles before pending xs
        → Meets (answer before (xs ++ record { name = name; value = value } ∷ []) (given_by None words)) (fault_from now (word ∷ words))
        (rows_from now (word ∷ words))
    whole_idle word name value words d l k ih (inr h) =
        let g : Given = record { name = name; value = value } in
        stops (answer before (xs ++ g ∷ []) (given_by None words)) now word words
        (nothing before (xs ++ g ∷ []) (given_by None words) (have_both before xs (g ∷ []) ∙ rw h.0 refl))
        (ap is_empty (whole_fault command names before pending word name value d l k)
        ∙ or_left (or_else (settle_fault (rules names) false now_held) (use_fault false (built_rule name) (value ∷ []) rows_now)) []
        (or_left (settle_fault (rules names) false now_held) (use_fault false (built_rule name) (value ∷ []) rows_now) h.1))
    whole_idle word name value words d l k ih (inl h) = go (is_given name (before ++ xs)) refl
      where
        go : (b : Bool) → is_given name (before ++ xs) ≡ b
            → Meets (answer before (xs ++ record { name = name; value = value } ∷ []) (given_by None words)) (fault_from now
            (word ∷ words)) (rows_from now (word ∷ words))
        go true e =
            let g : Given = record { name = name; value = value } in
            stops (answer before (xs ++ g ∷ []) (given_by None words)) now word words
            (nothing before (xs ++ g ∷ []) (given_by None words) (have_both before xs (g ∷ []) ∙ rw (h.0, k, e) refl))
            (ap is_empty (whole_fault command names before pending word name value d l k)
            ∙ or_left (or_else (settle_fault (rules names) false now_held) (use_fault false (built_rule name) (value ∷ []) rows_now)) []
            (or_right (settle_fault (rules names) false now_held) (use_fault false (built_rule name) (value ∷ []) rows_now)
            (ap (λ (rs : List Row). is_empty (use_fault false (built_rule name) (value ∷ []) rs)) h.2
            ∙ ap is_empty (use_again g (before ++ xs) e))))
        go false e =
            let g : Given = record { name = name; value = value } in
            let all : List Given = before ++ (xs ++ g ∷ []) in
            let rows_are : used (built_rule name) (value ∷ []) rows_now ≡ map given_row all =
            ap (used (built_rule name) (value ∷ [])) h.2 ∙ used_new g (before ++ xs) e
            ∙ ap (map given_row) (append_assoc before xs (g ∷ [])) in
            goes_on (answer before (xs ++ g ∷ []) (given_by None words)) (answer all [] (given_by None words)) now
            (state all Nothing) word words
            (resplit before (xs ++ g ∷ []) (given_by None words) (have_both before xs (g ∷ []) ∙ rw (h.0, k, e) refl))
            (whole_fault command names before pending word name value d l k
            ∙ or_nil (or_else (settle_fault (rules names) false now_held) (use_fault false (built_rule name) (value ∷ []) rows_now))
            ∙ ap (λ (f : Kinds). or_else f (use_fault false (built_rule name) (value ∷ []) rows_now)) h.1
            ∙ ap (use_fault false (built_rule name) (value ∷ [])) h.2 ∙ use_new g (before ++ xs) e)
            (whole_walked command names before pending word name value d l k
            ∙ ap (λ (rs : List Row). record now { held = record { rows = rs; pending = None; skip = 0 } }) rows_are)
            (ih all Nothing tt)

    -- `--NAME` of an option of the command
    name_idle : (word name : Text) (words : List Text) → bytes_eq word dashes ≡ false → long_of word ≡ Some (name, None)
        → is_known name names ≡ true → Rest words → Settles before pending xs
        → Meets (answer before xs (given_by (Some name) words)) (fault_from now (word ∷ words)) (rows_from now (word ∷ words))
    name_idle word name words d l k ih (inr h) =
        stops (answer before xs (given_by (Some name) words)) now word words (nothing before xs (given_by (Some name) words) h.0)
        (ap is_empty (name_fault command names before pending word name d l k) ∙ or_left (settle_fault (rules names) false now_held) [] h.1)
    name_idle word name words d l k ih (inl h) =
        goes_on (answer before xs (given_by (Some name) words)) (answer (before ++ xs) [] (given_by (Some name) words)) now (state
        (before ++ xs) (Waits name)) word words
        (resplit before xs (given_by (Some name) words) h.0)
        (name_fault command names before pending word name d l k ∙ or_nil (settle_fault (rules names) false now_held) ∙ h.1)
        (name_walked command names before pending word name d l k
        ∙ ap (λ (rs : List Row). record (walk_at command names before pending (option name)) {
          held = record {
            rows = rs;
            pending = Some
                (name, []);
            skip = 0;
          };
        }) h.2)
        (ih (before ++ xs) (Waits name) k)

    from_idle : (word : Text) (words : List Text) → IsUtf8 word → Rest words → Look word
        → Meets (answer before xs (given_by None (word ∷ words))) (fault_from now (word ∷ words)) (rows_from now (word ∷ words))
    from_idle word words text ih (Plain v d l h) =
        stops (answer before xs (given_by None (word ∷ words))) now word words (rw l (rw d refl))
        (plain_idle command names before pending word d l h)
    from_idle word words text ih (Dashes e) =
        subst (λ (w : Text). Meets (answer before xs (given_by None (w ∷ words))) (fault_from now (w ∷ words)) (rows_from now
        (w ∷ words))) (sym e) (dashes_idle words)
    from_idle word words text ih (Short x ys e v d l h) =
        let first = chars_some x ys (subst IsUtf8 e text) in
        stops (answer before xs (given_by None (word ∷ words))) now word words (rw l (rw d refl))
        (short_idle command names before pending word x ys first.0 d l h first.1)
    from_idle word words text ih (Long name (Some value) v d l) = go (is_known name names) refl
      where
        go : (b : Bool) → is_known name names ≡ b
            → Meets (answer before xs (given_by None (word ∷ words))) (fault_from now (word ∷ words)) (rows_from now (word ∷ words))
        go false k =
            stops (answer before xs (given_by None (word ∷ words))) now word words
            (rw l (unknown before xs (record { name = name; value = value }) (given_by None words) k))
            (unknown_idle command names before pending word name (Some value) d l k)
        go true k =
            let g : Given = record { name = name; value = value } in
            meets (answer before (xs ++ g ∷ []) (given_by None words)) (answer before xs (given_by None (word ∷ words)))
            (fault_from now (word ∷ words)) (fault_from now (word ∷ words)) (rows_from now (word ∷ words)) (rows_from now (word ∷ words))
            (rw l (one_more before xs g (given_by None words))) refl refl (whole_idle word name value words d l k ih settled_is)
    from_idle word words text ih (Long name None v d l) = go (is_known name names) refl
      where
        go : (b : Bool) → is_known name names ≡ b
            → Meets (answer before xs (given_by None (word ∷ words))) (fault_from now (word ∷ words)) (rows_from now (word ∷ words))
        go false k =
            stops (answer before xs (given_by None (word ∷ words))) now word words
            (rw l (unknown_name before xs name words k)) (unknown_idle command names before pending word name None d l k)
        go true k =
            meets (answer before xs (given_by (Some name) words)) (answer before xs (given_by None (word ∷ words)))
            (fault_from now (word ∷ words)) (fault_from now (word ∷ words)) (rows_from now (word ∷ words)) (rows_from now (word ∷ words))
            (rw l refl) refl refl (name_idle word name words d l k ih settled_is)

  module _ (before : List Given) (name : Text) (known : is_known name names ≡ true) where
    abbrev then_now : Walk
    then_now = state before (Waits name)

    abbrev then_trailing : Walk
    then_trailing = trailing_at command names before (Some (name, [])) (option name)

    abbrev waiting_answer : List Text → Option (List Given)
    waiting_answer words = answer before [] (given_by (Some name) words)

    dashes_waits : (words : List Text) → Meets None (fault_from then_now (dashes ∷ words)) (rows_from then_now (dashes ∷ words))
    unfolding walk_fault
    dashes_waits [] =
        goes_on None None then_now then_trailing dashes [] refl
        (end_fault command names before (Some (name, [])) (option name)) (end_walked command names before (Some (name, [])) (option name))
        (ap is_empty (end_is then_trailing) ∙ settle_name command names before name known)
    dashes_waits (word ∷ words) =
        goes_on None None then_now then_trailing dashes (word ∷ words) refl
        (end_fault command names before (Some (name, [])) (option name)) (end_walked command names before (Some (name, [])) (option name))
        (stops None then_trailing word words refl (behind_end command names before (Some (name, [])) (option name) word))

    from_waits : (word : Text) (words : List Text) → IsUtf8 word → Rest words → Look word
        → Meets (waiting_answer (word ∷ words)) (fault_from then_now (word ∷ words)) (rows_from then_now (word ∷ words))
    from_waits word words text ih (Plain v d l h) =
        let g : Given = record { name = name; value = word } in
        goes_on (waiting_answer (word ∷ words)) (answer before (g ∷ []) (given_by None words)) then_now (state before (Has g)) word words
        (rw v (one_more before [] g (given_by None words)))
        (value_fault command names before (Some (name, [])) name word d l h)
        (value_walked command names before name word d l h known ((bytes_eq-Decides name name).1 refl))
        (ih before (Has g) known)
    from_waits word words text ih (Dashes e) =
        subst (λ (w : Text). Meets (waiting_answer (w ∷ words)) (fault_from then_now (w ∷ words)) (rows_from then_now (w ∷ words)))
        (sym e) (dashes_waits words)
    from_waits word words text ih (Short x ys e v d l h) =
        let first = chars_some x ys (subst IsUtf8 e text) in
        stops (waiting_answer (word ∷ words)) then_now word words (rw v refl)
        (short_waits command names before (Some (name, [])) name word x ys first.0 d l h first.1)
    from_waits word words text ih (Long other value v d l) = go (is_known other names) refl
      where
        go : (b : Bool) → is_known other names ≡ b → Meets (waiting_answer (word ∷ words)) (fault_from then_now (word ∷ words))
            (rows_from then_now (word ∷ words))
        go false k =
            stops (waiting_answer (word ∷ words)) then_now word words (rw v refl)
            (unknown_waits command names before (Some (name, [])) name word other value d l k)
        go true k =
            stops (waiting_answer (word ∷ words)) then_now word words (rw v refl)
            (long_waits command names before (Some (name, [])) name word other value d l k (settle_name command names before name known))

    waits_on : Meets (waiting_answer []) (fault_from then_now []) (rows_from then_now [])
    unfolding walk_fault
    waits_on = ap is_empty (end_is then_now) ∙ settle_name command names before name known

  -- the claim, word by word
  parses : (words : List Text) → AreTexts words → Rest words
  parses [] texts before Nothing fine = no_words before None [] (state before Nothing) refl (settles_nothing before)
  parses [] texts before (Has g) fine = no_words before (Some (g.name, g.value ∷ [])) (g ∷ []) (state before (Has g)) refl
      (settles_given before g fine)
  parses [] texts before (Waits name) fine = waits_on before name fine
  parses (word ∷ words) texts before Nothing fine =
      from_idle before None [] (settles_nothing before) word words texts.0 (parses words texts.1) (look word)
  parses (word ∷ words) texts before (Has g) fine =
      from_idle before (Some (g.name, g.value ∷ [])) (g ∷ []) (settles_given before g fine) word words texts.0 (parses words texts.1)
      (look word)
  parses (word ∷ words) texts before (Waits name) fine = from_waits before name fine word words texts.0 (parses words texts.1) (look word)

  -- ---- the command

  abbrev built_app : App
  built_app = record { top = shape_with command names; subs = [] }

  no_stop : (stop : Option (Text × List Text)) → (is_some (entered built_app stop) ≡ false) × (entered_fault built_app stop ≡ [])
  no_stop None = (refl, refl)
  no_stop (Some p) = (refl, refl)

  fault_is : (words : List Text) → fault_of (app_with command names) words ≡ fault_from (walk_from nothing_held) (drop 1 words)
  fault_is words =
      let stop = (walk (rules names) [] nothing_held (drop 1 words)).stopped in
      ap (λ (a : App). built_fault a nothing_held (drop 1 words)) (built_is command names)
      ∙ ap (λ (b : Bool). level_fault (shape_with command names) [] nothing_held (drop 1 words) b (entered_fault built_app stop))
      (no_stop stop).0
      ∙ ap (level_fault (shape_with command names) [] nothing_held (drop 1 words) false) (no_stop stop).1

  matches_are : (words : List Text) → matches_of (app_with command names) words ≡ rows_from (walk_from nothing_held) (drop 1 words)
  matches_are words = ap (λ (a : App). rows_after a.top.rules (names_of a) (drop 1 words)) (built_is command names)

  -- a parse has no fault and these matches where words give options, and a fault where they don't
  abbrev pub Parses : List Text → Option (List Given) → Type 0
  Parses words r = Meets r (fault_of (app_with command names) words) (matches_of (app_with command names) words)

  same_answer : (more : Option (List Given)) → option_and_then
      (λ options. if have_names names [] options then Some options else None) more ≡ answer [] [] more
  same_answer None = refl
  same_answer (Some ys) = refl

  pub parsed : (words : List Text) → AreTexts (drop 1 words) → Parses words (options_of names (drop 1 words))
  parsed words texts =
      meets (answer [] [] (given_by None (drop 1 words))) (options_of names (drop 1 words))
      (fault_from (walk_from nothing_held) (drop 1 words)) (fault_of (app_with command names) words)
      (rows_from (walk_from nothing_held) (drop 1 words)) (matches_of (app_with command names) words)
      (same_answer (given_by None (drop 1 words))) (fault_is words) (matches_are words) (parses (drop 1 words) texts [] Nothing tt)
