-- What one word does to a parse of a command whose options each take one value.
use Rattle.std.proofs.{Common.{◌≡◌, ◌∙◌, ◌==◌, ℕ, Bool, true, false, refl, sym, ap, arith, List, [], ◌∷◌, ◌++◌, map, length, Option, Some, None}, lemmas.Str.chars_past_char}
use Rattle.std.{proofs.{lemmas.{Str.encodes-chars, Bool.Decides.Decides-eqb}, Math.Utf8.{encode, encodes}}, specs.{Prelude.slice_get, Str.{IsUtf8, bytes_eq, chars}}}
use Rattle.clap.specs.{Lexer.{long_of, name_and_value, short_of}, Walk.{Held, Text, Waiting, Walk, idle, option, settled_rows, used, walked}, Simple.Shape, Kinds.{Kinds, or_else}}
use Rattle.clap.specs.Faults.{flags_fault, settle_fault, turn_fault, use_fault, word_fault}
use Rattle.vs_words.{specs.Options.{Given, is_empty, is_value}, proofs.Rules.{built_rule, by_id, by_long, given_row, is_known, no_index, no_short, rules, shape_with}}

abbrev pub dashes : Text
dashes = 45 ∷ 45 ∷ []

-- what a word looks like
pub data Look (word : Text) : Type 0 where
  Plain : is_value word ≡ true → bytes_eq word dashes ≡ false → long_of word ≡ None → short_of word ≡ None → Look word
  Dashes : word ≡ dashes → Look word
  Long : (name : Text) → (value : Option Text) → is_value word ≡ false → bytes_eq word dashes ≡ false
      → long_of word ≡ Some (name, value) → Look word
  Short : (x : ℕ) → (xs : Text) → word ≡ 45 ∷ x ∷ xs → is_value word ≡ false → bytes_eq word dashes ≡ false → long_of word ≡ None
      → short_of word ≡ Some (x ∷ xs) → Look word

one_byte : (b : ℕ) (first : Bool) → (b == 45) ≡ first → Look (b ∷ [])
one_byte b true e = Plain refl (rw e refl) (rw e refl) (rw e refl)
one_byte b false e = Plain refl (rw e refl) (rw e refl) (rw e refl)

more_bytes : (b c : ℕ) (rest : Text) (first second : Bool) → (b == 45) ≡ first → (c == 45) ≡ second → Look (b ∷ c ∷ rest)
more_bytes b c rest false second e f = Plain (rw e refl) (rw e refl) (rw e refl) (rw e refl)
more_bytes b c rest true false e f =
    Short c rest (ap (λ (x : ℕ). x ∷ c ∷ rest) ((Decides-eqb b 45).0 e)) (rw e refl) (rw (e, f) refl) (rw e (rw f refl)) (rw e (rw f refl))
more_bytes b c [] true true e f =
    Dashes (ap (λ (x : ℕ). x ∷ c ∷ []) ((Decides-eqb b 45).0 e) ∙ ap (λ (x : ℕ). 45 ∷ x ∷ []) ((Decides-eqb c 45).0 f))
more_bytes b c (d ∷ ds) true true e f =
    Long (name_and_value (d ∷ ds)).0 (name_and_value (d ∷ ds)).1 (rw e refl) (rw e (rw f refl)) (rw e (rw f refl))

pub look : (word : Text) → Look word
look [] = Plain refl refl refl refl
look (b ∷ []) = one_byte b (b == 45) refl
look (b ∷ c ∷ rest) = more_bytes b c rest (b == 45) (c == 45) refl refl

hyphen : (rest : Text) → 45 ∷ rest ≡ encode 45 ++ rest
unfolding encode
hyphen rest = refl

alone : encodes (45 ∷ []) ≡ 45 ∷ []
unfolding encode
alone = refl

-- a text behind a hyphen has a first character
pub chars_some : (x : ℕ) (xs : Text) → IsUtf8 (45 ∷ x ∷ xs) → (c : ℕ) × (slice_get (chars (x ∷ xs)) 0 ≡ Some c)
chars_some x xs text = go (chars (x ∷ xs)) refl
  where
    go : (cs : List ℕ) → chars (x ∷ xs) ≡ cs → (c : ℕ) × (slice_get (chars (x ∷ xs)) 0 ≡ Some c)
    go (c ∷ cs) e = (c, ap (λ (l : List ℕ). slice_get l 0) e)
    go [] e =
        let whole : chars (45 ∷ x ∷ xs) ≡ 45 ∷ [] = chars_past_char (45 ∷ x ∷ xs) (x ∷ xs) 45 text (hyphen (x ∷ xs))
        ∙ ap (λ (l : List ℕ). 45 ∷ l) e in
        let same : 45 ∷ [] ≡ 45 ∷ x ∷ xs = sym alone ∙ ap encodes (sym whole) ∙ encodes-chars (45 ∷ x ∷ xs) text in
        absurd (omega (arith, ap length same))

pub or_left : (a b : Kinds) → is_empty a ≡ false → is_empty (or_else a b) ≡ false
or_left [] b e = cc
or_left (k ∷ ks) b e = refl

pub or_right : (a b : Kinds) → is_empty b ≡ false → is_empty (or_else a b) ≡ false
or_right [] b e = e
or_right (k ∷ ks) b e = refl

pub or_nil : (a : Kinds) → or_else a [] ≡ a
or_nil [] = refl
or_nil (k ∷ ks) = refl

pub or_assoc : (a b c : Kinds) → or_else (or_else a b) c ≡ or_else a (or_else b c)
or_assoc [] b c = refl
or_assoc (k ∷ ks) b c = refl

module _ (command : Text) (names : List Text) where
  abbrev pub shape : Shape
  shape = shape_with command names

  -- a parse between two words
  abbrev pub held_at : List Given → Option (Text × List Text) → Held
  held_at before pending = record { rows = map given_row before; pending = pending; skip = 0 }

  abbrev pub walk_at : List Given → Option (Text × List Text) → Waiting → Walk
  walk_at before pending waiting = record {
    held = held_at before pending;
    waiting = waiting;
    position = 1;
    is_trailing = false;
    stopped = None;
  }

  abbrev pub trailing_at : List Given → Option (Text × List Text) → Waiting → Walk
  trailing_at before pending waiting = record (walk_at before pending waiting) { is_trailing = true }

  module _ (before : List Given) (pending : Option (Text × List Text)) where
    pub plain_idle : (word : Text) → bytes_eq word dashes ≡ false → long_of word ≡ None → short_of word ≡ None
        → is_empty (turn_fault shape [] (walk_at before pending idle) word) ≡ false
    plain_idle word d l h = rw (d, l, h, no_index 1 names) refl

    short_word : (waits : Waiting) (word : Text) (x : ℕ) (xs : Text) (c : ℕ) → bytes_eq word dashes ≡ false → long_of word ≡ None
        → short_of word ≡ Some (x ∷ xs) → slice_get (chars (x ∷ xs)) 0 ≡ Some c
        → is_empty (flags_fault (rules names) false (length (x ∷ xs)) (x ∷ xs) 0 (held_at before pending)) ≡ false
    unfolding flags_fault
    short_word waits word x xs c d l h first = rw (first, no_short c names) refl

    pub short_idle : (word : Text) (x : ℕ) (xs : Text) (c : ℕ) → bytes_eq word dashes ≡ false → long_of word ≡ None
        → short_of word ≡ Some (x ∷ xs) → slice_get (chars (x ∷ xs)) 0 ≡ Some c
        → is_empty (turn_fault shape [] (walk_at before pending idle) word) ≡ false
    short_idle word x xs c d l h first =
        or_left (word_fault shape [] false idle word (held_at before pending)) _ (rw (d, l, h) (short_word idle word x xs c d l h first))

    pub short_waits : (name word : Text) (x : ℕ) (xs : Text) (c : ℕ) → bytes_eq word dashes ≡ false → long_of word ≡ None
        → short_of word ≡ Some (x ∷ xs) → slice_get (chars (x ∷ xs)) 0 ≡ Some c
        → is_empty (turn_fault shape [] (walk_at before pending (option name)) word) ≡ false
    short_waits name word x xs c d l h first =
        or_left (word_fault shape [] false (option name) word (held_at before pending)) _ (rw (d, l, h)
        (short_word idle word x xs c d l h first))

    -- an option that the command hasn't
    pub unknown_idle : (word name : Text) (value : Option Text) → bytes_eq word dashes ≡ false → long_of word ≡ Some (name, value)
        → is_known name names ≡ false → is_empty (turn_fault shape [] (walk_at before pending idle) word) ≡ false
    unknown_idle word name value d l k = or_left (word_fault shape [] false idle word (held_at before pending)) _ (rw
        (d, l, by_long name names, k) refl)

    pub unknown_waits : (id word name : Text) (value : Option Text) → bytes_eq word dashes ≡ false → long_of word ≡ Some (name, value)
        → is_known name names ≡ false → is_empty (turn_fault shape [] (walk_at before pending (option id)) word) ≡ false
    unknown_waits id word name value d l k =
        or_left (word_fault shape [] false (option id) word (held_at before pending)) _ (rw (d, l, by_long name names, k) refl)

    -- `--NAME=VALUE`
    pub whole_fault : (word name value : Text) → bytes_eq word dashes ≡ false → long_of word ≡ Some (name, Some value)
        → is_known name names ≡ true
        → turn_fault shape [] (walk_at before pending idle) word
        ≡ or_else (or_else (settle_fault (rules names) false (held_at before pending))
        (use_fault false (built_rule name) (value ∷ []) (settled_rows (rules names) pending (map given_row before)))) []
    whole_fault word name value d l k = rw (d, l, by_long name names, k) refl

    pub whole_walked : (word name value : Text) → bytes_eq word dashes ≡ false → long_of word ≡ Some (name, Some value)
        → is_known name names ≡ true
        → ◌≡◌ {A = Walk} (walked (rules names) [] (walk_at before pending idle) word) (record (walk_at before pending idle) {
          held = record {
            rows = used (built_rule name) (value ∷ []) (settled_rows (rules names) pending (map given_row before));
            pending = None;
            skip = 0;
          };
        })
    unfolding walked
    whole_walked word name value d l k = rw (d, l, by_long name names, k) refl

    -- `--NAME`
    pub name_fault : (word name : Text) → bytes_eq word dashes ≡ false → long_of word ≡ Some (name, None) → is_known name names ≡ true
        → turn_fault shape [] (walk_at before pending idle) word ≡ or_else (settle_fault (rules names) false (held_at before pending)) []
    name_fault word name d l k = rw (d, l, by_long name names, k) refl

    pub name_walked : (word name : Text) → bytes_eq word dashes ≡ false → long_of word ≡ Some (name, None) → is_known name names ≡ true
        → ◌≡◌ {A = Walk} (walked (rules names) [] (walk_at before pending idle) word) (record (walk_at before pending (option name)) {
          held = record {
            rows = settled_rows (rules names) pending (map given_row before);
            pending = Some (name, []);
            skip = 0;
          };
        })
    unfolding walked
    name_walked word name d l k = rw (d, l, by_long name names, k) refl

    -- an option of the command where another waits for its value
    pub long_waits : (id word name : Text) (value : Option Text) → bytes_eq word dashes ≡ false → long_of word ≡ Some (name, value)
        → is_known name names ≡ true → is_empty (settle_fault (rules names) false (held_at before pending)) ≡ false
        → is_empty (turn_fault shape [] (walk_at before pending (option id)) word) ≡ false
    long_waits id word name None d l k bad =
        or_left (word_fault shape [] false (option id) word (held_at before pending)) _ (rw (d, l, by_long name names, k) bad)
    long_waits id word name (Some value) d l k bad =
        or_left (word_fault shape [] false (option id) word (held_at before pending)) _ (rw (d, l, by_long name names, k) (or_left _ _ bad))

    -- a value
    pub value_fault : (id word : Text) → bytes_eq word dashes ≡ false → long_of word ≡ None → short_of word ≡ None
        → turn_fault shape [] (walk_at before pending (option id)) word ≡ []
    value_fault id word d l h = rw (d, l, h) refl

    -- `--`
    pub end_fault : (waits : Waiting) → turn_fault shape [] (walk_at before pending waits) dashes ≡ []
    end_fault idle = refl
    end_fault (option id) = refl
    end_fault Rattle.clap.specs.Walk.positional = refl

    pub end_walked : (waits : Waiting) → ◌≡◌ {A = Walk} (walked (rules names) [] (walk_at before pending waits) dashes)
        (trailing_at before pending waits)
    unfolding walked
    end_walked idle = refl
    end_walked (option id) = refl
    end_walked Rattle.clap.specs.Walk.positional = refl

    -- a word behind it
    pub behind_end : (waits : Waiting) (word : Text) → is_empty (turn_fault shape [] (trailing_at before pending waits) word) ≡ false
    behind_end waits word = rw (no_index 1 names) refl

  pub value_walked : (before : List Given) (id word : Text) → bytes_eq word dashes ≡ false → long_of word ≡ None → short_of word ≡ None
      → is_known id names ≡ true → bytes_eq id id ≡ true
      → ◌≡◌ {A = Walk} (walked (rules names) [] (walk_at before (Some (id, [])) (option id)) word) (walk_at before (Some
      (id, word ∷ [])) idle)
  unfolding walked
  value_walked before id word d l h k same = rw (d, l, h, by_id id names, k, same) refl

  -- settling what waits
  pub settle_given : (before : List Given) (g : Given) → is_known g.name names ≡ true
      → settle_fault (rules names) false (held_at before (Some (g.name, g.value ∷ []))) ≡ use_fault false (built_rule g.name)
      (g.value ∷ []) (map given_row before)
  settle_given before g k = rw (by_id g.name names, k) refl

  pub settled_given : (before : List Given) (g : Given) → is_known g.name names ≡ true
      → settled_rows (rules names) (Some (g.name, g.value ∷ [])) (map given_row before) ≡ used (built_rule g.name) (g.value ∷ [])
      (map given_row before)
  settled_given before g k = rw (by_id g.name names, k) refl

  pub settle_name : (before : List Given) (name : Text) → is_known name names ≡ true
      → is_empty (settle_fault (rules names) false (held_at before (Some (name, [])))) ≡ false
  settle_name before name k = rw (by_id name names, k) refl
