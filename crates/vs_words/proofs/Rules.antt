-- What a parse reads of a command whose options each take one value, and what it finds of them.
use Rattle.std.proofs.{Common.{◌≡◌, ◌∙◌, ◌||◌, ℕ, Bool, true, false, cond, refl, sym, ap, List, [], ◌∷◌, ◌++◌, map, Some, None}, lemmas.List.map-append}
use Rattle.std.{proofs.lemmas.Slice.Eq.bytes_eq-Decides, specs.{List.list_any, Str.bytes_eq}}
use Rattle.clap.specs.{Walk.{Row, Rule, Text, arg_by_id, arg_by_index, arg_by_long, arg_by_short, has_row, reading_by, used, with_values, without}, Simple.{App, Shape, built}}
use Rattle.clap.specs.{Simple.{filled, filled_from, with_rule, new_shape}, Faults.use_fault, declared.parser.matches.ValueSource.TheVariants.CommandLine}
use Rattle.vs_words.specs.{Options.{Given, is_given}, Reading.{app_with, option_rule}}
use Rattle.clap.specs.declared.error.kind.ErrorKind.TheVariants as kind

-- an option as a parse reads it
abbrev pub built_rule : Text → Rule
built_rule name = filled (option_rule name)

abbrev pub rules : List Text → List Rule
rules names = map built_rule names

pub filled_names : (i : ℕ) (names : List Text) → filled_from i (map option_rule names) ≡ rules names
filled_names i [] = refl
filled_names i (n ∷ ns) = ap (λ rs. built_rule n ∷ rs) (filled_names i ns)

-- a command with one option more
pub one_option : (command : Text) (names names' : List Text) (name : Text) (a b : App) → names' ≡ names ++ name ∷ []
    → a ≡ app_with command names → b ≡ with_rule a (option_rule name) → b ≡ app_with command names'
one_option command names names' name a b more is added =
    added ∙ ap (λ (x : App). with_rule x (option_rule name)) is
    ∙ ap (λ (rs : List Rule). record { top = record (new_shape command) { rules = rs; disable_help_flag = true }; subs = [] })
    (sym (map-append option_rule names (name ∷ [])))
    ∙ ap (app_with command) (sym more)

-- the shape of the command once it is built
abbrev pub shape_with : Text → List Text → Shape
shape_with command names = record (new_shape command) {
  rules = rules names;
  disable_help_flag = true;
  disable_help_subcommand = true;
  is_built = true;
}

pub built_is : (command : Text) (names : List Text) → built (app_with command names) ≡ record { top = shape_with command names; subs = [] }
built_is command names = ap (λ (rs : List Rule). record {
  top = record (new_shape command) {
    rules = rs;
    disable_help_flag = true;
    disable_help_subcommand = true;
    is_built = true;
  };
  subs = [];
}) (filled_names 1 names)

-- whether a name is one of them
abbrev pub is_known : Text → List Text → Bool
is_known name names = list_any (λ n. bytes_eq n name) names

-- the option of a name, and no flag or positional
pub by_long : (name : Text) (names : List Text) → arg_by_long (rules names) name ≡ cond (is_known name names) (Some (built_rule name)) None
by_long name [] = refl
by_long name (n ∷ ns) = go (bytes_eq n name) refl (by_long name ns)
  where
    go : (b : Bool) → bytes_eq n name ≡ b → arg_by_long (rules ns) name ≡ cond (is_known name ns) (Some (built_rule name)) None
        → arg_by_long (rules (n ∷ ns)) name ≡ cond (is_known name (n ∷ ns)) (Some (built_rule name)) None
    go true e rest = rw e (ap (λ m. Some (built_rule m)) ((bytes_eq-Decides n name).0 e))
    go false e rest = rw e rest

pub by_id : (name : Text) (names : List Text) → arg_by_id (rules names) name ≡ cond (is_known name names) (Some (built_rule name)) None
by_id name [] = refl
by_id name (n ∷ ns) = go (bytes_eq n name) refl (by_id name ns)
  where
    go : (b : Bool) → bytes_eq n name ≡ b → arg_by_id (rules ns) name ≡ cond (is_known name ns) (Some (built_rule name)) None
        → arg_by_id (rules (n ∷ ns)) name ≡ cond (is_known name (n ∷ ns)) (Some (built_rule name)) None
    go true e rest = rw e (ap (λ m. Some (built_rule m)) ((bytes_eq-Decides n name).0 e))
    go false e rest = rw e rest

pub no_short : (x : ℕ) (names : List Text) → arg_by_short (rules names) x ≡ None
no_short x [] = refl
no_short x (n ∷ ns) = no_short x ns

pub no_index : (i : ℕ) (names : List Text) → arg_by_index (rules names) i ≡ None
no_index i [] = refl
no_index i (n ∷ ns) = no_index i ns

-- the row of an option that was given
abbrev pub given_row : Given → Row
given_row g = record {
  id = g.name;
  values = g.value ∷ [];
  count = None;
  source = Some CommandLine;
  reading = reading_by (built_rule g.name);
}

pub has_given : (name : Text) (before : List Given) → has_row name (map given_row before) ≡ is_given name before
has_given name [] = refl
has_given name (g ∷ gs) = ap (λ b. bytes_eq g.name name || b) (has_given name gs)

or_false : (a b : Bool) → (a || b) ≡ false → (a ≡ false) × (b ≡ false)
or_false true b e = cc
or_false false b e = (refl, e)

without_new : (name : Text) (before : List Given) → is_given name before ≡ false
    → without name (map given_row before) ≡ map given_row before
without_new name [] new = refl
without_new name (g ∷ gs) new =
    let parts = or_false (bytes_eq g.name name) (is_given name gs) new in
    rw parts.0 (ap (λ rs. given_row g ∷ rs) (without_new name gs parts.1))

with_new : (g : Given) (before : List Given) → is_given g.name before ≡ false
    → with_values g.name (reading_by (built_rule g.name)) CommandLine (g.value ∷ []) (map given_row before) ≡ map given_row
    (before ++ g ∷ [])
with_new g [] new = refl
with_new g (b ∷ bs) new =
    let parts = or_false (bytes_eq b.name g.name) (is_given g.name bs) new in
    rw parts.0 (ap (λ rs. given_row b ∷ rs) (with_new g bs parts.1))

-- an option that wasn't given so far is used
pub used_new : (g : Given) (before : List Given) → is_given g.name before ≡ false
    → used (built_rule g.name) (g.value ∷ []) (map given_row before) ≡ map given_row (before ++ g ∷ [])
used_new g before new =
    ap (with_values g.name (reading_by (built_rule g.name)) CommandLine (g.value ∷ [])) (without_new g.name before new)
    ∙ with_new g before new

-- and has no fault; one that was given has
pub use_new : (g : Given) (before : List Given) → is_given g.name before ≡ false
    → use_fault false (built_rule g.name) (g.value ∷ []) (map given_row before) ≡ []
use_new g before new =
    let fresh : has_row g.name (map given_row before) ≡ false = has_given g.name before ∙ new in
    rw fresh refl

pub use_again : (g : Given) (before : List Given) → is_given g.name before ≡ true
    → use_fault false (built_rule g.name) (g.value ∷ []) (map given_row before) ≡ kind.ArgumentConflict ∷ []
use_again g before given =
    let old : has_row g.name (map given_row before) ≡ true = has_given g.name before ∙ given in
    rw old refl
