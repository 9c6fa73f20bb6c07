-- The options that words give.
use Rattle.std.specs.Prelude.{◌==◌, ◌&&◌, Bool, true, false, not, if◌then◌else◌, ℕ, List, [], ◌∷◌, ◌++◌, codes, bytes_eq, find, Option}
use Rattle.std.specs.{Prelude.Some, Prelude.None, Prelude.option_map, Prelude.option_and_then, List.list_any}
use Rattle.clap.specs.Lexer.{long_of}

-- An option: its name, without the hyphens, and its value.
pub record Given : Type 0 where
  pub name : List ℕ
  pub value : List ℕ

-- Whether a word stands for a value: it doesn't begin with `-` (45), or is just that.
abbrev pub is_value : List ℕ → Bool
is_value [] = true
is_value (byte ∷ []) = true
is_value (byte ∷ bytes) = not (byte == 45)

-- What a word is: an option whole, `--NAME=VALUE`, or its value behind `--NAME`; the name of an option, `--NAME`; the end of them, `--`;
-- or none of these.
pub data Word : Type 0 where
  Whole : Given → Word
  Name : List ℕ → Word
  End : Word
  Stray : Word

abbrev pub flag_of : List ℕ → Option (List ℕ × Option (List ℕ)) → Word
flag_of word (Some (name, Some value)) = Whole (record { name = name; value = value })
flag_of word (Some (name, None)) = Name name
flag_of word None = if bytes_eq word (codes "--") then End else Stray

-- A word, where the name of an option may wait for its value.
abbrev pub word_of : Option (List ℕ) → List ℕ → Word
word_of None word = flag_of word (long_of word)
word_of (Some name) word = if is_value word then Whole (record { name = name; value = word }) else Stray

abbrev pub is_empty : {X : Type 0} → List X → Bool
is_empty [] = true
is_empty (x ∷ xs) = false

-- What follows on a word.
abbrev pub behind : Word → List (List ℕ) → (Option (List ℕ) → Option (List Given)) → Option (List Given)
behind (Whole given) words next = option_map (λ more. given ∷ more) (next None)
behind (Name name) words next = next (Some name)
behind End words next = if is_empty words then Some [] else None
behind Stray words next = None

-- The options that words give, in order, where the name of an option may wait for its value.
abbrev pub given_by : Option (List ℕ) → List (List ℕ) → Option (List Given)
given_by None [] = Some []
given_by (Some name) [] = None
given_by waiting (word ∷ words) = behind (word_of waiting word) words (λ waits. given_by waits words)

-- Whether one of these options has that name.
abbrev pub is_given : List ℕ → List Given → Bool
is_given name options = list_any (λ option. bytes_eq option.name name) options

-- Whether options behind others have these names, and each name is given once at most.
abbrev pub have_names : List (List ℕ) → List Given → List Given → Bool
have_names names before [] = true
have_names names before (option ∷ options) =
    list_any (λ name. bytes_eq name option.name) names
    && (not (is_given option.name before) && have_names names (before ++ option ∷ []) options)

-- The options that words give to a command that has options of these names.
abbrev pub options_of : List (List ℕ) → List (List ℕ) → Option (List Given)
options_of names words =
    option_and_then (λ options. if have_names names [] options then Some options else None) (given_by None words)

-- The value of an option.
abbrev pub value_of : List ℕ → List Given → Option (List ℕ)
value_of name options = option_map (λ option. option.value) (find (λ option. bytes_eq option.name name) options)
