-- What a parse of a command's words gives.
use Rattle.std.specs.Prelude.{◌≡◌, ℕ, true, List, [], map, drop, Some, None, Result, Ok, Err}
use Rattle.clap.specs.{Simple.{App, new_rule, new_shape}, Walk.Rule, Words.{first_value, found_of}, declared.parser.matches.ArgMatches.ArgMatches}
use Rattle.vs_words.specs.{Options.{Given, options_of, value_of}, declared.error.WordsError.{WordsError, TheVariants.{Usage, OutOfMemory}}}

-- An option `--NAME VALUE`, as the program adds it, and the command with options of these names.
abbrev pub option_rule : List ℕ → Rule
option_rule name = record (new_rule name) { long = Some name }

abbrev pub app_with : List ℕ → List (List ℕ) → App
app_with command names = record {
  top = record (new_shape command) { rules = map option_rule names; disable_help_flag = true };
  subs = [];
}

-- Matches have the values of these options.
pub record HasValues (options : List Given) (m : ArgMatches) : Type 0 where
  pub value : (name : List ℕ) → first_value (found_of m) name ≡ value_of name options

-- The words behind the first give options of these names, and the matches have their values; or they don't.
abbrev pub Reads : List (List ℕ) → List (List ℕ) → Result ArgMatches WordsError → Type 0
Reads names words (Ok m) = (options : List Given) × (options_of names (drop 1 words) ≡ Some options) × HasValues options m
Reads names words (Err Usage) = options_of names (drop 1 words) ≡ None
Reads names words (Err OutOfMemory) = Unit {0}
