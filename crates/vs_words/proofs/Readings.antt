-- From the contract of a parse to what it reads.
use Rattle.std.proofs.Common.{◌≡◌, ◌∙◌, ◌&&◌, inl, inr, Bool, true, false, refl, sym, ap, subst, List, [], ◌∷◌, map, drop, Option, Some, None, Result, Ok, Err}
use Rattle.std.{proofs.lemmas.Str.IsUtf8-string_bytes, specs.{Prelude.{String, string_bytes}, Str.bytes_eq}}
use Rattle.clap.specs.Words.{App, FailsBy, HasKind, HasMatchesOf, Text, fault_of, first_of, found_of, is_simple, is_simple_and_free, kind_of, matches_of}
use Rattle.clap.{specs.declared.{error.Error.Error, parser.matches.ArgMatches.ArgMatches}, proofs.WalkLemmas.first_value-rows}
use Rattle.vs_words.specs.{Errors.error_of, Options.{Given, is_empty, options_of, value_of}, Reading.{Reads, app_with}, declared.error.WordsError.{WordsError, TheVariants.Usage}}
use Rattle.vs_words.{specs.declared.error.WordsError.TheVariants.OutOfMemory, proofs.{Rules.given_row, Walks.{AreTexts, Parses, parsed}}}

-- the words of the program are texts
pub texts_of : {Z : Type 0} (words : List (String Z)) → AreTexts (map string_bytes words)
texts_of [] = tt
texts_of (word ∷ words) = (IsUtf8-string_bytes word, texts_of words)

pub texts_behind : {Z : Type 0} (words : List (String Z)) → AreTexts (drop 1 (map string_bytes words))
texts_behind [] = tt
texts_behind (word ∷ words) = texts_of words

-- the value of an option by its row
first_given : (name : Text) (options : List Given) → first_of name (map given_row options) ≡ value_of name options
first_given name [] = refl
first_given name (g ∷ gs) = go (bytes_eq g.name name) refl (first_given name gs)
  where
    go : (b : Bool) → bytes_eq g.name name ≡ b → first_of name (map given_row gs) ≡ value_of name gs
        → first_of name (map given_row (g ∷ gs)) ≡ value_of name (g ∷ gs)
    go true e rest = rw e refl
    go false e rest = rw e rest

both : (x y : Bool) → (x && y) ≡ true → x ≡ true
both true y e = refl
both false y e = e

module _ (command : Text) (names : List Text) (a : App) (is : a ≡ app_with command names) (simple : is_simple_and_free
    (app_with command names) ≡ true) (words : List Text) (texts : AreTexts (drop 1 words)) where
  plain : is_simple (app_with command names) ≡ true
  plain = both (is_simple (app_with command names)) _ simple

  abbrev Comes : Result ArgMatches Error → Type 0
  Comes r = is_simple_and_free a ≡ true → FailsBy (fault_of a words) r

  pub ok_reads : (m : ArgMatches) → HasMatchesOf a words m → Comes (Ok m) → Reads names words (Ok m)
  ok_reads m matches fails = go (options_of names (drop 1 words)) refl (parsed command names words texts)
    where
      go : (r : Option (List Given)) → options_of names (drop 1 words) ≡ r
          → Parses command names words (options_of names (drop 1 words)) → Reads names words (Ok m)
      go (Some options) e h =
          let k = subst (Parses command names words) e h in (
            options,
            e,
            record {
              value = λ name. first_value-rows (found_of m) name
                  ∙ ap (first_of name) ((matches (ap is_simple is ∙ plain)).0 ∙ ap (λ (b : App). matches_of b words) is ∙ k.1)
                  ∙ first_given name options;
            },
          )
      go None e h =
          let k = subst (Parses command names words) e h in
          let none : is_empty (fault_of (app_with command names) words) ≡ true =
          ap is_empty (sym (ap (λ (b : App). fault_of b words) is) ∙ fails (ap is_simple_and_free is ∙ simple)) in
          cc

  out_of_memory : (e : Error) → HasKind [] e → error_of (kind_of e) ≡ OutOfMemory
  out_of_memory e (inl h) = ap error_of h
  out_of_memory e (inr h) = absurd h

  any_error : (x : WordsError) → options_of names (drop 1 words) ≡ None → Reads names words (Err x)
  any_error Usage h = h
  any_error OutOfMemory h = tt

  pub err_reads : (e : Error) → Comes (Err e) → Reads names words (Err (error_of (kind_of e)))
  err_reads e fails = go (options_of names (drop 1 words)) refl (parsed command names words texts)
    where
      go : (r : Option (List Given)) → options_of names (drop 1 words) ≡ r → Parses command names words (options_of names (drop 1 words))
          → Reads names words (Err (error_of (kind_of e)))
      go (Some options) same h =
          let k = subst (Parses command names words) same h in
          let kinds : HasKind [] e = subst (λ ks. HasKind ks e) (ap (λ (b : App). fault_of b words) is
          ∙ k.0) (fails (ap is_simple_and_free is ∙ simple)) in
          rw (out_of_memory e kinds) tt
      go None same h = any_error (error_of (kind_of e)) same

  pub err_said : (e : Error) (r : Result ArgMatches WordsError) → Comes (Err e) → r ≡ Err (error_of (kind_of e)) → Reads names words r
  err_said e r fails said = rw said (err_reads e fails)
