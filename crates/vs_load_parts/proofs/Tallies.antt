-- How the counts of a load add up, and how matches do.
use Rattle.std.proofs.{Common.{◌≡◌, ℕ, ◌+◌, ◌-◌, ◌^◌, min, List, [], ◌∷◌, ◌++◌, Option, length, refl, sym, ap, ◌∙◌, arith}, lemmas.List.Elements.{All-head, All-tail}}
use Rattle.std.{proofs.lemmas.{Bool.Decides.nat_tests}, specs.List.{All, fold}}
use Rattle.laws_driver.specs.Carried.Calls.{Journal, received_by}
use Rattle.vs_apps_parts.specs.{Journals.{calls_of, sent_as}, Scripts.RunScript, declared.journal.Entry.Entry}
use Rattle.vs_excerpt.specs.{Excerpt.excerpt_of, declared.Excerpt.Excerpt}
use Rattle.vs_run_report.specs.{Connections.{capped, opened_all}, Load.matches, Sums.count_of, declared.connection.Opened.Opened}
use Rattle.vs_load_parts.specs.{Line.{CameBack, adds, counts, no_tally, tally_of}, declared.tally.Tally.Tally}

-- As many places match of a list and one that it begins with as that has.
match_front : (xs more : List ℕ) → matches (xs ++ more) xs ≡ length xs
match_front [] [] = refl
match_front [] (y ∷ more) = refl
match_front (x ∷ xs) more = grind (arith, nat_tests, match_front xs more)

-- A connection more.
capped_more : (n m : ℕ) → min (n + capped m) (2 ^ 64 - 1) ≡ capped (n + m)
capped_more n m = omega arith

module _ (journal : Journal) (sent : ℕ → Option ℕ) where
  module _ (are : (id : ℕ) → count_of (sent id) ≡ capped (length (sent_as id journal))) where
    adds_as : (t : Tally) (o : Opened) → CameBack journal o → adds journal t o ≡ counts sent journal t o
    adds_as t o back =
        let one : capped (t.sent + count_of (sent o.id)) ≡ capped (t.sent + length (sent_as o.id journal)) =
        ap (λ (n : ℕ). capped (t.sent + n)) (are o.id) ∙ capped_more t.sent (length (sent_as o.id journal)) in
        let two : matches (sent_as o.id journal) (received_by o.id journal) ≡ length (received_by o.id journal) =
        ap (λ (xs : List ℕ). matches xs (received_by o.id journal)) back.1 ∙ match_front (received_by o.id journal) back.0 in
        λ i. record { sent = sym one i; matched = capped (t.matched + two i) }

    all_as : (os : List Opened) (t : Tally) → All (CameBack journal) os → fold (adds journal) t os ≡ fold (counts sent journal) t os
    all_as [] t back = refl
    all_as (o ∷ os) t back =
        ap (λ (x : Tally). fold (adds journal) x os) (adds_as t o (All-head (CameBack journal) o os back))
        ∙ all_as os (counts sent journal t o) (All-tail (CameBack journal) o os back)

  pub one_more : (t new : Tally) (o : Opened) (count : ℕ) (e : Excerpt) → count ≡ count_of (sent o.id) → e ≡ excerpt_of (received_by o.id journal)
      → new.sent ≡ capped (t.sent + count) → new.matched ≡ capped (t.matched + e.count) → new ≡ counts sent journal t o
  one_more t new o count e is came all matched =
      let one : new.sent ≡ capped (t.sent + count_of (sent o.id)) = all ∙ ap (λ (n : ℕ). capped (t.sent + n)) is in
      let two : new.matched ≡ capped (t.matched + length (received_by o.id journal)) = matched ∙ ap (λ (x : Excerpt). capped (t.matched + x.count)) came in
      λ i. record { sent = one i; matched = two i }

  -- In which order two connections are counted makes no difference.
  pub counts_free : (t : Tally) (x y : Opened) → counts sent journal (counts sent journal t x) y ≡ counts sent journal (counts sent journal t y) x
  counts_free t x y =
      let one : capped (capped (t.sent + count_of (sent x.id)) + count_of (sent y.id)) ≡ capped (capped (t.sent + count_of (sent y.id)) + count_of (sent x.id)) =
      omega arith in
      let two : capped (capped (t.matched + length (received_by x.id journal)) + length (received_by y.id journal))
      ≡ capped (capped (t.matched + length (received_by y.id journal)) + length (received_by x.id journal)) = omega arith in
      λ i. record { sent = one i; matched = two i }

-- The counts that are kept are those of the entries that the journal was read with.
pub counted_as : (script : RunScript) (entries es : List Entry) (bytes : List ℕ) (sent : ℕ → Option ℕ) (t : Tally) → es ≡ entries
    → ((id : ℕ) → count_of (sent id) ≡ capped (length (sent_as id (calls_of script bytes es))))
    → All (CameBack (calls_of script bytes entries)) (opened_all (length script) entries)
    → t ≡ fold (counts sent (calls_of script bytes entries)) no_tally (opened_all (length script) es) → t ≡ tally_of script entries bytes
counted_as script entries es bytes sent t same are back is =
    is ∙ ap (λ (xs : List Entry). fold (counts sent (calls_of script bytes entries)) no_tally (opened_all (length script) xs)) same
    ∙ sym (all_as (calls_of script bytes entries) sent
    (λ id. are id ∙ ap (λ (xs : List Entry). capped (length (sent_as id (calls_of script bytes xs)))) same) (opened_all (length script) entries) no_tally back)
