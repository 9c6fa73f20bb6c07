-- How the lines of a report add up.
use Rattle.std.proofs.Common.{◌≡◌, ℕ, zero, suc, ◌+◌, if◌then◌else◌, Bool, true, false, List, [], ◌∷◌, ◌++◌, map, Result, Ok, Err, OnOk, refl, sym, ap, ◌∙◌, arith, append_assoc}
use Rattle.std.{proofs.{Common.append-nil, lemmas.List.{flat_map_more, map-append}}, specs.List.{flat_map, range_with_len}}
use Rattle.vs_report.{specs.Gives.joined, proofs.LinesGiven.joined_append}
use Rattle.vs_run_report.specs.{Endings.is_done, Report.{status_after, status_of}, declared.{ending.Ending.Ending, report.TheConstants.WAITED}}

-- numbers from a on, and the next one
range_from : (a n : ℕ) → range_with_len a (n + 1) ≡ range_with_len a n ++ (a + n) ∷ []
range_from a zero = ap (λ k. k ∷ []) (omega arith)
range_from a (suc n) =
    let count : suc n + 1 ≡ suc (n + 1) = omega arith in
    ap (range_with_len a) count
    ∙ ap (λ (xs : List ℕ). a ∷ xs) (range_from (a + 1) n ∙ ap (λ (k : ℕ). range_with_len (a + 1) n ++ k ∷ []) (omega arith))

pub range_more : (n : ℕ) → range_with_len 0 (n + 1) ≡ range_with_len 0 n ++ n ∷ []
range_more n = range_from 0 n ∙ ap (λ (k : ℕ). range_with_len 0 n ++ k ∷ []) (omega arith)

module _ (old mid new : List ℕ) where
  -- lines behind lines
  pub lines_more : (xs ys : List (List ℕ)) → mid ≡ old ++ joined xs → new ≡ mid ++ joined ys → new ≡ old ++ joined (xs ++ ys)
  lines_more xs ys before is =
      is ∙ ap (λ (t : List ℕ). t ++ joined ys) before ∙ append_assoc old (joined xs) (joined ys)
      ∙ ap (λ (t : List ℕ). old ++ t) (sym (joined_append xs ys))

  -- the line of one more
  pub line_next : (f : ℕ → List ℕ) (k : ℕ) → mid ≡ old ++ joined (map f (range_with_len 0 k)) → new ≡ mid ++ f k
      → new ≡ old ++ joined (map f (range_with_len 0 (k + 1)))
  line_next f k before is =
      lines_more (map f (range_with_len 0 k)) (f k ∷ []) before (is ∙ ap (λ (t : List ℕ). mid ++ t) (sym (append-nil (f k))))
      ∙ ap (λ (ls : List (List ℕ)). old ++ joined ls) (sym (map-append f (range_with_len 0 k) (k ∷ [])))
      ∙ ap (λ (ks : List ℕ). old ++ joined (map f ks)) (sym (range_more k))

  -- the lines of one more
  pub lines_next : {X Y : Type 0} (t : Y → List ℕ) (g : X → List Y) (xs xs' : List X) (x : X) → xs' ≡ xs ++ x ∷ []
      → mid ≡ old ++ joined (map t (flat_map g xs)) → new ≡ mid ++ joined (map t (g x)) → new ≡ old ++ joined (map t (flat_map g xs'))
  lines_next {X} {Y} t g xs xs' x all before is =
      lines_more (map t (flat_map g xs)) (map t (g x)) before is
      ∙ ap (λ (ls : List (List ℕ)). old ++ joined ls) (sym (map-append t (flat_map g xs) (g x)))
      ∙ ap (λ (ys : List Y). old ++ joined (map t ys)) (flat_map_more g [] xs x)
      ∙ ap (λ (ks : List X). old ++ joined (map t (flat_map g ks))) (sym all)

-- The same of functions that may want memory: three lines, and three parts.
pub ok_lines : {E : Type 0} (r : Result (Unit {0}) E) (old mid low new a b c : List ℕ) → mid ≡ old ++ a → low ≡ mid ++ b
    → OnOk r (new ≡ low ++ c)
    → OnOk r (new ≡ old ++ joined (a ∷ b ∷ c ∷ []))
ok_lines (Err e) old mid low new a b c first second is = tt
ok_lines (Ok u) old mid low new a b c first second is =
    lines_more old low new (a ∷ b ∷ []) (c ∷ [])
    (lines_more old mid low (a ∷ []) (b ∷ []) (first ∙ ap (λ (t : List ℕ). old ++ t) (sym (append-nil a)))
    (second ∙ ap (λ (t : List ℕ). mid ++ t) (sym (append-nil b)))) (is ∙ ap (λ (t : List ℕ). low ++ t) (sym (append-nil c)))

pub ok_parts : {E : Type 0} (r : Result (Unit {0}) E) (old mid low new : List ℕ) (xs ys zs : List (List ℕ)) → mid ≡ old ++ joined xs
    → low ≡ mid ++ joined ys → OnOk r (new ≡ low ++ joined zs) → OnOk r (new ≡ old ++ joined (xs ++ (ys ++ zs)))
ok_parts (Err e) old mid low new xs ys zs first second is = tt
ok_parts (Ok u) old mid low new xs ys zs first second is =
    lines_more old mid new xs (ys ++ zs) first (lines_more mid low new ys zs second is)

-- Whether all are done.
status_more : (es : List Ending) (e : Ending) → status_of (es ++ e ∷ []) ≡ status_after (status_of es) e
status_more [] e = refl
status_more (x ∷ es) e = ap (λ (n : ℕ). status_after n x) (status_more es e) ∙ by (is_done x) (is_done e) (status_of es)
  where
    by : (b d : Bool) (n : ℕ) → (if b then (if d then n else WAITED) else WAITED) ≡ (if d then (if b then n else WAITED) else WAITED)
    by true true n = refl
    by true false n = refl
    by false true n = refl
    by false false n = refl

pub status_next : (f : ℕ → Ending) (k status new : ℕ) (e : Ending) → status ≡ status_of (map f (range_with_len 0 k)) → e ≡ f k
    → new ≡ status_after status e → new ≡ status_of (map f (range_with_len 0 (k + 1)))
status_next f k status new e before at is =
    is ∙ ap (λ (x : Ending). status_after status x) at ∙ ap (λ (s : ℕ). status_after s (f k)) before
    ∙ sym (status_more (map f (range_with_len 0 k)) (f k)) ∙ ap status_of (sym (map-append f (range_with_len 0 k) (k ∷ [])))
    ∙ ap (λ (ks : List ℕ). status_of (map f ks)) (sym (range_more k))
