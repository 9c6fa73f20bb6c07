-- What a reader answers to the bytes of a line.
use Rattle.std.proofs.Common.{◌≡◌, ◌≤◌, ◌<◌, ◌-◌, ◌==◌, ◌||◌, ℕ, zero, suc, Bool, true, false, cond, List, [], ◌∷◌, ◌++◌, length, replicate, Option, Some, None, refl, sym, ap, ◌∙◌}
use Rattle.std.{proofs.{Common.{arith, append-nil, append_assoc, length-append}, lemmas.{Bool.lt-leb, List.Folds.list_any-append}}, specs.List.list_any}
use Rattle.vs_uds.specs.{Reading.{answers_to, fed, is_decided, port_at_end, port_or_bad, step_of}, declared.scan.Step.{Step, TheVariants.{More, Port}}}

-- whether an LF stands in a text
abbrev pub has_lf : List ℕ → Bool
has_lf text = list_any (λ byte. byte == 10) text

-- bytes without LF, fewer than the most, decide nothing
pub undecided : (most : ℕ) (line : List ℕ) → has_lf line ≡ false → length line < most → is_decided most line ≡ false
undecided most line none short = rw (none, lt-leb most (length line) short) refl

or_true : (b c : Bool) → (b || true || c) ≡ true
or_true true c = refl
or_true false c = refl

-- an LF decides
pub decided : (most : ℕ) (line : List ℕ) → is_decided most (line ++ 10 ∷ []) ≡ true
decided most line = rw (list_any-append (λ (byte : ℕ). byte == 10) line (10 ∷ [])) (or_true (has_lf line) _)

-- neither holds
pub neither : (b c : Bool) → (b || c) ≡ false → (b ≡ false) × (c ≡ false)
neither true c none = cc
neither false c none = (refl, none)

-- no LF in the whole, none in the front
front_none : (xs ys : List ℕ) → has_lf (xs ++ ys) ≡ false → has_lf xs ≡ false
front_none xs ys none = (neither (has_lf xs) (has_lf ys) (sym (list_any-append (λ (byte : ℕ). byte == 10) xs ys) ∙ none)).0

-- an undecided reader keeps a byte
kept : (most : ℕ) (line : List ℕ) (byte : ℕ) → has_lf line ≡ false → length line < most → fed most line byte ≡ line ++ byte ∷ []
kept most line byte none short = rw (undecided most line none short) refl

-- the answers to bytes without LF, and to an LF after them
pub answers_to-front : (most : ℕ) (f : List ℕ → Option ℕ) (before xs : List ℕ)
    → has_lf (before ++ xs) ≡ false → length (before ++ xs) < most
    → answers_to most f before (xs ++ 10 ∷ []) ≡ replicate (length xs) More ++ port_or_bad (f (before ++ xs ++ 10 ∷ [])) ∷ []
answers_to-front most f before [] none short =
    let none' : has_lf before ≡ false = rw (append-nil before) at none in
    let short' : length before < most = rw (append-nil before) at short in
    rw (append-nil before, kept most before 10 none' short', decided most before) refl
answers_to-front most f before (x ∷ xs) none short =
    let moved : before ++ x ∷ xs ≡ before ++ x ∷ [] ++ xs = sym (append_assoc before (x ∷ []) xs) in
    let none' : has_lf (before ++ x ∷ [] ++ xs) ≡ false = rw moved at none in
    let short' : length (before ++ x ∷ [] ++ xs) < most = rw moved at short in
    let short_front : length (before ++ x ∷ []) < most = omega (arith, length-append (before ++ x ∷ []) xs) in
    let more = undecided most (before ++ x ∷ []) (front_none (before ++ x ∷ []) xs none') short_front in
    rw (kept most before x (front_none before (x ∷ xs) none) (omega (arith, length-append before (x ∷ xs))), more, moved)
    (ap (λ (answers : List Step). More ∷ answers) (answers_to-front most f (before ++ x ∷ []) xs none' short'))

-- A line that ends in its only LF and is no longer than it may be is answered at its last byte alone.
pub answers_to-line : (most : ℕ) (f : List ℕ → Option ℕ) (xs line : List ℕ) (port : ℕ) → line ≡ xs ++ 10 ∷ [] → has_lf xs ≡ false
    → length line ≤ most → f line ≡ Some port → answers_to most f [] line ≡ port_at_end line port
answers_to-line most f xs line port is none short found =
    let len : length xs ≡ length line - 1 = omega (arith, ap length is, length-append xs (10 ∷ [])) in
    let whole : answers_to most f [] (xs ++ 10 ∷ []) ≡ replicate (length xs) More ++ port_or_bad (f (xs ++ 10 ∷ [])) ∷ [] =
    answers_to-front most f [] xs none (omega (arith, ap length is, length-append xs (10 ∷ []))) in
    ap (answers_to most f []) is ∙ whole ∙ rw (← is, found, len) refl

-- no LF in either part, none in the whole
pub none_append : (xs ys : List ℕ) → has_lf xs ≡ false → has_lf ys ≡ false → has_lf (xs ++ ys) ≡ false
none_append xs ys front rest = rw (list_any-append (λ (byte : ℕ). byte == 10) xs ys, front, rest) refl

-- none where another byte is repeated
pub none_replicate : (n b : ℕ) → (b == 10) ≡ false → has_lf (replicate n b) ≡ false
none_replicate zero b other = refl
none_replicate (suc n) b other = rw (other, none_replicate n b other) refl

-- the answer is a port only where the line has it
port_alone : (b : Bool) (o : Option ℕ) (port : ℕ) → cond b (port_or_bad o) More ≡ Port port → o ≡ Some port
port_alone true (Some p) port h = cc
port_alone true None port h = cc
port_alone false o port h = cc

pub port-step_of : (most : ℕ) (f : List ℕ → Option ℕ) (line : List ℕ) (port : ℕ) → step_of most f line ≡ Port port → f line ≡ Some port
port-step_of most f line port h = port_alone (is_decided most line) (f line) port h

-- and there where it ends in LF
pub step_of-port : (most : ℕ) (f : List ℕ → Option ℕ) (xs line : List ℕ) (port : ℕ) → line ≡ xs ++ 10 ∷ [] → f line ≡ Some port
    → step_of most f line ≡ Port port
step_of-port most f xs line port is found =
    let end : is_decided most line ≡ true = ap (is_decided most) is ∙ decided most xs in
    rw (end, found) refl
