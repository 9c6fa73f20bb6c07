-- Lines that are read: a byte more, and a line that ends.
use Rattle.std.proofs.lemmas.Grind.{common_steps}
use Rattle.std.proofs.Common.{◌≡◌, ◌≢◌, ℕ, zero, suc, ◌<◌, ◌==◌, nat_le, ◌||◌, Bool, true, false, cond, List, [], ◌∷◌, ◌++◌, length, get_or, Some, refl, sym, ap, ◌∙◌, arith}
use Rattle.std.{proofs.{Common.{length-append, append_assoc, replicate}, lemmas.{Bool.Decides.nat_tests, List.{same_from_push, Elements.{Contains-append_left, Contains-push}}}}, specs.List.{All, AllPairs, list_any}}
use Rattle.vs_proxy_parts.specs.{Handshakes.{with_line, without_stream}, State.Handshake}
use Rattle.vs_uds.specs.{ConnectLine.{connect_port, connect_step, connect_word}, Reading.is_decided, declared.connect.TheConstants.CONNECT_MAX}
use Rattle.vs_uds.proofs.{ConnectLines.IsWordLine-word_port, Decided.decided}
use Rattle.vs_outside.specs.HostBytes.{has_line}
use Rattle.laws_device.specs.Carried.Streamed.{HasHand}
use Rattle.vs_uds.specs.declared.scan.Step.TheVariants as step

-- The lines without that of a stream.
all_tail : (P : Handshake → Type 0) (h : Handshake) (hs : List Handshake) → All P (h ∷ hs) → All P hs
all_tail P h hs all i d within = all (suc i) d (omega (arith, within))

pub without_all : (P : Handshake → Type 0) (id : ℕ) (hs : List Handshake) → All P hs → All P (without_stream id hs)
without_all P id [] all = all
without_all P id (h ∷ hs) all = by (h.stream == id) (without_all P id hs (all_tail P h hs all))
  where
    by : (b : Bool) → All P (without_stream id hs) → All P (cond b hs (h ∷ without_stream id hs))
    by true rest i d within = all (suc i) d (omega (arith, within))
    by false rest zero d within = all 0 d (omega arith)
    by false rest (suc i) d within = rest i d (omega (arith, within))

pairs_tail : (R : Handshake → Handshake → Type 0) (h : Handshake) (hs : List Handshake) → AllPairs R (h ∷ hs) → AllPairs R hs
pairs_tail R h hs all i j d less within = all (suc i) (suc j) d (omega (arith, less)) (omega (arith, within))

pairs_head : (R : Handshake → Handshake → Type 0) (h : Handshake) (hs : List Handshake) → AllPairs R (h ∷ hs) → All (R h) hs
pairs_head R h hs all j d within = all 0 (suc j) d (omega arith) (omega (arith, within))

pairs_cons : (R : Handshake → Handshake → Type 0) (h : Handshake) (hs : List Handshake) → All (R h) hs → AllPairs R hs → AllPairs R (h ∷ hs)
pairs_cons R h hs head tail p q d less within = grind (arith, common_steps)

pub without_pairs : (R : Handshake → Handshake → Type 0) (id : ℕ) (hs : List Handshake) → AllPairs R hs → AllPairs R (without_stream id hs)
without_pairs R id [] all = all
without_pairs R id (h ∷ hs) all = by (h.stream == id) (without_pairs R id hs (pairs_tail R h hs all))
  where
    by : (b : Bool) → AllPairs R (without_stream id hs) → AllPairs R (cond b hs (h ∷ without_stream id hs))
    by true rest = pairs_tail R h hs all
    by false rest = pairs_cons R h (without_stream id hs) (without_all (R h) id hs (pairs_head R h hs all)) rest

-- None of the others is of that stream.
pub without_none : (id : ℕ) (hs : List Handshake) → AllPairs (λ g h. g.stream ≢ h.stream) hs → All (λ h. h.stream ≢ id) (without_stream id hs)
without_none id [] apart = λ i d within. absurd (omega (arith, within))
without_none id (h ∷ hs) apart = by (h.stream == id) refl (without_none id hs (pairs_tail (λ (g : Handshake) (k : Handshake). g.stream ≢ k.stream) h hs apart))
  where
    by : (b : Bool) → (h.stream == id) ≡ b → All (λ (k : Handshake). k.stream ≢ id) (without_stream id hs)
        → All (λ (k : Handshake). k.stream ≢ id) (cond b hs (h ∷ without_stream id hs))
    by true is rest i d within = λ same.
        let here : h.stream ≡ id = grind (arith, nat_tests, is) in
        pairs_head (λ (g : Handshake) (k : Handshake). g.stream ≢ k.stream) h hs apart i d within (here ∙ sym same)
    by false is rest zero d within = λ same. no (grind (arith, nat_tests, same)) is
      where
        no : (h.stream == id) ≡ true → (h.stream == id) ≡ false → ⊥
        no a b = let both : true ≡ false = sym a ∙ b in cc
    by false is rest (suc i) d within = rest i d (omega (arith, within))

-- Another line of it first.
pub without_after : (id : ℕ) (line : List ℕ) (hs : List Handshake) → without_stream id (with_line id line hs) ≡ without_stream id hs
without_after id line [] = refl
without_after id line (h ∷ hs) = by (h.stream == id) refl (without_after id line hs)
  where
    by : (b : Bool) → (h.stream == id) ≡ b → without_stream id (with_line id line hs) ≡ without_stream id hs
        → without_stream id (cond b (record h { line = line } ∷ hs) (h ∷ with_line id line hs)) ≡ cond b hs (h ∷ without_stream id hs)
    by true is rest = rw is refl
    by false is rest = rw is (ap (λ (xs : List Handshake). h ∷ xs) rest)

-- A line with a byte more.
pub with_all : (P Q : Handshake → Type 0) (id : ℕ) (line : List ℕ) (hs : List Handshake) → AllPairs (λ g h. g.stream ≢ h.stream) hs → All P hs
    → ((h : Handshake) → h.stream ≡ id → P h → Q (record h { line = line })) → ((h : Handshake) → h.stream ≢ id → P h → Q h) → All Q (with_line id line hs)
with_all P Q id line [] apart all here other = λ i d within. absurd (omega (arith, within))
with_all P Q id line (h ∷ hs) apart all here other = by (h.stream == id) refl
    (with_all P Q id line hs (pairs_tail (λ (g : Handshake) (k : Handshake). g.stream ≢ k.stream) h hs apart) (all_tail P h hs all) here other)
  where
    by : (b : Bool) → (h.stream == id) ≡ b → All Q (with_line id line hs) → All Q (cond b (record h { line = line } ∷ hs) (h ∷ with_line id line hs))
    by true is rest zero d within = here h (grind (arith, nat_tests, is)) (all 0 d (omega arith))
    by true is rest (suc i) d within =
        let place : h.stream ≡ id = grind (arith, nat_tests, is) in
        other (get_or hs i d) (λ same. pairs_head (λ (g : Handshake) (k : Handshake). g.stream ≢ k.stream) h hs apart i d (omega (arith, within)) (place ∙ sym same))
        (all (suc i) d (omega (arith, within)))
    by false is rest zero d within = other h (grind (arith, nat_tests, is)) (all 0 d (omega arith))
    by false is rest (suc i) d within = rest i d (omega (arith, within))

pub with_apart : (id : ℕ) (line : List ℕ) (hs : List Handshake) → AllPairs (λ g h. g.stream ≢ h.stream) hs
    → AllPairs (λ g h. g.stream ≢ h.stream) (with_line id line hs)
with_apart id line [] apart = apart
with_apart id line (h ∷ hs) apart = by (h.stream == id) (with_apart id line hs (pairs_tail R h hs apart))
  where
    R : Handshake → Handshake → Type 0
    R g k = g.stream ≢ k.stream

    by : (b : Bool) → AllPairs (λ (g : Handshake) (k : Handshake). g.stream ≢ k.stream) (with_line id line hs)
        → AllPairs (λ (g : Handshake) (k : Handshake). g.stream ≢ k.stream) (cond b (record h { line = line } ∷ hs) (h ∷ with_line id line hs))
    by true rest = pairs_cons (λ (g : Handshake) (k : Handshake). g.stream ≢ k.stream) (record h { line = line }) hs
        (pairs_head (λ (g : Handshake) (k : Handshake). g.stream ≢ k.stream) h hs apart)
        (pairs_tail (λ (g : Handshake) (k : Handshake). g.stream ≢ k.stream) h hs apart)
    by false rest = pairs_cons (λ (g : Handshake) (k : Handshake). g.stream ≢ k.stream) h (with_line id line hs)
        (with_all (λ (k : Handshake). h.stream ≢ k.stream) (λ (k : Handshake). h.stream ≢ k.stream) id line hs (pairs_tail R h hs apart)
        (pairs_head (λ (g : Handshake) (k : Handshake). g.stream ≢ k.stream) h hs apart) (λ k here old. old) (λ k other old. old)) rest

-- Which streams have one: a handshake that begins, one whose line goes on, and one that ends.
pub has_pushed : (id : ℕ) (h : Handshake) (hs : List Handshake) → HasHand hs id → HasHand (hs ++ h ∷ []) id
has_pushed id h hs (g, within, same) = (g, Contains-append_left hs (h ∷ []) g within, same)

pub pushes : (h : Handshake) (hs : List Handshake) → HasHand (hs ++ h ∷ []) h.stream
pushes h hs = (h, Contains-push hs h, refl)

has_behind : (id : ℕ) (h : Handshake) (hs : List Handshake) → HasHand hs id → HasHand (h ∷ hs) id
has_behind id h hs (g, (i, less, is), same) = (g, (suc i, omega (arith, less), is), same)

has_first : (id : ℕ) (h : Handshake) (hs : List Handshake) → h.stream ≡ id → HasHand (h ∷ hs) id
has_first id h hs same = (h, (0, omega arith, refl), same)

-- The first one's, or one of the others.
has_by : (P : Type 0) (id : ℕ) (h : Handshake) (hs : List Handshake) → HasHand (h ∷ hs) id → (h.stream ≡ id → P) → (HasHand hs id → P) → P
has_by P id h hs (g, (zero, less, is), same) first rest = first (ap (λ (k : Handshake). k.stream) is ∙ same)
has_by P id h hs (g, (suc i, less, is), same) first rest = rest (g, (i, omega (arith, less), is), same)

pub has_with : (id other : ℕ) (line : List ℕ) (hs : List Handshake) → HasHand hs id → HasHand (with_line other line hs) id
has_with id other line [] (g, (i, less, is), same) = absurd (omega (arith, less))
has_with id other line (h ∷ hs) has = by (h.stream == other) (has_with id other line hs)
  where
    by : (b : Bool) → (HasHand hs id → HasHand (with_line other line hs) id) → HasHand (cond b (record h { line = line } ∷ hs) (h ∷ with_line other line hs)) id
    by true rest = has_by (HasHand (record h { line = line } ∷ hs) id) id h hs has (has_first id (record h { line = line }) hs) (has_behind id (record h { line = line }) hs)
    by false rest = has_by (HasHand (h ∷ with_line other line hs) id) id h hs has (has_first id h (with_line other line hs))
        (λ has. has_behind id h (with_line other line hs) (rest has))

pub has_without : (id other : ℕ) (hs : List Handshake) → HasHand hs id → id ≢ other → HasHand (without_stream other hs) id
has_without id other [] (g, (i, less, is), same) apart = absurd (omega (arith, less))
has_without id other (h ∷ hs) has apart = by (h.stream == other) refl (λ has. has_without id other hs has apart)
  where
    by : (b : Bool) → (h.stream == other) ≡ b → (HasHand hs id → HasHand (without_stream other hs) id) → HasHand (cond b hs (h ∷ without_stream other hs)) id
    by true is rest = has_by (HasHand hs id) id h hs has
        (λ first. let place : h.stream ≡ other = grind (arith, nat_tests, is) in absurd (apart (sym first ∙ place))) (λ has. has)
    by false is rest = has_by (HasHand (h ∷ without_stream other hs) id) id h hs has (has_first id h (without_stream other hs))
        (λ has. has_behind id h (without_stream other hs) (rest has))

-- A byte that ends a line is LF, and its first.
either_false : (a b : Bool) → (a || b) ≡ false → a ≡ false
either_false false b is = refl
either_false true b is = absurd cc

pub no_line : (line : List ℕ) → is_decided CONNECT_MAX line ≡ false → has_line line ≡ false
no_line line is = either_false (list_any (λ (b : ℕ). b == 10) line) (nat_le 32 (length line)) is

pub ends_by : (line : List ℕ) (byte port : ℕ) → is_decided CONNECT_MAX line ≡ false → connect_step (line ++ byte ∷ []) ≡ step.Port port → byte ≡ 10
ends_by line byte port open_line is =
    let short : length line < 32 = short_by (list_any (λ (b : ℕ). b == 10) line) open_line in
    let got : connect_port (line ++ byte ∷ []) ≡ Some port = decided (is_decided 32 (line ++ byte ∷ [])) (connect_port (line ++ byte ∷ [])) port is in
    let word = IsWordLine-word_port connect_word (line ++ byte ∷ []) port (omega (arith, short, length-append line (byte ∷ []))) got in
    let front = word.letters ++ replicate word.before 32 ++ word.digits ++ replicate word.after 32 ++ replicate word.returns 13 in
    let same : line ++ byte ∷ [] ≡ front ++ 10 ∷ [] = word.parts ∙ sym (simp append_assoc) in
    (same_from_push line front byte 10 same).1
  where
    short_by : (b : Bool) → (b || nat_le 32 (length line)) ≡ false → length line < 32
    short_by true is = absurd cc
    short_by false is = grind (arith, nat_tests, is)
