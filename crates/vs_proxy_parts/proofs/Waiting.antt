-- The handshake on a stream, by its place.
use Rattle.std.proofs.Common.{◌≡◌, ℕ, zero, suc, ◌<◌, ◌==◌, Bool, true, false, cond, List, [], ◌∷◌, ◌++◌, length, get_or, set, ltb, Option, Some, None, refl, sym, ap, ◌∙◌, arith}
use Rattle.std.{proofs.lemmas.{List.{Folds.find_at, Quantifiers.position-Some}, Option.slice_get_past, Bool.Decides.nat_tests}, specs.List.{All, find, remove, position}}
use Rattle.std.specs.List.{position_or_len}
use Rattle.vs_uds.specs.{Reading.{fed, is_decided, port_or_bad}, ConnectLine.{connect_port, connect_step}, declared.connect.TheConstants.CONNECT_MAX}
use Rattle.vs_proxy_parts.specs.{State.Handshake, Handshakes.{with_line, without_stream}}
use Rattle.vs_uds.specs.declared.scan.Step.TheVariants as step

abbrev is_on : ℕ → Handshake → Bool
is_on stream h = h.stream == stream

cond_none : {Y : Type 0} (b : Bool) (y : Y) → cond b (Some y) None ≡ None → b ≡ false
cond_none true y h = cc
cond_none false y h = refl

pub found_nowhere : (stream : ℕ) (hs : List Handshake) → position (is_on stream) hs ≡ None → find (is_on stream) hs ≡ None
found_nowhere stream hs h =
    let no = cond_none (ltb (position_or_len (is_on stream) hs) (length hs)) (position_or_len (is_on stream) hs) h in
    find_at (is_on stream) hs ∙ slice_get_past hs (position_or_len (is_on stream) hs) (grind (arith, nat_tests))

pub none_without : (stream : ℕ) (hs : List Handshake) → find (is_on stream) hs ≡ None → without_stream stream hs ≡ hs
none_without stream [] none = refl
none_without stream (h ∷ hs) none = by (is_on stream h) none (none_without stream hs)
  where
    by : (b : Bool) → cond b (Some h) (find (is_on stream) hs) ≡ None → (find (is_on stream) hs ≡ None → without_stream stream hs ≡ hs) → cond b hs (h ∷ without_stream stream hs) ≡ h ∷ hs
    by true is rest = absurd (cc)
    by false is rest = ap (λ (xs : List Handshake). h ∷ xs) (rest is)

-- the first that is on the stream stands at i
pub record IsFirst (stream : ℕ) (hs : List Handshake) (i : ℕ) (d : Handshake) : Type 0 where
  pub within : i < length hs
  pub here : is_on stream (get_or hs i d) ≡ true
  pub below : (k : ℕ) → k < i → is_on stream (get_or hs k d) ≡ false

next_first : (stream : ℕ) (h : Handshake) (hs : List Handshake) (i : ℕ) (d : Handshake) → IsFirst stream (h ∷ hs) (suc i) d → IsFirst stream hs i d
next_first stream h hs i d f = record { within = omega (arith, f.within); here = f.here; below = λ k l. f.below (suc k) (omega arith) }

pub first_at : (stream : ℕ) (hs : List Handshake) (i : ℕ) (d : Handshake) → position (is_on stream) hs ≡ Some i → IsFirst stream hs i d
first_at stream hs i d found = let p = position-Some (is_on stream) hs i d found in record { within = p.0; here = p.1; below = p.2 }

pub found_first : (stream : ℕ) (hs : List Handshake) (i : ℕ) (d : Handshake) → IsFirst stream hs i d → find (is_on stream) hs ≡ Some (get_or hs i d)
found_first stream [] i d f = absurd (omega (arith, f.within))
found_first stream (h ∷ hs) zero d f = rw f.here refl
found_first stream (h ∷ hs) (suc i) d f = rw (f.below 0 (omega arith)) (found_first stream hs i d (next_first stream h hs i d f))

pub with_line_first : (stream : ℕ) (line : List ℕ) (hs : List Handshake) (i : ℕ) (d : Handshake) → IsFirst stream hs i d
    → with_line stream line hs ≡ set hs i (record (get_or hs i d) { line = line })
with_line_first stream line [] i d f = absurd (omega (arith, f.within))
with_line_first stream line (h ∷ hs) zero d f = rw f.here refl
with_line_first stream line (h ∷ hs) (suc i) d f =
    rw (f.below 0 (omega arith)) (ap (λ (xs : List Handshake). h ∷ xs) (with_line_first stream line hs i d (next_first stream h hs i d f)))

pub without_first : (stream : ℕ) (hs : List Handshake) (i : ℕ) (d : Handshake) → IsFirst stream hs i d → without_stream stream hs ≡ remove hs i
without_first stream [] i d f = absurd (omega (arith, f.within))
without_first stream (h ∷ hs) zero d f = rw f.here refl
without_first stream (h ∷ hs) (suc i) d f =
    rw (f.below 0 (omega arith)) (ap (λ (xs : List Handshake). h ∷ xs) (without_first stream hs i d (next_first stream h hs i d f)))

-- a handshake that changed is over just the same
pub set_removed : (hs : List Handshake) (i : ℕ) (h : Handshake) → i < length hs → remove (set hs i h) i ≡ remove hs i
set_removed [] i h lt = absurd (omega arith)
set_removed (x ∷ xs) zero h lt = refl
set_removed (x ∷ xs) (suc i) h lt = ap (λ (ys : List Handshake). x ∷ ys) (set_removed xs i h (omega arith))

-- a line that isn't decided takes the byte, and stays undecided while more is to come
no_more : (o : Option ℕ) → port_or_bad o ≡ step.More → ⊥
no_more None e = cc
no_more (Some port) e = cc

pub undecided : (line : List ℕ) → connect_step line ≡ step.More → is_decided CONNECT_MAX line ≡ false
undecided line more = by (is_decided CONNECT_MAX line) more
  where
    by : (b : Bool) → cond b (port_or_bad (connect_port line)) step.More ≡ step.More → b ≡ false
    by true e = absurd (no_more (connect_port line) e)
    by false e = refl

pub takes_byte : (line : List ℕ) (byte : ℕ) → is_decided CONNECT_MAX line ≡ false → fed CONNECT_MAX line byte ≡ line ++ byte ∷ []
takes_byte line byte is = ap (λ (b : Bool). cond b line (line ++ byte ∷ [])) is

-- the handshake on a stream took a byte
module _ (stream byte : ℕ) (hs : List Handshake) (i : ℕ) (old new : Handshake) (at : position (is_on stream) hs ≡ Some i) (is : old ≡ get_or hs i old)
    (lines : All (λ h. is_decided CONNECT_MAX h.line ≡ false) hs) (takes : new ≡ record old { line = fed CONNECT_MAX old.line byte }) where
  same : (h : Handshake) → find (is_on stream) hs ≡ Some h → old ≡ h
  same h found = let both : Some (get_or hs i old) ≡ Some h = sym (found_first stream hs i old (first_at stream hs i old at)) ∙ found in is ∙ cc

  pub fed_line : (h : Handshake) → find (is_on stream) hs ≡ Some h → new ≡ record h { line = h.line ++ byte ∷ [] }
  fed_line h found =
      let open_line : is_decided CONNECT_MAX (get_or hs i old).line ≡ false = lines i old (first_at stream hs i old at).within in
      let still : is_decided CONNECT_MAX old.line ≡ false = ap (λ (x : Handshake). is_decided CONNECT_MAX x.line) is ∙ open_line in
      takes ∙ (ap (λ (line : List ℕ). record old { line = line }) (takes_byte old.line byte still)
      ∙ ap (λ (x : Handshake). record x { line = x.line ++ byte ∷ [] }) (same h found))

  pub fed_more : (h : Handshake) → find (is_on stream) hs ≡ Some h → set hs i new ≡ with_line stream (h.line ++ byte ∷ []) hs
  fed_more h found =
      ap (λ (x : Handshake). set hs i x) (fed_line h found ∙ ap (λ (x : Handshake). record x { line = h.line ++ byte ∷ [] }) (sym (same h found) ∙ is))
      ∙ sym (with_line_first stream (h.line ++ byte ∷ []) hs i old (first_at stream hs i old at))

  pub fed_over : remove (set hs i new) i ≡ without_stream stream hs
  fed_over = set_removed hs i new (first_at stream hs i old at).within ∙ sym (without_first stream hs i old (first_at stream hs i old at))
