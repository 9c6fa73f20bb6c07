-- From how lines were given to how a command ends.
use Rattle.std.proofs.Common.{◌≡◌, inl, inr, ◌∙◌, arith, ℕ, true, List, [], ◌∷◌, ◌++◌, Option, Some, None, Ok, Err, refl, sym, subst, append-nil}
use Rattle.vs_outside.specs.Faults.{CountsFault}
use Rattle.vs_peer.{specs.{Ends.EndsAs, Pieces.Emits, Text.no_memory_text}, proofs.Pieces.{emits_none, emits_append}}
use Rattle.vs_report.{specs.{Gives.{GivesLines, joined}, declared.giving.GiveError.GiveError}, proofs.LinesGiven.some_append}
use Rattle.vs_run.specs.Ends.{EndsAnswer, EndsWith}
use Rattle.vs_report.specs.declared.giving.GiveError.TheVariants as fault

-- there is a line
abbrev pub HasLine : List (List ℕ) → Type 0
HasLine lines = (x : List ℕ) × (xs : List (List ℕ)) × (lines ≡ x ∷ xs)

pub has_line_behind : (xs : List (List ℕ)) (y : List ℕ) (ys : List (List ℕ)) → HasLine (xs ++ y ∷ ys)
has_line_behind [] y ys = (y, ys, refl)
has_line_behind (x ∷ xs) y ys = (x, xs ++ y ∷ ys, refl)

module _ (old new : Option (List ℕ)) (f g : ℕ) (lines : List (List ℕ)) (own : ℕ) where
  -- all lines were given
  pub gave_all : GivesLines old new f g lines (Ok tt) → EndsAnswer old new f g lines own own
  gave_all h = (joined lines, own, inl (refl, refl), inl (refl, h.0, h.1))

  -- a call of the sink failed
  pub gave_part : (e : GiveError) → e ≡ fault.Sink → GivesLines old new f g lines (Err e) → EndsAnswer old new f g lines own 4
  gave_part e is h =
      let k = subst (λ x. GivesLines old new f g lines (Err x)) is h in
      (joined lines, own, inl (refl, refl), inr (refl, k.0, k.1))

  -- memory ran out before any line
  pub gave_none : (r : ℕ) → HasLine lines → EndsAs old new f g no_memory_text 9 r → EndsAnswer old new f g lines own r
  gave_none r some h = (no_memory_text, 9, inr ([], some.0, some.1, sym some.2, refl, refl), h)

-- some bytes, and then how the last line ends
ends_behind : (old mid new : Option (List ℕ)) (f m g : ℕ) (xs line : List ℕ) (status r : ℕ) → Emits old mid xs → m ≡ f → EndsAs mid new m g line status r
    → EndsAs old new f g (xs ++ line) status r
ends_behind old mid new f m g xs line status r e same (inl h) = inl (h.0, emits_append old mid new xs line e h.1, h.2 ∙ same)
ends_behind old mid new f m g xs line status r e same (inr h) = inr (h.0, some_append old mid new xs line e h.1, subst (λ k. CountsFault true k g) same h.2)

starved : (old mid new : Option (List ℕ)) (f m g : ℕ) (lines : List (List ℕ)) (own r : ℕ) → HasLine lines → GivesLines old mid f m lines (Err fault.OutOfMemory)
    → EndsAs mid new m g no_memory_text 9 r → EndsAnswer old new f g lines own r
starved None mid new f m g lines own r some h e =
    (no_memory_text, 9, inr ([], some.0, some.1, sym some.2, refl, refl), ends_behind None mid new f m g [] no_memory_text 9 r h.0 h.1 e)
starved (Some held) mid new f m g lines own r some h e =
    let first = h.0.0 in
    (joined first ++ no_memory_text, 9, inr (first, h.0.1, h.0.2, h.0.3, refl, refl), ends_behind (Some held) mid new f m g (joined first) no_memory_text 9 r h.0.4 h.1 e)

-- memory ran out
pub gave_some : (old mid new : Option (List ℕ)) (f m g : ℕ) (lines : List (List ℕ)) (own r : ℕ) (e : GiveError) → HasLine lines → e ≡ fault.OutOfMemory
    → GivesLines old mid f m lines (Err e) → EndsAs mid new m g no_memory_text 9 r → EndsAnswer old new f g lines own r
gave_some old mid new f m g lines own r e some is h last = starved old mid new f m g lines own r some (subst (λ x. GivesLines old mid f m lines (Err x)) is h) last

-- nothing was to be written
pub gave_nothing : (old : Option (List ℕ)) (f : ℕ) → EndsAnswer old old f f [] 0 0
gave_nothing old f = ([], 0, inl (refl, refl), inl (refl, emits_none old, refl))

-- one line, or no memory for it
pub one_line : (old new : Option (List ℕ)) (f g : ℕ) (line : List ℕ) (own r : ℕ) → EndsWith old new f g line own r → EndsAnswer old new f g (line ∷ []) own r
one_line old new f g line own r (inl h) = (line, own, inl (sym (append-nil line), refl), h)
one_line old new f g line own r (inr h) = (no_memory_text, 9, inr ([], line, [], refl, refl, refl), h)

-- a status that isn't a line's own
pub not_two : (out out' : Option (List ℕ)) (f g : ℕ) (line : List ℕ) (status r : ℕ) → EndsAs out out' f g line status r → r ≡ 2 → status ≡ 2
not_two out out' f g line status r (inl h) two = sym h.0 ∙ two
not_two out out' f g line status r (inr h) two = absurd (omega (arith, h.0, two))

pub not_seven : (out out' : Option (List ℕ)) (f g : ℕ) (line : List ℕ) (status r : ℕ) → EndsAs out out' f g line status r → r ≡ 7 → status ≡ 7
not_seven out out' f g line status r (inl h) seven = sym h.0 ∙ seven
not_seven out out' f g line status r (inr h) seven = absurd (omega (arith, h.0, seven))
