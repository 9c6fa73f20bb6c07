-- A text that is given piece by piece.
use Rattle.std.proofs.{Common.{◌≡◌, ℕ, ◌+◌, ◌-◌, List, ◌++◌, length, take, drop, Option, Result, Ok, Err, OnErr, sym, ap, ◌∙◌, subst}, Math.Seq.take-add, lemmas.List.take_rest}
use Rattle.std.proofs.lemmas.List.{take-append-drop}
use Rattle.vs_peer.{specs.Pieces.{Emits, EmitsSome}, proofs.Pieces.emits_append}
use Rattle.vs_report.proofs.LinesGiven.{some_append, some_more}

module _ (old mid new : Option (List ℕ)) (text : List ℕ) (at n : ℕ) where
  -- the first pieces, and the next one
  and_next : take at text ++ take n (take (length text - at) (drop at text)) ≡ take (at + n) text
  and_next = ap (λ (rest : List ℕ). take at text ++ take n rest) (take_rest text at) ∙ sym (take-add at n text)

  pub piece_given : Emits old mid (take at text) → Emits mid new (take n (take (length text - at) (drop at text)))
      → Emits old new (take (at + n) text)
  piece_given before next =
      subst (λ (bytes : List ℕ). Emits old new bytes) and_next
      (emits_append old mid new (take at text) (take n (take (length text - at) (drop at text))) before next)

  pub piece_failed : Emits old mid (take at text) → EmitsSome mid new (take n (take (length text - at) (drop at text)))
      → EmitsSome old new text
  piece_failed before next =
      subst (λ (bytes : List ℕ). EmitsSome old new bytes) (take-append-drop (at + n) text)
      (some_more old new (take (at + n) text) (drop (at + n) text) (subst (λ (bytes : List ℕ). EmitsSome old new bytes) and_next
      (some_append old mid new (take at text) (take n (take (length text - at) (drop at text))) before next)))

-- What is known of a call that failed, and of one that didn't.
pub at_fault : {A E P : Type 0} (r : Result A E) → P → OnErr r P
at_fault (Ok a) h = tt
at_fault (Err e) h = h
