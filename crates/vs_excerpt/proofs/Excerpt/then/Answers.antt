use Rattle.std.proofs.{Common.{◌≡◌, ◌++◌, ◌+◌, ◌∙◌, ℕ, List, ap, sym, drop, length}, lemmas.List.length-append}
use Rattle.vs_excerpt.{specs.declared.Excerpt.Excerpt, proofs.Keeping.back_more}
use Rattle.vs_excerpt.proofs.Excerpt.then.Goals as goal

made : (n m : ℕ) (f g h k : List ℕ) → n ≡ m → f ≡ g → h ≡ k
    → (let e : Excerpt = record { count = n; front = f; back = h } in e) ≡ (let e : Excerpt = record { count = m; front = g; back = k } in e)
made n m f g h k one two three = cc

pub returns : goal.returns
returns c = λ bytes is.
    let piece = c.args.piece.now in
    let count : c.args.self.count ≡ length bytes = ap (λ (e : Excerpt). e.count) is in
    made _ _ _ _ _ _ (ap (λ (n : ℕ). n + length piece) count ∙ sym (length-append bytes piece))
    (c.write_front.ensures bytes (ap (λ (e : Excerpt). e.front) is) count)
    (c.write_back.ensures ∙ ap (λ (e : Excerpt). drop (length piece) (e.back ++ piece)) is ∙ back_more bytes piece)
