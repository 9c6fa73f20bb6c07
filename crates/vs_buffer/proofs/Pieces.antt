-- The bytes of a queue that moved to the front, and those that were put behind them.
use Rattle.std.proofs.Common.{◌≡◌, ℕ, ◌+◌, ◌-◌, ◌≤◌, List, ◌++◌, length, take, drop, sym, ap, ◌∙◌, arith, length-take, length-drop, append_assoc}
use Rattle.std.proofs.{lemmas.List.drop-append-le, lemmas.List.drop-take, Math.Seq.take-append_seam}

-- a copy of a piece at the front is the piece
pub copied : (start end : ℕ) (old new rest more : List ℕ) → start ≤ end → end ≤ length old → new ≡ take (end - start) (drop start old)
    → take (end - start) (new ++ rest ++ more) ≡ drop start (take end old)
copied start end old new rest more le within same =
    let count : length new ≡ end - start = rw same (grind (arith, length-take, length-drop, le, within)) in
    let whole : start + (end - start) ≡ end = omega (arith, le) in
    ap (λ bytes. take (end - start) bytes) (append_assoc new rest more) ∙ ap (λ k. take k (new ++ (rest ++ more))) (sym count)
    ∙ take-append_seam new (rest ++ more) ∙ same ∙ sym (drop-take start (end - start) old)
    ∙ ap (λ k. drop start (take k old)) whole

-- what is put behind a piece makes it longer
pub longer : (start end : ℕ) (before after more : List ℕ) → start ≤ end → end ≤ length before
    → take (end + length more) after ≡ take end before ++ more
    → drop start (take (end + length more) after) ≡ drop start (take end before) ++ more
longer start end before after more le within put =
    let inside : start ≤ length (take end before) = grind (arith, length-take, le, within) in
    ap (λ bytes. drop start bytes) put ∙ drop-append-le start (take end before) more inside
