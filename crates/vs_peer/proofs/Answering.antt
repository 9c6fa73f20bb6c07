-- The OK line comes byte by byte.
use Rattle.std.proofs.Common.{◌≡◌, ◌≤◌, ◌<◌, ℕ, zero, suc, Bool, true, false, cond, List, [], ◌∷◌, ◌++◌, length, get_or, take, Option, refl, ap, sym, ◌∙◌, arith}
use Rattle.vs_contents.specs.Contents.{Relates}
use Rattle.vs_outside.specs.Host.{HostContents}
use Rattle.vs_uds.specs.{Reading.{fed, is_decided}, declared.ok.TheConstants.OK_MAX}
use Rattle.vs_peer.{specs.Passing.Moves, proofs.Streams.{relates_as, relates_then}}

one_byte : (out : List ℕ) (n : ℕ) → length out ≡ 1 → (n ≤ length out) × (0 < length out → 1 ≤ n) → take n out ≡ get_or out 0 0 ∷ []
one_byte [] n one some = absurd (omega (arith, one))
one_byte (x ∷ []) zero one some = absurd (omega (arith, some.1 (omega arith)))
one_byte (x ∷ []) (suc zero) one some = refl
one_byte (x ∷ []) (suc (suc n)) one some = absurd (omega (arith, some.0))
one_byte (x ∷ y ∷ ys) n one some = absurd (omega (arith, one))

added : (b : Bool) (line : List ℕ) (byte : ℕ) → b ≡ false → line ++ byte ∷ [] ≡ cond b line (line ++ byte ∷ [])
added true line byte h = cc
added false line byte h = refl

pub byte_came : (id : ℕ) (host mid after : Option HostContents) (out line line' : List ℕ) (n : ℕ) → length out ≡ 1 →
    (n ≤ length out) × (0 < length out → 1 ≤ n) → is_decided OK_MAX line ≡ false → line' ≡ fed OK_MAX line (get_or out 0 0) →
    Relates host mid (Moves id [] line false) → Relates mid after (Moves id [] (take n out) false) →
    Relates host after (Moves id [] line' false)
byte_came id host mid after out line line' n one some undecided fed passes came =
    let both = relates_then id [] [] line (take n out) false false host mid after passes came in
    let longer : line ++ take n out ≡ line' =
    ap (λ xs. line ++ xs) (one_byte out n one some) ∙ (added (is_decided OK_MAX line) line (get_or out 0 0) undecided ∙ sym fed) in
    relates_as id [] [] (line ++ take n out) line' false false host after both refl longer refl
