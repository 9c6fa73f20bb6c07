-- Standard rings whose ends are known.
use Rattle.std.{proofs.{Common.{◌≡◌, ℕ, length, Option, Some, refl, sym, ap, ◌∙◌, subst}, lemmas.List.length-replicate}, specs.Option.ForSome}
use Rattle.vs_guest_mem.specs.Memory.{Memory, zeroed}
use Rattle.vs_ring_list.specs.Ends.{Ends, IsQueueSize, empty_ends}
use Rattle.laws_plain_rings.specs.Exposed.{BothEnds, first_ends}
use Rattle.vs_plain_rings.specs.Counted.{AreCounted}
use Rattle.vs_both_ends.{specs.{Standard.memory_size, View.known}, proofs.Memory.known_at}

-- What both ends count.
pub counted_as : (b : BothEnds) (now : Ends) → known b.ends ≡ now → b.ends ≡ Some (known b.ends) → ForSome b.ends (AreCounted b.parts)
    → AreCounted b.parts now
counted_as b now seen is counted = subst (AreCounted b.parts) seen (counted (known b.ends) is)

-- The ends of rings just made.
pub new_ends : (n size : ℕ) (m : Memory) (o : Option Ends) → IsQueueSize n → size ≡ memory_size n → m ≡ zeroed 4096 size
    → o ≡ first_ends m 4096 n → o ≡ Some (empty_ends n)
new_ends n size m o sized exact zero is =
    is ∙ known_at n sized m (ap (λ (x : Memory). x.base) zero)
    (ap (λ (x : Memory). length x.bytes) zero ∙ (length-replicate _ _ ∙ exact))
    (ap (λ (x : Memory). x.changes) zero)

pub are_known : (o : Option Ends) (w : Ends) → o ≡ Some w → o ≡ Some (known o)
are_known o w is = subst (λ (x : Option Ends). x ≡ Some (known x)) (sym is) refl
