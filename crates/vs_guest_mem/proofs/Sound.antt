-- What an access leaves of the changes to come.
use Rattle.std.proofs.{Common.{◌≡◌, Bool, true, false, cond, List, [], ◌∷◌, length, All, IsTrue}, lemmas.List.Elements.{All-nil, All-cons, All-head, All-tail}}
use Rattle.std.specs.List.{retain_mut}
use Rattle.vs_guest_mem.specs.Memory.{Change, Memory, IsSound, is_inside, is_later, nearer}

-- what holds of each element, and of each that is changed, holds of those that are kept
All-retain_mut : {X : Type 0} (P : X → Type 0) (test : X → Bool) (change : X → X) → ((x : X) → P x → P (change x)) → (xs : List X)
    → All P xs → All P (retain_mut test change xs)
All-retain_mut P test change keeps [] all = All-nil P
All-retain_mut P test change keeps (x ∷ xs) all =
    let rest : All P (retain_mut test change xs) = All-retain_mut P test change keeps xs (All-tail P x xs all) in
    elim (test x) as (λ b. All P (cond b (change x ∷ retain_mut test change xs) (retain_mut test change xs))) [
      | true ↦ All-cons P (change x) (retain_mut test change xs) (keeps x (All-head P x xs all)) rest
      | false ↦ rest
    ]

-- where the changes that were due are gone and the others are nearer, those that are left still lie inside
pub sound_access : (old new : Memory) → IsSound old → new.base ≡ old.base → length new.bytes ≡ length old.bytes
    → new.changes ≡ retain_mut is_later nearer old.changes → IsSound new
sound_access old new sound base same left = record {
  fits = rw (base, same) sound.fits;
  inside = rw (base, same, left) (All-retain_mut (λ (c : Change). IsTrue (is_inside old c.addr (length c.bytes))) is_later nearer (λ x p. p)
      old.changes sound.inside);
}
