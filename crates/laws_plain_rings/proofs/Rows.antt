-- Pages one after another in the available ring, and in the used ring.
use Rattle.std.proofs.Common.{◌≡◌, ℕ, ◌+◌, ◌%◌, ◌<◌, ◌≤◌, List, [], ◌∷◌, ◌++◌, length, refl, ◌∙◌, subst, arith}
use Rattle.vs_ring_port.specs.declared.queue.Queue.{Queue}
use Rattle.laws_plain_rings.{specs.{Queue.{AreBack, AreOut, IsBack, IsOut, times}, Shown.Shown}, proofs.{Counting.{here, there}, Modulo.further}}

-- a descriptor and its page are what they were
pub record IsSameAt (s new : Shown) (id : ℕ) : Type 0 where
  pub desc : new.desc id ≡ s.desc id
  pub page : (c : ℕ) → c ≤ 4096 → new.page id c ≡ s.page id c

-- the pages staged and given
module _ (queue : Queue) (n at : ℕ) where
  pub out_length : (s : Shown) (index : ℕ) (pages : List (List ℕ)) (ids : List ℕ) → AreOut queue n at s index pages ids
      → length ids ≡ length pages
  out_length s index [] [] all = refl
  out_length s index (page ∷ pages) (id ∷ ids) (one, all) = omega (arith, out_length s (index + 1) pages ids all)
  out_length s index _ _ all = absurd all

  pub out_kept : (s new : Shown) (index : ℕ) (pages : List (List ℕ)) (ids : List ℕ) → AreOut queue n at s index pages ids
      → ((i : ℕ) → i < length pages → new.entry ((index + i) % n) ≡ s.entry ((index + i) % n))
      → ((id : ℕ) → 0 < times id ids → IsSameAt s new id) → AreOut queue n at new index pages ids
  out_kept s new index [] [] all entries same = tt
  out_kept s new index (page ∷ pages) (id ∷ ids) (one, all) entries same =
      let at_id = same id (here id ids) in (
        record {
          entry = subst (λ (x : ℕ). new.entry (x % n) ≡ s.entry (x % n)) (omega arith) (entries 0 (omega arith)) ∙ one.entry;
          desc = at_id.desc ∙ one.desc;
          bytes = at_id.page (length page) one.fits ∙ one.bytes;
          fits = one.fits;
          header = one.header;
          packet = one.packet;
        },
        out_kept s new (index + 1) pages ids all
            (λ i less. subst (λ (x : ℕ). new.entry (x % n) ≡ s.entry (x % n)) (omega arith) (entries (i + 1) (omega (arith, less))))
            (λ j some. same j (there j id ids some)),
      )
  out_kept s new index _ _ all entries same = absurd all

  pub out_index : (s : Shown) (index other : ℕ) (pages : List (List ℕ)) (ids : List ℕ) → index % n ≡ other % n
      → AreOut queue n at s index pages ids → AreOut queue n at s other pages ids
  out_index s index other [] [] same all = tt
  out_index s index other (page ∷ pages) (id ∷ ids) same (one, all) = (
    subst (λ (x : ℕ). IsOut queue at s x page id) same one,
    out_index s (index + 1) (other + 1) pages ids (further n index other 1 same) all,
  )
  out_index s index other _ _ same all = absurd all

  pub out_push : (s : Shown) (index : ℕ) (pages : List (List ℕ)) (ids : List ℕ) (page : List ℕ) (id : ℕ)
      → AreOut queue n at s index pages ids → IsOut queue at s ((index + length pages) % n) page id
      → AreOut queue n at s index (pages ++ page ∷ []) (ids ++ id ∷ [])
  out_push s index [] [] page id all one = (subst (λ (x : ℕ). IsOut queue at s (x % n) page id) (omega arith) one, tt)
  out_push s index (p ∷ pages) (i ∷ ids) page id (first, all) one = (
    first,
    out_push s (index + 1) pages ids page id all (subst (λ (x : ℕ). IsOut queue at s (x % n) page id) (omega arith) one),
  )
  out_push s index _ _ page id all one = absurd all

-- the pages returned
module _ (n : ℕ) where
  pub back_length : (s : Shown) (index : ℕ) (pages : List (List ℕ)) (ids : List ℕ) → AreBack n s index pages ids
      → length ids ≡ length pages
  back_length s index [] [] all = refl
  back_length s index (page ∷ pages) (id ∷ ids) (one, all) = omega (arith, back_length s (index + 1) pages ids all)
  back_length s index _ _ all = absurd all

  pub back_kept : (s new : Shown) (index : ℕ) (pages : List (List ℕ)) (ids : List ℕ) → AreBack n s index pages ids
      → ((i : ℕ) → i < length pages → new.elem ((index + i) % n) ≡ s.elem ((index + i) % n))
      → ((id : ℕ) → 0 < times id ids → IsSameAt s new id) → AreBack n new index pages ids
  back_kept s new index [] [] all elems same = tt
  back_kept s new index (page ∷ pages) (id ∷ ids) (one, all) elems same =
      let at_id = same id (here id ids) in (
        record {
          elem = subst (λ (x : ℕ). new.elem (x % n) ≡ s.elem (x % n)) (omega arith) (elems 0 (omega arith)) ∙ one.elem;
          bytes = at_id.page (length page) one.fits ∙ one.bytes;
          fits = one.fits;
        },
        back_kept s new (index + 1) pages ids all
            (λ i less. subst (λ (x : ℕ). new.elem (x % n) ≡ s.elem (x % n)) (omega arith) (elems (i + 1) (omega (arith, less))))
            (λ j some. same j (there j id ids some)),
      )
  back_kept s new index _ _ all elems same = absurd all

  pub back_index : (s : Shown) (index other : ℕ) (pages : List (List ℕ)) (ids : List ℕ) → index % n ≡ other % n
      → AreBack n s index pages ids → AreBack n s other pages ids
  back_index s index other [] [] same all = tt
  back_index s index other (page ∷ pages) (id ∷ ids) same (one, all) = (
    subst (λ (x : ℕ). IsBack s x page id) same one,
    back_index s (index + 1) (other + 1) pages ids (further n index other 1 same) all,
  )
  back_index s index other _ _ same all = absurd all

  pub back_push : (s : Shown) (index : ℕ) (pages : List (List ℕ)) (ids : List ℕ) (page : List ℕ) (id : ℕ)
      → AreBack n s index pages ids → IsBack s ((index + length pages) % n) page id
      → AreBack n s index (pages ++ page ∷ []) (ids ++ id ∷ [])
  back_push s index [] [] page id all one = (subst (λ (x : ℕ). IsBack s (x % n) page id) (omega arith) one, tt)
  back_push s index (p ∷ pages) (i ∷ ids) page id (first, all) one = (
    first,
    back_push s (index + 1) pages ids page id all (subst (λ (x : ℕ). IsBack s (x % n) page id) (omega arith) one),
  )
  back_push s index _ _ page id all one = absurd all
