-- How the connections that are gone change at the place of an id.
use Rattle.std.proofs.Common.{◌≡◌, ◌≢◌, ℕ, zero, suc, ◌==◌, Bool, true, false, cond, Option, List, [], ◌∷◌, drop, map, get_or, set, Some, None, refl, sym, ap, ap₂, ◌∙◌}
use Rattle.std.specs.List.{AllPairs, find, remove, position}
use Rattle.vs_driver_parts.{specs.{State.GoneConnection, Connections.{all_gone_after_read, gone_after_read, without_gone}}, proofs.Lists.{AtMostOnePasses, IsFirst, element_at}}
use Rattle.vs_driver_parts.proofs.Lists.{place_within, first_at, found_nowhere, passes_nowhere, passes_there, one_passes, changed_none, changed_one, kept_none, removed_one}

abbrev gone_read : ℕ → GoneConnection → GoneConnection
gone_read n g = record g { unread = drop n g.unread }

read_map : (id n : ℕ) (gone : List GoneConnection)
    → all_gone_after_read id n gone ≡ map (λ g. cond (g.id == id) (record g { unread = drop n g.unread }) g) gone
read_map id n [] = refl
read_map id n (g ∷ gs) = ap (λ (rest : List GoneConnection). gone_after_read id n g ∷ rest) (read_map id n gs)

-- a connection of which nothing is unread stays as it is
dropped : (n : ℕ) → drop {A = ℕ} n [] ≡ []
dropped zero = refl
dropped (suc n) = refl

emptied : (n : ℕ) (g : GoneConnection) → g.unread ≡ [] → gone_read n g ≡ g
emptied n g empty = ap (λ (bytes : List ℕ). let k : GoneConnection = record g { unread = bytes } in k) (ap (drop n) empty ∙ (dropped n ∙ sym empty))

empty_here : (b : Bool) (n : ℕ) (x g : GoneConnection) (o : Option GoneConnection) (rest xs : List GoneConnection) → cond b (Some x) o ≡ Some g
    → g.unread ≡ [] → (b ≡ true → rest ≡ xs) → (o ≡ Some g → rest ≡ xs) → cond b (gone_read n x) x ∷ rest ≡ x ∷ xs
empty_here true n x g o rest xs found empty here later =
    let same : x ≡ g = cc in
    ap₂ (λ (y : GoneConnection) (ys : List GoneConnection). y ∷ ys) (emptied n x (ap (λ (k : GoneConnection). k.unread) same ∙ empty)) (here refl)
empty_here false n x g o rest xs found empty here later = ap (λ (ys : List GoneConnection). x ∷ ys) (later found)

pub read_empty : (id n : ℕ) (gone : List GoneConnection) (g : GoneConnection) → AtMostOnePasses (λ x. x.id == id) gone
    → find (λ x. x.id == id) gone ≡ Some g → g.unread ≡ [] → all_gone_after_read id n gone ≡ gone
read_empty id n [] g one found empty = absurd (cc)
read_empty id n (x ∷ xs) g one found empty =
    empty_here (x.id == id) n x g (find (λ (y : GoneConnection). y.id == id) xs) (all_gone_after_read id n xs) xs found empty
    (λ here. read_map id n xs ∙ changed_none (λ (y : GoneConnection). y.id == id) (gone_read n) xs (one.0 here))
    (λ there. read_empty id n xs g one.1 there empty)

module _ (id : ℕ) (gone : List GoneConnection) where
  pub read_nowhere : (n : ℕ) → position (λ g. g.id == id) gone ≡ None → all_gone_after_read id n gone ≡ gone
  read_nowhere n none =
      read_map id n gone
      ∙ changed_none (λ g. g.id == id) (λ g. record g { unread = drop n g.unread }) gone (passes_nowhere _ gone (found_nowhere (λ g. g.id == id) gone none))

  pub read_none : (n : ℕ) → find (λ g. g.id == id) gone ≡ None → all_gone_after_read id n gone ≡ gone
  read_none n none =
      read_map id n gone ∙ changed_none (λ g. g.id == id) (λ g. record g { unread = drop n g.unread }) gone (passes_nowhere (λ g. g.id == id) gone none)

  pub closed_nowhere : position (λ g. g.id == id) gone ≡ None → without_gone id gone ≡ gone
  closed_nowhere none = kept_none (λ g. g.id == id) gone (passes_nowhere _ gone (found_nowhere (λ g. g.id == id) gone none))

  pub closed_at : AllPairs (λ a b. a.id ≢ b.id) gone → (i : ℕ) → position (λ g. g.id == id) gone ≡ Some i → without_gone id gone ≡ remove gone i
  closed_at distinct i at =
      let g = element_at gone i (place_within (λ g. g.id == id) gone i at) in
      let first = first_at (λ g. g.id == id) gone i g.0 at g.1 in
      removed_one (λ g. g.id == id) gone i g.0
      (one_passes (λ g. g.id) id gone distinct) first.within (passes_there (λ g. g.id == id) gone i g.0 first.passes g.1)

  module _ (distinct : AllPairs (λ a b. a.id ≢ b.id) gone) (i : ℕ) (g : GoneConnection) (at : position (λ g. g.id == id) gone ≡ Some i) (is : g ≡ get_or gone i g) where
    pub first_gone : IsFirst (λ g. g.id == id) gone i g
    first_gone = first_at (λ g. g.id == id) gone i g at is

    pub read_there : (n : ℕ) (m : GoneConnection) → m ≡ record g { unread = drop n g.unread } → all_gone_after_read id n gone ≡ set gone i m
    read_there n m new =
        let there = changed_one (λ g. g.id == id) (λ g. record g { unread = drop n g.unread }) gone i g
        (one_passes (λ g. g.id) id gone distinct) first_gone.within (passes_there (λ g. g.id == id) gone i g first_gone.passes is) in
        read_map id n gone ∙ (there
        ∙ ap (λ (k : GoneConnection). set gone i (record k { unread = drop n k.unread })) (sym is) ∙ ap (λ (k : GoneConnection). set gone i k) (sym new))
