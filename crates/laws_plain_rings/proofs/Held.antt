-- Chains that the device holds, with their bytes.
use Rattle.std.proofs.lemmas.Grind.{common_steps}
use Rattle.std.proofs.Common.{◌≡◌, ℕ, zero, suc, ◌+◌, ◌<◌, ◌≤◌, Bool, true, false, cond, not, ◌&&◌, ◌==◌, List, [], ◌∷◌, length, map, get_or, Some, Contains, refl, sym, ap}
use Rattle.std.{proofs.{Common.{◌∙◌, subst, arith}, lemmas.{Bool.false≢true, List.Sums.sum_by-cons}}, specs.Prelude.count_by}
use Rattle.vs_ring_list.proofs.Held.{same_chain_is, same_chain_refl, same_queue_is, same_queue_refl}
use Rattle.vs_ring_port.specs.{Chains.{Held, bytes_in, held_of, same_chain, same_queue, with_bytes, without_held}, declared.{device_ring.Chain.Chain, queue.Queue.Queue}}
use Rattle.vs_ring_plain.specs.{Device.{HeldChain, hold_of, without_hold}}
use Rattle.laws_plain_rings.{specs.{Queue.times, Shown.Shown, Tie.{AreHeldAs, IsHeldAs, heads_of}}, proofs.{Counting.{here, times-cons, times-self}, Queues.turned}}

-- the first chain that is held, or a later one
hold_first : (c : Chain) (h : HeldChain) (held : List HeldChain) (hold : HeldChain) → hold_of c (h ∷ held) ≡ Some hold
    → same_chain c h.chain ≡ true → h ≡ hold
hold_first c h held hold is e = let some : Some h ≡ Some hold = subst (λ b. cond b (Some h) (hold_of c held) ≡ Some hold) e is in cc

hold_later : (c : Chain) (h : HeldChain) (held : List HeldChain) (hold : HeldChain) → hold_of c (h ∷ held) ≡ Some hold
    → same_chain c h.chain ≡ false → hold_of c held ≡ Some hold
hold_later c h held hold is e = subst (λ b. cond b (Some h) (hold_of c held) ≡ Some hold) e is

-- the first descriptor of a chain stands among those of its queue
pub heads_here : (h : HeldChain) (held : List HeldChain) → heads_of h.chain.queue (h ∷ held) ≡ h.head ∷ heads_of h.chain.queue held
heads_here h held = rw (same_queue_refl h.chain.queue) refl

-- what is counted of the heads one by one
module _ (f : List ℕ → ℕ) (f-cons : (x : ℕ) (xs : List ℕ) → f (x ∷ xs) ≡ f (x ∷ []) + f xs) where
  heads_sum : (q : Queue) (h : HeldChain) (held : List HeldChain)
      → f (heads_of q (h ∷ held)) ≡ cond (same_queue q h.chain.queue) (f (h.head ∷ [])) 0 + f (heads_of q held)
  heads_sum q h held = grind (arith, common_steps)

  -- the others of its queue are those without it
  heads_less : (c : Chain) (held : List HeldChain) (hold : HeldChain) → hold_of c held ≡ Some hold
      → f (heads_of c.queue held) ≡ f (hold.head ∷ []) + f (heads_of c.queue (without_hold c held))
  heads_less c [] hold is = absurd cc
  heads_less c (h ∷ held) hold is = by (λ e. heads_less c held hold e) (same_chain c h.chain) refl
    where
      by : (hold_of c held ≡ Some hold → f (heads_of c.queue held) ≡ f (hold.head ∷ []) + f (heads_of c.queue (without_hold c held)))
          → (b : Bool) → same_chain c h.chain ≡ b → f (heads_of c.queue (h ∷ held))
          ≡ f (hold.head ∷ []) + f (heads_of c.queue (cond b held (h ∷ without_hold c held)))
      by more true e =
          let same : same_queue c.queue h.chain.queue ≡ true =
          ap (λ (k : Chain). same_queue c.queue k.queue) (sym (same_chain_is c h.chain e)) ∙ same_queue_refl c.queue in
          heads_sum c.queue h held ∙ ap (λ b. cond b (f (h.head ∷ [])) 0 + f (heads_of c.queue held)) same
          ∙ ap (λ (x : HeldChain). f (x.head ∷ []) + f (heads_of c.queue held)) (hold_first c h held hold is e)
      by more false e =
          omega (arith, heads_sum c.queue h held, heads_sum c.queue h (without_hold c held), more (hold_later c h held hold is e))

heads_at : (q : Queue) (h : HeldChain) (held : List HeldChain) (j : ℕ)
    → times j (heads_of q (h ∷ held)) ≡ cond (same_queue q h.chain.queue) (times j (h.head ∷ [])) 0 + times j (heads_of q held)
heads_at q h held j = heads_sum (times j) (times-cons j) q h held

pub heads_length : (q : Queue) (h : HeldChain) (held : List HeldChain)
    → length (heads_of q (h ∷ held)) ≡ cond (same_queue q h.chain.queue) 1 0 + length (heads_of q held)
heads_length q h held = heads_sum length (λ x xs. omega arith) q h held

pub heads_without : (c : Chain) (held : List HeldChain) (hold : HeldChain) → hold_of c held ≡ Some hold → (j : ℕ)
    → times j (heads_of c.queue held) ≡ times j (hold.head ∷ []) + times j (heads_of c.queue (without_hold c held))
heads_without c held hold is j = heads_less (times j) (times-cons j) c held hold is

pub fewer_heads : (c : Chain) (held : List HeldChain) (hold : HeldChain) → hold_of c held ≡ Some hold
    → length (heads_of c.queue held) ≡ 1 + length (heads_of c.queue (without_hold c held))
fewer_heads c held hold is = heads_less length (λ x xs. omega arith) c held hold is

heads_some : (q : Queue) (h : HeldChain) (held : List HeldChain) (j : ℕ) → 0 < times j (heads_of q held)
    → 0 < times j (heads_of q (h ∷ held))
heads_some q h held j some = omega (arith, some, heads_at q h held j)

heads_first : (h : HeldChain) (held : List HeldChain) → 0 < times h.head (heads_of h.chain.queue (h ∷ held))
heads_first h held = subst (λ (xs : List ℕ). 0 < times h.head xs) (sym (heads_here h held)) (here h.head (heads_of h.chain.queue held))

-- where the pages begin at the same addresses and are what they were, so are the chains
module _ (at to : Queue → ℕ) (same_start : (q : Queue) → to q ≡ at q) where
  held_one : (s new : Queue → Shown) (h : HeldChain) (g : Held)
      → ((c : ℕ) → c ≤ 4096 → (new h.chain.queue).page h.head c ≡ (s h.chain.queue).page h.head c) → IsHeldAs at s h g → IsHeldAs to new h g
  held_one s new h g same one = grind (arith, common_steps)

  pub held_moved : (s new : Queue → Shown) (held : List HeldChain) (gs : List Held)
      → ((q : Queue) (id : ℕ) → 0 < times id (heads_of q held) → (c : ℕ) → c ≤ 4096 → (new q).page id c ≡ (s q).page id c)
      → AreHeldAs at s held gs → AreHeldAs to new held gs
  held_moved s new [] [] same all = tt
  held_moved s new [] (g ∷ gs) same all = absurd all
  held_moved s new (h ∷ held) [] same all = absurd all
  held_moved s new (h ∷ held) (g ∷ gs) same (one, all) = (
    held_one s new h g (same h.chain.queue h.head (heads_first h held)) one,
    held_moved s new held gs (λ q id some. same q id (heads_some q h held id some)) all,
  )

module _ (at : Queue → ℕ) where
  pub held_kept : (s new : Queue → Shown) (held : List HeldChain) (gs : List Held)
      → ((q : Queue) (id : ℕ) → 0 < times id (heads_of q held) → (c : ℕ) → c ≤ 4096 → (new q).page id c ≡ (s q).page id c)
      → AreHeldAs at s held gs → AreHeldAs at new held gs
  held_kept = held_moved at at (λ q. refl)

  -- a chain that is held
  pub record Found (s : Queue → Shown) (c : Chain) (held : List HeldChain) (gs : List Held) : Type 0 where
    pub hold : HeldChain
    pub entry : Held
    pub hold_is : hold_of c held ≡ Some hold
    pub bytes_is : bytes_in c gs ≡ entry.bytes
    pub lies : IsHeldAs at s hold entry
    pub chain_is : hold.chain ≡ c
    pub counted : 0 < times hold.head (heads_of c.queue held)

  pub found : (s : Queue → Shown) (c : Chain) (held : List HeldChain) (gs : List Held) → AreHeldAs at s held gs
      → Contains (map (λ (h : HeldChain). h.chain) held) c → Found s c held gs
  found s c [] gs all has = absurd (omega (arith, has.1))
  found s c (h ∷ held) [] all has = absurd all
  found s c (h ∷ held) (g ∷ gs) (one, all) has =
      by (λ e. found s c held gs all (later e has.0 has.1 has.2)) (same_chain c h.chain) refl
    where
      later : same_chain c h.chain ≡ false → (i : ℕ) → i < length (map (λ (x : HeldChain). x.chain) (h ∷ held))
          → get_or (map (λ (x : HeldChain). x.chain) (h ∷ held)) i c ≡ c → Contains (map (λ (x : HeldChain). x.chain) held) c
      later other zero within is = absurd (false≢true (sym other ∙ rw is (same_chain_refl c)))
      later other (suc i) within is = (i, omega (arith, within), is)

      same_test : same_chain c g.chain ≡ same_chain c h.chain
      same_test = ap (λ (k : Chain). same_chain c k) (sym one.chain)

      by : (same_chain c h.chain ≡ false → Found s c held gs) → (b : Bool) → same_chain c h.chain ≡ b → Found s c (h ∷ held) (g ∷ gs)
      by rest true e = record {
        hold = h;
        entry = g;
        hold_is = rw e refl;
        bytes_is = rw (same_test ∙ e) refl;
        lies = one;
        chain_is = sym (same_chain_is c h.chain e);
        counted = subst (λ (k : Chain). 0 < times h.head (heads_of k.queue (h ∷ held))) (sym (same_chain_is c h.chain e)) (heads_first
            h held);
      }
      by rest false e =
          let r = rest e in record {
            hold = r.hold;
            entry = r.entry;
            hold_is = rw e r.hold_is;
            bytes_is = rw (same_test ∙ e) r.bytes_is;
            lies = r.lies;
            chain_is = r.chain_is;
            counted = heads_some c.queue h held r.hold.head r.counted;
          }

  -- one is let go
  pub held_without : (s : Queue → Shown) (c : Chain) (held : List HeldChain) (gs : List Held) → AreHeldAs at s held gs
      → AreHeldAs at s (without_hold c held) (without_held c gs)
  held_without s c [] [] all = tt
  held_without s c [] (g ∷ gs) all = absurd all
  held_without s c (h ∷ held) [] all = absurd all
  held_without s c (h ∷ held) (g ∷ gs) (one, all) =
      subst (λ (k : Chain). AreHeldAs at s (cond (same_chain c h.chain) held (h ∷ without_hold c held))
      (cond (same_chain c k) gs (g ∷ without_held c gs))) one.chain (by (held_without s c held gs all) (same_chain c h.chain))
    where
      by : AreHeldAs at s (without_hold c held) (without_held c gs) → (b : Bool)
          → AreHeldAs at s (cond b held (h ∷ without_hold c held)) (cond b gs (g ∷ without_held c gs))
      by more true = all
      by more false = (one, more)

-- those of the other queues stay
pub heads_beside : (c : Chain) (held : List HeldChain) (q : Queue) → same_queue c.queue q ≡ false
    → heads_of q (without_hold c held) ≡ heads_of q held
heads_beside c [] q other = refl
heads_beside c (h ∷ held) q other = by (heads_beside c held q other) (same_chain c h.chain) refl
  where
    aside : (b : Bool) (x y : List ℕ) → b ≡ false → y ≡ cond b x y
    aside b x y off = rw off refl

    by : heads_of q (without_hold c held) ≡ heads_of q held → (b : Bool) → same_chain c h.chain ≡ b
        → heads_of q (cond b held (h ∷ without_hold c held)) ≡ heads_of q (h ∷ held)
    by more true e =
        let chain = same_chain_is c h.chain e in
        aside (same_queue q h.chain.queue) (h.head ∷ heads_of q held) (heads_of q held)
        (ap (λ (k : Chain). same_queue q k.queue) (sym chain) ∙ turned c.queue q other)
    by more false e = ap (λ (xs : List ℕ). cond (same_queue q h.chain.queue) (h.head ∷ xs) xs) more

-- how many are held
pub count_heads : (q : Queue) (held : List HeldChain) → count_by (λ (h : HeldChain). same_queue q h.chain.queue) held
    ≡ length (heads_of q held)
count_heads q [] = refl
count_heads q (h ∷ held) =
    sum_by-cons (λ (x : HeldChain). cond (same_queue q x.chain.queue) 1 0) h held
    ∙ ap (λ n. cond (same_queue q h.chain.queue) 1 0 + n) (count_heads q held) ∙ sym (heads_length q h held)

module _ (at : Queue → ℕ) where
  pub held_count : (s : Queue → Shown) (q : Queue) (held : List HeldChain) (gs : List Held) → AreHeldAs at s held gs
      → held_of q gs ≡ length (heads_of q held)
  held_count s q [] [] all = refl
  held_count s q [] (g ∷ gs) all = absurd all
  held_count s q (h ∷ held) [] all = absurd all
  held_count s q (h ∷ held) (g ∷ gs) (one, all) =
      sum_by-cons (λ (x : Held). cond (same_queue q x.chain.queue) 1 0) g gs
      ∙ ap (λ n. cond (same_queue q g.chain.queue) 1 0 + n) (held_count s q held gs all)
      ∙ ap (λ (k : Chain). cond (same_queue q k.queue) 1 0 + length (heads_of q held)) (sym one.chain) ∙ sym (heads_length q h held)

  -- each has one piece
  pub all_whole : (s : Queue → Shown) (q : Queue) (held : List HeldChain) (gs : List Held) → AreHeldAs at s held gs
      → count_by (λ (h : HeldChain). same_queue q h.chain.queue && not (length h.pieces == 1)) held ≡ 0
  all_whole s q [] [] all = refl
  all_whole s q [] (g ∷ gs) all = absurd all
  all_whole s q (h ∷ held) [] all = absurd all
  all_whole s q (h ∷ held) (g ∷ gs) (one, all) =
      sum_by-cons (λ (x : HeldChain). cond (same_queue q x.chain.queue && not (length x.pieces == 1)) 1 0) h held
      ∙ ap (λ n. cond (same_queue q h.chain.queue && not (length h.pieces == 1)) 1 0 + n) (all_whole s q held gs all)
      ∙ rw one.pieces (none (same_queue q h.chain.queue))
    where
      none : (b : Bool) → cond {A = ℕ} (b && false) 1 0 + 0 ≡ 0
      none true = refl
      none false = refl

  -- bytes are written into one
  pub held_written : (s new : Queue → Shown) (c : Chain) (bytes : List ℕ) (held : List HeldChain) (gs : List Held) (hold : HeldChain)
      → AreHeldAs at s held gs → hold_of c held ≡ Some hold → ((id : ℕ) → times id (heads_of c.queue held) ≤ 1)
      → ((q : Queue) (id : ℕ) → (same_queue q c.queue ≡ true → id ≡ hold.head → ⊥) → 0 < times id (heads_of q held) → (k : ℕ) → k ≤ 4096
      → (new q).page id k ≡ (s q).page id k)
      → (new c.queue).page hold.head (length bytes) ≡ bytes → length bytes ≤ 4096 → c.readable ≤ length bytes
      → AreHeldAs at new held (with_bytes c bytes gs)
  held_written s new c bytes [] gs hold all is once same written fits long = absurd cc
  held_written s new c bytes (h ∷ held) [] hold all is once same written fits long = absurd all
  held_written s new c bytes (h ∷ held) (g ∷ gs) hold (one, all) is once same written fits long =
      subst (λ (k : Chain). AreHeldAs at new (h ∷ held) (cond (same_chain c k) (record g { bytes = bytes } ∷ gs) (g ∷ with_bytes c
      bytes gs)))
      one.chain (by (λ is once same. held_written s new c bytes held gs hold all is once same written fits long) (same_chain c h.chain)
      refl)
    where
      Same : List HeldChain → Type 0
      Same held = (q : Queue) (id : ℕ) → (same_queue q c.queue ≡ true → id ≡ hold.head → ⊥) → 0 < times id (heads_of q held)
          → (k : ℕ) → k ≤ 4096
          → (new q).page id k ≡ (s q).page id k

      -- no other chain of the queue has its head
      alone : (b : Bool) → same_chain c h.chain ≡ b → (q : Queue) (id : ℕ)
          → 0 < times id (heads_of q (cond b held (h ∷ without_hold c held))) → same_queue q c.queue ≡ true → id ≡ hold.head → ⊥
      alone b e q id some queue head =
          let mine = subst (λ x. times hold.head (heads_of c.queue (h ∷ held)) ≡ times hold.head (hold.head ∷ []) + times hold.head
          (heads_of c.queue (cond x held (h ∷ without_hold c held)))) e (heads_without c (h ∷ held) hold is hold.head) in
          omega (
            arith,
            once hold.head,
            mine,
            times-self hold.head,
            subst (λ (r : Queue). 0 < times hold.head (heads_of r (cond b held (h ∷ without_hold c held)))) (same_queue_is q c.queue queue)
                (subst (λ (x : ℕ). 0 < times x (heads_of q (cond b held (h ∷ without_hold c held)))) head some),
          )

      by : (hold_of c held ≡ Some hold → ((id : ℕ) → times id (heads_of c.queue held) ≤ 1) → Same held
          → AreHeldAs at new held (with_bytes c bytes gs))
          → (b : Bool) → same_chain c h.chain ≡ b → AreHeldAs at new (h ∷ held) (cond b (record g { bytes = bytes } ∷ gs) (g ∷
          with_bytes c bytes gs))
      by more true e =
          let chain : h.chain ≡ c = sym (same_chain_is c h.chain e) in (
            record {
              chain = one.chain;
              pieces = one.pieces;
              bytes = ap (λ (x : HeldChain). (new h.chain.queue).page x.head (length bytes)) (hold_first c h held hold is e)
                  ∙ ap (λ (k : Chain). (new k.queue).page hold.head (length bytes)) chain ∙ written;
              fits = fits;
              room = one.room;
              readable = subst (λ (k : Chain). k.readable ≤ length bytes) (sym chain) long;
            },
            held_kept at s new held gs (λ q id some. same q id (alone true e q id some) (heads_some q h held id some)) all,
          )
      by more false e = (
        held_one at at (λ q. refl) s new h g (same h.chain.queue h.head
            (alone false e h.chain.queue h.head (heads_first h (without_hold c held))) (heads_first h held)) one,
        more (hold_later c h held hold is e) (λ id. omega (arith, once id, heads_at c.queue h held id))
            (λ q id other some. same q id other (heads_some q h held id some)),
      )
