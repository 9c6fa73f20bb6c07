-- Chains that the device holds, and what is written into them.
use Rattle.std.proofs.lemmas.Grind.{common_steps}
use Rattle.std.proofs.Common.{◌≡◌, ℕ, suc, ◌+◌, Bool, true, false, cond, List, [], ◌∷◌, ◌++◌, Contains, length, take, drop, Option, Some, None, refl, sym, ap, subst}
use Rattle.std.proofs.{Common.{◌∙◌, arith, IfSome}, lemmas.{List.take_at}}
use Rattle.vs_page.specs.Overwriting.{overwritten}
use Rattle.vs_ring_port.specs.{Chains.{Held, bytes_in, chains_of, same_chain, same_queue, with_bytes, without_held}, declared.queue.Queue.{TheVariants.{Rx}}}
use Rattle.vs_ring_port.specs.declared.device_ring.Chain.{Chain}
use Rattle.vs_device_parts.specs.Playing.{IsRxChain}
use Rattle.laws_device.{specs.Honest.{is_held, unwritten}, proofs.Ringing.same_self}

-- The chain is held; its bytes; the other chains that are held.
abbrev pub Holds : Chain → (List ℕ → Type 0) → (List Held → Type 0) → List Held → Type 0
Holds chain B P held = (is_held chain held ≡ true) × B (bytes_in chain held) × P (without_held chain held)

abbrev pub is_unwritten : List ℕ → Type 0
is_unwritten bytes = bytes ≡ []

-- The device's own chain is held, with nothing written into it, and these others.
abbrev pub Among : (List Held → Type 0) → Option Chain → List Held → Type 0
Among H None held = H held
Among H (Some chain) held = Holds chain is_unwritten H held

-- The chain was taken last, with this page; the device's own is among the others.
abbrev pub Behind : (List Held → Type 0) → Chain → List ℕ → Option Chain → List Held → Type 0
Behind H chain page o held = (rest : List Held) × (held ≡ record { chain = chain; bytes = page } ∷ rest) × Among H o rest

chain_is : (a b : Chain) → same_chain a b ≡ true → a ≡ b
chain_is a b is = grind (arith, common_steps)

pub held_there : (chain : Chain) (held : List Held) → is_held chain held ≡ true → Contains (chains_of held) chain
held_there chain [] is = absurd cc
held_there chain (h ∷ held) is = by (same_chain chain h.chain) refl is (held_there chain held)
  where
    by : (b : Bool) → same_chain chain h.chain ≡ b → cond b true (is_held chain held) ≡ true → (is_held chain held ≡ true → Contains (chains_of held) chain)
        → Contains (chains_of (h ∷ held)) chain
    by true same is rest = (0, omega arith, sym (chain_is chain h.chain same))
    by false same is rest = let more = rest is in let lt = more.1 in (suc more.0, omega (arith, lt), more.2)

-- The only chain.
pub alone : (o : Option Chain) (held : List Held) → Among (λ others. others ≡ []) o held → held ≡ unwritten o
alone None held among = among
alone (Some chain) [] among = absurd (let no = among.0 in cc)
alone (Some chain) (h ∷ held) among = by (same_chain chain h.chain) refl among
  where
    by : (b : Bool) → same_chain chain h.chain ≡ b → (cond b true (is_held chain held) ≡ true) × (cond b h.bytes (bytes_in chain held) ≡ [])
        × (cond b held (h ∷ without_held chain held) ≡ []) → h ∷ held ≡ record { chain = chain; bytes = [] } ∷ []
    by true same (there, bytes, rest) = ap (λ (xs : List Held). h ∷ xs) rest
        ∙ ap (λ (c : Chain). let x : Held = record { chain = c; bytes = h.bytes } in x ∷ []) (sym (chain_is chain h.chain same))
        ∙ ap (λ (b : List ℕ). let x : Held = record { chain = chain; bytes = b } in x ∷ []) bytes
    by false same (there, bytes, rest) = absurd cc

pub alone_so : (o : Option Chain) → Among (λ others. others ≡ []) o (unwritten o)
alone_so None = refl
alone_so (Some chain) = let same = same_self chain in rw same (refl, refl, refl)

-- A chain that was just taken.
pub taken_holds : (chain : Chain) (bytes : List ℕ) (B : List ℕ → Type 0) (P : List Held → Type 0) (held : List Held) → B bytes → P held
    → Holds chain B P (record { chain = chain; bytes = bytes } ∷ held)
taken_holds chain bytes B P held b p = let same = same_self chain in rw same (refl, b, p)

-- Chains of two queues are not the same.
apart : (c d : Chain) → c.queue ≡ Rx → same_queue d.queue Rx ≡ false → same_chain c d ≡ false
apart c d rx other = grind (arith, common_steps)

-- One chain of another queue more, written into, or less.
module _ (c d : Chain) (rx : c.queue ≡ Rx) (other : same_queue d.queue Rx ≡ false) where
  apart_from : (h : Held) → same_chain d h.chain ≡ true → same_chain c h.chain ≡ false
  apart_from h same = subst (λ (e : Chain). same_chain c e ≡ false) (chain_is d h.chain same) (apart c d rx other)

  kept_without : (held : List Held) → (is_held c (without_held d held) ≡ is_held c held) × (bytes_in c (without_held d held) ≡ bytes_in c held)
  kept_without [] = (refl, refl)
  kept_without (h ∷ held) = by (same_chain d h.chain) refl (kept_without held)
    where
      by : (b : Bool) → same_chain d h.chain ≡ b
          → (is_held c (without_held d held) ≡ is_held c held) × (bytes_in c (without_held d held) ≡ bytes_in c held)
          → let now : List Held = cond b held (h ∷ without_held d held) in (is_held c now ≡ is_held c (h ∷ held)) × (bytes_in c now ≡ bytes_in c (h ∷ held))
      by true same rest = let no = apart_from h same in rw no (refl, refl)
      by false same (there, bytes_are) = (ap (λ (b : Bool). cond (same_chain c h.chain) true b) there, ap (λ (b : List ℕ). cond (same_chain c h.chain) h.bytes b) bytes_are)

-- Where any others may be held.
module _ (H : List Held → Type 0) (all : (held : List Held) → H held) (d : Chain) (other : same_queue d.queue Rx ≡ false) where
  pub among_more : (o : Option Chain) (bytes : List ℕ) (held : List Held) → IfSome o IsRxChain → Among H o held → Among H o (record { chain = d; bytes = bytes } ∷ held)
  among_more None bytes held rx among = all _
  among_more (Some c) bytes held rx (there, empty, others) = let no = apart c d rx.0 other in rw no (there, empty, all _)

  pub among_without : (o : Option Chain) (held : List Held) → IfSome o IsRxChain → Among H o held → Among H o (without_held d held)
  among_without None held rx among = all _
  among_without (Some c) held rx (there, empty, others) = let kept = kept_without c d rx.0 other held in (kept.0 ∙ there, kept.1 ∙ empty, all _)

-- What was written into a chain that is held is read there.
module _ (c : Chain) (bytes : List ℕ) where
  pub written_there : (held : List Held) → is_held c held ≡ true → (is_held c (with_bytes c bytes held) ≡ true) × (bytes_in c (with_bytes c bytes held) ≡ bytes)
      × (without_held c (with_bytes c bytes held) ≡ without_held c held)
  written_there [] is = absurd cc
  written_there (h ∷ held) is = by (same_chain c h.chain) refl is (written_there held)
    where
      by : (b : Bool) → same_chain c h.chain ≡ b → cond b true (is_held c held) ≡ true
          → (is_held c held ≡ true → (is_held c (with_bytes c bytes held) ≡ true) × (bytes_in c (with_bytes c bytes held) ≡ bytes)
          × (without_held c (with_bytes c bytes held) ≡ without_held c held))
          → let now : List Held = cond b (record h { bytes = bytes } ∷ held) (h ∷ with_bytes c bytes held) in
          (is_held c now ≡ true) × (bytes_in c now ≡ bytes) × (without_held c now ≡ cond b held (h ∷ without_held c held))
      by true same is rest = rw same (refl, refl, refl)
      by false same is rest = let kept = rest is in rw same (kept.0, kept.1, ap (λ (xs : List Held). h ∷ xs) kept.2)

pub holds_written : (c : Chain) (B C : List ℕ → Type 0) (P : List Held → Type 0) (place : ℕ) (new : List ℕ) (held : List Held)
    → ((bytes : List ℕ) → B bytes → C (overwritten bytes place new)) → Holds c B P held → Holds c C P (with_bytes c (overwritten (bytes_in c held) place new) held)
holds_written c B C P place new held step (there, bytes, rest) =
    let now = written_there c (overwritten (bytes_in c held) place new) held there in
    (now.0, subst C (sym now.1) (step (bytes_in c held) bytes), subst P (sym now.2) rest)

pub first_written : (old new : List ℕ) (n : ℕ) → length new ≡ n → take n (overwritten old 0 new) ≡ new
first_written old new n len = take_at new (drop (0 + length new) old) n len

pub both_written : (old new more : List ℕ) (n : ℕ) → take n old ≡ new → length new ≡ n → take (n + length more) (overwritten old n more) ≡ new ++ more
both_written old new more n front len = grind (arith, common_steps)
