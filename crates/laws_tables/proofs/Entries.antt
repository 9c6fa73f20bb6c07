-- What each change of the entries does to a flow's ends.
use Rattle.std.proofs.Common.{◌≡◌, ℕ, zero, suc, ◌+◌, ◌-◌, length, drop, Bool, true, false, ◌||◌, if◌then◌else◌, List, [], ◌∷◌, ◌++◌, refl, sym, ap, ◌∙◌, arith}
use Rattle.std.proofs.lemmas.Grind.{common_steps}
use Rattle.vs_conn.specs.End.{ConnectionEnd}
use Rattle.vs_flow.specs.{CleanPairs.{kept, of_host}, Flow.{is_host, same_flow}, declared.flow.Flow.Flow}
use Rattle.vs_limits.specs.declared.TheConstants.{CLEAN_PAIRS}
use Rattle.vs_replies.specs.declared.Reply.{Reply}
use Rattle.laws_tables.specs.Ends.{AreDistinct, FlowEnd, ends_of, flows_of, is_among, replaced, replied, replies_of, without, without_flow}
use Rattle.vs_page.proofs.Flows.{same_self, same_is}

-- Flows that are one, and another.
pub other_of : (f g h : Flow) → same_flow f g ≡ false → same_flow g h ≡ true → same_flow f h ≡ false
other_of f g h other is = let e = same_is g h is in grind (arith, common_steps)

replaced_none : (f : Flow) (e : ConnectionEnd) (xs : List FlowEnd) → ends_of f xs ≡ [] → ends_of f (replaced f e xs) ≡ []
replaced_none f e [] none = refl
replaced_none f e (x ∷ xs) none = let rest = replaced_none f e xs in grind (arith, common_steps)

pub replaced_same : (f : Flow) (e now : ConnectionEnd) (xs : List FlowEnd) → ends_of f xs ≡ e ∷ []
    → ends_of f (replaced f now xs) ≡ now ∷ []
replaced_same f e now [] one = absurd cc
replaced_same f e now (x ∷ xs) one =
    let rest = replaced_same f e now xs in
    let none = replaced_none f now xs in
    grind (arith, common_steps)

pub replaced_other : (f g : Flow) (e : ConnectionEnd) (xs : List FlowEnd) → same_flow g f ≡ false
    → ends_of g (replaced f e xs) ≡ ends_of g xs
replaced_other f g e [] other = refl
replaced_other f g e (x ∷ xs) other =
    let one = other_of g f x.flow other in
    let rest = replaced_other f g e xs other in
    grind (arith, common_steps)

pub without_same : (f : Flow) (xs : List FlowEnd) → ends_of f (without_flow f xs) ≡ []
without_same f [] = refl
without_same f (x ∷ xs) = let rest = without_same f xs in grind (arith, common_steps)

pub without_other : (f g : Flow) (xs : List FlowEnd) → same_flow g f ≡ false → ends_of g (without_flow f xs) ≡ ends_of g xs
without_other f g [] other = refl
without_other f g (x ∷ xs) other =
    let one = other_of g f x.flow other in
    let rest = without_other f g xs other in
    grind (arith, common_steps)

pub ends_append : (f : Flow) (xs ys : List FlowEnd) → ends_of f (xs ++ ys) ≡ ends_of f xs ++ ends_of f ys
ends_append f [] ys = refl
ends_append f (x ∷ xs) ys = let rest = ends_append f xs ys in grind (arith, common_steps)

pub added_same : (f : Flow) (e : ConnectionEnd) (xs : List FlowEnd) → ends_of f xs ≡ []
    → ends_of f (xs ++ record { flow = f; end = e } ∷ []) ≡ e ∷ []
added_same f e xs none =
    let all = ends_append f xs (record { flow = f; end = e } ∷ []) in
    let own = same_self f in
    grind (arith, common_steps)

pub added_other : (f g : Flow) (e : ConnectionEnd) (xs : List FlowEnd) → same_flow g f ≡ false
    → ends_of g (xs ++ record { flow = f; end = e } ∷ []) ≡ ends_of g xs
added_other f g e [] other = rw other refl
added_other f g e (x ∷ xs) other = let rest = added_other f g e xs other in grind (arith, common_steps)

pub among_append : (f : Flow) (fs gs : List Flow) → is_among f (fs ++ gs) ≡ (is_among f fs || is_among f gs)
among_append f [] gs = refl
among_append f (h ∷ fs) gs = let rest = among_append f fs gs in grind (arith, common_steps)

pub among_last : (f : Flow) (fs : List Flow) → is_among f (fs ++ f ∷ []) ≡ true
among_last f fs = let all = among_append f fs (f ∷ []) in let own = same_self f in grind (arith, common_steps)

pub among_other : (f g : Flow) (fs : List Flow) → same_flow g f ≡ false → is_among g (fs ++ f ∷ []) ≡ is_among g fs
among_other f g fs other = let all = among_append g fs (f ∷ []) in grind (arith, common_steps)

-- A flow is among those of the entries where it has an end.
pub among_flows : (f : Flow) (xs : List FlowEnd) → ends_of f xs ≡ [] → is_among f (flows_of xs) ≡ false
among_flows f [] none = refl
among_flows f (x ∷ xs) none = let rest = among_flows f xs in grind (arith, common_steps)

-- The flows of replies.
pub replied_append : (rs more : List Reply) → replied (rs ++ more) ≡ replied rs ++ replied more
replied_append rs more = grind (arith, common_steps)

pub replied_of : (xs : List FlowEnd) → replied (replies_of xs) ≡ flows_of xs
replied_of [] = refl
replied_of (x ∷ xs) = ap (λ (fs : List Flow). x.flow ∷ fs) (replied_of xs)

-- Flows that are kept.
drop_among : (f : Flow) (n : ℕ) (fs : List Flow) → is_among f (drop n fs) ≡ true → is_among f fs ≡ true
drop_among f zero fs is = is
drop_among f (suc n) [] is = is
drop_among f (suc n) (g ∷ gs) is = let rest = drop_among f n gs is in grind (arith, common_steps, rest)

pub kept_among : (f g : Flow) (fs : List Flow) → is_among g (kept CLEAN_PAIRS f fs) ≡ true → same_flow g f ≡ false → is_among g fs ≡ true
kept_among f g fs is other =
    let n : ℕ = length fs + 1 - CLEAN_PAIRS in drop_among g n fs (sym (among_other f g (drop n fs) other) ∙ is)

pub without_among : (f g : Flow) (fs : List Flow) → is_among g (without f fs) ≡ true → is_among g fs ≡ true
without_among f g [] is = is
without_among f g (h ∷ fs) is =
    let rest : is_among g (without f fs) ≡ true → is_among g fs ≡ true = without_among f g fs in grind (arith, common_steps, is)

pub without_own : (f : Flow) (fs : List Flow) → is_among f (without f fs) ≡ false
without_own f [] = refl
without_own f (g ∷ fs) = let rest = without_own f fs in grind (arith, common_steps)

-- Flows that are distinct stay so.
not_then : (now was : Bool) → (now ≡ true → was ≡ true) → was ≡ false → now ≡ false
not_then now was keeps none = grind (arith, common_steps)

pub without_none : (f : Flow) (fs : List Flow) → is_among f fs ≡ false → without f fs ≡ fs
without_none f [] none = refl
without_none f (g ∷ gs) none = by (same_flow f g) refl (without_none f gs)
  where
    by : (b : Bool) → same_flow f g ≡ b → (is_among f gs ≡ false → without f gs ≡ gs) → without f (g ∷ gs) ≡ g ∷ gs
    by true same rest = let no : true ≡ false = sym (rw same refl) ∙ none in absurd cc
    by false other rest = rw other (ap (λ hs. g ∷ hs) (rest (rw other at none)))

without_by : (f g : Flow) (gs : List Flow) (b : Bool) → is_among g gs ≡ false → AreDistinct (without f gs)
    → AreDistinct (if b then without f gs else g ∷ without f gs)
without_by f g gs true none d = d
without_by f g gs false none d = (not_then (is_among g (without f gs)) (is_among g gs) (without_among f g gs) none, d)

pub without_distinct : (f : Flow) (fs : List Flow) → AreDistinct fs → AreDistinct (without f fs)
without_distinct f [] d = tt
without_distinct f (g ∷ gs) d = without_by f g gs (same_flow f g) d.0 (without_distinct f gs d.1)

same_back : (f g : Flow) → same_flow f g ≡ false → same_flow g f ≡ false
same_back = grind (arith, common_steps)

or_parts : (a b : Bool) → (a || b) ≡ false → (a ≡ false) × (b ≡ false)
or_parts = grind (arith, common_steps)

last_distinct : (f : Flow) (fs : List Flow) → is_among f fs ≡ false → AreDistinct fs → AreDistinct (fs ++ f ∷ [])
last_distinct f [] none d = (refl, tt)
last_distinct f (g ∷ gs) none d =
    let two = or_parts (same_flow f g) (is_among f gs) none in
    (among_other f g gs (same_back f g two.0) ∙ d.0, last_distinct f gs two.1 d.1)

drop_distinct : (n : ℕ) (fs : List Flow) → AreDistinct fs → AreDistinct (drop n fs)
drop_distinct zero fs d = d
drop_distinct (suc n) [] d = tt
drop_distinct (suc n) (g ∷ gs) d = drop_distinct n gs d.1

pub kept_distinct : (f : Flow) (fs : List Flow) → is_among f fs ≡ false → AreDistinct fs → AreDistinct (kept CLEAN_PAIRS f fs)
kept_distinct f fs none d =
    let n : ℕ = length fs + 1 - CLEAN_PAIRS in
    last_distinct f (drop n fs) (not_then (is_among f (drop n fs)) (is_among f fs) (drop_among f n fs) none) (drop_distinct n fs d)

-- Flows between the guest and the host.
pub host_among : (f : Flow) (fs : List Flow) → is_among f (of_host fs) ≡ true → is_among f fs ≡ true
host_among f [] is = is
host_among f (g ∷ gs) is =
    let rest : is_among f (of_host gs) ≡ true → is_among f gs ≡ true = host_among f gs in grind (arith, common_steps, is)

pub host_unkept : (f : Flow) (fs : List Flow) → is_among f fs ≡ false → is_among f (of_host fs) ≡ false
host_unkept f fs none = not_then (is_among f (of_host fs)) (is_among f fs) (host_among f fs) none

host_by : (g : Flow) (gs : List Flow) (b : Bool) → is_among g gs ≡ false → AreDistinct (of_host gs)
    → AreDistinct (if b then g ∷ of_host gs else of_host gs)
host_by g gs true none d = (host_unkept g gs none, d)
host_by g gs false none d = d

pub host_distinct : (fs : List Flow) → AreDistinct fs → AreDistinct (of_host fs)
host_distinct [] d = tt
host_distinct (g ∷ gs) d = host_by g gs (is_host g) d.0 (host_distinct gs d.1)
