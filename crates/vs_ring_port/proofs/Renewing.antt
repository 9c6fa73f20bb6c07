-- Chains that were held go back to the front of what was given.
use Rattle.std.proofs.Common.{◌≡◌, ◌<◌, ◌+◌, ◌-◌, ◌%◌, ℕ, Bool, true, false, if◌then◌else◌, cond, List, [], ◌∷◌, ◌++◌, length, arith, refl, sym, ap, ◌∙◌, append_assoc}
use Rattle.std.proofs.{Math.Nat.{add-mod_right, mod-add-mod, mod-eq_of_lt}, lemmas.List.{Sums.sum_by-cons, length-append}}
use Rattle.vs_ring_port.specs.{Chains.{Held, bytes_held, held_of, same_queue}, Lists.{Lists, Rings, after_renewal, after_take, all_given_back, given_back, queue_of}}
use Rattle.vs_ring_port.specs.declared.queue.Queue.{Queue, TheVariants.{Rx, Tx, Event}}

-- A fact of one queue's lists.
pub at_each : (P : Lists → Lists → Type 0) (queue : Queue) (held : List Held) (w : Rings)
    → P (queue_of queue w) (all_given_back queue w.size held (queue_of queue w)) → P (queue_of queue w) (queue_of queue (after_renewal held w))
at_each P Rx held w is = is
at_each P Tx held w is = is
at_each P Event held w is = is

pub given_again : (queue : Queue) (n : ℕ) (held : List Held) (q : Lists)
    → (all_given_back queue n held q).given ≡ bytes_held queue held ++ q.given
given_again queue n [] q = refl
given_again queue n (h ∷ held) q = by (same_queue queue h.chain.queue) (given_again queue n held)
  where
    by : (b : Bool) → ((r : Lists) → (all_given_back queue n held r).given ≡ bytes_held queue held ++ r.given)
        → (all_given_back queue n held (if b then given_back n h.bytes q else q)).given
        ≡ (if b then bytes_held queue held ++ h.bytes ∷ [] else bytes_held queue held) ++ q.given
    by true older = older (given_back n h.bytes q) ∙ sym (append_assoc (bytes_held queue held) (h.bytes ∷ []) q.given)
    by false older = older q

pub back_stays : (queue : Queue) (n : ℕ) (held : List Held) (q : Lists) → (all_given_back queue n held q).back ≡ q.back
back_stays queue n [] q = refl
back_stays queue n (h ∷ held) q = by (same_queue queue h.chain.queue) (back_stays queue n held)
  where
    by : (b : Bool) → ((r : Lists) → (all_given_back queue n held r).back ≡ r.back)
        → (all_given_back queue n held (if b then given_back n h.bytes q else q)).back ≡ q.back
    by true older = older (given_back n h.bytes q)
    by false older = older q

-- As many as are held.
as_many : (queue : Queue) (held : List Held) → length (bytes_held queue held) ≡ held_of queue held
as_many queue [] = refl
as_many queue (h ∷ held) =
    by (same_queue queue h.chain.queue) (as_many queue held) ∙ sym (sum_by-cons (λ (x : Held). cond (same_queue queue x.chain.queue) 1 0) h held)
  where
    by : (b : Bool) → length (bytes_held queue held) ≡ held_of queue held
        → length (if b then bytes_held queue held ++ h.bytes ∷ [] else bytes_held queue held) ≡ cond b 1 0 + held_of queue held
    by true older = let all = length-append (bytes_held queue held) (h.bytes ∷ []) in omega (arith, all, older)
    by false older = omega (arith, older)

pub count_given : (queue : Queue) (n : ℕ) (held : List Held) (q : Lists)
    → length (all_given_back queue n held q).given ≡ length q.given + held_of queue held
count_given queue n held q =
    let all = ap length (given_again queue n held q) in
    let both = length-append (bytes_held queue held) q.given in
    let many = as_many queue held in omega (arith, all, both, many)

-- The place before, and then the next one.
place_again : (n place : ℕ) → place < n → ((place + (n - 1)) % n + 1) % n ≡ place
place_again n place less =
    mod-add-mod (place + (n - 1)) n 1 ∙ ap (λ (x : ℕ). x % n) (let x : place + (n - 1) + 1 ≡ place + n = omega (arith, less) in x)
    ∙ add-mod_right place n ∙ mod-eq_of_lt less

pub take_again : (h : Held) (w : Rings) → let queue = h.chain.queue in (queue_of queue w).place < w.size
    → after_take queue (after_renewal (h ∷ []) w) ≡ w
take_again h w = by h.chain.queue
  where
    renewed : Queue → Rings
    renewed queue =
        let back : Queue → Lists = λ other. if same_queue other queue then given_back w.size h.bytes (queue_of other w) else queue_of other w in
        record w { rx = back Rx; tx = back Tx; event = back Event }

    by : (queue : Queue) → (queue_of queue w).place < w.size → after_take queue (renewed queue) ≡ w
    by Rx less = ap (λ (n : ℕ). record w { rx = record w.rx { place = n } }) (place_again w.size w.rx.place less)
    by Tx less = ap (λ (n : ℕ). record w { tx = record w.tx { place = n } }) (place_again w.size w.tx.place less)
    by Event less = ap (λ (n : ℕ). record w { event = record w.event { place = n } }) (place_again w.size w.event.place less)
