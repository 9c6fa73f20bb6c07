-- What each call does: it keeps registers in order, their limits, a queue that stays ready, and the features while FEATURES_OK stands.
use Rattle.std.{proofs.Common.{rules, arith, refl, ◌≡◌, ◌∙◌, ℕ, ◌==◌, Bool, true, false, cond, Option, Some, List, [], ◌∷◌}, specs.{List.AllByRecursion, Map.lookup}}
use Rattle.std.specs.Option.{unwrap_or}
use Rattle.vs_mmio.specs.{Queue.{queue_after, written}, Registers.{IsInOrder, IsReadyRightly, Call, Failed, Read, SetCid, Used, Write, after, after_write, at_selected, led_to}}
use Rattle.vs_mmio.specs.{Registers.writes, declared.{queue.{Limits.Limits, QueueRegs.QueueRegs, ReadyQueue.ReadyQueue}, regs.RegisterState.RegisterState}}

pub record IsStep (r s : RegisterState) : Type 0 where
  pub order : IsInOrder r → IsInOrder s
  pub limits : s.limits ≡ r.limits
  pub rx : r.rx.ready ≡ true → s.rx.ready ≡ true → s.rx ≡ r.rx
  pub tx : r.tx.ready ≡ true → s.tx.ready ≡ true → s.tx ≡ r.tx
  pub event : r.event.ready ≡ true → s.event.ready ≡ true → s.event ≡ r.event
  pub features : r.status.features_ok ≡ true → s.status.features_ok ≡ true → s.features ≡ r.features

-- the same of a queue
record IsQueueStep (l : Limits) (ok : Bool) (q s : QueueRegs) : Type 0 where
  rightly : IsReadyRightly l ok q → IsReadyRightly l ok s
  stays : q.ready ≡ true → s.ready ≡ true → s ≡ q

-- what holds of each entry of a table, and of what stands for none, holds at every offset
picked : {A : Type 0} (P : A → Type 0) (d x : A) (b : Bool) (o : Option A) → P x → P (unwrap_or o d) → P (unwrap_or (cond b (Some x) o) d)
picked P d x true o p q = p
picked P d x false o p q = q

at_each : {A : Type 0} (P : A → Type 0) (d : A) → P d → (test : ℕ → Bool) (rows : List (ℕ × A)) → AllByRecursion (λ row. P row.1) rows
    → P (unwrap_or (lookup test rows) d)
at_each P d none test [] each = none
at_each P d none test (row ∷ rows) each = picked P d row.1 (test row.0) (lookup test rows) each.0 (at_each P d none test rows each.1)

queue_step : (selected at_ready : Bool) (v : ℕ) (l : Limits) (ok : Bool) (q : QueueRegs) (p : ReadyQueue)
    → IsQueueStep l ok q (cond selected (cond at_ready (queue_after 0x044 v l ok q) (cond q.ready q (record q { place = p }))) q)
queue_step true true v l ok q p = record { rightly = λ right. search rules; stays = λ ready after. rw (after, ← ready) }
queue_step true false v l ok q p = record { rightly = λ right. grind arith; stays = λ ready _. rw ready }
queue_step false at_ready v l ok q p = record { rightly = λ right. right; stays = λ _ _. refl }

selected_step : (offset v : ℕ) (r : RegisterState) → IsStep r (at_selected (queue_after offset v r.limits r.status.features_ok) r)
selected_step offset v r =
    let s = λ (n : ℕ) (q : QueueRegs).
    queue_step (r.queue_sel == n) (offset == 0x044) v r.limits r.status.features_ok q (written offset v q.place) in
    search (rules, (s 0 r.rx).rightly, (s 1 r.tx).rightly, (s 2 r.event).rightly, (s 0 r.rx).stays, (s 1 r.tx).stays, (s 2 r.event).stays)

pub write_step : (offset v : ℕ) (r : RegisterState) → IsStep r (after_write offset v r)
write_step offset v r =
    at_each (λ f. IsStep r (f v r)) (λ v r. at_selected (queue_after offset v r.limits r.status.features_ok) r) (selected_step offset v r)
    (λ at. offset == at) writes (search rules)

pub step : (call : Call) (r : RegisterState) → IsStep r (after call r)
step (Read offset width) r = search rules
step (Write offset v) r = write_step offset v r
step (SetCid cid) r = search rules
step Failed r = search rules
step Used r = search rules

pub in_order : (cid : ℕ) (l : Limits) (calls : List Call) → IsInOrder (led_to cid l calls)
in_order cid l [] = search rules
in_order cid l (call ∷ calls) = (step call (led_to cid l calls)).order (in_order cid l calls)

pub limits_stay : (cid : ℕ) (l : Limits) (calls : List Call) → (led_to cid l calls).limits ≡ l
limits_stay cid l [] = refl
limits_stay cid l (call ∷ calls) = (step call (led_to cid l calls)).limits ∙ limits_stay cid l calls
