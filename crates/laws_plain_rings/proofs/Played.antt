-- Where each call's answer is determined, so is a conversation's.
use Rattle.std.proofs.lemmas.Grind.{common_steps}
use Rattle.std.proofs.Common.{arith, ◌≡◌, ℕ, ◌+◌, List, length, take, Option, refl, sym, ap, ◌∙◌, subst}
use Rattle.vs_contents.specs.{CallTree.{Ask, CallTree, Done, Leads, played}}
use Rattle.vs_ring_port.specs.{EndLog.{EndLog, log_loaded, log_reaped, log_taken}, declared.device_ring.Next.Next, Contents.{DeviceAnswer, DeviceCall, Given, PublishCid, Read}}
use Rattle.vs_ring_port.specs.{Contents.{Return, RingContents, Take, Write}, DriverCalls.{DriverAllows, DriverAnswer, DriverCall, DriverMoves, LoadCid, Publish, Reap, Stage}}
use Rattle.vs_ring_port.specs.{DriverCalls.driver_answer, Lists.{Rings, after_publish, after_return, next_at, oldest, queue_of}, DeviceCalls.{DeviceAllows, DeviceMoves}}
use Rattle.vs_ring_port.specs.DeviceCalls.{device_answer}
use Rattle.vs_ring_list.specs.Ends.{Ends}
use Rattle.laws_plain_rings.specs.Seen.{ShowsDevice, ShowsDriver}

-- a conversation, call by call
pub leads_played : {Call : Type 0} {Answer : Call → Type 0} {S T A : Type 0} (Allows : (call : Call) → Answer call → T → T → Type 0)
    (answer : (call : Call) → S → Answer call × S) (Seen : S → T → Type 0)
    → ((call : Call) (a : Answer call) (s : S) (c d : T) → Seen s c → Allows call a c d → ((answer call s).0
    ≡ a) × Seen (answer call s).1 d)
    → (tree : CallTree Call Answer A) (s : S) (c : T) (x : A) (d : T) → Seen s c → Leads Allows tree c x d
    → ((played answer tree s).0 ≡ x) × Seen (played answer tree s).1 d
leads_played Allows answer Seen each (Done y) s c x d seen (same, stays) = (same, subst (Seen s) stays seen)
leads_played {S = S} Allows answer Seen each (Ask call k) s c x d seen (a, m, allowed, rest) =
    let e = each call a s c m seen allowed in
    let r = leads_played Allows answer Seen each (k a) (answer call s).1 m x d e.1 rest in
    subst (λ b. ((played answer (k b) (answer call s).1).0 ≡ x) × Seen (played answer (k b) (answer call s).1).1 d) (sym e.0) r

-- what is exposed after a call of which it was before
driver_moved : (call : DriverCall) (a : DriverAnswer call) (P : Rings → Type 0) (f : Rings → Rings) (Q : EndLog → Type 0)
    (g : EndLog → EndLog) (w : Ends) (c d : RingContents) → ShowsDriver w c → DriverMoves call a P f Q g c d
    → P w.lists × Q w.driver × ShowsDriver (record w { lists = f w.lists; driver = g w.driver }) d
driver_moved call a P f Q g w c d shows m = grind (arith, common_steps)

device_moved : (call : DeviceCall) (a : DeviceAnswer call) (P : Rings → Type 0) (f : Rings → Rings) (Q : EndLog → Type 0)
    (g : EndLog → EndLog) (w : Ends) (c d : RingContents) → ShowsDevice w c → DeviceMoves call a P f Q g c d
    → P w.lists × Q w.device × ShowsDevice (record w { lists = f w.lists; device = g w.device }) d
device_moved call a P f Q g w c d shows m = grind (arith, common_steps)

-- the ends that the driver's lists and log are of, and the device's
abbrev by_driver : EndLog → Rings × EndLog → Ends
by_driver other s = record { lists = s.0; driver = s.1; device = other }

abbrev by_device : EndLog → Rings × EndLog → Ends
by_device other s = record { lists = s.0; driver = other; device = s.1 }

abbrev pub SeenByDriver : EndLog → Rings × EndLog → RingContents → Type 0
SeenByDriver other s c = ShowsDriver (by_driver other s) c

abbrev pub SeenByDevice : EndLog → Rings × EndLog → RingContents → Type 0
SeenByDevice other s c = ShowsDevice (by_device other s) c

pub driver_call : (other : EndLog) (call : DriverCall) (a : DriverAnswer call) (s : Rings × EndLog) (c d : RingContents)
    → SeenByDriver other s c → DriverAllows call a c d → ((driver_answer call s).0 ≡ a) × SeenByDriver other (driver_answer call s).1 d
driver_call other (Stage queue page) a s c d seen m =
    let r = driver_moved (Stage queue page) a _ _ _ _ (by_driver other s) c d seen m in (refl, r.2)
driver_call other (Publish queue) a s c d seen (pages, m) =
    let r = driver_moved (Publish queue) a _ _ _ _ (by_driver other s) c d seen m in
    (refl, subst (λ (ps : List (List ℕ)). SeenByDriver other (after_publish queue ps s.0, (driver_answer (Publish queue) s).1.1) d) r.1 r.2)
driver_call other (Reap queue) page s c d seen m =
    let r = driver_moved (Reap queue) page _ _ _ _ (by_driver other s) c d seen m in
    (sym r.0, subst (λ (o : Option (List ℕ)). SeenByDriver other ((driver_answer (Reap queue) s).1.0, log_reaped queue o s.1) d) r.0 r.2)
driver_call other LoadCid cid s c d seen m =
    let r = driver_moved LoadCid cid _ _ _ _ (by_driver other s) c d seen m in
    (sym r.0, subst (λ (n : ℕ). SeenByDriver other (s.0, log_loaded n s.1) d) r.0 r.2)

pub device_call : (other : EndLog) (call : DeviceCall) (a : DeviceAnswer call) (s : Rings × EndLog) (c d : RingContents)
    → SeenByDevice other s c → DeviceAllows call a c d → ((device_answer call s).0 ≡ a) × SeenByDevice other (device_answer call s).1 d
device_call other (Take queue) a s c d seen (page, m) =
    let r = device_moved (Take queue) a _ _ _ _ (by_device other s) c d seen m in
    let place : ℕ = (queue_of queue s.0).place in
    let answer : next_at queue place (oldest (queue_of queue s.0).given) ≡ a = ap (next_at queue place) (sym r.0.0) ∙ sym r.0.1 in (
      answer,
      subst (λ (n : Next). SeenByDevice other (
        (device_answer (Take queue) s).1.0,
        log_taken queue n (oldest (queue_of queue
            s.0).given) s.1,
      ) d) (sym answer)
          (subst (λ (o : Option (List ℕ)). SeenByDevice other ((device_answer (Take queue) s).1.0, log_taken queue a o s.1) d) r.0.0 r.2),
    )
device_call other (Read chain place count) a s c d seen m =
    let r = device_moved (Read chain place count) a (λ x. Unit {0}) (λ x. x) _ (λ l. l) (by_device other s) c d seen m in
    (sym r.1, r.2)
device_call other (Write chain place bytes) a s c d seen m =
    let r = device_moved (Write chain place bytes) a (λ x. Unit {0}) (λ x. x) (λ l. Unit {0}) _ (by_device other s) c d seen m in
    (refl, r.2)
device_call other (Return chain len) a s c d seen (bytes, m) =
    let r = device_moved (Return chain len) a (λ x. Unit {0}) _ _ _ (by_device other s) c d seen m in (
      refl,
      subst (λ (bs : List ℕ). SeenByDevice other (after_return chain.queue (take len bs) s.0, (device_answer (Return chain len) s).1.1) d)
          r.1 r.2,
    )
device_call other (Given queue) a s c d seen (held, m) =
    let r = device_moved (Given queue) a _ (λ x. x) _ (λ l. l) (by_device other s) c d seen m in
    (ap (λ n. length (queue_of queue s.0).given + n) (sym r.1) ∙ sym r.0, r.2)
device_call other (PublishCid cid) a s c d seen m =
    let r = device_moved (PublishCid cid) a (λ x. Unit {0}) _ (λ l. Unit {0}) _ (by_device other s) c d seen m in
    (refl, r.2)

module _ {A : Type 0} where
  pub driver_played : (tree : CallTree DriverCall DriverAnswer A) (w : Ends) (old new : RingContents) (x : A) → ShowsDriver w old
      → Leads DriverAllows tree old x new → let r = played driver_answer tree (w.lists, w.driver) in
      (r.0 ≡ x) × ShowsDriver (record w { lists = r.1.0; driver = r.1.1 }) new
  driver_played tree w old new x shows leads =
      leads_played DriverAllows driver_answer (SeenByDriver w.device) (driver_call w.device) tree (w.lists, w.driver) old x new shows leads

  pub device_played : (tree : CallTree DeviceCall DeviceAnswer A) (w : Ends) (old new : RingContents) (x : A) → ShowsDevice w old
      → Leads DeviceAllows tree old x new → let r = played device_answer tree (w.lists, w.device) in
      (r.0 ≡ x) × ShowsDevice (record w { lists = r.1.0; device = r.1.1 }) new
  device_played tree w old new x shows leads =
      leads_played DeviceAllows device_answer (SeenByDevice w.driver) (device_call w.driver) tree (w.lists, w.device) old x new shows leads

  pub driver_same : (tree : CallTree DriverCall DriverAnswer A) (w : Ends) (old new old2 new2 : RingContents) (x y : A) → ShowsDriver w old
      → ShowsDriver w old2 → Leads DriverAllows tree old x new → Leads DriverAllows tree old2 y new2
      → (x ≡ y) × (v : Ends) × ShowsDriver v new × ShowsDriver v new2
  driver_same tree w old new old2 new2 x y shows shows2 leads leads2 =
      let a = driver_played tree w old new x shows leads in
      let b = driver_played tree w old2 new2 y shows2 leads2 in (sym a.0 ∙ b.0, _, a.1, b.1)

  pub device_same : (tree : CallTree DeviceCall DeviceAnswer A) (w : Ends) (old new old2 new2 : RingContents) (x y : A) → ShowsDevice w old
      → ShowsDevice w old2 → Leads DeviceAllows tree old x new → Leads DeviceAllows tree old2 y new2
      → (x ≡ y) × (v : Ends) × ShowsDevice v new × ShowsDevice v new2
  device_same tree w old new old2 new2 x y shows shows2 leads leads2 =
      let a = device_played tree w old new x shows leads in
      let b = device_played tree w old2 new2 y shows2 leads2 in (sym a.0 ∙ b.0, _, a.1, b.1)
