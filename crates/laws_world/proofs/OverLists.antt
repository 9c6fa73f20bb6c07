-- Over list rings each conversation of the driver's has one end.
use Rattle.std.proofs.{Common.{◌≡◌, Some, None, refl, sym, ap, subst, ◌∙◌, arith}, lemmas.Grind.common_steps}
use Rattle.vs_contents.specs.CallTree.{Done, Ask, Leads, played}
use Rattle.vs_ring_port.specs.{DriverCalls.{DriverCall, DriverAnswer, Publish, DriverAllows, DriverMoves, driver_answer}, Contents.RingContents, EndLog.EndLog, Lists.Rings}
use Rattle.vs_ring_list.{specs.Ends.{Ends, driver_contents}, proofs.Determined.driver_determined}
use Rattle.vs_driver_parts.specs.{Conversations.DriverTree, Playing.{RingAllows, Plays}}
use Rattle.laws_driver.proofs.Shown.{ring_allows}
use Rattle.laws_world.specs.Over.{over_lists}

-- What list rings expose after a call of the driver's.
record IsMiddle (v : Ends) (m : RingContents) : Type 0 where
  ends : Ends
  is : m ≡ driver_contents ends
  device : ends.device ≡ v.device

moved : (call : DriverCall) (a : DriverAnswer call) (P : Rings → Type 0) (f : Rings → Rings) (Q : EndLog → Type 0) (g : EndLog → EndLog) (v : Ends)
    (m : RingContents) → DriverMoves call a P f Q g (driver_contents v) m → IsMiddle v m
moved call a P f Q g v m d =
    let lists : m.lists ≡ Some (f v.lists) = d.lists.1 in
    let log : m.log ≡ Some (g v.driver) = d.log.1 in
    let after : Ends = record { lists = f v.lists; driver = g v.driver; device = v.device } in
    record {
      ends = after;
      is =
          ap (λ x. record { lists = x; log = m.log; other = m.other; plain = m.plain; known = m.known; honest = m.honest }) lists
          ∙ (ap (λ x. record { lists = Some (f v.lists); log = x; other = m.other; plain = m.plain; known = m.known; honest = m.honest }) log
          ∙ (ap (λ x. record { lists = Some (f v.lists); log = Some (g v.driver); other = x; plain = m.plain; known = m.known; honest = m.honest }) d.other
          ∙ (ap (λ x. record { lists = Some (f v.lists); log = Some (g v.driver); other = Some v.device; plain = x; known = m.known; honest = m.honest }) d.plain
          ∙ (ap (λ x. record { lists = Some (f v.lists); log = Some (g v.driver); other = Some v.device; plain = None; known = x; honest = m.honest }) d.known
          ∙ ap (λ x. record { lists = Some (f v.lists); log = Some (g v.driver); other = Some v.device; plain = None; known = None; honest = x }) d.honest))));
      device = refl;
    }

middle : (call : DriverCall) (a : DriverAnswer call) (v : Ends) (m : RingContents) → DriverAllows call a (driver_contents v) m → IsMiddle v m
middle (Publish queue) a v m h = moved _ _ _ _ _ _ v m h.1
middle x a v m h = moved _ _ _ _ _ _ v m h

-- The end of a conversation from there, and what list rings expose then.
record IsEnd {A : Type 0} (v : Ends) (r : A × (Rings × EndLog)) (x : A) (t : RingContents) : Type 0 where
  answer : r.0 ≡ x
  contents : t ≡ driver_contents (record v { lists = r.1.0; driver = r.1.1 })

ends_at : {A : Type 0} (tree : DriverTree A) (v : Ends) (x : A) (t : RingContents) → Leads RingAllows tree (driver_contents v) x t
    → IsEnd v (played driver_answer tree (v.lists, v.driver)) x t
ends_at (Done y) v x t h = record { answer = h.0; contents = sym h.1 }
ends_at {A} (Ask call k) v x t h =
    let allows = ring_allows call h.0 (driver_contents v) h.1 h.2 in
    let m = middle call h.0 v h.1 allows in
    let next = subst (λ c. DriverAllows call h.0 (driver_contents v) c) m.is allows in
    let determined = driver_determined call h.0 v m.ends next in
    let rest = ends_at (k h.0) m.ends x t (subst (λ c. Leads RingAllows (k h.0) c x t) m.is h.3) in
    let same : IsEnd v (played driver_answer (k h.0) (m.ends.lists, m.ends.driver)) x t = record {
      answer = rest.answer;
      contents = rest.contents ∙ ap (λ d. driver_contents (record m.ends {
        lists = (played driver_answer (k h.0) (m.ends.lists, m.ends.driver)).1.0;
        driver = (played driver_answer (k h.0) (m.ends.lists, m.ends.driver)).1.1;
        device = d;
      })) m.device;
    } in
    let P : DriverAnswer call × (Rings × EndLog) → Type 0 = λ r. IsEnd v (played driver_answer (k r.0) r.1) x t in
    subst P (sym determined.0) same

-- Two rings that expose the same are the same.
exposed : (v w : Ends) → driver_contents v ≡ driver_contents w → v ≡ w
exposed v w same = grind (arith, common_steps)

-- A call of the driver's over list rings: what it leads to is what it is played to.
pub over : {A : Type 0} (tree : DriverTree A) (v w : Ends) (x : A) → Plays tree (driver_contents v) x (driver_contents w)
    → over_lists tree v ≡ (x, w)
over tree v w x h = grind (arith, common_steps, ends_at, exposed)
