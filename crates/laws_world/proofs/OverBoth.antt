-- Over list rings with a host in memory that isn't starved each conversation of the device's has one end.
use Rattle.std.proofs.lemmas.Grind.{common_steps}
use Rattle.std.{proofs.Common.{◌≡◌, ℕ, Bool, false, List, length, Option, Some, None, unwrap_or, refl, sym, ap, ap₂, subst, ◌∙◌, arith}}
use Rattle.vs_contents.specs.{CallTree.{Done, Ask, played}}
use Rattle.vs_flow.specs.declared.flow.Flow.{Flow}
use Rattle.vs_outside.specs.Host.{HostContents, after_accept, after_dial, after_label, after_read, after_write, after_shut_write, after_close, after_failed}
use Rattle.vs_outside.specs.{Host.{IsDialed, IsWritten}, declared.host_net.{Accepted.Accepted, Dialed.Dialed, StreamRead.StreamRead}}
use Rattle.vs_outside.specs.declared.host_net.StreamWrite.{StreamWrite}
use Rattle.vs_ring_port.specs.{Contents.{RingContents, DeviceCall, DeviceAnswer, Read, Write, PublishCid}, DeviceCalls.{DeviceAllows, DeviceMoves}, EndLog.EndLog, Lists.Rings}
use Rattle.vs_ring_list.{specs.Ends.{Ends, device_contents}, proofs.Determined.device_determined}
use Rattle.vs_device_parts.specs.Calls.{Call, Answer, Ring, Accept, Dial, Label, ReadStream, WriteStream, ShutWrite, CloseStream, Situation, DeviceTree, Allows, HostMoves}
use Rattle.vs_device_parts.specs.{Calls.IsReadOf, Playing.{Runs, situation}}
use Rattle.laws_device.proofs.Keeping.{Keeps}
use Rattle.laws_world.{proofs.{Flown.{LeavesDriver, leaves_stay, leaves_then, leaves_call}, Holding.{IsHeldFor, MayHold, kept_held}}, specs.Answers.{Around, answer_around}}
use Rattle.laws_world.specs.{Over.{beside, over_both}}
use Rattle.vs_outside.specs.declared.host_net.Accepted.TheVariants as accepted
use Rattle.vs_outside.specs.declared.host_net.Dialed.TheVariants as dialed
use Rattle.vs_outside.specs.declared.host_net.StreamRead.TheVariants as read
use Rattle.vs_outside.specs.declared.host_net.StreamWrite.TheVariants as write

-- What list rings expose after a call of the device's.
record IsMiddle (v : Ends) (m : RingContents) : Type 0 where
  ends : Ends
  is : m ≡ device_contents ends

goes : (call : DeviceCall) (a : DeviceAnswer call) (P : Rings → Type 0) (f : Rings → Rings) (Q : EndLog → Type 0) (g : EndLog → EndLog) (v : Ends) (m : RingContents)
    → DeviceMoves call a P f Q g (device_contents v) m → IsMiddle v m
goes call a P f Q g v m d =
    let lists : m.lists ≡ Some (f v.lists) = d.lists.1 in
    let log : m.log ≡ Some (g v.device) = d.log.1 in
    record {
      ends = record { lists = f v.lists; driver = v.driver; device = g v.device };
      is =
          ap (λ x. record { lists = x; log = m.log; other = m.other; plain = m.plain; known = m.known; honest = m.honest }) lists
          ∙ (ap (λ x. record { lists = Some (f v.lists); log = x; other = m.other; plain = m.plain; known = m.known; honest = m.honest }) log
          ∙ (ap (λ x. record { lists = Some (f v.lists); log = Some (g v.device); other = x; plain = m.plain; known = m.known; honest = m.honest }) d.other
          ∙ (ap (λ x. record { lists = Some (f v.lists); log = Some (g v.device); other = Some v.driver; plain = x; known = m.known; honest = m.honest }) d.plain
          ∙ (ap (λ x. record { lists = Some (f v.lists); log = Some (g v.device); other = Some v.driver; plain = None; known = x; honest = m.honest }) d.known
          ∙ ap (λ x. record { lists = Some (f v.lists); log = Some (g v.device); other = Some v.driver; plain = None; known = None; honest = x }) d.honest))));
    }

middle : (call : DeviceCall) (a : DeviceAnswer call) (v : Ends) (m : RingContents) → DeviceAllows call a (device_contents v) m → IsMiddle v m
middle (Read chain place count) a v m h = goes _ _ _ _ _ _ v m h
middle (Write chain place bytes) a v m h = goes _ _ _ _ _ _ v m h
middle (PublishCid cid) a v m h = goes _ _ _ _ _ _ v m h
middle x a v m h = goes _ _ _ _ _ _ v m h.1

-- A call with its answer: what rings and host are after it. A host that isn't starved after it wasn't before, and then the answer is the one
-- that both give.
record IsStep (call : Call) (a : Answer call) (v : Ends) (h : HostContents) (t : Situation) : Type 0 where
  ends : Ends
  host : HostContents
  ring_is : t.ring ≡ device_contents ends
  host_is : t.host ≡ Some host
  same : LeavesDriver v ends
  fed : host.starved ≡ false → h.starved ≡ false
  answered : host.starved ≡ false → answer_around call (beside v h) ≡ (a, beside ends host)

ring_step : (call : DeviceCall) (a : DeviceAnswer call) (v : Ends) (h : HostContents) (s t : Situation) → IsHeldFor (Ring call) (device_contents v)
    → s.ring ≡ device_contents v → s.host ≡ Some h → Allows (Ring call) a s t → IsStep (Ring call) a v h t
ring_step call a v h s t can ring host allowed =
    let first : DeviceAllows call a (device_contents v) t.ring = subst (λ c. DeviceAllows call a c t.ring) ring allowed.0 in
    let m = middle call a v t.ring first in
    let d = device_determined call a v m.ends (subst (λ c. DeviceAllows call a (device_contents v) c) m.is first) in
    let F : DeviceAnswer call × (Rings × EndLog) → DeviceAnswer call × Around = λ r. (r.0, record (beside v h) { lists = r.1.0; log = r.1.1 }) in
    record {
      ends = m.ends;
      host = h;
      ring_is = m.is;
      host_is = allowed.1 ∙ host;
      same = leaves_call call a v m.ends can d.0 d.1;
      fed = λ e. e;
      answered = λ e. ap F d.0;
    }

host_step : (call : Call) (a : Answer call) (failed : Bool) (P : HostContents → Type 0) (f : HostContents → HostContents) (v : Ends) (h : HostContents)
    (s t : Situation) → s.ring ≡ device_contents v → s.host ≡ Some h → HostMoves failed P f s t
    → ((f h).starved ≡ false → h.starved ≡ false)
    → (P h → (f h).starved ≡ false → answer_around call (beside v h) ≡ (a, beside v (f h)))
    → IsStep call a v h t
host_step call a failed P f v h s t ring host moves fed answered = grind (arith, common_steps, leaves_stay)

-- A host that fails without being told to is starved.
fed_failed : (h : HostContents) → (after_failed h).starved ≡ false → h.starved ≡ false
fed_failed h fed = grind (arith, common_steps)

accept_fed : (a : Accepted) (h : HostContents) → (after_accept a h).starved ≡ false → h.starved ≡ false
accept_fed (accepted.Stream id) h e = e
accept_fed x h e = e

dial_fed : (flow : Flow) (a : Dialed) (h : HostContents) → (after_dial flow a h).starved ≡ false → h.starved ≡ false
dial_fed flow dialed.Failed h e = fed_failed h e
dial_fed flow x h e = e

dial_answered : (path : List ℕ) (flow : Flow) (a : Dialed) (v : Ends) (h : HostContents) → IsDialed path a h → (after_dial flow a h).starved ≡ false
    → answer_around (Dial path flow) (beside v h) ≡ (a, beside v (after_dial flow a h))
dial_answered path flow a v h is e = grind (arith, common_steps)

read_fed : (stream : ℕ) (a : StreamRead) (h : HostContents) → (after_read stream a h).starved ≡ false → h.starved ≡ false
read_fed stream (read.Got n) h e = e
read_fed stream x h e = e

read_answered : (stream n : ℕ) (a : StreamRead) (bytes : List ℕ) (v : Ends) (h : HostContents) → IsReadOf stream n (a, bytes) h
    → answer_around (ReadStream stream n) (beside v h) ≡ ((a, bytes), beside v (after_read stream a h))
read_answered stream n a bytes v h is = grind (arith, common_steps)

write_fed : (stream : ℕ) (bytes : List ℕ) (a : StreamWrite) (h : HostContents) → (after_write stream bytes a h).starved ≡ false → h.starved ≡ false
write_fed stream bytes write.Failed h e = fed_failed h e
write_fed stream bytes x h e = e

-- What a write that isn't to fail is answered.
write_answered : (stream : ℕ) (bytes : List ℕ) (a : StreamWrite) (v : Ends) (h : HostContents) → IsWritten stream (length bytes) a h
    → (after_write stream bytes a h).starved ≡ false
    → answer_around (WriteStream stream bytes) (beside v h) ≡ (a, beside v (after_write stream bytes a h))
write_answered stream bytes a v h is e = grind (arith, common_steps)

step : (call : Call) (a : Answer call) (v : Ends) (h : HostContents) (s t : Situation) → IsHeldFor call (device_contents v)
    → s.ring ≡ device_contents v → s.host ≡ Some h → Allows call a s t → IsStep call a v h t
step (Ring call) a v h s t can ring host allowed = ring_step call a v h s t can ring host allowed
step Accept a v h s t can ring host allowed =
    host_step Accept a _ _ (after_accept a) v h s t ring host allowed (accept_fed a h) (λ is e. ap (λ (b : Accepted). (b, beside v (after_accept b h))) (sym is))
step (Dial path flow) a v h s t can ring host allowed =
    host_step (Dial path flow) a _ _ (after_dial flow a) v h s t ring host allowed (dial_fed flow a h) (λ is e. dial_answered path flow a v h is e)
step (Label stream flow) a v h s t can ring host allowed =
    host_step (Label stream flow) a _ _ (after_label stream flow) v h s t ring host allowed (λ e. e) (λ is e. refl)
step (ReadStream stream n) a v h s t can ring host allowed =
    host_step (ReadStream stream n) a _ _ (after_read stream a.0) v h s t ring host allowed.0 (read_fed stream a.0 h)
    (λ is e. read_answered stream n a.0 a.1 v h is)
step (WriteStream stream bytes) a v h s t can ring host allowed =
    host_step (WriteStream stream bytes) a _ _ (after_write stream bytes a) v h s t ring host allowed.0 (write_fed stream bytes a h)
    (λ is e. write_answered stream bytes a v h is e)
step (ShutWrite stream) a v h s t can ring host allowed =
    host_step (ShutWrite stream) a _ _ (after_shut_write stream) v h s t ring host allowed (λ e. e) (λ is e. refl)
step (CloseStream stream) a v h s t can ring host allowed =
    host_step (CloseStream stream) a _ _ (after_close stream) v h s t ring host allowed (λ e. e) (λ is e. refl)

-- The end of a conversation from there.
record IsEnd {A : Type 0} (tree : DeviceTree A) (v : Ends) (h : HostContents) (x : A) (t : Situation) : Type 0 where
  ends : Ends
  host : HostContents
  ring_is : t.ring ≡ device_contents ends
  host_is : t.host ≡ Some host
  same : LeavesDriver v ends
  fed : host.starved ≡ false → h.starved ≡ false
  answered : host.starved ≡ false → played answer_around tree (beside v h) ≡ (x, beside ends host)

ends_at : {A : Type 0} (tree : DeviceTree A) (v : Ends) (h : HostContents) (s : Situation) (x : A) (t : Situation) → s.ring ≡ device_contents v
    → s.host ≡ Some h → MayHold tree s → Runs tree s x t → IsEnd tree v h x t
ends_at {A} (Done y) v h s x t ring host may runs = record {
  ends = v;
  host = h;
  ring_is = ap (λ (z : Situation). z.ring) (sym runs.1) ∙ ring;
  host_is = ap (λ (z : Situation). z.host) (sym runs.1) ∙ host;
  same = leaves_stay v;
  fed = λ e. e;
  answered = λ e. ap (λ (z : A). (z, beside v h)) runs.0;
}
ends_at (Ask call k) v h s x t ring host may runs =
    let a = runs.0 in
    let m = runs.1 in
    let st = step call a v h s m (subst (IsHeldFor call) ring may.0) ring host runs.2 in
    let rest = ends_at (k a) st.ends st.host m x t st.ring_is st.host_is (may.1 a m runs.2) runs.3 in
    record {
      ends = rest.ends;
      host = rest.host;
      ring_is = rest.ring_is;
      host_is = rest.host_is;
      same = leaves_then v st.ends rest.ends st.same rest.same;
      fed = λ e. st.fed (rest.fed e);
      answered = λ e.
          subst (λ (r : Answer call × Around). played answer_around (k r.0) r.1 ≡ (x, beside rest.ends rest.host)) (sym (st.answered (rest.fed e)))
          (rest.answered e);
    }

-- Two rings that expose the same are the same.
exposed : (v w : Ends) → device_contents v ≡ device_contents w → v ≡ w
exposed v w same = grind (arith, common_steps)

-- A call of the device's over list rings and a host in memory: what it leads to is what it is played to, where the host isn't starved.
pub record IsPlayed {A : Type 0} (tree : DeviceTree A) (v : Ends) (h : HostContents) (x : A) (w : Ends) (g : HostContents) : Type 0 where
  pub same : LeavesDriver v w
  pub played : g.starved ≡ false → over_both tree v h ≡ (x, (w, g))

pub over_held : {A : Type 0} (tree : DeviceTree A) (v w : Ends) (h g : HostContents) (n m : ℕ) (x : A)
    → MayHold tree (situation (device_contents v) (Some h) n)
    → Runs tree (situation (device_contents v) (Some h) n) x (situation (device_contents w) (Some g) m)
    → IsPlayed tree v h x w g
over_held {A} tree v w h g n m x may runs =
    let e = ends_at tree v h _ x _ refl refl may runs in
    let w_is : e.ends ≡ w = sym (exposed w e.ends e.ring_is) in
    let g_is : e.host ≡ g = ap (λ (o : Option HostContents). unwrap_or o e.host) (sym e.host_is) in
    record {
      same = subst (LeavesDriver v) w_is e.same;
      played = λ fed.
          let is = e.answered (subst (λ (c : HostContents). c.starved ≡ false) (sym g_is) fed) in
          let F : A × Around → A × (Ends × HostContents) = λ r. (r.0, (record v { lists = r.1.lists; device = r.1.log }, r.1.host)) in
          ap F is
          ∙ (ap (λ (d : EndLog). (x, (record { lists = e.ends.lists; driver = d; device = e.ends.device }, e.host))) (sym e.same.driver)
          ∙ ap₂ (λ (a : Ends) (b : HostContents). (x, (a, b))) w_is g_is);
    }

pub over : {A : Type 0} (Q : A → Situation → Type 0) (tree : DeviceTree A) (v w : Ends) (h g : HostContents) (n m : ℕ) (x : A)
    → Keeps Q tree (situation (device_contents v) (Some h) n)
    → Runs tree (situation (device_contents v) (Some h) n) x (situation (device_contents w) (Some g) m)
    → IsPlayed tree v h x w g
over Q tree v w h g n m x keeps runs = over_held tree v w h g n m x (kept_held Q tree (situation (device_contents v) (Some h) n) keeps) runs
