-- Over rings in a guest's memory and a host in memory each conversation has one end, unless the host found no memory.
use Rattle.std.proofs.lemmas.Grind.{common_steps}
use Rattle.std.proofs.Common.{◌≡◌, ℕ, Bool, true, false, cond, nat_le, List, length, Option, Some, Result, unwrap_or, refl, sym, ap, subst, ◌∙◌, arith}
use Rattle.std.{proofs.lemmas.Bool.{false≢true, Decides.nat_tests}, specs.Prelude.{◌<◌, ◌≤◌}}
use Rattle.vs_contents.specs.CallTree.{Done, Ask, played}
use Rattle.vs_flow.specs.declared.flow.Flow.{Flow}
use Rattle.vs_outside.specs.Host.{HostContents, IsDialed, IsWritten, after_accept, after_close, after_dial, after_failed, after_label, after_read, after_shut_write, after_write}
use Rattle.vs_outside.specs.{Host.{called, dial_answer, fails_now, write_answer}, declared.host_net.{Accepted.Accepted, Dialed.Dialed, StreamRead.StreamRead}}
use Rattle.vs_outside.specs.declared.host_net.StreamWrite.{StreamWrite}
use Rattle.vs_ring_port.specs.{DeviceCalls.{DeviceAllows, DeviceMoves}, Contents.{RingContents, DeviceCall, DeviceAnswer, Take, Read, Write, Return, Given, PublishCid}}
use Rattle.vs_ring_port.specs.{EndLog.EndLog, Lists.Rings, declared.failure.Failure.Failure}
use Rattle.vs_ring_plain.specs.Device.{DeviceState, answer_to}
use Rattle.vs_device_parts.specs.Calls.{Call, Answer, DeviceTree, HostMoves, IsReadOf, Situation, Allows, Ring, Accept, Dial, Label, ReadStream, WriteStream, ShutWrite}
use Rattle.vs_device_parts.specs.{Calls.CloseStream, Playing.{CanMake, MayRun, Runs, situation}}
use Rattle.vs_proxy_parts.specs.{State.ProxyState, Turns.{proxy_reset_of, turn_of}, declared.answers.Turn.Turn}
use Rattle.laws_proxy.specs.Order.{IsInOrder}
use Rattle.vs_hostile.{specs.{Answers.{Around, answer_around, with_host}, Ready.IsServing, Whole.{is_made, whole_contents}}}
use Rattle.vs_hostile.proofs.Seen.{exposed}
use Rattle.vs_outside.specs.declared.host_net.Accepted.TheVariants as accepted
use Rattle.vs_outside.specs.declared.host_net.Dialed.TheVariants as dialed

-- What ring and host expose, with so many faults counted.
abbrev pub seen : Around → ℕ → Situation
seen v n = situation (whole_contents v.ring) (Some v.host) n

-- One call with its answer: what the conversation goes on with, and where that leaves ring and host.
record IsStep (call : Call) (a : Answer call) (v : Around) (m : Situation) : Type 0 where
  after : Around
  faults : ℕ
  is : m ≡ seen after faults
  starves : v.host.starved ≡ true → after.host.starved ≡ true
  answer : after.host.starved ≡ false → answer_around call v ≡ (a, after)

-- RINGS
-- What a ring and its call came to.
record IsRingStep (call : DeviceCall) (a : DeviceAnswer call) (d : DeviceState) (c : RingContents) : Type 0 where
  is : c ≡ whole_contents (answer_to call d).1
  answer : a ≡ (answer_to call d).0

moved : (call : DeviceCall) (a : DeviceAnswer call) (P : Rings → Type 0) (f : Rings → Rings) (Q : EndLog → Type 0) (g : EndLog → EndLog)
    (d : DeviceState) (c : RingContents) → is_made call ≡ true → DeviceMoves call a P f Q g (whole_contents d) c → IsRingStep call a d c
moved call a P f Q g d c made h = grind (arith, common_steps)

within : (len room : ℕ) → (0 < len → len ≤ room) → nat_le len room ≡ true
within len room h = grind (arith, nat_tests)

ring_step : (call : DeviceCall) (a : DeviceAnswer call) (d : DeviceState) (c : RingContents) (s : Situation) → CanMake (Ring call) s
    → DeviceAllows call a (whole_contents d) c → IsRingStep call a d c
ring_step (Take queue) a d c s can h = moved (Take queue) a _ _ _ _ d c refl h.1
ring_step (Read chain place count) a d c s can h = moved (Read chain place count) a _ _ _ _ d c refl h
ring_step (Write chain place bytes) a d c s can h = moved (Write chain place bytes) a _ _ _ _ d c refl h
ring_step (Return chain len) a d c s can h =
    moved (Return chain len) a _ _ _ _ d c (within len chain.writable (λ some. (can some).room)) h.1
ring_step (Given queue) a d c s can h = moved (Given queue) a _ _ _ _ d c refl h.1
ring_step (PublishCid cid) a d c s can h = moved (PublishCid cid) a _ _ _ _ d c refl h

by_ring : (call : DeviceCall) (a : DeviceAnswer call) (v : Around) (n : ℕ) (m : Situation) → CanMake (Ring call) (seen v n)
    → Allows (Ring call) a (seen v n) m → IsStep (Ring call) a v m
by_ring call a v n m can h =
    let r = ring_step call a v.ring m.ring (seen v n) can h.0 in
    let after : Around = record v { ring = (answer_to call v.ring).1 } in
    record {
      after = after;
      faults = n;
      is =
          ap (λ (x : RingContents). situation x m.host m.faults) r.is
          ∙ (ap (λ (x : Option HostContents). situation (whole_contents after.ring) x m.faults) h.1
          ∙ ap (λ (x : ℕ). situation (whole_contents after.ring) (Some v.host) x) h.2);
      starves = λ was. was;
      answer = λ fed. ap (λ (x : DeviceAnswer call). (x, after)) (sym r.answer);
    }

-- HOSTS
by_host : (call : Call) (a : Answer call) (v : Around) (n : ℕ) (m : Situation) (failed : Bool) (P : HostContents → Type 0)
    (f : HostContents → HostContents) → HostMoves failed P f (seen v n) m
    → (v.host.starved ≡ true → (f v.host).starved ≡ true)
    → (P v.host → (f v.host).starved ≡ false → answer_around call v ≡ (a, with_host (f v.host) v)) → IsStep call a v m
by_host call a v n m failed P f h starves answers = record {
  after = with_host (f v.host) v;
  faults = m.faults;
  is =
      ap (λ (x : RingContents). situation x m.host m.faults) h.ring
      ∙ ap (λ (x : Option HostContents). situation (whole_contents v.ring) x m.faults) h.host.1;
  starves = starves;
  answer = answers h.host.0;
}

accept_starves : (a : Accepted) (c : HostContents) → c.starved ≡ true → (after_accept a c).starved ≡ true
accept_starves (accepted.Stream id) c was = was
accept_starves accepted.None c was = was
accept_starves accepted.Failed c was = was

failed_starves : (b : Bool) (c : HostContents) → c.starved ≡ true → (cond b (called c) (record (called c) { starved = true })).starved ≡ true
failed_starves true c was = was
failed_starves false c was = refl

dial_starves : (flow : Flow) (a : Dialed) (c : HostContents) → c.starved ≡ true → (after_dial flow a c).starved ≡ true
dial_starves flow (dialed.Stream id) c was = was
dial_starves flow dialed.Refused c was = was
dial_starves flow dialed.Failed c was = failed_starves (fails_now c) c was

read_starves : (stream : ℕ) (a : StreamRead) (c : HostContents) → c.starved ≡ true → (after_read stream a c).starved ≡ true
read_starves stream a c was = grind (arith, common_steps)

write_starves : (stream : ℕ) (bytes : List ℕ) (a : StreamWrite) (c : HostContents) → c.starved ≡ true
    → (after_write stream bytes a c).starved ≡ true
write_starves stream bytes a c was = grind (arith, common_steps)

-- A call that failed, and not for want of memory, was to fail.
was_to_fail : (c : HostContents) → (after_failed c).starved ≡ false → fails_now c ≡ true
was_to_fail c fed = grind (arith, common_steps)

dial_again : (path : List ℕ) (flow : Flow) (a : Dialed) (c : HostContents) → IsDialed path a c → (after_dial flow a c).starved ≡ false
    → dial_answer path c ≡ a
dial_again path flow (dialed.Stream id) c is fed = sym is
dial_again path flow dialed.Refused c is fed = sym is
dial_again path flow dialed.Failed c is fed = rw (was_to_fail c fed) refl

write_again : (stream : ℕ) (bytes : List ℕ) (a : StreamWrite) (c : HostContents) → IsWritten stream (length bytes) a c
    → (after_write stream bytes a c).starved ≡ false → write_answer stream (length bytes) c ≡ a
write_again stream bytes a c is fed = grind (arith, common_steps)

read_again : (stream n : ℕ) (a : StreamRead) (bytes : List ℕ) (v : Around) → IsReadOf stream n (a, bytes) v.host
    → answer_around (ReadStream stream n) v ≡ ((a, bytes), with_host (after_read stream a v.host) v)
read_again stream n a bytes v is = grind (arith, common_steps)

step : (call : Call) (a : Answer call) (v : Around) (n : ℕ) (m : Situation) → CanMake call (seen v n) → Allows call a (seen v n) m
    → IsStep call a v m
step (Ring call) a v n m can h = by_ring call a v n m can h
step Accept a v n m can h =
    by_host Accept a v n m _ _ (after_accept a) h (accept_starves a v.host)
    (λ is fed. ap (λ (x : Accepted). (x, with_host (after_accept x v.host) v)) (sym is))
step (Dial path flow) a v n m can h =
    by_host (Dial path flow) a v n m _ _ (after_dial flow a) h (dial_starves flow a v.host)
    (λ is fed. ap (λ (x : Dialed). (x, with_host (after_dial flow x v.host) v)) (dial_again path flow a v.host is fed))
step (Label stream flow) a v n m can h = by_host (Label stream flow) a v n m _ _ (after_label stream flow) h (λ was. was) (λ is fed. refl)
step (ReadStream stream n') a v n m can h =
    by_host (ReadStream stream n') a v n m _ _ (after_read stream a.0) h.0 (read_starves stream a.0 v.host)
    (λ is fed. read_again stream n' a.0 a.1 v is)
step (WriteStream stream bytes) a v n m can h =
    by_host (WriteStream stream bytes) a v n m _ _ (after_write stream bytes a) h.0 (write_starves stream bytes a v.host)
    (λ is fed. ap (λ (x : StreamWrite). (x, with_host (after_write stream bytes x v.host) v)) (write_again stream bytes a v.host is fed))
step (ShutWrite stream) a v n m can h = by_host (ShutWrite stream) a v n m _ _ (after_shut_write stream) h (λ was. was) (λ is fed. refl)
step (CloseStream stream) a v n m can h = by_host (CloseStream stream) a v n m _ _ (after_close stream) h (λ was. was) (λ is fed. refl)

-- CONVERSATIONS
record IsEnd {A : Type 0} (tree : DeviceTree A) (v : Around) (x : A) (t : Situation) : Type 0 where
  after : Around
  faults : ℕ
  is : t ≡ seen after faults
  starves : v.host.starved ≡ true → after.host.starved ≡ true
  answer : after.host.starved ≡ false → played answer_around tree v ≡ (x, after)

fed_before : (a b : Bool) → (a ≡ true → b ≡ true) → b ≡ false → a ≡ false
fed_before true b h fed = absurd (false≢true (sym fed ∙ h refl))
fed_before false b h fed = refl

ends_at : {A : Type 0} (tree : DeviceTree A) (v : Around) (n : ℕ) (x : A) (t : Situation) → MayRun tree (seen v n)
    → Runs tree (seen v n) x t → IsEnd tree v x t
ends_at (Done y) v n x t may h = record {
  after = v;
  faults = n;
  is = sym h.1;
  starves = λ was. was;
  answer = λ fed. ap (λ z. (z, v)) h.0;
}
ends_at {A} (Ask call k) v n x t may h =
    let s = step call h.0 v n h.1 may.0 h.2 in
    let may_on = subst (λ (u : Situation). MayRun (k h.0) u) s.is (may.1 h.0 h.1 h.2) in
    let runs_on = subst (λ (u : Situation). Runs (k h.0) u x t) s.is h.3 in
    let e = ends_at (k h.0) s.after s.faults x t may_on runs_on in
    record {
      after = e.after;
      faults = e.faults;
      is = e.is;
      starves = λ was. e.starves (s.starves was);
      answer = λ fed.
          let F : Answer call × Around → A × Around = λ r. played answer_around (k r.0) r.1 in
          ap F (s.answer (fed_before s.after.host.starved e.after.host.starved e.starves fed)) ∙ e.answer fed;
    }

-- Two that expose the same are the same.
same_around : (v w : Around) (n n' : ℕ) → seen v n ≡ seen w n' → v ≡ w
same_around v w n n' same =
    let ring : v.ring ≡ w.ring = exposed v.ring w.ring (ap (λ (s : Situation). s.ring) same) in
    let host : v.host ≡ w.host = ap (λ (s : Situation). unwrap_or s.host v.host) same in
    ap (λ (x : DeviceState). record { ring = x; host = v.host }) ring ∙ ap (λ (x : HostContents). record { ring = w.ring; host = x }) host

-- A conversation over both: unless the host found no memory, it is what the conversation is played to.
pub over : {A : Type 0} (tree : DeviceTree A) (v w : Around) (n n' : ℕ) (x : A) → MayRun tree (seen v n)
    → Runs tree (seen v n) x (seen w n') → w.host.starved ≡ false → played answer_around tree v ≡ (x, w)
over {A} tree v w n n' x may h fed =
    let e = ends_at tree v n x (seen w n') may h in
    let same : e.after ≡ w = sym (same_around w e.after n' e.faults e.is) in
    e.answer (ap (λ (u : Around). u.host.starved) same ∙ fed) ∙ ap (λ (u : Around). (x, u)) same

-- A turn, and a reset.
pub turn_over : (size now : ℕ) (p : ProxyState) (v w : Around) (n n' : ℕ) (x : ProxyState × Turn) → MayRun (turn_of size now p) (seen v n)
    → Runs (turn_of size now p) (seen v n) x (seen w n') → w.host.starved ≡ false → played answer_around (turn_of size now p) v ≡ (x, w)
turn_over size now p v w n n' x may runs fed = over (turn_of size now p) v w n n' x may runs fed

pub reset_over : (cid : ℕ) (p : ProxyState) (v w : Around) (n n' : ℕ) (x : ProxyState × Result (Unit {0}) Failure)
    → MayRun (proxy_reset_of cid p) (seen v n) → Runs (proxy_reset_of cid p) (seen v n) x (seen w n') → w.host.starved ≡ false
    → played answer_around (proxy_reset_of cid p) v ≡ (x, w)
reset_over cid p v w n n' x may runs fed = over (proxy_reset_of cid p) v w n n' x may runs fed

-- The order of a proxy and its host doesn't depend on a ring that tells no log.
pub served : (p : ProxyState) (d : DeviceState) (h : HostContents) (n : ℕ) → IsServing p h → IsInOrder 3 p (situation (whole_contents d) (Some h) n)
served p d h n o = record { streams = o.streams; ring = o.ring }

pub serving : (p : ProxyState) (d : DeviceState) (h : HostContents) (n : ℕ) → IsInOrder 3 p (situation (whole_contents d) (Some h) n) → IsServing p h
serving p d h n o = record { streams = o.streams; ring = o.ring }
