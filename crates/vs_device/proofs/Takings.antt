-- What taking a packet comes to.
use Rattle.std.proofs.Common.{◌≡◌, ℕ, ◌-◌, Bool, true, false, cond, List, ◌∷◌, length, nat_lt, nat_le, Option, Some, None, Result, Ok, Err, refl, sym, ap, subst, ◌∙◌, arith}
use Rattle.std.{proofs.Math.Path.fun_ext, specs.List.Contains}
use Rattle.vs_contents.{specs.CallTree.{Done, Ask, bind}, proofs.{Leads.{leads_of, leads_bind}, Conditions.{may_first, may_of}}}
use Rattle.vs_device.proofs.Trees.{bind_assoc}
use Rattle.vs_conn.specs.declared.end.Verdict.{Verdict}
use Rattle.vs_flow.specs.{Flow.is_assigned, Table.{entry_of, has_place}}
use Rattle.vs_header.specs.{Packet.header_of, declared.{Header.Header, TheConstants.HEADER_LEN}}
use Rattle.vs_outside.specs.declared.host_net.Dialed.{Dialed}
use Rattle.vs_page.specs.Log.{flow_to_host}
use Rattle.vs_ring_port.specs.{declared.{device_ring.{Chain.Chain, Next.Next}, failure.Failure.Failure, queue.Queue.{Queue, TheVariants.{Rx, Tx, Event}}}, Chains.same_queue}
use Rattle.vs_ring_port.specs.{Chains.{same_chain, without}, Contents.{Take, Read, Return}}
use Rattle.vs_uds.specs.Path.{path_of}
use Rattle.vs_device_parts.specs.{declared.answers.Taken.Taken, Calls.{Situation, DeviceTree, Allows, Ring, Dial}, State.{DeviceEntry, DeviceState}, Playing.{CanMake, MayRun}}
use Rattle.vs_device_parts.specs.{Playing.Runs, Steps.{heard_chain, heard_header}, Taking.{is_not_for_host, known_packet}, Transmitting.{dial_answered, failing, on_next}}
use Rattle.vs_device_parts.specs.Transmitting.{on_packet, on_unknown, take_tx_of, try_request}
use Rattle.vs_limits.specs.declared.TheConstants.{DEVICE_REPLIES}
use Rattle.vs_ring_port.specs.declared.device_ring.Next.TheVariants as next
use Rattle.vs_ring_port.specs.declared.failure.Failure.TheVariants as failure
use Rattle.vs_device_parts.specs.declared.answers.Taken.TheVariants as taken

-- the newest of the chains that are held
same_queue_refl : (q : Queue) → same_queue q q ≡ true
same_queue_refl Rx = refl
same_queue_refl Tx = refl
same_queue_refl Event = refl

same_chain_refl : (c : Chain) → same_chain c c ≡ true
same_chain_refl c = rw (same_queue_refl c.queue) (grind arith)

pub newest_held : (c : Chain) (held chains : List Chain) → held ≡ c ∷ chains → Contains held c
newest_held c held chains is = let P : List Chain → Type 0 = λ xs. Contains xs c in subst P (sym is) (0, omega arith, refl)

pub without_newest : (c : Chain) (held chains : List Chain) → held ≡ c ∷ chains → without c held ≡ chains
without_newest c held chains is =
    ap (without c) is ∙ ap (λ (b : Bool). cond b chains (c ∷ without c chains)) (same_chain_refl c)

abbrev pub Heard : Type 0
Heard = DeviceState × Result Verdict Failure

-- a REQUEST is tried
module _ (h : Header) (s : DeviceState) where
  dials : is_assigned h.dst_port ≡ false → has_place s.table ≡ true
      → try_request h s ≡ Ask (Dial (path_of s.base h.dst_port) (flow_to_host h)) (λ answer. Done (dial_answered h answer s))
  dials mine free = rw (mine, free, try_request) refl

  pub dialed : (answer : Dialed) (r : DeviceState × Verdict) (x y : Situation) → is_assigned h.dst_port ≡ false → has_place s.table ≡ true
      → Allows (Dial (path_of s.base h.dst_port) (flow_to_host h)) answer x y → r ≡ dial_answered h answer s → Runs (try_request h s) x r y
  dialed answer r x y mine free allowed end = leads_of Allows _ _ x y r (dials mine free) (answer, y, allowed, (sym end, refl))

-- a packet, by its flow
module _ (chain : Chain) (h : Header) (s : DeviceState) (ours : is_not_for_host s.cid h ≡ false) where
  by_entry : (e : DeviceEntry) → entry_of s.table (flow_to_host h) ≡ Some e → on_packet chain h s ≡ known_packet chain h e s
  by_entry e found = rw (ours, found, on_packet) refl

  pub may_be_known : (e : DeviceEntry) (x : Situation) → entry_of s.table (flow_to_host h) ≡ Some e → MayRun (on_packet chain h s) x → MayRun (known_packet chain h e s) x
  may_be_known e x found may = may_of CanMake Allows _ _ x (by_entry e found) may

  pub was_known : (e : DeviceEntry) (r : DeviceState × Verdict) (x y : Situation) → entry_of s.table (flow_to_host h) ≡ Some e → Runs (known_packet chain h e s) x r y
      → Runs (on_packet chain h s) x r y
  was_known e r x y found runs = leads_of Allows _ _ x y r (by_entry e found) runs

  by_none : entry_of s.table (flow_to_host h) ≡ None → on_packet chain h s ≡ on_unknown h s
  by_none none = rw (ours, none, on_packet) refl

  pub was_unknown : (r : DeviceState × Verdict) (x y : Situation) → entry_of s.table (flow_to_host h) ≡ None → Runs (on_unknown h s) x r y
      → Runs (on_packet chain h s) x r y
  was_unknown r x y none runs = leads_of Allows _ _ x y r (by_none none) runs

-- a packet of which the chain holds all, and one that says more
module _ (chain : Chain) (h : Header) (s : DeviceState) where
  of_packet : DeviceState × Verdict → DeviceTree Heard
  of_packet r = Done (r.0, Ok r.1)

  whole : nat_lt (chain.readable - HEADER_LEN) h.len ≡ false → heard_header chain h s ≡ bind (on_packet chain h s) of_packet
  unfolding of_packet
  whole fits = rw fits refl

  pub may_packet : (x : Situation) → nat_lt (chain.readable - HEADER_LEN) h.len ≡ false → MayRun (heard_header chain h s) x → MayRun (on_packet chain h s) x
  may_packet x fits may = may_first CanMake Allows (on_packet chain h s) of_packet x (may_of CanMake Allows _ _ x (whole fits) may)

  pub took_packet : (t : DeviceState) (v : Verdict) (x y : Situation) → nat_lt (chain.readable - HEADER_LEN) h.len ≡ false
      → Runs (on_packet chain h s) x (t, v) y → Runs (heard_header chain h s) x (t, Ok v) y
  unfolding of_packet
  took_packet t v x y fits first =
      leads_of Allows _ _ x y (t, Ok v) (whole fits) (leads_bind Allows (on_packet chain h s) of_packet x y y (t, v) (t, Ok v) first (refl, refl))

  pub too_short : (t : DeviceState) (x : Situation) → nat_lt (chain.readable - HEADER_LEN) h.len ≡ true
      → t ≡ failing (failure.PayloadShort h.len (chain.readable - HEADER_LEN)) s
      → Runs (heard_header chain h s) x (t, Err (failure.PayloadShort h.len (chain.readable - HEADER_LEN))) x
  too_short t x short end =
      let f : Failure = failure.PayloadShort h.len (chain.readable - HEADER_LEN) in
      let q : Heard = (failing f s, Err f) in
      let same : heard_header chain h s ≡ Done q = rw short refl in
      let last : q ≡ (t, Err f) = ap (λ (u : DeviceState). let p : Heard = (u, Err f) in p) (sym end) in
      leads_of Allows _ _ x x (t, Err f) same (last, refl)

-- its header is read
module _ (chain : Chain) (s : DeviceState) (bytes : List ℕ) (h : Header) (is : h ≡ header_of bytes) (x y : Situation) (allowed : Allows (Ring (Read chain 0 HEADER_LEN)) bytes x y) where
  pub may_header : MayRun (heard_chain chain s) x → MayRun (heard_header chain h s) y
  may_header may = let P : Header → Type 0 = λ k. MayRun (heard_header chain k s) y in subst P (sym is) (may.1 bytes y allowed)

  pub read_header : (r : Heard) (z : Situation) → Runs (heard_header chain h s) y r z → Runs (heard_chain chain s) x r z
  read_header r z rest = let P : Header → Type 0 = λ k. Runs (heard_header chain k s) y r z in (bytes, y, allowed, subst P is rest)

-- a chain whose packet was heard is returned, unless the ring failed
module _ (chain : Chain) (s : DeviceState) where
  after_heard : Heard → DeviceTree (DeviceState × Taken)
  after_heard r = elim r.1 [ Ok v ↦ Ask (Ring (Return chain 0)) (λ _. Done (r.0, taken.Packet v)) | Err f ↦ Done (r.0, taken.Failed f) ]

  header_by : (h : Header) (b : Bool) → (let f = failure.PayloadShort h.len (chain.readable - HEADER_LEN) in
      let tree : DeviceTree (DeviceState × Taken) = cond b (Done (failing f s, taken.Failed f))
      (bind (on_packet chain h s) (λ r. Ask (Ring (Return chain 0)) (λ _. Done (r.0, taken.Packet r.1)))) in tree)
      ≡ bind (let f = failure.PayloadShort h.len (chain.readable - HEADER_LEN) in
      let tree : DeviceTree Heard = cond b (Done (failing f s, Err f)) (bind (on_packet chain h s) (λ r. Done (r.0, Ok r.1))) in tree) after_heard
  unfolding after_heard
  header_by h true = refl
  header_by h false = sym (bind_assoc (on_packet chain h s) (λ r. Done (r.0, Ok r.1)) after_heard)

  next_is : on_next (next.Chain chain) s ≡ bind (heard_chain chain s) after_heard
  next_is = ap (Ask (Ring (Read chain 0 HEADER_LEN))) (fun_ext (λ bytes. header_by (header_of bytes) (nat_lt (chain.readable - HEADER_LEN) (header_of bytes).len)))

  pub may_hear : (x : Situation) → MayRun (on_next (next.Chain chain) s) x → MayRun (heard_chain chain s) x
  may_hear x may = may_first CanMake Allows (heard_chain chain s) after_heard x (may_of CanMake Allows _ _ x next_is may)

  pub heard_returned : (t : DeviceState) (v : Verdict) (x y z : Situation) → Runs (heard_chain chain s) x (t, Ok v) y → Allows (Ring (Return chain 0)) tt y z
      → Runs (on_next (next.Chain chain) s) x (t, taken.Packet v) z
  unfolding after_heard
  heard_returned t v x y z first allowed =
      leads_of Allows _ _ x z (t, taken.Packet v) next_is
      (leads_bind Allows (heard_chain chain s) after_heard x y z (t, Ok v) (t, taken.Packet v) first (tt, z, allowed, (refl, refl)))

  pub heard_failed : (t : DeviceState) (f : Failure) (x y : Situation) → Runs (heard_chain chain s) x (t, Err f) y
      → Runs (on_next (next.Chain chain) s) x (t, taken.Failed f) y
  unfolding after_heard
  heard_failed t f x y first =
      leads_of Allows _ _ x y (t, taken.Failed f) next_is
      (leads_bind Allows (heard_chain chain s) after_heard x y y (t, Err f) (t, taken.Failed f) first (refl, refl))

-- the next chain of tx
module _ (s : DeviceState) (sound : s.failed ≡ None) (room : nat_le DEVICE_REPLIES (length s.replies) ≡ false) where
  with_room : Bool → DeviceTree (DeviceState × Taken)
  with_room b = cond b (Done (s, taken.RepliesFull DEVICE_REPLIES)) (Ask (Ring (Take Tx)) (λ answer. on_next answer s))

  unless_failed : Option Failure → DeviceTree (DeviceState × Taken)
  unless_failed (Some f) = Done (s, taken.Failed f)
  unless_failed None = with_room (nat_le DEVICE_REPLIES (length s.replies))

  as_cases : (o : Option Failure) → elim o [ Some f ↦ Done (s, taken.Failed f) | None ↦ cond (nat_le DEVICE_REPLIES (length s.replies)) (Done (s, taken.RepliesFull DEVICE_REPLIES)) (Ask (Ring (Take Tx)) (λ answer. on_next answer s)) ] ≡ unless_failed o
  unfolding with_room unless_failed
  as_cases (Some f) = refl
  as_cases None = refl

  takes : take_tx_of s ≡ Ask (Ring (Take Tx)) (λ answer. on_next answer s)
  unfolding with_room unless_failed
  takes = as_cases s.failed ∙ (ap unless_failed sound ∙ ap with_room room)

  pub may_next : (answer : Next) (x y : Situation) → MayRun (take_tx_of s) x → Allows (Ring (Take Tx)) answer x y → MayRun (on_next answer s) y
  may_next answer x y may allowed = (may_of CanMake Allows _ _ x takes may).1 answer y allowed

  pub took_next : (answer : Next) (r : DeviceState × Taken) (x y z : Situation) → Allows (Ring (Take Tx)) answer x y → Runs (on_next answer s) y r z → Runs (take_tx_of s) x r z
  took_next answer r x y z allowed rest = leads_of Allows _ _ x z r takes (answer, y, allowed, rest)

pub by_next : (s t : DeviceState) (a b : Next) (r : Taken) (x y : Situation) → a ≡ b → Runs (on_next b s) x (t, r) y → Runs (on_next a s) x (t, r) y
by_next s t a b r x y is runs = let P : Next → Type 0 = λ n. Runs (on_next n s) x (t, r) y in subst P (sym is) runs
