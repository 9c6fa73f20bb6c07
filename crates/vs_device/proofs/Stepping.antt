-- What single steps come to.
use Rattle.std.proofs.Common.{◌≡◌, ℕ, zero, suc, ◌<◌, Bool, true, false, not, cond, List, [], ◌∷◌, length, nat_le, nat_lt, ◌-◌, get_or, Option, Some, None, is_some, Result, Ok}
use Rattle.std.{proofs.{Common.{Err, Contains, refl, sym, ap, subst, ◌∙◌, arith}, Math.Path.fun_ext}, specs.Option.{IfSome, option_map_or}}
use Rattle.byteorder.specs.Endian.{little_bytes}
use Rattle.vs_contents.{specs.CallTree.{Done, Ask, bind}, proofs.{Leads.{leads_of, leads_bind}, Conditions.{may_first, may_of}}}
use Rattle.vs_device.proofs.{Trees.bind_assoc, Takings.Heard}
use Rattle.vs_flow.specs.Table.{entry_under}
use Rattle.vs_header.specs.{Packet.header_of, declared.{TheConstants.HEADER_LEN, Header.Header}}
use Rattle.vs_ring_port.specs.{Contents.{Read, Return, Take, Write}, Chains.{held_after, same_chain, same_queue, without}, declared.queue.Queue.TheVariants.{Rx, Tx, Event}}
use Rattle.vs_ring_port.specs.declared.{queue.Queue.Queue, device_ring.{Chain.Chain, Next.Next}, failure.Failure.Failure}
use Rattle.vs_device_parts.specs.{Steps.{chain_came, filling, heard_chain, puts_event, puts_owed, puts_reply, shuts_write, takes_chain, writes, writes_on, writing}, Calls.Allows}
use Rattle.vs_device_parts.specs.{Calls.{DeviceTree, Ring, Situation}, Playing.{CanMake, IsAmong, IsRxChain, MayRun, Runs}, Receiving.{Filling, event_on, hold, put_owed}}
use Rattle.vs_device_parts.specs.{Receiving.put_reply, State.{DeviceEntry, DeviceState}, Streams.{Writing, shut_write, write_pending}, Transmitting.{failing, on_packet}}
use Rattle.vs_limits.specs.declared.TheConstants.{DEVICE_REPLIES}
use Rattle.vs_ring_port.specs.declared.device_ring.Next.TheVariants as next
use Rattle.vs_ring_port.specs.declared.failure.Failure.TheVariants as failure

of_heard : Heard → DeviceTree DeviceState
of_heard r = Done r.0

of_put : Filling × Bool → DeviceTree DeviceState
of_put r = Done r.0.state

of_hold : Filling → DeviceTree DeviceState
of_hold r = Done r.state

of_written : Writing → DeviceTree DeviceState
of_written w = Done w.state

-- other chains stay held where one is returned
other_chain : (c own : Chain) → same_queue c.queue own.queue ≡ false → same_chain c own ≡ false
other_chain c own other = rw (other, same_chain) refl

other_queue : (q r : Queue) → (q ≡ Rx → ⊥) → r ≡ Rx → same_queue q r ≡ false
other_queue Rx r other is = absurd (other refl)
other_queue Tx Rx other is = refl
other_queue Tx Tx other is = absurd (cc)
other_queue Tx Event other is = absurd (cc)
other_queue Event Rx other is = refl
other_queue Event Tx other is = absurd (cc)
other_queue Event Event other is = absurd (cc)

now_there : (b : Bool) (c own h : Chain) (held : List Chain) → same_chain c h ≡ b → same_chain c own ≡ false → h ≡ own
    → Contains (cond b held (h ∷ without c held)) own
now_there true c own h held same other is = absurd (let no_more : true ≡ false = sym same ∙ (ap (same_chain c) is ∙ other) in cc)
now_there false c own h held same other is = (0, omega arith, is)

later_there : (b : Bool) (c own h : Chain) (held : List Chain) → Contains held own → Contains (without c held) own
    → Contains (cond b held (h ∷ without c held)) own
later_there true c own h held has rest = has
later_there false c own h held has rest = (suc (rest.0), omega (arith, rest.1), rest.2)

still_there : (c own : Chain) (held : List Chain) → same_chain c own ≡ false → (i : ℕ) → i < length held → get_or held i own ≡ own → Contains (without c held) own
still_there c own [] other i low is = absurd (omega (arith, low))
still_there c own (h ∷ held) other zero low is = now_there (same_chain c h) c own h held refl other is
still_there c own (h ∷ held) other (suc i) low is =
    later_there (same_chain c h) c own h held (i, omega (arith, low), is) (still_there c own held other i (omega (arith, low)) is)

other_held : (o : Option Chain) (c : Chain) (held held' : List Chain) → (c.queue ≡ Rx → ⊥) → held' ≡ without c held
    → IfSome o (λ chain. Contains held chain × IsRxChain chain) → IfSome o (λ chain. Contains held' chain × IsRxChain chain)
other_held None c held held' other is has = tt
other_held (Some own) c held held' other is ((i, low, there), rx) =
    let P : List Chain → Type 0 = λ xs. Contains xs own in
    (subst P (sym is) (still_there c own held (other_chain c own (other_queue c.queue own.queue other rx.0)) i low there), rx)

pub returned_among : (c : Chain) (held held' : List Chain) (s t : DeviceState) → (c.queue ≡ Rx → ⊥) → held' ≡ without c held → t.chain ≡ s.chain
    → IsAmong held s → IsAmong held' t
returned_among c held held' s t other is chain has =
    let P : Option Chain → Type 0 = λ o. IfSome o (λ x. Contains held' x × IsRxChain x) in subst P (sym chain) (other_held s.chain c held held' other is has)

-- and where one is taken
taken_held : (o : Option Chain) (c : Chain) (held : List Chain) → IfSome o (λ chain. Contains held chain × IsRxChain chain)
    → IfSome o (λ chain. Contains (c ∷ held) chain × IsRxChain chain)
taken_held None c held has = tt
taken_held (Some own) c held ((i, low, there), rx) = ((suc i, omega (arith, low), there), rx)

pub taken_among : (c : Chain) (held held' : List Chain) (s t : DeviceState) → held' ≡ c ∷ held → t.chain ≡ s.chain → IsAmong held s → IsAmong held' t
taken_among c held held' s t is chain has =
    let P : List Chain → Type 0 = λ xs. IfSome t.chain (λ x. Contains xs x × IsRxChain x) in
    let Q : Option Chain → Type 0 = λ o. IfSome o (λ x. Contains (c ∷ held) x × IsRxChain x) in
    subst P (sym is) (subst Q (sym chain) (taken_held s.chain c held has))

-- a packet is taken
module _ (s : DeviceState) where
  full_by : (b : Bool) → b ≡ true → (let tree : DeviceTree DeviceState = cond b (Done s) (Ask (Ring (Take Tx)) (λ answer. chain_came answer s)) in tree) ≡ Done s
  full_by true is = refl
  full_by false is = absurd (cc)

  room_by : (b : Bool) → b ≡ false → (let tree : DeviceTree DeviceState = cond b (Done s) (Ask (Ring (Take Tx)) (λ answer. chain_came answer s)) in tree)
      ≡ Ask (Ring (Take Tx)) (λ answer. chain_came answer s)
  room_by true is = absurd (cc)
  room_by false is = refl

  pub takes_none : (x : Situation) → nat_le DEVICE_REPLIES (length s.replies) ≡ true → Runs (takes_chain Tx s) x s x
  takes_none x full = leads_of Allows _ _ x x s (full_by (nat_le DEVICE_REPLIES (length s.replies)) full) (refl, refl)

  module _ (room : nat_le DEVICE_REPLIES (length s.replies) ≡ false) (answer : Next) (x y : Situation) (allowed : Allows (Ring (Take Tx)) answer x y) where
    pub may_come : MayRun (takes_chain Tx s) x → MayRun (chain_came answer s) y
    may_come may = (may_of CanMake Allows _ _ x (room_by (nat_le DEVICE_REPLIES (length s.replies)) room) may).1 answer y allowed

    pub came : (t : DeviceState) (z : Situation) → Runs (chain_came answer s) y t z → Runs (takes_chain Tx s) x t z
    came t z rest = leads_of Allows _ _ x z t (room_by (nat_le DEVICE_REPLIES (length s.replies)) room) (answer, y, allowed, rest)

heard_by : (chain : Chain) (s : DeviceState) (h : Header) (b : Bool) → (let f = failure.PayloadShort h.len (chain.readable - HEADER_LEN) in
    let tree : DeviceTree DeviceState = cond b (Done (failing f s)) (bind (on_packet chain h s) (λ r. Done r.0)) in tree)
    ≡ bind (let f = failure.PayloadShort h.len (chain.readable - HEADER_LEN) in
    let tree : DeviceTree Heard = cond b (Done (failing f s, Err f)) (bind (on_packet chain h s) (λ r. Done (r.0, Ok r.1))) in tree) of_heard
unfolding of_heard
heard_by chain s h true = refl
heard_by chain s h false = sym (bind_assoc (on_packet chain h s) (λ r. Done (r.0, Ok r.1)) of_heard)

chain_came_is : (chain : Chain) (s : DeviceState) → chain_came (next.Chain chain) s ≡ bind (heard_chain chain s) of_heard
unfolding of_heard
chain_came_is chain s = ap (Ask (Ring (Read chain 0 HEADER_LEN))) (fun_ext (λ bytes. heard_by chain s (header_of bytes) (nat_lt (chain.readable - HEADER_LEN) (header_of bytes).len)))

module _ (chain : Chain) (s : DeviceState) (x : Situation) where
  pub may_be_heard : MayRun (chain_came (next.Chain chain) s) x → MayRun (heard_chain chain s) x
  may_be_heard may = may_first CanMake Allows (heard_chain chain s) of_heard x (may_of CanMake Allows _ _ x (chain_came_is chain s) may)

  pub was_heard : (r : Heard) (y : Situation) → Runs (heard_chain chain s) x r y → Runs (chain_came (next.Chain chain) s) x r.0 y
  unfolding of_heard
  was_heard r y first =
      leads_of Allows _ _ x y r.0 (chain_came_is chain s) (leads_bind Allows (heard_chain chain s) of_heard x y y r r.0 first (refl, refl))

pub by_came : (s t : DeviceState) (a b : Next) (x y : Situation) → a ≡ b → Runs (chain_came b s) x t y → Runs (chain_came a s) x t y
by_came s t a b x y is runs = let P : Next → Type 0 = λ n. Runs (chain_came n s) x t y in subst P (sym is) runs

-- a chain is held
pub hold_stepped : (s : DeviceState) (r : Filling) (x y : Situation) → Runs (hold (filling s)) x r y → Runs (takes_chain Rx s) x r.state y
unfolding of_hold
hold_stepped s r x y first = leads_bind Allows (hold (filling s)) of_hold x y y r r.state first (refl, refl)

-- an event chain is taken, where an event is owed
event_by : (s : DeviceState) (b : Bool) → s.event_owed ≡ b → takes_chain Event s ≡ cond b (Ask (Ring (Take Event)) (λ answer. Done s)) (Done s)
event_by s b is = ap (λ (c : Bool). let tree : DeviceTree DeviceState = cond c (Ask (Ring (Take Event)) (λ answer. Done s)) (Done s) in tree) is

pub event_stepped : (s : DeviceState) (answer : Next) (x y : Situation) → s.event_owed ≡ true → Allows (Ring (Take Event)) answer x y → Runs (takes_chain Event s) x s y
event_stepped s answer x y owed allowed = leads_of Allows _ _ x y s (event_by s true owed) (answer, y, allowed, (refl, refl))

-- the owed event is put into a chain
puts_by : (s : DeviceState) (chain : Chain) (b : Bool) → s.event_owed ≡ b
    → puts_event chain s ≡ cond b (Ask (Ring (Write chain 0 (little_bytes 4 0))) (λ _. Ask (Ring (Return chain 4)) (λ _. Done (record s { event_owed = false })))) (Done s)
puts_by s chain b is =
    ap (λ (c : Bool). let tree : DeviceTree DeviceState = cond c (Ask (Ring (Write chain 0 (little_bytes 4 0))) (λ _. Ask (Ring (Return chain 4)) (λ _.
    Done (record s { event_owed = false })))) (Done s) in tree) is

of_event : DeviceState × Result Bool Failure → DeviceTree DeviceState
of_event r = Done r.0

module _ (s : DeviceState) (chain : Chain) (owed : s.event_owed ≡ true) (x : Situation) where
  pub may_put_event : MayRun (puts_event chain s) x → MayRun (event_on (next.Chain chain) s) x
  may_put_event may =
      let all = may_of CanMake Allows _ _ x (puts_by s chain true owed) may in
      (all.0, λ a m allowed. let rest = all.1 a m allowed in (rest.0, λ b n also. tt))

  pub event_put : (t : DeviceState) (y : Situation) → Runs (event_on (next.Chain chain) s) x (t, Ok true) y → Runs (puts_event chain s) x t y
  unfolding of_event
  event_put t y first =
      leads_of Allows _ _ x y t (puts_by s chain true owed)
      (leads_bind Allows (event_on (next.Chain chain) s) of_event x y y (t, Ok true) t first (refl, refl))

-- a reply, or what a connection owes, is put into the chain that is held
held_by_some : (step : Filling → DeviceTree DeviceState) (s : DeviceState) (o : Option Chain) → is_some o ≡ true
    → (let tree : DeviceTree DeviceState = elim o [ None ↦ Done s | Some chain ↦ step (filling s) ] in tree) ≡ step (filling s)
held_by_some step s None is = absurd (cc)
held_by_some step s (Some chain) is = refl

held_by_none : (step : Filling → DeviceTree DeviceState) (s : DeviceState) (o : Option Chain) → is_some o ≡ false
    → (let tree : DeviceTree DeviceState = elim o [ None ↦ Done s | Some chain ↦ step (filling s) ] in tree) ≡ Done s
held_by_none step s None is = refl
held_by_none step s (Some chain) is = absurd (cc)

module _ (s : DeviceState) (x : Situation) where
  module _ (held : is_some s.chain ≡ true) where
    reply_is : puts_reply s ≡ bind (put_reply (filling s)) of_put
    unfolding of_put
    reply_is = held_by_some (λ r. bind (put_reply r) (λ q. Done q.0.state)) s s.chain held

    pub may_put_reply : MayRun (puts_reply s) x → MayRun (put_reply (filling s)) x
    may_put_reply may = may_first CanMake Allows (put_reply (filling s)) of_put x (may_of CanMake Allows _ _ x reply_is may)

    pub reply_stepped : (r : Filling × Bool) (y : Situation) → Runs (put_reply (filling s)) x r y → Runs (puts_reply s) x r.0.state y
    unfolding of_put
    reply_stepped r y first = leads_of Allows _ _ x y r.0.state reply_is (leads_bind Allows (put_reply (filling s)) of_put x y y r r.0.state first (refl, refl))

    owed_is : (slot : ℕ) → puts_owed slot s ≡ bind (put_owed slot (filling s)) of_put
    unfolding of_put
    owed_is slot = held_by_some (λ r. bind (put_owed slot r) (λ q. Done q.0.state)) s s.chain held

    pub may_put_owed : (slot : ℕ) → MayRun (puts_owed slot s) x → MayRun (put_owed slot (filling s)) x
    may_put_owed slot may = may_first CanMake Allows (put_owed slot (filling s)) of_put x (may_of CanMake Allows _ _ x (owed_is slot) may)

    pub owed_stepped : (slot : ℕ) (r : Filling × Bool) (y : Situation) → Runs (put_owed slot (filling s)) x r y → Runs (puts_owed slot s) x r.0.state y
    unfolding of_put
    owed_stepped slot r y first =
        leads_of Allows _ _ x y r.0.state (owed_is slot) (leads_bind Allows (put_owed slot (filling s)) of_put x y y r r.0.state first (refl, refl))

  module _ (none : is_some s.chain ≡ false) where
    pub no_reply_stepped : Runs (puts_reply s) x s x
    no_reply_stepped = leads_of Allows _ _ x x s (held_by_none (λ r. bind (put_reply r) (λ q. Done q.0.state)) s s.chain none) (refl, refl)

    pub no_owed_stepped : (slot : ℕ) → Runs (puts_owed slot s) x s x
    no_owed_stepped slot = leads_of Allows _ _ x x s (held_by_none (λ r. bind (put_owed slot r) (λ q. Done q.0.state)) s s.chain none) (refl, refl)

-- pending bytes are written
writes_by : (e : DeviceEntry) (s : DeviceState) (b : Bool) → b ≡ false
    → (let tree : DeviceTree DeviceState = cond b (Done s) (bind (write_pending e (writing s)) (λ w. Done w.state)) in tree) ≡ bind (write_pending e (writing s)) of_written
unfolding of_written
writes_by e s true is = absurd (cc)
writes_by e s false is = refl

module _ (slot : ℕ) (s : DeviceState) (e : DeviceEntry) (found : entry_under s.table slot ≡ Some e) (open_ : e.value.closed ≡ false) where
  writes_is : writes slot s ≡ bind (write_pending e (writing s)) of_written
  writes_is = rw (found, writes) (writes_by e s e.value.closed open_)

  pub may_step_write : (x : Situation) → MayRun (writes slot s) x → MayRun (write_pending e (writing s)) x
  may_step_write x may = may_first CanMake Allows (write_pending e (writing s)) of_written x (may_of CanMake Allows _ _ x writes_is may)

  pub write_stepped : (w : Writing) (x y : Situation) → Runs (write_pending e (writing s)) x w y → Runs (writes slot s) x w.state y
  unfolding of_written
  write_stepped w x y first = leads_of Allows _ _ x y w.state writes_is (leads_bind Allows (write_pending e (writing s)) of_written x y y w w.state first (refl, refl))

pub after_among : (answer : Next) (held held' : List Chain) (s : DeviceState) → held' ≡ held_after answer held → IsAmong held s → IsAmong held' s
after_among (next.Chain chain) held held' s is has = taken_among chain held held' s s is refl has
after_among next.None held held' s is has = let P : List Chain → Type 0 = λ xs. IsAmong xs s in subst P (sym is) has
after_among (next.Failed f) held held' s is has = let P : List Chain → Type 0 = λ xs. IsAmong xs s in subst P (sym is) has

not_written : (e : DeviceEntry) (s : DeviceState) (b : Bool) → not b ≡ false
    → (let tree : DeviceTree DeviceState = cond b (Done s) (bind (write_pending e (writing s)) (λ w. Done w.state)) in tree) ≡ Done s
not_written e s true is = refl
not_written e s false is = absurd (cc)

writes_none : (s : DeviceState) (o : Option DeviceEntry) → option_map_or (λ e. not e.value.closed) o false ≡ false
    → (let tree : DeviceTree DeviceState = elim o [ None ↦ Done s | Some e ↦ writes_on e s ] in tree) ≡ Done s
writes_none s None is = refl
writes_none s (Some e) is = not_written e s e.value.closed is

pub no_write_stepped : (slot : ℕ) (s : DeviceState) (x : Situation) → option_map_or (λ e. not e.value.closed) (entry_under s.table slot) false ≡ false
    → Runs (writes slot s) x s x
no_write_stepped slot s x is = leads_of Allows _ _ x x s (writes_none s (entry_under s.table slot) is) (refl, refl)

pub shut_stepped : (slot : ℕ) (s : DeviceState) (w : Writing) (x y : Situation) → Runs (shut_write slot (writing s)) x w y → Runs (shuts_write slot s) x w.state y
unfolding of_written
shut_stepped slot s w x y first = leads_bind Allows (shut_write slot (writing s)) of_written x y y w w.state first (refl, refl)
