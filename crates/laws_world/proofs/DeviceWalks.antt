-- The device's conversations over list rings that are tied to the driver's log, and over a host in memory: whatever such a conversation keeps,
-- it keeps here.
use Rattle.std.proofs.lemmas.Grind.{common_steps}
use Rattle.std.proofs.Common.{◌≡◌, ℕ, ◌+◌, ◌<◌, ◌≤◌, ◌^◌, Bool, true, false, cond, List, [], ◌∷◌, length, take, drop, Option, Some, None, refl, sym, ap, subst, ◌∙◌, arith}
use Rattle.vs_contents.specs.CallTree.{Ask, Done, played}
use Rattle.vs_header.specs.{Packet.header_of, declared.TheConstants.HEADER_LEN}
use Rattle.laws_history.specs.declared.packet.Packet.{Packet}
use Rattle.vs_outside.specs.Host.{HostContents, IsDialed, IsWritten, accept_answer, accept_failed, after_accept, after_close, after_dial, after_label, after_read, after_shut_write}
use Rattle.vs_outside.specs.{Host.{after_write, dial_answer, dial_failed, read_answer, read_failed, write_answer, write_failed}, Faults.CountsFault}
use Rattle.vs_outside.specs.{Faults.one_more, declared.host_net.{Dialed.Dialed, StreamRead.StreamRead, StreamWrite.StreamWrite}}
use Rattle.vs_page.specs.{Fair.IsFairLog, Held.{FitsWire, held_in, packet_held}, Log.{Device, IsNextPacket, Log}, declared.log.LogEntry.TheVariants.{GotPacket}}
use Rattle.vs_ring_port.specs.{Chains.{Held, bytes_in, same_chain, with_bytes, without_held, held_of}, Contents.{DeviceAnswer, DeviceCall, Given, PublishCid, Read, Return}}
use Rattle.vs_ring_port.specs.{Contents.{RingContents, Take, Write}, DeviceCalls.{DeviceMoves, IsTakenAs, IsTakenWhole, IsWholePacket, device_answer}, EndLog.EndLog}
use Rattle.vs_ring_port.specs.{EndLog.{entries_returned, log_reset, log_returned, log_taken, log_written, with_packet}, Lists.{Rings, after_return, after_take, all_but_oldest}}
use Rattle.vs_ring_port.specs.{Lists.{next_at, next_given, oldest, place_after, queue_of, with_queue}, declared.queue.Queue.{Queue, TheVariants.{Event, Rx, Tx}}}
use Rattle.vs_ring_port.specs.declared.device_ring.Chain.{Chain}
use Rattle.vs_ring_list.{specs.{Ends.{Ends, device_contents}, Sound.IsTied}, proofs.{Held.same_chain_is, Ties.{tied-return, tied-take}}}
use Rattle.vs_device_parts.specs.Calls.{Accept, Call, CloseStream, DeviceTree, Dial, HostMoves, IsFitAnswer, IsReadOf, Label, ReadStream, Ring, ShutWrite, Situation, TakesWithin}
use Rattle.vs_device_parts.specs.{Calls.WriteStream, Playing.situation}
use Rattle.laws_device.{proofs.{Keeping.{Can, Keeps, Lets}, Seats.PutsFit, Transmitting.header_is, Carried.Short.{write_short}}, specs.Honest.is_held}
use Rattle.laws_world.{specs.{Answers.{Around, answer_around, bytes_with}, Pages.PageHolds}, proofs.{Rings.{AreGiven, given_left}, Wire.next_fits}}
use Rattle.vs_outside.specs.declared.host_net.Dialed.TheVariants as dialed
use Rattle.vs_outside.specs.declared.host_net.StreamWrite.TheVariants as write

-- The page of each chain of tx that is held begins with a header that fits.
abbrev pub AllHeads : List Held → Type 0
AllHeads [] = Unit {0}
AllHeads (h ∷ held) = (h.chain.queue ≡ Tx → FitsWire (header_of (take HEADER_LEN h.bytes))) × AllHeads held

heads_at : (chain : Chain) (held : List Held) → AllHeads held → chain.queue ≡ Tx → is_held chain held ≡ true
    → FitsWire (header_of (take HEADER_LEN (bytes_in chain held)))
heads_at chain [] heads tx is = absurd cc
heads_at chain (h ∷ held) heads tx is = by (same_chain chain h.chain) refl is (heads_at chain held heads.1 tx)
  where
    by : (b : Bool) → same_chain chain h.chain ≡ b → cond b true (is_held chain held) ≡ true
        → (is_held chain held ≡ true → FitsWire (header_of (take HEADER_LEN (bytes_in chain held))))
        → FitsWire (header_of (take HEADER_LEN (cond b h.bytes (bytes_in chain held))))
    by true same is rest = heads.0 (ap (λ (c : Chain). c.queue) (sym (same_chain_is chain h.chain same)) ∙ tx)
    by false same is rest = rest is

heads_written : (chain : Chain) (bytes : List ℕ) (held : List Held) → (chain.queue ≡ Tx → ⊥) → AllHeads held → AllHeads (with_bytes chain bytes held)
heads_written chain bytes [] other heads = tt
heads_written chain bytes (h ∷ held) other heads = by (same_chain chain h.chain) refl (heads_written chain bytes held other heads.1)
  where
    by : (b : Bool) → same_chain chain h.chain ≡ b → AllHeads (with_bytes chain bytes held)
        → AllHeads (cond b (record h { bytes = bytes } ∷ held) (h ∷ with_bytes chain bytes held))
    by true same rest = (λ tx. absurd (other (ap (λ (c : Chain). c.queue) (same_chain_is chain h.chain same) ∙ tx)), heads.1)
    by false same rest = (heads.0, rest)

heads_without : (chain : Chain) (held : List Held) → AllHeads held → AllHeads (without_held chain held)
heads_without chain [] heads = tt
heads_without chain (h ∷ held) heads = by (same_chain chain h.chain) (heads_without chain held heads.1)
  where
    by : (b : Bool) → AllHeads (without_held chain held) → AllHeads (cond b held (h ∷ without_held chain held))
    by true rest = heads.1
    by false rest = (heads.0, rest)

-- What is returned leaves the log fair.
returned_fair : (queue : Queue) (len : ℕ) (bytes : List ℕ) (lists : Rings) (driver : Log) (log : EndLog) → IsTied lists driver log.entries
    → (0 < len → IsWholePacket queue (take len bytes) log) → IsFairLog Device (entries_returned queue (take len bytes) log.entries)
returned_fair queue len bytes lists driver log tied whole = grind (arith, common_steps)

same_cid : (q : Queue) (page : List ℕ) (lists : Rings) → (after_return q page lists).cid ≡ lists.cid
same_cid Rx page lists = refl
same_cid x page lists = refl

-- One fault more, where a call failed.
abbrev count : Bool → ℕ → ℕ
count failed n = cond failed (one_more n) n

counts : (failed : Bool) (n : ℕ) → CountsFault failed n (count failed n)
counts true n = refl
counts false n = refl

dials : (path : List ℕ) (h : HostContents) (a : Dialed) → dial_answer path h ≡ a → IsDialed path a h
dials path h dialed.Failed is = tt
dials path h x is = sym is

reads : (stream n : ℕ) (h : HostContents) (a : StreamRead) → read_answer stream n h ≡ a → IsReadOf stream n (a, bytes_with stream a h) h × (length (bytes_with stream a h) ≤ n)
reads stream n h a is = grind (arith, common_steps)

writes : (stream n : ℕ) (h : HostContents) (a : StreamWrite) → write_answer stream n h ≡ a → IsWritten stream n a h × TakesWithin n a
writes stream n h x is = grind (arith, common_steps, write_short)

module _ (base : Ends) (fit : PutsFit base.driver.entries) where
  abbrev ring : Around → RingContents
  ring s = device_contents (record base { lists = s.lists; device = s.log })

  abbrev pub exposed : Around → ℕ → Situation
  exposed s n = situation (ring s) (Some s.host) n

  pub record Ties (s : Around) : Type 0 where
    pub tied : IsTied s.lists base.driver.entries s.log.entries
    pub cid : s.lists.cid < 2 ^ 64
    pub given : AreGiven s.lists.tx.given
    pub heads : AllHeads s.log.held

  moved : (call : DeviceCall) (a : DeviceAnswer call) (P : Rings → Type 0) (f : Rings → Rings) (Q : EndLog → Type 0) (g : EndLog → EndLog) (s : Around)
      → P s.lists → Q s.log → IsFairLog Device (g s.log).entries
      → DeviceMoves call a P f Q g (ring s) (ring (record s { lists = f s.lists; log = g s.log }))
  moved call a P f Q g s p q fair = grind (arith, common_steps)

  -- A page is taken, or none.
  taken : (queue : Queue) (s : Around) → IsTied s.lists base.driver.entries s.log.entries
      → let r = (device_answer (Take queue) (s.lists, s.log)).1 in IsTied r.0 base.driver.entries r.1.entries
  taken queue s tied = by (queue_of queue s.lists).given refl
    where
      none : (q : Queue) → (queue_of q s.lists).given ≡ [] → s.lists ≡ with_queue q (record (queue_of q s.lists) { given = [] }) s.lists
      none Rx is = ap (λ (pages : List (List ℕ)). record s.lists { rx = record s.lists.rx { given = pages } }) is
      none Tx is = ap (λ (pages : List (List ℕ)). record s.lists { tx = record s.lists.tx { given = pages } }) is
      none Event is = ap (λ (pages : List (List ℕ)). record s.lists { event = record s.lists.event { given = pages } }) is

      by : (given : List (List ℕ)) → (queue_of queue s.lists).given ≡ given → let q = queue_of queue s.lists in
          IsTied (with_queue queue (record q { given = all_but_oldest given; place = place_after given s.lists.size q.place }) s.lists)
          base.driver.entries (log_taken queue (next_at queue q.place (oldest given)) (oldest given) s.log).entries
      by [] is = subst (λ (lists : Rings). IsTied lists base.driver.entries s.log.entries) (none queue is) tied
      by (page ∷ pages) is = tied-take s.lists base.driver.entries s.log.entries tied queue page pages _ is

  module _ (s : Around) (ties : Ties s) where
    -- A packet that comes is the next that the driver put.
    came : (page : List ℕ) → PageHolds page → (lists : Rings)
        → IsTied lists base.driver.entries (with_packet (λ p. GotPacket p) (packet_held page) s.log.entries)
        → FitsWire (header_of (take HEADER_LEN page))
    came page one lists tied =
        let p = one.packet in
        let P : Option Packet → Type 0 = λ o. IsTied lists base.driver.entries (with_packet (λ p. GotPacket p) o s.log.entries) in
        let next : IsNextPacket s.log.entries base.driver.entries p = (held_in packet_held lists.tx.given, (subst P one.held tied).tx) in
        subst FitsWire (header_is page p one.held) (next_fits s.log.entries base.driver.entries p next fit)

    abbrev place : Queue → ℕ
    place queue = (queue_of queue s.lists).place

    record Took (queue : Queue) (o : Option (List ℕ)) : Type 0 where
      page_is : IsTakenAs queue (next_at queue (place queue) o) o
      whole : IsTakenWhole queue (next_at queue (place queue) o) o
      fits : IsFitAnswer (Take queue) (next_at queue (place queue) o)
      heads : AllHeads (log_taken queue (next_at queue (place queue) o) o s.log).held

    took : (queue : Queue) (o : Option (List ℕ)) → next_given queue s.lists ≡ o
        → IsTied (after_take queue s.lists) base.driver.entries (log_taken queue (next_at queue (place queue) o) o s.log).entries
        → Took queue o
    took Rx None is q = record { page_is = refl; whole = tt; fits = tt; heads = ties.heads }
    took Tx None is q = record { page_is = refl; whole = tt; fits = tt; heads = ties.heads }
    took Event None is q = record { page_is = refl; whole = tt; fits = tt; heads = ties.heads }
    took Rx (Some page) is q = record {
      page_is = (refl, refl);
      whole = tt;
      fits = record { queue_is = refl; long = omega arith };
      heads = (λ (tx : Rx ≡ Tx). cc, ties.heads);
    }
    took Event (Some page) is q = record {
      page_is = (refl, refl);
      whole = tt;
      fits = record { queue_is = refl; long = omega arith };
      heads = (λ (tx : Event ≡ Tx). cc, ties.heads);
    }
    took Tx (Some page) is q = by s.lists.tx.given is ties.given
      where
        by : (given : List (List ℕ)) → (let o = next_given Tx (record s.lists { tx = record s.lists.tx { given = given } }) in o) ≡ Some page → AreGiven given → Took Tx (Some page)
        by [] is given = absurd cc
        by (first ∷ pages) is given =
            let same : first ≡ page = cc in
            let one : PageHolds page = subst PageHolds same given.0.0 in
            let long = one.long in
            let now = came page one (after_take Tx s.lists) q in record {
              page_is = (refl, refl);
              whole = subst (λ (p : List ℕ). IsTakenWhole Tx (next_at Tx (place Tx) (Some p)) (Some p)) same given.1.0;
              fits = record { queue_is = refl; long = omega (arith, long) };
              heads = (λ tx. now, ties.heads);
            }

  -- Each call on the ring gets an answer that a ring may give.
  one : (call : DeviceCall) (s : Around) (n : ℕ) → Ties s → Can (Ring call) (ring s)
      → let r = answer_around (Ring call) s in Lets (Ring call) r.0 (exposed s n) (exposed r.1 n) × Ties r.1
  one (Take queue) s n ties can =
      let o = next_given queue s.lists in
      let next = next_at queue (queue_of queue s.lists).place o in
      let tied = taken queue s ties.tied in
      let t = took s ties queue o refl tied in (
        (
          (
            o,
            moved (Take queue) next (λ w. (o ≡ next_given queue w) × (next ≡ next_at queue (queue_of queue w).place o)) (after_take queue)
                (λ l. IsTakenAs queue next o × (true ≡ true → IsTakenWhole queue next o)) (log_taken queue next o) s (refl, refl) (t.page_is, λ honest. t.whole) tied.device_fair,
          ),
          refl,
          refl,
          t.fits,
        ),
        record { tied = tied; cid = taken_cid queue; given = given_left (Take queue) s.lists s.log ties.given; heads = t.heads },
      )
    where
      taken_cid : (queue : Queue) → (after_take queue s.lists).cid < 2 ^ 64
      taken_cid Rx = ties.cid
      taken_cid x = ties.cid
  one (Read chain place count) s n ties can =
      let bytes = take count (drop place (bytes_in chain s.log.held)) in (
        (
          moved (Read chain place count) bytes (λ w. Unit {0}) (λ w. w) (λ l. bytes ≡ take count (drop place (bytes_in chain l.held))) (λ l. l) s tt refl ties.tied.device_fair,
          refl,
          refl,
          fits,
        ),
        record { tied = ties.tied; cid = ties.cid; given = ties.given; heads = ties.heads },
      )
    where
      fits : place ≡ 0 → FitsWire (header_of (take count (drop place (bytes_in chain s.log.held))))
      fits front =
          let may = can front in
          subst (λ (k : ℕ). FitsWire (header_of (take count (drop k (bytes_in chain s.log.held))))) (sym front)
          (subst (λ (k : ℕ). FitsWire (header_of (take k (bytes_in chain s.log.held)))) (sym may.0)
          (heads_at chain s.log.held ties.heads may.1 (may.2 s.log refl)))
  one (Write chain place bytes) s n ties can = (
    (moved (Write chain place bytes) tt (λ w. Unit {0}) (λ w. w) (λ l. Unit {0}) (log_written chain place bytes) s tt tt ties.tied.device_fair, refl, refl, tt),
    record { tied = ties.tied; cid = ties.cid; given = ties.given; heads = heads_written chain _ s.log.held can.1 ties.heads },
  )
  one (Return chain len) s n ties can =
      let bytes = bytes_in chain s.log.held in
      let fair = returned_fair chain.queue len bytes s.lists base.driver.entries s.log ties.tied
      (λ some. (can.0 some).whole refl s.log refl) in (
        (
          (
            bytes,
            moved (Return chain len) tt (λ w. Unit {0}) (after_return chain.queue (take len bytes)) (λ l. bytes ≡ bytes_in chain l.held)
                (log_returned chain len) s tt refl fair,
          ),
          refl,
          refl,
          tt,
        ),
        record {
          tied = tied-return s.lists base.driver.entries s.log.entries ties.tied chain.queue (take len bytes) fair;
          cid = subst (λ (k : ℕ). k < 2 ^ 64) (sym (same_cid chain.queue (take len bytes) s.lists)) ties.cid;
          given = given_left (Return chain len) s.lists s.log ties.given;
          heads = heads_without chain s.log.held ties.heads;
        },
      )
  one (Given queue) s n ties can =
      let held = held_of queue s.log.held in (
        (
          (
            held,
            moved (Given queue) _ (λ w. length (queue_of queue s.lists).given + held ≡ length (queue_of queue w).given + held) (λ w. w)
                (λ l. held ≡ held_of queue l.held) (λ l. l) s refl refl ties.tied.device_fair,
          ),
          refl,
          refl,
          tt,
        ),
        record { tied = ties.tied; cid = ties.cid; given = ties.given; heads = ties.heads },
      )
  one (PublishCid cid) s n ties can = (
    (moved (PublishCid cid) tt (λ w. Unit {0}) (λ w. record w { cid = cid }) (λ l. Unit {0}) (log_reset cid) s tt tt ties.tied.device_fair, refl, refl, tt),
    record {
      tied = record {
        driver_fair = ties.tied.driver_fair;
        device_fair = ties.tied.device_fair;
        tx = ties.tied.tx;
        rx = ties.tied.rx;
        event = ties.tied.event;
        no_event = ties.tied.no_event;
      };
      cid = can;
      given = ties.given;
      heads = ties.heads;
    },
  )

  -- A call on the host leaves the rings.
  hosted : (failed : Bool) (P : HostContents → Type 0) (f : HostContents → HostContents) (s : Around) (n : ℕ) → P s.host
      → HostMoves failed P f (exposed s n) (exposed (record s { host = f s.host }) (count failed n))
  hosted failed P f s n p = record { ring = refl; faults = counts failed n; host = (p, refl) }

  ties_over : (s : Around) (host : HostContents) → Ties s → Ties (record s { host = host })
  ties_over s host ties = record { tied = ties.tied; cid = ties.cid; given = ties.given; heads = ties.heads }

  each : (call : Call) (s : Around) (n : ℕ) → Ties s → Can call (ring s)
      → let r = answer_around call s in (m : ℕ) × Lets call r.0 (exposed s n) (exposed r.1 m) × Ties r.1
  each (Ring call) s n ties can = let now = one call s n ties can in (n, now.0, now.1)
  each Accept s n ties can =
      let a = accept_answer s.host in
      (_, hosted (accept_failed a) (λ c. a ≡ accept_answer c) (after_accept a) s n refl, ties_over s _ ties)
  each (Dial path flow) s n ties can =
      let a = dial_answer path s.host in
      (_, hosted (dial_failed a) (IsDialed path a) (after_dial flow a) s n (dials path s.host a refl), ties_over s _ ties)
  each (Label stream flow) s n ties can = (_, hosted false (λ c. Unit {0}) (after_label stream flow) s n tt, ties_over s _ ties)
  each (ReadStream stream k) s n ties can =
      let a = read_answer stream k s.host in
      let is = reads stream k s.host a refl in
      (_, (hosted (read_failed a) (IsReadOf stream k (a, bytes_with stream a s.host)) (after_read stream a) s n is.0, is.1), ties_over s _ ties)
  each (WriteStream stream bytes) s n ties can =
      let a = write_answer stream (length bytes) s.host in
      let is = writes stream (length bytes) s.host a refl in
      (_, (hosted (write_failed a) (IsWritten stream (length bytes) a) (after_write stream bytes a) s n is.0, is.1), ties_over s _ ties)
  each (ShutWrite stream) s n ties can = (_, hosted false (λ c. Unit {0}) (after_shut_write stream) s n tt, ties_over s _ ties)
  each (CloseStream stream) s n ties can = (_, hosted false (λ c. Unit {0}) (after_close stream) s n tt, ties_over s _ ties)

  pub walk : {A : Type 0} (Q : A → Situation → Type 0) (tree : DeviceTree A) (s : Around) (n : ℕ) → Ties s → Keeps Q tree (exposed s n)
      → let r = played answer_around tree s in (m : ℕ) × Q r.0 (exposed r.1 m) × Ties r.1
  walk Q (Done x) s n ties keeps = (n, keeps, ties)
  walk Q (Ask call next) s n ties keeps =
      let r = answer_around call s in
      let now = each call s n ties keeps.0 in
      walk Q (next r.0) r.1 now.0 now.2 (keeps.1 r.0 (exposed r.1 now.0) now.1)
