-- What taking a packet of the guest keeps.
use Rattle.std.proofs.lemmas.Grind.{common_steps}
use Rattle.std.proofs.Common.{◌≡◌, ℕ, ◌-◌, ◌≤◌, ◌==◌, nat_le, nat_lt, Bool, true, false, cond, if◌then◌else◌, List, [], ◌∷◌, length, take, drop, Option, Some, None, refl, sym, ap}
use Rattle.std.{proofs.{Common.{subst, ◌∙◌, arith, IfSome, length-drop}, lemmas.Bool.Decides.nat_tests}, specs.Option.option_map}
use Rattle.vs_contents.specs.CallTree.{Done, Ask, bind}
use Rattle.vs_conn.specs.declared.end.Verdict.{Verdict}
use Rattle.vs_header.specs.{declared.{Op.TheVariants.Rw, Header.Header, TheConstants.HEADER_LEN}, Op.op_number, Packet.header_of}
use Rattle.laws_history.specs.{Packets.size, declared.packet.Packet.Packet}
use Rattle.vs_page.specs.{Held.{FitsWire, packet_held, packet_with, payload_held, IsWhole}, Fair.IsFairLog, Log.{Device, Log, flow_got}}
use Rattle.vs_page.{specs.declared.log.LogEntry.TheVariants.GotPacket, proofs.Holding.packet_whole}
use Rattle.vs_ring_port.specs.{Chains.Held, Contents.{Read, Return, Take}, EndLog.{EndLog, log_returned, log_taken, with_packet}, declared.device_ring.{Chain.Chain, Next.Next}}
use Rattle.vs_ring_port.specs.{declared.{failure.Failure.Failure, queue.Queue.TheVariants.Tx}, DeviceCalls.IsTakenAs}
use Rattle.laws_tables.proofs.Fair.{got_formed}
use Rattle.vs_device_parts.specs.{Calls.{Ring, Situation, DeviceTree}, Transmitting.{failing, on_next, on_packet, take_tx_of}, declared.answers.Taken.Taken, Playing.IsRxChain}
use Rattle.vs_device_parts.specs.State.{DeviceState}
use Rattle.vs_limits.specs.declared.TheConstants.{DEVICE_REPLIES}
use Rattle.laws_device.proofs.{Ringing.{Tells, bytes_held, first_is_held, first_there, moves, returned_entries, returned_held, tells_weaker, Telling}, Hearing.{After, Came, Heard}}
use Rattle.laws_device.proofs.{Hearing.{IsCome, packet_keeps}, Keeping.{Keeps, asking, Lets, keeps_then}, Carrying.{Fact, IsToldBy, StreamedOver, With}, Chains.{Among, Behind}}
use Rattle.laws_device.proofs.{Seats.{Carried, LeftBy}, Steps.{it_failed, none_came}, Sure.{Good, Guard, good_fair, good_of, guard_failed, guard_honest, guard_packet, guard_sure}, Walk.Keeping.keeps_if}
use Rattle.vs_outside.specs.Host.{HostContents}
use Rattle.vs_proxy_parts.specs.State.{Handshake}
use Rattle.vs_ring_port.specs.declared.device_ring.Next.TheVariants as next
use Rattle.vs_ring_port.specs.declared.failure.Failure.TheVariants as failure
use Rattle.vs_device_parts.specs.declared.answers.Taken.TheVariants as taken

-- The packet that a page holds has the page's header, and a page with a header holds a packet unless its len is above what follows.
pub some_test : {A : Type 0} (b : Bool) (o : Option A) (x : A) → cond b o None ≡ Some x → o ≡ Some x
some_test true o x is = is
some_test false o x is = absurd cc

header_by : (h : Header) (p : Packet) (o : Option (List ℕ)) → option_map (λ payload. record { header = h; payload = payload }) o ≡ Some p
    → p.header ≡ h
header_by h p o is = grind (arith, common_steps)

pub header_is : (page : List ℕ) (p : Packet) → packet_held page ≡ Some p → p.header ≡ header_of (take HEADER_LEN page)
header_is page p held =
    header_by (header_of (take HEADER_LEN page)) p (payload_held (header_of (take HEADER_LEN page)) (drop HEADER_LEN page))
    (some_test (nat_le HEADER_LEN (length page)) (packet_with (header_of (take HEADER_LEN page)) (drop HEADER_LEN page)) p held)

none_by : (h : Header) (rest : List ℕ) (a b c : Bool) → a ≡ true → c ≡ true
    → cond a (option_map (λ payload. let p : Packet = record { header = h; payload = payload } in p)
    (cond b (cond c (Some (take h.len rest)) None) (Some []))) None ≡ None → ⊥
none_by h rest a b c av cv is = grind (arith, common_steps)

held_there : (page : List ℕ) → HEADER_LEN ≤ length page → (header_of (take HEADER_LEN page)).len ≤ length page - HEADER_LEN
    → packet_held page ≡ None → ⊥
held_there page long fits none =
    let h : Header = header_of (take HEADER_LEN page) in
    let rest : List ℕ = drop HEADER_LEN page in
    let left = length-drop HEADER_LEN page in
    let within : h.len ≤ length rest = omega (arith, fits, left) in
    none_by h rest (nat_le HEADER_LEN (length page)) (h.op == op_number Rw) (nat_le h.len (length rest))
    (grind (arith, nat_tests, long)) (grind (arith, nat_tests, within)) none

module _ (carry : Carried) (lines : List Handshake) (first port : ℕ) (s : DeviceState) where
  abbrev Streamed : Fact
  Streamed = StreamedOver carry lines first port s

  abbrev Now : DeviceState → Situation → Type 0
  Now = With carry lines first port

  abbrev TakeEnds : DeviceState × Taken → Situation → Type 0
  TakeEnds x c = Now x.0 c

  module _ (chain : Chain) (long : HEADER_LEN ≤ chain.readable) (queue : chain.queue ≡ Tx) where
    -- The page that was taken stands in the log, where it holds a packet.
    pub record IsTaken (page : List ℕ) (host : Option HostContents) (l : EndLog) : Type 0 where
      pub log : Log
      pub entries_are : l.entries ≡ with_packet (λ p. GotPacket p) (packet_held page) log
      pub was : LeftBy carry first port s.cid s.overrun s.table s.replies s.clean log
      pub fair : Good carry.fairly (with_packet (λ p. GotPacket p) (packet_held page) log)
      pub streams : Streamed host log

    abbrev pub Took : Telling
    Took honest host l = (page : List ℕ) × Behind carry.others chain page s.chain l.held × (chain.readable ≡ length page) ×
        (Guard carry.fairly honest s.failed l.entries → IsTaken page host l)

    -- Its header was read.
    abbrev HasRead : Header → Telling
    HasRead h honest host l =
        (page : List ℕ) × Behind carry.others chain page s.chain l.held × (chain.readable ≡ length page) ×
        (h ≡ header_of (take HEADER_LEN page))
        × (Guard carry.fairly honest s.failed l.entries → IsTaken page host l)

    -- Its len is above what follows the header: then it is no packet.
    short_by : (host : Option HostContents) (h : Header) (page : List ℕ) (log : Log) (o : Option Packet) → packet_held page ≡ o → chain.readable ≡ length page
        → h ≡ header_of (take HEADER_LEN page) → nat_lt (chain.readable - HEADER_LEN) h.len ≡ true → carry.fairly ≡ true
        → LeftBy carry first port s.cid s.overrun s.table s.replies s.clean log × Streamed host log → Good carry.fairly (with_packet (λ p. GotPacket p) o log)
        → LeftBy carry first port s.cid s.overrun s.table s.replies s.clean (with_packet (λ p. GotPacket p) o log) × Streamed host (with_packet (λ p. GotPacket p) o log)
    short_by host h page log None held readable head short sure was fair = was
    short_by host h page log (Some p) held readable head short sure was fair =
        let formed = got_formed Device p log (good_fair carry.fairly (GotPacket p ∷ log) sure fair (flow_got Device p)) in
        let whole = (packet_whole page p held).1 in
        let len : h.len ≡ size p = ap (λ (x : Header). x.len) (head ∙ sym (header_is page p held)) ∙ formed.len in
        absurd (grind (arith, nat_tests, short, whole, len, readable))

    short_ends : (h : Header) (f : Failure) (c : Situation) → nat_lt (chain.readable - HEADER_LEN) h.len ≡ true
        → IfSome s.chain IsRxChain
        → Tells carry.fairly (HasRead h) c → Now (failing f s) c
    short_ends h f c short rx tells = (
      rx,
      tells_weaker carry.fairly (HasRead h) (IsToldBy carry Streamed first port (failing f s)) (λ hon o l read. (
        λ still. absurd cc,
        λ honest.
            let sure = guard_failed carry.fairly hon f l.entries honest in
            let k = read.4 (guard_sure carry.fairly hon s.failed l.entries sure (guard_honest carry.fairly hon (Some f) l.entries sure honest)) in
            subst (λ (log : Log). LeftBy carry first port s.cid s.overrun s.table s.replies s.clean log × Streamed o log) (sym k.entries_are)
            (short_by o h read.0 k.log (packet_held read.0) refl read.2 read.3 short sure (k.was, k.streams) k.fair),
      )) c tells,
    )

    -- Else it is one.
    come_by : (host : Option HostContents) (h : Header) (page : List ℕ) (l : EndLog) (wire : FitsWire h) (log : Log) (o : Option Packet) → packet_held page ≡ o
        → chain.readable ≡ length page
        → h ≡ header_of (take HEADER_LEN page) → nat_lt (chain.readable - HEADER_LEN) h.len ≡ false
        → l.entries ≡ with_packet (λ p. GotPacket p) o log
        → LeftBy carry first port s.cid s.overrun s.table s.replies s.clean log → Good carry.fairly (with_packet (λ p. GotPacket p) o log) → Streamed host log
        → IsCome carry lines first port s chain h wire page host l
    come_by host h page l wire log None held readable head fits entries was fair streams =
        let len : (header_of (take HEADER_LEN page)).len ≡ h.len = ap (λ (x : Header). x.len) (sym head) in
        let within : h.len ≤ chain.readable - HEADER_LEN = grind (arith, nat_tests, fits) in
        absurd (held_there page (omega (arith, long, readable)) (omega (arith, within, readable, len)) held)
    come_by host h page l wire log (Some p) held readable head fits entries was fair streams =
        let same : p ≡ record { header = h; payload = p.payload } =
        ap (λ (x : Header). let q : Packet = record { header = x; payload = p.payload } in q) (header_is page p held ∙ sym head) in
        record {
          payload = p.payload;
          log = log;
          entries_are = entries ∙ ap (λ (q : Packet). GotPacket q ∷ log) same;
          was = was;
          fair = subst (λ (q : Packet). Good carry.fairly (GotPacket q ∷ log)) same fair;
          streams = streams;
          whole = subst IsWhole same (packet_whole page p held).0;
          held = held ∙ ap (λ (q : Packet). Some q) same;
        }

    come_tells : (h : Header) (wire : FitsWire h) (c : Situation) → nat_lt (chain.readable - HEADER_LEN) h.len ≡ false → Tells carry.fairly
        (HasRead h) c
        → Tells carry.fairly (Came carry lines first port s chain h wire) c
    come_tells h wire c fits tells = tells_weaker carry.fairly (HasRead h) (Came carry lines first port s chain h wire) (λ hon o l read. (
      read.0,
      read.1,
      λ honest. let k = read.4 honest in
          come_by o h read.0 l wire k.log (packet_held read.0) refl read.2 read.3 fits k.entries_are k.was k.fair k.streams,
    )) c tells

    -- The packet is heard, and the conversation goes on.
    module _ {A : Type 0} (Q : A → Situation → Type 0) (short : Failure → DeviceTree A) (next : DeviceState × Verdict → DeviceTree A)
        (shorts : (f : Failure) (d : Situation) → Now (failing f s) d → Keeps Q (short f) d)
        (heard : (h : Header) (wire : FitsWire h) (x : DeviceState × Verdict) (d : Situation) → Heard carry lines first port s chain h wire x d → Keeps Q (next x) d) where
      header_keeps : (h : Header) (wire : FitsWire h) → IfSome s.chain IsRxChain → (c : Situation) → Tells carry.fairly (HasRead h) c
          → Keeps Q (cond (nat_lt (chain.readable - HEADER_LEN) h.len) (short (failure.PayloadShort h.len (chain.readable - HEADER_LEN))) (bind (on_packet chain h s) next)) c
      header_keeps h wire rx c tells =
          keeps_if asking Q (nat_lt (chain.readable - HEADER_LEN) h.len) _ _ c
          (λ less. let f = failure.PayloadShort h.len (chain.readable - HEADER_LEN) in shorts f c (short_ends h f c less rx tells))
          (λ fits. keeps_then (Heard carry lines first port s chain h wire) Q (on_packet chain h s) next c
          (packet_keeps carry lines first port s chain h wire c (come_tells h wire c fits tells)) (heard h wire))

      pub read_keeps : IfSome s.chain IsRxChain → (c : Situation) → Tells carry.fairly Took c
          → Keeps Q (Ask (Ring (Read chain 0 HEADER_LEN)) (λ bytes. let h : Header = header_of bytes in
          cond (nat_lt (chain.readable - HEADER_LEN) h.len) (short (failure.PayloadShort h.len (chain.readable - HEADER_LEN))) (bind (on_packet chain h s) next))) c
      read_keeps rx c tells = (
        λ front. (refl, queue, λ l is. first_is_held chain (tells.told l is).0 (tells.told l is).1.0 l (tells.told l is).1.1),
        λ bytes d made. header_keeps (header_of bytes) (made.3 refl) rx d
            (moves carry.fairly _ _ _ _ _ (λ l. l) c d made.0 made.1 Took (HasRead (header_of bytes)) (λ hon o l asked took fair. (
              took.0,
              took.1,
              took.2,
              ap header_of (asked ∙ ap (take HEADER_LEN) (bytes_held chain took.0 took.1.0 l took.1.1)),
              took.3,
            )) tells),
      )

    -- The chain is returned.
    returns : (h : Header) (wire : FitsWire h) → IfSome s.chain IsRxChain → (x : DeviceState × Verdict) (c : Situation)
        → Heard carry lines first port s chain h wire x c → Keeps TakeEnds (Ask (Ring (Return chain 0)) (λ _. Done (x.0, taken.Packet x.1))) c
    returns h wire rx x c (failed, chain_is, tells) = (
      (λ less. absurd (omega (arith, less)), λ l is. let was = tells.told l is in first_there chain was.0 was.1.0 l was.1.1),
      λ a d made. (
        subst (λ (o : Option Chain). IfSome o IsRxChain) (sym chain_is) rx,
        moves carry.fairly _ _ _ _ _ (log_returned chain 0) c d made.0.1 made.1 (After carry lines first port s chain h wire x.0)
            (IsToldBy carry (StreamedOver carry lines first port x.0) first port x.0)
            (λ hon o l asked was fair. (
              λ still. subst (λ (held : List Held). Among carry.others x.0.chain held) (sym (returned_held chain was.0 0 was.1.0 l was.1.1)) was.1.2,
              λ honest.
                  let same = returned_entries chain Tx was.0 0 was.1.0 l queue was.1.1 in
                  subst (λ (log : Log). LeftBy carry first port x.0.cid x.0.overrun x.0.table x.0.replies x.0.clean log × StreamedOver carry lines first port x.0 o log)
                  (sym same) (was.2 (subst (λ (log : Log). Guard carry.fairly hon x.0.failed log) same honest)),
            )) tells,
      ),
    )

  -- A chain of tx is taken.
  module _ {A : Type 0} (Q : A → Situation → Type 0) (tree : Next → DeviceTree A)
      (some : (chain : Chain) (long : HEADER_LEN ≤ chain.readable) (queue : chain.queue ≡ Tx) (d : Situation) → IfSome s.chain IsRxChain
      → Tells carry.fairly (Took chain long queue) d → Keeps Q (tree (next.Chain chain)) d)
      (none : (d : Situation) → Now s d → Keeps Q (tree next.None) d) (fails : (f : Failure) (d : Situation) → Now (failing f s) d → Keeps Q (tree (next.Failed f)) d) where
    next_keeps : (answer : Next) (c d : Situation) → s.failed ≡ None → Lets (Ring (Take Tx)) answer c d → Now s c → Keeps Q (tree answer) d
    next_keeps (next.Chain chain) c d going made holds =
        some chain made.3.long made.3.queue_is d holds.0
        (moves carry.fairly _ _ _ _ _ (log_taken Tx (next.Chain chain) made.0.0) c d made.0.1 made.1 (IsToldBy carry Streamed first port s) (Took chain made.3.long made.3.queue_is)
        (λ hon o l asked was fair. by made.0.0 hon o l asked.0 was fair) holds.1)
      where
        by : (page : Option (List ℕ)) (hon : Bool) (o : Option HostContents) (l : EndLog) → IsTakenAs Tx (next.Chain chain) page
            → IsToldBy carry Streamed first port s hon o l
            → (hon ≡ true → IsFairLog Device (log_taken Tx (next.Chain chain) page l).entries)
            → Took chain made.3.long made.3.queue_is hon o (log_taken Tx (next.Chain chain) page l)
        by None hon o l asked was fair = absurd asked
        by (Some page) hon o l asked was fair = (
          page,
          (l.held, refl, was.0 going),
          asked.1,
          λ honest.
              let p = was.1 (guard_packet carry.fairly hon s.failed (λ q. GotPacket q) (packet_held page) l.entries honest) in
              record {
                log = l.entries;
                entries_are = refl;
                was = p.0;
                fair = good_of carry.fairly hon s.failed (log_taken Tx (next.Chain chain) (Some page) l).entries honest fair;
                streams = p.1;
              },
        )
    next_keeps next.None c d going made holds = none d (none_came carry lines first port Tx s c d made holds)
    next_keeps (next.Failed f) c d going made holds = fails f d (it_failed carry lines first port Tx f s c d going made holds)

    -- Unless so many replies are owed.
    pub tx_keeps : (over : DeviceTree A) → ((d : Situation) → Now s d → Keeps Q over d) → (c : Situation) → s.failed ≡ None → Now s c
        → Keeps Q (cond (nat_le DEVICE_REPLIES (length s.replies)) over (Ask (Ring (Take Tx)) tree)) c
    tx_keeps over ends c going holds =
        keeps_if asking Q (nat_le DEVICE_REPLIES (length s.replies)) over (Ask (Ring (Take Tx)) tree) c (λ full. ends c holds)
        (λ room. (tt, λ answer d made. next_keeps answer c d going made holds))

  pub take_keeps : (c : Situation) → Now s c → Keeps TakeEnds (take_tx_of s) c
  take_keeps c holds = by s.failed refl
    where
      by : (o : Option Failure) → s.failed ≡ o → Keeps TakeEnds (elim o [
        | Some f ↦ Done (s, taken.Failed f)
        | None ↦
            if nat_le DEVICE_REPLIES (length s.replies) then Done (s, taken.RepliesFull DEVICE_REPLIES)
            else Ask (Ring (Take Tx)) (λ answer. on_next answer s)
      ]) c
      by (Some f) failed = holds
      by None going = tx_keeps TakeEnds (λ answer. on_next answer s) (λ chain long queue d rx tells.
          read_keeps chain long queue TakeEnds (λ f. Done (failing f s, taken.Failed f)) (λ r. Ask (Ring (Return chain 0)) (λ _. Done (r.0, taken.Packet r.1)))
          (λ f e kept. kept) (λ h wire x e heard. returns chain long queue h wire rx x e heard) rx d tells)
          (λ d kept. kept) (λ f d kept. kept) (Done (s, taken.RepliesFull DEVICE_REPLIES)) (λ d kept. kept) c going holds
