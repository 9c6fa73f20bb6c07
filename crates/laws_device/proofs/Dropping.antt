-- Over an honest ring that tells its log the device counts just the packets of the log that it drops, and its ring doesn't fail.
use Rattle.std.proofs.lemmas.Grind.{common_steps}
use Rattle.std.proofs.Common.{◌≡◌, ℕ, ◌-◌, nat_lt, Bool, true, false, cond, List, [], ◌∷◌, length, take, drop, Option, Some, None, refl, sym, ap, subst, ◌∙◌, arith}
use Rattle.std.{proofs.lemmas.Bool.Decides.nat_tests, specs.{Option.ForSome, Prelude.IsSomeAnd}}
use Rattle.byteorder.specs.Endian.{little_bytes}
use Rattle.vs_contents.specs.CallTree.{Done, Ask}
use Rattle.vs_header.specs.{Packet.{header_bytes, header_of}, declared.{Header.Header, TheConstants.HEADER_LEN}}
use Rattle.laws_history.specs.{Packets.{packet_bytes, size}, declared.packet.Packet.Packet}
use Rattle.vs_page.specs.{declared.log.LogEntry.TheVariants.{GotPacket}, Fair.IsFairLog, Held.{packet_held}, Log.{Device, Log, flow_got}}
use Rattle.vs_page.{specs.Open.{is_dropped}, proofs.Holding.packet_whole}
use Rattle.vs_ring_port.specs.{Chains.{Held, bytes_in}, Contents.{DeviceAnswer, DeviceCall, PublishCid, Return, RingContents, Take, Write}, DeviceCalls.{DeviceAllows, DeviceMoves}}
use Rattle.vs_ring_port.specs.{DeviceCalls.{IsTakenAs, IsTakenWhole}, EndLog.{EndLog, entries_returned, log_reset, log_returned, log_taken, log_written, with_packet}}
use Rattle.vs_ring_port.specs.{Lists.Rings, declared.{device_ring.{Chain.Chain, Next.Next}, queue.Queue.{Queue, TheVariants.{Event, Rx, Tx}}}}
use Rattle.vs_wrap.specs.Wrap.{counted}
use Rattle.laws_tables.proofs.Fair.{got_formed}
use Rattle.vs_device_parts.specs.{Calls.{Accept, Answer, Call, CloseStream, DeviceTree, Dial, Label, ReadStream, Ring, ShutWrite, Situation, WriteStream}, Playing.Runs}
use Rattle.vs_device_parts.specs.Receiving.{written}
use Rattle.laws_device.{specs.Dropped.{IsCounted}, proofs.Walk.{Fields.{AfterEventPage, AfterTx, Calls, Fields, HeaderRead, TxCalls, after_rx}, Keeping.Asking}}
use Rattle.laws_device.proofs.{Walk.Single.OneByOne, Keeping.{Keeps, Lets, lets}, Named.Keeping.asking as asked, Ringing.{Telling, Tells, bytes_held, moves}}
use Rattle.laws_device.proofs.Transmitting.{header_is}
use Rattle.laws_device.proofs.Walk.Keeping as walked
use Rattle.vs_ring_port.specs.declared.device_ring.Next.TheVariants as next

-- What a call does to the ring.
abbrev pub Moves : (call : Call) → Answer call → Situation → Situation → Type 0
Moves (Ring call) a c d = DeviceAllows call a c.ring d.ring × (d.host ≡ c.host)
Moves call a c d = d.ring ≡ c.ring

abbrev pub moving : Asking Situation
moving = asked (λ call c. Unit {0}) Moves

let_moves : (call : Call) (a : Answer call) (c d : Situation) → Lets call a c d → Moves call a c d
let_moves (Ring call) a c d made = (made.0, made.1)
let_moves (ReadStream stream n) a c d made = made.0.ring
let_moves (WriteStream stream bytes) a c d made = made.0.ring
let_moves Accept a c d made = made.ring
let_moves (Dial path flow) a c d made = made.ring
let_moves (Label stream flow) a c d made = made.ring
let_moves (ShutWrite stream) a c d made = made.ring
let_moves (CloseStream stream) a c d made = made.ring

module _ {A : Type 0} (Q : A → Situation → Type 0) where
  pub moving_end : (tree : DeviceTree A) (c d : Situation) (x : A) → walked.Keeps moving Q tree c → Runs tree c x d → Q x d
  moving_end (Done y) c d x keeps runs =
      let P : A → Type 0 = λ z. Q z c in let R : Situation → Type 0 = λ e. Q x e in subst R runs.1 (subst P runs.0 keeps)
  moving_end (Ask call next) c d x keeps runs =
      moving_end (next runs.0) runs.1 d x (keeps.1 runs.0 runs.1 (let_moves call runs.0 c runs.1 (lets call runs.0 c runs.1 runs.2))) runs.3

  -- What is kept besides.
  pub keeps_both : (P : A → Situation → Type 0) (tree : DeviceTree A) (c : Situation) → Keeps P tree c → walked.Keeps moving Q tree c
      → Keeps (λ x d. P x d × Q x d) tree c
  keeps_both P (Done x) c keeps also = (keeps, also)
  keeps_both P (Ask call next) c keeps also =
      (keeps.0, λ a d made. keeps_both P (next a) d (keeps.1 a d made) (also.1 a d (let_moves call a c d made)))

-- Of an honest ring.
abbrev When : (EndLog → Type 0) → Telling
When A honest host l = honest ≡ true → A l

over : (call : DeviceCall) (a : DeviceAnswer call) (L : Rings → Type 0) (f : Rings → Rings) (R : EndLog → Type 0) (g : EndLog → EndLog) (c d : Situation)
    → DeviceMoves call a L f R g c.ring d.ring → d.host ≡ c.host → (A B : EndLog → Type 0)
    → ((l : EndLog) → c.ring.honest ≡ true → R l → A l → IsFairLog Device (g l).entries → B (g l)) → Tells true (When A) c → Tells true (When B) d
over call a L f R g c d made same A B step at = grind (arith, common_steps, moves)

module _ (first : ℕ) where
  abbrev At : Fields → EndLog → Type 0
  At n l = IsCounted first n.cid n.dropped n.failed l.entries

  abbrev pub P : Option Chain → Fields → Situation → Type 0
  P page n c = Tells true (When (At n)) c

  stays : (n : Fields) (c d : Situation) → d.ring ≡ c.ring → P None n c → P None n d
  stays n c d same at = record { sure = tt; told = subst (λ (r : RingContents). ForSome r.log (λ l. r.honest ≡ true → At n l)) (sym same) at.told }

  -- A page that isn't of tx is taken.
  taken_other : (queue : Queue) (n : Fields) (a : Next) (page : Option (List ℕ)) (l : EndLog) → (queue ≡ Tx → ⊥) → IsTakenWhole queue a page → At n l
      → At n (log_taken queue a page l)
  taken_other queue n a page l other whole at = grind (arith, common_steps)

  returned : (n : Fields) (q : Queue) (page : List ℕ) (log : Log) → IsCounted first n.cid n.dropped n.failed log
      → IsCounted first n.cid n.dropped n.failed (entries_returned q page log)
  returned n q page log at = grind (arith, common_steps)

  rx_at : (n : Fields) (a : Next) (page : Option (List ℕ)) (l : EndLog) → IsTakenWhole Rx a page → At n l → At (after_rx a n) (log_taken Rx a page l)
  rx_at n a page l whole at = grind (arith, common_steps, taken_other)

  took_page : (queue : Queue) → (queue ≡ Tx → ⊥) → (n : Fields) (a : Next) (c d : Situation) → Moves (Ring (Take queue)) a c d → P None n c → P None n d
  took_page queue other n a c d made at = over _ _ _ _ _ (log_taken queue a made.0.0) c d made.0.1 made.1 (At n) (At n)
      (λ l on asked was fair. taken_other queue n a made.0.0 l other (asked.1 on) was) at

  wrote : (chain : Chain) (place : ℕ) (bytes : List ℕ) (n : Fields) (c : Situation) → P None n c
      → moving.asks (Ring (Write chain place bytes)) c (λ a d. P None n d)
  wrote chain place bytes n c at = (
    tt,
    λ a d made. over _ _ _ _ _ (log_written chain place bytes) c d made.0 made.1 (At n) (At n)
        (λ l on asked was fair. was) at,
  )

  returns : (chain : Chain) (len : ℕ) (n : Fields) (c : Situation) → P None n c → moving.asks (Ring (Return chain len)) c (λ a d. P None n d)
  returns chain len n c at = (
    tt,
    λ a d made. over _ _ _ _ _ (log_returned chain len) c d made.0.1 made.1 (At n) (At n)
        (λ l on asked was fair. returned n chain.queue (take len (bytes_in chain l.held)) l.entries was) at,
  )

  puts_four : (chain : Chain) (n : Fields) (c : Situation) → P None n c
      → moving.asks (Ring (Write chain 0 (little_bytes 4 0))) c (λ a d. moving.asks (Ring (Return chain 4)) d (λ b e. P None n e))
  puts_four chain n c at = let w = wrote chain 0 (little_bytes 4 0) n c at in (tt, λ a d made. returns chain 4 n d (w.1 a d made))

  puts_packet : (chain : Chain) (h : Header) (payload : List ℕ) (n : Fields) (c : Situation) → P None n c
      → walked.Keeps moving (λ x d. P None n d) (written chain h payload) c
  puts_packet chain h [] n c at = let w = wrote chain 0 (header_bytes h) n c at in (tt, λ a d made. returns chain HEADER_LEN n d (w.1 a d made))
  puts_packet chain h (x ∷ payload) n c at =
      let w = wrote chain 0 (header_bytes h) n c at in
      (tt, λ a d made. (tt, λ b e more. returns chain _ n e ((wrote chain HEADER_LEN (x ∷ payload) n d (w.1 a d made)).1 b e more)))

  event_page : (n : Fields) (a : Next) (c d : Situation) → Moves (Ring (Take Event)) a c d → P None n c → AfterEventPage moving P a n d
  event_page n (next.Chain chain) c d made at = puts_four chain n d (took_page Event (λ tx. cc) n (next.Chain chain) c d made at)
  event_page n next.None c d made at = took_page Event (λ tx. cc) n next.None c d made at
  event_page n (next.Failed f) c d made at = over _ _ _ _ _ (log_taken Event (next.Failed f) made.0.0) c d made.0.1 made.1 (At n) (At (record n { failed = Some f }))
      (λ l on asked was fair. absurd (asked.1 on)) at

  pub calls : Calls moving P
  calls = record {
    closes = λ page stream n c at. (tt, λ a d same. stays n c d same at);
    shuts = λ stream n c at. (tt, λ a d same. stays n c d same at);
    labels = λ stream flow n c at. (tt, λ a d same. stays n c d same at);
    accepts = λ n c at. (tt, λ a d same. stays n c d same at);
    reads = λ stream room n c at. (tt, λ a d same. stays n c d same at);
    writes = λ stream bytes n c at. (tt, λ a d same. stays n c d same at);
    takes_rx = λ n c at none. (
      tt,
      λ a d made. over _ _ _ _ _ (log_taken Rx a made.0.0) c d made.0.1 made.1 (At n) (At (after_rx a n))
          (λ l on asked was fair. rx_at n a made.0.0 l (asked.1 on) was) at,
    );
    event = λ n c at owed. (tt, λ a d made. event_page n a c d made at);
    puts = λ chain h payload n c at is. puts_packet chain h payload n c at;
  }

  pub publishes : (cid : ℕ) (n : Fields) (c : Situation) → P None n c
      → moving.asks (Ring (PublishCid cid)) c (λ a d. P None (record n { cid = cid; event_owed = true }) d)
  publishes cid n c at = (
    tt,
    λ a d made. over _ _ _ _ _ (log_reset cid) c d made.0 made.1 (At n) (At (record n { cid = cid }))
        (λ l on asked was fair. record { cid_is = refl; dropped_is = was.dropped_is; unfailed = was.unfailed }) at,
  )

  pub alone : OneByOne moving P
  alone = record {
    returns = λ chain n c at. returns chain 0 n c at;
    puts_event = puts_four;
    looks = λ n c at. (tt, λ a d made. took_page Event (λ tx. cc) n a c d made at);
    holds = λ chain n c at. at;
  }

  -- A page of tx was taken, which holds a packet as long as its header says.
  record Took (chain : Chain) (n : Fields) (l : EndLog) : Type 0 where
    page : List ℕ
    packet : Packet
    held : packet_held page ≡ Some packet
    log : Log
    entries : l.entries ≡ GotPacket packet ∷ log
    before : IsCounted first n.cid n.dropped n.failed log
    fair : IsFairLog Device (GotPacket packet ∷ log)
    others : List Held
    there : l.held ≡ record { chain = chain; bytes = page } ∷ others
    readable : chain.readable ≡ length page

  took : (chain : Chain) (n : Fields) (page : Option (List ℕ)) (l : EndLog) → IsTakenAs Tx (next.Chain chain) page
      → IsTakenWhole Tx (next.Chain chain) page → At n l → IsFairLog Device (log_taken Tx (next.Chain chain) page l).entries
      → Took chain n (log_taken Tx (next.Chain chain) page l)
  took chain n None l is_taken whole at fair = absurd is_taken
  took chain n (Some page) l is_taken whole at fair = by (packet_held page) refl whole
    where
      by : (o : Option Packet) → packet_held page ≡ o → IsSomeAnd o (λ p. page ≡ packet_bytes p) → Took chain n (log_taken Tx (next.Chain chain) (Some page) l)
      by None is none = absurd none
      by (Some p) is holds = record {
        page = page;
        packet = p;
        held = is;
        log = l.entries;
        entries = ap (λ (o : Option Packet). with_packet (λ q. GotPacket q) o l.entries) is;
        before = at;
        fair = subst (λ (o : Option Packet). IsFairLog Device (with_packet (λ q. GotPacket q) o l.entries)) is fair;
        others = l.held;
        there = refl;
        readable = is_taken.1;
      }

  -- A packet that is got, and dropped or not.
  -- Its header is read.
  module _ (chain : Chain) (n : Fields) (h : Header) where
    record Heard (l : EndLog) : Type 0 where
      took : Took chain n l
      header : took.packet.header ≡ h

    judged : (b : Bool) → is_dropped Device n.cid h ≡ b → (l : EndLog) → Heard l → At (record n { dropped = cond b (counted n.dropped) n.dropped }) l
    judged b is l heard = grind (arith, common_steps)

    not_short : nat_lt (chain.readable - HEADER_LEN) h.len ≡ true → (l : EndLog) → Heard l → ⊥
    not_short short l heard =
        let t = heard.took in
        let formed = got_formed Device t.packet t.log (t.fair (flow_got Device t.packet)) in
        let whole = (packet_whole t.page t.packet t.held).1 in
        let len : h.len ≡ size t.packet = ap (λ (x : Header). x.len) (sym heard.header) ∙ formed.len in
        let readable = t.readable in
        absurd (grind (arith, nat_tests, short, whole, len, readable))

    header_read : (c : Situation) → Tells true (When Heard) c → HeaderRead moving P chain h n c
    header_read c tells = record {
      short = λ short. record { sure = tt; told = λ l is on. absurd (not_short short l (tells.told l is on)) };
      drops = λ whole is. record { sure = tt; told = λ l there on. judged true is l (tells.told l there on) };
      comes = λ whole is. record { sure = tt; told = λ l there on. judged false is l (tells.told l there on) };
    }

  heard_as : (chain : Chain) (n : Fields) (bytes : List ℕ) (l : EndLog) → bytes ≡ take HEADER_LEN (drop 0 (bytes_in chain l.held)) → Took chain n l
      → Heard chain n (header_of bytes) l
  heard_as chain n bytes l is t = record {
    took = t;
    header = header_is t.page t.packet t.held
        ∙ sym (ap header_of (is ∙ ap (take HEADER_LEN) (bytes_held chain t.page t.others l t.there)));
  }

  tx_taken : (n : Fields) (c : Situation) (a : Next) (d : Situation) → Moves (Ring (Take Tx)) a c d → P None n c → AfterTx moving P a n d
  tx_taken n c (next.Chain chain) d made at =
      let now = over _ _ _ _ _ (log_taken Tx (next.Chain chain) made.0.0) c d made.0.1 made.1 (At n) (Took chain n)
      (λ l on asked was fair. took chain n made.0.0 l asked.0 (asked.1 on) was fair) at in (
        tt,
        λ bytes e read. header_read chain n (header_of bytes) e (over _ _ _ _ _ (λ l. l) d e read.0 read.1 (Took chain n) (Heard chain n (header_of bytes))
            (λ l on asked was fair. heard_as chain n bytes l asked was) now),
      )
  tx_taken n c next.None d made at =
      over _ _ _ _ _ (log_taken Tx next.None made.0.0) c d made.0.1 made.1 (At n) (At n) (λ l on asked was fair. was) at
  tx_taken n c (next.Failed f) d made at =
      over _ _ _ _ _ (log_taken Tx (next.Failed f) made.0.0) c d made.0.1 made.1 (At n) (At (record n { failed = Some f }))
      (λ l on asked was fair. absurd (asked.1 on)) at

  pub tx_calls : TxCalls moving P
  tx_calls = record {
    takes = λ n c at. (tt, λ a d made. tx_taken n c a d made at);
    reads = λ chain len n c at. (tt, λ bytes d made. over _ _ _ _ _ (λ l. l) c d made.0 made.1 (At n) (At n) (λ l on asked was fair. was) at);
    dials = λ chain path flow n c at. (tt, λ a d same. stays n c d same at);
    returns = λ chain n c at. returns chain 0 n c at;
  }
