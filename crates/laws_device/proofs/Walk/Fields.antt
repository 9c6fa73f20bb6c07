-- A walk that looks at no connection: what it asks of each call, and what each small change of the device's conversations then keeps.
use Rattle.std.proofs.lemmas.Grind.{common_steps}
use Rattle.std.proofs.Common.{arith}
use Rattle.std.proofs.Common.{◌≡◌, ℕ, ◌-◌, nat_lt, Bool, true, false, cond, List, [], length, Option, Some, None}
use Rattle.byteorder.specs.Endian.{little_bytes}
use Rattle.vs_conn.specs.Headers.{payload_header}
use Rattle.vs_flow.specs.declared.flow.Flow.{Flow}
use Rattle.vs_header.specs.{Packet.header_of, declared.{Header.Header, TheConstants.HEADER_LEN}}
use Rattle.vs_outside.specs.{Host.{accept_failed, dial_failed, read_failed, write_failed}, declared.host_net.{Accepted.Accepted, Dialed.Dialed, StreamRead.StreamRead}}
use Rattle.vs_outside.specs.declared.host_net.StreamWrite.{StreamWrite}
use Rattle.vs_page.specs.{Log.Device, Open.is_dropped}
use Rattle.vs_ring_port.specs.{Contents.{Read, Return, Take, Write}, declared.{queue.Queue.TheVariants.{Event, Rx, Tx}, device_ring.{Chain.Chain, Next.Next}}}
use Rattle.vs_ring_port.specs.declared.failure.Failure.{Failure}
use Rattle.vs_wrap.specs.Wrap.{counted}
use Rattle.vs_device_parts.specs.{Calls.{Accept, CloseStream, Dial, Label, ReadStream, Ring, ShutWrite, WriteStream}, Connections.route_to_guest, Receiving.written}
use Rattle.vs_device_parts.specs.State.{DeviceEntry, DeviceState}
use Rattle.vs_proxy_parts.specs.{State.{Handshake, ProxyState}, Turns.turn_of}
use Rattle.laws_device.{specs.Walk.Seen.{Seen, seen}, proofs.Walk.{Keeping.{Asking, Keeps}, Turning.{AfterAccept, AfterByte, Between, Ends, Shakes, keeps_turn}}}
use Rattle.laws_device.proofs.Walk.{Serving.{AfterEvent, AfterRead, AfterWrite, Closes, Fills, Writes}, Taking.{AfterDial, AfterHeader, Takes}}
use Rattle.vs_outside.specs.declared.host_net.StreamRead.TheVariants as read
use Rattle.vs_ring_port.specs.declared.device_ring.Next.TheVariants as next
use Rattle.vs_ring_port.specs.declared.failure.Failure.TheVariants as failure
use Rattle.laws_device.proofs.Walk.Serving as serving
use Rattle.laws_device.proofs.Walk.Taking as taking

-- What is seen of a device but its table.
pub record Fields : Type 0 where
  pub chain : Option Chain
  pub event_owed : Bool
  pub cid : ℕ
  pub dropped : ℕ
  pub faults : ℕ
  pub failed : Option Failure

abbrev pub fields_in : Seen → Fields
fields_in s =
    record { chain = s.chain; event_owed = s.event_owed; cid = s.cid; dropped = s.dropped; faults = s.faults; failed = s.failed }

abbrev pub fields : DeviceState → Fields
fields s = fields_in (seen s)

-- A call of the host that failed, or not; a page of rx that is taken, or the ring's failure.
abbrev pub faulted : Bool → Fields → Fields
faulted b n = record n { faults = cond b (counted n.faults) n.faults }

abbrev pub after_rx : Next → Fields → Fields
after_rx (next.Chain chain) n = record n { chain = Some chain }
after_rx next.None n = n
after_rx (next.Failed f) n = record n { failed = Some f }

-- P says what holds of the page of tx that is held, if one is, and of the fields.
module _ {S : Type 0} (K : Asking S) (P : Option Chain → Fields → S → Type 0) where
  abbrev pub AfterEventPage : Next → Fields → S → Type 0
  AfterEventPage (next.Chain chain) n d =
      K.asks (Ring (Write chain 0 (little_bytes 4 0))) d (λ a e. K.asks (Ring (Return chain 4)) e (λ b f. P None (record n { event_owed = false }) f))
  AfterEventPage next.None n d = P None n d
  AfterEventPage (next.Failed f) n d = P None (record n { failed = Some f }) d

  -- Calls of the host, and those of the ring but for what takes chains of tx.
  pub record Calls : Type 0 where
    pub closes : (page : Option Chain) (stream : ℕ) (n : Fields) (c : S) → P page n c → K.asks (CloseStream stream) c (λ a d. P page n d)
    pub shuts : (stream : ℕ) (n : Fields) (c : S) → P None n c → K.asks (ShutWrite stream) c (λ a d. P None n d)
    pub labels : (stream : ℕ) (flow : Flow) (n : Fields) (c : S) → P None n c → K.asks (Label stream flow) c (λ a d. P None n d)
    pub accepts : (n : Fields) (c : S) → P None n c → K.asks Accept c (λ a d. P None (faulted (accept_failed a) n) d)
    pub reads : (stream room : ℕ) (n : Fields) (c : S) → P None n c → K.asks (ReadStream stream room) c (λ a d. P None (faulted (read_failed a.0) n) d)
    pub writes : (stream : ℕ) (bytes : List ℕ) (n : Fields) (c : S) → P None n c
        → K.asks (WriteStream stream bytes) c (λ a d. P None (faulted (write_failed a) n) d)
    pub takes_rx : (n : Fields) (c : S) → P None n c → n.chain ≡ None → K.asks (Ring (Take Rx)) c (λ a d. P None (after_rx a n) d)
    pub event : (n : Fields) (c : S) → P None n c → n.event_owed ≡ true → K.asks (Ring (Take Event)) c (λ a d. AfterEventPage a n d)
    pub puts : (chain : Chain) (h : Header) (payload : List ℕ) (n : Fields) (c : S) → P None n c → n.chain ≡ Some chain
        → Keeps K (λ x d. P None (record n { chain = None }) d) (written chain h payload) c

  -- A header was read: of a packet that the chain has less of, of one that is dropped, or of another.
  pub record HeaderRead (chain : Chain) (h : Header) (n : Fields) (d : S) : Type 0 where
    pub short : nat_lt (chain.readable - HEADER_LEN) h.len ≡ true
        → P None (record n { failed = Some (failure.PayloadShort h.len (chain.readable - HEADER_LEN)) }) d
    pub drops : nat_lt (chain.readable - HEADER_LEN) h.len ≡ false → is_dropped Device n.cid h ≡ true
        → P (Some chain) (record n { dropped = counted n.dropped }) d
    pub comes : nat_lt (chain.readable - HEADER_LEN) h.len ≡ false → is_dropped Device n.cid h ≡ false → P (Some chain) n d

  abbrev pub AfterTx : Next → Fields → S → Type 0
  AfterTx (next.Chain chain) n d = K.asks (Ring (Read chain 0 HEADER_LEN)) d (λ bytes e. HeaderRead chain (header_of bytes) n e)
  AfterTx next.None n d = P None n d
  AfterTx (next.Failed f) n d = P None (record n { failed = Some f }) d

  -- Those that take them, and what is made while one is held.
  pub record TxCalls : Type 0 where
    pub takes : (n : Fields) (c : S) → P None n c → K.asks (Ring (Take Tx)) c (λ a d. AfterTx a n d)
    pub reads : (chain : Chain) (len : ℕ) (n : Fields) (c : S) → P (Some chain) n c
        → K.asks (Ring (Read chain HEADER_LEN len)) c (λ bytes d. P (Some chain) n d)
    pub dials : (chain : Chain) (path : List ℕ) (flow : Flow) (n : Fields) (c : S) → P (Some chain) n c
        → K.asks (Dial path flow) c (λ a d. P (Some chain) (faulted (dial_failed a) n) d)
    pub returns : (chain : Chain) (n : Fields) (c : S) → P (Some chain) n c → K.asks (Ring (Return chain 0)) c (λ a d. P None n d)

  abbrev pub D : List Handshake → Option Chain → Seen → S → Type 0
  D hands page s c = P page (fields_in s) c

  abbrev pub U : List Handshake → Chain → Header → Seen → S → Type 0
  U hands chain h s c = P (Some chain) (fields_in s) c

  module _ (calls : Calls) where
    module _ (hands : List Handshake) where
      pub closes : Closes K (D hands)
      closes = record {
        cuts = λ e s c is at still. calls.closes None e.value.stream (fields s) c at;
        was_cut = λ e s c is at closed. at;
        leaves = λ page e v s c is closed stream at still. calls.closes page v.stream (fields s) c at;
        was_left = λ page e v s c is closed stream at gone. at;
      }

      wrote : (e : DeviceEntry) (s : DeviceState) (a : StreamWrite) (d : S) → P None (faulted (write_failed a) (fields s)) d → AfterWrite K (D hands) e s a d
      wrote e s a d at = grind (arith, common_steps)

      pub writes : Writes K (D hands)
      writes = record {
        writes = λ e s c is still at. K.weaker _ c _ _ (wrote e s) (calls.writes e.value.stream _ (fields s) c at);
        shuts = λ e s c is out at. calls.shuts e.value.stream (fields s) c at;
      }

      held : (s : DeviceState) (a : Next) (d : S) → P None (after_rx a (fields s)) d → serving.AfterTake K (D hands) s a d
      held s a d at = grind (arith, common_steps)

      paid : (s : DeviceState) (a : Next) (d : S) → AfterEventPage a (fields s) d → AfterEvent K (D hands) s a d
      paid s a d at = grind (arith, common_steps)

      have_read : (e : DeviceEntry) (chain : Chain) (s : DeviceState) (a : StreamRead) (payload : List ℕ) (d : S)
          → s.chain ≡ Some chain → P None (faulted (read_failed a) (fields s)) d → AfterRead K (D hands) e chain s a payload d
      have_read e chain s (read.Got n) payload d is at =
          calls.puts chain (payload_header e.value.end (route_to_guest s.cid e.flow) (length payload)) payload (fields s) d at is
      have_read e chain s read.Again payload d is at = at
      have_read e chain s read.End payload d is at = at
      have_read e chain s read.Failed payload d is at = at

      pub fills : Fills K (D hands)
      fills = record {
        event = λ s c at owed. K.weaker _ c _ _ (paid s) (calls.event (fields s) c at owed);
        holds = λ s c at none. K.weaker _ c _ _ (held s) (calls.takes_rx (fields s) c at none);
        puts = λ h chain s c at is. calls.puts chain h [] (fields s) c at is;
        reads = λ e chain s c is at held may. K.weaker _ c _ _ (λ a d now. have_read e chain s a.0 a.1 d held now) (calls.reads e.value.stream _ (fields s) c at);
        wants = λ e s c is at. at;
        pays = λ e what asked s c is owes at. at;
      }

      -- What takes packets.
      module _ (tx : TxCalls) where
        header_read : (chain : Chain) (h : Header) (s : DeviceState) (d : S) → HeaderRead chain h (fields s) d → AfterHeader K (D hands) (U hands) chain h s d
        header_read chain h s d at = record { short = at.short; drops = at.drops; comes = at.comes }

        pub taken : (s : DeviceState) (a : Next) (d : S) → AfterTx a (fields s) d → taking.AfterTake K (D hands) (U hands) s a d
        taken s (next.Chain chain) d at = K.weaker _ d _ _ (λ bytes e now. header_read chain (header_of bytes) s e now) at
        taken s next.None d at = at
        taken s (next.Failed f) d at = at

        dialed_by : (chain : Chain) (h : Header) (s : DeviceState) (a : Dialed) (d : S) → P (Some chain) (faulted (dial_failed a) (fields s)) d
            → AfterDial K (D hands) (U hands) chain h s a d
        dialed_by chain h s a d at = grind (arith, common_steps)

        pub takes : Takes K (D hands) (U hands)
        takes = record {
          takes = λ s c at. K.weaker _ c _ _ (taken s) (tx.takes (fields s) c at);
          returns = λ chain s c at. tx.returns chain (fields s) c at;
          ignores = λ chain h s c at. at;
          dials = λ chain h s c none place at. K.weaker _ c _ _ (dialed_by chain h s) (tx.dials chain _ _ (fields s) c at);
          accepts = λ chain h e s c found is at. at;
          delivers = λ chain h e s c found is at. tx.reads chain h.len (fields s) c at;
          hears = λ chain h e s c v found is other at. at;
        }

    accepted_by : (hands : List Handshake) (port : ℕ) (s : DeviceState) (a : Accepted) (d : S) → P None (faulted (accept_failed a) (fields s)) d
        → AfterAccept K (Between D) hands port s a d
    accepted_by hands port s a d at = grind (arith, common_steps)

    byte_read : (h : Handshake) (hands : List Handshake) (port : ℕ) (s : DeviceState) (a : StreamRead) (bytes : List ℕ) (d : S)
        → P None (faulted (read_failed a) (fields s)) d → AfterByte K (Between D) h hands port s a bytes d
    byte_read h hands port s (read.Got n) bytes d at = record {
      more = λ is. at;
      ends = calls.closes None h.stream (fields s) d at;
      refused = λ guest flow fault is given full. at;
      opens = λ guest flow is given none. calls.labels h.stream flow (fields s) d at;
    }
    byte_read h hands port s read.Again bytes d at = at
    byte_read h hands port s read.End bytes d at = at
    byte_read h hands port s read.Failed bytes d at = at

    pub shakes : Shakes K (Between D)
    shakes = record {
      drops = λ h hands port s c on at. calls.closes None h.stream (fields s) c at;
      accepts = λ hands port s c at. K.weaker _ c _ _ (accepted_by hands port s) (calls.accepts (fields s) c at);
      reads = λ h hands port s c on at. K.weaker _ c _ _ (λ a d now. byte_read h hands port s a.0 a.1 d now) (calls.reads h.stream 1 (fields s) c at);
    }

    pub fields_turn : TxCalls → (size now : ℕ) (s : ProxyState) (c : S) → P None (fields s.device) c → Keeps K (Ends K (Between D)) (turn_of size now s) c
    fields_turn tx size now = keeps_turn K D shakes closes U (λ hands. takes hands tx) writes fills size now
