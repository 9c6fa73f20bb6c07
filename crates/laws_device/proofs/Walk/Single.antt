-- What the single steps of device and proxy keep where no connection is looked at, and a transport reset.
use Rattle.std.proofs.Common.{◌≡◌, ℕ, ◌-◌, ◌==◌, nat_le, nat_lt, Bool, true, false, [], length, Option, Some, None, Result, Ok, Err}
use Rattle.vs_contents.specs.CallTree.{Ask, Done, bind, for_each}
use Rattle.vs_credit.specs.Credit.{free_of}
use Rattle.vs_flow.specs.Table.{entry_under, slots}
use Rattle.vs_header.specs.{Packet.header_of, declared.TheConstants.HEADER_LEN}
use Rattle.vs_limits.specs.declared.TheConstants.{DEVICE_REPLIES}
use Rattle.byteorder.specs.Endian.{little_bytes}
use Rattle.vs_ring_port.specs.{Contents.{PublishCid, Return, Take, Write}, declared.{queue.Queue.{Queue, TheVariants.{Event, Rx, Tx}}, device_ring.{Chain.Chain, Next.Next}}}
use Rattle.vs_ring_port.specs.declared.failure.Failure.{Failure}
use Rattle.vs_device_parts.specs.{Calls.{DeviceTree, Ring}, Connections.stream_closed, State.DeviceState, Streams.{closing, shut_write, tick_slot, write_pending}}
use Rattle.vs_device_parts.specs.{Receiving.{Filling, hold, may_read, put_owed, put_reply, read_with_chain}, Steps.{chain_came, filling, puts_event, puts_owed, puts_payload}}
use Rattle.vs_device_parts.specs.{Steps.{puts_reply, reads, returns, shuts_write, takes_chain, with_chain, writes, writes_on, writing}, Transmitting.on_packet, Turns.after_reset}
use Rattle.vs_device_parts.specs.Turns.{close_slot, reset_of}
use Rattle.vs_proxy_parts.specs.{Handshakes.{accept_one, read_byte, streams_of, tick_handshake}, State.{ProxyState, Turning}, Turns.{close_handshake, proxy_reset_of, reset_with}}
use Rattle.laws_device.proofs.Walk.{Fields.{AfterTx, Calls, D, Fields, TxCalls, U, fields}, Keeping.{Asking, Keeps, keeps_each, keeps_if, keeps_some, keeps_then}}
use Rattle.laws_device.proofs.Walk.Serving.{by_slot, keeps_hold, keeps_put_owed, keeps_put_reply_of, keeps_read_with_chain, keeps_shut_write, keeps_tick_slot, keeps_write_pending}
use Rattle.laws_device.proofs.Walk.{Taking.keeps_on_packet, Turning.{Between, keeps_accept_one, keeps_read_byte, keeps_tick_handshake}}
use Rattle.laws_device.proofs.Walk.Fields as walk
use Rattle.vs_ring_port.specs.declared.device_ring.Next.TheVariants as next

module _ {S : Type 0} (K : Asking S) (P : Option Chain → Fields → S → Type 0) where
  -- Of any chain, whatever else is held, and of the event.
  pub record OneByOne : Type 0 where
    pub returns : (chain : Chain) (n : Fields) (c : S) → P None n c → K.asks (Ring (Return chain 0)) c (λ a d. P None n d)
    pub puts_event : (chain : Chain) (n : Fields) (c : S) → P None n c
        → K.asks (Ring (Write chain 0 (little_bytes 4 0))) c (λ a d. K.asks (Ring (Return chain 4)) d (λ b e. P None (record n { event_owed = false }) e))
    pub looks : (n : Fields) (c : S) → P None n c → K.asks (Ring (Take Event)) c (λ a d. P None n d)
    pub holds : (chain : Chain) (n : Fields) (c : S) → P (Some chain) n c → P None n c

  abbrev pub Has : DeviceState → S → Type 0
  Has s c = P None (fields s) c

  abbrev pub Keeping : (DeviceState → DeviceTree DeviceState) → Type 0
  Keeping step = (s : DeviceState) (c : S) → Has s c → Keeps K Has (step s) c

  abbrev Turned : Turning → S → Type 0
  Turned t c = Has t.state.device c

  abbrev pub Turns : (Turning → DeviceTree Turning) → Type 0
  Turns step = (t : Turning) (c : S) → Turned t c → Keeps K Turned (step t) c

  module _ (calls : Calls K P) (tx : TxCalls K P) (alone : OneByOne) where
    came : (s : DeviceState) (a : Next) (c : S) → AfterTx K P a (fields s) c → Keeps K Has (chain_came a s) c
    came s (next.Chain chain) c after = K.weaker _ c _ _ (λ bytes d read.
        keeps_if K Has (nat_lt (chain.readable - HEADER_LEN) (header_of bytes).len) _ _ d read.short (λ whole.
        keeps_then K Has (λ x e. P (Some chain) (fields x.0) e) (on_packet chain (header_of bytes) s) (λ x. Done x.0) d
        (keeps_on_packet K (D K P []) (U K P []) (walk.closes K P calls []) (walk.takes K P calls [] tx) chain (header_of bytes) s d (read.drops whole)
        (read.comes whole)) (λ x e kept. alone.holds chain (fields x.0) e kept))) after
    came s next.None c after = after
    came s (next.Failed f) c after = after

    pub takes_keeps : (queue : Queue) → Keeping (takes_chain queue)
    takes_keeps Tx s c at = keeps_if K Has (nat_le DEVICE_REPLIES (length s.replies)) _ _ c (λ full. at)
        (λ room. K.weaker _ c _ _ (came s) (tx.takes (fields s) c at))
    takes_keeps Rx s c at =
        keeps_then K Has (λ (q : Filling) d. Has q.state d × (q.state.table ≡ s.table)) (hold (filling s)) (λ r. Done r.state) c
        (keeps_hold K (D K P []) (walk.closes K P calls []) (walk.fills K P calls []) (filling s) c at) (λ r d kept. kept.0)
    takes_keeps Event s c at = keeps_if K Has s.event_owed _ _ c (λ owed. alone.looks (fields s) c at) (λ no. at)

    pub returns_keeps : (chain : Chain) → Keeping (returns chain)
    returns_keeps chain s c at = alone.returns chain (fields s) c at

    pub puts_event_keeps : (chain : Chain) → Keeping (puts_event chain)
    puts_event_keeps chain s c at = keeps_if K Has s.event_owed _ _ c (λ owed. alone.puts_event chain (fields s) c at) (λ no. at)

  module _ (calls : Calls K P) where
    puts_first : (f : Filling → DeviceTree (Filling × Bool)) → ((r : Filling) (c : S) → Has r.state c → Keeps K (λ x d. Has x.0.state d) (f r) c)
        → Keeping (with_chain (λ r. bind (f r) (λ q. Done q.0.state)))
    puts_first f keeps s c at =
        keeps_some K Has s.chain (Done s) (λ chain. bind (f (filling s)) (λ q. Done q.0.state)) c (λ none. at) (λ chain is.
        keeps_then K Has (λ x d. Has x.0.state d) (f (filling s)) (λ q. Done q.0.state) c (keeps (filling s) c at) (λ q d kept. kept))

    pub puts_reply_keeps : Keeping puts_reply
    puts_reply_keeps = puts_first put_reply
        (λ r c at. keeps_put_reply_of K (D K P []) (walk.closes K P calls []) (walk.fills K P calls []) r.state.replies r c at)

    pub puts_owed_keeps : (slot : ℕ) → Keeping (puts_owed slot)
    puts_owed_keeps slot = puts_first (put_owed slot) (keeps_put_owed K (D K P []) (walk.closes K P calls []) (walk.fills K P calls []) slot)

    pub puts_payload_keeps : (slot : ℕ) → Keeping (puts_payload slot)
    puts_payload_keeps slot s c at =
        keeps_some K Has (entry_under s.table slot) (Done s) (λ e. reads e s) c (λ none. at) (λ e found.
        keeps_if K Has (may_read e.value.end e.value.end.state) _ _ c (λ may.
        keeps_if K Has (free_of e.value.end.credit == 0) _ _ c (λ none. at) (λ some.
        keeps_then K Has (λ r d. Has r.state d) (read_with_chain e (filling s)) (λ r. Done r.state) c
        (keeps_read_with_chain K (D K P []) (walk.closes K P calls []) (walk.fills K P calls []) e (filling s) c (by_slot s.table slot e found) may at)
        (λ r d kept. kept))) (λ not_now. at))

    pub writes_keeps : (slot : ℕ) → Keeping (writes slot)
    writes_keeps slot s c at =
        keeps_some K Has (entry_under s.table slot) (Done s) (λ e. writes_on e s) c (λ none. at) (λ e found.
        keeps_if K Has e.value.closed _ _ c (λ closed. at) (λ still.
        keeps_then K Has (λ w d. Has w.state d) (write_pending e (writing s)) (λ w. Done w.state) c
        (keeps_write_pending K (D K P []) (walk.closes K P calls []) (walk.writes K P calls []) e (writing s) c (by_slot s.table slot e found) still at)
        (λ w d kept. kept)))

    pub shuts_keeps : (slot : ℕ) → Keeping (shuts_write slot)
    shuts_keeps slot s c at =
        keeps_then K Has (λ w d. Has w.state d) (shut_write slot (writing s)) (λ w. Done w.state) c
        (keeps_shut_write K (D K P []) (walk.closes K P calls []) (walk.writes K P calls []) slot (writing s) c at) (λ w d kept. kept)

    pub ticks_keeps : (slot : ℕ) → Keeping (tick_slot slot)
    ticks_keeps slot = keeps_tick_slot K (D K P []) (walk.closes K P calls []) slot

    -- Handshakes.
    pub accepts_keeps : Turns accept_one
    accepts_keeps = keeps_accept_one K (Between (D K P)) (walk.shakes K P calls)

    pub line_keeps : (stream : ℕ) (t : Turning) (c : S) → Turned t c → Keeps K (λ r d. Turned r.0 d) (read_byte stream t) c
    line_keeps = keeps_read_byte K (Between (D K P)) (walk.shakes K P calls)

    pub hand_ticks_keeps : (stream : ℕ) → Turns (tick_handshake stream)
    hand_ticks_keeps = keeps_tick_handshake K (Between (D K P)) (walk.shakes K P calls)

    -- A transport reset.
    module _ (cid : ℕ) (publishes : (n : Fields) (c : S) → P None n c
        → K.asks (Ring (PublishCid cid)) c (λ a d. P None (record n { cid = cid; event_owed = true }) d)) where
      abbrev First : {A : Type 0} → DeviceState × A → S → Type 0
      First x c = Has x.0 c

      abbrev pub Ended : {A : Type 0} → ProxyState × A → S → Type 0
      Ended x c = Has x.0.device c

      slot_closes : (slot : ℕ) (s : DeviceState) (c : S) → Has s c → Keeps K Has (close_slot slot s) c
      slot_closes slot s c at =
          keeps_some K Has (entry_under s.table slot) (Done s) (λ e. closing e stream_closed s) c (λ none. at)
          (λ e found. keeps_if K Has e.value.closed _ _ c (λ closed. at) (λ still. calls.closes None e.value.stream (fields s) c at))

      device_resets : (s : DeviceState) (c : S) → Has s c → Keeps K First (reset_of cid s) c
      device_resets s c at = by s.failed
        where
          by : (o : Option Failure) → Keeps K First (elim o as (λ _. DeviceTree (DeviceState × Result (Unit {0}) Failure)) [
            | Some f ↦ Done (s, Err f)
            | None ↦ bind (for_each close_slot (slots s.table) s) (λ t. Ask (Ring (PublishCid cid)) (λ _. Done (after_reset cid t, Ok tt)))
          ]) c
          by (Some f) = at
          by None = keeps_then K First Has (for_each close_slot (slots s.table) s) _ c
              (keeps_each K Has close_slot slot_closes (slots s.table) s c at) (λ t d kept. publishes (fields t) d kept)

      hands_close : (s : ProxyState) (d : DeviceState) (r : Result (Unit {0}) Failure) (c : S) → Has d c → Keeps K Ended (reset_with (d, r) s) c
      hands_close s d (Err f) c at = at
      hands_close s d (Ok x) c at =
          keeps_then K Ended (λ (t : ProxyState) e. Has d e) (for_each close_handshake (streams_of s) s) _ c
          (keeps_each K (λ (t : ProxyState) e. Has d e) close_handshake (λ stream t e kept. calls.closes None stream (fields d) e kept) (streams_of s) s c at)
          (λ t e kept. kept)

      pub reset_keeps : (s : ProxyState) (c : S) → Has s.device c → Keeps K Ended (proxy_reset_of cid s) c
      reset_keeps s c at =
          keeps_then K Ended First (reset_of cid s.device) (λ r. reset_with r s) c (device_resets s.device c at)
          (λ r d kept. hands_close s r.0 r.1 d kept)
