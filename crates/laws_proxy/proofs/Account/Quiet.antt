-- A device and a proxy, and the counts that their calls come to.
use Rattle.std.proofs.{Common.{◌≡◌, ℕ, ◌-◌, ◌&&◌, not, nat_lt, Bool, false, cond, List, [], ◌∷◌, Option, Result, refl, ap, subst, arith}, lemmas.Grind.common_steps}
use Rattle.vs_header.specs.{Packet.header_of, declared.{Header.Header, TheConstants.HEADER_LEN}}
use Rattle.vs_page.specs.{Log.Device, Open.is_dropped}
use Rattle.vs_ring_port.specs.{Contents.Read, declared.{device_ring.{Chain.Chain, Next.Next}, failure.Failure.Failure}}
use Rattle.vs_wrap.specs.Wrap.{counted}
use Rattle.vs_device_parts.specs.{Receiving.written, Calls.{DeviceTree, Ring}}
use Rattle.vs_proxy_parts.specs.{Turns.{event_stage, fill_stage, proxy_reset_of, pump_stage, tick_stage, turn_of, unless_failed}, Handshakes.shake_hands, State.Handshake}
use Rattle.vs_proxy_parts.specs.{State.{ProxyState, Turning, start}, declared.answers.Turn.Turn}
use Rattle.laws_device.proofs.Walk.{Fields.{AfterEventPage, AfterTx, Calls, Fields, HeaderRead, TxCalls, after_rx}, Keeping.{Asking, Keeps, keeps_then}, Single.reset_keeps}
use Rattle.laws_device.proofs.Walk.{Serving.{Closes, Fills, keeps_fill_rx, keeps_pay_event, keeps_pump, keeps_tick}, Turning.{Between, Turns, keeps_event_stage, keeps_fill_stage}}
use Rattle.laws_device.{proofs.Walk.Turning.{keeps_pump_stage, keeps_shake_hands, keeps_tick_stage, keeps_unless}, specs.Walk.Seen.Seen}
use Rattle.laws_proxy.{specs.Account.{Counts.{DeviceCounts, count_made, counts_shown}, Packets.{after_packets, before_packets}}, proofs.Account.Walks.{Walks, counting}}
use Rattle.vs_ring_port.specs.declared.device_ring.Next.TheVariants as next
use Rattle.laws_device.proofs.Walk.Fields as walk

abbrev shown : Fields → DeviceCounts
shown n = record { cid = n.cid; dropped = n.dropped; faults = n.faults }

abbrev P : Option Chain → Fields → DeviceCounts → Type 0
P page n m = shown n ≡ m

-- Conversations that may take chains of tx, and those that leave them out.
module _ (b : Bool) where
  rx_page : (a : Next) (n : Fields) (m : DeviceCounts) → shown n ≡ m → shown (after_rx a n) ≡ m
  rx_page a n m at = grind (arith, common_steps)

  event_page : (a : Next) (n : Fields) (m : DeviceCounts) → shown n ≡ m → AfterEventPage (counting b) P a n m
  event_page a n m at = grind (arith, common_steps)

  puts_packet : (chain : Chain) (h : Header) (payload : List ℕ) (n : Fields) (m : DeviceCounts) → shown n ≡ m
      → Keeps (counting b) (λ x k. shown n ≡ k) (written chain h payload) m
  puts_packet chain h [] n m at = (refl, λ a. (refl, λ c. at))
  puts_packet chain h (x ∷ payload) n m at = (refl, λ a. (refl, λ c. (refl, λ d. at)))

  calls : Calls (counting b) P
  calls = grind (arith, common_steps, rx_page, event_page, puts_packet)

  abbrev K : Asking DeviceCounts
  K = counting b

  abbrev D : List Handshake → Option Chain → Seen → DeviceCounts → Type 0
  D = walk.D K P

  abbrev of_turning : Turning → DeviceCounts → Type 0
  of_turning = Turns K (Between D)

  closes : (hands : List Handshake) → Closes K (D hands)
  closes = walk.closes K P calls

  fills : (hands : List Handshake) → Fills K (D hands)
  fills = walk.fills K P calls

  -- The stages before and after packets are taken.
  stage : (step : Turning → DeviceTree Turning) → ((t : Turning) (n : DeviceCounts) → of_turning t n → Keeps K of_turning (step t) n) → (t : Turning)
      (n : DeviceCounts) → of_turning t n → Keeps K of_turning (unless_failed step t) n
  stage = keeps_unless K (Between D)

  pub counts_before : (now : ℕ) (s : ProxyState) → Walks b (λ t. counts_shown t.state.device) (before_packets now s) (counts_shown s.device)
  counts_before now s =
      keeps_then K of_turning of_turning (unless_failed (tick_stage now) (start s)) (unless_failed event_stage) (counts_shown s.device)
      (stage (tick_stage now) (keeps_tick_stage K (Between D) (walk.shakes K P calls) now (λ hands port. keeps_tick K (D hands) (closes hands) now))
      (start s) (counts_shown s.device) refl)
      (stage event_stage (keeps_event_stage K (Between D) (λ hands port. keeps_pay_event K (D hands) (closes hands) (fills hands))))

  pub counts_after : (s : ProxyState) (t : Turning)
      → Walks b (λ (x : ProxyState × Turn). counts_shown x.0.device) (after_packets s t) (counts_shown t.state.device)
  counts_after s t =
      keeps_then K Q of_turning (unless_failed shake_hands t) _ (counts_shown t.state.device)
      (stage shake_hands (keeps_shake_hands K (Between D) (walk.shakes K P calls)) t (counts_shown t.state.device) refl) (λ t n at.
      keeps_then K Q of_turning (unless_failed pump_stage t) _ n
      (stage pump_stage (keeps_pump_stage K (Between D) (λ hands port. keeps_pump K (D hands) (closes hands) (walk.writes K P calls hands))) t n at) (λ t n at.
      keeps_then K Q of_turning (unless_failed fill_stage t) _ n
      (stage fill_stage (keeps_fill_stage K (Between D) (λ hands port. keeps_fill_rx K (D hands) (closes hands) (fills hands))) t n at) (λ t n at. at)))
    where
      Q : ProxyState × Turn → DeviceCounts → Type 0
      Q x n = counts_shown x.0.device ≡ n

  pub counts_reset : (cid : ℕ) (s : ProxyState)
      → Walks b (λ (x : ProxyState × Result (Unit {0}) Failure). counts_shown x.0.device) (proxy_reset_of cid s) (counts_shown s.device)
  counts_reset cid s =
      reset_keeps (counting b) P calls cid (λ n m at. (refl, λ a. ap (λ (k : DeviceCounts). record k { cid = cid }) at)) s (counts_shown s.device) refl

-- A packet that is taken is dropped, or not; or it is the ring's failure.
header_read : (chain : Chain) (h : Header) (n : Fields)
    → let short = nat_lt (chain.readable - HEADER_LEN) h.len in let lost = is_dropped Device n.cid h in
    HeaderRead (counting false) P chain h n (record (shown n) { dropped = cond (not short && lost) (counted n.dropped) n.dropped })
header_read chain h n = grind (arith, common_steps)

taken : (a : Next) (n : Fields) (m : DeviceCounts) → shown n ≡ m → AfterTx (counting false) P a n m
taken (next.Chain chain) n m at = (
  refl,
  λ bytes. subst (λ (k : DeviceCounts). HeaderRead (counting false) P chain (header_of bytes) n (count_made (Ring (Read chain 0 HEADER_LEN)) bytes k)) at
      (header_read chain (header_of bytes) n),
)
taken next.None n m at = at
taken (next.Failed f) n m at = at

tx_calls : TxCalls (counting false) P
tx_calls = grind (arith, common_steps, taken)

pub counts_turn : (size now : ℕ) (s : ProxyState)
    → Walks false (λ (x : ProxyState × Turn). counts_shown x.0.device) (turn_of size now s) (counts_shown s.device)
counts_turn size now s = walk.fields_turn (counting false) P (calls false) tx_calls size now s (counts_shown s.device) refl
