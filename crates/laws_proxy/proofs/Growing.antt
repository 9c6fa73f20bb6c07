-- The buffer space of the connection of a flow, or of a stream's label, is raised: what a proxy keeps.
use Rattle.std.proofs.{Common.{◌≡◌, ℕ, Bool, List, Option, refl, arith}, lemmas.Grind.common_steps}
use Rattle.vs_flow.specs.declared.flow.Flow.{Flow}
use Rattle.vs_outside.specs.Host.{HostContents}
use Rattle.vs_ring_port.specs.{Contents.RingContents, declared.device_ring.Chain.Chain}
use Rattle.vs_device_parts.specs.{Calls.Situation, Growing.{after_grow, grown_by}, Playing.IsItsRing, State.{DeviceEntry, DeviceState, counters_of}}
use Rattle.vs_proxy_parts.specs.{Growing.{after_flow_grow, after_label_grow, flow_grow_of}, Handshakes.streams_of, State.{ProxyState, with_device}}
use Rattle.laws_device.{specs.Named.Streams.HasStreams, proofs.{Growing.{grow_keeps, grow_streamed, grow_streams, grow_with}, Seats.Carried}}
use Rattle.laws_proxy.specs.{Account.{Counts.counts_shown, Made.Made, Tied.AccountsFor, Told.AreAccounted}, Honest.{IsProxyStreamedSince, IsProxyWith}, Order.IsInOrder}
use Rattle.laws_proxy.proofs.{Account.Growing.{grow_accounted, grow_agrees}, Turning.Proxied}
use Rattle.laws_device.proofs.Growing as one
use Rattle.vs_device_parts.specs.declared.answers.Grown.TheVariants as rise

module _ (flow : Flow) (alloc : ℕ) (s : ProxyState) where
  grow_by : (P : ProxyState → Type 0) → P s → ((slot : ℕ) → P (with_device (after_grow slot alloc s.device) s)) → P (after_flow_grow flow alloc s)
  grow_by P same raised = grind (arith, common_steps)

  pub flow_grown_same : (flow_grow_of flow alloc s ≡ rise.Done → ⊥) → after_flow_grow flow alloc s ≡ s
  flow_grown_same = grind (arith, common_steps)

  -- What raising a buffer space doesn't touch.
  pub flow_grow_stays : (P : DeviceState → Type 0) → P s.device → ((e : DeviceEntry) → P (grown_by rise.Done alloc e s.device)) → P (after_flow_grow flow alloc s).device
  flow_grow_stays P was raised = grow_by (λ t. P t.device) was (λ slot. one.grow_by slot alloc s.device P was (λ e found done. raised e))

  pub flow_grow_ring : (held : List Chain) → IsItsRing held s.device → IsItsRing held (after_flow_grow flow alloc s).device
  flow_grow_ring held is = flow_grow_stays (IsItsRing held) is (λ e going. let r = is going in record { chains = r.chains; rx = r.rx })

  pub flow_grow_counts : counters_of (after_flow_grow flow alloc s).device ≡ counters_of s.device
  flow_grow_counts = flow_grow_stays (λ d. counters_of d ≡ counters_of s.device) refl (λ e. refl)

  pub flow_grow_streams : (h : HostContents) → HasStreams (streams_of s) s.device.table h
      → HasStreams (streams_of (after_flow_grow flow alloc s)) (after_flow_grow flow alloc s).device.table h
  flow_grow_streams h has = grow_by (λ t. HasStreams (streams_of t) t.device.table h) has (λ slot. grow_streams slot alloc s.device (streams_of s) h has)

  pub flow_grow_proxied : (carry : Carried) (first : ℕ) (c : Situation) → Proxied carry first s c → Proxied carry first (after_flow_grow flow alloc s) c
  flow_grow_proxied carry first c holds = grow_by (λ t. Proxied carry first t c) holds
      (λ slot. (holds.0, grow_keeps slot alloc s.device carry s.handshakes first s.next_port c holds.1))

  pub flow_grow_with : (first : ℕ) (c : RingContents) → IsProxyWith first s c → IsProxyWith first (after_flow_grow flow alloc s) c
  flow_grow_with first c holds = grow_by (λ t. IsProxyWith first t c) holds
      (λ slot. (holds.0, grow_with slot alloc s.device first s.next_port c holds.1))

  pub flow_grow_streamed : (fresh : Bool) (first : ℕ) (a : Situation) → IsProxyWith first s a.ring → IsProxyStreamedSince fresh first s a
      → IsProxyStreamedSince fresh first (after_flow_grow flow alloc s) a
  flow_grow_streamed fresh first a holds streams = grow_by (λ t. IsProxyStreamedSince fresh first t a) streams
      (λ slot. grow_streamed slot alloc s.device fresh first s.next_port s.handshakes a holds.1 streams)

  pub flow_grow_order : (first : ℕ) (a : Situation) → IsInOrder first s a → IsInOrder first (after_flow_grow flow alloc s) a
  flow_grow_order first a is = grow_by (λ t. IsInOrder first t a) is (λ slot. record {
    streams = λ h there. grow_streams slot alloc s.device (streams_of s) h (is.streams h there);
    ring = (is.ring.0, grow_with slot alloc s.device first s.next_port a.ring is.ring.1);
  })

  pub flow_grow_accounted : (calls : List Made) (host : Option HostContents) → AreAccounted calls s.device.table s.handshakes host
      → AreAccounted calls (after_flow_grow flow alloc s).device.table (after_flow_grow flow alloc s).handshakes host
  flow_grow_accounted calls host was = grow_by (λ t. AreAccounted calls t.device.table t.handshakes host) was
      (λ slot. grow_accounted slot alloc s.device calls s.handshakes host was)

  pub flow_grow_accounts : (calls : List Made) → AccountsFor s calls → AccountsFor (after_flow_grow flow alloc s) calls
  flow_grow_accounts calls was = grow_by (λ t. AccountsFor t calls) was (λ slot. grow_agrees slot alloc s.device calls s.handshakes was)

module _ (label : Option (Option Flow)) (alloc : ℕ) (s : ProxyState) where
  pub label_grow_by : (P : ProxyState → Type 0) → P s → ((flow : Flow) → P (after_flow_grow flow alloc s)) → P (after_label_grow label alloc s)
  label_grow_by P same raised = grind (arith, common_steps)

  pub label_grow_counts : counts_shown (after_label_grow label alloc s).device ≡ counts_shown s.device
  label_grow_counts = label_grow_by (λ t. counts_shown t.device ≡ counts_shown s.device) refl
      (λ flow. flow_grow_stays flow alloc s (λ d. counts_shown d ≡ counts_shown s.device) refl (λ e. refl))
