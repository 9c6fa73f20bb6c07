-- How many connections may come and leave when a packet is taken.
use Rattle.std.{specs.Prelude.{nat_lt, nat_le}, proofs.Common.{◌≡◌, ◌-◌, ◌==◌, ◌&&◌, length, refl, arith}}
use Rattle.vs_contents.{specs.CallTree.{Done, Ask}, proofs.Leads.{ends_bind, ends_weaker}}
use Rattle.vs_conn.specs.{End.{verdict_of, is_of, is_reset}, declared.end.Verdict.Verdict}
use Rattle.vs_flow.specs.{Flow.is_assigned, Table.{entry_of, has_place}}
use Rattle.vs_header.specs.{Op.op_number, Packet.header_of, declared.{Header.Header, TheConstants.HEADER_LEN, Op.TheVariants.Request, Kind.TheVariants.Stream}}
use Rattle.vs_outside.specs.declared.host_net.Dialed.{Dialed}
use Rattle.vs_page.specs.{Log.{flow_to_host, Device}, Open.is_dropped}
use Rattle.vs_ring_port.specs.{Contents.Return, declared.device_ring.{Chain.Chain, Next.Next}}
use Rattle.vs_device_parts.specs.{Transmitting.{dial_answered, heard, keeps_flow, on_header, on_known, on_next, on_packet, on_unknown, take_tx_of, try_request}, State.DeviceEntry}
use Rattle.vs_device_parts.specs.{State.DeviceState, declared.answers.Taken.Taken, Calls.{DeviceTree, Ring}, Streams.leaving}
use Rattle.vs_limits.specs.declared.TheConstants.{DEVICE_REPLIES}
use Rattle.vs_proxy_parts.specs.Turning.{CountsFew}
use Rattle.vs_proxy.proofs.Counting.{Ends, ends_if, ends_option, few_more, leaving_few, one_more, same_few}
use Rattle.vs_conn.specs.declared.end.Verdict.TheVariants as verdict
use Rattle.vs_conn.specs.declared.end.Why.TheVariants as why
use Rattle.vs_outside.specs.declared.host_net.Dialed.TheVariants as dialed
use Rattle.vs_ring_port.specs.declared.device_ring.Next.TheVariants as next
use Rattle.vs_device_parts.specs.declared.answers.Taken.TheVariants as taken

module _ (s : DeviceState) where
  stays : CountsFew 1 1 s s
  stays = few_more 0 0 1 1 s s (omega arith) (omega arith) (same_few s)

  as_before : (t : DeviceState) → t.opened ≡ s.opened → t.closed ≡ s.closed → CountsFew 1 1 s t
  as_before t o c = record { opened = omega (arith, o); closed = omega (arith, c) }

  abbrev FewWith : DeviceState × Verdict → Type 0
  FewWith r = CountsFew 1 1 s r.0

  abbrev FewTaken : DeviceState × Taken → Type 0
  FewTaken r = CountsFew 1 1 s r.0

  known_few : (v : Verdict) (chain : Chain) (h : Header) (e : DeviceEntry) → Ends (CountsFew 1 1 s) (on_known v chain h e s)
  known_few verdict.Accept chain h e = as_before _ refl refl
  known_few verdict.Deliver chain h e = λ payload. as_before _ refl refl
  known_few verdict.Peer chain h e =
      let left : DeviceEntry = record e { value = heard h e.value } in
      ends_if _ (is_reset h) _ _ (ends_weaker (CountsFew 0 1 s) (CountsFew 1 1 s) (λ t f. few_more 0 1 1 1 s t (omega arith) (omega arith) f) (leaving (keeps_flow h e) left s) (leaving_few (keeps_flow h e) left s))
      (as_before _ refl refl)
  known_few (verdict.Rst (why.Overrun o)) chain h e = as_before _ refl refl
  known_few (verdict.Rst why.NotLive) chain h e = as_before _ refl refl
  known_few _ chain h e = as_before _ refl refl

  dial_few : (h : Header) (a : Dialed) → FewWith (dial_answered h a s)
  dial_few h (dialed.Stream stream) = record { opened = one_more s.opened; closed = omega arith }
  dial_few h dialed.Refused = as_before _ refl refl
  dial_few h dialed.Failed = as_before _ refl refl

  request_few : (h : Header) → Ends FewWith (try_request h s)
  request_few h =
      ends_if _ (is_assigned h.dst_port) _ _ (as_before _ refl refl) (ends_if _ (has_place s.table) _ _ (dial_few h) (as_before _ refl refl))

  unknown_few : (h : Header) → Ends FewWith (on_unknown h s)
  unknown_few h =
      ends_if _ (is_reset h) _ _ stays (ends_if _ (is_of Stream h && (h.op == op_number Request)) _ _ (request_few h) (as_before _ refl refl))

  packet_few : (chain : Chain) (h : Header) → Ends FewWith (on_packet chain h s)
  packet_few chain h =
      ends_if _ (is_dropped Device s.cid h) _ _ (as_before _ refl refl) (ends_option _ (entry_of s.table (flow_to_host h)) _ _ (unknown_few h)
      (λ e. let v = verdict_of e.value.end h in ends_bind FewWith (on_known v chain h e s) (λ t. Done (t, v)) (known_few v chain h e)))

  header_few : (chain : Chain) (h : Header) → Ends FewTaken (on_header chain h s)
  header_few chain h =
      let returns : DeviceState × Verdict → DeviceTree (DeviceState × Taken) = λ r. Ask (Ring (Return chain 0)) (λ _. Done (r.0, taken.Packet r.1)) in
      ends_if _ (nat_lt (chain.readable - HEADER_LEN) h.len) _ _ (as_before _ refl refl)
      (ends_bind FewTaken (on_packet chain h s) returns (ends_weaker FewWith (λ r. Ends FewTaken (returns r)) (λ r few. λ a. few) (on_packet chain h s) (packet_few chain h)))

  next_few : (a : Next) → Ends FewTaken (on_next a s)
  next_few (next.Chain chain) = λ bytes. header_few chain (header_of bytes)
  next_few next.None = stays
  next_few (next.Failed f) = as_before _ refl refl

  pub take_few : Ends FewTaken (take_tx_of s)
  take_few = ends_option _ s.failed _ _ (ends_if _ (nat_le DEVICE_REPLIES (length s.replies)) _ _ stays next_few) (λ f. stays)
