-- How many connections may leave while packets are put: each leaves with its RST.
use Rattle.std.{specs.Prelude.{if◌then◌else◌, not, Result, Ok, Err}, proofs.Common.{◌≡◌, ℕ, ◌+◌, ◌≤◌, ◌==◌, false, List, [], ◌∷◌, length, Option, Some, None, refl, arith}}
use Rattle.vs_contents.{specs.CallTree.{Done, bind, for_each, while_up_to}, proofs.Leads.{ends_bind, ends_weaker}}
use Rattle.vs_conn.specs.{Headers.{owed_header, payload_header}, End.{owes_of, with_payload_sent}, declared.end.Owed.Owed}
use Rattle.vs_credit.specs.Credit.{free_of}
use Rattle.vs_flow.specs.Table.{entry_under, slots}
use Rattle.vs_header.specs.declared.Header.{Header}
use Rattle.vs_outside.specs.declared.host_net.StreamRead.{StreamRead}
use Rattle.vs_replies.specs.declared.Reply.{Reply}
use Rattle.vs_ring_port.specs.declared.{device_ring.{Chain.Chain, Next.Next}, failure.Failure.Failure}
use Rattle.vs_device_parts.specs.Receiving.{Filling, after_paying, fill_rx_of, filled_of, hold, holding, may_read, put_on, put_owed, put_packet, put_payload, put_reply}
use Rattle.vs_device_parts.specs.{Receiving.{put_reply_of, read_answered, read_stream, read_with_chain, reply_header, round_from, serve_slot}, Connections.with_connection}
use Rattle.vs_device_parts.specs.{Connections.{with_fault, route_to_guest, cut_off}, declared.answers.Filled.Filled, Calls.DeviceTree, State.{DeviceEntry, DeviceState}}
use Rattle.vs_device_parts.specs.Streams.{closing}
use Rattle.vs_proxy_parts.specs.Turning.{CountsFew}
use Rattle.vs_proxy.proofs.Counting.{Ends, closing_few, ends_if, ends_option, keeps_bind, keeps_each, keeps_while, leaving_few}
use Rattle.vs_limits.specs.declared.TheConstants.{OWED_MAX}
use Rattle.vs_conn.specs.declared.end.Owed.TheVariants as owed
use Rattle.vs_outside.specs.declared.host_net.StreamRead.TheVariants as read
use Rattle.vs_ring_port.specs.declared.device_ring.Next.TheVariants as next

-- no more left than packets were put
record Puts (r q : Filling) : Type 0 where
  pub opened : q.state.opened ≤ r.state.opened
  pub closed : q.state.closed + r.put ≤ r.state.closed + q.put

same : (r : Filling) → Puts r r
same r = record { opened = omega arith; closed = omega arith }

followed : (r q p : Filling) → Puts r q → Puts q p → Puts r p
followed r q p f g = record { opened = omega (arith, f.opened, g.opened); closed = omega (arith, f.closed, g.closed) }

as_before : (r q : Filling) → q.state.opened ≡ r.state.opened → q.state.closed ≡ r.state.closed → q.put ≡ r.put → Puts r q
as_before r q o c p = record { opened = omega (arith, o); closed = omega (arith, c, p) }

-- a packet was put, with which one connection may leave
record PutsOne (r q : Filling) : Type 0 where
  pub opened : q.state.opened ≤ r.state.opened
  pub closed : q.state.closed ≤ r.state.closed
  pub put : q.put ≡ r.put + 1

hold_few : (r : Filling) → Ends (Puts r) (hold r)
hold_few r = ends_option _ r.state.chain _ _ on (λ chain. same r)
  where
    on : (a : Next) → Puts r (holding a r)
    on (next.Chain chain) = as_before r _ refl refl refl
    on next.None = as_before r _ refl refl refl
    on (next.Failed f) = as_before r _ refl refl refl

put_on_few : (chain : Chain) (h : Header) (payload : List ℕ) (r : Filling) → Ends (PutsOne r) (put_on chain h payload r)
put_on_few chain h [] r = λ a b. record { opened = omega arith; closed = omega arith; put = refl }
put_on_few chain h (x ∷ xs) r = λ a b c. record { opened = omega arith; closed = omega arith; put = refl }

put_packet_few : (h : Header) (f : DeviceState → DeviceTree DeviceState) → ((s : DeviceState) → Ends (CountsFew 0 1 s) (f s)) → (r : Filling) → Ends (Puts r) (put_packet h f r)
put_packet_few h f leaves r = keeps_bind Puts same followed (Puts r) (hold r) next_of r (hold_few r) (λ q held. ends_option _ q.state.chain _ _ held
    (λ chain. ends_bind (Puts r) (put_on chain h [] q) ends_in (ends_weaker (PutsOne q) (λ p. Ends (Puts r) (ends_in p)) (λ p one. puts q p held one) (put_on chain h [] q) (put_on_few chain h [] q))))
  where
    ends_in : Filling → DeviceTree Filling
    ends_in p = bind (f p.state) (λ s. Done (record p { state = s }))

    next_of : Filling → DeviceTree Filling
    next_of q = elim q.state.chain [ None ↦ Done q | Some chain ↦ bind (put_on chain h [] q) ends_in ]

    puts : (q p : Filling) → Puts r q → PutsOne q p → Ends (Puts r) (ends_in p)
    puts q p held one = ends_bind (Puts r) (f p.state) (λ s. Done (record p { state = s })) (ends_weaker (CountsFew 0 1 p.state) (λ s. Puts r (record p { state = s }))
        (λ s l. record {
          opened = omega (arith, held.opened, one.opened, l.opened);
          closed = omega (arith, held.closed, one.closed, one.put, l.closed);
        }) (f p.state) (leaves p.state))

put_reply_few : (r : Filling) → Ends (λ x. Puts r x.0) (put_reply r)
put_reply_few r = by r.state.replies
  where
    by : (replies : List Reply) → Ends (λ x. Puts r x.0) (put_reply_of replies r)
    by [] = same r
    by (reply ∷ replies) = ends_bind (λ x. Puts r x.0) (put_packet (reply_header reply r.state) (λ s. Done (record s { replies = replies })) r) (λ q. Done (q, not q.over))
        (put_packet_few (reply_header reply r.state) (λ s. Done (record s { replies = replies })) (λ s. record { opened = omega arith; closed = omega arith }) r)

paying_few : (what : Owed) (e : DeviceEntry) (s : DeviceState) → Ends (CountsFew 0 1 s) (after_paying what e s)
paying_few owed.Rst e s = ends_weaker (CountsFew 0 1 (record s { last_put = Some e.slot })) (CountsFew 0 1 s) (λ t f. record { opened = f.opened; closed = f.closed }) _ (leaving_few false e (record s { last_put = Some e.slot }))
paying_few owed.Request e s = record { opened = omega arith; closed = omega arith }
paying_few what e s = record { opened = omega arith; closed = omega arith }

put_owed_few : (slot : ℕ) (r : Filling) → Ends (λ x. Puts r x.0) (put_owed slot r)
put_owed_few slot r =
    ends_option _ (entry_under r.state.table slot) _ _ (same r) (λ e. ends_option _ (owes_of e.value.end) _ _ (same r)
    (λ what. ends_bind (λ x. Puts r x.0) (put_packet (owed_header e.value.end (route_to_guest r.state.cid e.flow) what) (after_paying what e) r) (λ q. Done (q, not q.over))
    (put_packet_few (owed_header e.value.end (route_to_guest r.state.cid e.flow) what) (after_paying what e) (paying_few what e) r)))

-- what a connection reads of its stream
payload_few : (chain : Chain) (e : DeviceEntry) (payload : List ℕ) (r : Filling) → Ends (Puts r) (put_payload chain e payload r)
payload_few chain e payload r = ends_bind (Puts r) (put_on chain header payload r) (λ p. Done (end p))
    (ends_weaker (PutsOne r) (λ p. Puts r (end p)) (λ p one. record { opened = omega (arith, one.opened); closed = omega (arith, one.closed, one.put) })
    (put_on chain header payload r) (put_on_few chain header payload r))
  where
    header : Header
    header = payload_header e.value.end (route_to_guest r.state.cid e.flow) (length payload)

    end : Filling → Filling
    end p = record p {
      state = record (with_connection e.slot (record e.value { end = with_payload_sent e.value.end (length payload) }) p.state) { last_put = Some e.slot };
      read = p.read + length payload;
    }

answered_few : (chain : Chain) (e : DeviceEntry) (a : StreamRead) (payload : List ℕ) (r : Filling) → Ends (Puts r) (read_answered chain e a payload r)
answered_few chain e (read.Got n) payload r = payload_few chain e payload r
answered_few chain e read.Again payload r = same r
answered_few chain e read.End payload r = as_before r _ refl refl refl
answered_few chain e read.Failed payload r = ends_bind (Puts r) (closing e cut_off (with_fault r.state)) (λ s. Done (record r { state = s }))
    (ends_weaker (CountsFew 0 0 (with_fault r.state)) (λ s. Puts r (record r { state = s })) (λ s f. record { opened = omega (arith, f.opened); closed = omega (arith, f.closed) })
    (closing e cut_off (with_fault r.state)) (closing_few e cut_off (with_fault r.state)))

with_chain_few : (e : DeviceEntry) (r : Filling) → Ends (Puts r) (read_with_chain e r)
with_chain_few e r = ends_option _ r.state.chain _ _ (same r) (λ chain a. answered_few chain e a.0 a.1 r)

read_few : (e : DeviceEntry) (r : Filling) → Ends (Puts r) (read_stream e r)
read_few e r =
    ends_if _ (may_read e.value.end e.value.end.state) _ _ (ends_if _ (free_of e.value.end.credit == 0) _ _ (as_before r _ refl refl refl)
    (keeps_bind Puts same followed (Puts r) (hold r) (read_with_chain e) r (hold_few r)
    (λ q held. ends_weaker (Puts q) (Puts r) (λ p f. followed r q p held f) (read_with_chain e q) (with_chain_few e q)))) (same r)

-- a connection's turn, and all of them
serve_few : (slot : ℕ) (r : Filling) → Ends (Puts r) (serve_slot slot r)
serve_few slot r =
    let pays : Filling → DeviceTree Filling = λ q. if q.over then Done q else while_up_to OWED_MAX (put_owed slot) q in
    let first : DeviceTree Filling = elim (entry_under r.state.table slot) [ None ↦ Done r | Some e ↦ read_stream e r ] in
    ends_if _ r.over _ _ (same r) (keeps_bind Puts same followed (Puts r) first pays r (ends_option _ (entry_under r.state.table slot) _ _ (same r) (λ e. read_few e r))
    (λ q f. ends_weaker (Puts q) (Puts r) (λ p g. followed r q p f g) (pays q) (ends_if _ q.over _ _ (same q) (keeps_while Puts same followed (put_owed slot) (put_owed_few slot) OWED_MAX q))))

-- The call: where the ring doesn't fail, at most as many left as packets were put.
abbrev pub FewFilled : DeviceState → DeviceState × Result Filled Failure → Type 0
FewFilled s (t, Ok f) = CountsFew 0 f.put s t
FewFilled s (t, Err f) = Unit {0}

pub fill_few : (s : DeviceState) → Ends (FewFilled s) (fill_rx_of s)
fill_few s = ends_option _ s.failed _ _ goes_on (λ f. tt)
  where
    start : Filling
    start = record { state = s; put = 0; read = 0; over = false }

    end : (q : Filling) → Puts start q → (o : Option Failure) → FewFilled s (q.state, elim o [ Some f ↦ Err f | None ↦ Ok (record { put = q.put; read = q.read }) ])
    end q f (Some failure) = tt
    end q f None = record { opened = omega (arith, f.opened); closed = omega (arith, f.closed) }

    serves : Filling → DeviceTree Filling
    serves r = if r.over then Done r else for_each serve_slot (round_from r.state.last_put (slots r.state.table)) r

    serves_few : (r : Filling) → Ends (Puts r) (serves r)
    serves_few r = ends_if _ r.over _ _ (same r) (keeps_each Puts same followed serve_slot serve_few (round_from r.state.last_put (slots r.state.table)) r)

    rest : Filling → DeviceTree (DeviceState × Result Filled Failure)
    rest r = bind (serves r) (λ q. Done (filled_of q))

    goes_on : Ends (FewFilled s) (bind (while_up_to (length s.replies) put_reply start) rest)
    goes_on = keeps_bind Puts same followed (FewFilled s) (while_up_to (length s.replies) put_reply start) rest start (keeps_while Puts same followed put_reply put_reply_few (length s.replies) start)
        (λ r f. keeps_bind Puts same followed (FewFilled s) (serves r) (λ q. Done (filled_of q)) r (serves_few r) (λ q g. end q (followed start r q f g) q.state.failed))
