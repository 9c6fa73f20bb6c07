-- What filling the receive queue keeps, part by part.
use Rattle.laws_device.proofs.{Tabling.{has_end, entry_fits}, Seats.{LeftBy, AgreesBy, Carried}, Carrying.{Fact, IsHeldBy, StreamedOver, With, closed_held, fact_called, put_goes}}
use Rattle.laws_device.proofs.{Carrying.{streams_call, streams_go}, Changing.{cuts, shuts, wants, same}, Keeping.{Goes, Keeps, asking, Lets, keeps_bind, keeps_each, keeps_then}}
use Rattle.laws_device.proofs.{Keeping.keeps_while, Putting.{Puts, owed_puts, reply_puts, rst_puts, send_puts}, Steps.{Filled, Open, changed, closing_keeps, cut_with, goes_on}}
use Rattle.laws_device.proofs.{Sure.good_fair, Steps.{hold_keeps, open_filled, called_with}, Writing.{writes_first, written_keeps}, Walk.Keeping.{keeps_if, keeps_some}, Carried.Changing.MayFollow}
use Rattle.laws_device.proofs.Carried.Changing.{asks_streams, called_host, closes_streams, ends_streams, leaves_streams, put_empty, reads_streams, shuts_streams}
use Rattle.laws_device.{proofs.Carried.{Tabled.value_contained, Gives.pays_gives}, specs.{Carried.Streamed.{ports_of, IsStreamed}, Honest.IsFitState}}
use Rattle.laws_tables.{specs.{Ends.{is_among, is_new}, Steps.payload_on}, proofs.{Keeps.owed_old, Slots.found_by}}
use Rattle.vs_ring_port.specs.{EndLog.EndLog, declared.{device_ring.Chain.Chain, failure.Failure.Failure}}
use Rattle.std.proofs.Common.{◌≡◌, ℕ, ◌+◌, ◌≤◌, ◌==◌, ◌&&◌, ◌||◌, not, Bool, true, false, cond, if◌then◌else◌, List, [], ◌∷◌, length, Contains, Option, Some, None, Result, Err}
use Rattle.std.proofs.{Common.{refl, sym, subst, ◌∙◌, arith, IfSome, IsOkAnd, inl, inr}, lemmas.Grind.common_steps}
use Rattle.vs_contents.specs.CallTree.{Done, bind, for_each, while_up_to}
use Rattle.vs_conn.specs.{End.{CanSend, ConnectionEnd, owes_of, paid_of, state_may_send, wanting_credit, with_payload_sent}, Headers.{owed_header, payload_header}}
use Rattle.vs_conn.{specs.declared.end.{Owed.Owed, State.State}, proofs.Frames.paid_asked}
use Rattle.vs_credit.specs.Credit.{free_of}
use Rattle.vs_flow.specs.Table.{IsTable, entry_under, slots, with_value}
use Rattle.vs_header.specs.declared.Header.{Header}
use Rattle.vs_outside.specs.{declared.host_net.StreamRead.StreamRead, Host.{HostContents, after_close, after_read, called}}
use Rattle.vs_replies.specs.declared.Reply.{Reply}
use Rattle.laws_history.specs.Packets.{is_request}
use Rattle.vs_device_parts.specs.{Connections.{after_leaving, after_shut, cut_off, route_to_guest, stream_closed, with_connection, with_fault}, Receiving.{Filling, after_paying}}
use Rattle.vs_device_parts.specs.Receiving.{fill_rx_of, filled_of, hold, may_read, put_on, put_owed, put_packet, put_payload, put_reply, put_reply_of, read_answered, read_room}
use Rattle.vs_device_parts.specs.{Receiving.{read_stream, read_with_chain, reply_header, round_from, serve_slot}, Calls.{DeviceTree, IsReadOf, ReadStream, Situation}}
use Rattle.vs_device_parts.specs.{Streams.closing, Playing.IsRxChain, State.{DeviceConnection, DeviceEntry, DeviceState}, declared.answers.Filled.Filled as FilledAnswer}
use Rattle.vs_proxy_parts.specs.State.{Handshake}
use Rattle.vs_page.specs.{Fair.IsFairLog, Log.{Log, Device, flow_to_guest}, declared.log.LogEntry.TheVariants.PutPacket}
use Rattle.vs_limits.specs.declared.TheConstants.{OWED_MAX}
use Rattle.laws_device.proofs.Carrying.{faulted}
use Rattle.vs_conn.specs.declared.end.Owed.TheVariants as owed
use Rattle.vs_conn.specs.declared.end.State.TheVariants as state
use Rattle.vs_outside.specs.declared.host_net.StreamRead.TheVariants as read

pub live_old : (e : ConnectionEnd) → may_read e e.state ≡ true → is_new e ≡ false
live_old e is = grind (arith, common_steps, is)

-- where both ends let it send, so much may be sent as there is credit for
may_send_on : (e : ConnectionEnd) (s : State) (n : ℕ) → may_read e s ≡ true → n ≤ free_of e.credit → IsOkAnd (state_may_send s e) (λ free. n ≤ free)
may_send_on e s n may fits = grind (arith, common_steps, free_of)

pub can_send : (e : ConnectionEnd) (n : ℕ) → may_read e e.state ≡ true → n ≤ free_of e.credit → CanSend e n
can_send e n may fits = may_send_on e e.state n may fits

-- An end that owes its REQUEST hasn't put it; one that owes anything else that leaves it in the table has put or got one.
request_new : (e : ConnectionEnd) → owes_of e ≡ Some owed.Request → is_new e ≡ true
request_new e owes = grind (arith, common_steps, owes)

owes_begun : (e : ConnectionEnd) (what : Owed) → owes_of e ≡ Some what → (what ≡ owed.Request → ⊥) → is_new e ≡ false
owes_begun e what owes other = grind (arith, common_steps)

pub under_there : (s : DeviceState) (slot : ℕ) (e : DeviceEntry) → entry_under s.table slot ≡ Some e → Contains s.table.entries e
under_there s slot e under = (found_by (λ (x : DeviceEntry). x.slot == slot) s.table.entries e under).0

module _ (carry : Carried) (lines : List Handshake) (first port : ℕ) where
  abbrev pub Ready : Filling → Situation → Type 0
  Ready = Open carry lines first port

  abbrev pub Over : Filling → Situation → Type 0
  Over = Filled carry lines first port

  abbrev Streamed : DeviceState → Fact
  Streamed t = StreamedOver carry lines first port t

  abbrev Now : DeviceState → Situation → Type 0
  Now = With carry lines first port

  -- A packet without payload, put where a chain is or becomes held: what is known of the host then. The rest is with the host.
  put_packet_keeps : (h : Header) (f : DeviceState → DeviceTree DeviceState) (r : Filling) (t : DeviceState) (F : Fact)
      → (IsFitState r.state → Puts carry port r.state h [] t)
      → ((o : Option HostContents) (l : EndLog) → AgreesBy carry first port r.state l → Streamed r.state o l.entries
      → F o (PutPacket (record { header = h; payload = [] }) ∷ l.entries))
      → t.chain ≡ None → t.failed ≡ None
      → ((R : DeviceState → Situation → Type 0) (c : Situation) → IsHeldBy carry F first port t c → ((d : Situation) → Now t d → R t d)
      → Keeps R (f (record r.state { chain = None })) c)
      → (c : Situation) → Ready r c → Keeps Over (put_packet h f r) c
  put_packet_keeps h f r t F puts carries none still goes c ready =
      let rest : Filling → DeviceTree Filling = λ q. elim q.state.chain [
        | None ↦ Done q
        | Some chain ↦ bind (put_on chain h [] q) (λ p. bind (f p.state) (λ s. Done (record p { state = s })))
      ] in
      hold_keeps carry lines first port Over rest r
      (λ chain d holds.
      let q : Filling = record r { state = record r.state { chain = Some chain } } in
      let p : Filling = record q { state = record r.state { chain = None }; put = q.put + 1 } in
      let finish : DeviceState → DeviceTree Filling = λ s. Done (record p { state = s }) in
      keeps_bind Over (put_on chain h [] q) (λ x. bind (f x.state) (λ s. Done (record x { state = s }))) d
      (written_keeps carry first port r.state (Streamed r.state) (λ x e. Keeps Over (bind (f x.state) (λ s. Done (record x { state = s }))) e)
      (Done p) t h [] puts F carries chain holds.0.0
      (omega (arith, holds.0.1)) none (still ∙ sym ready.1) d (writes_first carry first port (record r.state { chain = Some chain }) (Streamed r.state) chain d refl ready.1 holds.1)
      (λ e told. keeps_bind Over (f (record r.state { chain = None })) finish e
      (goes (λ s x. Keeps Over (finish s) x) e (subst (λ (o : Option Chain). IfSome o IsRxChain) (sym none) tt, told)
      (λ x held. (held, λ going. still))))))
      (λ q d none over holds. keeps_some asking Over q.state.chain (Done q)
      (λ chain. bind (put_on chain h [] q) (λ p. bind (f p.state) (λ s. Done (record p { state = s })))) d
      (λ gone. (holds, λ going. let both : true ≡ false = sym over ∙ going in absurd cc))
      (λ chain some. let both : None ≡ Some chain = sym none ∙ some in absurd cc)) c ready

  -- The same, where the streams are as the table says then, and no call on the host follows.
  empty_put : (h : Header) (s t : DeviceState) → is_request (record { header = h; payload = [] }) ≡ false
      → (IsFitState s → MayFollow t.table (record { header = h; payload = [] }))
      → (IsFitState s → (c : HostContents) (log : Log) → IsStreamed c log (ports_of carry.since port s) s.table lines → IsStreamed c log (ports_of carry.since port t) t.table lines)
      → (o : Option HostContents) (l : EndLog) → AgreesBy carry first port s l → Streamed s o l.entries
      → Streamed t o (PutPacket (record { header = h; payload = [] }) ∷ l.entries)
  empty_put h s t plain may carries o l p x = put_goes carry first lines port s t l.entries (record { header = h; payload = [] })
      (λ c y. put_empty c l.entries (ports_of carry.since port t) t.table lines (record { header = h; payload = [] }) refl plain (may p.fits)
      (carries p.fits c l.entries y)) o x

  one_put : (q : Filling) (c : Situation) → Over q c → Goes Ready Over (q, not q.over) c
  one_put q c filled = goes_on carry lines first port q c filled

  -- The oldest reply.
  reply_keeps : (rs : List Reply) (r : Filling) (c : Situation) → r.state.replies ≡ rs → Ready r c → Keeps (Goes Ready Over)
      (put_reply_of rs r) c
  reply_keeps [] r c is ready = open_filled carry lines first port r c ready
  reply_keeps (reply ∷ rest) r c is ready =
      let h : Header = reply_header reply r.state in
      let f : DeviceState → DeviceTree DeviceState = λ s. Done (record s { replies = rest }) in
      let again : Filling → DeviceTree (Filling × Bool) = λ q. Done (q, not q.over) in
      keeps_then Over (Goes Ready Over) (put_packet h f r) again c
      (put_packet_keeps h f r (record r.state { chain = None; replies = rest }) (Streamed r.state)
      (λ fits. reply_puts carry port r.state fits reply rest is) (empty_put h r.state r.state refl (λ fits. inl refl) (λ fits c log x. x)) refl ready.1
      (λ R d held holds. holds d held) c ready)
      one_put

  pub put_reply_keeps : (r : Filling) (c : Situation) → Ready r c → Keeps (Goes Ready Over) (put_reply r) c
  put_reply_keeps r c ready = reply_keeps r.state.replies r c refl ready

  -- What a connection owes.
  module _ (e : DeviceEntry) (r : Filling) (there : Contains r.state.table.entries e) where
    -- The state with the chain spent.
    abbrev spent : DeviceState
    spent = record r.state { chain = None }

    -- The connection, which stays.
    stays_by : (what : Owed) (v : DeviceConnection) → owes_of e.value.end ≡ Some what → is_new e.value.end ≡ false
        → v ≡ record e.value { end = paid_of e.value.end what; asked_at = v.asked_at }
        → (IsFitState r.state → (c : HostContents) (log : Log) → IsStreamed c log (ports_of carry.since port r.state) r.state.table lines
        → IsStreamed c log (ports_of carry.since port r.state) (with_value r.state.table e.slot v) lines)
    stays_by what v owes begun is fits h log x = subst (λ (w : DeviceConnection). IsStreamed h log (ports_of carry.since port r.state) (with_value r.state.table e.slot w) lines)
        (sym is)
        (ends_streams h log (ports_of carry.since port r.state) r.state.table lines x fits.sound e there (record
        e.value { end = paid_of e.value.end what; asked_at = v.asked_at })
        refl refl refl (owed_old e.value.end what owes ∙ sym begun) refl refl (pays_gives e.value.end what owes) (paid_asked e.value.end what))

    -- Its flow isn't kept.
    unkept : {log : Log} → LeftBy carry first port r.state.cid r.state.overrun r.state.table r.state.replies r.state.clean log
        → is_among e.flow r.state.clean ≡ false
    unkept p = by (is_among e.flow r.state.clean) refl
      where
        by : (b : Bool) → is_among e.flow r.state.clean ≡ b → b ≡ false
        by false is = refl
        by true is =
            let both : [] ≡ e.value.end ∷ [] = sym (p.matches.flows.kept e.flow is).no_end ∙ has_end r.state p.fits e there port in absurd cc

    -- The packet that it owes is of its flow.
    of_it : (v : DeviceConnection) (h : Header) → flow_to_guest h ≡ e.flow → IsFitState r.state
        → MayFollow (with_value r.state.table e.slot v) (record { header = h; payload = [] })
    of_it v h flow fits = inr (record e { value = v }, value_contained r.state.table fits.sound e there v, flow)

    owed_by : (what : Owed) → owes_of e.value.end ≡ Some what → (c : Situation) → Ready r c
        → Keeps Over (put_packet (owed_header e.value.end (route_to_guest r.state.cid e.flow) what) (after_paying what e) r) c
    owed_by owed.Request owes c ready =
        let v : DeviceConnection = record e.value { end = paid_of e.value.end owed.Request; asked_at = Some r.state.now } in
        let t : DeviceState = record (with_connection e.slot v spent) { last_put = Some e.slot } in
        put_packet_keeps _ (after_paying owed.Request e) r t (Streamed t)
        (λ fits. owed_puts carry port r.state fits e there owed.Request owes v refl refl refl)
        (λ o l p y. put_goes carry first lines port r.state t l.entries
        (record { header = owed_header e.value.end (route_to_guest r.state.cid e.flow) owed.Request; payload = [] })
        (λ h x. asks_streams h l.entries (ports_of carry.since port r.state) r.state.table lines x p.fits.sound e there v refl refl refl (request_new e.value.end owes)
        (owed_old e.value.end owed.Request owes) refl refl (pays_gives e.value.end owed.Request owes) (paid_asked e.value.end owed.Request)
        (record { header = owed_header e.value.end (route_to_guest r.state.cid e.flow) owed.Request; payload = [] }) refl refl refl
        ((entry_fits r.state p.fits e there).new (request_new e.value.end owes)).by_client (unkept p)) o y)
        refl ready.1 (λ R d held holds. holds d held) c ready
    owed_by owed.Rst owes c ready =
        let gone : DeviceState = record spent { last_put = Some e.slot } in
        let t : DeviceState = after_leaving e.slot (with_connection e.slot (stream_closed e.value) gone) in
        let F : Fact = λ o log. IsTable r.state.table × Streamed r.state o log in
        put_packet_keeps _ (after_paying owed.Rst e) r t F
        (λ fits. rst_puts carry port r.state fits e there owed.Rst owes refl (stream_closed e.value))
        (λ o l p x. (
          p.fits.sound,
          empty_put (owed_header e.value.end (route_to_guest r.state.cid e.flow) owed.Rst) r.state r.state refl (λ fits. inr (e, there, refl))
              (λ fits c log x. x) o l p x,
        ))
        refl ready.1
        (λ R d held holds. keeps_bind R (closing e stream_closed gone) (λ t. Done (after_leaving e.slot t)) d
        (closing_keeps (λ u. R (after_leaving e.slot u)) e stream_closed gone d
        (λ x closes. holds x (closed_held carry first port t e.value d x F (Streamed t)
        (λ shut fits o log y. streams_go carry first lines lines port port r.state t log log (λ few. few)
        (λ h few z. leaves_streams h log (ports_of carry.since port r.state) r.state.table lines z y.0 e there shut (stream_closed e.value)) o y.1)
        (λ still fits o n log exposes y. streams_call carry first lines lines port port r.state t log log (λ few. few)
        (λ h. Unit {0}) (after_close e.value.stream) (λ h any few z. closes_streams h log (ports_of carry.since port r.state) r.state.table lines z y.0 e there
        (stream_closed e.value)) o n exposes y.1)
        closes held)))) c ready
    owed_by what owes c ready =
        let v : DeviceConnection = record e.value { end = paid_of e.value.end what } in
        let t : DeviceState = record (with_connection e.slot v spent) { last_put = Some e.slot } in
        put_packet_keeps _ (after_paying what e) r t (Streamed t)
        (λ fits. owed_puts carry port r.state fits e there what owes v refl refl refl)
        (empty_put (owed_header e.value.end (route_to_guest r.state.cid e.flow) what) r.state t refl
        (of_it v (owed_header e.value.end (route_to_guest r.state.cid e.flow) what) refl)
        (stays_by what v owes (owes_begun e.value.end what owes (λ (q : what ≡ owed.Request). cc)) refl)) refl ready.1 (λ R d held holds. holds d held) c ready

  pub put_owed_keeps : (slot : ℕ) (r : Filling) (c : Situation) → Ready r c → Keeps (Goes Ready Over) (put_owed slot r) c
  put_owed_keeps slot r c ready =
      keeps_some asking (Goes Ready Over) (entry_under r.state.table slot) (Done (r, false))
      (λ e. elim (owes_of e.value.end) [ None ↦ Done (r, false) | Some what ↦ puts e what ]) c (λ none. filled) (λ e under.
      keeps_some asking (Goes Ready Over) (owes_of e.value.end) (Done (r, false)) (puts e) c (λ none. filled) (λ what owes.
      keeps_then Over (Goes Ready Over) (put_packet (owed_header e.value.end (route_to_guest r.state.cid e.flow) what) (after_paying what e) r)
      (λ q. Done (q, not q.over)) c (owed_by e r (under_there r.state slot e under) what owes c ready) one_put))
    where
      filled : Over r c
      filled = open_filled carry lines first port r c ready

      puts : DeviceEntry → Owed → DeviceTree (Filling × Bool)
      puts e what = bind (put_packet (owed_header e.value.end (route_to_guest r.state.cid e.flow) what) (after_paying what e) r)
          (λ q. Done (q, not q.over))

  -- What a connection reads of its stream.
  module _ (e : DeviceEntry) (r : Filling) (there : Contains r.state.table.entries e)
      (may : may_read e.value.end e.value.end.state ≡ true) where
    old : is_new e.value.end ≡ false
    old = live_old e.value.end may

    module _ (chain : Chain) (going : r.state.failed ≡ None) (over : r.over ≡ false) where
      abbrev chained : Filling
      chained = record r { state = record r.state { chain = Some chain } }

      -- The bytes that were read of the stream, as they will be put.
      abbrev sent : List ℕ → DeviceConnection
      sent payload = record e.value { end = with_payload_sent e.value.end (length payload) }

      abbrev Read : List ℕ → Fact
      Read payload host log =
          Streamed (with_connection e.slot (sent payload) r.state) host (PutPacket (payload_on Device r.state.cid e.flow e.value.end payload) ∷ log)

      payload_keeps : (payload : List ℕ) → length payload ≤ read_room (free_of e.value.end.credit) chain → (c : Situation)
          → IsHeldBy carry (Read payload) first port (record r.state { chain = Some chain }) c → Keeps Over (put_payload chain e payload chained) c
      payload_keeps payload short c holds =
          let h : Header = payload_header e.value.end (route_to_guest r.state.cid e.flow) (length payload) in
          let t : DeviceState = record (with_connection e.slot (sent payload) (record r.state { chain = None })) { last_put = Some e.slot } in
          let p : Filling = record chained { state = record r.state { chain = None }; put = r.put + 1 } in
          let after : Filling → DeviceTree Filling = λ p. Done (record p {
            state = record (with_connection e.slot (record e.value {
              end = with_payload_sent e.value.end
                  (length payload);
            }) p.state) { last_put = Some e.slot };
            read = p.read + length payload;
          }) in
          let long : IsRxChain chain = holds.0 in
          keeps_bind Over (put_on chain h payload chained) after c
          (written_keeps carry first port r.state (Read payload) (λ x d. Keeps Over (after x) d) (Done p) t h payload
          (λ fits. send_puts carry port r.state fits e there payload
          (can_send e.value.end (length payload) may (omega (arith, short))) (omega (arith, short)) old)
          (Streamed t) (λ o l p x. x)
          chain holds.0.0 (omega (arith, short, holds.0.1)) refl refl c
          (writes_first carry first port (record r.state { chain = Some chain }) (Read payload) chain c refl going holds.1)
          (λ d told. ((tt, told), λ still. going)))

      abbrev with_it : DeviceState
      with_it = record r.state { chain = Some chain }

      abbrev room : ℕ
      room = read_room (free_of e.value.end.credit) chain

      answered_keeps : (answer : StreamRead) (payload : List ℕ) (c d : Situation) → Lets (ReadStream e.value.stream room) (answer, payload) c d
          → Now with_it c → Keeps Over (read_answered chain e answer payload chained) d
      answered_keeps (read.Got n) payload c d made holds = payload_keeps payload made.1 d
          (fact_called carry first port with_it (Streamed r.state) (Read payload) false (IsReadOf e.value.stream room (read.Got n, payload))
          (after_read e.value.stream (read.Got n)) (λ o k l exposes p.
          streams_call carry first lines lines port port r.state (with_connection e.slot (sent payload) r.state) l.entries
          (PutPacket (payload_on Device r.state.cid e.flow e.value.end payload) ∷ l.entries)
          (carry.before first (PutPacket (payload_on Device r.state.cid e.flow e.value.end payload)) l.entries)
          (IsReadOf e.value.stream room (read.Got n, payload)) (after_read e.value.stream (read.Got n)) (λ h is few x.
          subst (λ (bytes : List ℕ). IsStreamed (after_read e.value.stream (read.Got n) h)
          (PutPacket (payload_on Device r.state.cid e.flow e.value.end bytes) ∷ l.entries) (ports_of carry.since port r.state) (with_value r.state.table e.slot (sent bytes)) lines)
          (sym is.1) (let fair = good_fair carry.fairly l.entries (carry.sure first _ (carry.before first _ l.entries few)) p.fair in
          reads_streams h l.entries (ports_of carry.since port r.state) r.state.table lines x p.fits.sound fair e there old n r.state.cid
          (subst (λ (bytes : List ℕ). IsFairLog Device (PutPacket (payload_on Device r.state.cid e.flow e.value.end bytes) ∷ l.entries)) is.1
          ((send_puts carry port with_it p.fits e there payload (can_send e.value.end (length payload) may (omega (arith, made.1)))
          (omega (arith, made.1)) old).fair first l.entries p.matches fair)))) o k exposes) c d made.0 holds)
      answered_keeps read.Again payload c d made holds = (
        called_with carry lines first port with_it with_it refl refl (λ fits. same carry port with_it fits) false
            (IsReadOf e.value.stream room (read.Again, payload)) called
            (λ fits h log is x. called_host h log (ports_of carry.since port r.state) r.state.table lines x) c d made.0 holds,
        λ still. going,
      )
      answered_keeps read.End payload c d made holds = (
        called_with carry lines first port with_it (with_connection e.slot (after_shut 2 with_it.now e.value) with_it) refl refl
            (λ fits. shuts carry port with_it fits e there 2 with_it.now old) false (IsReadOf e.value.stream room (read.End, payload)) called
            (λ fits h log is x. called_host h log (ports_of carry.since port r.state) (with_value r.state.table e.slot (after_shut 2 with_it.now e.value)) lines
            (shuts_streams h log (ports_of carry.since port r.state) r.state.table lines x fits.sound e 2 with_it.now there old)) c d made.0 holds,
        λ still. going,
      )
      answered_keeps read.Failed payload c d made holds =
          keeps_bind Over (closing e cut_off (with_fault with_it)) (λ t. Done (record chained { state = t })) d
          (closing_keeps (λ t x. Over (record chained { state = t }) x) e cut_off (with_fault with_it) d (λ x closes. (
            cut_with carry lines first port e (with_fault with_it) (with_connection e.slot (cut_off e.value) (with_fault with_it)) there refl refl (λ fits. old)
                (λ fits. cuts carry port (with_fault with_it) fits e there old) d x closes
                (faulted carry lines first port with_it d (called_with carry lines first port with_it with_it refl refl (λ fits. same carry port with_it fits) true
                (IsReadOf e.value.stream room (read.Failed, payload)) called
                (λ fits h log is y. called_host h log (ports_of carry.since port r.state) r.state.table lines y) c d made.0 holds)),
            λ still. going,
          )))

      chain_keeps : (c : Situation) → Now (record r.state { chain = Some chain }) c → Keeps Over (read_with_chain e chained) c
      chain_keeps c holds = (tt, λ a d made. answered_keeps a.0 a.1 c d made holds)

    none_keeps : (q : Filling) (d : Situation) → q.state.chain ≡ None → q.over ≡ true → Now q.state d → Keeps Over
        (read_with_chain e q) d
    none_keeps q d none over holds = grind (arith, common_steps)

    read_by : (b : Bool) (c : Situation) → Ready r c → Keeps Over (cond b
        (Done (record r { state = with_connection e.slot (record e.value { end = wanting_credit e.value.end }) r.state }))
        (bind (hold r) (read_with_chain e))) c
    read_by true c ready = (
      changed carry lines first port r.state (with_connection e.slot (record e.value { end = wanting_credit e.value.end }) r.state) refl refl
          (λ fits. wants carry port r.state fits e there old) (λ fits h log x. ends_streams h log (ports_of carry.since port r.state) r.state.table lines x fits.sound e there
          (record e.value { end = wanting_credit e.value.end }) refl refl refl refl refl refl (λ on. on) (λ on. on)) c ready.0,
      λ going. ready.1,
    )
    read_by false c ready =
        hold_keeps carry lines first port Over (read_with_chain e) r (λ chain d holds. chain_keeps chain ready.1 ready.2 d holds) none_keeps c ready

    -- The single step reads where a chain is held.
    held_keeps : (c : Situation) → Ready r c → Keeps Over (read_with_chain e r) c
    held_keeps c ready = by r.state.chain refl
      where
        by : (o : Option Chain) → r.state.chain ≡ o → Keeps Over (read_with_chain e (record r { state = record r.state { chain = o } })) c
        by None is = (subst (λ (o : Option Chain). Now (record r.state { chain = o }) c) is ready.0, λ going. ready.1)
        by (Some chain) is =
            chain_keeps chain ready.1 ready.2 c (subst (λ (o : Option Chain). Now (record r.state { chain = o }) c) is ready.0)

    pub step_keeps : (b : Bool) (c : Situation) → Ready r c
        → Keeps Now (cond b (Done (with_connection e.slot (record e.value { end = wanting_credit e.value.end }) r.state))
        (bind (read_with_chain e r) (λ q. Done q.state))) c
    step_keeps true c ready = (read_by true c ready).0
    step_keeps false c ready = keeps_then Over Now (read_with_chain e r) (λ q. Done q.state) c (held_keeps c ready) (λ q d kept. kept.0)

  read_keeps : (e : DeviceEntry) (r : Filling) → Contains r.state.table.entries e → (c : Situation) → Ready r c → Keeps Over
      (read_stream e r) c
  read_keeps e r there c ready =
      keeps_if asking Over (may_read e.value.end e.value.end.state) _ _ c
      (λ may. read_by e r there may (free_of e.value.end.credit == 0) c ready) (λ no. open_filled carry lines first port r c ready)

  -- A slot of the round.
  owes_keeps : (slot : ℕ) (q : Filling) (c : Situation) → Over q c
      → Keeps Over (if q.over then Done q else while_up_to OWED_MAX (put_owed slot) q) c
  owes_keeps slot q c filled =
      keeps_if asking Over q.over _ _ c (λ over. filled) (λ on. keeps_while Ready Over (open_filled carry lines first port) (put_owed slot)
      (put_owed_keeps slot) OWED_MAX q c (filled.0, filled.1 on, on))

  serve_keeps : (slot : ℕ) (r : Filling) (c : Situation) → Over r c → Keeps Over (serve_slot slot r) c
  serve_keeps slot r c filled =
      keeps_if asking Over r.over _ _ c (λ over. filled) (λ on.
      keeps_then Over Over (elim (entry_under r.state.table slot) [ None ↦ Done r | Some e ↦ read_stream e r ]) _ c
      (keeps_some asking Over (entry_under r.state.table slot) (Done r) (λ e. read_stream e r) c (λ none. filled)
      (λ e under. read_keeps e r (under_there r.state slot e under) c (filled.0, filled.1 on, on))) (owes_keeps slot))

  -- The whole call.
  abbrev FillEnds : DeviceState × Result FilledAnswer Failure → Situation → Type 0
  FillEnds x c = Now x.0 c

  pub fill_keeps : (s : DeviceState) (c : Situation) → Now s c → Keeps FillEnds (fill_rx_of s) c
  fill_keeps s c holds = by s.failed refl
    where
      replies : DeviceTree Filling
      replies = while_up_to (length s.replies) put_reply (record { state = s; put = 0; read = 0; over = false })

      rounds : Filling → DeviceTree Filling
      rounds r = if r.over then Done r else for_each serve_slot (round_from r.state.last_put (slots r.state.table)) r

      by : (o : Option Failure) → s.failed ≡ o → Keeps FillEnds (elim o [
        | Some f ↦ Done (s, Err f)
        | None ↦ bind replies (λ r. bind (rounds r) (λ q. Done (filled_of q)))
      ]) c
      by (Some f) failed = holds
      by None going =
          keeps_then Over FillEnds replies _ c
          (keeps_while Ready Over (open_filled carry lines first port) put_reply put_reply_keeps (length s.replies) _ c (holds, going, refl))
          (λ r d filled. keeps_then Over FillEnds (rounds r) _ d (keeps_if asking Over r.over _ _ d (λ over. filled) (λ on.
          keeps_each Over serve_slot serve_keeps (round_from r.state.last_put (slots r.state.table)) r d filled)) (λ q e over. over.0))
