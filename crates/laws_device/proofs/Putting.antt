-- The steps at which the device puts a packet: payload is sent, what is owed is paid, a reply is given.
use Rattle.std.proofs.lemmas.Grind.{common_steps}
use Rattle.std.proofs.{Common.{◌≡◌, ℕ, suc, ◌<◌, ◌^◌, false, List, [], ◌∷◌, ◌++◌, length, Contains, Some, refl, sym, ap, subst, ◌∙◌, arith}, lemmas.List.append-nil}
use Rattle.std.specs.List.{All}
use Rattle.vs_conn.specs.{Headers.{owed_header, payload_header}, End.{CanSend, ConnectionEnd, owes_of, paid_of, with_payload_sent}, declared.end.Owed.Owed}
use Rattle.vs_conn.{specs.Follows.FitsMessage, proofs.{Frames.paid_kind, Steps.stream_fits}}
use Rattle.vs_header.specs.{Packet.header_bytes, declared.Header.Header}
use Rattle.laws_history.specs.{History.puts, declared.packet.Packet.Packet}
use Rattle.vs_flow.specs.{Table.{Table, with_value, without}, declared.flow.Flow.Flow}
use Rattle.vs_page.{specs.{Log.{Device, Log, history_of}, Fair.IsFairLog, Held.{FitsWire, packet_held}, declared.log.LogEntry.TheVariants.PutPacket}, proofs.Packets.held_alone}
use Rattle.vs_page.proofs.Packets.{held_payload}
use Rattle.vs_replies.specs.declared.Reply.{Reply}
use Rattle.laws_tables.{specs.{Steps.{owed_on, paid, payload_on, with_end}, Ends.{Ends, is_new}, Matches.Matches, Both.{Pays, Replies, Seat, Sends}}, proofs.Keeps.{owed_old, pays}}
use Rattle.laws_tables.proofs.{Keeps.{pays_fair, replies, replies_fair, sends, sends_fair}}
use Rattle.laws_device.proofs.{Tabling.{begun_fits, connection_ends, connection_fits, entry_fits, has_end, left_ends, left_fits}, Seats.{Carried, at_log, seat}}
use Rattle.laws_device.{proofs.Fits.{fits_paid, fits_sent}, specs.Honest.{HoldsBytes, IsFit, IsFitEntry, IsFitFlow, IsFitReply, IsFitState, ends_of_state, ends_with}}
use Rattle.vs_device_parts.specs.{State.{DeviceConnection, DeviceEntry, DeviceState}, Connections.{route_to_guest, with_connection}, Receiving.reply_header}
use Rattle.laws_tables.proofs.Wire.{FitsRoute, header_fits, reset_fits}
use Rattle.vs_conn.specs.declared.end.Owed.TheVariants as owed
use Rattle.vs_header.specs.declared.Op.TheVariants as op

-- What a step does that puts the packet with this header and payload.
pub record PutsTo (carry : Carried) (port : ℕ) (h : Header) (payload : List ℕ) (cid overrun : ℕ) (table : Table DeviceConnection) (replies : List Reply)
    (clean : List Flow) (cid' overrun' : ℕ) (table' : Table DeviceConnection) (replies' : List Reply) (clean' : List Flow) : Type 0 where
  pub held : packet_held (header_bytes h ++ payload) ≡ (let p : Packet = record { header = h; payload = payload } in Some p)
  pub fits : IsFit cid' table' replies' clean'
  pub overrun_is : overrun' ≡ overrun
  pub matches : (first : ℕ) (log : Log) → Matches Device first (ends_with port cid table replies clean) log
      → Matches Device first (ends_with port cid' table' replies' clean') (PutPacket (record { header = h; payload = payload }) ∷ log)
  pub fair : (first : ℕ) (log : Log) → Matches Device first (ends_with port cid table replies clean) log → IsFairLog Device log
      → IsFairLog Device (PutPacket (record { header = h; payload = payload }) ∷ log)
  pub goes : (log : Log) → carry.holds (record { part = ends_with port cid table replies clean; log = log })
      → carry.holds (record { part = ends_with port cid' table' replies' clean'; log = PutPacket (record { header = h; payload = payload }) ∷ log })

abbrev pub Puts : Carried → ℕ → DeviceState → Header → List ℕ → DeviceState → Type 0
Puts carry port s h payload t = PutsTo carry port h payload s.cid s.overrun s.table s.replies s.clean t.cid t.overrun t.table t.replies t.clean

route_fits : (cid : ℕ) (f : Flow) → cid < 2 ^ 64 → IsFitFlow f → FitsRoute (route_to_guest cid f)
route_fits cid f fits ports = record { src_cid = ports.peer; dst_cid = fits; src_port = ports.host; dst_port = ports.guest }

held_empty : (h : Header) → FitsWire h → h.len ≡ 0 → packet_held (header_bytes h ++ []) ≡
    (let p : Packet = record { header = h; payload = [] } in Some p)
held_empty h wire none = ap packet_held (append-nil (header_bytes h)) ∙ held_alone h wire none

module _ (carry : Carried) (port : ℕ) (s : DeviceState) (fits : IsFitState s) where
  -- The oldest reply.
  pub reply_puts : (reply : Reply) (rest : List Reply) → s.replies ≡ reply ∷ rest
      → Puts carry port s (reply_header reply s) [] (record s { replies = rest })
  reply_puts reply rest is =
      let owed : All IsFitReply (reply ∷ rest) = subst (λ (rs : List Reply). All IsFitReply rs) is fits.owed in
      let wire = reset_fits _ (route_fits s.cid reply.flow fits.cid_fits (owed 0 reply (omega arith))) reply.kind in
      record {
        held = held_empty (reply_header reply s) wire refl;
        fits = record {
          cid_fits = fits.cid_fits;
          sound = fits.sound;
          entries = fits.entries;
          owed = λ i d less. owed (suc i) d
              (omega (arith, less));
          clean_fit = fits.clean_fit;
        };
        overrun_is = refl;
        matches = λ first log m. replies Device first s.cid reply rest (ends_of_state port s) log m is;
        fair = λ first log m fair. replies_fair Device first s.cid reply rest (ends_of_state port s) log m fair is;
        goes = λ log was. carry.step (Replies reply rest) (seat port s log) is tt (λ all. (wire, all)) was;
      }

  module _ (e : DeviceEntry) (there : Contains s.table.entries e) where
    entry : IsFitEntry e
    entry = entry_fits s fits e there

    -- Payload.
    pub send_puts : (payload : List ℕ) → CanSend e.value.end (length payload) → length payload < 2 ^ 32 → is_new e.value.end ≡ false
        → Puts carry port s (payload_header e.value.end (route_to_guest s.cid e.flow) (length payload)) payload
        (with_connection e.slot (record e.value { end = with_payload_sent e.value.end (length payload) }) s)
    send_puts payload can small begun =
        let end : ConnectionEnd = e.value.end in
        let now : DeviceConnection = record e.value { end = with_payload_sent end (length payload) } in
        let h : Header = payload_header end (route_to_guest s.cid e.flow) (length payload) in
        let wire : FitsWire h = header_fits _ (route_fits s.cid e.flow fits.cid_fits entry.ports) end op.Rw 0 (length payload)
        (omega (arith, entry.bytes.alloc))
        entry.bytes.fwd (omega arith) small in
        let fits_message : (log : Log) → FitsMessage end (puts (history_of Device e.flow log)) (length payload) =
        λ log. stream_fits end (puts (history_of Device e.flow log)) (length payload) entry.kind in
        record {
          held = held_payload h payload wire refl refl;
          fits = connection_fits s fits e.slot now (begun_fits now
              (fits_sent end.credit (length payload) (length e.value.pending) entry.bytes) begun) entry.kind;
          overrun_is = refl;
          matches = λ first log m.
              subst (λ (part : Ends). Matches Device first part (PutPacket (payload_on Device s.cid e.flow end payload) ∷ log))
              (sym (connection_ends s fits e there port now))
              (sends Device first s.cid e.flow end payload (ends_of_state port s) log m (has_end s fits e there port) can
              (fits_message log));
          fair = λ first log m fair. sends_fair Device first s.cid e.flow end payload (ends_of_state port s) log m fair
              (has_end s fits e there port) can (fits_message log);
          goes = λ log was.
              subst (λ (w : Seat). carry.holds w) (at_log (PutPacket (payload_on Device s.cid e.flow end payload) ∷ log) _ _ (sym (connection_ends s fits e there port now)))
              (carry.step (Sends e.flow end payload) (seat port s log) (has_end s fits e there port, can, fits_message log) tt (λ all. (wire, all)) was);
        }

    -- What is owed.
    module _ (what : Owed) (owes : owes_of e.value.end ≡ Some what) where
      header : Header
      header = owed_header e.value.end (route_to_guest s.cid e.flow) what

      wire : FitsWire (owed_header e.value.end (route_to_guest s.cid e.flow) what)
      wire = grind (arith, common_steps, route_fits, entry)

      pays_to : (t : DeviceState) → IsFitState t → t.overrun ≡ s.overrun → paid e.flow e.value.end what
          (ends_of_state port s) ≡ ends_of_state port t
          → Puts carry port s (owed_header e.value.end (route_to_guest s.cid e.flow) what) [] t
      pays_to t fit over is = record {
        held = held_empty (owed_header e.value.end (route_to_guest s.cid e.flow) what) wire refl;
        fits = fit;
        overrun_is = over;
        matches = λ first log m.
            subst (λ (part : Ends). Matches Device first part (PutPacket (owed_on Device s.cid e.flow e.value.end what) ∷ log)) is
            (pays Device first s.cid e.flow e.value.end what (ends_of_state port s) log m (has_end s fits e there port) owes);
        fair = λ first log m fair. pays_fair Device first s.cid e.flow e.value.end what (ends_of_state port s) log m fair
            (has_end s fits e there port) owes;
        goes = λ log was.
            subst (λ (w : Seat). carry.holds w) (at_log (PutPacket (owed_on Device s.cid e.flow e.value.end what) ∷ log) _ _ is)
            (carry.step (Pays e.flow e.value.end what) (seat port s log) (has_end s fits e there port, owes) tt (λ all. (wire, all)) was);
      }

      -- The connection stays.
      pub owed_puts : (c : DeviceConnection) → c.end ≡ paid_of e.value.end what → c.pending ≡ e.value.pending
          → paid e.flow e.value.end what (ends_of_state port s) ≡ with_end e.flow (paid_of e.value.end what) (ends_of_state port s)
          → Puts carry port s (owed_header e.value.end (route_to_guest s.cid e.flow) what) [] (with_connection e.slot c s)
      owed_puts c is pending stays =
          pays_to (with_connection e.slot c s)
          (connection_fits s fits e.slot c (begun_fits c
          (subst (λ (x : ConnectionEnd). HoldsBytes x.credit (length c.pending)) (sym is)
          (subst (λ (bytes : List ℕ). HoldsBytes (paid_of e.value.end what).credit (length bytes)) (sym pending)
          (fits_paid e.value.end what (length e.value.pending) entry.bytes)))
          (ap is_new is ∙ owed_old e.value.end what owes))
          (ap (λ (x : ConnectionEnd). x.kind) is ∙ paid_kind e.value.end what ∙ entry.kind))
          refl
          (stays ∙ (ap (λ (x : ConnectionEnd). with_end e.flow x (ends_of_state port s)) (sym is) ∙ sym
          (connection_ends s fits e there port c)))

      -- It leaves.
      pub rst_puts : what ≡ owed.Rst → (c : DeviceConnection)
          → Puts carry port s (owed_header e.value.end (route_to_guest s.cid e.flow) what) []
          (record s { table = without (with_value s.table e.slot c) e.slot })
      rst_puts rst c = pays_to (record s { table = without (with_value s.table e.slot c) e.slot }) (left_fits s fits e there c false (λ no. absurd cc)) refl
          (ap (λ (w : Owed). paid e.flow e.value.end w (ends_of_state port s)) rst ∙ sym (left_ends s fits e there port c false))
