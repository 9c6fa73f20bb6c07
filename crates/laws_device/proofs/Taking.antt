-- A packet that is got: the device's connections are those that the log with it leaves.
use Rattle.std.proofs.{Common.{◌≡◌, ℕ, ◌&&◌, Bool, true, false, cond, List, [], ◌∷◌, Contains, None, refl, sym, ap, subst, ◌∙◌, arith}, lemmas.List.Elements.All-push}
use Rattle.std.proofs.lemmas.{Bool.Decides.nat_tests, Grind.common_steps}
use Rattle.vs_conn.{specs.{End.{ConnectionEnd, answering, end_after, is_reset, is_of}, Follows.IsTaken}, proofs.Frames.got_kind}
use Rattle.laws_history.specs.{Packets.{is_request, is_rst}, declared.packet.Packet.Packet}
use Rattle.vs_limits.specs.declared.TheConstants.{BUF_ALLOC, HOST_CID}
use Rattle.vs_flow.{specs.{CleanPairs.kept_if, Table.{entry_of, has_place, refusal, with_value, without}, declared.flow.Flow.Flow}, proofs.Tables.accepted}
use Rattle.vs_page.specs.{Log.{Device, Log, flow_to_host, side_of}, Held.{FitsWire, IsWhole}, Open.is_dropped, declared.log.LogEntry.TheVariants.GotPacket}
use Rattle.vs_replies.specs.Owed.{reply_to}
use Rattle.laws_tables.specs.{Steps.{HasEnd, HasNone, is_kept, left, taken, with_clean, with_end, accepted as accepted_as}, Both.{Seat, Takes, after_packet}}
use Rattle.laws_tables.{specs.{Both.{after_taking, answered}, Ends.{Ends, FlowEnd, answer_kind, ends_of}, Heard.{IsInOrder, heard_of}, Matches.Matches}, proofs.Keeps.accepts}
use Rattle.laws_tables.proofs.{Keeps.{drops, ignores, refuses, takes}, Slots.{added_slot, no_entry}}
use Rattle.vs_device_parts.specs.{Connections.{new_connection, with_connection, with_dialed, with_reply}, State.{DeviceConnection, DeviceEntry, DeviceState}}
use Rattle.laws_device.proofs.{Tabling.{IsFitConnection, begun_fits, connection_ends, connection_fits, has_end, left_ends, left_fits, entry_fits, opening_fits}, Seats.Carried, Sure.{Good, good_order}}
use Rattle.laws_device.{proofs.Seats.{LeftBy, at_log, seat}, specs.Honest.{IsFitFlow, IsFitReply, ends_of_state, end_in}}
use Rattle.vs_header.specs.declared.{Header.Header, Kind.TheVariants.Stream}

-- A packet that isn't dropped goes to the host.
to_host : (cid : ℕ) (h : Header) → is_dropped Device cid h ≡ false → h.dst_cid ≡ HOST_CID
to_host cid h is = grind (arith, nat_tests, common_steps, is)

module _ (carry : Carried) (first port : ℕ) (s : DeviceState) (p : Packet) (log : Log) (was : LeftBy carry first port s.cid s.overrun s.table s.replies s.clean log)
    (fair : Good carry.fairly (GotPacket p ∷ log)) (wire : FitsWire p.header) (whole : IsWhole p) where
  abbrev pub Goes : DeviceState → Type 0
  Goes t = LeftBy carry first port t.cid t.overrun t.table t.replies t.clean (GotPacket p ∷ log)

  order : IsInOrder (side_of Device (flow_to_host p.header)) (heard_of Device first (flow_to_host p.header) log) p
  order = good_order carry.fairly first p log fair

  comes : IsTaken p
  comes = record { len = whole.len; payload = whole.none; fwd_cnt = wire.fwd_cnt }

  abbrev part : Ends
  part = ends_of_state port s

  abbrev flow_is : Flow
  flow_is = flow_to_host p.header

  -- It is a step of the seat.
  goes_to : (t : DeviceState) (answer : Bool) → after_taking Device p answer part ≡ ends_of_state port t
      → carry.holds (seat port t (GotPacket p ∷ log))
  goes_to t answer is = subst (λ (w : Seat). carry.holds w) (at_log (GotPacket p ∷ log) _ _ is)
      (carry.step (Takes p answer) (seat port s log) tt tt (λ all. all) was.seated)

  -- A packet whose source isn't the guest, or whose destination isn't the host.
  pub drops_it : is_dropped Device s.cid p.header ≡ true → Goes s
  drops_it dropped = record {
    fits = was.fits;
    none_overrun = was.none_overrun;
    matches = drops Device first p (ends_of_state port s) log was.matches dropped (λ request. order);
    fair = fair;
    seated = goes_to s false (ap (λ (b : Bool). cond b part (after_packet Device (ends_of flow_is part.entries) p flow_is false part)) dropped);
  }

  module _ (kept : is_dropped Device s.cid p.header ≡ false) where
    -- What it does by the ends of its flow.
    taken_as : (ends : List ConnectionEnd) (answer : Bool) → ends_of flow_is part.entries ≡ ends
        → after_taking Device p answer part ≡ after_packet Device ends p flow_is answer part
    taken_as ends answer is = grind (arith, common_steps)

    -- A packet of a connection of the table.
    module _ (e : DeviceEntry) (there : Contains s.table.entries e) (flow : flow_to_host p.header ≡ e.flow) where
      has : HasEnd (flow_to_host p.header) e.value.end (ends_of_state port s)
      has = subst (λ (f : Flow). HasEnd f e.value.end (ends_of_state port s)) (sym flow) (has_end s was.fits e there port)

      -- Its flow may be used again where it leaves cleanly.
      abbrev pub keeps : Bool
      keeps = is_kept Device e.flow e.value.end p

      now : Matches Device first (taken Device e.flow e.value.end p part) (GotPacket p ∷ log)
      now = subst (λ (f : Flow). Matches Device first (taken Device f e.value.end p part) (GotPacket p ∷ log)) flow
          (takes Device first p e.value.end part log was.matches kept has order comes)

      taken_is : after_taking Device p false part ≡ taken Device e.flow e.value.end p part
      taken_is = taken_as (e.value.end ∷ []) false has ∙ ap (λ (f : Flow). taken Device f e.value.end p part) flow

      pub stays_with : (c : DeviceConnection) → c.end ≡ end_after e.value.end p.header → IsFitConnection c
          → (is_reset p.header && is_of e.value.end.kind p.header) ≡ false → Goes (with_connection e.slot c s)
      stays_with c is held goes_on =
          let stays_is : taken Device e.flow e.value.end p part ≡ ends_of_state port (with_connection e.slot c s) =
          ap (λ (b : Bool). cond b (with_clean keeps e.flow (left e.flow part)) (with_end e.flow (end_after e.value.end p.header) part)) goes_on
          ∙ ap (λ (x : ConnectionEnd). with_end e.flow x part) (sym is) ∙ sym (connection_ends s was.fits e there port c) in record {
            fits = connection_fits s was.fits e.slot c held
                (ap (λ (x : ConnectionEnd). x.kind) is ∙ got_kind e.value.end p.header ∙ (entry_fits s was.fits e there).kind);
            none_overrun = was.none_overrun;
            matches = subst (λ (part : Ends). Matches Device first part (GotPacket p ∷ log)) stays_is now;
            fair = fair;
            seated = goes_to (with_connection e.slot c s) false (taken_is ∙ stays_is);
          }

      pub leaves_with : (c : DeviceConnection) → (is_reset p.header && is_of e.value.end.kind p.header) ≡ true
          → Goes (record s { table = without (with_value s.table e.slot c) e.slot; clean = kept_if keeps e.flow s.clean })
      leaves_with c over =
          let t : DeviceState = record s { table = without (with_value s.table e.slot c) e.slot; clean = kept_if keeps e.flow s.clean } in
          let left_is : taken Device e.flow e.value.end p part ≡ ends_of_state port t =
          ap (λ (b : Bool). cond b (with_clean keeps e.flow (left e.flow part)) (with_end e.flow (end_after e.value.end p.header) part)) over
          ∙ sym (left_ends s was.fits e there port c keeps) in record {
            fits = left_fits s was.fits e there c keeps (λ own. record {
              ports = (entry_fits s was.fits e there).ports;
              peer = ap (λ (f : Flow). f.peer) (sym flow) ∙ to_host s.cid p.header kept;
            });
            none_overrun = was.none_overrun;
            matches = subst (λ (part : Ends). Matches Device first part (GotPacket p ∷ log)) left_is now;
            fair = fair;
            seated = goes_to t false (taken_is ∙ left_is);
          }

    -- A packet of another flow.
    module _ (none : entry_of s.table (flow_to_host p.header) ≡ None) where
      no_end : HasNone (flow_to_host p.header) (ends_of_state port s)
      no_end = no_entry end_in s.table (flow_to_host p.header) none

      flow_fits : IsFitFlow (flow_to_host p.header)
      flow_fits = record { guest = wire.src_port; host = wire.dst_port; peer = wire.dst_cid }

      pub opens : (stream : ℕ) → is_request p ≡ true → p.header.kind ≡ 1 → has_place s.table ≡ true → Goes
          (with_dialed (flow_to_host p.header) p.header stream s)
      opens stream request kind place =
          let f : Flow = flow_to_host p.header in
          let c : DeviceConnection = new_connection (answering Stream BUF_ALLOC p.header) stream false in
          let free : refusal s.table f ≡ None = rw (none, place) refl in
          record {
            fits = opening_fits s was.fits f c (accepted s.table f free) flow_fits (begun_fits c
                (record { alloc = omega arith; fwd = omega arith; rx = omega arith; unread = omega arith; within = omega arith }) refl) refl;
            none_overrun = was.none_overrun;
            matches = subst (λ (part : Ends). Matches Device first part (GotPacket p ∷ log))
                (ap (λ (es : List FlowEnd). let part : Ends = record (ends_of_state port s) { entries = es } in part)
                (sym (added_slot end_in s.table f c)))
                (accepts Device first Stream p (ends_of_state port s) log was.matches kept no_end order comes request kind);
            fair = fair;
            seated = goes_to (with_dialed f p.header stream s) true
                (taken_as [] true no_end
                ∙ ap (λ (b : Bool). cond b part (answered (is_request p) true p f part)) (not_both request)
                ∙ ap (λ (b : Bool). answered b true p f part) request
                ∙ ap (λ (n : ℕ). accepted_as f (answer_kind n) p.header part) kind
                ∙ ap (λ (es : List FlowEnd). let x : Ends = record part { entries = es } in x) (sym (added_slot end_in s.table f c)));
          }
        where
          not_both : is_request p ≡ true → is_rst p ≡ false
          not_both is = grind (arith, nat_tests, common_steps, is)

      pub replies_to : is_rst p ≡ false → Goes (with_reply (reply_to (flow_to_host p.header) p.header) s)
      replies_to plain = record {
        fits = record {
          cid_fits = was.fits.cid_fits;
          sound = was.fits.sound;
          entries = was.fits.entries;
          owed = All-push IsFitReply s.replies (reply_to (flow_to_host p.header) p.header) was.fits.owed flow_fits;
          clean_fit = was.fits.clean_fit;
        };
        none_overrun = was.none_overrun;
        matches = refuses Device first p (ends_of_state port s) log was.matches kept no_end plain order;
        fair = fair;
        seated = goes_to (with_reply (reply_to flow_is p.header) s) false
            (taken_as [] false no_end ∙ ap (λ (b : Bool). cond b part (answered (is_request p) false p flow_is part)) plain
            ∙ answered_none (is_request p));
      }
        where
          answered_none : (b : Bool) → answered b false p flow_is part ≡ ends_of_state port (with_reply (reply_to flow_is p.header) s)
          answered_none true = refl
          answered_none false = refl

      pub ignores_it : is_rst p ≡ true → Goes s
      ignores_it rst = record {
        fits = was.fits;
        none_overrun = was.none_overrun;
        matches = ignores Device first p (ends_of_state port s) log was.matches kept no_end rst order;
        fair = fair;
        seated = goes_to s false (taken_as [] false no_end ∙ ap (λ (b : Bool). cond b part (answered (is_request p) false p flow_is part)) rst);
      }
