-- What of a connection's payload its host's program has still to read, where the device holds many bytes of it.
use Rattle.std.proofs.lemmas.Grind.{common_steps}
use Rattle.std.proofs.Common.{◌≡◌, ◌⊎◌, inl, inr, ℕ, ◌+◌, ◌-◌, ◌≤◌, ◌<◌, ◌%◌, ◌^◌, not, Bool, true, false, cond, List, [], ◌∷◌, ◌++◌, length, Contains, Ok}
use Rattle.std.proofs.{Common.{Option, codes, decimal, refl, sym, ap, subst, ◌∙◌, arith}, lemmas.List.Elements.All-contains}
use Rattle.vs_credit.specs.Credit.{free_of, unread_of}
use Rattle.vs_conn.specs.{End.{ConnectionEnd, may_send_of}, Follows.{Follows, IsLeftBy}, Shut.is_both, declared.end.State.{State, TheVariants.Live}}
use Rattle.vs_flow.specs.{Connection.Connection, Flow.host_asks, Table.Table, declared.flow.Flow.Flow}
use Rattle.vs_outside.specs.{Host.HostContents, HostBytes.{after_line, has_line, host_read}}
use Rattle.vs_uds.specs.OkLine.{ok_text}
use Rattle.laws_history.specs.{History.{History, Side, gots, puts}, Packets.{bytes, told_forwarded}}
use Rattle.vs_page.{specs.{Fair.{IsFairLog, current, number_of, payload_got}, Log.{Device, Log, history_of, side_of}, Open.left_kind}, proofs.Payload.length-payload_of}
use Rattle.vs_page.proofs.Present.{present_got}
use Rattle.vs_device_parts.specs.State.{DeviceConnection, DeviceEntry}
use Rattle.vs_proxy_parts.specs.State.{Handshake}
use Rattle.laws_tables.{specs.{Ends.{Ends, ends_of, is_among, replied, is_new_in}, Heard.heard_of, Matches.{IsLeftOn, Matches}, Steps.HasEnd}, proofs.Fair.heard_less}
use Rattle.laws_device.{specs.Carried.Streamed.{IsJoined, IsStreamed, Ports, connection_of, count_in, gives_in, look}, proofs.Carried.{Hosts.there, Lines.ok_front}}
use Rattle.laws_device.proofs.Carried.Lines.{after_longer, line_ends, line_whole}
use Rattle.vs_outside.proofs.Lines.{after_is_rest, rest_before}
use Rattle.laws_rest.proofs.Hosts.{read_own}

-- What an end that may send, but lacks credit.
pub no_free : (e : ConnectionEnd) → e.state ≡ Live → may_send_of e ≡ Ok 0 → (free_of e.credit ≡ 0) × (e.peer.receive ≡ false)
no_free e live says = grind (arith, common_steps)

-- The connection of an entry whose end is Live.
pub live_connection : (y : DeviceEntry) (log : Log) → y.value.end.state ≡ Live → connection_of y log ≡ current Device y.flow log
live_connection y log live = ap (λ (st : State). let n = number_of Device y.flow log in
    let c : Connection = record { flow = y.flow; number = cond (is_new_in st y.value.end.request_put) (n + 1) n } in c) live

-- An end has no more unread than it got on its flow.
pub followed : (side : Side) (h : History) (kind : Option ℕ) (owed : Bool) (ends : List ConnectionEnd) (e : ConnectionEnd) → IsLeftOn Device side h kind owed ends
    → ends ≡ e ∷ [] → e.state ≡ Live → Follows side (puts h) (gots h) e
followed side h kind owed ends e held is live = grind (arith, common_steps)

unread_most : (rx fwd told all : ℕ) → fwd < 2 ^ 32 → rx ≡ all % 2 ^ 32 → told + (fwd + 2 ^ 32 - told % 2 ^ 32) % 2 ^ 32 ≤ all
    → (rx + 2 ^ 32 - fwd) % 2 ^ 32 ≤ all
unread_most rx fwd told all fits is most = omega (arith, fits, is, most)

module _ (first : ℕ) (part : Ends) (log : Log) (matches : Matches Device first part log) (fair : IsFairLog Device log) (f : Flow)
    (e : ConnectionEnd) (has : HasEnd f e part) (live : e.state ≡ Live) where
  pub unread_within : unread_of e.credit ≤ length (payload_got Device (current Device f log) log)
  unread_within =
      let h = heard_of Device first f log in
      let follows = followed (side_of Device f) h (left_kind Device first f log) (is_among f (replied part.replies)) (ends_of f part.entries) e
      (matches.flows.on f) has live in
      let left : IsLeftBy (side_of Device f) (puts h) (gots h) e = follows.left (λ over. absurd cc) in
      let most = unread_most e.credit.rx_cnt e.credit.fwd_cnt (told_forwarded (puts h)) (bytes (gots h)) follows.fwd_cnt left.rx_cnt left.forwarded_got in
      let less = (heard_less Device first f log (fair f)).bytes_more in
      let len = length-payload_of (gots (history_of Device f log)) in
      let got = ap (λ (bs : List ℕ). length bs) (present_got Device f log (fair f)) in
      omega (arith, most, less, len, got)

  -- Where its peer neither sends nor receives any more, something is unread: else it would be over.
  pub some_unread : is_both e.peer ≡ true → 1 ≤ unread_of e.credit
  some_unread both = grind (arith, common_steps)

-- Of what a stream was given, the lines aside, and what is pending for it.
abbrev Within : List ℕ → List ℕ → List ℕ → Type 0
Within read pending got = (length read ≡ 0) ⊎ (length read + length pending ≤ length got)

split_len : (a b c d : List ℕ) → a ++ (b ++ c) ≡ d → length a + length c ≤ length d
split_len a b c d is = grind (arith, common_steps)

read_within : (b : Bool) (port : ℕ) (given line pending got : List ℕ)
    → given ++ (line ++ pending) ≡ cond b (ok_text port) [] ++ got → Within (cond b (after_line given) given) pending got
read_within false port given line pending got is = inr (split_len given line pending got is)
read_within true port given line pending got is = by (has_line given) refl
  where
    front : List ℕ
    front = codes "OK " ++ decimal port

    by : (b : Bool) → has_line given ≡ b → Within (after_line given) pending got
    by false none = inl (ap (λ (bs : List ℕ). length bs) (after_is_rest given ∙ rest_before given none))
    by true some = inr (split_len (after_line given) line pending got
        (sym (after_longer given (line ++ pending) some) ∙ ap after_line is ∙ after_longer (front ++ 10 ∷ []) got (line_whole front)
        ∙ ap (λ (bs : List ℕ). bs ++ got) (line_ends front (ok_front port))))

module _ (h : HostContents) (log : Log) (port : Ports) (t : Table DeviceConnection) (hands : List Handshake) (streamed : IsStreamed h log port t hands)
    (y : DeviceEntry) (within : Contains t.entries y) (live : y.value.end.state ≡ Live) (goes_on : y.value.end.own.receive ≡ false) where
  abbrev its : Connection
  its = current Device y.flow log

  pub read_less : Within (host_read its h) y.value.pending (payload_got Device its log)
  read_less =
      let joined = All-contains (IsJoined (look h) (count_in h) log) t.entries y streamed.joined within in
      let here = there y.value.stream h joined.stream joined.there in
      let labels = streamed.streams.labels y.value.stream joined.stream (connection_of y log) joined.there joined.label in
      let label = ap (λ s. s.label) here.is ∙ joined.label in
      let client = ap (λ s. s.by_client) here.is ∙ labels.client in
      let all = joined.drains.whole (ap (λ (st : State). gives_in st y.value.end.own.receive) live ∙ ap (λ (b : Bool). not b) goes_on) in
      subst (λ (c : Connection). Within (host_read c h) y.value.pending (payload_got Device c log)) (live_connection y log live)
      (subst (λ (bs : List ℕ). Within bs y.value.pending (payload_got Device (connection_of y log) log))
      (ap (λ (b : Bool). cond b (after_line here.stream.given) here.stream.given) (sym client)
      ∙ read_own h log port t hands streamed (connection_of y log) labels.some y.value.stream here.stream here.at label)
      (read_within (host_asks y.flow) y.flow.host here.stream.given y.value.ok_line y.value.pending (payload_got Device (connection_of y log) log)
      (ap (λ s. s.given ++ (y.value.ok_line ++ y.value.pending)) here.is ∙ all)))

  -- Many are pending: so many the host's program has still to read.
  pub to_read : (most : ℕ) → most ≤ length y.value.pending → most ≤ length (payload_got Device its log)
      → most + length (host_read its h) ≤ length (payload_got Device its log)
  to_read most many all = grind (arith, common_steps, read_less)
