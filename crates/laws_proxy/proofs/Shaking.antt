-- Handshakes make no call on the ring. A whole line opens a connection under the next host port.
use Rattle.vs_ring_port.specs.EndLog.{EndLog}
use Rattle.laws_device.proofs.{Seats.{AgreesBy, Carried}, Walk.Turning.{AfterAccept, AfterByte, IsOn, Shakes, keeps_accept_one, keeps_read_byte, keeps_tick_handshake}}
use Rattle.laws_device.proofs.{Keeping.{Goes, Keeps, asking, keeps_weaker}, Carrying.{Fact, fact_called, fact_goes, IsHeldBy, IsToldBy, StreamedOver, With, streams_call}}
use Rattle.laws_device.proofs.{Turning.label_keeps, Ringing.tells_weaker, Carried.{HostCalls.{accepted_host, some_seen}, Hands.{ends_by, no_line, without_after}}}
use Rattle.laws_device.proofs.Carried.{Hands.without_none, Opens.{closed_over, hand_of, label_over, line_left, line_more, line_now, line_over, one_byte}, Changing.{called_host, goes_on}}
use Rattle.laws_device.{proofs.{Carried.Lines.{line_ends, line_whole}, Named.Tables.{some_after, some_from}}, specs.Carried.Streamed.{Ports, ports_of, IsStreamed, Seen}}
use Rattle.laws_device.{specs.Carried.Streamed.{AreShakenBut, look, reading}, proofs.Carried.{Opens.dropped_host, Streamed.unfresh}}
use Rattle.vs_proxy_parts.specs.{Handshakes.{next_after, next_flow, accept_one, read_byte, tick_handshake, with_line, without_stream}, State.{Handshake, Turning}}
use Rattle.vs_flow.{proofs.Tables.accepted, specs.{Table.{refusal, Table}, declared.{flow.Flow.Flow, table.TableFault.TableFault}}}
use Rattle.std.{proofs.Common.{◌≡◌, ℕ, ◌≤◌, Bool, true, false, List, ◌++◌, Some, None, sym, ap, subst, ◌≢◌, ◌∙◌, ◌∷◌, []}, specs.{List.All, Option.ForSome}}
use Rattle.vs_limits.specs.declared.TheConstants.{ASSIGNED_FIRST}
use Rattle.vs_outside.specs.{Host.{HostContents, accept_answer, after_accept, after_close, after_label, after_read, called}, declared.host_net.Accepted.Accepted}
use Rattle.vs_outside.specs.{declared.host_net.StreamRead.StreamRead, HostBytes.{after_line, has_line}}
use Rattle.vs_page.specs.Log.{Log}
use Rattle.vs_uds.{proofs.Decided.port_fits, specs.ConnectLine.connect_step}
use Rattle.vs_device_parts.specs.{Calls.{Accept, Allows, CloseStream, HostMoves, IsReadOf, Label, ReadStream, Situation}, Connections.with_client, State.DeviceState}
use Rattle.vs_device_parts.specs.State.{DeviceConnection}
use Rattle.laws_proxy.proofs.Ports.{IsTaken, above_then, next_taken}
use Rattle.laws_device.proofs.Carrying.{faulted}
use Rattle.vs_outside.specs.declared.host_net.Accepted.TheVariants as accepted
use Rattle.vs_outside.specs.declared.host_net.StreamRead.TheVariants as read
use Rattle.vs_uds.specs.declared.scan.Step.TheVariants as step

-- A line with a byte more, which may be whole: its stream is no other line's, and needs a handshake until it is closed or has a label.
pub record IsLineOn (hands : List Handshake) (port : Ports) (table : Table DeviceConnection) (id : ℕ) (line : List ℕ) (log : Log) (c : HostContents) : Type 0 where
  pub over : IsStreamed c log (unfresh port) table (without_stream id hands)
  pub left : port.fresh ≡ true → AreShakenBut id (look c) (without_stream id hands)
  pub here : look c id ≡ Some (reading line)
  pub away : All (λ h. h.stream ≢ id) (without_stream id hands)
  pub more : connect_step line ≡ step.More → IsStreamed c log port table hands
  pub ended : (guest : ℕ) → connect_step line ≡ step.Port guest → (has_line line ≡ true) × (after_line line ≡ [])

module _ (carry : Carried) (first : ℕ) where
  abbrev pub At : List Handshake → ℕ → DeviceState → Situation → Type 0
  At hands port s c = (ASSIGNED_FIRST ≤ port) × With carry hands first port s c

  abbrev pub Turns : Turning → Situation → Type 0
  Turns t c = (ASSIGNED_FIRST ≤ t.state.next_port) × With carry t.state.handshakes first t.state.next_port t.state.device c

  abbrev pub Goes-on : Turning × Bool → Situation → Type 0
  Goes-on = Goes Turns Turns

  module _ (hands : List Handshake) (port : ℕ) (s : DeviceState) where
    abbrev Streamed : List Handshake → Fact
    Streamed lines = StreamedOver carry lines first port s

    -- A call on the host that changes lines.
    calls : (lines : List Handshake) (failed : Bool) (A : HostContents → Type 0) (f : HostContents → HostContents)
        → ((h : HostContents) (log : Log) → A h → IsStreamed h log (ports_of carry.since port s) s.table hands → IsStreamed (f h) log (ports_of carry.since port s) s.table lines)
        → (c d : Situation) → HostMoves failed A f c d → At hands port s c → At lines port s d
    calls lines failed A f step c d made holds = (
      holds.0,
      fact_called carry first port s (Streamed hands) (Streamed lines) failed A f (λ o n l exposes p.
          streams_call carry first hands lines port port s s l.entries l.entries (λ few. few) A f
          (λ h answers few x. step h l.entries answers x) o n exposes) c d made holds.1,
    )

    -- One that leaves them.
    leaves : (failed : Bool) (A : HostContents → Type 0) (c d : Situation) → HostMoves failed A called c d → At hands port s c
        → At hands port s d
    leaves failed A c d made holds =
        calls hands failed A called (λ h log is x. called_host h log (ports_of carry.since port s) s.table hands x) c d made holds

    -- A handshake ends, and its stream is closed.
    drops : (h : Handshake) (c : Situation) → IsOn h hands → At hands port s c
        → asking.asks (CloseStream h.stream) c (λ a d. At (without_stream h.stream hands) port s d)
    drops h c on holds = (
      tt,
      λ a d made. calls (without_stream h.stream hands) false (λ g. Unit {0}) (after_close h.stream) (λ g log any y.
          dropped_host g log (ports_of carry.since port s) s.table hands h.stream h y (hand_of (look g) h.stream hands h y.streams.lines on)) c d made holds,
    )

    -- A client is accepted.
    accepted_by : (a : Accepted) (c d : Situation) → Allows Accept a c d → At hands port s c → AfterAccept asking At hands port s a d
    accepted_by (accepted.Stream stream) c d made holds =
        calls (hands ++ record { stream = stream; accepted_at = s.now; line = [] } ∷ []) false (λ h. accepted.Stream stream ≡ accept_answer h)
        (after_accept (accepted.Stream stream)) (λ h log is x. accepted_host stream s.now h log (ports_of carry.since port s) s.table hands (sym is) x) c d made holds
    accepted_by accepted.None c d made holds = leaves false (λ h. accepted.None ≡ accept_answer h) c d made holds
    accepted_by accepted.Failed c d made holds =
        let kept = leaves true (λ h. accepted.Failed ≡ accept_answer h) c d made holds in (kept.0, faulted carry hands first port s d kept.1)

    -- A byte of a line.
    module _ (stream : ℕ) (line : List ℕ) where
      abbrev rest : List Handshake
      rest = without_stream stream hands

      abbrev LineOn : Fact
      LineOn o log = carry.ok → carry.plain first log → ForSome o (IsLineOn hands (ports_of carry.since port s) s.table stream line log)

      module _ (c : Situation) (above : ASSIGNED_FIRST ≤ port) (holds : IsHeldBy carry LineOn first port s c) where
        line_goes : connect_step line ≡ step.More → At hands port s c
        line_goes is = (
          above,
          fact_goes carry first port s LineOn (Streamed hands) (λ o l p x good plain.
              some_from o (IsLineOn hands (ports_of carry.since port s) s.table stream line l.entries) (λ h. IsStreamed h l.entries (ports_of carry.since port s) s.table hands)
              (λ h y. y.more is) (x good plain)) c holds,
        )

        line_ends_it : asking.asks (CloseStream stream) c (λ a d. At rest port s d)
        line_ends_it = (
          tt,
          λ a d made. (
            above,
            fact_called carry first port s LineOn (Streamed rest) false (λ h. Unit {0}) (after_close stream) (λ o n l exposes p x good plain.
                some_after o n (λ h. Unit {0}) (after_close stream) (IsLineOn hands (ports_of carry.since port s) s.table stream line l.entries)
                (λ h. IsStreamed h l.entries (ports_of carry.since port s) s.table rest) exposes (λ h any y. closed_over stream h l.entries (ports_of carry.since port s) s.table rest y.over y.left
                (λ k there. ap (λ (u : Seen). u.label) (sym (some_seen (reading line) k (sym y.here ∙ there)))) y.away) (x good plain)) c d made holds,
          ),
        )

        -- The next flow is taken.
        taken : (guest : ℕ) (flow : Flow) → connect_step line ≡ step.Port guest → next_flow guest port s ≡ Some flow → (l : EndLog)
            → AgreesBy carry first port s l → IsTaken carry port s flow
        taken guest flow decided given l p = next_taken carry first port s guest flow l p above (port_fits line guest decided) given

        refused : (guest : ℕ) (flow : Flow) (fault : TableFault) → connect_step line ≡ step.Port guest → next_flow guest port s ≡ Some flow
            → refusal s.table flow ≡ Some fault → At rest (next_after port) s c
        refused guest flow fault decided given full = (
          above_then port above,
          (
            holds.0,
            tells_weaker carry.fairly (IsToldBy carry LineOn first port s) (IsToldBy carry (StreamedOver carry rest first (next_after port) s) first (next_after port) s)
                (λ hon o l was. (
                  was.0,
                  λ honest. let none = (taken guest flow decided given l (was.1 honest).0).none in
                      let no : None ≡ Some fault = sym none ∙ full in absurd cc,
                )) c holds.1,
          ),
        )

        opens : (guest : ℕ) (flow : Flow) → connect_step line ≡ step.Port guest → next_flow guest port s ≡ Some flow → refusal s.table flow ≡ None
            → asking.asks (Label stream flow) c (λ a d. At rest (next_after port) (with_client flow stream s) d)
        opens guest flow decided given none =
            let asks = label_keeps carry rest first port flow stream s (next_after port) (λ l p. (taken guest flow decided given l p).gives) LineOn
            (λ o n l p exposes x good plain.
            let t = taken guest flow decided given l p in
            some_after o n (λ h. Unit {0}) (after_label stream flow)
            (IsLineOn hands (ports_of carry.since port s) s.table stream line l.entries)
            (λ h. IsStreamed h l.entries (ports_of carry.since (next_after port) (with_client flow stream s)) (with_client flow stream s).table rest) exposes
            (λ h any y. subst (λ (n : ℕ). IsStreamed (after_label stream flow h) l.entries (ports_of carry.since n (with_client flow stream s)) (with_client flow stream s).table rest)
            t.gives.port_is
            (label_over h l.entries (ports_of carry.since port s) s.table rest y.over stream flow line y.here y.away (y.ended guest decided).0
            (y.ended guest decided).1 t.inside p.fits.sound (accepted s.table flow none).absent t.gives.next.port p.matches.flows.once y.left)) (x good plain)) c none holds in (
              asks.0,
              λ a d made. (above_then port above, asks.1 a d made),
            )

  module _ (h : Handshake) (hands : List Handshake) (port : ℕ) (s : DeviceState) (on : IsOn h hands) (c d : Situation)
      (holds : At hands port s c) where
    came : (n : ℕ) (bytes : List ℕ) (g : HostContents) (log : Log) → IsReadOf h.stream 1 (read.Got n, bytes) g
        → IsStreamed g log (ports_of carry.since port s) s.table hands
        → IsLineOn (with_line h.stream (h.line ++ bytes) hands) (ports_of carry.since port s) s.table h.stream (h.line ++ bytes) log (after_read h.stream (read.Got n) g)
    came n bytes g log answers x =
        let hand = hand_of (look g) h.stream hands h x.streams.lines on in
        let same : without_stream h.stream (with_line h.stream (h.line ++ bytes) hands) ≡ without_stream h.stream hands =
        without_after h.stream (h.line ++ bytes) hands in
        record {
          over = subst (λ (lines : List Handshake). IsStreamed (after_read h.stream (read.Got n) g) log (unfresh (ports_of carry.since port s)) s.table lines) (sym same)
              (line_over g log (ports_of carry.since port s) s.table hands x h.stream n h hand bytes answers.1);
          left = λ fresh. subst (λ (lines : List Handshake). AreShakenBut h.stream (look (after_read h.stream (read.Got n) g)) lines) (sym same)
              (line_left g log (ports_of carry.since port s) s.table hands x h.stream n h hand bytes answers.1 fresh);
          here = line_now g log (ports_of carry.since port s) s.table hands x h.stream n h hand bytes answers.1;
          away = subst (λ (lines : List Handshake). All (λ (g : Handshake). g.stream ≢ h.stream) lines) (sym same)
              (without_none h.stream hands x.streams.lines.apart);
          more = λ more. line_more g log (ports_of carry.since port s) s.table hands x h.stream n h hand bytes answers.1 (goes_on (h.line ++ bytes) more);
          ended = λ guest decided.
              let one = one_byte h.stream n g (sym answers.0) in
              let with_byte : h.line ++ bytes ≡ h.line ++ one.0 ∷ [] = ap (λ (b : List ℕ). h.line ++ b) (answers.1 ∙ one.1) in
              let last : one.0 ≡ 10 = ends_by h.line one.0 guest hand.undecided (ap connect_step (sym with_byte) ∙ decided) in
              let whole : h.line ++ bytes ≡ h.line ++ 10 ∷ [] = with_byte ∙ ap (λ (b : ℕ). h.line ++ b ∷ []) last in
              (ap has_line whole ∙ line_whole h.line, ap after_line whole ∙ line_ends h.line (no_line h.line hand.undecided));
        }

    byte_came : (answer : StreamRead) (bytes : List ℕ) → Allows (ReadStream h.stream 1) (answer, bytes) c d
        → AfterByte asking At h hands port s answer bytes d
    byte_came (read.Got n) bytes made =
        let line : List ℕ = h.line ++ bytes in
        let lines : List Handshake = with_line h.stream line hands in
        let now : IsHeldBy carry (LineOn lines port s h.stream line) first port s d =
        fact_called carry first port s (Streamed hands port s hands) (LineOn lines port s h.stream line) false
        (IsReadOf h.stream 1 (read.Got n, bytes)) (after_read h.stream (read.Got n)) (λ o k l exposes p x good plain.
        some_after o k (IsReadOf h.stream 1 (read.Got n, bytes)) (after_read h.stream (read.Got n))
        (λ g. IsStreamed g l.entries (ports_of carry.since port s) s.table hands) (IsLineOn lines (ports_of carry.since port s) s.table h.stream line l.entries) exposes
        (λ g answers y. came n bytes g l.entries answers y) (x good plain)) c d made.0 holds.1 in
        record {
          more = line_goes lines port s h.stream line d holds.0 now;
          ends = line_ends_it lines port s h.stream line d holds.0 now;
          refused = refused lines port s h.stream line d holds.0 now;
          opens = opens lines port s h.stream line d holds.0 now;
        }
    byte_came read.Again bytes made = leaves hands port s false (IsReadOf h.stream 1 (read.Again, bytes)) c d made.0 holds
    byte_came read.End bytes made = leaves hands port s false (IsReadOf h.stream 1 (read.End, bytes)) c d made.0 holds
    byte_came read.Failed bytes made =
        let kept = leaves hands port s true (IsReadOf h.stream 1 (read.Failed, bytes)) c d made.0 holds in (kept.0, faulted carry hands first port s d kept.1)

  pub shaking : Shakes asking At
  shaking = record {
    drops = λ h hands port s c on holds. drops hands port s h c on holds;
    accepts = λ hands port s c holds. (tt, λ a d made. accepted_by hands port s a c d made holds);
    reads = λ h hands port s c on holds. (tt, λ a d made. byte_came h hands port s on c d holds a.0 a.1 made);
  }

  pub ticks : (stream : ℕ) (t : Turning) (c : Situation) → Turns t c → Keeps Turns (tick_handshake stream t) c
  ticks = keeps_tick_handshake asking At shaking

  pub accepts : (t : Turning) (c : Situation) → Turns t c → Keeps Turns (accept_one t) c
  accepts = keeps_accept_one asking At shaking

  pub reads_byte : (stream : ℕ) (t : Turning) (c : Situation) → Turns t c → Keeps Goes-on (read_byte stream t) c
  reads_byte stream t c holds =
      keeps_weaker (λ (x : Turning × Bool) d. Turns x.0 d) Goes-on by (read_byte stream t) c
      (keeps_read_byte asking At shaking stream t c holds)
    where
      by : (x : Turning × Bool) (d : Situation) → Turns x.0 d → Goes-on x d
      by (u, true) d kept = kept
      by (u, false) d kept = kept
