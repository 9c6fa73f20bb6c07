-- Where the driver's packets go, carried along its calls.
use Rattle.std.proofs.{Common.{◌≡◌, ◌==◌, ◌≤◌, ◌<◌, ◌^◌, ℕ, Bool, true, false, List, [], ◌∷◌, Result, refl, ap, ◌∙◌, arith}, lemmas.Grind.common_steps}
use Rattle.std.{proofs.lemmas.List.Elements.{All-head, All-tail}, specs.List.All}
use Rattle.vs_header.specs.{Kind.kind_number, declared.{Header.Header, Kind.{Kind, TheVariants.Stream}}}
use Rattle.vs_flow.specs.{Flow.same_flow, declared.flow.Flow.Flow}
use Rattle.laws_history.specs.{declared.packet.Packet.Packet, History.{History, Side, gots, is_begun, puts}}
use Rattle.vs_limits.specs.declared.TheConstants.{HOST_CID, LAST_PORT}
use Rattle.vs_page.specs.{Log.{Device, Driver, Log, flow_got, flow_put, history_of, packets_got, side_of}, Open.{cid_of, is_dropped}, declared.log.LogEntry.TheVariants.GotPacket}
use Rattle.vs_page.{specs.declared.log.LogEntry.TheVariants.PutPacket, proofs.{Entries.one_put, Flows.same_is}}
use Rattle.vs_ring_port.specs.Contents.{RingContents}
use Rattle.laws_tables.specs.{Heard.is_empty, Steps.{owed_on, reply_on, request_on}}
use Rattle.vs_driver_parts.specs.{Connections.next_flow, Conversations.{DriverTree, connect_of, new_of, poll_of, send_of}, Playing.Plays, State.DriverState}
use Rattle.vs_driver_parts.specs.declared.answers.{ConnectError.ConnectError, Polled.Polled, Sent.Sent}
use Rattle.laws_driver.{specs.Honest.{IsFresh, IsHonestWith}, proofs.{Calls.{CarriesConnect, CarriesSend, connect_keeps, new_keeps, rests_of, send_keeps}, Carrying.Carries}}
use Rattle.laws_driver.proofs.{Carrying.Fact, Keeping.{Keeps, keeps_end}, Polling.poll_keeps, Staging.Rests, Tabling.entry_fits}
use Rattle.vs_driver_parts.proofs.Clean.{given_to, may_connect}
use Rattle.laws_rest.specs.Rest.{AreRouted, IsRoutedLog, IsRoutedWith}

abbrev ComesFromHost : Packet → Type 0
ComesFromHost p = p.header.src_cid ≡ HOST_CID

abbrev Routed : ℕ → Fact
Routed first part slots log = IsRoutedLog first log

-- A packet with the guest's CID that goes to the host.
not_dropped : (c cid : ℕ) (h : Header) → h.src_cid ≡ cid → cid ≡ c → h.dst_cid ≡ HOST_CID → is_dropped Device c h ≡ false
not_dropped c cid h from is to = grind (arith, common_steps)

goes_to_host : (c : ℕ) (h : Header) → is_dropped Device c h ≡ false → h.dst_cid ≡ HOST_CID
goes_to_host c h kept = grind (arith, common_steps)

-- A flow on which anything passed is one with the host.
host_by : (first : ℕ) (f : Flow) (log : Log) → All ComesFromHost (packets_got log) → AreRouted first log
    → is_empty (history_of Driver f log) ≡ false → f.peer ≡ HOST_CID
host_by first f [] from routed some = absurd cc
host_by first f (PutPacket p ∷ log) from routed some = by (same_flow f (flow_put Driver p)) refl (host_by first f log from routed.2)
  where
    by : (b : Bool) → same_flow f (flow_put Driver p) ≡ b → (is_empty (history_of Driver f log) ≡ false → f.peer ≡ HOST_CID)
        → f.peer ≡ HOST_CID
    by true same rest = ap (λ (g : Flow). g.peer) (same_is f (flow_put Driver p) same) ∙ goes_to_host (cid_of first log) p.header routed.0
    by false other rest = rest (rw other at some)
host_by first f (GotPacket p ∷ log) from routed some =
    by (same_flow f (flow_got Driver p)) refl (host_by first f log (All-tail ComesFromHost p (packets_got log) from) routed)
  where
    by : (b : Bool) → same_flow f (flow_got Driver p) ≡ b → (is_empty (history_of Driver f log) ≡ false → f.peer ≡ HOST_CID)
        → f.peer ≡ HOST_CID
    by true same rest = ap (λ (g : Flow). g.peer) (same_is f (flow_got Driver p) same) ∙ All-head ComesFromHost p (packets_got log) from
    by false other rest = rest (rw other at some)
host_by first f (_ ∷ log) from routed some = host_by first f log from routed some

begun_some : (side : Side) (h : History) → is_begun side (puts h) (gots h) ≡ true → is_empty h ≡ false
begun_some side h begun = grind (arith, common_steps)

abbrev is_kind : Kind → Bool
is_kind k = kind_number k == kind_number Stream

-- Of each call.
poll_routes : (first : ℕ) → Carries true true first (Routed first)
poll_routes first = record {
  owed = λ what e s log fits stands owes m was fair routed from.
      let p = owed_on Driver s.cid e.flow e.value.end what in
      (not_dropped (cid_of first log) s.cid p.header refl m.flows.cid ((entry_fits s e fits stands).peer refl), (λ asks. ap is_kind (entry_fits s e fits stands).kind), routed from);
  reply = λ r rest s log fits is m fair routed from.
      let p = reply_on Driver s.cid r in
      let begun = ((((one_put Driver log p).0 fair).1).goes_on refl).begun refl in
      let host = host_by first r.flow log from (routed from) (begun_some (side_of Driver r.flow) (history_of Driver r.flow log) begun) in
      (not_dropped (cid_of first log) s.cid p.header refl m.flows.cid host, (λ asks. absurd cc), routed from);
  got = λ p s log fits ports whole m was fair routed from. routed (All-tail ComesFromHost p (packets_got log) from);
  event = λ id s log routed. routed;
  reset = λ cid s log less fits routed. routed;
}

connect_routes : (first host : ℕ) → CarriesConnect true true first HOST_CID host (Routed first) (λ answer. Routed first)
connect_routes first host = record {
  refused = λ why s log routed. routed;
  opens = λ s log fits free m was fair routed from.
      let p = request_on Driver s.cid (next_flow HOST_CID host s) Stream in
      let host_is = (given_to HOST_CID host s.next_port s.clean (next_flow HOST_CID host s) (may_connect HOST_CID host s free).flow).peer_is in
      (not_dropped (cid_of first log) s.cid p.header refl m.flows.cid host_is, (λ asks. refl), routed from);
}

send_routes : (first id : ℕ) (bytes : List ℕ) → CarriesSend true true first id bytes (Routed first) (λ answer. Routed first)
send_routes first id bytes = grind (arith, common_steps)

module _ (first : ℕ) (s : DriverState) (c d : RingContents) (honest : IsHonestWith true first s c) (routed : IsRoutedWith first c) where
  starts : Rests true true first (Routed first) s c
  starts on l is = ((rests_of true first s c honest on l is).0, routed on l is)

  ends : {X : Type 0} (tree : DriverTree (DriverState × X)) (x : DriverState × X) → Keeps (λ y e. Rests true true first (Routed first) y.0 e) tree c
      → Plays tree c x d
      → IsRoutedWith first d
  ends tree x keeps plays on l is = let kept : Rests true true first (Routed first) x.0 d = keeps_end _ tree c d x keeps plays in (kept on l is).1

  pub connect_routed : (host : ℕ) (x : DriverState × Result ℕ ConnectError) → host < 2 ^ 32 → Plays (connect_of host s) c x d
      → IsRoutedWith first d
  connect_routed host x port =
      ends (connect_of host s) x (connect_keeps true true first HOST_CID host (Routed first) (λ answer. Routed first)
      (connect_routes first host) (omega arith) port (λ hosts. refl) s c starts)

  pub send_routed : (id : ℕ) (bytes : List ℕ) (x : DriverState × Sent) → Plays (send_of id bytes s) c x d → IsRoutedWith first d
  send_routed id bytes x =
      ends (send_of id bytes s) x (send_keeps true true first id bytes (Routed first) (λ answer. Routed first)
      (send_routes first id bytes) s c starts)

  pub poll_routed : (x : DriverState × Polled) → Plays (poll_of s) c x d → IsRoutedWith first d
  poll_routed x = ends (poll_of s) x (poll_keeps true true first (Routed first) (poll_routes first) s c starts)

pub new_routed : (size port id : ℕ) (c d : RingContents) (s : DriverState) → port ≤ LAST_PORT → IsFresh c
    → Plays (new_of size port id) c s d
    → IsRoutedWith s.cid d
new_routed size port id c d s fits fresh plays on l is =
    let fact : Fact = λ part slots log. (first : ℕ) → IsRoutedLog first log in
    let kept : Rests true true s.cid fact s d =
    keeps_end (λ t e. Rests true true t.cid fact t e) (new_of size port id) c d s
    (new_keeps size port id fits true fact (λ cid first from. tt) c fresh) plays in
    (kept on l is).1 s.cid
