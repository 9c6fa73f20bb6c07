-- What send leaves with each answer, read off its conversation.
use Rattle.std.proofs.Common.{◌≡◌, ℕ, zero, suc, ◌+◌, ◌-◌, ◌≤◌, ◌==◌, Bool, true, false, cond, min, List, length, Option, Some, None, Result, Ok, Err, refl, ap, ◌∙◌, arith}
use Rattle.std.proofs.{Common.length-take, lemmas.Bool.Decides.nat_tests}
use Rattle.vs_contents.{specs.CallTree.{Done, Ask, bind, while_up_to}, proofs.Leads.{AllEnds, end_of, ends_bind, ends_weaker}}
use Rattle.vs_conn.specs.{End.{may_send_of, wanting_credit, with_payload_sent}, declared.end.Stop.Stop}
use Rattle.vs_page.specs.declared.page.TheConstants.{PAYLOAD_MAX}
use Rattle.vs_ring_port.specs.{declared.queue.Queue.TheVariants.Tx, Contents.RingContents, DriverCalls.Reap}
use Rattle.vs_driver_parts.specs.Conversations.{DriverTree, has_page, no_credit, not_sent, payload_bytes, payload_of, post_packet, reap_all, reap_one, reaped, send_of, send_on}
use Rattle.vs_driver_parts.specs.{Conversations.{send_stopped, send_with_credit, send_with_page}, State.{DriverEntry, DriverState, entry_known_as}, declared.answers.Sent.Sent}
use Rattle.vs_driver_parts.specs.{Connections.with_end, Playing.{Plays, RingAllows}}
use Rattle.vs_driver.specs.Outcomes.{KeepsAllButPages, Sends, SendsBy, SendsFront, SendsOn, SendsWith, sent_at_most}
use Rattle.vs_driver_parts.specs.declared.answers.Sent.TheVariants as sent

module _ {A : Type 0} (P : A → Type 0) where
  by_last : (n : ℕ) (step : A → DriverTree (A × Bool)) → ((x : A) → P x → AllEnds P (while_up_to n step x)) → (r : A × Bool) → P r.0
      → AllEnds P (elim r.1 [ true ↦ while_up_to n step r.0 | false ↦ Done r.0 ])
  by_last n step rest (y, true) holds = rest y holds
  by_last n step rest (y, false) holds = holds

  ends_while : (step : A → DriverTree (A × Bool)) → ((x : A) → P x → AllEnds (λ r. P r.0) (step x)) → (n : ℕ) (x : A) → P x → AllEnds P (while_up_to n step x)
  ends_while step each zero x holds = holds
  ends_while step each (suc n) x holds =
      let go : A × Bool → DriverTree A = λ r. elim r.1 [ true ↦ while_up_to n step r.0 | false ↦ Done r.0 ] in
      ends_bind P (step x) go
      (ends_weaker (λ (r : A × Bool). P r.0) (λ r. AllEnds P (go r)) (by_last n step (λ y kept. ends_while step each n y kept)) (step x) (each x holds))

module _ (s : DriverState) where
  abbrev Back : DriverState → Type 0
  Back t = KeepsAllButPages s t × (t.in_flight ≤ s.in_flight)

  back_by : (t : DriverState) (page : Option (List ℕ)) → Back t → Back (reaped t page).0
  back_by t None back = back
  back_by t (Some page) back =
      (ap (λ (x : DriverState). let y : DriverState = record x { in_flight = t.in_flight - 1 } in y) back.0, omega (arith, back.1))

  one_back : (b : Bool) (t : DriverState) → Back t → AllEnds (λ r. Back r.0) (let tree : DriverTree (DriverState × Bool) = cond b (Done (t, false)) (Ask (Reap Tx) (λ page. Done (reaped t page))) in tree)
  one_back true t back = back
  one_back false t back = λ page. back_by t page back

  all_back : AllEnds Back (reap_all s)
  all_back = ends_while Back reap_one (λ t back. one_back (t.in_flight == 0) t back) s.in_flight s (refl, omega arith)

-- A page is free, or none.
paged : (b : Bool) (e : DriverEntry) (payload : List ℕ) (n : ℕ) (s t : DriverState) → has_page t ≡ b → length payload ≡ n → Back s t → s.in_flight ≤ s.size
    → AllEnds (λ x. SendsFront e n s x.0 x.1) (let tree : DriverTree (DriverState × Sent) = cond b (bind (post_packet (payload_bytes e payload t) t)
    (λ u. Done (with_end (with_payload_sent e.value.end (length payload)) e u, sent.Took (length payload))))
    (Done (t, sent.NoDescriptor t.in_flight)) in tree)
paged true e payload n s t has long back within = λ a b. (
  long,
  grind (arith, nat_tests, has, ap (λ (x : DriverState). x.size) back.0),
  ap (λ (x : DriverState). let y : DriverState = record (with_end (with_payload_sent e.value.end (length payload)) e x) { in_flight = t.in_flight + 1 } in y) back.0
      ∙ ap (λ (k : ℕ). let y : DriverState = record (with_end (with_payload_sent e.value.end k) e s) { in_flight = t.in_flight + 1 } in y) long,
)
paged false e payload n s t has long back within =
    let size : t.size ≡ s.size = ap (λ (x : DriverState). x.size) back.0 in
    let full : t.in_flight ≡ s.size = grind (arith, nat_tests, has, size, back.1, within) in
    (full, full, back.0)

with_credit : (a b : Bool) (e : DriverEntry) (credit : ℕ) (bytes : List ℕ) (s : DriverState) → s.in_flight ≤ s.size
    → AllEnds (λ x. SendsWith a b e credit bytes s x.0 x.1) (let tree : DriverTree (DriverState × Sent) = cond a (Done (s, sent.Took 0))
    (cond b (Done (with_end (wanting_credit e.value.end) e s, no_credit e.value.end)) (bind (reap_all s) (send_with_page e (payload_of credit bytes)))) in tree)
with_credit true b e credit bytes s within = (refl, refl)
with_credit false true e credit bytes s within = (refl, refl)
with_credit false false e credit bytes s within =
    let n : ℕ = sent_at_most credit bytes in
    let payload : List ℕ = payload_of credit bytes in
    let long : length payload ≡ n = length-take (min credit PAYLOAD_MAX) bytes in
    ends_bind (λ (x : DriverState × Sent). SendsFront e n s x.0 x.1) (reap_all s) (send_with_page e payload)
    (ends_weaker (Back s) (λ t. AllEnds (λ x. SendsFront e n s x.0 x.1) (send_with_page e payload t))
    (λ t back. paged (has_page t) e payload n s t refl long back within) (reap_all s) (all_back s))

on_entry : (r : Result ℕ Stop) (e : DriverEntry) (bytes : List ℕ) (s : DriverState) → s.in_flight ≤ s.size
    → AllEnds (λ x. SendsOn r e bytes s x.0 x.1) (let tree : DriverTree (DriverState × Sent) = elim r [ Err why ↦ Done (s, send_stopped why) | Ok credit ↦ send_with_credit e credit bytes s ] in tree)
on_entry (Err why) e bytes s within = (refl, refl)
on_entry (Ok credit) e bytes s within = with_credit (length bytes == 0) (credit == 0) e credit bytes s within

by_entry : (o : Option DriverEntry) (id : ℕ) (bytes : List ℕ) (s : DriverState) → s.in_flight ≤ s.size
    → AllEnds (λ x. SendsBy o id bytes s x.0 x.1) (let tree : DriverTree (DriverState × Sent) = elim o [ None ↦ Done (s, not_sent id s) | Some e ↦ send_on e bytes s ] in tree)
by_entry None id bytes s within = (refl, refl)
by_entry (Some e) id bytes s within = on_entry (may_send_of e.value.end) e bytes s within

pub sends : (id : ℕ) (bytes : List ℕ) (s : DriverState) → s.in_flight ≤ s.size → (c d : RingContents) (t : DriverState) (answer : Sent)
    → Plays (send_of id bytes s) c (t, answer) d → Sends id bytes s t answer
sends id bytes s within c d t answer =
    end_of (λ x. Sends id bytes s x.0 x.1) RingAllows (send_of id bytes s) c d (t, answer)
    (by_entry (entry_known_as id s) id bytes s within)
