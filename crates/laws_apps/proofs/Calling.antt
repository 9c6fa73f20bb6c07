-- Calls and polls keep the account.
use Rattle.std.proofs.lemmas.Grind.{common_steps}
use Rattle.std.proofs.{Common.{◌≡◌, ◌<◌, ◌^◌, ℕ, nat_lt, true, arith, List, [], ◌∷◌, ◌++◌, Some, refl, sym, subst, ◌∙◌}, lemmas.Bool.Decides.nat_tests}
use Rattle.vs_ring_port.specs.{Contents.RingContents, EndLog.EndLog}
use Rattle.vs_driver_parts.specs.{Conversations.poll_of, Playing.Plays, State.DriverState, declared.answers.Polled.Polled}
use Rattle.laws_driver.specs.{Honest.{IsHonestWith, slots_of}, Carried.{Calls.{GuestCall, Journal, ReplyTo, account_of, is_right, whole_call, with_call}, Senders.IsRightJournal}}
use Rattle.laws_driver.proofs.{Keeping.keeps_end, Ringing.agrees, Staging.Rests, Carried.{Growing.honest_stays, Making.{at_first, call_sent, sent_with, whole_with}}}
use Rattle.laws_driver.proofs.Carried.{Sending.begins, Righting.{call_righted, poll_righted, told_before}}
use Rattle.laws_rest.{specs.Rest.IsRoutedWith, proofs.Routes.{connect_routed, send_routed}}
use Rattle.vs_flow.specs.Connection.{Connection}
use Rattle.vs_apps_parts.specs.{Journals.entry_called, declared.journal.{Called.Called, Entry.Entry}}
use Rattle.laws_apps.{specs.{Accounts.{IsAccounted, TellFlows}, Runs.HasFlow}, proofs.Opening.{called_has, flows_snoc, flows_stay}}
use Rattle.laws_driver.specs.Carried.Calls as call

same_some : {A : Type 0} (x y : A) → Some x ≡ Some y → x ≡ y
same_some x y is = cc

-- What a log says that is told, it says as the ring tells it.
abbrev As : (l : EndLog) (c : RingContents) → (EndLog → Type 0) → Type 0
As l c P = c.honest ≡ true → (m : EndLog) → c.log ≡ Some m → P m

as_told : (P : EndLog → Type 0) (l : EndLog) (c : RingContents) → c.log ≡ Some l → P l → As l c P
as_told P l c told holds = λ on m is. subst P (same_some l m (sym told ∙ is)) holds

module _ (first : ℕ) (call : GuestCall) (s : DriverState) (c d : RingContents) (x : DriverState × ReplyTo call) (right : is_right call ≡ true)
    (honest : IsHonestWith true first s c) (plays : Plays (whole_call call s) c x d) where
  pub call_honest : IsHonestWith true first x.0 d
  call_honest = λ on m is.
      let before = told_before (whole_call call s) c d x plays m is in
      let l : EndLog = before.0 in
      let kept : Rests true true first (sent_with first s l.entries call x.1) x.0 d =
      keeps_end _ (whole_call call s) c d x (whole_with first s c call (at_first first s l.entries) (sent_with first s l.entries call) right
      (call_sent first s l.entries call) (begins first (at_first first s l.entries) s c l before.1 (refl, refl) honest)) plays in
      agrees true first x.0 m (kept on m is).0

  pub call_accounted : (first_id : ℕ) (journal : Journal) (entries : List Entry) → IsAccounted first_id journal entries s c
      → IsAccounted first_id (with_call call s x.1 journal) entries x.0 d
  call_accounted first_id journal entries accounted = λ on m is.
      let before = told_before (whole_call call s) c d x plays m is in
      let l : EndLog = before.0 in
      let on_then : c.honest ≡ true = sym (honest_stays (whole_call call s) c d x plays) ∙ on in
      let was = accounted on_then l before.1 in
      let now = call_righted first call s c d x right honest plays first_id was.0 journal
      (as_told (λ (k : EndLog). IsRightJournal first_id was.0 journal k.entries (slots_of s)) l c before.1 was.1.right) on m is in
      (now.0, record { right = now.2; flows = flows_stay was.0 now.0 now.1 entries was.1.flows })

-- Its packets go where they belong.
port_fits : (port : ℕ) → nat_lt port (2 ^ 32) ≡ true → port < 2 ^ 32
port_fits port is = grind (arith, nat_tests, is)

pub call_routed : (first : ℕ) (call : GuestCall) (s : DriverState) (c d : RingContents) (x : DriverState × ReplyTo call) → is_right call ≡ true
    → IsHonestWith true first s c → IsRoutedWith first c → Plays (whole_call call s) c x d → IsRoutedWith first d
call_routed first (call.Connect port) s c d x right honest routed plays =
    connect_routed first s c d honest routed port x (port_fits port right) plays
call_routed first (call.Send id bytes) s c d x right honest routed plays = send_routed first s c d honest routed id bytes x plays
call_routed first call s c d x right honest routed plays = subst (λ (r : RingContents). IsRoutedWith first r) plays.1 routed

module _ (first first_id : ℕ) (journal : Journal) (entries : List Entry) (s : DriverState) (c d : RingContents) (x : DriverState × Polled)
    (honest : IsHonestWith true first s c) (accounted : IsAccounted first_id journal entries s c) (plays : Plays (poll_of s) c x d) where
  pub poll_accounted : IsAccounted first_id journal entries x.0 d
  poll_accounted = λ on m is.
      let before = told_before (poll_of s) c d x plays m is in
      let l : EndLog = before.0 in
      let on_then : c.honest ≡ true = sym (honest_stays (poll_of s) c d x plays) ∙ on in
      let was = accounted on_then l before.1 in
      let now = poll_righted first first_id was.0 journal s c d x honest
      (as_told (λ (k : EndLog). IsRightJournal first_id was.0 journal k.entries (slots_of s)) l c before.1 was.1.right) plays on m is in
      (now.0, record { right = now.2; flows = flows_stay was.0 now.0 now.1 entries was.1.flows })

-- An entry more that has the flow of its connection.
pub entry_accounted : (first_id k : ℕ) (journal : Journal) (entries : List Entry) (c : Called) (s : DriverState) (ring : RingContents) → HasFlow c s
    → IsAccounted first_id journal entries s ring → IsAccounted first_id journal (entries ++ entry_called k c ∷ []) s ring
entry_accounted first_id k journal entries c s ring has accounted = λ on l is.
    let was = accounted on l is in (
      was.0,
      record {
        right = was.1.right;
        flows = flows_snoc was.0 entries (entry_called k c) was.1.flows
            (called_has (account_of first_id was.0 journal) l.entries s was.1.right.received c has);
      },
    )

-- Other entries that tell no more.
pub told_accounted : (first_id : ℕ) (journal : Journal) (old new : List Entry) (s : DriverState) (ring : RingContents)
    → ((opened : ℕ → Connection) → TellFlows opened old → TellFlows opened new) → IsAccounted first_id journal old s ring
    → IsAccounted first_id journal new s ring
told_accounted first_id journal old new s ring tell accounted = grind (arith, common_steps)
