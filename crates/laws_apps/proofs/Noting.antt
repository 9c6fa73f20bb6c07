-- Which calls a journal needs: those that sent or received no byte may come and go.
use Rattle.std.proofs.Common.{arith}
use Rattle.std.proofs.lemmas.Grind.{common_steps}
use Rattle.std.proofs.{Common.{◌≡◌, ℕ, cond, List, [], ◌∷◌, ◌++◌, refl, sym, ap, subst, ◌∙◌, append-nil}, Math.Path.fun_ext}
use Rattle.vs_flow.specs.Connection.{Connection}
use Rattle.vs_ring_port.specs.Contents.{RingContents}
use Rattle.vs_driver_parts.specs.{declared.answers.{Received.Received, Sent.Sent}, Connections.{recv_of, unread_of_id}, Playing.Plays, State.DriverState}
use Rattle.laws_driver.specs.{Honest.slots_of, Carried.Calls.{GuestCall, Journal, Made, ReplyTo, Recv, Send, bytes_received, bytes_sent, names, received_by, whole_call, with_call}}
use Rattle.laws_driver.{specs.Carried.{Received.{AreReceived, bytes_got}, Senders.{AreSenders, sent_to}}, proofs.Carried.{Reading.given_none, Senders.there_none}}
use Rattle.vs_apps_parts.specs.{Journals.made_as, Scripts.with_noted, declared.journal.{Entry.Entry}}
use Rattle.laws_apps.specs.Accounts.{IsAccounted}
use Rattle.vs_driver_parts.specs.declared.answers.Received.TheVariants as recv
use Rattle.vs_driver_parts.specs.declared.answers.Sent.TheVariants as send

-- Two journals say the same.
pub record SaysSame (j k : Journal) : Type 0 where
  pub received : (id : ℕ) → received_by id j ≡ received_by id k
  pub sent : (opened : ℕ → Connection) (c : Connection) → sent_to opened c j ≡ sent_to opened c k
  pub senders : (opened : ℕ → Connection) → AreSenders opened j → AreSenders opened k

pub then_same : (a b c : Journal) → SaysSame a b → SaysSame b c → SaysSame a c
then_same a b c one two = grind (arith, common_steps)

pub same_accounted : (first_id : ℕ) (j k : Journal) (entries : List Entry) (s : DriverState) (c : RingContents) → SaysSame j k
    → IsAccounted first_id j entries s c → IsAccounted first_id k entries s c
same_accounted first_id j k entries s c same accounted = λ on l is.
    let was = accounted on l is in (
      was.0,
      record {
        right = record {
          received = subst (λ (r : ℕ → List ℕ). AreReceived (record { first_id = first_id; opened = was.0; received = r }) l.entries (slots_of s))
              (fun_ext same.received) was.1.right.received;
          sent = record { senders = same.senders was.0 was.1.right.sent.senders; puts = λ x. was.1.right.sent.puts x ∙ same.sent was.0 x };
        };
        flows = was.1.flows;
      },
    )

-- A call without bytes.
module _ (m : Made) (j : Journal) (none_sent : bytes_sent m.call m.reply ≡ []) (none_received : bytes_received m.call m.reply ≡ []) where
  received_same : (id : ℕ) → received_by id (m ∷ j) ≡ received_by id j
  received_same id =
      ap (λ (ys : List ℕ). received_by id j ++ cond (names id m.id) ys []) none_received ∙ sym (given_none (names id m.id) (received_by id j))

  sent_same : (opened : ℕ → Connection) (c : Connection) → sent_to opened c (m ∷ j) ≡ sent_to opened c j
  sent_same opened c =
      ap (λ (ys : List ℕ). sent_to opened c j ++ ys) (there_none opened c m.id (bytes_sent m.call m.reply) none_sent) ∙ append-nil (sent_to opened c j)

  pub silent_goes : SaysSame (m ∷ j) j
  silent_goes = record { received = received_same; sent = sent_same; senders = λ opened are. are.1 }

  pub silent_comes : SaysSame j (m ∷ j)
  silent_comes = grind (arith, common_steps)

-- A call is noted, unless it told to wait.
module _ (s : DriverState) (j : Journal) where
  abbrev Noted : (call : GuestCall) → ReplyTo call → Type 0
  Noted call reply = SaysSame (with_call call s reply j) (with_noted (made_as call reply ∷ []) j)

  silent : (call : GuestCall) (reply : ReplyTo call) → bytes_sent call reply ≡ [] → bytes_received call reply ≡ [] → Noted call reply
  silent call reply none_sent none_received = grind (arith, common_steps, then_same, silent_goes, silent_comes)

  send_noted : (id : ℕ) (bytes : List ℕ) (reply : Sent) → Noted (Send id bytes) reply
  send_noted id bytes (send.Took n) = record { received = λ other. refl; sent = λ opened c. refl; senders = λ opened are. are }
  send_noted id bytes reply = silent (Send id bytes) reply refl refl

  recv_noted : (id n : ℕ) (r : Received) (unread : List ℕ) → Noted (Recv id n) (r, bytes_got r unread)
  recv_noted id n (recv.Got k) unread = record { received = λ other. refl; sent = λ opened c. refl; senders = λ opened are. are }
  recv_noted id n r unread = silent (Recv id n) (r, []) refl refl

  pub call_noted : (call : GuestCall) (c d : RingContents) (x : DriverState × ReplyTo call) → Plays (whole_call call s) c x d → Noted call x.1
  call_noted (Send id bytes) c d x plays = send_noted id bytes x.1
  call_noted (Recv id n) c d x plays =
      subst (λ (y : DriverState × (Received × List ℕ)). Noted (Recv id n) y.1) plays.0 (recv_noted id n (recv_of id n s) (unread_of_id id s))
  call_noted call c d x plays = silent call x.1 refl refl
