-- What was sent on each connection, by the ids that calls named.
use Rattle.laws_tables.{specs.Drains.only_on, proofs.Slots.found_by}
use Rattle.std.proofs.{Common.{◌≡◌, inl, inr, ℕ, ◌≤◌, List, [], ◌∷◌, ◌++◌, Option, Some, None, refl, sym, ap, subst, ◌∙◌, arith}, lemmas.Grind.common_steps}
use Rattle.std.proofs.lemmas.{Bool.Decides.nat_tests, List.Elements.All-contains}
use Rattle.vs_contents.specs.CallTree.{Done}
use Rattle.vs_flow.{specs.Connection.Connection, proofs.Entries.found_passes}
use Rattle.vs_page.specs.{Fair.{current, payload_put}, Log.{Driver, Log}}
use Rattle.vs_ring_port.specs.Contents.{RingContents}
use Rattle.vs_driver_parts.specs.{declared.answers.Sent.Sent, Conversations.{DriverTree, not_sent, send_on}, Playing.Plays, Steps.sends_on, State.{DriverEntry, DriverState}}
use Rattle.vs_driver_parts.specs.State.{entry_known_as, is_known_as}
use Rattle.laws_driver.specs.{Honest.slots_of, Carried.Calls.{GuestCall, Journal, ReplyTo, Send, bytes_sent, id_named, makes_call, sent_of, whole_call, with_call}}
use Rattle.laws_driver.specs.Carried.{Received.{Account, AreReceived, ReceivesOn}, Sent.took, Senders.{AreSenders, IsSender, IsSent, sent_there, sent_to}}

pub only_none : (at c : Connection) (bytes : List ℕ) → bytes ≡ [] → only_on at bytes c ≡ []
only_none at c bytes none = grind (arith, common_steps)

pub there_none : (opened : ℕ → Connection) (c : Connection) (named : Option ℕ) (bytes : List ℕ) → bytes ≡ [] → sent_there opened c named bytes ≡ []
there_none opened c None bytes none = refl
there_none opened c (Some id) bytes none = only_none (opened id) c bytes none

-- What a call puts is what the journal says that it sent, on an id that has a connection.
abbrev pub Says : DriverState → Log → (ℕ → Connection) → (call : GuestCall) → ReplyTo call → Type 0
Says s log now call reply = IsSender now (id_named call s) (bytes_sent call reply)
    × ((k : Connection) → sent_of call reply s log k ≡ sent_there now k (id_named call s) (bytes_sent call reply))

-- Other connections, where those that ids had stay.
module _ (a b : ℕ → Connection) (stay : (id : ℕ) → 1 ≤ (a id).number → b id ≡ a id) where
  same_there : (c : Connection) (named : Option ℕ) (bytes : List ℕ) → IsSender a named bytes → sent_there a c named bytes ≡ sent_there b c named bytes
  same_there c named bytes h = grind (arith, common_steps)

  still_sender : (named : Option ℕ) (bytes : List ℕ) → IsSender a named bytes → IsSender b named bytes
  still_sender named bytes h = grind (arith, common_steps)

  still_senders : (journal : Journal) → AreSenders a journal → AreSenders b journal
  still_senders [] are = tt
  still_senders (m ∷ older) are = (still_sender m.id (bytes_sent m.call m.reply) are.0, still_senders older are.1)

  same_sent : (c : Connection) (journal : Journal) → AreSenders a journal → sent_to a c journal ≡ sent_to b c journal
  same_sent c [] are = refl
  same_sent c (m ∷ older) are =
      let bytes = bytes_sent m.call m.reply in
      ap (λ (xs : List ℕ). xs ++ sent_there a c m.id bytes) (same_sent c older are.1)
      ∙ ap (λ (xs : List ℕ). sent_to b c older ++ xs) (same_there c m.id bytes are.0)

  -- What a journal says was sent, where no payload is put, and where a call puts some.
  pub still_sent : (journal : Journal) (old new : Log) → ((k : Connection) → payload_put Driver k new ≡ payload_put Driver k old) → IsSent a journal old
      → IsSent b journal new
  still_sent journal old new same was = record {
    senders = still_senders journal was.senders;
    puts = λ k. same k ∙ was.puts k ∙ same_sent k journal was.senders;
  }

  pub sent_more : (journal : Journal) (call : GuestCall) (s : DriverState) (reply : ReplyTo call) (old new : Log)
      → ((k : Connection) → payload_put Driver k new ≡ payload_put Driver k old ++ sent_of call reply s old k) → Says s old b call reply
      → IsSent a journal old → IsSent b (with_call call s reply journal) new
  sent_more journal call s reply old new more says was = record {
    senders = (says.0, still_senders journal was.senders);
    puts = λ k. more k
        ∙ ap (λ (xs : List ℕ). xs ++ sent_of call reply s old k) (was.puts k ∙ same_sent k journal was.senders)
        ∙ ap (λ (xs : List ℕ). sent_to b k journal ++ xs) (says.1 k);
  }

module _ (s : DriverState) (c d : RingContents) (a : Account) (log : Log) (account : AreReceived a log (slots_of s))
    (now : ℕ → Connection) (stay : (id : ℕ) → 1 ≤ (a.opened id).number → now id ≡ a.opened id) where
  unknown_none : (bytes : List ℕ) (id : ℕ) → took bytes (not_sent id s) ≡ []
  unknown_none bytes id = grind (arith, common_steps)

  abbrev put_by : Option DriverEntry → List ℕ → Connection → List ℕ
  put_by o bytes k = elim o as (λ _. List ℕ) [ None ↦ [] | Some e ↦ only_on (current Driver e.flow log) bytes k ]

  send_says : (id : ℕ) (bytes : List ℕ) (sends : DriverEntry → DriverTree (DriverState × Sent)) (x : DriverState × Sent) (o : Option DriverEntry)
      → entry_known_as id s ≡ o
      → Plays (elim o as (λ _. DriverTree (DriverState × Sent)) [ None ↦ Done (s, not_sent id s) | Some e ↦ sends e ]) c x d
      → IsSender now (Some id) (took bytes x.1) × ((k : Connection) → put_by o (took bytes x.1) k ≡ only_on (now id) (took bytes x.1) k)
  send_says id bytes sends x None known plays =
      let none : took bytes x.1 ≡ [] = ap (λ (y : DriverState × Sent). took bytes y.1) (sym plays.0) ∙ unknown_none bytes id in
      (inl none, λ k. sym (only_none (now id) k (took bytes x.1) none))
  send_says id bytes sends x (Some e) known plays =
      let there = (found_by (is_known_as id) s.table.entries e known).0 in
      let on = All-contains (ReceivesOn a log) s.table.entries e account.held there in
      let named : e.value.id ≡ id = id_is in
      let is : a.opened id ≡ current Driver e.flow log = ap a.opened (sym named) ∙ on.present in
      let some : 1 ≤ (a.opened id).number = subst (λ (k : Connection). 1 ≤ k.number) (sym is) on.some in
      let same : now id ≡ current Driver e.flow log = stay id some ∙ is in
      (inr (subst (λ (k : Connection). 1 ≤ k.number) (sym same) on.some), λ k. ap (λ (at : Connection). only_on at (took bytes x.1) k) (sym same))
    where
      id_is : e.value.id ≡ id
      id_is = let passes = found_passes (is_known_as id) s.table.entries e known in grind (arith, nat_tests, passes)

  pub call_says : (call : GuestCall) (x : DriverState × ReplyTo call) → Plays (whole_call call s) c x d → Says s log now call x.1
  call_says (Send id bytes) x plays = send_says id bytes (λ e. send_on e bytes s) x (entry_known_as id s) refl plays
  call_says call x plays = (inl refl, λ k. sym (there_none now k (id_named call s) [] refl))

  pub step_says : (call : GuestCall) (x : DriverState × ReplyTo call) → Plays (makes_call call s) c x d → Says s log now call x.1
  step_says (Send id bytes) x plays = send_says id bytes (λ e. sends_on e bytes s) x (entry_known_as id s) refl plays
  step_says call x plays = (inl refl, λ k. sym (there_none now k (id_named call s) [] refl))
