-- The payload that the driver's calls put.
use Rattle.std.proofs.{Common.arith, lemmas.Grind.common_steps}
use Rattle.laws_tables.{proofs.Adding.{put_over_got, put_adds}, specs.{Drains.only_on, Steps.payload_on}}
use Rattle.std.proofs.Common.{◌≡◌, ℕ, true, List, [], ◌∷◌, ◌++◌, length, take, Option, Some, None, refl, sym, ap, subst, ◌∙◌}
use Rattle.std.{proofs.Common.append-nil, specs.Prelude.find}
use Rattle.vs_conn.specs.declared.end.Stop.{Stop}
use Rattle.vs_flow.specs.{Connection.Connection, Table.Table}
use Rattle.vs_page.{proofs.PayloadLogs.put_none, specs.{Fair.{IsFairLog, current, payload_put}, Log.{Driver, Log}, declared.log.LogEntry.TheVariants.PutPacket}}
use Rattle.vs_ring_port.specs.{Contents.RingContents, EndLog.EndLog}
use Rattle.vs_driver_parts.specs.{Conversations.{no_credit, not_sent, poll_of, send_of, send_stopped}, State.{DriverEntry, DriverState}}
use Rattle.vs_driver_parts.specs.{State.{entry_known_as, DriverConnection, is_known_as}, declared.answers.{Polled.Polled, Sent.Sent}, Playing.Plays}
use Rattle.laws_driver.{specs.{Honest.IsHonestWith, Carried.Sent.{PutsJust, none_on, sent_by, took}}, proofs.{Carrying.{Carries, Fact, Holds}, Calls.CarriesSend}}
use Rattle.laws_driver.proofs.{Keeping.keeps_end, Polling.poll_keeps, Ringing.at_rest, Staging.Rests, Carried.Growing.honest_stays}
use Rattle.vs_conn.specs.declared.end.Stop.TheVariants as stop
use Rattle.vs_driver_parts.specs.declared.answers.Sent.TheVariants as sent

-- Where a fact holds of the log that a ring tells before a call, it is carried from there.
pub begins : (first : ℕ) (fact : Fact) (s : DriverState) (c : RingContents) (l : EndLog) → c.log ≡ Some l → Holds fact s l.entries
    → IsHonestWith true first s c → Rests true true first fact s c
begins first fact s c l is held honest = λ on m told.
    let same : l ≡ m = some_same (sym is ∙ told) in
    (at_rest true first s m (honest on m told), subst (λ (k : EndLog). Holds fact s k.entries) same held)
  where
    some_same : {A : Type 0} {x y : A} → Some x ≡ Some y → x ≡ y
    some_same e = cc

-- The payload put is what it was.
abbrev pub puts_as : Log → Fact
puts_as log part slots now = (c : Connection) → payload_put Driver c now ≡ payload_put Driver c log

more_none : (log now : Log) (c : Connection) → payload_put Driver c now ≡ payload_put Driver c log → payload_put Driver c now ≡ payload_put Driver c log ++ []
more_none log now c is = is ∙ sym (append-nil (payload_put Driver c log))

pub poll_puts : (first : ℕ) (log : Log) → Carries true true first (puts_as log)
poll_puts first log = record {
  owed = λ what e s now fits stands owes m was fair held c. put_none Driver now _ c refl ∙ held c;
  reply = λ r rest s now fits is m fair held c. put_none Driver now _ c refl ∙ held c;
  got = λ p s now fits ports whole m was fair held c. put_over_got Driver p now c ∙ held c;
  event = λ id s now held. held;
  reset = λ cid s now less fits held. held;
}

-- A call that puts none.
pub poll_sent : (first : ℕ) (s : DriverState) (c d : RingContents) (x : DriverState × Polled) → IsHonestWith true first s c → Plays (poll_of s) c x d
    → PutsJust none_on c d
poll_sent first s c d x honest plays = λ on l is m told k.
    let rests = begins first (puts_as l.entries) s c l is (λ k. refl) honest in
    let kept : Rests true true first (puts_as l.entries) x.0 d =
    keeps_end _ (poll_of s) c d x (poll_keeps true true first _ (poll_puts first l.entries) s c rests) plays in
    more_none l.entries m.entries k ((kept (honest_stays (poll_of s) c d x plays ∙ on) m told).1 k)

-- send.
front_of : (m : ℕ) (xs : List ℕ) → take (length (take m xs)) xs ≡ take m xs
front_of m xs = grind (arith, common_steps)

stop_none : (bytes : List ℕ) (why : Stop) → took bytes (send_stopped why) ≡ []
stop_none bytes stop.NotOpen = refl
stop_none bytes x = refl

module _ (first id : ℕ) (bytes : List ℕ) (s : DriverState) (log : Log) where
  -- Nothing happened so far.
  abbrev pub before : Fact
  before part slots now = (slots.table ≡ s.table) × (now ≡ log)

  -- The payload has grown by what was taken.
  abbrev pub after : Sent → Fact
  after answer part slots now = (c : Connection) → payload_put Driver c now ≡ payload_put Driver c log ++ sent_by id bytes answer s log c

  nothing_sent : (answer : Sent) (now : Log) → took bytes answer ≡ [] → now ≡ log → (c : Connection)
      → payload_put Driver c now ≡ payload_put Driver c log ++ sent_by id bytes answer s log c
  nothing_sent answer now none is c = grind (arith, common_steps)

  unknown_none : (t : DriverState) → took bytes (not_sent id t) ≡ []
  unknown_none t = grind (arith, common_steps)

  -- Payload is put.
  some_sent : (e : DriverEntry) (n : ℕ) (t : DriverState) → let p = payload_on Driver t.cid e.flow e.value.end (take n bytes) in
      entry_known_as id s ≡ Some e → IsFairLog Driver log → IsFairLog Driver (PutPacket p ∷ log) → (c : Connection)
      → payload_put Driver c (PutPacket p ∷ log) ≡ payload_put Driver c log ++ sent_by id bytes (sent.Took (length (take n bytes))) s log c
  some_sent e n t known was fair c =
      put_adds Driver (payload_on Driver t.cid e.flow e.value.end (take n bytes)) log refl was fair c
      ∙ sym (ap (λ (o : Option DriverEntry). payload_put Driver c log
      ++ elim o as (λ _. List ℕ) [ None ↦ [] | Some x ↦ only_on (current Driver x.flow log) (take (length (take n bytes)) bytes) c ]) known
      ∙ ap (λ (xs : List ℕ). payload_put Driver c log ++ only_on (current Driver e.flow log) xs c) (front_of n bytes))

  known_then : (t : DriverState) (e : DriverEntry) → t.table ≡ s.table → entry_known_as id t ≡ Some e → entry_known_as id s ≡ Some e
  known_then t e same known = ap (λ (table : Table DriverConnection). find (is_known_as id) table.entries) (sym same) ∙ known

  pub send_puts : CarriesSend true true first id bytes before after
  send_puts = record {
    stopped = λ why t now held. nothing_sent (send_stopped why) now (stop_none bytes why) held.1;
    unknown = λ t now none held. nothing_sent (not_sent id t) now (unknown_none t) held.1;
    empty = λ t now held. nothing_sent (sent.Took 0) now refl held.1;
    full = λ n t now held. nothing_sent (sent.NoDescriptor n) now refl held.1;
    wants = λ e t now fits stands m held. nothing_sent (no_credit e.value.end) now refl held.1;
    sends = λ e n t now fits stands known can few m was fair held.
        let P : Log → Type 0 = λ k. IsFairLog Driver k → IsFairLog Driver (PutPacket (payload_on Driver t.cid e.flow e.value.end (take n bytes)) ∷ k)
        → (c : Connection) → payload_put Driver c (PutPacket (payload_on Driver t.cid e.flow e.value.end (take n bytes)) ∷ k)
        ≡ payload_put Driver c log ++ sent_by id bytes (sent.Took (length (take n bytes))) s log c in
        subst P (sym held.1) (some_sent e n t (known_then t e held.0 known)) was fair;
  }

-- An end that has decided to send no more takes nothing.
pub shut_sent : (id : ℕ) (bytes : List ℕ) (e : DriverEntry) (s : DriverState) (c d : RingContents) (x : DriverState × Sent)
    → entry_known_as id s ≡ Some e → e.value.end.own.send ≡ true → Plays (send_of id bytes s) c x d → took bytes x.1 ≡ []
shut_sent id bytes e s c d x known shut plays = grind (arith, common_steps)
