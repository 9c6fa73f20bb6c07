-- What a walk over the driver's conversations carries besides: a fact of the driver, apart from pages of its own in flight, and of its log,
-- with the packets that are staged.
use Rattle.std.proofs.{Common.{◌≡◌, ℕ, ◌<◌, ◌^◌, List, [], ◌∷◌, ◌++◌, Option, Some, None, refl, sym, subst, Bool, true, false, arith}, lemmas.Grind.common_steps}
use Rattle.vs_conn.specs.{End.owes_of, declared.end.Owed.Owed}
use Rattle.laws_history.specs.declared.packet.Packet.{Packet}
use Rattle.vs_page.specs.{declared.log.LogEntry.TheVariants.{GotEvent, GotPacket, Mark, PutPacket}, Fair.IsFairLog, Held.IsWhole, Log.{Driver, Log}}
use Rattle.vs_replies.specs.declared.Reply.{Reply}
use Rattle.vs_ring_port.specs.{EndLog.{EndLog, all_put, log_published, log_reaped, log_staged}, declared.queue.Queue.{Queue, TheVariants.Tx}}
use Rattle.laws_tables.specs.{Ends.Ends, Matches.Matches, Steps.{owed_on, reply_on}}
use Rattle.vs_driver_parts.specs.{Receiving.{after_reset, on_packet}, Conversations.after_paying, Playing.FitsPorts, State.{DriverEntry, DriverState}}
use Rattle.laws_driver.{proofs.{Ringing.{Given, Puts, RestsAs, TiedAs, put_last, stages}, Tabling.Stands}, specs.{Honest.{IsFitState, ends_of_state}, Staged.IsLeft}}

abbrev pub Fact : Type 1
Fact = Ends → DriverState → Log → Type 0

abbrev pub Holds : Fact → DriverState → Log → Type 0
Holds fact s log = fact (ends_of_state s) (record s { in_flight = 0; staged = 0 }) log

-- Nothing is carried.
abbrev pub nothing : Fact
nothing part s log = Unit {0}

-- It holds of the driver and its log, where no packet is staged, and where some may be.
abbrev pub RestsWith : Bool → Bool → ℕ → Fact → DriverState → EndLog → Type 0
RestsWith fairly hosts first fact s l = RestsAs fairly hosts first s l × Holds fact s l.entries

abbrev pub IsTiedBy : Bool → Bool → ℕ → Fact → DriverState → EndLog → Type 0
IsTiedBy fairly hosts first fact s l = TiedAs fairly hosts first s l × Holds fact s (all_put l.staged.tx l.entries)

-- A step that puts a packet carries one fact to another.
pub record PutsWith (fairly hosts : Bool) (first : ℕ) (before after : Fact) (p : Packet) (s : DriverState) (page : List ℕ) (t : DriverState) : Type 0 where
  pub puts : Puts hosts p s page t
  pub carries : (log : Log) → Given fairly (Matches Driver first (ends_of_state s) log) → Given fairly (IsFairLog Driver log)
      → Given fairly (IsFairLog Driver (PutPacket p ∷ log)) → Holds before s log → Holds after t (PutPacket p ∷ log)

module _ (fairly hosts : Bool) (first : ℕ) (fact : Fact) where
  pub rest_tied : (s : DriverState) (l : EndLog) → RestsWith fairly hosts first fact s l → IsTiedBy fairly hosts first fact s l
  rest_tied s l rest =
      let P : List (List ℕ) → Type 0 = λ pages.
      (IsFitState hosts s × Given fairly (IsLeft hosts first s.broken (ends_of_state s) pages l.entries)) × Holds fact s (all_put pages l.entries) in
      subst P (sym rest.0.2) ((rest.0.0, rest.0.1), rest.1)

  pub published_other : (queue : Queue) → (queue ≡ Tx → ⊥) → (s : DriverState) (l : EndLog) → RestsWith fairly hosts first fact s l
      → RestsWith fairly hosts first fact s (log_published queue l)
  published_other Tx other s l rest = absurd (other refl)
  published_other x other s l rest = rest

  pub staged_other : (queue : Queue) (page : List ℕ) → (queue ≡ Tx → ⊥) → (s : DriverState) (l : EndLog) → RestsWith fairly hosts first fact s l
      → RestsWith fairly hosts first fact s (log_staged queue page l)
  staged_other Tx page other s l rest = absurd (other refl)
  staged_other x page other s l rest = rest

  pub reaped_same : (s : DriverState) (page : Option (List ℕ)) (l : EndLog) → RestsWith fairly hosts first fact s l
      → RestsWith fairly hosts first fact s (log_reaped Tx page l)
  reaped_same s None l rest = rest
  reaped_same s (Some page) l rest = rest

-- A packet is staged.
pub staged_with : (fairly hosts : Bool) (first : ℕ) (before after : Fact) (p : Packet) (s t : DriverState) (page : List ℕ) (l : EndLog)
    → PutsWith fairly hosts first before after p s page t → IsTiedBy fairly hosts first before s l → IsTiedBy fairly hosts first after t (log_staged Tx page l)
staged_with fairly hosts first before after p s t page l step tie =
    (stages hosts first p s t page l step.puts fairly tie.0, subst (λ (log : Log). Holds after t log) (sym last) (by fairly step tie))
  where
    last : all_put (l.staged.tx ++ page ∷ []) l.entries ≡ PutPacket p ∷ all_put l.staged.tx l.entries
    last = put_last l.staged.tx page p l.entries step.puts.held

    by : (b : Bool) → PutsWith b hosts first before after p s page t → IsTiedBy b hosts first before s l
        → Holds after t (PutPacket p ∷ all_put l.staged.tx l.entries)
    by true one tie =
        let now = stages hosts first p s t page l one.puts true tie.0 in
        let fair = subst (λ (log : Log). IsFairLog Driver log) last now.1.fair in
        one.carries (all_put l.staged.tx l.entries) tie.0.1.matches tie.0.1.fair fair tie.1
    by false one tie = one.carries (all_put l.staged.tx l.entries) tt tt tt tie.1

-- A poll's steps carry it: what a connection owes is put, and the oldest reply; a packet and an event are got; a transport reset is taken.
pub record Carries (fairly hosts : Bool) (first : ℕ) (fact : Fact) : Type 0 where
  pub owed : (what : Owed) (e : DriverEntry) (s : DriverState) (log : Log) → let p = owed_on Driver s.cid e.flow e.value.end what in
      IsFitState hosts s → Stands s e → owes_of e.value.end ≡ Some what → Given fairly (Matches Driver first (ends_of_state s) log)
      → Given fairly (IsFairLog Driver log) → Given fairly (IsFairLog Driver (PutPacket p ∷ log)) → Holds fact s log → Holds fact (after_paying what e s) (PutPacket p ∷ log)
  pub reply : (r : Reply) (rest : List Reply) (s : DriverState) (log : Log) → let p = reply_on Driver s.cid r in
      IsFitState hosts s → s.replies ≡ r ∷ rest → Given fairly (Matches Driver first (ends_of_state s) log)
      → Given fairly (IsFairLog Driver (PutPacket p ∷ log)) → Holds fact s log
      → Holds fact (record s { replies = rest }) (PutPacket p ∷ log)
  pub got : (p : Packet) (s : DriverState) (log : Log) → IsFitState hosts s → FitsPorts p.header → IsWhole p
      → Given fairly (Matches Driver first (ends_of_state s) log) → Given fairly (IsFairLog Driver log) → Given fairly (IsFairLog Driver (GotPacket p ∷ log))
      → Holds fact s log
      → Holds fact (on_packet p s) (GotPacket p ∷ log)
  pub event : (id : ℕ) (s : DriverState) (log : Log) → Holds fact s log → Holds fact s (GotEvent id ∷ log)
  pub reset : (cid : ℕ) (s : DriverState) (log : Log) → cid < 2 ^ 64 → IsFitState hosts s → Holds fact s log
      → Holds fact (after_reset cid s) (Mark cid ∷ log)

pub carries_nothing : (fairly hosts : Bool) (first : ℕ) → Carries fairly hosts first nothing
carries_nothing fairly hosts first = grind (arith, common_steps)
