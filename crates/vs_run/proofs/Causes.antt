-- From what a command did to what each of its clauses says.
use Rattle.std.proofs.Common.{◌≡◌, ◌≢◌, ◌⊎◌, inl, inr, ◌∙◌, ◌<◌, ◌-◌, ◌^◌, arith, ℕ, Bool, cond, true, false, nat_le, List, [], ◌∷◌, length, Option, Some, None, Result, Ok, Err}
use Rattle.std.proofs.{Common.{refl, sym, ap, subst}, lemmas.{Bool.Decides.nat_tests, List.length-take}}
use Rattle.vs_hostile.specs.Answer.{answer_to as hostile_answer, hostile_of, status_of}
use Rattle.vs_outside.specs.Faults.{CountsFault}
use Rattle.vs_peer.specs.{Ends.{EndsAs, Lent}, Pieces.{IsReading, ReadsAll}, Statuses.Says, Text.{no_memory_text, read_fault_text}, declared.source.TheConstants.SOURCE_MAX}
use Rattle.vs_play.specs.Answer.{answer_to as play_answer, play_of}
use Rattle.vs_ring_port.specs.declared.failure.Failure.{Failure}
use Rattle.vs_script.specs.{Field.named, Hostile.Hostile, Play.Event, Script.{Attacks, Plays, Runs, Saying, add_event, add_hostile, add_lines, lines_from, parse_of}}
use Rattle.vs_script.specs.{Script.{unless_refused, IsRefused}, Text.words_of, declared.fault.{Why.{Why, TheVariants.TooLong}, Refused.Refused, ParseFault.ParseFault}}
use Rattle.vs_script.specs.declared.script.Command.{Command}
use Rattle.vs_apps_parts.specs.Scripts.{RunScript}
use Rattle.vs_words.specs.declared.command.Rings.{Rings}
use Rattle.vs_run.specs.{Ends.{EndsAnswer, EndsAnswering, EndsParsed, EndsRefused, EndsScript, EndsWith, NoMemory, Read, SourceFails, refusal_text, usage_text}, Does.Does}
use Rattle.vs_run.{specs.{Does.{IsNoScript, KeepsHost, KeepsSource, is_client, uses_host}, Runs.{EndsOver, EndsRun}}, proofs.Endings.{HasLine, gave_none, has_line_behind}}
use Rattle.vs_run.proofs.{Endings.{not_seven, not_two, one_line}, Ran.{load_two, run_two}}
use Rattle.vs_peer.specs.Statuses as statuses
use Rattle.vs_script.specs.declared.fault.ParseFault.TheVariants as fault
use Rattle.vs_script.specs.declared.script.Command.TheVariants as script_of
use Rattle.vs_words.specs.Command as words

-- a fault shows in a count that can rise
fault_shows : (old new : ℕ) → CountsFault true old new → old < 2 ^ 64 - 1 → new ≡ old → ⊥
fault_shows old new counts few same = grind (arith, nat_tests)

too_long : (c : Command) (text : List ℕ) → nat_le (length text) 1048576 ≡ false → parse_of c text ≡ Err (record { line = 0; why = TooLong })
too_long c text long = rw long refl

-- what was read of a source is refused as what it had left is, or is that
same_script : (c : Command) (left bytes : List ℕ) → IsReading left bytes → parse_of c bytes ≡ parse_of c left
same_script c left bytes (inl e) = ap (parse_of c) e
same_script c left bytes (inr h) =
    let long : nat_le (length bytes) 1048576 ≡ false = grind (arith, nat_tests, h.0) in
    let left_long : nat_le (length left) 1048576 ≡ false = grind (arith, nat_tests, h.0, ap length h.1, length-take (length bytes) left) in
    too_long c bytes long ∙ sym (too_long c left left_long)

module _ (c : Command) (Unread : Type 0) (Parsed : Result Saying Refused → Type 0) (text : List ℕ) (read read' : ℕ)
    (out out' : Option (List ℕ)) (f g r : ℕ) where
  -- of a source that exposed its text, and of which no call failed
  pub told : (source : Option (List ℕ)) → source ≡ Some text → EndsScript c Unread Parsed source read read' out out' f g r → read < 2 ^ 64 - 1
      → read' ≡ read → Parsed (parse_of c text) ⊎ (Unread × EndsAs out out' f g no_memory_text 9 r)
  told source is (Read bytes reads kept h) few same =
      inl (subst Parsed (same_script c text bytes (subst (λ (s : Option (List ℕ)). ReadsAll s bytes) is reads)) h)
  told source is (SourceFails unread counts h) few same = absurd (fault_shows read read' counts few same)
  told source is (NoMemory unread kept h) few same = inr (unread, h)

  -- it is refused, where the status is 2
  pub refused_at_2 : (source : Option (List ℕ)) → source ≡ Some text
      → ((p : Result Saying Refused) → Parsed p → r ≡ 2 → (e : Refused) × (p ≡ Err e))
      → EndsScript c Unread Parsed source read read' out out' f g r → r ≡ 2 → (e : Refused) × (parse_of c text ≡ Err e)
  refused_at_2 source is parsed (Read bytes reads kept h) two =
      let e = parsed (parse_of c bytes) h two in
      (e.0, sym (same_script c text bytes (subst (λ (s : Option (List ℕ)). ReadsAll s bytes) is reads)) ∙ e.1)
  refused_at_2 source is parsed (SourceFails unread counts h) two = absurd (omega (arith, not_two out out' f g _ 3 r h two))
  refused_at_2 source is parsed (NoMemory unread kept h) two = absurd (omega (arith, not_two out out' f g _ 9 r h two))

module _ (c : Command) (lines : Result Saying Refused → List (List ℕ)) (own : Result Saying Refused → ℕ) (text : List ℕ) (read read' : ℕ)
    (out out' : Option (List ℕ)) (f g r : ℕ) where
  -- its answer is written
  parsed_answer : (p : Result Saying Refused) → ((e : Refused) → (lines (Err e) ≡ refusal_text e ∷ []) × (own (Err e) ≡ 2)) → EndsParsed lines own out out' f g r p
      → EndsAnswer out out' f g (lines p) (own p) r
  parsed_answer (Ok saying) refusals h = h
  parsed_answer (Err e) refusals h = rw ((refusals e).0, (refusals e).1) (one_line out out' f g (refusal_text e) 2 r h)

  pub answered : (source : Option (List ℕ)) → source ≡ Some text → ((e : Refused) → (lines (Err e) ≡ refusal_text e ∷ []) × (own (Err e) ≡ 2))
      → HasLine (lines (parse_of c text)) → EndsAnswering c lines own source read read' out out' f g r → read < 2 ^ 64 - 1 → read' ≡ read
      → EndsAnswer out out' f g (lines (parse_of c text)) (own (parse_of c text)) r
  answered source is refusals some ends few same =
      go (told c (Unit {0}) (EndsParsed lines own out out' f g r) text read read' out out' f g r source is ends few same)
    where
      go : EndsParsed lines own out out' f g r (parse_of c text) ⊎ (Unit {0} × EndsAs out out' f g no_memory_text 9 r)
          → EndsAnswer out out' f g (lines (parse_of c text)) (own (parse_of c text)) r
      go (inl h) = parsed_answer (parse_of c text) refusals h
      go (inr h) = gave_none out out' f g (lines (parse_of c text)) (own (parse_of c text)) r some h.1

  answer_two : (all : List (List ℕ)) (status : ℕ) → EndsAnswer out out' f g all status r → r ≡ 2 → status ≡ 2
  answer_two all status (written, s, inl w, h) two = sym w.1 ∙ not_two out out' f g written s r h two
  answer_two all status (written, s, inr w, h) two = absurd (omega (arith, w.5, not_two out out' f g written s r h two))

  parsed_two : ((s : Saying) → own (Ok s) ≡ 2 → ⊥) → (p : Result Saying Refused) → EndsParsed lines own out out' f g r p → r ≡ 2 → (e : Refused) × (p ≡ Err e)
  parsed_two never (Ok saying) h two = absurd (never saying (answer_two (lines (Ok saying)) (own (Ok saying)) h two))
  parsed_two never (Err e) h two = (e, refl)

  -- it is refused, where the status is 2
  pub answer_refused : (source : Option (List ℕ)) → source ≡ Some text → ((s : Saying) → own (Ok s) ≡ 2 → ⊥)
      → EndsAnswering c lines own source read read' out out' f g r → r ≡ 2 → (e : Refused) × (parse_of c text ≡ Err e)
  answer_refused source is never ends two =
      refused_at_2 c (Unit {0}) (EndsParsed lines own out out' f g r) text read read' out out' f g r source is (parsed_two never) ends two

  -- what its status tells, where a device failed
  answer_seven : (all : List (List ℕ)) (status : ℕ) → EndsAnswer out out' f g all status r → r ≡ 7 → status ≡ 7
  answer_seven all status (written, s, inl w, h) seven = sym w.1 ∙ not_seven out out' f g written s r h seven
  answer_seven all status (written, s, inr w, h) seven = absurd (omega (arith, w.5, not_seven out out' f g written s r h seven))

  parsed_seven : (p : Result Saying Refused) → EndsParsed lines own out out' f g r p → r ≡ 7 → own p ≡ 7
  parsed_seven (Ok saying) h seven = answer_seven (lines (Ok saying)) (own (Ok saying)) h seven
  parsed_seven (Err e) (inl h) seven = absurd (omega (arith, not_seven out out' f g (refusal_text e) 2 r h seven))
  parsed_seven (Err e) (inr h) seven = absurd (omega (arith, not_seven out out' f g no_memory_text 9 r h seven))

  pub answered_seven : (source : Option (List ℕ)) → source ≡ Some text → EndsAnswering c lines own source read read' out out' f g r → r ≡ 7
      → own (parse_of c text) ≡ 7
  answered_seven source is (Read bytes reads kept h) seven =
      subst (λ p. own p ≡ 7) (same_script c text bytes (subst (λ (s : Option (List ℕ)). ReadsAll s bytes) is reads))
      (parsed_seven (parse_of c bytes) h seven)
  answered_seven source is (SourceFails unread counts h) seven = absurd (omega (arith, not_seven out out' f g read_fault_text 3 r h seven))
  answered_seven source is (NoMemory unread kept h) seven = absurd (omega (arith, not_seven out out' f g no_memory_text 9 r h seven))

-- the refusals of each command's answers, and the statuses of what is no refusal
pub play_refusals : (queue first : ℕ) (e : Refused)
    → ((play_answer queue first (Err e)).lines ≡ refusal_text e ∷ []) × ((play_answer queue first (Err e)).status ≡ 2)
play_refusals queue first e = (refl, refl)

pub hostile_refusals : (e : Refused) → ((hostile_answer (Err e)).lines ≡ refusal_text e ∷ []) × ((hostile_answer (Err e)).status ≡ 2)
hostile_refusals e = (refl, refl)

-- a script is one of its command
abbrev IsPlay : Result Saying Refused → Type 0
IsPlay (Ok (Plays lines)) = Unit {0}
IsPlay (Ok _) = ⊥
IsPlay (Err e) = Unit {0}

abbrev IsAttack : Result Saying Refused → Type 0
IsAttack (Ok (Attacks lines)) = Unit {0}
IsAttack (Ok _) = ⊥
IsAttack (Err e) = Unit {0}

plays_on : (number : ℕ) (fits : Bool) (added : Result (List (ℕ × Event)) Why) (more : List (ℕ × List ℕ))
    → ((lines : List (ℕ × Event)) → IsPlay (add_lines (Plays lines) more))
    → IsPlay (unless_refused number (cond fits (named Plays added) (Err TooLong)) (λ said. add_lines said more))
plays_on number false added more ih = tt
plays_on number true (Ok lines) more ih = ih lines
plays_on number true (Err why) more ih = tt

stays_play : (rest : List (ℕ × List ℕ)) (lines : List (ℕ × Event)) → IsPlay (add_lines (Plays lines) rest)
stays_play [] lines = tt
stays_play (line ∷ rest) lines =
    plays_on line.0 (nat_le (length line.1) 4200) (add_event lines line.0 (words_of line.1)) rest (stays_play rest)

attacks_on : (number : ℕ) (fits : Bool) (added : Result (List (ℕ × Hostile)) Why) (more : List (ℕ × List ℕ))
    → ((lines : List (ℕ × Hostile)) → IsAttack (add_lines (Attacks lines) more))
    → IsAttack (unless_refused number (cond fits (named Attacks added) (Err TooLong)) (λ said. add_lines said more))
attacks_on number false added more ih = tt
attacks_on number true (Ok lines) more ih = ih lines
attacks_on number true (Err why) more ih = tt

stays_attack : (rest : List (ℕ × List ℕ)) (lines : List (ℕ × Hostile)) → IsAttack (add_lines (Attacks lines) rest)
stays_attack [] lines = tt
stays_attack (line ∷ rest) lines =
    attacks_on line.0 (nat_le (length line.1) 4200) (add_hostile lines line.0 (words_of line.1)) rest (stays_attack rest)

pub play_some : (queue first : ℕ) (p : Result Saying Refused) → IsPlay p → HasLine (play_answer queue first p).lines
play_some queue first (Ok (Plays lines)) h = has_line_behind _ _ _
play_some queue first (Ok (Runs apps)) h = absurd h
play_some queue first (Ok (Attacks lines)) h = absurd h
play_some queue first (Err e) h = (refusal_text e, [], refl)

pub attack_some : (p : Result Saying Refused) → IsAttack p → HasLine (hostile_answer p).lines
attack_some (Ok (Attacks lines)) h = has_line_behind _ _ _
attack_some (Ok (Runs apps)) h = absurd h
attack_some (Ok (Plays lines)) h = absurd h
attack_some (Err e) h = (refusal_text e, [], refl)

pub is_play : (text : List ℕ) → IsPlay (parse_of script_of.Play text)
is_play text = go (nat_le (length text) 1048576) refl
  where
    go : (b : Bool) → nat_le (length text) 1048576 ≡ b → IsPlay (parse_of script_of.Play text)
    go true e = rw e (stays_play (lines_from 1 text) [])
    go false e = rw e tt

pub is_attack : (text : List ℕ) → IsAttack (parse_of script_of.Hostile text)
is_attack text = go (nat_le (length text) 1048576) refl
  where
    go : (b : Bool) → nat_le (length text) 1048576 ≡ b → IsAttack (parse_of script_of.Hostile text)
    go true e = rw e (stays_attack (lines_from 1 text) [])
    go false e = rw e tt

play_never : (queue first : ℕ) (s : Saying) → (play_answer queue first (Ok s)).status ≡ 2 → ⊥
play_never queue first (Plays lines) e = absurd (omega (arith, e))
play_never queue first (Runs apps) e = absurd (omega (arith, e))
play_never queue first (Attacks lines) e = absurd (omega (arith, e))

no_two : (f : Option Failure) → status_of f ≡ 2 → ⊥
no_two None e = absurd (omega (arith, e))
no_two (Some f) e = absurd (omega (arith, e))

hostile_never : (s : Saying) → (hostile_answer (Ok s)).status ≡ 2 → ⊥
hostile_never (Plays lines) e = absurd (omega (arith, e))
hostile_never (Runs apps) e = absurd (omega (arith, e))
hostile_never (Attacks lines) e = no_two _ e

says_two : (base : List ℕ) (port idle : ℕ) (old new : Lent) (r : ℕ) (text : List ℕ) → Says base port idle old new r → r ≡ 2 → old.source ≡ Some text
    → SOURCE_MAX < length text
says_two base port idle old new r text (statuses.Done e h) two is = absurd (omega (arith, e, two))
says_two base port idle old new r text (statuses.TooLong e h) two is = h.long text is
says_two base port idle old new r text (statuses.SourceFault e h) two is = absurd (omega (arith, e, two))
says_two base port idle old new r text (statuses.SinkFault e h) two is = absurd (omega (arith, e, two))
says_two base port idle old new r text (statuses.Waited e h) two is = absurd (omega (arith, e, two))
says_two base port idle old new r text (statuses.HostFault e h) two is = absurd (omega (arith, e, two))
says_two base port idle old new r text (statuses.Refused e h) two is = absurd (omega (arith, e, two))
says_two base port idle old new r text (statuses.NoMemory e h) two is = absurd (omega (arith, e, two))

-- what holds of the script of a run
abbrev pub ran_in : List ℕ → ℕ → ℕ → Lent → Lent → ℕ → Result Saying Refused → Type 0
ran_in base idle first old new r =
    EndsRun base idle first old.host new.host old.host_faults new.host_faults old.out new.out old.sink_faults new.sink_faults r

pub no_script_at_2 : (command : Option words.Command) (old new : Lent) (r : ℕ) (text : List ℕ) → Does command old new r → r ≡ 2 → old.source ≡ Some text
    → IsNoScript command text
no_script_at_2 None old new r text (inl h, source, host) two is =
    absurd (omega (arith, not_two old.out new.out old.sink_faults new.sink_faults usage_text 1 r h two))
no_script_at_2 None old new r text (inr h, source, host) two is =
    absurd (omega (arith, not_two old.out new.out old.sink_faults new.sink_faults no_memory_text 9 r h two))
no_script_at_2 (Some (words.Play kind queue first)) old new r text h two is =
    answer_refused script_of.Play (λ said. (play_answer queue first said).lines) (λ said. (play_answer queue first said).status) text old.source_faults new.source_faults
    old.out new.out old.sink_faults new.sink_faults r old.source is (play_never queue first) h.0 two
no_script_at_2 (Some (words.Run base queue idle first)) old new r text h two is =
    refused_at_2 script_of.Run (KeepsHost old new) (ran_in base idle first old new r) text old.source_faults new.source_faults old.out new.out
    old.sink_faults new.sink_faults r old.source is
    (run_two old.out new.out old.sink_faults new.sink_faults r base idle first old.host new.host old.host_faults new.host_faults) h two
no_script_at_2 (Some words.Hostile) old new r text h two is =
    answer_refused script_of.Hostile (λ said. (hostile_answer said).lines) (λ said. (hostile_answer said).status) text old.source_faults new.source_faults
    old.out new.out old.sink_faults new.sink_faults r old.source is hostile_never h.0 two
no_script_at_2 (Some (words.Load number conns bytes queue)) old new r text h two is =
    absurd (load_two old.out new.out old.sink_faults new.sink_faults r number conns bytes h.0 two)
no_script_at_2 (Some (words.Peer base port idle)) old new r text h two is = says_two base port idle old new r text h.0 two is

pub play_written : (command : Option words.Command) (old new : Lent) (r : ℕ) (kind : Rings) (queue first : ℕ) (text : List ℕ) → command ≡ Some (words.Play kind queue first)
    → Does command old new r → old.source_faults < 2 ^ 64 - 1 → new.source_faults ≡ old.source_faults → old.source ≡ Some text
    → EndsAnswer old.out new.out old.sink_faults new.sink_faults (play_of queue first text).lines (play_of queue first text).status r
play_written command old new r kind queue first text is h few same told =
    answered script_of.Play (λ said. (play_answer queue first said).lines) (λ said. (play_answer queue first said).status) text old.source_faults new.source_faults
    old.out new.out old.sink_faults new.sink_faults r old.source told (play_refusals queue first)
    (play_some queue first (parse_of script_of.Play text) (is_play text)) (subst (λ k. Does k old new r) is h).0 few same

pub attack_written : (command : Option words.Command) (old new : Lent) (r : ℕ) (text : List ℕ) → command ≡ Some words.Hostile
    → Does command old new r → old.source_faults < 2 ^ 64 - 1 → new.source_faults ≡ old.source_faults → old.source ≡ Some text
    → EndsAnswer old.out new.out old.sink_faults new.sink_faults (hostile_of text).lines (hostile_of text).status r
attack_written command old new r text is h few same told =
    answered script_of.Hostile (λ said. (hostile_answer said).lines) (λ said. (hostile_answer said).status) text old.source_faults new.source_faults
    old.out new.out old.sink_faults new.sink_faults r old.source told hostile_refusals
    (attack_some (parse_of script_of.Hostile text) (is_attack text)) (subst (λ k. Does k old new r) is h).0 few same

pub device_failed : (command : Option words.Command) (old new : Lent) (r : ℕ) → Does command old new r → command ≡ Some words.Hostile → r ≡ 7
    → (text : List ℕ) → old.source ≡ Some text → (hostile_of text).status ≡ 7
device_failed command old new r does is seven text told =
    answered_seven script_of.Hostile (λ said. (hostile_answer said).lines) (λ said. (hostile_answer said).status) text old.source_faults new.source_faults
    old.out new.out old.sink_faults new.sink_faults r old.source told (subst (λ k. Does k old new r) is does).0 seven

module _ (command : Option words.Command) (old new : Lent) (r : ℕ) (base : List ℕ) (queue idle first : ℕ) (text : List ℕ)
    (is : command ≡ Some (words.Run base queue idle first)) (does : Does command old new r) (few : old.source_faults < 2 ^ 64 - 1)
    (same : new.source_faults ≡ old.source_faults) (source : old.source ≡ Some text) where
  told_run : ran_in base idle first old new r (parse_of script_of.Run text)
      ⊎ (KeepsHost old new × EndsAs old.out new.out old.sink_faults new.sink_faults no_memory_text 9 r)
  told_run =
      told script_of.Run (KeepsHost old new) (ran_in base idle first old new r) text old.source_faults new.source_faults old.out new.out old.sink_faults
      new.sink_faults r old.source source (subst (λ k. Does k old new r) is does) few same

  pub run_written : (apps : RunScript) → parse_of script_of.Run text ≡ Ok (Runs apps)
      → EndsOver base idle first apps old.host new.host old.host_faults new.host_faults old.out new.out old.sink_faults new.sink_faults r
  run_written apps parsed = go told_run
    where
      go : ran_in base idle first old new r (parse_of script_of.Run text)
          ⊎ (KeepsHost old new × EndsAs old.out new.out old.sink_faults new.sink_faults no_memory_text 9 r)
          → EndsOver base idle first apps old.host new.host old.host_faults new.host_faults old.out new.out old.sink_faults new.sink_faults r
      go (inl h) = subst (ran_in base idle first old new r) parsed h
      go (inr h) = inr (inl h.1)

  pub run_refused : (e : Refused) → parse_of script_of.Run text ≡ Err e
      → EndsWith old.out new.out old.sink_faults new.sink_faults (refusal_text e) 2 r × KeepsHost old new
  run_refused e parsed = go told_run
    where
      go : ran_in base idle first old new r (parse_of script_of.Run text)
          ⊎ (KeepsHost old new × EndsAs old.out new.out old.sink_faults new.sink_faults no_memory_text 9 r)
          → EndsWith old.out new.out old.sink_faults new.sink_faults (refusal_text e) 2 r × KeepsHost old new
      go (inl h) = subst (ran_in base idle first old new r) parsed h
      go (inr h) = (inr h.1, h.0)

-- a script that wasn't read
pub unparsed : (c : Command) (Parsed : Result Saying Refused → Type 0) (text : List ℕ) (out out' : Option (List ℕ)) (f g r : ℕ) (e : ParseFault)
    → ((x : Refused) → EndsWith out out' f g (refusal_text x) 2 r → Parsed (Err x))
    → (EndsAs out out' f g no_memory_text 9 r → Parsed (parse_of c text)) → IsRefused c text e → EndsRefused out out' f g e r
    → Parsed (parse_of c text)
unparsed c Parsed text out out' f g r (fault.Refused x) refused starved is h = subst Parsed (sym is) (refused x h)
unparsed c Parsed text out out' f g r fault.OutOfMemory refused starved is h = starved h

-- of an answer, which has a line
pub no_answer : (c : Command) (lines : Result Saying Refused → List (List ℕ)) (own : Result Saying Refused → ℕ) (text : List ℕ)
    (out out' : Option (List ℕ)) (f g r : ℕ) (e : ParseFault) → HasLine (lines (parse_of c text)) → IsRefused c text e
    → EndsRefused out out' f g e r → EndsParsed lines own out out' f g r (parse_of c text)
no_answer c lines own text out out' f g r e some is h =
    unparsed c (EndsParsed lines own out out' f g r) text out out' f g r e (λ x w. w) (go (parse_of c text) some) is h
  where
    go : (p : Result Saying Refused) → HasLine (lines p) → EndsAs out out' f g no_memory_text 9 r → EndsParsed lines own out out' f g r p
    go (Ok said) line w = gave_none out out' f g (lines (Ok said)) (own (Ok said)) r line w
    go (Err x) line w = inr w

-- a command before whose beginning memory ran out
pub starved : (command : Option words.Command) (old new : Lent) (r : ℕ) → KeepsSource old new → KeepsHost old new
    → EndsAs old.out new.out old.sink_faults new.sink_faults no_memory_text 9 r → Does command old new r
starved None old new r source host h = (inr h, source, host)
starved (Some (words.Play kind queue first)) old new r source host h = (NoMemory tt source.1 h, host)
starved (Some (words.Run base queue idle first)) old new r source host h = NoMemory host source.1 h
starved (Some words.Hostile) old new r source host h = (NoMemory tt source.1 h, host)
starved (Some (words.Load number conns bytes queue)) old new r source host h = (inr h, source, host)
starved (Some (words.Peer base port idle)) old new r source host (inl h) =
    (statuses.NoMemory h.0 (record { writes = h.1; kept = host.0 }), λ none. subst (λ n. statuses.is_faultless n ≡ true) (sym h.0) refl)
starved (Some (words.Peer base port idle)) old new r source host (inr h) = (
  statuses.SinkFault h.0 (record { counts = h.2; text = no_memory_text; meant = statuses.Line (inr (inr refl)); writes = h.1 }),
  λ none. absurd (fault_shows old.sink_faults new.sink_faults h.2 none.sink_rises none.sink),
)

-- a host that isn't used
pub host_kept : (command : Option words.Command) (old new : Lent) (r : ℕ) → Does command old new r → uses_host command ≡ false → KeepsHost old new
host_kept None old new r h none = h.2
host_kept (Some (words.Play kind queue first)) old new r h none = h.1
host_kept (Some (words.Run base queue idle first)) old new r h none = let no : true ≡ false = none in absurd cc
host_kept (Some words.Hostile) old new r h none = h.1
host_kept (Some (words.Load number conns bytes queue)) old new r h none = h.2
host_kept (Some (words.Peer base port idle)) old new r h none = let no : true ≡ false = none in absurd cc

-- a source of which a call failed
source_failed : {c : Command} {Unread : Type 0} {Parsed : Result Saying Refused → Type 0} {source : Option (List ℕ)} {read read' : ℕ}
    {out out' : Option (List ℕ)} {f g r : ℕ} → EndsScript c Unread Parsed source read read' out out' f g r → read' ≢ read
    → EndsAs out out' f g read_fault_text 3 r × Unread
source_failed (Read bytes reads kept h) differs = absurd (differs kept)
source_failed (SourceFails unread counts h) differs = (h, unread)
source_failed (NoMemory unread kept h) differs = absurd (differs kept)

pub fault_written : (command : Option words.Command) (old new : Lent) (r : ℕ) → Does command old new r → is_client command ≡ false
    → new.source_faults ≢ old.source_faults → EndsWith old.out new.out old.sink_faults new.sink_faults read_fault_text 3 r × KeepsHost old new
fault_written None old new r h none differs = absurd (differs h.1.1)
fault_written (Some (words.Play kind queue first)) old new r h none differs = (inl (source_failed h.0 differs).0, h.1)
fault_written (Some (words.Run base queue idle first)) old new r h none differs = let s = source_failed h differs in (inl s.0, s.1)
fault_written (Some words.Hostile) old new r h none differs = (inl (source_failed h.0 differs).0, h.1)
fault_written (Some (words.Load number conns bytes queue)) old new r h none differs = absurd (differs h.1.1)
fault_written (Some (words.Peer base port idle)) old new r h none differs = let no : true ≡ false = none in absurd cc
