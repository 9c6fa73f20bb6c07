-- How the lines of a run add up.
use Rattle.std.proofs.Common.{◌≡◌, ◌<◌, ℕ, ◌+◌, List, [], ◌∷◌, ◌++◌, length, map, drop, get_or, Option, None, Result, Ok, Err, sym, ap, ◌∙◌, subst, append_assoc}
use Rattle.std.proofs.lemmas.List.{drop_more, drop-map, length-map}
use Rattle.vs_device_parts.specs.{State.counters_of, Turns.table_shown}
use Rattle.vs_outside.specs.Host.{Stream}
use Rattle.vs_report.{specs.{Gives.GivesLines, Report.{counts_text, device_open_text, stream_texts}, declared.giving.GiveError.GiveError}, proofs.LinesGiven.gives_next}
use Rattle.vs_report.proofs.LinesGiven.{gives_less}
use Rattle.vs_script.specs.{Hostile.{Hostile, hostile_view}, Script.numbered_hostile, declared.{hostile.HostileLine.HostileLine, script.Numbered.Numbered}}
use Rattle.vs_hostile.specs.{Answer.{attack_of, given, lines_of, report_texts, said_text, state_after, texts_of}, Run.{HostileState, beginning, hostile_does}}

-- The lines of a script, as the program holds them.
abbrev pub held_lines : List (Numbered HostileLine) → List Hostile
held_lines xs = lines_of (map numbered_hostile xs)

drop_held : (place : ℕ) (xs : List (Numbered HostileLine)) → drop place (held_lines xs) ≡ held_lines (drop place xs)
drop_held place xs =
    let second : ℕ × Hostile → Hostile = λ l. l.1 in
    drop-map second place (map numbered_hostile xs) ∙ ap lines_of (drop-map numbered_hostile place xs)

-- What is left of the lines at a place.
pub rest_from : (xs : List (Numbered HostileLine)) (place : ℕ) (x : Numbered HostileLine) → place < length xs → x ≡ get_or xs place x
    → drop place (held_lines xs) ≡ hostile_view x.line ∷ drop (place + 1) (held_lines xs)
rest_from xs place x within at =
    drop_held place xs ∙ (ap held_lines (drop_more xs place x within ∙ ap (λ l. l ∷ drop (place + 1) xs) (sym at))
    ∙ ap (λ ls. hostile_view x.line ∷ ls) (sym (drop_held (place + 1) xs)))

-- Of the lines those before a place were run from one state to another, and what they print was given: whatever the rest prints completes
-- the whole.
pub record Ran (lines : List Hostile) (place : ℕ) (start now : HostileState) (old new : Option (List ℕ)) (f g : ℕ) : Type 0 where
  pub done : List (List ℕ)
  pub texts : texts_of lines start ≡ done ++ texts_of (drop place lines) now
  pub state : state_after lines start ≡ state_after (drop place lines) now
  pub all_given : GivesLines old new f g done (Ok tt)

-- A further line.
pub ran_next : (xs : List (Numbered HostileLine)) (place : ℕ) (x : Numbered HostileLine) (start now next : HostileState)
    (old mid new : Option (List ℕ)) (f m g : ℕ) → place < length xs → x ≡ get_or xs place x → next ≡ (hostile_does (hostile_view x.line) now).0
    → Ran (held_lines xs) place start now old mid f m
    → GivesLines mid new m g (said_text (hostile_does (hostile_view x.line) now).1 ∷ []) (Ok tt)
    → Ran (held_lines xs) (place + 1) start next old new f g
ran_next xs place x start now next old mid new f m g within at stepped p one =
    let ls = held_lines xs in
    let l = hostile_view x.line in
    let rest = rest_from xs place x within at in
    let text = said_text (hostile_does l now).1 in
    subst (λ w. Ran ls (place + 1) start w old new f g) (sym stepped) (record {
      done = p.done ++ text ∷ [];
      texts =
          p.texts ∙ ap (λ ys. p.done ++ texts_of ys now) rest
          ∙ sym (append_assoc p.done (text ∷ []) (texts_of (drop (place + 1) ls) (hostile_does l now).0));
      state = p.state ∙ ap (λ ys. state_after ys now) rest;
      all_given = gives_next old mid new f m g p.done (text ∷ []) (Ok tt) p.all_given one;
    })

-- A line that isn't given whole, or finds no memory: the run ends there.
pub ran_until : (xs : List (Numbered HostileLine)) (place : ℕ) (x : Numbered HostileLine) (start now : HostileState)
    (old mid new : Option (List ℕ)) (f m g : ℕ) (e : GiveError) (r : Result (Unit {0}) GiveError) → r ≡ Err e → place < length xs
    → x ≡ get_or xs place x → Ran (held_lines xs) place start now old mid f m
    → GivesLines mid new m g (said_text (hostile_does (hostile_view x.line) now).1 ∷ []) (Err e)
    → GivesLines old new f g (texts_of (held_lines xs) start) r
ran_until xs place x start now old mid new f m g e r failed within at p one =
    let ls = held_lines xs in
    let l = hostile_view x.line in
    let rest = rest_from xs place x within at in
    let text = said_text (hostile_does l now).1 in
    subst (λ z. GivesLines old new f g (texts_of ls start) z) (sym failed)
    (subst (λ ys. GivesLines old new f g ys (Err e)) (sym (p.texts ∙ ap (λ ys. p.done ++ texts_of ys now) rest))
    (gives_next old mid new f m g p.done (text ∷ texts_of (drop (place + 1) ls) (hostile_does l now).0) (Err e) p.all_given
    (gives_less mid new m g (text ∷ []) (texts_of (drop (place + 1) ls) (hostile_does l now).0) e one)))

-- The first line of the report, by what the program counted.
pub open_given : (s : HostileState) (n : ℕ) (old new : Option (List ℕ)) (f g : ℕ) (r : Result (Unit {0}) GiveError)
    → n ≡ length (table_shown s.proxy.device) → GivesLines old new f g (device_open_text n ∷ []) r
    → GivesLines old new f g (device_open_text (length s.proxy.device.table.entries) ∷ []) r
open_given s n old new f g r is one =
    subst (λ k. GivesLines old new f g (device_open_text k ∷ []) r) (is ∙ length-map s.proxy.device.table.entries _) one

-- Its streams, as the program holds them.
pub streams_given : (s : HostileState) (xs : List Stream) (old new : Option (List ℕ)) (f g : ℕ) (r : Result (Unit {0}) GiveError)
    → xs ≡ s.host.streams → GivesLines old new f g (stream_texts 1 xs) r → GivesLines old new f g (stream_texts 1 s.host.streams) r
streams_given s xs old new f g r same one = subst (λ ys. GivesLines old new f g (stream_texts 1 ys) r) same one

-- The report: it ends at its first line or in its streams, or it ends with its last line.
module _ (s : HostileState) (old new : Option (List ℕ)) (f g : ℕ) where
  ends_as : (e r : Result (Unit {0}) GiveError) → r ≡ e → GivesLines old new f g (report_texts s) e → GivesLines old new f g (report_texts s) r
  ends_as e r same told = subst (λ x. GivesLines old new f g (report_texts s) x) (sym same) told

  pub report_until_device : (e : GiveError) (r : Result (Unit {0}) GiveError) → r ≡ Err e
      → GivesLines old new f g (device_open_text (length s.proxy.device.table.entries) ∷ []) (Err e) → GivesLines old new f g (report_texts s) r
  report_until_device e r failed one =
      ends_as (Err e) r failed
      (gives_less old new f g (device_open_text (length s.proxy.device.table.entries) ∷ [])
      (stream_texts 1 s.host.streams ++ counts_text (counters_of s.proxy.device) None ∷ []) e one)

  pub report_until_streams : (mid : Option (List ℕ)) (m : ℕ) (e : GiveError) (r : Result (Unit {0}) GiveError) → r ≡ Err e
      → GivesLines old mid f m (device_open_text (length s.proxy.device.table.entries) ∷ []) (Ok tt)
      → GivesLines mid new m g (stream_texts 1 s.host.streams) (Err e) → GivesLines old new f g (report_texts s) r
  report_until_streams mid m e r failed one two =
      ends_as (Err e) r failed
      (gives_next old mid new f m g (device_open_text (length s.proxy.device.table.entries) ∷ [])
      (stream_texts 1 s.host.streams ++ counts_text (counters_of s.proxy.device) None ∷ []) (Err e) one
      (gives_less mid new m g (stream_texts 1 s.host.streams)
      (counts_text (counters_of s.proxy.device) None ∷ []) e two))

  pub report_given : (mid low : Option (List ℕ)) (m n : ℕ) (r : Result (Unit {0}) GiveError)
      → GivesLines old mid f m (device_open_text (length s.proxy.device.table.entries) ∷ []) (Ok tt)
      → GivesLines mid low m n (stream_texts 1 s.host.streams) (Ok tt)
      → GivesLines low new n g (counts_text (counters_of s.proxy.device) None ∷ []) r
      → GivesLines old new f g (report_texts s) r
  report_given mid low m n r one two three =
      gives_next old mid new f m g (device_open_text (length s.proxy.device.table.entries) ∷ [])
      (stream_texts 1 s.host.streams ++ counts_text (counters_of s.proxy.device) None ∷ []) r one
      (gives_next mid low new m n g (stream_texts 1 s.host.streams)
      (counts_text (counters_of s.proxy.device) None ∷ []) r two three)

-- The whole: without memory at first nothing is given; lines that end with an error end it; with all lines run it ends with its report.
module _ (xs : List (Numbered HostileLine)) (w : HostileState) (begins : w ≡ beginning) (old new : Option (List ℕ)) (f g : ℕ) where
  pub attack_until : (e : GiveError) (r : Result ℕ GiveError) → r ≡ Err e → GivesLines old new f g (texts_of (held_lines xs) w) (Err e)
      → GivesLines old new f g (attack_of (map numbered_hostile xs)).lines (given r)
  attack_until e r failed told =
      subst (λ x. GivesLines old new f g (attack_of (map numbered_hostile xs)).lines (given x)) (sym failed)
      (gives_less old new f g (texts_of (held_lines xs) beginning) (report_texts (state_after (held_lines xs) beginning)) e
      (subst (λ v. GivesLines old new f g (texts_of (held_lines xs) v) (Err e)) begins told))

  pub attack_given : (v : HostileState) (mid : Option (List ℕ)) (m : ℕ) (r : Result ℕ GiveError) → v ≡ state_after (held_lines xs) w
      → GivesLines old mid f m (texts_of (held_lines xs) w) (Ok tt) → GivesLines mid new m g (report_texts v) (given r)
      → GivesLines old new f g (attack_of (map numbered_hostile xs)).lines (given r)
  attack_given v mid m r ends told report =
      gives_next old mid new f m g (texts_of (held_lines xs) beginning) (report_texts (state_after (held_lines xs) beginning)) (given r)
      (subst (λ u. GivesLines old mid f m (texts_of (held_lines xs) u) (Ok tt)) begins told)
      (subst (λ u. GivesLines mid new m g (report_texts u) (given r)) (ends ∙ ap (λ u. state_after (held_lines xs) u) begins) report)

  pub attack_less : (v : HostileState) (mid : Option (List ℕ)) (m : ℕ) (e : GiveError) (r : Result ℕ GiveError) → r ≡ Err e
      → v ≡ state_after (held_lines xs) w → GivesLines old mid f m (texts_of (held_lines xs) w) (Ok tt)
      → GivesLines mid new m g (report_texts v) (Err e) → GivesLines old new f g (attack_of (map numbered_hostile xs)).lines (given r)
  attack_less v mid m e r failed ends told report =
      subst (λ x. GivesLines old new f g (attack_of (map numbered_hostile xs)).lines (given x)) (sym failed)
      (attack_given v mid m (Err e) ends told report)
