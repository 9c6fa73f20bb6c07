-- How the lines of a play add up.
use Rattle.std.proofs.Common.{◌≡◌, ◌<◌, ℕ, zero, suc, ◌+◌, List, [], ◌∷◌, ◌++◌, length, map, drop, slice_get, get_or, Option, Some, Result, Ok, Err, refl, sym, ap, ◌∙◌, subst}
use Rattle.std.{proofs.{Common.append_assoc, lemmas.List.{drop_more, drop-map}}, specs.List.AllByRecursion}
use Rattle.vs_script.specs.{Play.{Event, play_view}, Script.numbered_event, declared.{play.PlayLine.PlayLine, script.Numbered.Numbered}}
use Rattle.vs_report.{proofs.LinesGiven.{gives_next, gives_less}, specs.{Gives.GivesLines, declared.giving.GiveError.GiveError}}
use Rattle.vs_play.specs.{Answer.{events_in, opened_play, printed, report_of, texts_of, world_after}, Lines.event_played, Ready.{IsPlayable, PlayState, shown, world_in}}
use Rattle.vs_play.proofs.Journal.{after_alike, report_alike, texts_alike}

-- The event lines of a script, as the program holds them.
abbrev event_of : Numbered PlayLine → Event
event_of line = play_view line.line

abbrev pub events_of : List (Numbered PlayLine) → List Event
events_of lines = events_in (map numbered_event lines)

same_events : (lines : List (Numbered PlayLine)) → events_of lines ≡ map event_of lines
same_events [] = refl
same_events (line ∷ lines) = ap (λ es. event_of line ∷ es) (same_events lines)

-- What is left of the lines at a place.
rest_from : (lines : List (Numbered PlayLine)) (place : ℕ) (line : Numbered PlayLine) → place < length lines → line ≡ get_or lines place line
    → drop place (events_of lines) ≡ event_of line ∷ drop (place + 1) (events_of lines)
rest_from lines place line within at =
    subst (λ es. drop place es ≡ event_of line ∷ drop (place + 1) es) (sym (same_events lines))
    (drop-map event_of place lines ∙ (ap (map event_of) (drop_more lines place line within ∙ ap (λ l. l ∷ drop (place + 1) lines) (sym at))
    ∙ ap (λ ls. event_of line ∷ ls) (sym (drop-map event_of (place + 1) lines))))

-- A line at a place may be played.
same_some : {X : Type 0} (x y : X) → Some x ≡ Some y → x ≡ y
same_some x y is = cc (is)

pub playable_at : (lines : List (Numbered PlayLine)) (i : ℕ) (line : Numbered PlayLine) → AllByRecursion IsPlayable (events_of lines)
    → slice_get lines i ≡ Some line → IsPlayable (event_of line)
playable_at [] i line all at = absurd (cc (at))
playable_at (l ∷ lines) zero line all at = subst (λ x. IsPlayable (event_of x)) (same_some l line at) all.0
playable_at (l ∷ lines) (suc i) line all at = playable_at lines i line all.1 at

-- Of lines those before a place were played from one state to another, and what they print was given: whatever the rest prints completes
-- the whole.
pub record Played (es : List Event) (place : ℕ) (start now : PlayState) (old new : Option (List ℕ)) (f g : ℕ) : Type 0 where
  pub done : List (List ℕ)
  pub texts : texts_of es (world_in start) ≡ done ++ texts_of (drop place es) (world_in now)
  pub world : shown (world_after es (world_in start)) ≡ shown (world_after (drop place es) (world_in now))
  pub given : GivesLines old new f g done (Ok tt)

module _ (lines : List (Numbered PlayLine)) (place : ℕ) (line : Numbered PlayLine) (start now : PlayState) (old mid new : Option (List ℕ)) (f m g : ℕ)
    (within : place < length lines) (at : line ≡ get_or lines place line) (p : Played (events_of lines) place start now old mid f m) where
  abbrev one : List ℕ
  one = (event_played (event_of line) (world_in now)).1

  abbrev rest : List Event
  rest = drop (place + 1) (events_of lines)

  -- A further line.
  pub played_next : (next : PlayState) → next ≡ shown (event_played (event_of line) (world_in now)).0 → GivesLines mid new m g (one ∷ []) (Ok tt)
      → Played (events_of lines) (place + 1) start next old new f g
  played_next next stepped given =
      let after = (event_played (event_of line) (world_in now)).0 in
      subst (λ (w : PlayState). Played (events_of lines) (place + 1) start w old new f g) (sym stepped) (record {
        done = p.done ++ one ∷ [];
        texts = p.texts ∙ ap (λ es. p.done ++ texts_of es (world_in now)) (rest_from lines place line within at)
            ∙ (ap (λ ts. p.done ++ one ∷ ts) (texts_alike rest after) ∙ sym (append_assoc p.done (one ∷ []) (texts_of rest (world_in (shown after)))));
        world = p.world ∙ ap (λ es. shown (world_after es (world_in now))) (rest_from lines place line within at) ∙ after_alike rest after;
        given = gives_next old mid new f m g p.done (one ∷ []) (Ok tt) p.given given;
      })

  -- A line that isn't given whole, or finds no memory: the play ends there.
  pub played_until : (e : GiveError) (r : Result (Unit {0}) GiveError) → r ≡ Err e → GivesLines mid new m g (one ∷ []) (Err e)
      → GivesLines old new f g (texts_of (events_of lines) (world_in start)) r
  played_until e r failed given =
      let others = texts_of rest (event_played (event_of line) (world_in now)).0 in
      subst (λ x. GivesLines old new f g (texts_of (events_of lines) (world_in start)) x) (sym failed)
      (subst (λ ts. GivesLines old new f g ts (Err e))
      (sym (p.texts ∙ ap (λ es. p.done ++ texts_of es (world_in now)) (rest_from lines place line within at)))
      (gives_next old mid new f m g p.done (one ∷ others) (Err e) p.given (gives_less mid new m g (one ∷ []) others e given)))

-- A play whose lines end with an error ends there; one whose lines are all played ends with its report.
module _ (n first : ℕ) (es : List Event) (w : PlayState) (old mid new : Option (List ℕ)) (f m g : ℕ) (r : Result (Unit {0}) GiveError)
    (opened : w ≡ shown (opened_play n first)) where
  from_start : texts_of es (world_in w) ≡ texts_of es (opened_play n first)
  from_start = ap (λ x. texts_of es (world_in x)) opened ∙ sym (texts_alike es (opened_play n first))

  pub run_until : (e : GiveError) → r ≡ Err e → GivesLines old new f g (texts_of es (world_in w)) (Err e) → GivesLines old new f g (printed n first es) r
  run_until e failed h =
      subst (λ x. GivesLines old new f g (printed n first es) x) (sym failed)
      (gives_less old new f g (texts_of es (opened_play n first)) (report_of (world_after es (opened_play n first)).world) e
      (subst (λ ts. GivesLines old new f g ts (Err e)) from_start h))

  pub run_given : (v : PlayState) → v ≡ shown (world_after es (world_in w)) → GivesLines old mid f m (texts_of es (world_in w)) (Ok tt)
      → GivesLines mid new m g (report_of (world_in v).world) r → GivesLines old new f g (printed n first es) r
  run_given v after h told =
      let last : v ≡ shown (world_after es (opened_play n first)) =
      after ∙ (ap (λ x. shown (world_after es (world_in x))) opened ∙ sym (after_alike es (opened_play n first))) in
      gives_next old mid new f m g (texts_of es (opened_play n first)) (report_of (world_after es (opened_play n first)).world) r
      (subst (λ ts. GivesLines old mid f m ts (Ok tt)) from_start h)
      (subst (λ ls. GivesLines mid new m g ls r) (ap (λ x. report_of (world_in x).world) last ∙ report_alike (world_after es (opened_play n first))) told)
