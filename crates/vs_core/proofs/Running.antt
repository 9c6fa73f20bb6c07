-- Events one after another.
use Rattle.std.proofs.Common.{◌≡◌, ℕ, ◌+◌, ◌<◌, ◌≤◌, List, [], ◌∷◌, length, map, drop, get_or, sym, ap, ◌∙◌}
use Rattle.std.proofs.{Math.ListN.drop_of_length-le, lemmas.List.drop_more, lemmas.List.drop-map, lemmas.List.length-map}
use Rattle.laws_world.specs.{Events.Event, Events.happens, Events.run, World.World}
use Rattle.vs_core.{specs.Ready.WorldState, specs.Ready.shown, specs.Ready.with_journal, specs.Views.event_view, proofs.Happening.run_blind}
use Rattle.vs_core.specs.declared.event.Event as program

abbrev pub events_of : List program.Event → List Event
events_of events = map event_view events

-- What is left of the events at a place.
rest_from : (events : List program.Event) (place : ℕ) (e : program.Event) → place < length events → e ≡ get_or events place e
    → drop place (events_of events) ≡ event_view e ∷ drop (place + 1) (events_of events)
rest_from events place e within at =
    drop-map event_view place events
    ∙ (ap (map event_view) (drop_more events place e within ∙ ap (λ x. x ∷ drop (place + 1) events) (sym at))
    ∙ ap (λ es. event_view e ∷ es) (sym (drop-map event_view (place + 1) events)))

-- Those that are left lead to where all lead.
abbrev pub IsLed : List program.Event → ℕ → WorldState → World → Type 0
IsLed events place s w = shown (run (drop place (events_of events)) (with_journal [] s)) ≡ shown (run (events_of events) w)

pub led_next : (events : List program.Event) (place : ℕ) (e : program.Event) (s t : WorldState) (w : World) → place < length events
    → e ≡ get_or events place e → IsLed events place s w → t ≡ shown (happens (event_view e) (with_journal [] s)) → IsLed events (place + 1) t w
led_next events place e s t w within at led is =
    let rest = drop (place + 1) (events_of events) in
    ap (λ (x : WorldState). shown (run rest (with_journal [] x))) is
    ∙ (sym (run_blind rest (happens (event_view e) (with_journal [] s)))
    ∙ (sym (ap (λ es. shown (run es (with_journal [] s))) (rest_from events place e within at)) ∙ led))

pub led_last : (events : List program.Event) (place : ℕ) (s : WorldState) (w : World) → length events ≤ place → IsLed events place s w
    → s ≡ shown (run (events_of events) w)
led_last events place s w ends led =
    let none : drop place (events_of events) ≡ [] = drop_of_length-le (events_of events) (rw (length-map events event_view) ends) in
    sym (ap (λ es. shown (run es (with_journal [] s))) none) ∙ led
