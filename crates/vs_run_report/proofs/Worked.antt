-- A worked report is right.
use Rattle.std.proofs.Common.{◌≡◌, ◌<◌, ◌≤◌, ◌-◌, ℕ, zero, suc, [], ◌∷◌, Some, None, length, codes, refl, sym, ap, subst, ◌∙◌, arith, true}
use Rattle.std.{proofs.lemmas.List.Elements.{All-cons, All-head, All-nil, All-tail}, specs.{Option.option_map_or, Prelude.{option_and_then, slice_get}}}
use Rattle.vs_flow.specs.{Connection.Connection, Flow.host_flow, declared.flow.Flow.Flow}
use Rattle.vs_page.specs.{Fair.IsPrefixOf, Log.Log}
use Rattle.vs_outside.specs.{Host.stream_at, HostBytes.{host_wrote, labelled_with, wrote_after_connect}}
use Rattle.vs_script.specs.Data.{Given}
use Rattle.vs_apps_parts.specs.{Examples.{asked, at_next, closed_it, opened, sent_hello}, Journals.{calls_of, calls_of_app}, Scripts.{IsPlayed, acts_of, begun}}
use Rattle.vs_run_report.specs.{Endings.state_at, Report.ended_at, Right.{IsRightConnection, IsRightEnding}, Examples.{app_at, first_opened, hello, hello_entries, hello_host}}
use Rattle.vs_run_report.specs.Examples.{again, hello_is_right, swapped_entries, swapped_is_right, two_streams}
use Rattle.vs_run_report.specs.declared.connection.Opened.{Opened}
use Rattle.vs_script.specs.App as act

greets : (k : ℕ) → k < length hello
    → IsPlayed (acts_of k hello) (calls_of_app k hello [] hello_entries) (state_at k (app_at 3 None ∷ [])).progress
greets (suc k) less = absurd (omega (arith, less))
greets zero less = (
  closed_it ∷ sent_hello ∷ opened ∷ asked ∷ [],
  (
    at_next 2,
    act.Close,
    (
      at_next 1,
      act.Send (Given (codes "hello")),
      (
        record begun { asked = true; conn = Some 1 },
        act.Connect 52,
        (begun, act.Connect 52, refl, refl, (refl, refl)),
        refl,
        (refl, refl),
      ),
      refl,
      (refl, refl),
    ),
    refl,
    (refl, refl),
  ),
  refl,
)

is_done : (k : ℕ) → k < length hello → IsRightEnding (acts_of k hello) (ended_at hello (app_at 3 None ∷ []) hello_entries k)
is_done (suc k) less = absurd (omega (arith, less))
is_done zero less = tt

pub hello_right : hello_is_right
hello_right log some = record {
  played = greets;
  ended = is_done;
  rising = λ i j less given same. less;
  connections =
      All-cons (IsRightConnection first_opened log (calls_of hello [] hello_entries) hello_host) (record { id = 1; flow = host_flow 1024 52 }) []
      (record { some = omega arith; passed = some; flow = refl; to_host = (codes "o", refl); to_guest = ([], refl) })
      (All-nil (IsRightConnection first_opened log (calls_of hello [] hello_entries) hello_host));
  totals = record { dropped = refl; overrun = refl; broken = refl; faults = λ some. absurd (omega (arith, some)) };
}

-- The second connection has a later number than the first, so its stream is the second one, or there is none: nothing was written there.
none_written : (c : Connection) → c.flow ≡ host_flow 1024 52 → 2 ≤ c.number → host_wrote c two_streams ≡ []
none_written c same more =
    ap (λ (f : Flow). option_map_or wrote_after_connect (option_and_then (λ id. stream_at id two_streams)
    (slice_get (labelled_with f two_streams) (c.number - 1))) []) same ∙ by (c.number - 1) (omega (arith, more))
  where
    by : (n : ℕ) → 1 ≤ n → option_map_or wrote_after_connect (option_and_then (λ id. stream_at id two_streams)
        (slice_get (labelled_with (host_flow 1024 52) two_streams) n)) [] ≡ []
    by zero more = absurd (omega (arith, more))
    by (suc zero) more = refl
    by (suc (suc n)) more = refl

pub never_swapped : (opened : ℕ → Connection) (log : Log) → swapped_is_right opened log → ⊥
never_swapped opened log report =
    let P : Opened → Type 0 = IsRightConnection opened log (calls_of again (codes "abc") swapped_entries) two_streams in
    let first : Opened = record { id = 1; flow = host_flow 1024 52 } in
    let second : Opened = record { id = 2; flow = host_flow 1024 52 } in
    let one = All-head P first (second ∷ []) report.connections in
    let two = All-head P second [] (All-tail P first (second ∷ []) report.connections) in
    let some = one.some in
    let later = report.rising 1 2 (omega arith) two.some (one.flow ∙ sym two.flow) in
    let none = none_written (opened 2) two.flow (omega (arith, some, later)) in
    let front : IsPrefixOf (codes "abc") [] = subst (IsPrefixOf (codes "abc")) none two.to_guest in
    let no = front.1 in absurd cc
