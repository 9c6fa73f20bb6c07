-- A run at first.
use Rattle.std.{proofs.Common.{◌≡◌, ℕ, ◌≤◌, List, [], length, refl, sym, ap, subst}, specs.Prelude.slice_index_or}
use Rattle.vs_limits.specs.declared.TheConstants.{LAST_PORT}
use Rattle.vs_ring_port.specs.Contents.{RingContents}
use Rattle.vs_driver_parts.specs.{Conversations.new_of, Playing.Plays, State.DriverState}
use Rattle.laws_driver.{specs.{Honest.IsFresh, Carried.Received.no_account}, proofs.{Calls.new_honest, Carried.Ending.new_righted}}
use Rattle.laws_rest.proofs.Routes.{new_routed}
use Rattle.vs_apps_parts.specs.{Scripts.{IsPlayed, RunScript, acts_of}, declared.progress.AppState.AppState}
use Rattle.laws_apps.{proofs.{Answering.new_answered, Placing.new_placed, Tracing.new_traced}, specs.Runs.{IsRunOf, no_app}}

pub begins_run : (size port : ℕ) (c d : RingContents) (s : DriverState) (script : RunScript) (apps : List AppState) → port ≤ LAST_PORT
    → IsFresh c → Plays (new_of size port 1) c s d → length apps ≡ length script → ((k : ℕ) → slice_index_or apps k no_app ≡ no_app)
    → IsRunOf s.cid script (record { driver = s; ring = d; apps = apps; entries = []; bytes = [] })
begins_run size port c d s script apps fits fresh plays as_many begun = record {
  apps = as_many;
  kept = record {
    honest = new_honest size port 1 c d s fits fresh plays;
    routed = new_routed size port 1 c d s fits fresh plays;
    accounted = λ on l is. ((no_account 1).opened, record { right = new_righted size port 1 c d s fits fresh plays on l is; flows = tt });
    stands = tt;
    places = new_placed (length script) size port c d s fits fresh plays;
    traced = new_traced size port c d s fits fresh plays;
    given = new_answered size port c d s fits fresh plays;
  };
  follows = λ k below. subst (λ (x : AppState). IsPlayed (acts_of k script) [] x.progress) (sym (begun k)) ([], refl, refl);
  waits = λ k below. ap (λ (x : AppState). x.waiting) (begun k);
}
