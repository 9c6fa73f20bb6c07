-- Where the counts of pages meet, each end took all that the other gave.
use Rattle.std.proofs.{Common.{◌≡◌, ◌≤◌, ℕ, length, arith}, lemmas.Grind.common_steps}
use Rattle.vs_ring_rule.specs.Rule.{IsFront}
use Rattle.laws_rest.specs.Pages.{AllGiven, AreTied, NoneInFlight, Pages, Queued}

front_all : (old new : Pages) → IsFront old new → length new ≤ length old → new ≡ old
front_all old new front least = grind (arith, common_steps)

pub all_there : (q : Queued) → AreTied q → NoneInFlight q → q.driver_gave ≡ q.device_took
all_there q tied none = grind (arith, common_steps)

pub all_back : (n : ℕ) (q : Queued) → AreTied q → AllGiven n q → q.device_gave ≡ q.driver_took
all_back n q tied all = front_all q.driver_took q.device_gave tied.back (omega (arith, all.flight, all.given))
