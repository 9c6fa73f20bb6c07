use Rattle.std.proofs.Common.{◌≡◌, ℕ, true, [], Option, unwrap_or, refl, sym, ap, subst}
use Rattle.vs_ring_port.specs.{Counts.no_counts, EndLog.EndLog, EndLog.empty_log}
use Rattle.vs_ring_list.specs.Ends.{Ends, driver_contents, empty_ends, flight_of, staged_of}
use Rattle.vs_driver_parts.specs.{Conversations.new_of, Playing.Plays, State.DriverState}
use Rattle.vs_limits.specs.declared.TheConstants.{FIRST_PORT}
use Rattle.laws_driver.specs.Honest.{IsFresh, IsHonestWith}
use Rattle.laws_world.{proofs.OverLists.over, specs.Over.over_lists}
use Rattle.vs_core.proofs.{Driven.rested, Opened.cid_of}
use Rattle.vs_core.proofs.world.guest_end.Goals as goal

pub new-requires-2-clause-unused : goal.new-requires-2-clause-unused
new-requires-2-clause-unused c = subst (λ e. flight_of e ≡ no_counts) (sym c.in_ok-rings.ensures) refl

pub new-requires-2-clause-none_staged : goal.new-requires-2-clause-none_staged
new-requires-2-clause-none_staged c = subst (λ e. staged_of e ≡ no_counts) (sym c.in_ok-rings.ensures) refl

-- Nothing was put or got.
fresh : (n : ℕ) → IsFresh (driver_contents (empty_ends n))
fresh n honest l is =
    let same : empty_log ≡ l = ap (λ (o : Option EndLog). unwrap_or o empty_log) is in
    subst (λ (x : EndLog). (x.entries ≡ []) × (x.staged.tx ≡ [])) same (refl, refl)

pub new-requires-2-clause-fresh : goal.new-requires-2-clause-fresh
new-requires-2-clause-fresh c = subst (λ e. IsFresh (driver_contents e)) (sym c.in_ok-rings.ensures) (fresh c.args.n)

-- Over the empty rings.
made : (n : ℕ) (v w : Ends) (s : DriverState) → v ≡ empty_ends n → Plays (new_of v.lists.size FIRST_PORT 1) (driver_contents v) s (driver_contents w)
    → over_lists (new_of n FIRST_PORT 1) (empty_ends n) ≡ (s, w)
made n v w s empty played =
    subst (λ (e : Ends). over_lists (new_of e.lists.size FIRST_PORT 1) e ≡ (s, w)) empty (over (new_of v.lists.size FIRST_PORT 1) v w s played)

pub returns-clause-played : goal.returns-clause-played
returns-clause-played c =
    made c.args.n c.in_ok-rings.rings c.new-2.new.ring c.in_ok-driver.driver c.in_ok-rings.ensures c.in_ok-driver.ensures.calls

pub returns-clause-driven : goal.returns-clause-driven
returns-clause-driven c =
    let played = made c.args.n c.in_ok-rings.rings c.new-2.new.ring c.in_ok-driver.driver c.in_ok-rings.ensures c.in_ok-driver.ensures.calls in
    rested c.in_ok-driver.driver c.new-2.new.ring c.in_ok-driver.ensures.ring
    (subst (λ cid. IsHonestWith true cid c.in_ok-driver.driver (driver_contents c.new-2.new.ring))
    (cid_of c.args.n c.new-2.new.ring c.in_ok-driver.driver played) c.in_ok-driver.ensures.honest)
