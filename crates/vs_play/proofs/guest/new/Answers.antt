use Rattle.std.proofs.Common.{◌≡◌, ℕ, [], Option, unwrap_or, refl, sym, ap, subst, ◌∙◌}
use Rattle.vs_ring_port.specs.{Counts.no_counts, EndLog.EndLog, EndLog.empty_log}
use Rattle.vs_ring_list.specs.Ends.{driver_contents, empty_ends, flight_of, staged_of}
use Rattle.vs_driver_parts.specs.Conversations.{new_of}
use Rattle.laws_driver.specs.Honest.{IsFresh}
use Rattle.laws_world.specs.Over.{over_lists}
use Rattle.vs_play.proofs.OverRings.{driven_as, played_as}
use Rattle.vs_play.proofs.guest.new.Goals as goal

pub new_at-requires-clause-unused : goal.new_at-requires-clause-unused
new_at-requires-clause-unused g c =
    (g.met.R.BothEnds.driver c.args.rings.now).flight_is ∙ subst (λ e. flight_of e ≡ no_counts) (sym c.requires.empty.1) refl

pub new_at-requires-clause-none_staged : goal.new_at-requires-clause-none_staged
new_at-requires-clause-none_staged g c =
    (g.met.R.BothEnds.driver c.args.rings.now).staged_is ∙ subst (λ e. staged_of e ≡ no_counts) (sym c.requires.empty.1) refl

-- Nothing was put or got.
fresh : (n : ℕ) → IsFresh (driver_contents (empty_ends n))
fresh n honest l is =
    let same : empty_log ≡ l = ap (λ (o : Option EndLog). unwrap_or o empty_log) is in
    subst (λ (x : EndLog). (x.entries ≡ []) × (x.staged.tx ≡ [])) same (refl, refl)

pub new_at-requires-clause-fresh : goal.new_at-requires-clause-fresh
new_at-requires-clause-fresh g c =
    subst IsFresh (sym (g.met.R.BothEnds.driver c.args.rings.now).exposes)
    (subst (λ e. IsFresh (driver_contents e)) (sym c.requires.empty.1) (fresh c.requires.empty.0))

pub returns-clause-played : goal.returns-clause-played
returns-clause-played g c =
    let old = g.met.R.BothEnds.driver c.args.rings.now in
    let e = g.R.BothEnds.ends c.args.rings.now in
    subst (λ n. over_lists (new_of n c.args.first 1) e ≡ (c.in_ok-driver.driver, g.R.BothEnds.ends c.new_at.new.ring)) old.size_is
    (played_as _ _ _ _ _ _ _ _ _ _ _ _ old (g.met.R.BothEnds.driver c.new_at.new.ring) c.in_ok-driver.ensures.calls)

pub returns-clause-driven : goal.returns-clause-driven
returns-clause-driven g c =
    driven_as _ _ _ _ _ (g.met.R.BothEnds.driver c.new_at.new.ring) _ _ _ c.in_ok-driver.ensures.ring c.in_ok-driver.ensures.honest
