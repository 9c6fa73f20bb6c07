use Rattle.std.proofs.Common.{ℕ, sym, ap, ◌∙◌}
use Rattle.vs_driver_parts.specs.{State.DriverState, Conversations.post_all, Conversations.posts, Conversations.publish_of}
use Rattle.vs_driver.proofs.Rest.{all_left, may_next, then}
use Rattle.vs_driver.proofs.driver.Driver.post_all.Goals as goal

pub stage_all-requires-clause-may : goal.stage_all-requires-clause-may
stage_all-requires-clause-may g c =
    may_next (posts c.args.queue c.args.self.now) (publish_of c.args.queue) (all_left (post_all c.args.queue c.args.self.now) _)
    c.requires.may

pub publish_staged-requires-clause-may : goal.publish_staged-requires-clause-may
publish_staged-requires-clause-may g c =
    (then (posts c.args.queue c.args.self.now) (publish_of c.args.queue) (all_left (post_all c.args.queue c.args.self.now) _)
    c.stage_all.new.self _ c.stage_all.ensures.calls).may
    c.requires.may

pub returns-clause-calls : goal.returns-clause-calls
returns-clause-calls g c =
    (then (posts c.args.queue c.args.self.now) (publish_of c.args.queue) (all_left (post_all c.args.queue c.args.self.now) _)
    c.stage_all.new.self _ c.stage_all.ensures.calls).goes_on
    _ _ c.publish_staged.ensures.calls

pub returns-clause-state : goal.returns-clause-state
returns-clause-state g c =
    c.publish_staged.ensures.state ∙ (ap (λ (x : DriverState). record x { staged = 0 }) c.stage_all.ensures.state
    ∙ ap (λ (n : ℕ). let s : DriverState = c.args.self.now in record s { staged = n }) (sym c.requires.none))
