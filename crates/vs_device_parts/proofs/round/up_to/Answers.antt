use Rattle.std.proofs.{Common.{rules, of_calls, nat_le}, lemmas.Fn.always_returns_same}
use Rattle.vs_device_parts.proofs.Rounds.{are_parted, parted_by}
use Rattle.vs_device_parts.proofs.round.up_to.Goals as goal

pub returns-clause-above : goal.returns-clause-above
returns-clause-above c =
    let halves = c.partition_point.ensures.partitioned (λ slot. nat_le slot c.args.last) (always_returns_same _ _ _ (λ a r f k. search (rules, of_calls)))
    (parted_by c.args.last c.args.slots.now c.requires.rising) in
    (are_parted c.args.last c.args.slots.now c.partition_point.result c.partition_point.ensures.bound halves.0 halves.1).above

pub returns-clause-others : goal.returns-clause-others
returns-clause-others c =
    let halves = c.partition_point.ensures.partitioned (λ slot. nat_le slot c.args.last) (always_returns_same _ _ _ (λ a r f k. search (rules, of_calls)))
    (parted_by c.args.last c.args.slots.now c.requires.rising) in
    (are_parted c.args.last c.args.slots.now c.partition_point.result c.partition_point.ensures.bound halves.0 halves.1).others
