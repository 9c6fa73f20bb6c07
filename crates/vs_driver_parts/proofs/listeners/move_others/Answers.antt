use Rattle.std.proofs.Common.{◌≡◌, ◌++◌, ◌∙◌, ap, arith, length, rules, nat_eq}
use Rattle.indexmap.specs.{Drain.drain_rest, IndexMap.insert_entry}
use Rattle.vs_flow.proofs.Keys.{IsNextPair}
use Rattle.vs_driver_parts.{specs.ListenerFields.others, proofs.{ListenerChanges.{next_other, no_more}, listeners.move_others.Goals.After-insert}}
use Rattle.vs_driver_parts.proofs.listeners.move_others.Goals as goal

next : (c : After-insert) → IsNextPair nat_eq c.loop-listened.to.entries (others c.args.port (drain_rest c.next.new.self))
    (others c.args.port c.args.from.now.entries) c.in-Some.listened c.in-Some.waiting
next c = next_other c.args.port c.loop-listened.to.entries (drain_rest c.next.new.self) c.args.from.now.entries c.in-Some.listened c.in-Some.waiting
    c.len-all.ensures.unique (rw c.in-Some.ensures.steps.0 at c.loop-listened.invariant.3) c.if-listened-port.true

pub unwrap-requires : goal.unwrap-requires
unwrap-requires c = c.insert.ensures.succeeds (omega (
  arith,
  (next c).within,
  no_more c.args.port c.args.from.now.entries,
  c.loop-listened.invariant.4,
  c.requires.room,
))

pub loop-listened-preserved-then-listened-port : goal.loop-listened-preserved-then-listened-port
loop-listened-preserved-then-listened-port c =
    let pair = next (goal.at.loop-listened-preserved-then-listened-port c).After-insert in
    let put : c.insert.new.self.entries ≡ insert_entry nat_eq c.loop-listened.to.entries c.in-Some.listened c.in-Some.waiting =
    rw c.unwrap.ensures at c.insert.ensures.entries in (
      tt,
      tt,
      search rules,
      ap (λ es. es ++ others c.args.port (drain_rest c.next.new.self)) put ∙ pair.seam,
      omega (arith, c.loop-listened.invariant.4, c.insert.ensures.spare, ap length put, pair.long),
    )
