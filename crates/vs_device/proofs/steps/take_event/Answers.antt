use Rattle.std.proofs.Common.{◌≡◌, true, false, sym, rules}
use Rattle.vs_device.proofs.Stepping.{after_among, event_stepped}
use Rattle.vs_device.proofs.steps.take_event.Goals as goal

pub returns-then-owed-clause-ring : goal.returns-then-owed-clause-ring
returns-then-owed-clause-ring g c = after_among c.take-next.result _ _ c.args.device.now c.take-next.ensures.held c.requires.ring

pub returns-then-owed-clause-calls : goal.returns-then-owed-clause-calls
returns-then-owed-clause-calls g c = λ host faults.
    let owed : c.args.device.now.event_owed ≡ true = rw (← c.device.view_is) (sym c.if-owed.ensures) in
    event_stepped c.args.device.now c.take-next.result _ _ owed (c.take-next.ensures.calls host faults)

pub returns-else-owed-clause-calls : goal.returns-else-owed-clause-calls
returns-else-owed-clause-calls g c = λ host faults.
    let none : c.args.device.now.event_owed ≡ false = rw (← c.device.view_is) (sym c.if-owed.ensures) in
    search (rules, none)
