use Rattle.std.proofs.Common.{◌≡◌, refl, sym, ◌∙◌}
use Rattle.vs_ring_port.specs.declared.queue.Queue.TheVariants.{Rx, Tx}
use Rattle.vs_device.proofs.{Returning.returned_unread, Stepping.returned_among}
use Rattle.vs_device.proofs.steps.return_chain.Goals as goal

pub return_read-requires-clause-may : goal.return_read-requires-clause-may
return_read-requires-clause-may g c = returned_unread c.args.chain _ c.requires.queue

pub returns-clause-ring : goal.returns-clause-ring
returns-clause-ring g c =
    returned_among c.args.chain _ _ c.args.device.now c.args.device.now (λ rx. let no : Tx ≡ Rx = sym c.requires.queue ∙ rx in absurd (cc))
    c.return_read.ensures.held refl c.requires.ring

pub returns-clause-calls : goal.returns-clause-calls
returns-clause-calls g c = λ host faults. (tt, _, c.return_read.ensures.calls host faults, (refl, refl))
