use Rattle.std.{proofs.Common.Option, proofs.Common.sym, proofs.Common.ap, proofs.Common.subst, proofs.Common.◌∙◌, specs.Option.IfSome}
use Rattle.vs_ring_port.specs.declared.device_ring.Chain.{Chain}
use Rattle.vs_device_parts.specs.Playing.{IsRxChain, held_by}
use Rattle.vs_device.proofs.{Returning.returned_unread, Takings.{heard_failed, heard_returned, may_hear, newest_held, without_newest}}
use Rattle.vs_device.proofs.device.Device.take_chain.Goals as goal

pub hear-requires-clause-is_held : goal.hear-requires-clause-is_held
hear-requires-clause-is_held g c = newest_held c.args.chain _ _ c.requires.held

pub hear-requires-clause-may : goal.hear-requires-clause-may
hear-requires-clause-may g c = may_hear c.args.chain c.args.self.now _ c.requires.may

pub return_read-requires-clause-is_held : goal.return_read-requires-clause-is_held
return_read-requires-clause-is_held g c = newest_held c.args.chain _ _ (c.in-Ok.ensures.held ∙ c.requires.held)

pub return_read-requires-clause-may : goal.return_read-requires-clause-may
return_read-requires-clause-may g c = returned_unread c.args.chain _ c.requires.queue

pub returns-in-Ok-clause-ring : goal.returns-in-Ok-clause-ring
returns-in-Ok-clause-ring g c = λ _. record {
  chains = c.return_read.ensures.held
      ∙ (without_newest c.args.chain _ _ (c.in-Ok.ensures.held ∙ c.requires.held) ∙ ap held_by (sym c.in-Ok.ensures.chain));
  rx = let P : Option Chain → Type 0 = λ o. IfSome o IsRxChain in subst P (sym c.in-Ok.ensures.chain) c.requires.rx;
}

pub returns-in-Ok-clause-calls : goal.returns-in-Ok-clause-calls
returns-in-Ok-clause-calls g c =
    heard_returned c.args.chain c.args.self.now _ _ _ _ _ c.in-Ok.ensures.calls (c.return_read.ensures.calls _ _)

pub returns-in-Err-clause-calls : goal.returns-in-Err-clause-calls
returns-in-Err-clause-calls g c = heard_failed c.args.chain c.args.self.now _ _ _ _ c.in-Err.ensures.calls
