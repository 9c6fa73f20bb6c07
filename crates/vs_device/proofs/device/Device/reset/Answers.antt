use Rattle.std.proofs.Common.{◌≡◌, None, ap, ◌∙◌, rules, arith}
use Rattle.vs_device_parts.specs.State.{DeviceState}
use Rattle.vs_device.proofs.{Among.same_ring, Resetting.{may_close_all, was_reset}, Ordered.{reset_honest, reset_streamed, reset_streams}, Accounted.reset_accounted}
use Rattle.vs_device.proofs.device.Device.reset.Goals as goal

pub close_all-requires : goal.close_all-requires
close_all-requires g c =
    let sound : c.args.self.now.failed ≡ None = rw (← c.self.view_is) (search rules) in
    record { may = (_, may_close_all c.args.cid c.args.self.now sound _ c.requires.may) }

pub returns-clause-calls : goal.returns-clause-calls
returns-clause-calls g c =
    let sound : c.args.self.now.failed ≡ None = rw (← c.self.view_is) (search rules) in
    was_reset c.args.cid c.args.self.now sound _ _ _ _ _ (c.close_all.ensures.calls _) (c.publish_cid.ensures.calls _ _) c.forget.ensures

pub returns-clause-streams : goal.returns-clause-streams
returns-clause-streams g c = reset_streams c.args.self.now _ _ c.args.cid _ (returns-clause-calls g c)

pub returns-clause-honest : goal.returns-clause-honest
returns-clause-honest g c = let low = c.requires.cid.1 in reset_honest c.args.self.now _ _ c.args.cid _ (omega (arith, low)) (returns-clause-calls g c)

pub returns-clause-streamed : goal.returns-clause-streamed
returns-clause-streamed g c = let low = c.requires.cid.1 in reset_streamed c.args.self.now _ _ c.args.cid _ (omega (arith, low)) (returns-clause-calls g c)

pub returns-clause-bytes : goal.returns-clause-bytes
returns-clause-bytes g c = reset_accounted c.args.self.now _ _ c.args.cid _ (returns-clause-calls g c)

pub returns-clause-held : goal.returns-clause-held
returns-clause-held g c = c.publish_cid.ensures.held

pub returns-clause-chain : goal.returns-clause-chain
returns-clause-chain g c = ap (λ (s : DeviceState). s.chain) c.forget.ensures ∙ c.close_all.ensures.chain

pub returns-clause-ring : goal.returns-clause-ring
returns-clause-ring g c = λ its _.
    let sound : c.args.self.now.failed ≡ None = rw (← c.self.view_is) (search rules) in
    same_ring _ _ _ _ (returns-clause-held g c) (returns-clause-chain g c) (its sound)
