use Rattle.std.proofs.Common.{◌≤◌, length, refl, sym, ap, ◌∙◌, subst}
use Rattle.vs_ring_list.proofs.Held.{chains_of-with_bytes}
use Rattle.vs_ring_port.specs.{Chains.bytes_in, Chains.chains_of, Contents.Write, DeviceCalls.DeviceAllows}
use Rattle.vs_ring_shared.{specs.Sights.DeviceSight, specs.Sights.device_contents, specs.Sights.device_log, proofs.Exposed.allows_write}
use Rattle.vs_ring_shared.proofs.ends.DeviceEndDeviceRing.write.Goals as goal

pub write_into-requires-clause-no_gap : goal.write_into-requires-clause-no_gap
write_into-requires-clause-no_gap g c =
    subst (λ (s : DeviceSight). c.args.at ≤ length (bytes_in c.args.chain.now s.held)) (sym c.self.view_is)
    (c.requires.no_gap (device_log c.args.self.now) refl)

pub returns-clause-held : goal.returns-clause-held
returns-clause-held g c =
    ap (λ (s : DeviceSight). chains_of s.held) c.write_into.ensures ∙ chains_of-with_bytes c.args.chain.now _ c.self.inside.side.held
    ∙ ap (λ (s : DeviceSight). chains_of s.held) c.self.view_is

pub returns-clause-contents : goal.returns-clause-contents
returns-clause-contents g c =
    subst (λ (s : DeviceSight). DeviceAllows (Write c.args.chain.now c.args.at c.args.bytes.now) tt (device_contents s)
    (device_contents c.write_into.new.self)) c.self.view_is
    (allows_write c.args.chain.now c.args.at c.args.bytes.now c.self.inside.side c.write_into.new.self c.write_into.ensures
    c.laws_of_device_side.ensures.fair)
