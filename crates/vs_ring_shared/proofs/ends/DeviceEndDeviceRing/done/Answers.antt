use Rattle.std.proofs.Common.{sym, ap, ◌∙◌, subst}
use Rattle.vs_ring_list.proofs.Held.{chains_of-without_held}
use Rattle.vs_ring_port.specs.{Chains.chains_of, Chains.without, Contents.Return, DeviceCalls.CanReturn, DeviceCalls.DeviceAllows}
use Rattle.vs_ring_shared.{specs.Sights.DeviceSight, specs.Sights.device_contents, proofs.Exposed.allows_return, proofs.Exposed.may_return}
use Rattle.vs_ring_shared.proofs.ends.DeviceEndDeviceRing.done.Goals as goal

pub give_back-requires-clause-fair : goal.give_back-requires-clause-fair
give_back-requires-clause-fair g c =
    let can = subst (λ (s : DeviceSight). CanReturn c.args.chain c.args.len (device_contents s)) (sym c.self.view_is) c.requires.written in
    may_return c.args.chain c.args.len c.self.inside.side can c.laws_of_device_side.ensures.fair

pub returns-clause-held : goal.returns-clause-held
returns-clause-held g c =
    ap (λ (s : DeviceSight). chains_of s.held) c.give_back.ensures ∙ chains_of-without_held c.args.chain c.self.inside.side.held
    ∙ ap (λ (s : DeviceSight). without c.args.chain (chains_of s.held)) c.self.view_is

pub returns-clause-contents : goal.returns-clause-contents
returns-clause-contents g c =
    let can = subst (λ (s : DeviceSight). CanReturn c.args.chain c.args.len (device_contents s)) (sym c.self.view_is) c.requires.written in
    subst (λ (s : DeviceSight). DeviceAllows (Return c.args.chain c.args.len) tt (device_contents s) (device_contents c.give_back.new.self))
    c.self.view_is (allows_return c.args.chain c.args.len c.self.inside.side c.give_back.new.self c.give_back.ensures can
    c.laws_of_device_side.ensures.fair)
