use Rattle.std.proofs.Common.{◌∙◌}
use Rattle.vs_core.proofs.DeviceHappening.{is_found}
use Rattle.vs_core.proofs.device_events.is_held.Goals as goal

pub returns : goal.returns
returns c = c.holds.ensures ∙ is_found c.args.chain.now c.args.rings.now.device.held
