use Rattle.laws_proxy.proofs.Account.Carrying.{carries}
use Rattle.laws_proxy.proofs.payload.law_of_streams.Goals as goal

pub returns : goal.returns
returns c = record { carries = λ s calls holds. carries calls s.device.table s.handshakes holds }
