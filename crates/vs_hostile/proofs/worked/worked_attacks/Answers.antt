-- All are computed.
use Rattle.std.{proofs.Common.refl, specs.Fmt.digits}
use Rattle.hex.specs.Hex.{encode_with}
use Rattle.vs_hostile.proofs.worked.worked_attacks.Goals as goal

pub returns-clause-length_changed : goal.returns-clause-length_changed
unfolding digits encode_with
returns-clause-length_changed c = refl

pub returns-clause-wrong_flows : goal.returns-clause-wrong_flows
unfolding digits encode_with
returns-clause-wrong_flows c = refl

pub returns-clause-pending_bytes : goal.returns-clause-pending_bytes
unfolding digits encode_with
returns-clause-pending_bytes c = refl

pub returns-clause-failure_stays : goal.returns-clause-failure_stays
unfolding digits encode_with
returns-clause-failure_stays c = refl
