-- All are computed.
use Rattle.std.{proofs.Common.refl, specs.Fmt.digits}
use Rattle.hex.specs.Hex.{encode_with}
use Rattle.vs_play.proofs.examples.worked_examples.Goals as goal

pub returns-clause-client : goal.returns-clause-client
unfolding digits encode_with
returns-clause-client c = refl

pub returns-clause-resets : goal.returns-clause-resets
unfolding digits encode_with
returns-clause-resets c = refl

pub returns-clause-timeout : goal.returns-clause-timeout
unfolding digits encode_with
returns-clause-timeout c = refl

pub returns-clause-bad_hex : goal.returns-clause-bad_hex
unfolding digits encode_with
returns-clause-bad_hex c = refl
