-- All are computed.
use Rattle.std.{proofs.Common.refl, specs.Fmt.digits}
use Rattle.hex.specs.Hex.{encode_with}
use Rattle.laws_play.proofs.examples.worked_examples.Goals as goal

pub returns-clause-client : goal.returns-clause-client
unfolding digits encode_with
returns-clause-client c = refl

pub returns-clause-client_tables : goal.returns-clause-client_tables
unfolding digits encode_with
returns-clause-client_tables c = refl

pub returns-clause-resets : goal.returns-clause-resets
unfolding digits encode_with
returns-clause-resets c = refl

pub returns-clause-reset_tables : goal.returns-clause-reset_tables
unfolding digits encode_with
returns-clause-reset_tables c = refl

pub returns-clause-named : goal.returns-clause-named
unfolding digits encode_with
returns-clause-named c = refl

pub returns-clause-named_again : goal.returns-clause-named_again
unfolding digits encode_with
returns-clause-named_again c = refl
