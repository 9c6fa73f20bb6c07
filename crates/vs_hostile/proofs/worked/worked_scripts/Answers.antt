-- All are computed.
use Rattle.std.{proofs.Common.refl, specs.Fmt.digits}
use Rattle.hex.specs.Hex.{encode_with}
use Rattle.vs_hostile.proofs.worked.worked_scripts.Goals as goal

pub returns-clause-available_index_jumps : goal.returns-clause-available_index_jumps
unfolding digits encode_with
returns-clause-available_index_jumps c = refl

pub returns-clause-address_out_of_memory : goal.returns-clause-address_out_of_memory
unfolding digits encode_with
returns-clause-address_out_of_memory c = refl
