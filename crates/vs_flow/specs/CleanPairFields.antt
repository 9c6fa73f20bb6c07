-- How `CleanPairs` holds its flows. No public clause cites this module.
use Rattle.std.specs.Prelude.{◌≤◌, length, vec_capacity}
use Rattle.vs_flow.specs.declared.clean_pairs.CleanPairs.TheInside.{Inside}
use Rattle.vs_limits.specs.declared.TheConstants.{CLEAN_PAIRS}

-- no more flows than may be kept, and room for as many
pub record HasRoom (c : Inside) : Type 0 where
  pub within : length c.flows.items ≤ CLEAN_PAIRS
  pub room : CLEAN_PAIRS ≤ vec_capacity c.flows
