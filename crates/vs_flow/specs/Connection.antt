-- Connections: each is of one flow, and the connections of a flow are counted from 1 in the order in which they were made.
use Rattle.std.specs.Prelude.{ℕ}
use Rattle.vs_flow.specs.declared.flow.Flow.{Flow}

pub record Connection : Type 0 where
  pub flow : Flow
  pub number : ℕ

-- the first connection of a flow
abbrev pub first_of : Flow → Connection
first_of f = record { flow = f; number = 1 }
