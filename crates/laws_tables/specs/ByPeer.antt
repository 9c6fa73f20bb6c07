-- What an end keeps whose log is fair by the peer: packets may come that a switch passed on from another guest.
use Rattle.std.specs.Prelude.{ℕ}
use Rattle.vs_flow.specs.declared.flow.Flow.{Flow}
use Rattle.vs_page.specs.{Fair.IsFairLogByPeer, Log.{Log, Role}}
use Rattle.laws_tables.specs.Heard.{IsWithinCredit}

-- The log is fair by the peer, and what was put on each flow is within the credit that was heard there.
pub record IsSoundByPeer (role : Role) (first : ℕ) (log : Log) : Type 0 where
  pub fair : IsFairLogByPeer role log
  pub within : (f : Flow) → IsWithinCredit role first f log
