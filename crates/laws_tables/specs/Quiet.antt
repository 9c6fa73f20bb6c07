-- Nothing of a flow is under way.
use Rattle.std.specs.Prelude.{◌≡◌, false, []}
use Rattle.vs_flow.specs.declared.flow.Flow.{Flow}
use Rattle.laws_history.specs.History.{gots, puts}
use Rattle.vs_page.specs.{Fair.number_of, Log.Role, Log.other_role, Log.whole_of}
use Rattle.laws_tables.specs.{Both.Both, Both.at, Ends.ends_of, Ends.is_among, Ends.replied}

-- Each end got all that the other put on the flow, so that both count as many connections, and the other has no connection on it and owes
-- it no reply.
pub record IsQuietOn (role : Role) (f : Flow) (b : Both) : Type 0 where
  pub came : puts (whole_of (other_role role) f (at (other_role role) b).log) ≡ gots (whole_of role f (at role b).log)
  pub went : puts (whole_of role f (at role b).log) ≡ gots (whole_of (other_role role) f (at (other_role role) b).log)
  pub no_end : ends_of f (at (other_role role) b).part.entries ≡ []
  pub no_reply : is_among f (replied (at (other_role role) b).part.replies) ≡ false
  pub numbers : number_of role f (at role b).log ≡ number_of (other_role role) f (at (other_role role) b).log
