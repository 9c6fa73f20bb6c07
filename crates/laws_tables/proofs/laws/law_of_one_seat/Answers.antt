use Rattle.std.proofs.Common.{List, ℕ}
use Rattle.vs_page.specs.Log.{Role}
use Rattle.laws_tables.specs.{Both.MayStepAll, Both.Step, Both.after_all, Both.new_seat, Heard.IsOrderedLog, Matches.Matches}
use Rattle.laws_tables.proofs.{Both.all_keep, Both.seat_keeps, Keeps.start_matches, Tables.all_open}
use Rattle.laws_tables.proofs.laws.law_of_one_seat.Goals as goal

pub returns-clause-keeps : goal.returns-clause-keeps
returns-clause-keeps c = seat_keeps

from_new : (role : Role) (first port : ℕ) (steps : List Step) → MayStepAll role steps (new_seat first port)
    → let w = after_all role steps (new_seat first port) in IsOrderedLog role w.log → Matches role first w.part w.log
from_new role first port steps may ordered = all_keep role first steps (new_seat first port) may (start_matches role first port) ordered

pub returns-clause-matches : goal.returns-clause-matches
returns-clause-matches c = from_new

pub returns-clause-table : goal.returns-clause-table
returns-clause-table c = λ role first port steps f may ordered.
    let w = after_all role steps (new_seat first port) in
    all_open role first w.part w.log f (from_new role first port steps may ordered).flows
