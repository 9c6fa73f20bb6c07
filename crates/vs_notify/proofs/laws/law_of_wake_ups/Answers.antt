use Rattle.vs_notify.{specs.Machine.{start, run}, proofs.Kept.{near, told, loses_none, free_may_publish, start_near, start_told}}
use Rattle.vs_notify.proofs.laws.law_of_wake_ups.Goals as goal

pub returns-clause-loses_none : goal.returns-clause-loses_none
returns-clause-loses_none c = λ mode size events small.
    loses_none mode size (run mode size events start) (near mode size events start (start_near size))
    (told mode size events start small (start_near size) (start_told mode))

pub returns-clause-in_flight : goal.returns-clause-in_flight
returns-clause-in_flight c = λ mode size events. let n = near mode size events start (start_near size) in (n.taken_behind, n.has_room)

pub returns-clause-since_load : goal.returns-clause-since_load
returns-clause-since_load c = λ mode size events. let n = near mode size events start (start_near size) in (n.loaded_behind, n.loaded_near)

pub returns-clause-may_publish : goal.returns-clause-may_publish
returns-clause-may_publish c = λ mode size n events small.
    free_may_publish mode size n (run mode size events start) small (near mode size events start (start_near size))
    (told mode size events start small (start_near size) (start_told mode))
