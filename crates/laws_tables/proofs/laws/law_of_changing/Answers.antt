use Rattle.vs_conn.specs.End.{aborted, grown, wanting_credit, with_payload_forwarded, with_shut}
use Rattle.vs_conn.proofs.Steps.{abort_follows, ask_follows, forward_follows, grow_follows, shut_follows}
use Rattle.std.proofs.Common.{refl}
use Rattle.laws_tables.proofs.Keeps.{changes}
use Rattle.laws_tables.proofs.laws.law_of_changing.Goals as goal

pub returns-clause-changes : goal.returns-clause-changes
returns-clause-changes c = changes

pub returns-clause-forwards : goal.returns-clause-forwards
returns-clause-forwards c = λ role first f e n part log m has old unread.
    changes role first f e (with_payload_forwarded e n) part log m has old refl (λ follows. forward_follows _ _ _ e n follows unread)

pub returns-clause-shuts : goal.returns-clause-shuts
returns-clause-shuts c = λ role first f e bits part log m has old.
    changes role first f e (with_shut e bits) part log m has old refl (λ follows. shut_follows _ _ _ e bits follows)

pub returns-clause-aborts : goal.returns-clause-aborts
returns-clause-aborts c = λ role first f e part log m has old.
    changes role first f e (aborted e) part log m has old refl (λ follows. abort_follows _ _ _ e follows)

pub returns-clause-wants_credit : goal.returns-clause-wants_credit
returns-clause-wants_credit c = λ role first f e part log m has old.
    changes role first f e (wanting_credit e) part log m has old refl (λ follows. ask_follows _ _ _ e follows)

pub returns-clause-grows : goal.returns-clause-grows
returns-clause-grows c = λ role first f e alloc part log m has old live more most.
    changes role first f e (grown e alloc) part log m has old refl (λ follows. grow_follows _ _ _ e alloc follows live more most)
