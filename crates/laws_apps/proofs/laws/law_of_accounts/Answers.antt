use Rattle.std.proofs.Common.{◌∙◌}
use Rattle.laws_driver.specs.Carried.Calls.{account_of}
use Rattle.laws_apps.proofs.{Calling.{call_accounted, call_honest, entry_accounted, poll_accounted}, Naming.sent_by_id, Noting.{call_noted, same_accounted}}
use Rattle.laws_apps.proofs.laws.law_of_accounts.Goals as goal

pub returns-clause-call : goal.returns-clause-call
returns-clause-call c = λ first first_id journal entries call s r d x right honest accounted plays.
    call_accounted first call s r d x right honest plays first_id journal entries accounted

pub returns-clause-poll : goal.returns-clause-poll
returns-clause-poll c = poll_accounted

pub returns-clause-honest : goal.returns-clause-honest
returns-clause-honest c = λ first call s r d x right honest plays. call_honest first call s r d x right honest plays

pub returns-clause-noted : goal.returns-clause-noted
returns-clause-noted c = λ first_id journal entries call s r d x plays accounted.
    same_accounted first_id _ _ entries x.0 d (call_noted s journal call r d x plays) accounted

pub returns-clause-entry : goal.returns-clause-entry
returns-clause-entry c = entry_accounted

pub returns-clause-ids : goal.returns-clause-ids
returns-clause-ids c = λ first_id id opened journal log slots right some.
    right.sent.puts (opened id) ∙ sent_by_id (account_of first_id opened journal) log slots right.received id some journal right.sent.senders
