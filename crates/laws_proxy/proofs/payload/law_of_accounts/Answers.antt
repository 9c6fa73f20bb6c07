use Rattle.vs_proxy_parts.specs.Turns.{proxy_reset_of, turn_of}
use Rattle.laws_proxy.proofs.Account.{Keeping.keeps_end, Opening.new_agrees, Turning.keeps_proxy_reset, Turning.keeps_turn}
use Rattle.laws_proxy.proofs.payload.law_of_accounts.Goals as goal

pub returns-clause-new : goal.returns-clause-new
returns-clause-new c = λ cid base port. new_agrees _

pub returns-clause-turn : goal.returns-clause-turn
returns-clause-turn c = λ size now s calls later x holds leads.
    keeps_end _ (turn_of size now s) calls later x (keeps_turn size now s calls holds) leads

pub returns-clause-reset : goal.returns-clause-reset
returns-clause-reset c = λ cid s calls later x holds leads.
    keeps_end _ (proxy_reset_of cid s) calls later x (keeps_proxy_reset cid s calls holds) leads
