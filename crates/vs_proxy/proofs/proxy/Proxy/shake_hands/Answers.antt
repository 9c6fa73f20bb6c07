use Rattle.vs_contents.proofs.{Leads.leads_bind, Conditions.may_rest}
use Rattle.vs_proxy.proofs.proxy.Proxy.shake_hands.Goals as goal

pub read_lines-requires-clause-may : goal.read_lines-requires-clause-may
read_lines-requires-clause-may g c = (_, may_rest _ _ _ _ _ _ _ c.requires.may.1 (c.accept_one.ensures.calls c.requires.may.0))

pub returns-clause-calls : goal.returns-clause-calls
returns-clause-calls g c = λ ring. leads_bind _ _ _ _ _ _ _ _ (c.accept_one.ensures.calls ring) (c.read_lines.ensures.calls ring)
