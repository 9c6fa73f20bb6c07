use Rattle.vs_contents.proofs.Leads.{end_of}
use Rattle.vs_device_parts.specs.Calls.{Allows}
use Rattle.vs_proxy_parts.specs.Turns.{proxy_reset_of}
use Rattle.laws_proxy.proofs.Emptying.{Emptied, reset_empties}
use Rattle.laws_proxy.proofs.laws.law_of_emptied_tables.Goals as goal

pub returns : goal.returns
returns c = λ cid s a b x fine runs. end_of Emptied Allows (proxy_reset_of cid s) a b x (reset_empties cid s fine) runs
