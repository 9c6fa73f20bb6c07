use Rattle.vs_script.{specs.{Script.numbered_event, declared.script.TheConstants.MAX_EVENTS}, proofs.Adding.{pushed-ok, pushed-fault}}
use Rattle.vs_script.proofs.script.add_event.Goals as goal

pub returns-clause-ok : goal.returns-clause-ok
returns-clause-ok c =
    rw c.in_ok-line.ensures.ok (pushed-ok numbered_event MAX_EVENTS c.args.lines.now.items _ c.push.new.xs.items c.push.result c.push.ensures.ok)

pub returns-clause-fault : goal.returns-clause-fault
returns-clause-fault c =
    rw c.in_ok-line.ensures.ok (pushed-fault numbered_event MAX_EVENTS c.args.lines.now.items _ c.push.result c.push.ensures.fault)
