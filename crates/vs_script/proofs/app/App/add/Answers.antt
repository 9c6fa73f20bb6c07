use Rattle.vs_script.{specs.{App.instruction_view, declared.script.TheConstants.MAX_INSTRUCTIONS}, proofs.Adding.{pushed-ok, pushed-fault}}
use Rattle.vs_script.proofs.app.App.add.Goals as goal

pub returns-clause-ok : goal.returns-clause-ok
returns-clause-ok c =
    pushed-ok instruction_view MAX_INSTRUCTIONS c.args.self.now.instructions.items c.args.instruction c.push.new.xs.items c.push.result c.push.ensures.ok

pub returns-clause-fault : goal.returns-clause-fault
returns-clause-fault c =
    pushed-fault instruction_view MAX_INSTRUCTIONS c.args.self.now.instructions.items c.args.instruction c.push.result c.push.ensures.fault
