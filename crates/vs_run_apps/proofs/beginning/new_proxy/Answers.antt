use Rattle.vs_run_apps.proofs.Rights.{based, ready}
use Rattle.vs_run_apps.proofs.beginning.new_proxy.Goals as goal

pub returns : goal.returns
returns c = record {
  base = based c.args.base.now c.new.result c.new.ensures.state;
  ready = ready c.args.base.now c.new.result c.new.ensures.state;
}
