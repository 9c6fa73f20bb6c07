use Rattle.vs_core.proofs.Opened.{begun_as, begun_ready}
use Rattle.vs_core.proofs.world.World.new.Goals as goal

pub returns-clause-opened : goal.returns-clause-opened
returns-clause-opened c =
    begun_as c.args.n c.args.base.now c.in_ok-rings.rings c.in_ok-rings.driver c.in_ok-proxy.proxy c.in_ok-proxy.host c.in_ok-rings.ensures.played
    c.in_ok-proxy.ensures.proxy c.in_ok-proxy.ensures.host

pub returns-clause-ready : goal.returns-clause-ready
returns-clause-ready c =
    begun_ready c.args.n c.args.base.now c.in_ok-rings.rings c.in_ok-rings.driver c.in_ok-proxy.proxy c.in_ok-proxy.host c.in_ok-rings.ensures.played
    c.in_ok-proxy.ensures.proxy c.in_ok-proxy.ensures.host c.in_ok-rings.ensures.driven
