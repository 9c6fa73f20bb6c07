use Rattle.vs_play.proofs.Playing.{opens}
use Rattle.vs_play.proofs.play.Play.new.Goals as goal

pub returns : goal.returns
returns g c =
    opens c.requires.empty.0 c.args.first (g.R.BothEnds.ends c.args.rings) _ _ _ _ _ c.requires.empty.1 c.in_ok-driver.ensures.played c.in_ok-proxy.ensures c.in_ok-host.ensures
    c.in_ok-driver.ensures.driven c.at_start.ensures
