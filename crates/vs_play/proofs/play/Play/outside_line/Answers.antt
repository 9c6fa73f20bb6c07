use Rattle.std.proofs.{Common.{sym, subst}, lemmas.Result.on_ok_weaker}
use Rattle.vs_script.specs.Outside.{host_view}
use Rattle.vs_play.{specs.Ready.{IsReady, PlayState}, proofs.Playing.{client_plays, grow_plays, host_plays, on_ok_both, reset_plays, tick_plays, turn_plays}}
use Rattle.vs_play.proofs.play.Play.outside_line.Goals as goal

pub returns-in-Turn : goal.returns-in-Turn
returns-in-Turn g c =
    let ready = subst IsReady (sym c.self.view_is) c.requires.ready in
    let old = c.self.inside in
    let p : PlayState = record { driver = old.driver; proxy = old.proxy; rings = g.R.BothEnds.ends old.rings; host = old.host.contents; moment = old.clock } in
    rw (← c.self.view_is, c.in-Turn.is) (on_ok_weaker c.turn.result (λ serves. turn_plays p c.now-now.result c.now-now.new.self _ _ _ _ _
    c.now-now.ensures.value c.now-now.ensures.same ready serves) c.turn.ensures)

pub returns-in-Reset : goal.returns-in-Reset
returns-in-Reset g c =
    let ready = subst IsReady (sym c.self.view_is) c.requires.ready in
    rw (← c.self.view_is, c.in-Reset.is) (on_ok_weaker c.reset.result (λ serves. reset_plays c.in-Reset.cid _ _ _ _ _ _ ready serves) c.reset.ensures)

pub returns-in-Tick : goal.returns-in-Tick
returns-in-Tick g c =
    let ready = subst IsReady (sym c.self.view_is) c.requires.ready in
    rw (← c.self.view_is, c.in-Tick.is) (on_ok_weaker c.push_ok.result (λ printed. tick_plays c.in-Tick.ms _ c.tick.new.self _ _ c.tick.ensures ready printed)
    c.push_ok.ensures)

pub returns-in-Grow : goal.returns-in-Grow
returns-in-Grow g c =
    let ready = subst IsReady (sym c.self.view_is) c.requires.ready in
    let d = c.grow_stream-answer in
    rw (← c.self.view_is, c.in-Grow.is) (on_ok_weaker c.push_growth.result (grow_plays c.in-Grow.stream c.in-Grow.alloc _ d.new.self d.result _ _
    d.ensures.answer d.ensures.state d.ensures.ring d.ensures.order ready) c.push_growth.ensures)

pub returns-in-Client : goal.returns-in-Client
returns-in-Client g c =
    let ready = subst IsReady (sym c.self.view_is) c.requires.ready in
    rw (← c.self.view_is, c.in-Client.is) (on_ok_both c.client.result (client_plays _ _ _ _ ready) c.client.ensures.host c.client.ensures.printed)

pub returns-in-Host : goal.returns-in-Host
returns-in-Host g c =
    let ready = subst IsReady (sym c.self.view_is) c.requires.ready in
    rw (← c.self.view_is, c.in-Host.is) (on_ok_both c.host_line.result (host_plays (host_view c.in-Host.line) _ _ _ _ ready) c.host_line.ensures.host
    c.host_line.ensures.printed)
