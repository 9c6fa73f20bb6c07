use Rattle.std.proofs.{Common.sym, Common.subst, lemmas.Result.on_ok_weaker}
use Rattle.vs_script.specs.Play.{play_view}
use Rattle.vs_play.{specs.Ready.IsReady, proofs.Playing.drives_play, proofs.Playing.no_outside}
use Rattle.vs_play.proofs.play.Play.line.Goals as goal

pub returns-in_default : goal.returns-in_default
returns-in_default g c =
    let ready = subst IsReady (sym c.self.view_is) c.requires.ready in
    rw (← c.self.view_is) (on_ok_weaker c.guest_line.result (λ driven. drives_play _ _ _ _ _ ready (play_view c.args.line.now)
    (no_outside c.args.line.now c.in_default.not-Outside) driven) c.guest_line.ensures)
