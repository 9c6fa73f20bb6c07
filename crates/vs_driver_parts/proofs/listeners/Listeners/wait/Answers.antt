use Rattle.std.proofs.Common.{ap, sym, ◌∙◌}
use Rattle.vs_driver_parts.{specs.{Listening.waiting_too, ListenerFields.listeners_of}, proofs.ListenerChanges.{waiting_there, waiting_nowhere}}
use Rattle.vs_driver_parts.proofs.listeners.Listeners.wait.Goals.{in-Some, in-None}
use Rattle.vs_driver_parts.proofs.listeners.Listeners.wait.Goals as goal

pub returns : goal.returns
returns c = elim c.match-get_mut.branch [
  | in-Some w ↦ rw (w.self-inside-is, ← c.self.view_is) (ap listeners_of (c.get_mut.follows.holds w.push.new.self).0
      ∙ sym (waiting_there c.args.port (waiting_too c.args.id) w.in-Some.waiting.now w.push.new.self c.self.inside.ports.entries c.get_mut.ensures.unique
      (sym w.in-Some.ensures.value) w.push.ensures.items))
  | in-None w ↦ rw (w.self-inside-is, ← c.self.view_is, c.get_mut.follows.holds-at-none)
      (sym (waiting_nowhere c.args.port (waiting_too c.args.id) c.self.inside.ports.entries (sym w.in-None.ensures.value)))
]
