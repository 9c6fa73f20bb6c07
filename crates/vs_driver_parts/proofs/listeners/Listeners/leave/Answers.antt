use Rattle.std.proofs.Common.{ap, sym, ◌∙◌, ◌≡◌, ◌==◌, ℕ, not, rules}
use Rattle.arrayvec.proofs.ArrayVecLemmas.{filter-from_retain}
use Rattle.vs_driver_parts.{specs.{Listening.without_id, ListenerFields.listeners_of}, proofs.ListenerChanges.{waiting_there, waiting_nowhere}}
use Rattle.vs_driver_parts.proofs.listeners.Listeners.leave.Goals.{in-Some, in-None}
use Rattle.vs_driver_parts.proofs.listeners.Listeners.leave.Goals as goal

pub returns : goal.returns
returns c = elim c.match-get_mut.branch [
  | in-Some w ↦
      let left : w.retain.new.self.items ≡ without_id c.args.id w.in-Some.waiting.now.items =
      filter-from_retain _ (λ (w : ℕ). not (w == c.args.id)) _ (λ x b f y h. (search rules, search rules, search rules)) _ _ w.retain.ensures.filtered in
      rw (w.self-inside-is, ← c.self.view_is) (ap listeners_of (c.get_mut.follows.holds w.retain.new.self).0
      ∙ sym (waiting_there c.args.port (without_id c.args.id) w.in-Some.waiting.now w.retain.new.self c.self.inside.ports.entries
      c.get_mut.ensures.unique (sym w.in-Some.ensures.value) left))
  | in-None w ↦ rw (w.self-inside-is, ← c.self.view_is, c.get_mut.follows.holds-at-none)
      (sym (waiting_nowhere c.args.port (without_id c.args.id) c.self.inside.ports.entries (sym w.in-None.ensures.value)))
]
