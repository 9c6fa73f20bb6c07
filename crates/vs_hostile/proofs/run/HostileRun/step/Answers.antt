use Rattle.std.proofs.Common.{◌≡◌, ◌+◌, ℕ, List, [], ◌∷◌, drop, string_bytes, sym, ap, subst, ◌∙◌}
use Rattle.vs_script.specs.{Hostile.hostile_view, declared.hostile.HostileLine.HostileLine, declared.script.Numbered.Numbered}
use Rattle.vs_hostile.{specs.Ready.RunState, specs.Ready.Steps, specs.Run.HostileState, proofs.Attacks.held_lines, proofs.Attacks.rest_from}
use Rattle.vs_hostile.proofs.run.HostileRun.step.Goals as goal

pub returns : goal.returns
returns c =
    let line = c.in-Some.numbered.now in
    let place = c.self.inside.place in
    record {
      next = (
        hostile_view line.line,
        sym (ap (λ (s : RunState). s.rest) c.self.view_is)
            ∙ subst (λ (xs : List (Numbered HostileLine)). drop place (held_lines xs) ≡ hostile_view line.line ∷ drop (place + 1) (held_lines xs))
            c.deref.ensures.value (rest_from c.deref.result.now place line c.in-Some.ensures.lookup.3.0 c.in-Some.ensures.lookup.1),
        subst (λ (w : HostileState). Steps (hostile_view line.line) w c.line.new.self [] (string_bytes c.line.new.text))
            (ap (λ (s : RunState). s.state) c.self.view_is)
            (subst (λ (t : List ℕ). Steps (hostile_view line.line) c.self.inside.world c.line.new.self t (string_bytes c.line.new.text))
            c.new-text.ensures.bytes c.in_ok-line.ensures),
      );
    }
