use Rattle.std.{proofs.Common.{◌≡◌, List, ◌==◌, Some, None, sym, ◌∙◌, rules}, specs.List.position}
use Rattle.vs_proxy_parts.{specs.State.Handshake, proofs.Waiting.{found_nowhere, none_without, first_at, without_first}}
use Rattle.vs_proxy_parts.proofs.handshakes.Handshakes.remove.Goals as goal

pub returns-in-Some : goal.returns-in-Some
returns-in-Some c =
    let hs : List Handshake = c.self.inside.all.items in
    let at : position (λ (h : Handshake). h.stream == c.args.stream) hs ≡ Some c.in-Some.place = search rules in
    rw (← c.self.view_is) (c.remove.ensures.items ∙ sym (without_first c.args.stream hs c.in-Some.place c.remove.result (first_at c.args.stream hs c.in-Some.place c.remove.result at)))

pub returns-in_default : goal.returns-in_default
returns-in_default c =
    let hs : List Handshake = c.self.inside.all.items in
    let at : position (λ (h : Handshake). h.stream == c.args.stream) hs ≡ None = search rules in
    rw (← c.self.view_is) (sym (none_without c.args.stream hs (found_nowhere c.args.stream hs at)))
