use Rattle.std.proofs.Common.{◌≡◌, ℕ, ◌-◌, ◌∙◌, ap, length, min, rules}
use Rattle.laws_apps.proofs.Slices.{sends_next, stands}
use Rattle.vs_script.specs.Data.{content_of, size_of}
use Rattle.vs_apps_parts.specs.declared.progress.TheConstants.{SLICE}
use Rattle.vs_apps.proofs.sending.send_next.Goals as goal

pub returns-clause-calls : goal.returns-clause-calls
returns-clause-calls g c = λ script apps is.
    let content = content_of c.args.content.now in
    let n = c.copy_to-n.result in
    let buffer = c.copy_to-n.new.out in
    let long : length c.args.buffer.now ≡ SLICE = search rules in
    sends_next content c.args.progress n buffer c.copy_to-n.ensures.copied script c.args.app c.id.result c.send.result _ _ c.id.ensures
    (c.copy_to-n.ensures.count ∙ ap (λ (m : ℕ). min m (size_of content - c.args.progress.sent)) long)
    (c.send.ensures.calls script apps (stands content c.args.progress n buffer c.copy_to-n.ensures.copied _ (search rules) is))
