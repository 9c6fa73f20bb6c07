use Rattle.std.proofs.Common.{◌≡◌, Ok, IfOk, IfErr, map, ap, rules, sym, subst, ◌∙◌}
use Rattle.vs_script.specs.{Field.IsFault, Hostile.hostile_line, Script.{numbered_hostile, stage_of, chained, pushed}, declared.script.TheConstants.MAX_EVENTS}
use Rattle.vs_script.proofs.Adding.{pushed-ok, pushed-fault}
use Rattle.vs_script.proofs.script.add_hostile.Goals as goal

pub returns-clause-ok : goal.returns-clause-ok
returns-clause-ok c =
    let lines = c.args.lines.now.items in
    let same : c.deref.result.now ≡ lines = search rules in
    let stage = ap (λ xs. stage_of (map numbered_hostile xs)) (sym same) ∙ sym c.stage_of.ensures in
    let read = ap (λ s. hostile_line s c.args.words.now) stage ∙ c.in_ok-line.ensures.ok in
    subst (λ r. IfOk c.push.result (λ _. chained r (λ line. pushed MAX_EVENTS (map numbered_hostile lines) (c.args.number, line))
    ≡ Ok (map numbered_hostile c.push.new.xs.items)))
    (sym read) (pushed-ok numbered_hostile MAX_EVENTS lines _ c.push.new.xs.items c.push.result c.push.ensures.ok)

pub returns-clause-fault : goal.returns-clause-fault
returns-clause-fault c =
    let lines = c.args.lines.now.items in
    let same : c.deref.result.now ≡ lines = search rules in
    let stage = ap (λ xs. stage_of (map numbered_hostile xs)) (sym same) ∙ sym c.stage_of.ensures in
    let read = ap (λ s. hostile_line s c.args.words.now) stage ∙ c.in_ok-line.ensures.ok in
    subst (λ r. IfErr c.push.result (IsFault (chained r (λ line. pushed MAX_EVENTS (map numbered_hostile lines) (c.args.number, line)))))
    (sym read) (pushed-fault numbered_hostile MAX_EVENTS lines _ c.push.result c.push.ensures.fault)
