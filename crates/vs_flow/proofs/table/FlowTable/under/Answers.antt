use Rattle.std.{proofs.Common.{ap, ◌==◌, ◌∙◌}, specs.{List.slice_get, Option.{option_and_then, option_copied}}}
use Rattle.vs_flow.proofs.Entries.{find_position}
use Rattle.vs_flow.proofs.table.FlowTable.under.Goals as goal

pub returns-in_err-place-clause-entry : goal.returns-in_err-place-clause-entry
returns-in_err-place-clause-entry g c =
    let es = c.args.self.now.entries in
    ap option_copied c.from_residual.ensures ∙ ap (option_and_then (slice_get es)) c.in_err-place.ensures.place
    ∙ find_position (λ e. e.slot == c.args.slot) es

pub returns-clause-entry : goal.returns-clause-entry
returns-clause-entry g c =
    let es = c.args.self.now.entries in
    c.at.ensures.entry ∙ ap (option_and_then (slice_get es)) c.in_ok-place.ensures.place ∙ find_position (λ e. e.slot == c.args.slot) es
