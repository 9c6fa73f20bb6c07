use Rattle.std.proofs.Common.{◌∙◌, ap}
use Rattle.laws_driver.specs.Carried.Calls.{received_by}
use Rattle.vs_excerpt.specs.Excerpt.{excerpt_of}
use Rattle.vs_apps_parts.{specs.{Journals.calls_of, Sums.JournalState}, proofs.Entries.given_is}
use Rattle.vs_apps_parts.proofs.journal.Journal.excerpt.Goals as goal

pub returns : goal.returns
returns c = λ script.
    let journal = c.self.inside in
    c.kept.ensures ∙ c.self.invariant.0.exact c.args.id ∙ ap excerpt_of (given_is c.args.id script journal.bytes.items journal.entries.items)
    ∙ ap (λ (j : JournalState). excerpt_of (received_by c.args.id (calls_of script j.bytes j.entries))) c.self.view_is
