use Rattle.std.proofs.Common.{nat_eq}
use Rattle.indexmap.specs.IndexMap.{get}
use Rattle.vs_apps_parts.specs.Journals.{calls_of}
use Rattle.vs_load_parts.proofs.Tallies.{one_more}
use Rattle.vs_load_parts.proofs.tally.add.Goals as goal

pub returns : goal.returns
returns c = λ script.
    let journal = c.args.journal.now in
    one_more (calls_of script journal.bytes journal.entries) (get nat_eq c.args.sent.now) c.args.tally _ c.args.opened c.count_on-count.result
    c.excerpt-excerpt.result c.count_on-count.ensures (c.excerpt-excerpt.ensures script) c.saturating_add-sent.ensures c.saturating_add-matched.ensures
