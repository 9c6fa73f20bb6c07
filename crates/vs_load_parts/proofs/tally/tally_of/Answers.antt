use Rattle.std.proofs.Common.{nat_eq}
use Rattle.indexmap.specs.IndexMap.{get}
use Rattle.vs_apps_parts.specs.Scripts.{script_of}
use Rattle.vs_load_parts.proofs.Tallies.{counted_as}
use Rattle.vs_load_parts.proofs.tally.tally_of.Goals as goal

pub returns : goal.returns
returns c =
    let journal = c.args.journal.now in
    counted_as (script_of c.args.script.now) journal.entries _ journal.bytes (get nat_eq c.in_ok-sent.sent) _ c.entries-entries.ensures (c.in_ok-sent.ensures journal.bytes)
    c.requires c.add_all.ensures
