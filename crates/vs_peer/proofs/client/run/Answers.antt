use Rattle.std.proofs.Common.{refl, ◌≤◌, ◌<◌, length, rules}
use Rattle.vs_peer.specs.{Ends.Met, Ends.TooLong, declared.source.TheConstants.SOURCE_MAX}
use Rattle.vs_peer.proofs.client.run.Goals as goal

pub returns-then-len-gt-SOURCE_MAX : goal.returns-then-len-gt-SOURCE_MAX
returns-then-len-gt-SOURCE_MAX g c =
    let long : SOURCE_MAX < length c.in-Ok.bytes.items = search rules in
    record { ends = TooLong c.in-Ok.bytes.items c.in-Ok.ensures.bytes long c.in-Ok.ensures.faults refl refl c.ended.ensures }

pub returns : goal.returns
returns g c =
    let fits : length c.in-Ok.bytes.items ≤ SOURCE_MAX = search rules in
    record {
      ends = Met c.in-Ok.bytes.items c.in-Ok.ensures.bytes fits c.in-Ok.ensures.faults (rw
          (← c.deref.ensures.value) c.converse_to_end.ensures.meets);
    }
