use Rattle.std.proofs.Common.{arith}
use Rattle.laws_proxy.proofs.Ordered.{reset_honest, reset_may, reset_streamed, reset_streams}
use Rattle.laws_proxy.proofs.Account.{Packets.reset_counts, Packets.reset_faults, Packets.reset_takes_none, Turning.reset_accounted}
use Rattle.vs_proxy.proofs.proxy.Proxy.reset.Goals as goal

pub reset_all-requires-clause-may : goal.reset_all-requires-clause-may
reset_all-requires-clause-may g c = reset_may c.requires.order.0 c.args.cid c.args.self.now _ c.requires.order.1

pub returns-clause-ring : goal.returns-clause-ring
returns-clause-ring g c = c.reset_all.ensures.ring c.requires.ring

pub returns-clause-streams : goal.returns-clause-streams
returns-clause-streams g c = reset_streams c.args.self.now _ _ c.args.cid _ c.reset_all.ensures.calls

pub returns-clause-honest : goal.returns-clause-honest
returns-clause-honest g c =
    let low = c.requires.cid.1 in reset_honest c.args.self.now _ _ c.args.cid _ (omega (arith, low)) c.reset_all.ensures.calls

pub returns-clause-streamed : goal.returns-clause-streamed
returns-clause-streamed g c =
    let low = c.requires.cid.1 in reset_streamed c.args.self.now _ _ c.args.cid _ (omega (arith, low)) c.reset_all.ensures.calls

pub returns-clause-bytes : goal.returns-clause-bytes
returns-clause-bytes g c = reset_accounted c.args.cid c.args.self.now _ _ _ c.reset_all.ensures.calls

pub returns-clause-none_taken : goal.returns-clause-none_taken
returns-clause-none_taken g c calls later = reset_takes_none c.args.cid c.args.self.now calls later (c.reset_all.new.self, c.reset_all.result)

pub returns-clause-counts : goal.returns-clause-counts
returns-clause-counts g c calls later leads first =
    reset_counts c.args.cid c.args.self.now calls later (c.reset_all.new.self, c.reset_all.result) first leads

pub returns-clause-faults : goal.returns-clause-faults
returns-clause-faults g c = reset_faults c.args.cid c.args.self.now _ _ _ c.reset_all.ensures.calls
