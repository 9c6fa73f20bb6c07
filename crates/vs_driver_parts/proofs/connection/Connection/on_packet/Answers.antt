use Rattle.std.proofs.Common.{◌≡◌, length, eq-eqb, rules, arith}
use Rattle.vs_conn.specs.declared.end.Verdict.TheVariants as verdict
use Rattle.vs_driver_parts.proofs.Delivers.{IsDelivered, delivers, named_rw}
use Rattle.vs_driver_parts.proofs.connection.Connection.on_packet.Goals as goal

pub put-requires : goal.put-requires
put-requires c =
    let deliver : c.on_packet-verdict.result ≡ verdict.Deliver = search rules in
    let delivered : IsDelivered c.self.inside.end c.args.header.now = delivers _ _ (cc) in
    let whole : c.args.header.now.len ≡ length c.args.payload.now = c.requires.whole.len (eq-eqb c.args.header.now.op 5 (named_rw _ delivered.rw)) in
    omega (arith, delivered.room, whole, c.self.invariant.unread, c.self.invariant.space, c.self.invariant.fits)
