use Rattle.std.proofs.Common.{rules}
use Rattle.vs_page.proofs.Holding.{packet_fits}
use Rattle.vs_driver.proofs.receive.fields_fit.Goals as goal

pub returns : goal.returns
returns c = λ p held.
    let wire = packet_fits c.args.bytes.now p (search rules) held in
    record { src_port = wire.src_port; dst_port = wire.dst_port; src_cid = wire.src_cid; fwd_cnt = wire.fwd_cnt }
