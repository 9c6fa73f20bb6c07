use Rattle.std.proofs.Common.{◌≡◌, ◌<◌, true, Some, sym, arith}
use Rattle.vs_credit.specs.Credit.{free_of}
use Rattle.vs_flow.specs.Table.{value_under}
use Rattle.vs_device_parts.specs.{Receiving.may_read, Served.Reads, State.DeviceConnection}
use Rattle.vs_device.proofs.Reading.{at_some, some_and}
use Rattle.vs_device.proofs.device.Device.read_with_chain.Goals as goal

pub read_stream-requires-clause-known : goal.read_stream-requires-clause-known
read_stream-requires-clause-known g c =
    let conn : DeviceConnection = c.in-Some.connection.now in
    let value : value_under c.args.self.now.table c.args.slot ≡ Some conn = rw (← c.self.view_is) (sym c.in-Some.ensures) in
    let some : 0 < free_of conn.end.credit = at_some _ conn (λ (x : DeviceConnection). 0 < free_of x.end.credit) value c.requires.credit in
    some_and _ conn (Reads c.stream-stream.result c.free-credit.result) value (record {
      reads = at_some _ conn (λ (x : DeviceConnection). may_read x.end x.end.state ≡ true) value c.requires.reads;
      some = omega (arith, some, c.free-credit.ensures);
      stream_is = c.stream-stream.ensures;
      credit_is = c.free-credit.ensures;
    })
