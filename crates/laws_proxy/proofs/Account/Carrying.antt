-- What was carried, where the calls made account for the connections.
use Rattle.std.proofs.Common.{List}
use Rattle.vs_flow.specs.Table.{Table}
use Rattle.vs_device_parts.specs.State.{DeviceConnection}
use Rattle.vs_proxy_parts.specs.State.{Handshake}
use Rattle.laws_proxy.{specs.Account.{Carried.Carries, Made.{Made, account_of}, Tied.AgreesWith}, proofs.Account.Entries.{join_of, streams_apart}}

pub carries : (calls : List Made) (t : Table DeviceConnection) (hands : List Handshake) → AgreesWith calls t hands → Carries calls t
carries calls t hands x = record {
  given = λ id a is. (x.tied.lawful id a is).0;
  held = λ e is. join_of (account_of calls) t hands x.tied e is;
  read = λ id a is. (x.tied.lawful id a is).1;
  put = λ flow. x.carried flow;
  apart = λ i j a b flow is also on same. streams_apart (account_of calls) t hands x.tied i j a b flow is also on same;
}
