-- What the round over all connections does on one of them, as far as one look at it tells.
use Rattle.std.specs.Prelude.{◌≡◌, ℕ, ◌<◌, ◌⊎◌, true, false, Option, None, IfSome, IsSomeAnd}
use Rattle.vs_conn.specs.End.{owes_of}
use Rattle.vs_credit.specs.Credit.{free_of}
use Rattle.vs_device_parts.specs.{Receiving.may_read, State.DeviceConnection, declared.service.Service.Service}
use Rattle.vs_device_parts.specs.declared.service.Service.TheVariants as service

-- It has no credit, and has asked for some.
pub record WaitsForCredit (c : DeviceConnection) : Type 0 where
  pub none : free_of c.end.credit ≡ 0
  pub asked : c.end.credit_asked ≡ true

-- It neither reads its stream nor owes a packet: it may not read, or it has no credit and has asked for some.
pub record Rests (c : DeviceConnection) : Type 0 where
  pub owes : owes_of c.end ≡ None
  pub reads_not : (may_read c.end c.end.state ≡ false) ⊎ WaitsForCredit c

-- It reads this stream, with so much credit.
pub record Reads (stream credit : ℕ) (c : DeviceConnection) : Type 0 where
  pub reads : may_read c.end c.end.state ≡ true
  pub some : 0 < credit
  pub stream_is : stream ≡ c.stream
  pub credit_is : credit ≡ free_of c.end.credit

-- It owes no packet besides.
pub record OnlyReads (stream credit : ℕ) (c : DeviceConnection) : Type 0 where
  pub owes : owes_of c.end ≡ None
  pub reads : Reads stream credit c

abbrev pub IsServedSo : Option DeviceConnection → Service → Type 0
IsServedSo o service.Nothing = IfSome o Rests
IsServedSo o (service.Read stream credit) = IsSomeAnd o (OnlyReads stream credit)
IsServedSo o service.Owed = Unit {0}
