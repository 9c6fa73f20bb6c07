-- Which connections of the driver may owe a packet, as its slots note it.
use Rattle.std.specs.{Prelude.{◌≡◌, ◌==◌, ℕ, Bool, true, false, None}, List.All}
use Rattle.vs_conn.specs.End.{owes_of}
use Rattle.vs_flow.specs.Table.{Table}
use Rattle.vs_driver_parts.specs.{State.{DriverConnection, DriverEntry}, declared.owing.Owing.Owing}
use Rattle.vs_driver_parts.specs.declared.owing.Owing.TheVariants as owing

-- Whether the connection in a slot may owe a packet.
abbrev pub may_owe_in : Owing → ℕ → Bool
may_owe_in owing.Nobody slot = false
may_owe_in (owing.One other) slot = other == slot
may_owe_in owing.Several slot = true

-- What is noted of all, once this connection has changed or was added: one that is noted to owe none was before, and this one owes none
-- where it is noted so.
pub record IsNoted (old new : Owing) (slot : ℕ) (c : DriverConnection) : Type 0 where
  pub still : (k : ℕ) → may_owe_in new k ≡ false → may_owe_in old k ≡ false
  pub none : may_owe_in new slot ≡ false → owes_of c.end ≡ None

-- A connection owes a packet only where it was noted that it may.
abbrev pub OwesAsNoted : Owing → DriverEntry → Type 0
OwesAsNoted owes e = may_owe_in owes e.slot ≡ false → owes_of e.value.end ≡ None

abbrev pub AreNoted : Owing → Table DriverConnection → Type 0
AreNoted owes t = All (OwesAsNoted owes) t.entries
