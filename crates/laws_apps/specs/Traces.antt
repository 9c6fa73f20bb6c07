-- What the journal of a run tells of the driver's connections: which ids its calls gave and which they shut, and why a send or a receive was over early.
use Rattle.std.specs.{List.All, Option.ForSome, Prelude.{◌≡◌, ◌⊎◌, ℕ, ◌<◌, ◌≤◌, ◌==◌, ◌||◌, Bool, true, false, List, [], ◌∷◌, length, Option, Some, None}}
use Rattle.vs_conn.specs.declared.end.State.TheVariants.{Ended}
use Rattle.vs_ring_port.specs.Contents.{RingContents}
use Rattle.vs_driver_parts.specs.State.{DriverConnection, DriverEntry, DriverState}
use Rattle.laws_driver.specs.Carried.Calls.{GuestCall, Journal, Send, Recv, Shutdown, Close}
use Rattle.vs_apps_parts.specs.{Told.told_of, declared.told.Told.Told}
use Rattle.vs_apps_parts.specs.declared.told.Told.TheVariants as told

-- The id that a call gave: a connect that opened a connection, and an accept of one.
abbrev pub id_told : Told → Option ℕ
id_told (told.Asked id) = Some id
id_told (told.Given id) = Some id
id_told t = None

-- A call shuts a direction of an id's connection, or closes the id.
abbrev pub shuts : GuestCall → ℕ → Bool
shuts (Shutdown other bits) id = id == other
shuts (Close other) id = id == other
shuts _ id = false

abbrev pub is_shut : ℕ → Journal → Bool
is_shut id [] = false
is_shut id (m ∷ older) = shuts m.call id || is_shut id older

-- A connection of which a direction is shut, or whose id is closed.
abbrev pub is_touched : DriverConnection → Bool
is_touched c = c.end.own.send || (c.end.own.receive || c.closed)

-- One that is over; or whose peer takes no more; or whose peer sends no more, with nothing unread; or of which both directions are shut.
abbrev pub IsStopped : DriverConnection → Type 0
IsStopped c = (c.end.state ≡ Ended) ⊎ (c.end.peer.receive ≡ true)

abbrev pub IsDrained : DriverConnection → Type 0
IsDrained c = (c.end.state ≡ Ended) ⊎ ((c.end.peer.send ≡ true) × (c.unread ≡ []))

abbrev pub IsClosing : DriverConnection → Type 0
IsClosing c = (c.end.state ≡ Ended) ⊎ ((c.end.own.send ≡ true) × (c.end.own.receive ≡ true))

-- So is the connection of an id that was given, if it is in the table.
abbrev pub AtId : (DriverConnection → Type 0) → ℕ → ℕ → List DriverEntry → Type 0
AtId P id next es = (id < next) × All (λ e. e.value.id ≡ id → P e.value) es

-- What a call tells by its reply: a send or a receive that was over, whatever was moved, came behind a shutdown or a close of its id, or its connection is
-- so now; that of a close is. A send took no more than it was given.
abbrev pub TellsOf : GuestCall → Told → Journal → ℕ → List DriverEntry → Type 0
TellsOf (Send id bytes) t older next es =
    (t ≡ told.Ends → (is_shut id older ≡ true) ⊎ AtId IsStopped id next es) × ((n : ℕ) → t ≡ told.Took n → n ≤ length bytes)
TellsOf (Recv id n) t older next es = t ≡ told.Ends → (is_shut id older ≡ true) ⊎ AtId IsDrained id next es
TellsOf (Close id) t older next es = AtId IsClosing id next es
TellsOf call t older next es = Unit {0}

abbrev pub AllTell : Journal → ℕ → List DriverEntry → Type 0
AllTell [] next es = Unit {0}
AllTell (m ∷ older) next es = TellsOf m.call (told_of m) older next es × AllTell older next es

-- The journal against the driver's next id and its connections, of which those that are touched were shut by a call of a journal, this one or one that
-- goes on from it.
pub record IsTraced (by journal : Journal) (next : ℕ) (es : List DriverEntry) : Type 0 where
  pub touched : All (λ e. is_touched e.value ≡ true → is_shut e.value.id by ≡ true) es
  pub closed : All (λ e. e.value.closed ≡ true → IsClosing e.value) es
  pub tell : AllTell journal next es

-- The same where an honest ring tells the log.
abbrev pub IsTracedWith : Journal → DriverState → RingContents → Type 0
IsTracedWith journal s c = c.honest ≡ true → ForSome c.log (λ l. IsTraced journal journal s.next_id s.table.entries)
