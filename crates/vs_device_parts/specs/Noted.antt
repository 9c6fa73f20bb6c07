-- What the rounds over all connections do on each of them, as it is kept beside the table.
use Rattle.std.specs.{Prelude.{ℕ, ◌<◌, ◌==◌, not, is_some, if◌then◌else◌, List, map}, List.AllPairs}
use Rattle.vs_conn.specs.End.{owes_of}
use Rattle.vs_credit.specs.Credit.{free_of}
use Rattle.vs_flow.specs.Table.{Table}
use Rattle.vs_device_parts.specs.{Receiving.may_read, State.DeviceConnection, Watched.has_to_write, declared.{notes.Note.Note, service.Service.Service}}
use Rattle.vs_device_parts.specs.declared.service.Service.TheVariants as service

-- The round that reads streams and puts what is owed.
abbrev pub service_of : DeviceConnection → Service
service_of c =
    if is_some (owes_of c.end) then service.Owed
    else if not (may_read c.end c.end.state) then service.Nothing
    else if free_of c.end.credit == 0 then (if c.end.credit_asked then service.Nothing else service.Owed)
    else service.Read c.stream (free_of c.end.credit)

abbrev pub note_of : ℕ → DeviceConnection → Note
note_of slot c = record { slot = slot; service = service_of c; writes = has_to_write c }

abbrev pub notes_of : Table DeviceConnection → List Note
notes_of t = map (λ e. note_of e.slot e.value) t.entries

-- Slots rise.
abbrev pub AreRising : List Note → Type 0
AreRising = AllPairs (λ m n. m.slot < n.slot)

-- A note after another one was put, of its slot or of another.
abbrev pub renoted : Note → Note → Note
renoted new n = if n.slot == new.slot then new else n
