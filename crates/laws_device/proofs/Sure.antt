-- Over an honest ring, whose log is fair; and over one that isn't, as long as packets come in order and the device didn't give the ring up.
use Rattle.std.proofs.Common.{◌≡◌, ℕ, Bool, true, false, Option, Some, None, ◌∷◌, refl, sym, ◌∙◌}
use Rattle.laws_history.specs.declared.packet.Packet.{Packet}
use Rattle.vs_page.specs.{Fair.IsFairLog, Log.{Device, Log, flow_got, side_of}, declared.log.LogEntry.{LogEntry, TheVariants.{GotPacket, Mark, PutEvent}}}
use Rattle.vs_ring_port.specs.{EndLog.with_packet, declared.failure.Failure.Failure}
use Rattle.laws_tables.{specs.Heard.{IsInOrder, IsOrderedLog, heard_of}, proofs.Fair.{got_in_order, older_ordered, ordered_in_order}}

-- What is so of an honest ring, and isn't asked of another.
abbrev pub Given : Bool → Type 0 → Type 0
Given true P = P
Given false P = Unit {0}

abbrev pub Sure : Bool → Bool → Type 0
Sure true honest = Unit {0}
Sure false honest = honest ≡ false

-- Where the device's connections are those that the log left.
abbrev pub Guard : Bool → Bool → Option Failure → Log → Type 0
Guard true honest failed log = honest ≡ true
Guard false honest failed log = (failed ≡ None) × IsOrderedLog Device log

abbrev pub Good : Bool → Log → Type 0
Good true log = IsFairLog Device log
Good false log = IsOrderedLog Device log

pub good_of : (b h : Bool) (failed : Option Failure) (log : Log) → Guard b h failed log → (h ≡ true → IsFairLog Device log) → Good b log
good_of true h failed log guard fair = fair guard
good_of false h failed log guard fair = guard.1

pub good_fair : (b : Bool) (log : Log) → b ≡ true → Good b log → IsFairLog Device log
good_fair true log is good = good
good_fair false log is good = absurd cc

pub good_order : (b : Bool) (first : ℕ) (p : Packet) (log : Log) → let f = flow_got Device p in
    Good b (GotPacket p ∷ log) → IsInOrder (side_of Device f) (heard_of Device first f log) p
good_order true first p log good = got_in_order Device first p log (good (flow_got Device p))
good_order false first p log good = ordered_in_order Device first p log good

pub good_event : (b : Bool) (id : ℕ) (log : Log) → Good b log → Good b (PutEvent id ∷ log)
good_event true id log good = good
good_event false id log good = good

pub good_mark : (b : Bool) (cid : ℕ) (log : Log) → Good b log → Good b (Mark cid ∷ log)
good_mark true cid log good = good
good_mark false cid log good = good

pub guard_same : (b h : Bool) (failed was : Option Failure) (log : Log) → failed ≡ was → Guard b h failed log → Guard b h was log
guard_same true h failed was log same guard = guard
guard_same false h failed was log same guard = (sym same ∙ guard.0, guard.1)

pub guard_entry : (b h : Bool) (failed : Option Failure) (entry : LogEntry) (log : Log) → Guard b h failed (entry ∷ log) → Guard b h failed log
guard_entry true h failed entry log guard = guard
guard_entry false h failed entry log guard = (guard.0, older_ordered Device entry log guard.1)

pub guard_packet : (b h : Bool) (failed : Option Failure) (entry : Packet → LogEntry) (o : Option Packet) (log : Log)
    → Guard b h failed (with_packet entry o log) → Guard b h failed log
guard_packet b h failed entry None log guard = guard
guard_packet b h failed entry (Some p) log guard = guard_entry b h failed (entry p) log guard

-- Of an honest ring the log is fair.
pub sure_is : (b h : Bool) → Sure b h → h ≡ true → b ≡ true
sure_is true h sure is = refl
sure_is false h sure is = let both : true ≡ false = sym is ∙ sure in absurd cc

pub guard_sure : (b h : Bool) (failed : Option Failure) (log : Log) → b ≡ true → h ≡ true → Guard b h failed log
guard_sure true h failed log is honest = honest
guard_sure false h failed log is honest = absurd cc

-- Once it failed nothing is asked but of an honest ring.
pub guard_failed : (b h : Bool) (f : Failure) (log : Log) → Guard b h (Some f) log → b ≡ true
guard_failed true h f log guard = refl
guard_failed false h f log guard = absurd (let no = guard.0 in cc)

pub guard_honest : (b h : Bool) (failed : Option Failure) (log : Log) → b ≡ true → Guard b h failed log → h ≡ true
guard_honest true h failed log is guard = guard
guard_honest false h failed log is guard = absurd cc

pub given_so : (b : Bool) (P : Type 0) → (b ≡ true → P) → Given b P
given_so true P so = so refl
given_so false P so = tt
