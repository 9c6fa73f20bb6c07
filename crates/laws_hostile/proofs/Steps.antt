-- A conversation over rings in a guest's memory and a host: its calls account for the host, and it is the one that was played.
use Rattle.std.proofs.lemmas.Grind.{common_steps}
use Rattle.std.proofs.Common.{◌≡◌, ℕ, ◌≤◌, List, ◌∷◌, length, refl, arith}
use Rattle.vs_contents.specs.CallTree.{Done, Ask, Leads, played}
use Rattle.vs_outside.specs.{Host.{HostContents, IsDialed, accept_answer, dial_answer, read_answer, write_answer}, declared.host_net.Dialed.Dialed}
use Rattle.vs_outside.specs.declared.host_net.{StreamRead.StreamRead, StreamWrite.StreamWrite}
use Rattle.vs_device_parts.specs.Calls.{Call, DeviceTree, IsReadOf, TakesWithin, Ring, Accept, Dial, Label, ReadStream, WriteStream, ShutWrite, CloseStream}
use Rattle.vs_hostile.specs.Answers.{Around, answer_around, bytes_with}
use Rattle.laws_hostile.specs.Recorded.{Recorded, recording}
use Rattle.laws_proxy.{specs.Account.{Made.{Made, Makes, MayGet, account_of, made}, Told.Shows}, proofs.Account.{Keeping.{Asks, Keeps, keeps_answer}, Telling.accept_shows}}
use Rattle.laws_proxy.proofs.Account.Telling.{close_shows, dial_shows, label_shows, read_shows, ring_shows, shut_shows, write_shows}

-- The answers of a host in memory are such as may be got.
dial_is : (path : List ℕ) (c : HostContents) (a : Dialed) → dial_answer path c ≡ a → IsDialed path a c
dial_is path c a is = grind (arith, common_steps)

read_is : (stream n : ℕ) (c : HostContents) (a : StreamRead) → read_answer stream n c ≡ a
    → IsReadOf stream n (a, bytes_with stream a c) c × (length (bytes_with stream a c) ≤ n)
read_is stream n c a is = grind (arith, common_steps)

write_is : (stream len : ℕ) (c : HostContents) (a : StreamWrite) → write_answer stream len c ≡ a → TakesWithin len a
write_is stream len c a is = grind (arith, common_steps)

-- Each call.
pub step_shows : (call : Call) (around : Around) (calls : List Made) (P : Type 0) → Asks call calls P → Shows (account_of calls) around.host
    → MayGet call (answer_around call around).0 calls
    × Shows (account_of (made call (answer_around call around).0 ∷ calls)) (answer_around call around).1.host
step_shows (Ring call) around calls P asks shows = ring_shows call (answer_around (Ring call) around).0 around.host calls shows
step_shows Accept around calls P asks shows = accept_shows around.host calls shows (accept_answer around.host) refl
step_shows (Dial path flow) around calls P asks shows =
    dial_shows around.host calls shows path flow (dial_answer path around.host)
    (dial_is path around.host (dial_answer path around.host) refl)
step_shows (Label stream flow) around calls P asks shows = label_shows around.host calls shows stream flow tt asks.0
step_shows (ReadStream stream n) around calls P asks shows =
    let a = read_answer stream n around.host in
    let is = read_is stream n around.host a refl in
    read_shows around.host calls shows stream n a (bytes_with stream a around.host) is.0 is.1 asks.0
step_shows (WriteStream stream bytes) around calls P asks shows =
    let a = write_answer stream (length bytes) around.host in
    write_shows around.host calls shows stream bytes a (write_is stream (length bytes) around.host a refl) asks.0
step_shows (ShutWrite stream) around calls P asks shows = (tt, shut_shows around.host calls shows stream)
step_shows (CloseStream stream) around calls P asks shows = close_shows around.host calls shows stream tt

-- A whole conversation.
pub record Ends {A : Type 0} (Q : A → List Made → Type 0) (r : A × Recorded) : Type 0 where
  pub kept : Q r.0 r.1.calls
  pub shows : Shows (account_of r.1.calls) r.1.around.host

pub played_shows : {A : Type 0} (Q : A → List Made → Type 0) (tree : DeviceTree A) (around : Around) (calls : List Made)
    → Keeps Q tree calls
    → Shows (account_of calls) around.host → Ends Q (played recording tree (record { around = around; calls = calls }))
played_shows Q (Done x) around calls keeps shows = record { kept = keeps; shows = shows }
played_shows Q (Ask call next) around calls keeps shows =
    let step = step_shows call around calls _ keeps shows in
    let a = answer_around call around in
    played_shows Q (next a.0) a.1 (made call a.0 ∷ calls) (keeps_answer Q call next calls keeps a.0 step.0) step.1

-- And the calls that were recorded are those that it made.
pub played_makes : {A : Type 0} (Q : A → List Made → Type 0) (tree : DeviceTree A) (around : Around) (calls : List Made)
    → Keeps Q tree calls → Shows (account_of calls) around.host
    → let r = played recording tree (record { around = around; calls = calls }) in Leads Makes tree calls r.0 r.1.calls
played_makes Q (Done x) around calls keeps shows = (refl, refl)
played_makes Q (Ask call next) around calls keeps shows =
    let step = step_shows call around calls _ keeps shows in
    let a = answer_around call around in (
      a.0,
      made call a.0 ∷ calls,
      (step.0, refl),
      played_makes Q (next a.0) a.1 (made call a.0 ∷ calls) (keeps_answer Q call next calls keeps a.0 step.0) step.1,
    )

-- It is the conversation as it was played before it was recorded.
pub record IsPlayed {A : Type 0} (r : A × Recorded) (s : A × Around) : Type 0 where
  pub end : r.0 ≡ s.0
  pub around : r.1.around ≡ s.1

pub played_same : {A : Type 0} (tree : DeviceTree A) (around : Around) (calls : List Made)
    → IsPlayed (played recording tree (record { around = around; calls = calls })) (played answer_around tree around)
played_same (Done x) around calls = record { end = refl; around = refl }
played_same (Ask call next) around calls =
    let a = answer_around call around in
    played_same (next a.0) a.1 (made call a.0 ∷ calls)
