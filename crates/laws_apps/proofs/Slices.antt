-- The next send of an app, whose data stand in a buffer.
use Rattle.std.proofs.Common.{arith}
use Rattle.std.proofs.lemmas.Grind.{common_steps}
use Rattle.std.proofs.{Common.{◌≡◌, ◌≤◌, ℕ, List, length, take}}
use Rattle.vs_script.specs.Data.{Content, bytes_of, size_of}
use Rattle.vs_apps_parts.specs.{Scripts.{RunScript, id_of, send_next, slice_left, slice_of}, declared.{progress.Progress.Progress, told.Told.Told}}
use Rattle.laws_apps.specs.{Runs.Run, Calls.CallsAs}
use Rattle.laws_driver.specs.Carried.Calls as call

module _ (c : Content) (p : Progress) (n : ℕ) (buffer : List ℕ) (bytes : take n buffer ≡ slice_of p.sent n (bytes_of c)) where
  pub stands : (all : List ℕ) → n ≤ length buffer → all ≡ bytes_of c → slice_of p.sent (length (take n buffer)) all ≡ take n buffer
  stands all within is = grind (arith, common_steps)

  pub sends_next : (script : RunScript) (k id : ℕ) (told : Told) (old new : Run) → id ≡ id_of p → n ≡ slice_left p.sent (size_of c)
      → CallsAs script k (call.Send id (take n buffer)) told old new → CallsAs script k (send_next c p) told old new
  sends_next script k id told old new is count calls = grind (arith, common_steps)
