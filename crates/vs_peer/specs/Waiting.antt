-- For how many steps in a row a client waits.
use Rattle.std.specs.Prelude.{◌≤◌, ◌<◌, ℕ, ◌+◌, ◌-◌, ◌^◌, min, Result, Err}
use Rattle.vs_peer.specs.declared.stop.Stop.{Stop}
use Rattle.vs_peer.specs.declared.stop.Stop.TheVariants as stop

-- After one more step in which nothing moved. The count stands still at the last number of 32 bits.
abbrev pub after_still : ℕ → ℕ
after_still waited = min (2 ^ 32 - 1) (waited + 1)

-- A gate paused so many times at least, which its count shows as long as it can rise.
abbrev pub Paused : ℕ → ℕ → ℕ → Type 0
Paused n old new = new < 2 ^ 64 - 1 → old + n ≤ new

-- How many pauses a result tells of: as many as the steps in a row in which nothing moved, where the client stops for them.
abbrev pub pauses_of : {A : Type 0} → ℕ → Result A Stop → ℕ
pauses_of idle (Err stop.Waited) = idle
pauses_of idle _ = 0
