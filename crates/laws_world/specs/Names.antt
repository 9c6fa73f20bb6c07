-- How often a guest closed an id.
use Rattle.std.specs.Prelude.{ℕ, suc, ◌==◌, Bool, false, if◌then◌else◌, [], ◌∷◌}
use Rattle.laws_driver.specs.Carried.Calls.{Close, GuestCall, Journal}

-- How many calls of a journal close an id.
abbrev pub is_close : ℕ → GuestCall → Bool
is_close id (Close other) = other == id
is_close id _ = false

abbrev pub times_closed : ℕ → Journal → ℕ
times_closed id [] = 0
times_closed id (made ∷ older) = if is_close id made.call then suc (times_closed id older) else times_closed id older
