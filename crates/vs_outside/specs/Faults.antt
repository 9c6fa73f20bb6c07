-- Counts of failed calls, and lists of calls that are to fail.
use Rattle.std.specs.{Prelude.{◌≡◌, ℕ, ◌+◌, ◌-◌, ◌^◌, nat_lt, ◌==◌, Bool, true, false, if◌then◌else◌, List, map, filter}, List.list_any}

-- A count after one more. It stands still at the last number of 64 bits.
abbrev pub one_more : ℕ → ℕ
one_more n = if nat_lt n (2 ^ 64 - 1) then n + 1 else n

-- One more fault is counted where the call failed, and none else. So the count never falls.
abbrev pub CountsFault : Bool → ℕ → ℕ → Type 0
CountsFault true old new = new ≡ one_more old
CountsFault false old new = new ≡ old

-- A list of calls that are to fail says how many calls from now each is: 1 is the next one.
abbrev pub fails_next : List ℕ → Bool
fails_next calls = list_any (λ n. n == 1) calls

-- The list after one more call.
abbrev pub counted_down : List ℕ → List ℕ
counted_down calls = map (λ n. n - 1) (filter (λ n. nat_lt 1 n) calls)
