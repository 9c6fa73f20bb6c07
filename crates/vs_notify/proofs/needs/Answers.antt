use Rattle.std.proofs.Common.{◌≡◌, ℕ, ◌+◌, ◌-◌, ◌%◌, ◌^◌, ◌<◌, ◌≤◌, arith}
use Rattle.vs_notify.proofs.needs.Goals as goal

-- The first entry from `o` on that shows `event`.
abbrev first : ℕ → ℕ → ℕ
first event o = o + (event + 2 ^ 16 - o % 2 ^ 16) % 2 ^ 16

record IsFirst (event o k : ℕ) : Type 0 where
  from : o ≤ k
  below : k < o + 2 ^ 16
  shows : k % 2 ^ 16 ≡ event

first_is : (event o : ℕ) → event < 2 ^ 16 → IsFirst event o (first event o)
first_is event o low = record { from = omega arith; below = omega arith; shows = omega arith }

pub returns-clause-among : goal.returns-clause-among
returns-clause-among c =
    let low : c.args.event < 2 ^ 16 = omega (arith, c.ranges.event) in
    λ n o shows_n shows_o le lt. (
      λ is_needed.
          let is = first_is c.args.event o low in
          (first c.args.event o, is.from, grind (arith, is.from, is.below, is.shows, is_needed), is.shows),
      λ some. grind (arith, some.1, some.2, some.3),
    )
