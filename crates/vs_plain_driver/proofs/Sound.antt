-- Each call keeps the driver's end of a queue sound.
use Rattle.std.proofs.{Common.{ℕ, ◌<◌, ◌≤◌, Option, None, replicate, arith}, lemmas.List.{length-replicate, FromFn.{get_or-range_with_len, length-range_with_len}}}
use Rattle.std.specs.List.{range_with_len}
use Rattle.vs_plain_driver.specs.View.{IsSound}

pub sound_new : (n : ℕ) (at : Option ℕ) → 0 < n → n ≤ 32768
    → IsSound (record { n = n; pages_at = at; pages = replicate n None; free = range_with_len 0 n; published = 0; staged = 0; reaped = 0 })
sound_new n at nonzero limit = record {
  nonzero = nonzero;
  limit = limit;
  pages = length-replicate n None;
  free = λ k d below.
      let here : k < n = omega (arith, below, length-range_with_len 0 n) in
      omega (arith, here, get_or-range_with_len 0 n k d here);
  within = omega (arith, length-range_with_len 0 n);
  published = omega arith;
  reaped = omega arith;
}
