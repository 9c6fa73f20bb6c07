use Rattle.std.proofs.Common.{◌≡◌, ℕ, ◌+◌, suc, subst, arith, IsTrue}
use Rattle.vs_guest_mem.specs.Memory.{is_within}
use Rattle.vs_ring_plain.{specs.Accesses.MakesAtMost, specs.Chain.taking, proofs.Taking.taking_bounded}
use Rattle.vs_ring_plain.proofs.examples.taking_ends_inside_the_memory.Goals as goal

pub returns : goal.returns
returns c r taken areas =
    let three : suc (suc (suc r.n)) ≡ r.n + 3 = omega arith in
    subst (λ (k : ℕ). MakesAtMost k (λ addr len. IsTrue (is_within r.base r.size addr len)) (taking r taken)) three
    (taking_bounded r taken areas)
