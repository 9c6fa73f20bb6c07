-- Pauses of a gate, and the steps in a row for which a client waits.
use Rattle.std.proofs.{Common.◌≡◌, Common.◌≤◌, Common.ℕ, Common.arith, lemmas.Bool.Decides.nat_tests}
use Rattle.vs_outside.specs.Faults.{one_more}
use Rattle.vs_peer.specs.Waiting.{Paused, after_still}

pub none_paused : (n : ℕ) → Paused 0 n n
none_paused n few = omega arith

pub paused_before : (n m a b : ℕ) → Paused n a b → m ≤ n → Paused m a b
paused_before n m a b h less few = omega (arith, h few, less)

-- one more step in which nothing moved
pub paused_once : (waited more a b c : ℕ) → Paused waited a b → more ≡ after_still waited → c ≡ one_more b → Paused more a c
paused_once waited more a b c h still is few =
    let l = h (grind (arith, nat_tests)) in
    grind (arith, nat_tests, l)
