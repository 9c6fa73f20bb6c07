-- Credit and unread bytes of two ends at rest.
use Rattle.std.proofs.{Common.{◌≡◌, ◌≤◌, false, arith}, lemmas.Grind.common_steps}
use Rattle.vs_conn.specs.{End.ConnectionEnd, Shut.is_both}
use Rattle.vs_credit.specs.Credit.{free_of, unread_of}
use Rattle.laws_rest.specs.Rest.{ArePaired, over_half}

pub credit_there : (e other : ConnectionEnd) → ArePaired e other → unread_of e.credit ≡ 0 → is_both e.own ≡ false
    → over_half ≤ free_of other.credit
credit_there e other p none receives = grind (arith, common_steps)

pub unread_there : (e other : ConnectionEnd) → ArePaired e other → free_of e.credit ≡ 0 → is_both other.own ≡ false
    → over_half ≤ unread_of other.credit
unread_there e other p none open_yet = grind (arith, common_steps)
