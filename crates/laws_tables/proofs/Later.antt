-- Logs get more entries, and what was put on a connection that is shut stays.
use Rattle.std.proofs.{Common.{◌≡◌, ℕ, List, [], ◌∷◌, ◌++◌, refl, sym, ap, subst, ◌∙◌, append_assoc, arith}, lemmas.Grind.common_steps}
use Rattle.vs_page.{specs.{Fair.{IsFairLog, payload_put}, Log.{Device, Driver, Log, Role}}, proofs.Shut.shut_put}
use Rattle.laws_tables.specs.{Both.{Both, Happening, Step, at, happens, log_after, run}, Later.{IsLater, StaysShut}}

pub later_then : (a b c : Log) → IsLater a b → IsLater b c → IsLater a c
later_then a b c first next =
    (next.0 ++ first.0, next.1 ∙ ap (λ (log : Log). next.0 ++ log) first.1 ∙ sym (append_assoc next.0 first.0 a))

pub stays_shut : (role : Role) (old new : Log) → IsLater old new → IsFairLog role new → StaysShut role old new
stays_shut role old new later fair = λ k shut up_to.
    ap (payload_put role k) later.1 ∙ shut_put role later.0 old k (subst (IsFairLog role) later.1 fair k.flow) shut up_to

-- A step adds the same to any log.
pub step_adds : (role : Role) (cid : ℕ) (step : Step) (log : Log) → log_after role cid step log ≡ log_after role cid step [] ++ log
step_adds = grind (arith, common_steps)

one_later : (side role : Role) (step : Step) (b : Both) → IsLater (at side b).log (at side (happens role step b)).log
one_later Driver Driver step b = (_, step_adds Driver b.driver.part.cid step b.driver.log)
one_later Device Device step b = (_, step_adds Device b.device.part.cid step b.device.log)
one_later Driver Device step b = ([], refl)
one_later Device Driver step b = ([], refl)

pub run_later : (side : Role) (xs : List Happening) (b : Both) → IsLater (at side b).log (at side (run xs b)).log
run_later side [] b = ([], refl)
run_later side (x ∷ xs) b = later_then _ _ _ (one_later side x.role x.step b) (run_later side xs (happens x.role x.step b))
