use Rattle.std.proofs.Common.{◌≡◌, Bool, true, false, refl, sym, subst, if◌then◌else◌, [], ◌∷◌}
use Rattle.vs_flow.specs.{Flow.same_flow, declared.flow.Flow.Flow}
use Rattle.vs_page.{specs.Log.{Device, side_of}, proofs.Flows.same_is}
use Rattle.laws_history.specs.History.{Got}
use Rattle.laws_tables.specs.Heard.{IsOrdered}
use Rattle.laws_device.specs.Worked.{dialed_flow, short_request}
use Rattle.laws_device.proofs.told.worked_short_page.Goals as goal

pub returns-clause-held : goal.returns-clause-held
returns-clause-held c = refl

here : IsOrdered (side_of Device dialed_flow) (Got short_request ∷ [])
here = (record { request = λ is. (refl, refl); asked = λ asker. absurd cc }, tt)

pub returns-clause-ordered : goal.returns-clause-ordered
returns-clause-ordered c f = by (same_flow f dialed_flow) refl
  where
    by : (b : Bool) → same_flow f dialed_flow ≡ b → IsOrdered (side_of Device f) (if b then Got short_request ∷ [] else [])
    by true is = subst (λ (g : Flow). IsOrdered (side_of Device g) (Got short_request ∷ [])) (sym (same_is f dialed_flow is)) here
    by false is = tt

pub returns-clause-open : goal.returns-clause-open
returns-clause-open c = refl

pub returns-clause-fails : goal.returns-clause-fails
returns-clause-fails c = λ chain s. refl
