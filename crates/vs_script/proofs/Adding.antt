-- One more behind others, and an instruction behind those of the last app.
use Rattle.std.proofs.Common.{◌≡◌, ℕ, suc, zero, Bool, true, false, if◌then◌else◌, nat_lt, List, [], ◌∷◌, ◌++◌, length, map, Result, Ok, Err, refl, sym, ap, ◌∙◌, arith}
use Rattle.std.{proofs.{Common.{slice_index_or, slice_set}, lemmas.List.{length-map, map-append}}, specs.Prelude.{IfOk, IfErr}}
use Rattle.vs_script.specs.{App.{Act, app_view}, Script.{pushed, add_act}, Field.{named, IsFault}, declared.{app.App.App, fault.LineFault.{LineFault, TheVariants.Refused}}}
use Rattle.vs_script.specs.declared.{fault.{LineFault.TheVariants.OutOfMemory, Why.{Why, TheVariants.TooMany}}, script.TheConstants.MAX_INSTRUCTIONS}

module _ {X Y : Type 0} (view : X → Y) (most : ℕ) (xs : List X) (x : X) where
  -- it is the same before and after a view of each
  pushed-view : pushed most (map view xs) (view x) ≡ named (map view) (pushed most xs x)
  pushed-view = rw (length-map xs view) (by (nat_lt (length xs) most))
    where
      by : (b : Bool) → (if b then Ok (map view xs ++ view x ∷ []) else Err TooMany) ≡ named (map view) (if b then Ok (xs ++ x ∷ []) else Err TooMany)
      by true = ap (λ ys. Ok ys) (sym (map-append view xs (x ∷ [])))
      by false = refl

  pub pushed-ok : (more : List X) (r : Result (Unit {0}) LineFault) → IfOk r (λ _. pushed most xs x ≡ Ok more)
      → IfOk r (λ _. pushed most (map view xs) (view x) ≡ Ok (map view more))
  pushed-ok more (Ok u) is = pushed-view ∙ ap (named (map view)) is
  pushed-ok more (Err fault) is = tt

  pub pushed-fault : (r : Result (Unit {0}) LineFault) → IfErr r (IsFault (pushed most xs x))
      → IfErr r (IsFault (pushed most (map view xs) (view x)))
  pushed-fault (Ok u) is = tt
  pushed-fault (Err (Refused why)) is = pushed-view ∙ ap (named (map view)) is
  pushed-fault (Err OutOfMemory) is = tt

pub add_act-ok : (act : Act) (app new : App) → pushed MAX_INSTRUCTIONS (app_view app) act ≡ Ok (app_view new) → (apps : List App) (i : ℕ)
    → length apps ≡ suc i → app ≡ slice_index_or apps i app → add_act (map app_view apps) act ≡ Ok (map app_view (slice_set apps i new))
add_act-ok act app new more [] i count last = cc
add_act-ok act app new more (a ∷ []) zero count last = rw (sym last) (rw more refl)
add_act-ok act app new more (a ∷ []) (suc i) count last = absurd (omega arith)
add_act-ok act app new more (a ∷ b ∷ apps) zero count last = absurd (omega arith)
add_act-ok act app new more (a ∷ b ∷ apps) (suc i) count last =
    rw (add_act-ok act app new more (b ∷ apps) i (omega arith) last) refl

pub add_act-err : (act : Act) (app : App) (why : Why) → pushed MAX_INSTRUCTIONS (app_view app) act ≡ Err why → (apps : List App) (i : ℕ)
    → length apps ≡ suc i → app ≡ slice_index_or apps i app → add_act (map app_view apps) act ≡ Err why
add_act-err act app why more [] i count last = cc
add_act-err act app why more (a ∷ []) zero count last = rw (sym last) (rw more refl)
add_act-err act app why more (a ∷ []) (suc i) count last = absurd (omega arith)
add_act-err act app why more (a ∷ b ∷ apps) zero count last = absurd (omega arith)
add_act-err act app why more (a ∷ b ∷ apps) (suc i) count last =
    rw (add_act-err act app why more (b ∷ apps) i (omega arith) last) refl

pub add_act-fault : (act : Act) (app : App) (fault : LineFault) → IsFault (pushed MAX_INSTRUCTIONS (app_view app) act) fault → (apps : List App) (i : ℕ)
    → length apps ≡ suc i → app ≡ slice_index_or apps i app → IsFault (add_act (map app_view apps) act) fault
add_act-fault act app (Refused why) more apps i count last = add_act-err act app why more apps i count last
add_act-fault act app OutOfMemory more apps i count last = tt
