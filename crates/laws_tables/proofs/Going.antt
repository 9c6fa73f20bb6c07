-- The steps of one seat, one after another. Which packets come is for the other end to say.
use Rattle.std.proofs.{Common.{◌≡◌, ℕ, List, [], ◌∷◌, ◌++◌, refl, sym, ap, subst, ◌∙◌, arith}, lemmas.Grind.common_steps}
use Rattle.vs_page.specs.{Fair.IsFairLog, Log.{Device, Driver, Log, Role, flow_got, side_of, whole_of}}
use Rattle.vs_page.specs.declared.log.LogEntry.{LogEntry, TheVariants.GotPacket}
use Rattle.laws_tables.specs.{Matches.Matches, Both.{Both, Happening, MayHappen, MayRun, MayStep, Seat, Step, Takes, after, at, happens, log_after, run}}
use Rattle.laws_tables.proofs.{Both.seat_keeps, Fair.{fair_ordered, got_formed, got_is_taken}, Later.step_adds}

-- A step that may be made there, whatever the other end did.
abbrev pub MayDo : Role → Step → Seat → Type 0
MayDo role (Takes p answer) w = Unit {0}
MayDo role step w = MayStep role step w

pub may_do : (role : Role) (step : Step) (w : Seat) → MayStep role step w → MayDo role step w
may_do role step w may = grind (arith, common_steps)

may_here : (role : Role) (step : Step) (b : Both) → MayHappen role step b → MayDo role step (at role b)
may_here role step b may = grind (arith, common_steps)

-- A fair log was fair before, and a step that keeps it so keeps its seat matching it.
older_fair : (role : Role) (entry : LogEntry) (log : Log) → IsFairLog role (entry ∷ log) → IsFairLog role log
older_fair role entry log fair = grind (arith, common_steps)

all_fair : (role : Role) (newer log : Log) → IsFairLog role (newer ++ log) → IsFairLog role log
all_fair role [] log fair = fair
all_fair role (entry ∷ newer) log fair = all_fair role newer log (older_fair role entry (newer ++ log) fair)

pub step_fair : (role : Role) (step : Step) (w : Seat) → IsFairLog role (after role step w).log → IsFairLog role w.log
step_fair role step w fair =
    all_fair role (log_after role w.part.cid step []) w.log (subst (IsFairLog role) (step_adds role w.part.cid step w.log) fair)

pub fair_keeps : (role : Role) (first : ℕ) (step : Step) (w : Seat) → MayDo role step w → Matches role first w.part w.log
    → let v = after role step w in IsFairLog role v.log → Matches role first v.part v.log
fair_keeps role first (Takes p answer) w may m fair =
    let f = flow_got role p in
    seat_keeps role first (Takes p answer) w (got_is_taken role p w.log (fair f), λ on. (got_formed role p w.log (fair f)).kind) m
    (λ g. fair_ordered (side_of role g) (whole_of role g (GotPacket p ∷ w.log)) (fair g))
fair_keeps role first step w may m fair =
    let log = (after role step w).log in seat_keeps role first step w may m (λ f. fair_ordered (side_of role f) (whole_of role f log) (fair f))

module _ (role : Role) where
  -- The newest step first.
  abbrev pub done : List Step → Seat → Seat
  done [] w = w
  done (step ∷ older) w = after role step (done older w)

  abbrev pub MayDoAll : List Step → Seat → Type 0
  MayDoAll [] w = Unit {0}
  MayDoAll (step ∷ older) w = MayDoAll older w × MayDo role step (done older w)

  pub record Goes (v w : Seat) : Type 0 where
    pub steps : List Step
    pub may : MayDoAll steps v
    pub ends : done steps v ≡ w

  pub stays : (v w : Seat) → v ≡ w → Goes v w
  stays v w is = record { steps = []; may = tt; ends = is }

  pub goes_on : (u v w : Seat) (step : Step) → MayDo role step v → after role step v ≡ w → Goes u v → Goes u w
  goes_on u v w step may is goes = record {
    steps = step ∷ goes.steps;
    may = (goes.may, subst (MayDo role step) (sym goes.ends) may);
    ends = ap (after role step) goes.ends ∙ is;
  }

  pub one_step : (v w : Seat) (step : Step) → MayDo role step v → after role step v ≡ w → Goes v w
  one_step v w step may is = goes_on v v w step may is (stays v v refl)

  pub goes_then : (u v w : Seat) → Goes u v → Goes v w → Goes u w
  goes_then u v w first next = by next.steps next.may w next.ends
    where
      by : (steps : List Step) → MayDoAll steps v → (x : Seat) → done steps v ≡ x → Goes u x
      by [] may x is = record { steps = first.steps; may = first.may; ends = first.ends ∙ is }
      by (step ∷ older) may x is = goes_on u (done older v) x step may.1 is (by older may.0 (done older v) refl)

-- So it goes at either seat over the steps of both.
one_goes : (role other : Role) (step : Step) (b : Both) → MayHappen other step b → Goes role (at role b) (at role (happens other step b))
one_goes Driver Driver step b may = one_step Driver _ _ step (may_here Driver step b may) refl
one_goes Device Device step b may = one_step Device _ _ step (may_here Device step b may) refl
one_goes Driver Device step b may = stays Driver _ _ refl
one_goes Device Driver step b may = stays Device _ _ refl

pub run_goes : (role : Role) (xs : List Happening) (b : Both) → MayRun xs b → Goes role (at role b) (at role (run xs b))
run_goes role [] b may = stays role _ _ refl
run_goes role (x ∷ xs) b may =
    goes_then role _ _ _ (one_goes role x.role x.step b may.0) (run_goes role xs (happens x.role x.step b) may.1)
