-- What the guest's calls leave of the pages in flight.
use Rattle.std.proofs.{Common.{◌≡◌, ℕ, List, [], ◌∷◌, Result, Ok, Err, OnOk, OnErr, refl, sym, subst, ◌∙◌, arith}, lemmas.Grind.common_steps}
use Rattle.vs_driver_parts.specs.Connections.{after_recv, after_shutdown, after_close, after_grow}
use Rattle.vs_driver_parts.specs.Connections.{all_closed, waiting_on, after_unlisten}
use Rattle.vs_driver_parts.specs.{declared.answers.{ListenError.ListenError, NotListening.NotListening}, Listening.{listening, after_accept}}
use Rattle.vs_driver_parts.specs.{Playing.SamePages, State.DriverState}

-- The pages stay.
stay : (s : DriverState) → SamePages s s
stay s = (refl, refl, refl)

then_stay : (s t u : DriverState) → SamePages s t → SamePages t u → SamePages s u
then_stay s t u a b = (b.0 ∙ a.0, b.1 ∙ a.1, b.2 ∙ a.2)

pub accept_stays : (port : ℕ) (s : DriverState) → SamePages s (after_accept port s)
accept_stays port s = grind (arith, common_steps)

pub recv_stays : (id n : ℕ) (s : DriverState) → SamePages s (after_recv id n s)
recv_stays id n s = grind (arith, common_steps)

pub shutdown_stays : (id bits : ℕ) (s : DriverState) → SamePages s (after_shutdown id bits s)
shutdown_stays id bits s = grind (arith, common_steps)

pub grow_stays : (id alloc : ℕ) (s : DriverState) → SamePages s (after_grow id alloc s)
grow_stays id alloc s = grind (arith, common_steps)

pub close_stays : (id : ℕ) (s : DriverState) → SamePages s (after_close id s)
close_stays id s = grind (arith, common_steps)

all_stay : (ids : List ℕ) (s : DriverState) → SamePages s (all_closed ids s)
all_stay [] s = stay s
all_stay (id ∷ ids) s = then_stay s (after_close id s) (all_closed ids (after_close id s)) (close_stays id s) (all_stay ids (after_close id s))

unlisten_stays : (port : ℕ) (s : DriverState) → SamePages s (after_unlisten port s)
unlisten_stays port s = all_stay (waiting_on port s) s

pub listen_stays : (port : ℕ) (s t : DriverState) (r : Result (Unit {0}) ListenError) → OnOk r (t ≡ listening port s) → OnErr r (t ≡ s) → SamePages s t
listen_stays port s t (Ok x) ok err = subst (λ v. SamePages s v) (sym ok) (refl, refl, refl)
listen_stays port s t (Err e) ok err = subst (λ v. SamePages s v) (sym err) (stay s)

pub unlistening_stays : (port : ℕ) (s t : DriverState) (r : Result (Unit {0}) NotListening) → OnOk r (t ≡ after_unlisten port s) → OnErr r (t ≡ s) → SamePages s t
unlistening_stays port s t (Ok x) ok err = subst (λ v. SamePages s v) (sym ok) (unlisten_stays port s)
unlistening_stays port s t (Err e) ok err = subst (λ v. SamePages s v) (sym err) (stay s)
