-- Who waits on the ports that are listened on, through each change of the driver's lists.
use Rattle.std.proofs.lemmas.Grind.{common_steps}
use Rattle.std.proofs.Common.{◌≡◌, ◌≢◌, ℕ, ◌<◌, ◌==◌, Bool, true, false, not, cond, List, [], ◌∷◌, ◌++◌, filter, find, Some, refl, sym, ap, subst, ◌∙◌, arith}
use Rattle.std.{proofs.lemmas.Bool.Decides.nat_tests}
use Rattle.vs_driver_parts.specs.{Listening.{listener_on, with_port, with_waiting, without_id}, State.{DriverState, Listener}, Connections.{without_listener, waiting_on}}

-- This holds of each id of a list; and, with the port, of each that waits on one.
abbrev pub AllIds : (ℕ → Type 0) → List ℕ → Type 0
AllIds P [] = Unit {0}
AllIds P (id ∷ ids) = P id × AllIds P ids

abbrev pub AllWait : (ℕ → ℕ → Type 0) → List Listener → Type 0
AllWait P [] = Unit {0}
AllWait P (l ∷ ls) = AllIds (P l.port) l.waiting × AllWait P ls

-- The id was given, where the next one is this, and to a connection of the port.
abbrev pub IsOfPort : ℕ → (ℕ → ℕ) → ℕ → ℕ → Type 0
IsOfPort next port_of port id = (id < next) × (port_of id ≡ port)

-- Nobody waits with this id.
abbrev pub IsOther : ℕ → ℕ → ℕ → Type 0
IsOther id port other = other ≢ id

pub any_ids : (P : ℕ → Type 0) → ((id : ℕ) → P id) → (ids : List ℕ) → AllIds P ids
any_ids P each [] = tt
any_ids P each (id ∷ ids) = (each id, any_ids P each ids)

module _ (P Q : ℕ → Type 0) (then_ : (id : ℕ) → P id → Q id) where
  pub ids_weaker : (ids : List ℕ) → AllIds P ids → AllIds Q ids
  ids_weaker [] all = tt
  ids_weaker (id ∷ ids) all = (then_ id all.0, ids_weaker ids all.1)

pub wait_weaker : (P Q : ℕ → ℕ → Type 0) → ((port id : ℕ) → P port id → Q port id) → (ls : List Listener) → AllWait P ls → AllWait Q ls
wait_weaker P Q then_ [] all = tt
wait_weaker P Q then_ (l ∷ ls) all = (ids_weaker (P l.port) (Q l.port) (then_ l.port) l.waiting all.0, wait_weaker P Q then_ ls all.1)

module _ (P : ℕ → Type 0) where
  pub ids_filter : (test : ℕ → Bool) (ids : List ℕ) → AllIds P ids → AllIds P (filter test ids)
  ids_filter test [] all = tt
  ids_filter test (id ∷ ids) all = by (test id) (ids_filter test ids all.1)
    where
      by : (b : Bool) → AllIds P (filter test ids) → AllIds P (cond b (id ∷ filter test ids) (filter test ids))
      by true rest = (all.0, rest)
      by false rest = rest

  pub ids_push : (ids : List ℕ) (id : ℕ) → AllIds P ids → P id → AllIds P (ids ++ id ∷ [])
  ids_push [] id all one = (one, tt)
  ids_push (x ∷ ids) id all one = (all.0, ids_push ids id all.1 one)

  pub ids_found : (test : ℕ → Bool) (ids : List ℕ) (id : ℕ) → find test ids ≡ Some id → AllIds P ids → P id
  ids_found test [] id is all = absurd cc
  ids_found test (x ∷ ids) id is all = by (test x) is (λ there. ids_found test ids id there all.1)
    where
      by : (b : Bool) → cond b (Some x) (find test ids) ≡ Some id → (find test ids ≡ Some id → P id) → P id
      by true is rest = let same : x ≡ id = cc in subst P same all.0
      by false is rest = rest is

module _ (P : ℕ → ℕ → Type 0) where
  -- The list of a port changes.
  pub wait_changed : (port : ℕ) (change : List ℕ → List ℕ) → ((ids : List ℕ) → AllIds (P port) ids → AllIds (P port) (change ids)) → (ls : List Listener)
      → AllWait P ls → AllWait P (with_waiting port change ls)
  wait_changed port change keeps [] all = tt
  wait_changed port change keeps (l ∷ ls) all = by (l.port == port) refl (wait_changed port change keeps ls all.1)
    where
      here : l.port ≡ port → AllIds (P l.port) (change l.waiting)
      here at = subst (λ (n : ℕ). AllIds (P n) (change l.waiting)) (sym at) (keeps l.waiting (subst (λ (n : ℕ). AllIds (P n) l.waiting) at all.0))

      by : (b : Bool) → (l.port == port) ≡ b → AllWait P (with_waiting port change ls)
          → AllWait P (cond b (record l { waiting = change l.waiting }) l ∷ with_waiting port change ls)
      by true is rest = (here (grind (arith, nat_tests, is)), rest)
      by false is rest = (all.0, rest)

  pub wait_less : (port id : ℕ) (ls : List Listener) → AllWait P ls → AllWait P (with_waiting port (without_id id) ls)
  wait_less port id ls all = wait_changed port (without_id id) (λ ids. ids_filter (P port) (λ w. not (w == id)) ids) ls all

  pub wait_more : (port id : ℕ) → P port id → (ls : List Listener) → AllWait P ls → AllWait P (with_waiting port (λ ids. ids ++ id ∷ []) ls)
  wait_more port id one ls all = wait_changed port (λ ids. ids ++ id ∷ []) (λ ids all. ids_push (P port) ids id all one) ls all

  -- A port is listened on, or no more.
  pub wait_listened : (port : ℕ) (ls : List Listener) → AllWait P ls → AllWait P (with_port port ls)
  wait_listened port [] all = (tt, tt)
  wait_listened port (l ∷ ls) all = (all.0, wait_listened port ls all.1)

  pub wait_unlistened : (port : ℕ) (ls : List Listener) → AllWait P ls → AllWait P (without_listener port ls)
  wait_unlistened port [] all = tt
  wait_unlistened port (l ∷ ls) all = by (l.port == port) (wait_unlistened port ls all.1)
    where
      by : (b : Bool) → AllWait P (without_listener port ls) → AllWait P (cond (not b) (l ∷ without_listener port ls) (without_listener port ls))
      by true rest = rest
      by false rest = (all.0, rest)

  -- Those that wait on a port.
  pub wait_found : (port : ℕ) (ls : List Listener) (l : Listener) → listener_on port ls ≡ Some l → AllWait P ls → AllIds (P port) l.waiting
  wait_found port [] l is all = absurd cc
  wait_found port (x ∷ ls) l is all = by (x.port == port) refl is (λ there. wait_found port ls l there all.1)
    where
      by : (b : Bool) → (x.port == port) ≡ b → cond b (Some x) (listener_on port ls) ≡ Some l
          → (listener_on port ls ≡ Some l → AllIds (P port) l.waiting) → AllIds (P port) l.waiting
      by true at is rest =
          let same : x ≡ l = cc in
          let there : x.port ≡ port = grind (arith, nat_tests, at) in
          subst (λ (k : Listener). AllIds (P port) k.waiting) same (subst (λ (n : ℕ). AllIds (P n) x.waiting) there all.0)
      by false at is rest = rest is

  pub waiting_all : (port : ℕ) (s : DriverState) → AllWait P s.listeners → AllIds (P port) (waiting_on port s)
  waiting_all port s all = grind (arith, common_steps, wait_found)

-- One that is accepted waits no more, on no port.
none_left : (id : ℕ) (ids : List ℕ) → AllIds (λ other. other ≢ id) (without_id id ids)
none_left id [] = tt
none_left id (x ∷ ids) = by (x == id) refl (none_left id ids)
  where
    by : (b : Bool) → (x == id) ≡ b → AllIds (λ other. other ≢ id) (without_id id ids)
        → AllIds (λ other. other ≢ id) (cond (not b) (x ∷ without_id id ids) (without_id id ids))
    by true is rest = rest
    by false is rest = ((λ (at : x ≡ id). grind (arith, nat_tests, is, at)), rest)

module _ (next : ℕ) (port_of : ℕ → ℕ) (port id : ℕ) (of : port_of id ≡ port) where
  others : (at : ℕ) → at ≢ port → (ids : List ℕ) → AllIds (IsOfPort next port_of at) ids → AllIds (λ other. other ≢ id) ids
  others at apart [] all = tt
  others at apart (x ∷ ids) all = ((λ (same : x ≡ id). apart (sym all.0.1 ∙ ap port_of same ∙ of)), others at apart ids all.1)

  pub accepted_other : (ls : List Listener) → AllWait (IsOfPort next port_of) ls → AllWait (IsOther id) (with_waiting port (without_id id) ls)
  accepted_other [] all = tt
  accepted_other (l ∷ ls) all = by (l.port == port) refl (accepted_other ls all.1)
    where
      by : (b : Bool) → (l.port == port) ≡ b → AllWait (IsOther id) (with_waiting port (without_id id) ls)
          → AllWait (IsOther id) (cond b (record l { waiting = without_id id l.waiting }) l ∷ with_waiting port (without_id id) ls)
      by true is rest = (none_left id l.waiting, rest)
      by false is rest = (others l.port (λ (at : l.port ≡ port). grind (arith, nat_tests, is, at)) l.waiting all.0, rest)
