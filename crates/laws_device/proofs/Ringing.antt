-- What a call on a ring that tells its log keeps.
use Rattle.std.proofs.lemmas.Grind.{common_steps}
use Rattle.std.proofs.Common.{◌≡◌, ℕ, ◌+◌, ◌≤◌, Bool, true, cond, List, ◌∷◌, Contains, length, take, Option, refl, sym, ap, subst, ◌∙◌, arith}
use Rattle.std.{specs.Option.ForSome}
use Rattle.vs_contents.specs.Contents.{Exposes}
use Rattle.vs_outside.specs.Host.{HostContents}
use Rattle.vs_device_parts.specs.Calls.{HostMoves, Situation}
use Rattle.laws_device.{specs.Honest.is_held, proofs.Sure.Sure}
use Rattle.vs_page.specs.{Fair.IsFairLog, Log.Device, Overwriting.overwritten}
use Rattle.vs_ring_port.specs.{Chains.{Held, bytes_in, chains_of, same_chain, with_bytes, without_held}, Contents.{RingContents, DeviceCall, DeviceAnswer}}
use Rattle.vs_ring_port.specs.{DeviceCalls.DeviceMoves, EndLog.{EndLog, entries_returned, log_returned, log_written}, Lists.Rings, declared.device_ring.Chain.Chain}
use Rattle.vs_ring_port.specs.declared.queue.Queue.{Queue}

-- P holds of the log that a ring tells; it depends on whether the ring is honest, and on what the host exposes.
abbrev pub Telling : Type 1
Telling = Bool → Option HostContents → EndLog → Type 0

pub record Tells (fairly : Bool) (P : Telling) (c : Situation) : Type 0 where
  pub sure : Sure fairly c.ring.honest
  pub told : ForSome c.ring.log (P c.ring.honest c.host)

pub tells_weaker : (fairly : Bool) (P Q : Telling) → ((h : Bool) (o : Option HostContents) (l : EndLog) → P h o l → Q h o l) → (c : Situation)
    → Tells fairly P c → Tells fairly Q c
tells_weaker fairly P Q then c tells = record { sure = tells.sure; told = λ l is. then c.ring.honest c.host l (tells.told l is) }

-- A call changes the log by g: what follows of each log, which is fair after it where the ring is honest, it tells.
log_moves : (call : DeviceCall) (a : DeviceAnswer call) (L : Rings → Type 0) (f : Rings → Rings) (R : EndLog → Type 0)
    (g : EndLog → EndLog) (c d : Situation)
    → DeviceMoves call a L f R g c.ring d.ring → d.host ≡ c.host → (P Q : Telling)
    → ((h : Bool) (o : Option HostContents) (l : EndLog) → R l → P h o l → (h ≡ true → IsFairLog Device (g l).entries) → Q h o (g l))
    → ForSome c.ring.log (P c.ring.honest c.host) → ForSome d.ring.log (Q d.ring.honest d.host)
log_moves call a L f R g c d made stays P Q then tells = grind (arith, common_steps)

pub moves : (fairly : Bool) (call : DeviceCall) (a : DeviceAnswer call) (L : Rings → Type 0) (f : Rings → Rings) (R : EndLog → Type 0)
    (g : EndLog → EndLog) (c d : Situation)
    → DeviceMoves call a L f R g c.ring d.ring → d.host ≡ c.host → (P Q : Telling)
    → ((h : Bool) (o : Option HostContents) (l : EndLog) → R l → P h o l → (h ≡ true → IsFairLog Device (g l).entries) → Q h o (g l))
    → Tells fairly P c → Tells fairly Q d
moves fairly call a L f R g c d made stays P Q then tells =
    record { sure = subst (Sure fairly) (sym made.honest) tells.sure; told = log_moves call a L f R g c d made stays P Q then tells.told }

-- A call on the host leaves the log.
pub host_moves : (fairly failed : Bool) (A : HostContents → Type 0) (f : HostContents → HostContents) (c d : Situation) → HostMoves failed A f c d → (P Q : Telling)
    → ((h : Bool) (o n : Option HostContents) (l : EndLog) → Exposes o n A f → P h o l → Q h n l) → Tells fairly P c → Tells fairly Q d
host_moves fairly failed A f c d made P Q then tells = record {
  sure = subst (λ (r : RingContents). Sure fairly r.honest) (sym made.ring) tells.sure;
  told = subst (λ (r : RingContents). ForSome r.log (Q r.honest d.host)) (sym made.ring)
      (λ l is. then c.ring.honest c.host d.host l made.host (tells.told l is));
}

-- A chain is itself.
pub same_self : (c : Chain) → same_chain c c ≡ true
same_self c = grind (arith, common_steps)

-- The chain that was taken last, its bytes so far, and those held before.
abbrev pub HoldsFirst : Chain → List ℕ → List Held → EndLog → Type 0
HoldsFirst chain bytes others l = l.held ≡ record { chain = chain; bytes = bytes } ∷ others

-- It is held.
pub first_there : (chain : Chain) (bytes : List ℕ) (others : List Held) (l : EndLog) → HoldsFirst chain bytes others l
    → Contains (chains_of l.held) chain
first_there chain bytes others l is =
    subst (λ (held : List Held). Contains (chains_of held) chain) (sym is) (0, omega arith, refl)

pub first_is_held : (chain : Chain) (bytes : List ℕ) (others : List Held) (l : EndLog) → HoldsFirst chain bytes others l → is_held chain l.held ≡ true
first_is_held chain bytes others l is = ap (is_held chain) is ∙ ap (λ (b : Bool). cond b true (is_held chain others)) (same_self chain)

pub first_bytes : (chain : Chain) (bytes : List ℕ) (others : List Held) → bytes_in chain
    (record { chain = chain; bytes = bytes } ∷ others) ≡ bytes
first_bytes chain bytes others = ap (λ (b : Bool). cond b bytes (bytes_in chain others)) (same_self chain)

pub bytes_held : (chain : Chain) (bytes : List ℕ) (others : List Held) (l : EndLog) → HoldsFirst chain bytes others l
    → bytes_in chain l.held ≡ bytes
bytes_held chain bytes others l is = ap (bytes_in chain) is ∙ first_bytes chain bytes others

first_written : (chain : Chain) (bytes new : List ℕ) (others : List Held)
    → with_bytes chain new (record { chain = chain; bytes = bytes } ∷ others) ≡ record { chain = chain; bytes = new } ∷ others
first_written chain bytes new others = grind (arith, common_steps)

pub written_held : (chain : Chain) (bytes new : List ℕ) (place : ℕ) (others : List Held) (l : EndLog) → HoldsFirst chain bytes others l
    → HoldsFirst chain (overwritten bytes place new) others (log_written chain place new l)
written_held chain bytes new place others l is =
    ap (λ (b : List ℕ). with_bytes chain (overwritten b place new) l.held) (bytes_held chain bytes others l is)
    ∙ (ap (with_bytes chain (overwritten bytes place new)) is ∙ first_written chain bytes (overwritten bytes place new) others)

pub returned_held : (chain : Chain) (bytes : List ℕ) (len : ℕ) (others : List Held) (l : EndLog) → HoldsFirst chain bytes others l
    → (log_returned chain len l).held ≡ others
returned_held chain bytes len others l is =
    let h : Held = record { chain = chain; bytes = bytes } in
    ap (without_held chain) is ∙ ap (λ (b : Bool). cond b others (h ∷ without_held chain others)) (same_self chain)

pub returned_entries : (chain : Chain) (queue : Queue) (bytes : List ℕ) (len : ℕ) (others : List Held) (l : EndLog) → chain.queue ≡ queue
    → HoldsFirst chain bytes others l → (log_returned chain len l).entries ≡ entries_returned queue (take len bytes) l.entries
returned_entries chain queue bytes len others l is held =
    ap (λ (q : Queue). entries_returned q (take len (bytes_in chain l.held)) l.entries) is
    ∙ ap (λ (b : List ℕ). entries_returned queue (take len b) l.entries) (bytes_held chain bytes others l held)

pub overwritten_long : (old new : List ℕ) (n : ℕ) → length (take n old) ≡ n → n + length new ≤ length (overwritten old n new)
overwritten_long old new n first = grind (arith, common_steps)
