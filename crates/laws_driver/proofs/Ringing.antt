-- What one call on an honest ring that tells its log keeps.
use Rattle.std.proofs.{Common.arith, lemmas.Grind.common_steps}
use Rattle.std.{proofs.Common.{◌≡◌, ℕ, true, false, List, [], ◌∷◌, ◌++◌, Option, Some, refl, sym, ap, subst, ◌∙◌, Bool}, specs.{Prelude.IsSomeAnd, Option.ForSome}}
use Rattle.laws_history.specs.{declared.packet.Packet.Packet, Packets.packet_bytes}
use Rattle.vs_page.specs.{Fair.IsFairLog, Held.{FitsWire, packet_held}, Log.{Driver, Log}, declared.log.LogEntry.TheVariants.PutPacket}
use Rattle.vs_ring_port.specs.{EndLog.{EndLog, all_put, log_published, log_staged, with_packet}, DriverCalls.{CanPublish, CanStage, DriverAnswer, DriverCall, DriverMoves}}
use Rattle.vs_ring_port.specs.{DriverCalls.HoldsPacket, Lists.Rings, declared.queue.Queue.{Queue, TheVariants.Tx}, Contents.RingContents}
use Rattle.laws_tables.{specs.{Both.{Step, after}, Matches.Matches}, proofs.Going.MayDo}
use Rattle.vs_driver_parts.specs.State.{DriverState}
use Rattle.laws_driver.{proofs.Going.seat, specs.{Honest.{AgreesWith, IsFitState, ends_of_state}, Staged.{IsLeft, IsTied}, Resets.MarksResets}}

-- What is known over a ring that is honest, and not over one that isn't.
abbrev pub Given : Bool → Type 0 → Type 0
Given true P = P
Given false P = Unit {0}

-- P holds of the log of a ring that is honest, where it tells it; or of one that isn't.
abbrev pub Tells : Bool → (EndLog → Type 0) → RingContents → Type 0
Tells true P c = c.honest ≡ true → ForSome c.log P
Tells false P c = (c.honest ≡ false) × ForSome c.log P

-- The driver and its log with the packets that are staged.
abbrev pub TiedAs : Bool → Bool → ℕ → DriverState → EndLog → Type 0
TiedAs fairly hosts first s l = IsFitState hosts s × Given fairly (IsLeft hosts first s.broken (ends_of_state s) l.staged.tx l.entries)

-- The same where no packet is staged.
abbrev pub RestsAs : Bool → Bool → ℕ → DriverState → EndLog → Type 0
RestsAs fairly hosts first s l =
    IsFitState hosts s × Given fairly (IsLeft hosts first s.broken (ends_of_state s) [] l.entries) × (l.staged.tx ≡ [])

abbrev pub IsAtRest : Bool → ℕ → DriverState → EndLog → Type 0
IsAtRest hosts first s l = IsFitState hosts s × IsLeft hosts first s.broken (ends_of_state s) [] l.entries × (l.staged.tx ≡ [])

pub at_rest : (hosts : Bool) (first : ℕ) (s : DriverState) (l : EndLog) → AgreesWith hosts first s l → IsAtRest hosts first s l
at_rest hosts first s l agrees = grind (arith, common_steps)

pub agrees : (hosts : Bool) (first : ℕ) (s : DriverState) (l : EndLog) → IsAtRest hosts first s l → AgreesWith hosts first s l
agrees hosts first s l rest = grind (arith, common_steps)

pub tied : (hosts : Bool) (first : ℕ) (s : DriverState) (l : EndLog) → IsAtRest hosts first s l → IsTied hosts first s l
tied hosts first s l rest = grind (arith, common_steps)

pub tells_weaker : (fairly : Bool) (P Q : EndLog → Type 0) → ((l : EndLog) → P l → Q l) → (c : RingContents) → Tells fairly P c → Tells fairly Q c
tells_weaker true P Q then c tells = λ honest l is. then l (tells honest l is)
tells_weaker false P Q then c tells = (tells.0, λ l is. then l (tells.1 l is))

-- A call changes the log by g: what follows of each log, which is fair after it where the ring is honest, it tells.
moves_fair : (call : DriverCall) (a : DriverAnswer call) (L : Rings → Type 0) (f : Rings → Rings) (R : EndLog → Type 0) (g : EndLog → EndLog) (c d : RingContents) → DriverMoves call a L f R g c d
    → (P Q : EndLog → Type 0) → ((l : EndLog) → P l → IsFairLog Driver (g l).entries → Q (g l)) → Tells true P c → Tells true Q d
moves_fair call a L f R g c d made P Q then tells = grind (arith, common_steps)

moves_any : (call : DriverCall) (a : DriverAnswer call) (L : Rings → Type 0) (f : Rings → Rings) (R : EndLog → Type 0) (g : EndLog → EndLog) (c d : RingContents) → DriverMoves call a L f R g c d
    → (P Q : EndLog → Type 0) → ((l : EndLog) → P l → Q (g l)) → Tells false P c → Tells false Q d
moves_any call a L f R g c d made P Q then tells = grind (arith, common_steps)

pub moves : (fairly : Bool) (call : DriverCall) (a : DriverAnswer call) (L : Rings → Type 0) (f : Rings → Rings) (R : EndLog → Type 0) (g : EndLog → EndLog) (c d : RingContents)
    → DriverMoves call a L f R g c d → (P Q : EndLog → Type 0) → ((l : EndLog) → P l → Given fairly (IsFairLog Driver (g l).entries) → Q (g l)) → Tells fairly P c
    → Tells fairly Q d
moves true call a L f R g c d made P Q then tells = moves_fair call a L f R g c d made P Q then tells
moves false call a L f R g c d made P Q then tells = moves_any call a L f R g c d made P Q (λ l held. then l held tt) tells

pub can_publish_other : (queue : Queue) (c : RingContents) → (queue ≡ Tx → ⊥) → CanPublish queue c
can_publish_other Tx c other = absurd (other refl)
can_publish_other x c other = λ honest l is. tt

-- Staged packets may be published, and nothing is staged then.
pub publishes : (fairly hosts : Bool) (first : ℕ) (s : DriverState) (l : EndLog) → TiedAs fairly hosts first s l → RestsAs fairly hosts first s (log_published Tx l)
publishes fairly hosts first s l tie = by fairly tie.1
  where
    by : (b : Bool) → Given b (IsLeft hosts first s.broken (ends_of_state s) l.staged.tx l.entries) → RestsAs b hosts first s (log_published Tx l)
    by true left = let both : TiedAs true hosts first s l = (tie.0, left) in grind (arith, common_steps, both)
    by false left = (tie.0, tt, refl)

pub can_publish : (fairly hosts : Bool) (first : ℕ) (s : DriverState) (c : RingContents) → Tells fairly (TiedAs fairly hosts first s) c → CanPublish Tx c
can_publish true hosts first s c tells = λ honest l is. let tie = tells honest l is in tie.1.fair
can_publish false hosts first s c tells = λ honest l is. let never : true ≡ false = sym honest ∙ tells.0 in absurd cc

-- What a step on the driver does that puts a packet, in a page that holds it: which step of its seat it is.
pub record Puts (hosts : Bool) (packet : Packet) (s : DriverState) (page : List ℕ) (t : DriverState) : Type 0 where
  pub held : packet_held page ≡ Some packet
  pub bytes : page ≡ packet_bytes packet
  pub fits : IsFitState hosts t
  pub broken : t.broken ≡ s.broken
  pub matches : (first : ℕ) (log : Log) → Matches Driver first (ends_of_state s) log
      → Matches Driver first (ends_of_state t) (PutPacket packet ∷ log)
  pub fair : (first : ℕ) (log : Log) → Matches Driver first (ends_of_state s) log → IsFairLog Driver log
      → IsFairLog Driver (PutPacket packet ∷ log)
  pub wire : FitsWire packet.header
  pub step : Step
  pub may : (log : Log) → MayDo Driver step (seat s log)
  pub leads : (log : Log) → after Driver step (seat s log) ≡ seat t (PutPacket packet ∷ log)

pub put_last : (pages : List (List ℕ)) (page : List ℕ) (p : Packet) (log : Log) → packet_held page ≡ Some p
    → all_put (pages ++ page ∷ []) log ≡ PutPacket p ∷ all_put pages log
put_last [] page p log held = ap (λ (o : Option Packet). with_packet (λ q. PutPacket q) o log) held
put_last (x ∷ pages) page p log held = put_last pages page p (with_packet (λ q. PutPacket q) (packet_held x) log) held

holds_packet : (page : List ℕ) (p : Packet) → packet_held page ≡ Some p → page ≡ packet_bytes p → HoldsPacket page
holds_packet page p held bytes = let P : Option Packet → Type 0 = λ o. IsSomeAnd o (λ q. page ≡ packet_bytes q) in subst P (sym held) bytes

-- A page that a step puts its packet in may be staged; so may any page of another queue.
pub can_stage : {hosts : Bool} (fairly : Bool) (P : EndLog → Type 0) (p : Packet) (s t : DriverState) (page : List ℕ) (c : RingContents)
    → ((l : EndLog) → P l → Puts hosts p s page t) → Tells fairly P c → CanStage Tx page c
can_stage true P p s t page c puts tells = λ honest l is tx. let put = puts l (tells honest l is) in holds_packet page p put.held put.bytes
can_stage false P p s t page c puts tells = λ honest l is tx. let never : true ≡ false = sym honest ∙ tells.0 in absurd cc

pub can_stage_other : (queue : Queue) (page : List ℕ) (c : RingContents) → (queue ≡ Tx → ⊥) → CanStage queue page c
can_stage_other queue page c other = λ honest l is tx. absurd (other tx)

module _ (hosts : Bool) (first : ℕ) (p : Packet) (s t : DriverState) (page : List ℕ) (l : EndLog) (puts : Puts hosts p s page t) where
  left_with : IsLeft hosts first s.broken (ends_of_state s) l.staged.tx l.entries
      → IsLeft hosts first t.broken (ends_of_state t) (log_staged Tx page l).staged.tx l.entries
  left_with left =
      let last = put_last l.staged.tx page p l.entries puts.held in
      let matches = puts.matches first (all_put l.staged.tx l.entries) left.matches in
      let fair = puts.fair first (all_put l.staged.tx l.entries) left.matches left.fair in
      record {
        none_refused = λ all. puts.broken ∙ left.none_refused all;
        matches = subst (λ (log : Log). Matches Driver first (ends_of_state t) log) (sym last) matches;
        fair = subst (λ (log : Log). IsFairLog Driver log) (sym last) fair;
        marks = subst MarksResets (sym last) left.marks;
      }

  pub stages : (fairly : Bool) → TiedAs fairly hosts first s l → TiedAs fairly hosts first t (log_staged Tx page l)
  stages true tie = (puts.fits, left_with tie.1)
  stages false tie = (puts.fits, tt)
