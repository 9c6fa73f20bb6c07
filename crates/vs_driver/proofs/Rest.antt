-- What is left of a conversation with the ring, once a part of it was had.
use Rattle.std.proofs.Common.{◌≡◌}
use Rattle.vs_contents.{specs.CallTree.bind, proofs.{Conditions.{may_first, may_of, may_rest}, Leads.{leads_bind, leads_of}}}
use Rattle.vs_ring_port.specs.Contents.{RingContents}
use Rattle.vs_driver_parts.specs.{Conversations.DriverTree, Playing.{CanMake, MayPublishAll, Plays, RingAllows}}

-- Whatever completes the rest completes the whole, and the rest may be had where the whole may.
pub record IsLeft {A : Type 0} (whole : DriverTree A) (from : RingContents) (rest : DriverTree A) (now : RingContents) : Type 0 where
  pub goes_on : (x : A) (t : RingContents) → Plays rest now x t → Plays whole from x t
  pub may : MayPublishAll whole from → MayPublishAll rest now

pub all_left : {A : Type 0} (tree : DriverTree A) (c : RingContents) → IsLeft tree c tree c
all_left tree c = record { goes_on = λ x t plays. plays; may = λ may. may }

pub left_as : {A : Type 0} (whole rest : DriverTree A) (c : RingContents) → whole ≡ rest → IsLeft whole c rest c
left_as whole rest c is =
    record { goes_on = λ x t plays. leads_of RingAllows _ _ c t x is plays; may = λ may. may_of CanMake RingAllows _ _ c is may }

module _ {A B : Type 0} {whole : DriverTree B} {from now : RingContents} (p : DriverTree A) (f : A → DriverTree B)
    (left : IsLeft whole from (bind p f) now) where
  pub may_next : MayPublishAll whole from → MayPublishAll p now
  may_next may = may_first CanMake RingAllows p f now (left.may may)

  pub then : (x : A) (d : RingContents) → Plays p now x d → IsLeft whole from (f x) d
  then x d plays = record {
    goes_on = λ y t rest. left.goes_on y t (leads_bind RingAllows p f now d t x y plays rest);
    may = λ may. may_rest CanMake RingAllows p f now d x (left.may may) plays;
  }
