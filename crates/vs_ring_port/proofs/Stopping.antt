-- What an end knows from one moment on, up to the load that shows it no page.
use Rattle.std.proofs.Common.{◌≤◌, Option, Some, None, refl, ap, ◌∙◌, arith}
use Rattle.vs_contents.specs.Contents.{Relates}
use Rattle.vs_ring_port.{specs.{Known.{Finds, Index, IsLater, Known, StopsAt, after_look, index_of}, declared.queue.Queue.Queue}, proofs.Knowing.index_there}

-- The index was loaded as often, or more.
abbrev pub NotFewer : Queue → Known → Known → Type 0
NotFewer queue k l = (index_of queue k).loads ≤ (index_of queue l).loads

pub at_first : (queue : Queue) (o : Option Known) → Relates o o (NotFewer queue)
at_first queue None = refl
at_first queue (Some k) = omega arith

pub grown_by : (queue : Queue) (a b c : Option Known) → Relates a b (NotFewer queue) → Relates b c IsLater → Relates a c (NotFewer queue)
grown_by queue None None c first later = later
grown_by queue None (Some l) c first later = absurd cc
grown_by queue (Some k) None c first later = absurd first
grown_by queue (Some k) (Some l) None first later = later
grown_by queue (Some k) (Some l) (Some m) first later = omega (arith, first, later.loads queue)

none_found : (A : Type 0) (queue : Queue) (k l m : Known) → NotFewer queue k l → Finds {A = A} queue None l m → StopsAt queue k m
none_found A queue k l m first look =
    let i = index_of queue l in
    let there = ap (λ (z : Known). index_of queue z) look.is ∙ index_there queue (after_look i.taken 0 i) l in
    let loads = ap (λ (z : Index). z.loads) there in
    let shown = ap (λ (z : Index). z.shown) there in
    let all_taken = ap (λ (z : Index). z.taken) there in
    let told = ap (λ (z : Index). z.told) there in
    record {
      loaded = omega (arith, first, loads);
      none_left = omega (arith, shown, all_taken);
      all_told = omega (arith, look.all_told, told, all_taken);
    }

pub stops_by : (A : Type 0) (queue : Queue) (a b c : Option Known) → Relates a b (NotFewer queue) → Relates b c (Finds {A = A} queue None)
    → Relates a c (StopsAt queue)
stops_by A queue None None c first found = found
stops_by A queue None (Some l) c first found = absurd cc
stops_by A queue (Some k) None c first found = absurd first
stops_by A queue (Some k) (Some l) None first found = found
stops_by A queue (Some k) (Some l) (Some m) first found = none_found A queue k l m first found
