-- What every access keeps.
use Rattle.std.proofs.Common.{◌≡◌, ℕ, ◌+◌, ◌^◌, ◌<◌, ◌≤◌, ◌⊎◌, true, false, List, [], ◌∷◌, arith}
use Rattle.vs_notify.specs.{Words.{needs_kick, asks_for_next, may_rest}, Machine.{Free, Index, Event, Publish, LoadWord, Take, StoreWord, Look, Wake, happens, run, start, owes}}
use Rattle.vs_notify.specs.{Machine.{rests, word_of, may_publish, LosesNone}, declared.Suppression.{Suppression, TheVariants.{Flags, EventIndex}}}

-- The counts lie as close together as their words tell.
pub record AreNear (size : ℕ) (i : Index) : Type 0 where
  pub taken_behind : i.taken ≤ i.published
  pub has_room : i.published ≤ i.taken + size
  pub loaded_behind : i.loaded ≤ i.published
  pub loaded_near : i.published < i.loaded + 2 ^ 16

pub stay_near : (mode : Suppression) (size : ℕ) (e : Event) (i : Index) → AreNear size i → AreNear size (happens mode size e i)
stay_near mode size (Publish n) i near = grind arith
stay_near mode size LoadWord i near = grind arith
stay_near mode size Take i near = grind arith
stay_near mode size (StoreWord w) i near = grind arith
stay_near mode size Look i near = grind arith
stay_near mode size Wake i near = grind arith

pub near : (mode : Suppression) (size : ℕ) (es : List Event) (i : Index) → AreNear size i → AreNear size (run mode size es i)
near mode size [] i n = n
near mode size (e ∷ es) i n = near mode size es (happens mode size e i) (stay_near mode size e i n)

-- A consumer that has asked to be told of the next entry has its word say so. Where it rests, a kick was needed since its look, or what it
-- hasn't taken was published after the publisher loaded the word last.
pub record IsTold (mode : Suppression) (i : Index) : Type 0 where
  pub free : owes i.publisher ≡ false → i.loaded ≡ i.published
  pub asked : may_rest i.consumer 0 0 ≡ true → asks_for_next mode i.word (word_of i.taken) ≡ true
  pub resting : rests i.consumer ≡ true → asks_for_next mode i.word (word_of i.taken) ≡ true
  pub since : rests i.consumer ≡ true → (i.kicked ≡ true) ⊎ (i.loaded ≤ i.taken)

-- A word that asks for the next entry is answered by a kick where one was published.
answered : (mode : Suppression) (size word taken published loaded : ℕ) → size < 2 ^ 16 → taken < published → published ≤ taken + size
    → loaded ≤ taken → published < loaded + 2 ^ 16
    → asks_for_next mode word (word_of taken) ≡ true → needs_kick mode word (word_of published) (word_of loaded) ≡ true
answered EventIndex size word taken published loaded = grind arith
answered Flags size word taken published loaded = grind arith

stay_told : (mode : Suppression) (size : ℕ) (e : Event) (i : Index) → size < 2 ^ 16 → AreNear size i → IsTold mode i
    → IsTold mode (happens mode size e i)
stay_told mode size (Publish n) i small near told = grind arith
stay_told mode size LoadWord i small near told = grind (arith, answered)
stay_told mode size Take i small near told = grind arith
stay_told mode size (StoreWord w) i small near told = grind arith
stay_told mode size Look i small near told = grind arith
stay_told mode size Wake i small near told = grind arith

pub told : (mode : Suppression) (size : ℕ) (es : List Event) (i : Index) → size < 2 ^ 16 → AreNear size i → IsTold mode i
    → IsTold mode (run mode size es i)
told mode size [] i small n t = t
told mode size (e ∷ es) i small n t =
    told mode size es (happens mode size e i) small (stay_near mode size e i n) (stay_told mode size e i small n t)

pub loses_none : (mode : Suppression) (size : ℕ) (i : Index) → AreNear size i → IsTold mode i → LosesNone i
loses_none mode size i near told = grind arith

pub start_near : (size : ℕ) → AreNear size start
start_near size = grind arith

pub start_told : (mode : Suppression) → IsTold mode start
start_told mode = grind arith

pub free_may_publish : (mode : Suppression) (size n : ℕ) (i : Index) → size < 2 ^ 16 → AreNear size i → IsTold mode i
    → i.publisher ≡ Free → 1 ≤ n → i.published + n ≤ i.taken + size → may_publish size n i ≡ true
free_may_publish mode size n i small near told = grind arith
