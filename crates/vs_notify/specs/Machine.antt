-- One index of a split virtqueue: the publisher that stores it, the consumer that loads it, and the consumer's word, its event index or its
-- flags, which the publisher loads. Each event is one access to the memory that both share. The accesses of the two ends come in any order,
-- but in one order for both: they are sequentially consistent.
use Rattle.std.specs.Prelude.{◌≡◌, ℕ, ◌+◌, ◌%◌, ◌^◌, ◌<◌, ◌==◌, ◌⊎◌, nat_lt, nat_le, Bool, true, false, not, ◌&&◌, ◌||◌, if◌then◌else◌, List, [], ◌∷◌}
use Rattle.vs_notify.specs.{declared.{Consumer.{Consumer, TheVariants.{Working, Asked, Resting}}, Suppression.Suppression}, Words.{needs_kick, asks_for_next, may_rest}}

-- Where the publisher stands: it owes nothing, or is between its store of the index and its load of the consumer's word.
pub data Publisher : Type 0 where
  Free : Publisher
  Owing : Publisher

-- The counts are whole numbers, of which the words in memory show 16 bits.
pub record Index : Type 0 where
  -- Entries published, and how many these were when the publisher loaded the word last.
  pub published : ℕ
  pub loaded : ℕ
  -- Entries that the consumer took.
  pub taken : ℕ
  -- The consumer's event index or flags.
  pub word : ℕ
  pub publisher : Publisher
  pub consumer : Consumer
  -- Since the consumer loaded the index last, a load of the word answered that a kick is needed.
  pub kicked : Bool

-- Rings begin with zeros.
abbrev pub start : Index
start = record { published = 0; loaded = 0; taken = 0; word = 0; publisher = Free; consumer = Working; kicked = false }

pub data Event : Type 0 where
  -- The publisher stores the index, with so many more entries.
  Publish : ℕ → Event
  -- After that it loads the consumer's word, and kicks where this asks for it.
  LoadWord : Event
  -- The consumer loads the index, and takes an entry where it shows one.
  Take : Event
  -- It stores its event index or its flags.
  StoreWord : ℕ → Event
  -- It loads the index once more, and rests where it may.
  Look : Event
  -- It goes on, after a kick or for a reason of its own.
  Wake : Event

-- What a word shows of a count.
abbrev pub word_of : ℕ → ℕ
word_of count = count % 2 ^ 16

-- A ring of this size has room for as many, and fewer than 2^16 were published since the publisher loaded the word.
abbrev pub may_publish : ℕ → ℕ → Index → Bool
may_publish size n i = nat_lt 0 n && nat_le (i.published + n) (i.taken + size) && nat_lt (i.published + n) (i.loaded + 2 ^ 16)

abbrev pub owes : Publisher → Bool
owes Free = false
owes Owing = true

abbrev pub rests : Consumer → Bool
rests Working = false
rests Asked = false
rests Resting = true

abbrev pub shows_next : Index → Bool
shows_next i = not (word_of i.published == word_of i.taken)

abbrev pub with_loaded : Suppression → Index → Index
with_loaded mode i = record i {
  loaded = i.published;
  publisher = Free;
  kicked = i.kicked || needs_kick mode i.word (word_of i.published) (word_of i.loaded);
}

abbrev pub with_word : Suppression → ℕ → Index → Index
with_word mode w i = record i { word = w; consumer = if asks_for_next mode w (word_of i.taken) then Asked else Working }

abbrev pub with_look : Index → Index
with_look i = record i {
  consumer = if may_rest i.consumer (word_of i.published) (word_of i.taken) then Resting else Working;
  kicked = false;
}

-- What isn't possible leaves all as it is.
abbrev pub happens : Suppression → ℕ → Event → Index → Index
happens mode size (Publish n) i = if may_publish size n i then record i { published = i.published + n; publisher = Owing } else i
happens mode size LoadWord i = if owes i.publisher then with_loaded mode i else i
happens mode size Take i = if not (rests i.consumer) && shows_next i
    then record i { taken = i.taken + 1; consumer = Working; kicked = false } else i
happens mode size (StoreWord w) i = if rests i.consumer then i else with_word mode (word_of w) i
happens mode size Look i = if rests i.consumer then i else with_look i
happens mode size Wake i = if rests i.consumer then record i { consumer = Working } else i

-- Where events lead, one after another.
abbrev pub run : Suppression → ℕ → List Event → Index → Index
run mode size [] i = i
run mode size (e ∷ es) i = run mode size es (happens mode size e i)

-- The same with a consumer that doesn't look a second time: it rests as soon as it has stored its word.
abbrev pub unlooked : Consumer → Consumer
unlooked Working = Working
unlooked Asked = Resting
unlooked Resting = Resting

abbrev pub run_unlooked : Suppression → ℕ → List Event → Index → Index
run_unlooked mode size [] i = i
run_unlooked mode size (e ∷ es) i =
    let next = happens mode size e i in run_unlooked mode size es (record next { consumer = unlooked next.consumer })

-- No wake-up is lost: where the consumer rests, and something is published that it hasn't taken, the publisher still has to load the word,
-- or found since the consumer's look that a kick is needed.
abbrev pub LosesNone : Index → Type 0
LosesNone i = i.consumer ≡ Resting → i.taken < i.published → (i.publisher ≡ Owing) ⊎ (i.kicked ≡ true)
