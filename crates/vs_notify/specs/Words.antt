-- What the words of a split virtqueue ask for (Virtio 1.2, sections 2.7.7 and 2.7.10). Words have 16 bits.
use Rattle.std.specs.Prelude.{ℕ, ◌+◌, ◌-◌, ◌%◌, ◌^◌, ◌==◌, nat_lt, Bool, false, bit_and}
use Rattle.vs_notify.specs.declared.{Consumer.Consumer, Suppression.Suppression, TheConstants.VIRTQ_USED_F_NO_NOTIFY}
use Rattle.vs_notify.specs.{declared.Consumer.TheVariants.{Working, Asked, Resting}, declared.Suppression.TheVariants.{Flags, EventIndex}}

-- The standard's formula: (new - event - 1) mod 2^16 < (new - old) mod 2^16.
abbrev pub vring_need_event : ℕ → ℕ → ℕ → Bool
vring_need_event event new old = nat_lt ((new + 2 ^ 16 - event - 1) % 2 ^ 16) ((new + 2 ^ 16 - old) % 2 ^ 16)

-- These flags of the consumer don't suppress notifications. The bit is the same in the flags of both ends.
abbrev pub flags_allow : ℕ → Bool
flags_allow flags = bit_and flags VIRTQ_USED_F_NO_NOTIFY == 0

-- Whether the publisher has to kick, by the consumer's word and the index now and at its last load of that word.
abbrev pub needs_kick : Suppression → ℕ → ℕ → ℕ → Bool
needs_kick EventIndex word new old = vring_need_event word new old
needs_kick Flags word new old = flags_allow word

-- What a consumer that has taken so many stores before it rests.
abbrev pub word_before_rest : Suppression → ℕ → ℕ
word_before_rest EventIndex taken = taken
word_before_rest Flags taken = 0

-- Whether a word asks to be told of the next entry after those taken.
abbrev pub asks_for_next : Suppression → ℕ → ℕ → Bool
asks_for_next EventIndex word taken = word == taken
asks_for_next Flags word taken = flags_allow word

-- Whether a consumer that has taken so many may rest, by the index that it loads.
abbrev pub may_rest : Consumer → ℕ → ℕ → Bool
may_rest Working index taken = false
may_rest Asked index taken = index == taken
may_rest Resting index taken = false
