-- The privileged machines as bits.
use Rattle.std.specs.Prelude.{◌≡◌, ◌<◌, ◌/◌, ◌%◌, ◌&&◌, if◌then◌else◌, nat_lt, ℕ, List, length, slice_index}
use Rattle.std.specs.Int.{bit_at}
use Rattle.ring_model.specs.Ring.{is_privileged}

-- how many machines the 4 words of a mask have bits for, and how many the 16 words of a wide one
abbrev pub mask_limit : ℕ
mask_limit = 256

abbrev pub wide_mask_limit : ℕ
wide_mask_limit = 1024

-- of n bits, bit i % 64 of word i / 64 is set exactly where machine i is privileged, and
-- every bit past the last machine is clear
abbrev pub IsMaskOf : ℕ → List ℕ → List ℕ → Type 0
IsMaskOf bits s words =
    (i : ℕ) → i < bits
    → bit_at (slice_index words (i / 64)) (i % 64)
    ≡ (if nat_lt i (length s) && is_privileged s i then 1 else 0)
