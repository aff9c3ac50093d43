-- Machines in blocks of 32, which have their bits in one word.
use Rattle.std.specs.Prelude.{ℕ, zero, suc, ◌+◌, ◌/◌, cond, List, [], ◌∷◌, ◌++◌}
use Rattle.machine_masks.specs.Members.{is_set}

-- how many blocks n machines have
abbrev pub blocks : ℕ → ℕ
blocks n = (n + 31) / 32

-- of the `many` machines from `first` on, those whose bit of a word is set, rising; the first has bit 0
unfoldable pub machines_of : ℕ → ℕ → ℕ → List ℕ
machines_of word first zero = []
machines_of word first (suc many) =
    cond (is_set word many) (machines_of word first many ++ (first + many) ∷ []) (machines_of word first many)
