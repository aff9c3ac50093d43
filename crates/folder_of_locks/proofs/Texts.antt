-- The lines of locks, one after the other.
use Rattle.std.proofs.Common.{◌≡◌, ◌<◌, ℕ, List, [], ◌∷◌, ◌++◌, length, take, map, get_or, Option, Err, sym, ap, subst, refl}
use Rattle.std.specs.List.{flat_map}
use Rattle.std.specs.Io.KnownBytes.{Appends}
use Rattle.text_lines.specs.Writing.{Writes}
use Rattle.text_lines.specs.declared.write.WriteFault.{WriteFault}
use Rattle.text_lines.proofs.Writing.{pieces_fault}
use Rattle.folder_of_locks.specs.declared.locks.ListedLock.{ListedLock}
use Rattle.folder_of_locks.specs.Lists.{listed, lock_line, file_text}

by_lines : (xs : List ListedLock) → file_text (map listed xs) ≡ flat_map (λ x. lock_line (listed x)) xs
by_lines [] = refl
by_lines (x ∷ xs) = ap (λ (t : List ℕ). lock_line (listed x) ++ t) (by_lines xs)

-- a fault in the next line
pub line_fault : (a b c : Option (List ℕ)) (locks : List ListedLock) (i : ℕ) (d : ListedLock) → i < length locks → Appends a b (file_text (map listed (take i locks))) → (e : WriteFault) →
    Writes b c (Err e) (lock_line (listed (get_or locks i d))) → Writes a c (Err e) (file_text (map listed locks))
line_fault a b c locks i d lt so_far e h =
    subst (Writes a c (Err e))
    (sym (by_lines locks))
    (pieces_fault ListedLock (λ x. lock_line (listed x)) locks i d lt a b c (subst (Appends a b) (by_lines (take i locks)) so_far) e h)
