-- What a writer holds whose bytes are hashed (this project's own).
use Rattle.std.specs.Prelude.{ℕ, ◌*◌, ◌/◌, ◌%◌, ◌^◌, ◌==◌, ◌&&◌, Bool, List, length, take, drop, if◌then◌else◌, Option, None, Some}
use Rattle.std.specs.Str.{bytes_eq}
use Rattle.sha2.specs.Sha256.{initial_hash_256, hash_after}
use Rattle.sha2.specs.declared.Sha256.{Sha256}

-- whether a hasher of SHA-256 has taken in just these bytes: `Holds256`, as a test
unfoldable pub has_hashed : Sha256 → List ℕ → Bool
has_hashed s m =
    (s.core.total == length m % 2 ^ 64)
    && (bytes_eq s.core.h (hash_after initial_hash_256 m (length m / 64))
    && bytes_eq (take (length m % 64) s.core.buffer) (drop (length m / 64 * 64) m))

-- what the writer holds, if that is known and the hasher has taken in just these bytes
abbrev pub hashed : Option (List ℕ) → Sha256 → Option (List ℕ)
hashed None s = None
hashed (Some m) s = if has_hashed s m then Some m else None
