-- The text of a file's head, line by line (this project's own format), and the heads that have
-- one.
use Rattle.std.specs.Prelude.{◌≡◌, ℕ, ◌<◌, ◌^◌, nat_le, ◌&&◌, ◌||◌, Bool, IsTrue, List, [], ◌∷◌, ◌++◌, length, replicate, codes}
use Rattle.std.specs.List.{flat_map, AllByRecursion}
use Rattle.text_lines.specs.Spelling.{spaced, ended}
use Rattle.hex.specs.Hex.{encode_lower}
use Rattle.sha2.specs.Sha256.{sha256}
use Rattle.ring_model.specs.declared.bases.Base.{Base}
use Rattle.segment_files.specs.declared.heads.SegmentHead.{SegmentHead}

-- the number of a file, the digest of the file before it, and for each ring what came before the file
pub record Head : Type 0 where
  pub number : ℕ
  pub behind : List ℕ
  pub bases : List Base

-- the content of the program's own type
abbrev pub head_of : SegmentHead → Head
head_of h = record { number = h.number; behind = h.behind; bases = h.bases.items }

-- ---- digests

-- how many digits a digest has
abbrev pub digest_digits : ℕ
digest_digits = 64

-- the digest of some bytes: the digits of their SHA-256
abbrev pub digest_of : List ℕ → List ℕ
digest_of bytes = encode_lower (sha256 bytes)

-- the digits in the head of the first file, which has none before it: 64 times 0
abbrev pub no_digest : List ℕ
no_digest = replicate digest_digits 48

-- one of 0 to 9 and a to f
abbrev pub is_digit : ℕ → Bool
is_digit b = (nat_le 48 b && nat_le b 57) || (nat_le 97 b && nat_le b 102)

-- ---- the lines

-- the first line: the number, and how many rings there are
abbrev pub number_line : ℕ → ℕ → List ℕ
number_line number rings = codes "ringsegment 1 " ++ (spaced number ++ ended rings)

-- the digest of the whole file before
abbrev pub behind_line : List ℕ → List ℕ
behind_line digits = codes "behind " ++ (digits ++ 10 ∷ [])

-- what came before, of one ring
abbrev pub base_line : Base → List ℕ
base_line b =
    codes "base " ++ (spaced b.events ++ (spaced b.grants ++ (spaced b.amount ++ ended b.calm)))

-- The text: these two lines, and a line for each ring.
abbrev pub head_text : Head → List ℕ
head_text h =
    number_line h.number (length h.bases) ++ (behind_line h.behind ++ flat_map base_line h.bases)

-- ---- the heads that have a text: a number from 1 on, the digits of a digest, a ring at least, and
-- each number within its range

pub record BaseFits (b : Base) : Type 0 where
  pub events : b.events < 2 ^ 64
  pub grants : b.grants < 2 ^ 64
  pub amount : b.amount < 2 ^ 64
  pub calm : b.calm < 2 ^ 64

-- the digits of a digest
pub record DigestFits (digest : List ℕ) : Type 0 where
  pub long : length digest ≡ digest_digits
  pub digits : AllByRecursion (λ d. IsTrue (is_digit d)) digest

pub record HeadFits (h : Head) : Type 0 where
  pub first : 0 < h.number
  pub number : h.number < 2 ^ 64
  pub behind : DigestFits h.behind
  pub some : 0 < length h.bases
  pub rings : length h.bases < 2 ^ 32
  pub bases : AllByRecursion BaseFits h.bases
