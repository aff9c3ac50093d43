-- What is read of a line, wherever the bytes of its names are (this project's own).
use Rattle.std.specs.Prelude.{◌≡◌, List, ℕ, Option, None, Some, Result, Ok, Err}
use Rattle.name_remarks.specs.declared.remarks.NameRemark.{NameRemark as Read}
use Rattle.name_remarks.specs.declared.remarks.NameRemark.TheVariants as reads
use Rattle.name_remarks.specs.declared.remarks.Misspelled.{Misspelled}
use Rattle.name_remarks.specs.Remarks.{Remark, bind, free, top, remark_text, Fits, IsRemark, BeginsAsOne}

-- a remark that was read
abbrev pub seen : Read → Remark
seen (reads.Bind ring before floor name) =
    bind ring (record { before = before; floor = floor; name = name.now })
seen (reads.Free ring) = free ring
seen (reads.Top grants) = top grants

-- the line is this remark's; or does not begin as one about names; or begins so, and is not one
pub data Heard : Type 0 where
  Says : Remark → Heard
  Other : Heard
  Wrong : Heard

abbrev pub heard : Result (Option Read) Misspelled → Heard
heard (Ok (Some r)) = Says (seen r)
heard (Ok None) = Other
heard (Err e) = Wrong

-- what is read of a line
abbrev pub IsHeardAs : List ℕ → Heard → Type 0
IsHeardAs line (Says r) = IsRemark r line
IsHeardAs line Other = ¬ BeginsAsOne line
IsHeardAs line Wrong = BeginsAsOne line × ((r : Remark) → ¬ IsRemark r line)

-- a law: a line is read in one way
abbrev pub OneReading : Type 0
OneReading = (line : List ℕ) (a b : Heard) → IsHeardAs line a → IsHeardAs line b → a ≡ b

-- a law: what was written is read back
abbrev pub ReadBack : Type 0
ReadBack = (r : Remark) (a : Heard) → Fits r → IsHeardAs (remark_text r) a → a ≡ Says r

-- a law: no two remarks have one text
abbrev pub OneTextEach : Type 0
OneTextEach = (a b : Remark) → Fits a → Fits b → remark_text a ≡ remark_text b → a ≡ b
