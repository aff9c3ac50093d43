-- The bases of a head, line by line.
use Rattle.std.proofs.Common.{ℕ, List, refl}
use Rattle.std.specs.List.{flat_map, AllByRecursion}
use Rattle.saved_history.proofs.Passing.{Spelled}
use Rattle.ring_model.specs.declared.bases.Base.{Base}
use Rattle.segment_files.specs.Spelling.{base_line, BaseFits}

abbrev pub bases_text : ℕ → List Base → List ℕ
bases_text i bs = flat_map base_line bs

abbrev pub BasesFit : ℕ → List Base → Type 0
BasesFit i bs = AllByRecursion BaseFits bs

pub bases_spelled : Spelled (λ i b. base_line b) bases_text (λ i b. BaseFits b) BasesFit
bases_spelled = record { none = λ i. refl; next = λ i x xs. refl; fits_none = λ i. tt; fits_next = λ i x xs f h. (f, h) }
