-- Lines that bind no ring that is free.
use Rattle.std.proofs.Common.{◌≡◌, ◌∙◌, ℕ, Bool, true, false, List, Option, Some, Ok, Err, Bor, sym, ap, subst}
use Rattle.std.proofs.lemmas.Bool.{false≢true}
use Rattle.held_locks.specs.Kept.{LockView}
use Rattle.name_remarks.specs.Remarks.{Remark, bind, free, top, IsRemark}
use Rattle.name_remarks.specs.declared.remarks.NameRemark.{NameRemark as Read}
use Rattle.name_remarks.specs.declared.remarks.NameRemark.TheVariants as reads
use Rattle.name_remarks.specs.declared.remarks.Misspelled.{Misspelled}
use Rattle.name_remarks.specs.Views.{seen, heard, IsHeardAs}
use Rattle.name_remarks.proofs.Spelled.{same_remark}
use Rattle.folder_of_locks.specs.Fronts.{IsUnheld, IsTornBinding}

abbrev ring_in : Remark → ℕ
ring_in (bind i b) = i
ring_in (free i) = i
ring_in (top n) = n

abbrev pub binds : Remark → Bool
binds (bind i b) = true
binds (free i) = false
binds (top n) = false

-- it binds a ring that is held
pub held_said : (vs : List LockView) (line : List ℕ) (o : Option Read) (x : Read) (ring before floor : ℕ) (name : Bor (List ℕ)) → o ≡ Some x → x ≡ reads.Bind ring before floor name → IsHeardAs line (heard (Ok o)) → ¬ IsUnheld vs ring → ¬ IsTornBinding vs line
held_said vs line o x ring before floor name e f is held t =
    let said : IsRemark (seen (reads.Bind ring before floor name)) line = subst (λ (z : Read). IsRemark (seen z) line) f (subst (λ (z : Option Read). IsHeardAs line (heard (Ok z))) e is) in
    let same : t.0 ≡ ring = ap ring_in (same_remark line (bind t.0 t.1) (seen (reads.Bind ring before floor name)) t.2 said) in
    held (subst (IsUnheld vs) same t.3)

-- it says something else
pub other_said : (vs : List LockView) (line : List ℕ) (o : Option Read) (x : Read) → o ≡ Some x → binds (seen x) ≡ false → IsHeardAs line (heard (Ok o)) → ¬ IsTornBinding vs line
other_said vs line o x e other is t =
    let said : IsRemark (seen x) line = subst (λ (z : Option Read). IsHeardAs line (heard (Ok z))) e is in
    false≢true (sym other ∙ ap binds (same_remark line (seen x) (bind t.0 t.1) said t.2))

-- it cannot be read
pub unread : (vs : List LockView) (line : List ℕ) (e : Misspelled) → IsHeardAs line (heard (Err e)) → ¬ IsTornBinding vs line
unread vs line e is t = is.1 (bind t.0 t.1) t.2
