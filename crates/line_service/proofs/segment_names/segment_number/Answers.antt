use Rattle.std.proofs.Common.{◌≡◌, ◌-◌, ◌<◌, ◌^◌, ℕ, List, length, drop, take, Ok, Err, Some, None, Result, sym, ap, subst, ◌∙◌, codes, Bool, true, false, refl}
use Rattle.std.specs.Str.{bytes_eq}
use Rattle.std.proofs.lemmas.Bool.{false≢true}
use Rattle.std.proofs.lemmas.List.{take_rest}
use Rattle.std.proofs.lemmas.Slice.Eq.{bytes_eq-Decides}
use Rattle.text_lines.specs.declared.fault.Fault.{Fault}
use Rattle.text_lines.specs.Reading.{number_at}
use Rattle.line_service.specs.SegmentNames.{IsSegmentName}
use Rattle.text_lines.proofs.Basics.{ok_is}
use Rattle.line_service.proofs.Naming.{named, spelled_read}
use Rattle.line_service.proofs.segment_names.segment_number.Goals as goal

abbrev Read : Type 0
Read = Result (ℕ × List ℕ) Fault

rest_of : (r : Read) (n m : ℕ) (x y : List ℕ) → r ≡ Ok (n, x) → r ≡ Ok (m, y) → x ≡ y
rest_of r n m x y d e = ap (λ (p : ℕ × List ℕ). p.1) (ok_is (n, x) (m, y) (sym d ∙ e))

no_ok : (r : Read) (f : Fault) (x : ℕ × List ℕ) → r ≡ Err f → r ≡ Ok x → ⊥
no_ok r f x d e = cc

with_rest : (r : Read) (n : ℕ) (x y : List ℕ) → r ≡ Ok (n, x) → x ≡ y → r ≡ Ok (n, y)
with_rest r n x y d e = cc

pub returns-in-Ok : goal.returns-in-Ok
returns-in-Ok c =
    let z = c.count_zeros-zeros.result in
    let name = c.args.name.now in
    let h = c.count_zeros-zeros.ensures in
    let ring : c.in-Ok.after.now ≡ codes "ring" = (bytes_eq-Decides _ _).0 (sym c.if-eq.ensures) ∙ c.as_slice.ensures in
    let read = with_rest _ c.in-Ok.number c.in-Ok.after.now (codes "ring") (ap (λ (x : List ℕ). number_at (2 ^ 64) 46 x) (sym (take_rest name z)) ∙ c.in-Ok.ensures) ring in
    named name z c.in-Ok.number h.within h.zeros h.next read (c.if-is_padded.ensures.0 refl)

pub returns-in-Ok-2 : goal.returns-in-Ok-2
returns-in-Ok-2 c n is =
    let h = c.count_zeros-zeros.ensures in
    false≢true (c.if-is_padded.ensures.1 (spelled_read c.args.name.now c.count_zeros-zeros.result n h.zeros h.next is).1)

pub returns-in-Ok-2-2 : goal.returns-in-Ok-2-2
returns-in-Ok-2-2 c n is =
    let z = c.count_zeros-zeros.result in
    let name = c.args.name.now in
    let h = c.count_zeros-zeros.ensures in
    let read = ap (λ (x : List ℕ). number_at (2 ^ 64) 46 x) (sym (take_rest name z)) ∙ c.in-Ok.ensures in
    let ring : c.in-Ok.after.now ≡ codes "ring" = sym (rest_of _ n c.in-Ok.number (codes "ring") c.in-Ok.after.now (spelled_read name z n h.zeros h.next is).0 read) in
    false≢true (c.if-eq.ensures ∙ (bytes_eq-Decides _ _).1 (ring ∙ sym c.as_slice.ensures))

pub returns-in-Err-Fault : goal.returns-in-Err-Fault
returns-in-Err-Fault c n is =
    let z = c.count_zeros-zeros.result in
    let name = c.args.name.now in
    let h = c.count_zeros-zeros.ensures in
    let given = rw c.in-Err-Fault.field-0-is at c.in-Err-Fault.ensures-1 in
    let read = ap (λ (x : List ℕ). number_at (2 ^ 64) 46 x) (sym (take_rest name z)) ∙ given in
    no_ok _ _ (n, codes "ring") read (spelled_read name z n h.zeros h.next is).0
