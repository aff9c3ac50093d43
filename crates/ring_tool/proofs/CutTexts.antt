-- A text that was not wholly printed is missing in the output below a byte at least.
use Rattle.std.proofs.Common.{◌≡◌, ◌∙◌, ℕ, ◌<◌, List, ◌++◌, length, Bool, Option, None, Some, Result, Err, sym, ap, subst, append_assoc, arith, length-append}
use Rattle.std.specs.Io.KnownBytes.{append_known}
use Rattle.text_lines.specs.Writing.{Writes}
use Rattle.text_lines.specs.declared.write.WriteFault.{WriteFault}
use Rattle.tool_parts.specs.declared.faults.ToolError.TheVariants as tool
use Rattle.ring_tool.specs.Left.{IsCut, HasFront, HasLine, HasEndedAnswered}

-- the rest of what was printed, and then what was not
longer : (rest left : List ℕ) → 0 < length left → 0 < length (rest ++ left)
longer rest left some = omega (arith, length-append rest left, some)

-- a prefix of a text was printed, and a prefix of that has left
pub cut_after : (was printed out : Option (List ℕ)) (e : WriteFault) (text : List ℕ) → Writes was printed (Err e) text → HasFront printed out → IsCut (append_known was text) out
cut_after None printed out e text wrote front = (wrote.0, wrote.1, tt)
cut_after (Some xs) None out e text wrote front = absurd wrote.2.2
cut_after (Some xs) (Some ys) None e text wrote front = absurd front.1
cut_after (Some xs) (Some ys) (Some zs) e text wrote front =
    let left = wrote.0 in
    let begun = wrote.2.0 in
    let rest = front.0 in (
      rest ++ left,
      longer rest left wrote.1,
      sym (append_assoc zs rest left) ∙ ap (λ (u : List ℕ). u ++ left) (front.1 ∙ wrote.2.2) ∙ append_assoc xs begun left ∙ ap (λ (u : List ℕ). xs ++ u) (sym wrote.2.1),
    )

-- the end of a text that was not wholly printed
pub ended_cut : (status : ℕ) (told : Bool) (was printed out said err : Option (List ℕ)) (r : Result (Unit {0}) WriteFault) (e : WriteFault) (text : List ℕ) →
    status ≡ 1 → r ≡ Err e → Writes was printed r text → HasFront printed out → HasLine tool.Write told said err → HasEndedAnswered status told (append_known was text) out said err
ended_cut status told was printed out said err r e text one failed wrote front line = record {
  whole = λ zero. absurd (omega (arith, zero, one));
  cut = λ _. (cut_after was printed out e text (subst (λ (x : Result (Unit {0}) WriteFault). Writes was printed x text) failed wrote) front, line);
}
