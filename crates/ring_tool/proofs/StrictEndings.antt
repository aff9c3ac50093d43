-- How strict settings end.
use Rattle.std.proofs.Common.{◌≡◌, ℕ, List, Bool, false, Option, Some, inl, inr, sym, subst}
use Rattle.command_line.specs.declared.words.StrictWords.{StrictWords}
use Rattle.strict_settings.specs.Refusals.{status_of, line_of}
use Rattle.strict_settings.specs.Strict.{IsStrictly, IsStrictRefusal}
use Rattle.strict_settings.specs.declared.refusals.StrictRefusal.{StrictRefusal}
use Rattle.tool_parts.specs.Reading.{names_stream}
use Rattle.tool_parts.specs.Worlds.{World, world}
use Rattle.tool_requests.specs.declared.wanted.Wanted.{Wanted}
use Rattle.ring_tool.specs.Ended.{HasEnded}
use Rattle.ring_tool.specs.Left.{HasFront, SaysLine}
use Rattle.ring_tool.specs.Strictly.{IsWantedOver, HasEndedOver, HasRunStrictly}

pub ended_over : (words : StrictWords) (bytes : List ℕ) (over : Wanted) (status : ℕ) (told : Bool) (rest : Option (List ℕ)) (was is : World) → IsWantedOver words over →
    HasEnded over status told (world was.files (Some bytes) was.out was.err) (world is.files rest is.out is.err) → HasEndedOver words bytes status told was is
ended_over words bytes over status told rest was is wants ended = (over, rest, wants, ended)

pub strict_ran : (words : StrictWords) (status : ℕ) (told : Bool) (was is : World) (bytes slice : List ℕ) → slice ≡ bytes → IsStrictly words.run was.files was.input is.input bytes →
    HasEndedOver words slice status told was is → (names_stream words.run.settings.now ≡ false → is.input ≡ was.input) → HasRunStrictly words status told was is
strict_ran words status told was is bytes slice same read over kept = record {
  ended = inl (slice, subst (λ (b : List ℕ). IsStrictly words.run was.files was.input is.input b) (sym same) read, over);
  kept = kept;
}

pub strict_refused : (words : StrictWords) (status : ℕ) (told : Bool) (was is : World) (e : StrictRefusal) → IsStrictRefusal words.run was.files was.input is.input e →
    status ≡ status_of e → SaysLine (line_of e) told was.err is.err → HasFront was.out is.out → is.files ≡ was.files → (names_stream words.run.settings.now ≡ false → is.input ≡ was.input) →
    HasRunStrictly words status told was is
strict_refused words status told was is e why same line front files kept = record {
  ended = inr (e, why, same, line, front, files);
  kept = kept;
}
