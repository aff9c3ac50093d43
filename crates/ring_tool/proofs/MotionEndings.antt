-- From the answer of `picture --animate`, and whether its output left, to how it ends.
use Rattle.std.proofs.Common.{◌≡◌, ◌≤◌, ℕ, List, Bool, true, false, cond, Option, None, inl, inr, arith}
use Rattle.disks.specs.Held.{Held}
use Rattle.motion_commands.specs.Moved.{IsAnimateAnswer, IsAnimateRefusal}
use Rattle.motion_commands.specs.Refusals.{is_bad_list, status_of, line_of}
use Rattle.motion_commands.specs.declared.refusals.Refusal.{Refusal}
use Rattle.tool_parts.specs.Reading.{names_stream}
use Rattle.tool_parts.specs.Worlds.{World, world}
use Rattle.tool_parts.specs.declared.requests.PictureWords.{PictureWords}
use Rattle.ring_tool.specs.Left.{HasFront, SaysLine, HasEndedAnswered}
use Rattle.ring_tool.specs.Moved.{HasMoved}

one_or_two : (b : Bool) → (1 ≤ cond {A = ℕ} b 2 1) × (cond {A = ℕ} b 2 1 ≤ 2)
one_or_two true = (omega arith, omega arith)
one_or_two false = (omega arith, omega arith)

-- the end of a picture that was made
pub ended_moved : (words : PictureWords) (status : ℕ) (told : Bool) (old_files files : Option Held) (old_input input old printed out said err : Option (List ℕ)) →
    IsAnimateAnswer words (world old_files old_input old None) (world files input printed None) → (names_stream words.file.now ≡ false → input ≡ old_input) → status ≤ 1 → HasEndedAnswered status told printed out said err →
    HasMoved words status told (world old_files old_input old said) (world files input out err)
ended_moved words status told old_files files old_input input old printed out said err answered unread bound ends = record {
  most = omega (arith, bound);
  done = λ s. (printed, answered, (ends.whole s).0, (ends.whole s).1);
  failed = λ s.
      let one : status ≡ 1 = omega (arith, s, bound) in
      inl (one, (printed, answered, (ends.cut one).0, (ends.cut one).1));
  unread = unread;
}

-- the end of one that was refused
pub ended_unmoved : (words : PictureWords) (e : Refusal) (status : ℕ) (told : Bool) (old_files files : Option Held) (old_input input old printed out said err : Option (List ℕ)) →
    status ≡ status_of e → IsAnimateRefusal words (world old_files old_input old None) (world files input printed None) e → (names_stream words.file.now ≡ false → input ≡ old_input) → HasFront printed out → SaysLine (line_of e) told said err →
    HasMoved words status told (world old_files old_input old said) (world files input out err)
ended_unmoved words e status told old_files files old_input input old printed out said err same refused unread front line =
    let range = one_or_two (is_bad_list e) in
    record {
      most = omega (arith, same, range.1);
      done = λ s. absurd (omega (arith, s, same, range.0));
      failed = λ s. inr (e, same, (printed, refused, front, line));
      unread = unread;
    }
