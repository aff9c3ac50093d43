-- The steps of a salvage.
use Rattle.std.proofs.Common.{◌≡◌, ℕ, ◌<◌, ◌≤◌, List, length, take, Option, None, Some, Err, subst, arith}
use Rattle.std.proofs.lemmas.List.{take_all}
use Rattle.text_lines.specs.Texts.{line_of}
use Rattle.journal.specs.declared.errors.RecoverError.{RecoverError}
use Rattle.journal.specs.declared.errors.RecoverError.TheVariants.{Truncated, Syntax, Bad, OutOfMemory}
use Rattle.journal.specs.Recovery.{IsRightRecovery}
use Rattle.journal.specs.Salvaging.{named_line, IsLineStart, AreLeftOut, IsRightSalvage, IsFirstRefusal, first_as, lost_as}

pub kept_within : (bytes : List ℕ) (kept : ℕ) (bad : Option RecoverError) → AreLeftOut bytes kept bad → kept ≤ length bytes
kept_within bytes kept None e = omega (arith, e)
kept_within bytes kept (Some e) h = let longer = h.longer in let within = h.within in omega (arith, longer, within)

module _ (bytes : List ℕ) (kept : ℕ) (bad : Option RecoverError) (left : AreLeftOut bytes kept bad) where
  -- all bytes are refused so, if nothing was refused before
  all_refused : (first : Option RecoverError) (e : RecoverError) → IsFirstRefusal bytes kept first → IsRightRecovery (take kept bytes) (Err e) → IsRightRecovery bytes (Err (first_as first e))
  all_refused None e all h = subst (λ (x : List ℕ). IsRightRecovery x (Err e)) (take_all kept bytes (omega (arith, all))) h
  all_refused (Some f) e all h = all

  lost_first : (f : RecoverError) → IsRightRecovery bytes (Err f) → IsRightRecovery (take kept bytes) (Err Truncated) → IsRightSalvage bytes (Err f)
  lost_first Truncated r h = record { refused = r; kept = kept; bad = bad; left_out = left; short = h }
  lost_first (Syntax n) r h = record { refused = r; kept = kept; bad = bad; left_out = left; short = h }
  lost_first (Bad n kind) r h = record { refused = r; kept = kept; bad = bad; left_out = left; short = h }
  lost_first OutOfMemory r h = tt

  pub lost_answer : (first : Option RecoverError) (e : RecoverError) → IsFirstRefusal bytes kept first → IsRightRecovery (take kept bytes) (Err e) → named_line e ≡ None → IsRightSalvage bytes (Err (lost_as first e))
  lost_answer first Truncated all h none = lost_first (first_as first Truncated) (all_refused first Truncated all h) h
  lost_answer first (Syntax n) all h none = absurd cc
  lost_answer first (Bad n kind) all h none = absurd cc
  lost_answer first OutOfMemory all h none = tt

  -- one line more is left out
  pub left_more : (start line : ℕ) (e : RecoverError) → start < kept → IsLineStart bytes start → line_of bytes start ≡ line → IsRightRecovery (take kept bytes) (Err e) → named_line e ≡ Some line → AreLeftOut bytes start (Some e)
  left_more start line e before begins number refused named =
      record { line = line; begins = begins; number = number; named = named; most = kept; longer = before; within = kept_within bytes kept bad left; refused = refused }

  pub first_more : (first : Option RecoverError) (e : RecoverError) → IsFirstRefusal bytes kept first → IsRightRecovery (take kept bytes) (Err e) → IsRightRecovery bytes (Err (first_as first e))
  first_more first e all h = all_refused first e all h
