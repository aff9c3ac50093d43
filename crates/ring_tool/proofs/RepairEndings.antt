-- From the answer of `repairs`, and whether its output left, to how it ends.
use Rattle.std.proofs.Common.{◌≡◌, ◌∙◌, ◌≤◌, ◌⊎◌, ℕ, List, Bool, true, false, cond, Option, None, inl, inr, refl, ap, subst, arith}
use Rattle.std.proofs.lemmas.Bool.{false≢true}
use Rattle.disks.specs.Held.{Held}
use Rattle.repair_commands.specs.Repaired.{IsRepairsAnswer, IsRepairsRefusal}
use Rattle.repair_requests.specs.Refusals.{is_bad_list, status_of, line_of}
use Rattle.repair_requests.specs.declared.refusals.Refusal.{Refusal}
use Rattle.repair_requests.specs.declared.refusals.Refusal.TheVariants as refusal
use Rattle.repair_requests.specs.declared.words.RepairsWords.{RepairsWords}
use Rattle.tool_parts.specs.Worlds.{World, world}
use Rattle.tool_parts.specs.declared.faults.ToolError.{ToolError}
use Rattle.tool_parts.specs.declared.faults.ToolError.TheVariants as tool
use Rattle.ring_tool.specs.Left.{HasFront, SaysLine, HasEndedAnswered}
use Rattle.ring_tool.specs.Repaired.{HasRepaired}
use Rattle.ring_tool.proofs.Endings.{bad_list}

-- it reads no list
none_of : {A B C D : Type 0} → (A → ⊥) → (B → ⊥) → (C → ⊥) → (D → ⊥) → A ⊎ B ⊎ C ⊎ D → ⊥
none_of f g h k (inl a) = f a
none_of f g h k (inr (inl b)) = g b
none_of f g h k (inr (inr (inl c))) = h c
none_of f g h k (inr (inr (inr d))) = k d

neither : {A B : Type 0} → (⊥ × A) ⊎ (⊥ × B) → ⊥
neither (inl a) = a.0
neither (inr b) = b.0

no_list : (words : RepairsWords) (was is : World) → IsRepairsRefusal words was is (refusal.Tool tool.BadList) → ⊥
no_list words was is refused = none_of (λ unasked. unasked.0.5) (λ unthreaded. unthreaded.1) (λ printing. printing.0) (λ unsaved. neither unsaved.2) refused

not_read : (words : RepairsWords) (was is : World) (e : Refusal) → is_bad_list e ≡ true → IsRepairsRefusal words was is e → ⊥
not_read words was is (refusal.Tool t) h refused = no_list words was is (subst (λ (x : ToolError). IsRepairsRefusal words was is (refusal.Tool x)) (bad_list t h) refused)
not_read words was is refusal.NoTrials h refused = absurd (false≢true h)
not_read words was is refusal.ManyTrials h refused = absurd (false≢true h)
not_read words was is (refusal.ManyFaults p) h refused = absurd (false≢true h)
not_read words was is (refusal.ManyStates p) h refused = absurd (false≢true h)
not_read words was is refusal.OneTrial h refused = absurd (false≢true h)
not_read words was is refusal.NoThreads h refused = absurd (false≢true h)
not_read words was is refusal.ManyThreads h refused = absurd (false≢true h)

one_unless : (b : Bool) → (b ≡ true → ⊥) → cond {A = ℕ} b 2 1 ≡ 1
one_unless true other = absurd (other refl)
one_unless false other = refl

-- the end of repairs that were counted
pub ended_repaired : (words : RepairsWords) (status : ℕ) (told : Bool) (old_files files : Option Held) (old printed out said err : Option (List ℕ)) →
    IsRepairsAnswer words (world old_files None old None) (world files None printed None) → status ≤ 1 → HasEndedAnswered status told printed out said err →
    HasRepaired words status told (world old_files None old said) (world files None out err)
ended_repaired words status told old_files files old printed out said err answered bound ends = record {
  most = bound;
  done = λ s. (printed, answered, (ends.whole s).0, (ends.whole s).1);
  failed = λ s. inl (printed, answered, (ends.cut s).0, (ends.cut s).1);
}

-- the end of repairs that were refused
pub ended_unrepaired : (words : RepairsWords) (e : Refusal) (status : ℕ) (told : Bool) (old_files files : Option Held) (old printed out said err : Option (List ℕ)) →
    status ≡ status_of e → IsRepairsRefusal words (world old_files None old None) (world files None printed None) e → HasFront printed out → SaysLine (line_of e) told said err →
    HasRepaired words status told (world old_files None old said) (world files None out err)
ended_unrepaired words e status told old_files files old printed out said err same refused front line =
    let one : status ≡ 1 = same ∙ one_unless (is_bad_list e) (λ h. not_read words (world old_files None old None) (world files None printed None) e h refused) in
    record {
      most = omega (arith, one);
      done = λ s. absurd (omega (arith, s, one));
      failed = λ _. inr (e, (printed, refused, front, line));
    }
