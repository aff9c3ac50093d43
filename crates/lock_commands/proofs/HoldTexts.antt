-- The text that the words of `holds` ask for.
use Rattle.std.proofs.Common.{◌≡◌, ℕ, Bool, true, false, List, refl, sym, subst}
use Rattle.std.specs.List.{flat_map}
use Rattle.std.specs.Ordering.{nat_cmp}
use Rattle.std.specs.BTreeMap.{BTreeMap, IsOrdered}
use Rattle.chain_readers.specs.declared.holds.Hold.{Hold}
use Rattle.chain_readers.specs.declared.labels.LabelCounts.{LabelCounts}
use Rattle.chain_readers.specs.declared.hold_lines.Choice.{Choice}
use Rattle.chain_readers.specs.Labels.{all_chosen, AreCounted, label_line}
use Rattle.tool_parts.specs.declared.requests.HoldsWords.{HoldsWords}
use Rattle.lock_commands.specs.HoldsAnswer.{choice_of, IsTextBy, IsHoldsText}
use Rattle.lock_commands.specs.ToldHolds.{Called, all_lines}

pub by_label : (words : HoldsWords) (choice : Choice) (names : Called) (holds : List (List Hold)) (counts : BTreeMap ℕ LabelCounts) → words.by_label ≡ true → choice ≡ choice_of words
    → AreCounted counts (all_chosen choice 0 holds) → IsOrdered nat_cmp counts → IsHoldsText words names holds (flat_map label_line counts.entries)
by_label words choice names holds counts is same counted rising =
    subst (λ (b : Bool). IsTextBy b (choice_of words) names holds (flat_map label_line counts.entries)) (sym is)
    (record { counts = counts; counted = subst (λ (c : Choice). AreCounted counts (all_chosen c 0 holds)) same counted; rising = rising; lines = refl })

pub by_hold : (words : HoldsWords) (choice : Choice) (names : Called) (holds : List (List Hold)) → words.by_label ≡ false → choice ≡ choice_of words → IsHoldsText words names holds (all_lines choice names 0 holds)
by_hold words choice names holds is same =
    subst (λ (b : Bool). IsTextBy b (choice_of words) names holds (all_lines choice names 0 holds)) (sym is)
    (subst (λ (c : Choice). all_lines choice names 0 holds ≡ all_lines c names 0 holds) same refl)
