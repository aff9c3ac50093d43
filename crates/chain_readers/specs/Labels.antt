-- How many holds each label has (this project's own).
use Rattle.std.specs.Prelude.{◌≡◌, ℕ, ◌+◌, ◌<◌, ◌==◌, ◌&&◌, not, cond, Bool, true, false, List, [], ◌∷◌, ◌++◌, Option, Some, None, codes, decimal}
use Rattle.std.specs.List.{flat_map, count_by}
use Rattle.std.specs.Option.{unwrap_or}
use Rattle.std.specs.Ordering.{nat_cmp}
use Rattle.std.specs.BTreeMap.{BTreeMap, get}
use Rattle.segment_files.specs.Sums.{capped}
use Rattle.chain_readers.specs.declared.holds.Grant.{Grant}
use Rattle.chain_readers.specs.declared.holds.End.{End}
use Rattle.chain_readers.specs.declared.holds.Hold.{Hold}
use Rattle.chain_readers.specs.declared.labels.LabelCounts.{LabelCounts}
use Rattle.chain_readers.specs.declared.hold_lines.Choice.{Choice}
use Rattle.chain_readers.specs.HoldLines.{is_chosen}

-- ---- the holds that are wanted, lock by lock

abbrev pub chosen_one : Choice → ℕ → Hold → List Hold
chosen_one c lock h = cond (is_chosen c lock h) (h ∷ []) []

abbrev pub chosen_of : Choice → ℕ → List Hold → List Hold
chosen_of c lock holds = flat_map (chosen_one c lock) holds

abbrev pub all_chosen : Choice → ℕ → List (List Hold) → List Hold
all_chosen c lock [] = []
all_chosen c lock (holds ∷ more) = chosen_of c lock holds ++ all_chosen c (lock + 1) more

-- ---- counts

-- the hold has this label; a grant that is not known has none
abbrev pub is_labelled : ℕ → Option Grant → Bool
is_labelled label None = false
is_labelled label (Some g) = label == g.label

-- it was released, its client left, or it is open
abbrev pub is_released : Option End → Bool
is_released None = false
is_released (Some e) = not e.left

abbrev pub is_left : Option End → Bool
is_left None = false
is_left (Some e) = e.left

abbrev pub is_open : Option End → Bool
is_open None = true
is_open (Some e) = false

-- how many holds have this label, and how they ended; each count stops at the greatest number of 64
-- bits
abbrev pub count_of : ℕ → (Option End → Bool) → List Hold → ℕ
count_of label test hs =
    capped (count_by (λ (h : Hold). is_labelled label h.grant && test h.end) hs)

abbrev pub any_end : Option End → Bool
any_end e = true

abbrev pub counts_of : ℕ → List Hold → LabelCounts
counts_of label hs = record {
  holds = count_of label any_end hs;
  released = count_of label is_released hs;
  left = count_of label is_left hs;
  unended = count_of label is_open hs;
}

abbrev pub no_counts : LabelCounts
no_counts = record { holds = 0; released = 0; left = 0; unended = 0 }

-- each label has its counts in the map, and none is there without a hold
pub record AreCounted (m : BTreeMap ℕ LabelCounts) (hs : List Hold) : Type 0 where
  pub counts : (label : ℕ) → unwrap_or (get nat_cmp m label) no_counts ≡ counts_of label hs
  pub some : (label : ℕ) (c : LabelCounts) → get nat_cmp m label ≡ Some c → 0 < c.holds

-- ---- one hold more

abbrev pub one_more : ℕ → Bool → ℕ
one_more n test = capped (n + cond test 1 0)

abbrev pub with_end : LabelCounts → Option End → LabelCounts
with_end c e = record {
  holds = one_more c.holds true;
  released = one_more c.released (is_released e);
  left = one_more c.left (is_left e);
  unended = one_more c.unended (is_open e);
}

-- ---- the lines

abbrev pub counts_text : LabelCounts → List ℕ
counts_text c =
    codes " holds " ++ (decimal c.holds ++ (codes " released " ++ (decimal c.released
    ++ (codes " left " ++ (decimal c.left ++ (codes " open " ++ (decimal c.unended ++ codes "\n")))))))

abbrev pub label_line : ℕ × LabelCounts → List ℕ
label_line e = codes "label " ++ (decimal e.0 ++ counts_text e.1)
