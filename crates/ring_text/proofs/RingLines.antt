-- The lines of rings, one ring after the other.
use Rattle.std.proofs.Common.{◌≡◌, ◌+◌, ◌<◌, ◌≤◌, ◌++◌, ◌∙◌, ℕ, List, length, drop, get_or, ap, append_assoc}
use Rattle.std.proofs.lemmas.List.{drop_more, drop_all}
use Rattle.ring_logs.specs.declared.outcomes.RingOutcome.{RingOutcome}
use Rattle.ring_text.specs.Report.{ring_lines, rings_from}

module _ (rings : List RingOutcome) (i : ℕ) (behind : List ℕ) where
  -- the rest is the next ring's lines, and the rest of that
  pub rings_next : (d : RingOutcome) → i < length rings →
      rings_from i (drop i rings) ++ behind ≡ ring_lines i (get_or rings i d) ++ (rings_from (i + 1) (drop (i + 1) rings) ++ behind)
  rings_next d lt =
      ap (λ (rs : List RingOutcome). rings_from i rs ++ behind) (drop_more rings i d lt)
      ∙ append_assoc (ring_lines i (get_or rings i d)) (rings_from (i + 1) (drop (i + 1) rings)) behind

  -- after the last ring there is nothing
  pub rings_end : length rings ≤ i → rings_from i (drop i rings) ++ behind ≡ behind
  rings_end le = ap (λ (rs : List RingOutcome). rings_from i rs ++ behind) (drop_all i rings le)
