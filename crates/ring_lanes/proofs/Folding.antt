-- The fold by the greater lanes: its invariant over a list, two blocks at a time, and how it ends.
use Rattle.std.proofs.Common.{◌≡◌, ℕ, ◌+◌, ◌-◌, ◌≤◌, List, length, refl, sym, ◌∙◌, arith}
use Rattle.std.specs.Simd.Lanes.{chunk}
use Rattle.std.proofs.lemmas.Simd.{length-chunk}
use mir.Syntax.{Width}
use Rattle.ring_lanes.proofs.Greatest.{EachBelow, SomeBelow, greater_lanes, block_below, below_block, length-greater_lanes, greater_lanes_below, below_left, below_right, below_then, length-pair, pair_below, below_pair}

-- the lanes after the first i values and the last 32
abbrev pub Folded : List ℕ → ℕ → List ℕ → Type 0
Folded s i greatest = record {
  high : i ≤ length s;
  lanes : length greatest ≡ 32;
  seen : (limit : ℕ) → EachBelow limit greatest → SomeBelow limit s 0 i;
  last : (limit : ℕ) → EachBelow limit greatest → SomeBelow limit s (length s - 32) (length s);
  bounded : (limit : ℕ) → EachBelow limit s → EachBelow limit greatest;
}

-- the lanes after all values
abbrev pub FoldedAll : List ℕ → List ℕ → Type 0
FoldedAll s greatest = record {
  lanes : length greatest ≡ 32;
  limits : (limit : ℕ) → (EachBelow limit greatest → EachBelow limit s) × (EachBelow limit s → EachBelow limit greatest);
}

pub fold_begins : (s : List ℕ) → 32 ≤ length s → Folded s 0 (chunk (length s - 32) 32 s)
fold_begins s long = record {
  high = omega arith;
  lanes = length-chunk (length s - 32) 32 s (omega arith);
  seen = λ limit h k low high. absurd (omega arith);
  last = λ limit h. below_block limit s (length s - 32) 32 (length s) (omega arith) (omega arith) h;
  bounded = λ limit h. block_below limit s (length s - 32) 32 (omega arith) h;
}

pub fold_goes_on : (w : Width) (s : List ℕ) (i : ℕ) (before : List ℕ) → Folded s i before → i + 64 ≤ length s
    → Folded s (i + 64) (greater_lanes w before (greater_lanes w (chunk i 32 s) (chunk (i + 32) 32 s)))
fold_goes_on w s i before old room =
    let pair = greater_lanes w (chunk i 32 s) (chunk (i + 32) 32 s) in
    let same : length before ≡ length pair = old.lanes ∙ sym (length-pair w s i room) in
    record {
      high = room;
      lanes = length-greater_lanes w before pair same ∙ old.lanes;
      seen = λ limit h. below_then limit s 0 i (i + 64) (old.seen limit (below_left w limit before pair same h))
          (below_pair w limit s i room (below_right w limit before pair same h));
      last = λ limit h. old.last limit (below_left w limit before pair same h);
      bounded = λ limit h. greater_lanes_below w limit before pair same (old.bounded limit h) (pair_below w limit s i room h);
    }

pub fold_ends : (w : Width) (s : List ℕ) (i : ℕ) (before : List ℕ) → Folded s i before → i + 32 ≤ length s → length s ≤ i + 64
    → FoldedAll s (greater_lanes w before (chunk i 32 s))
fold_ends w s i before old room near =
    let block = chunk i 32 s in
    let same : length before ≡ length block = old.lanes ∙ sym (length-chunk i 32 s room) in
    record {
      lanes = length-greater_lanes w before block same ∙ old.lanes;
      limits = λ limit. (
        (λ h k lt. below_then limit s 0 i (length s) (old.seen limit (below_left w limit before block same h))
            (below_then limit s i (i + 32) (length s) (below_block limit s i 32 (i + 32) room refl (below_right w limit before block same h))
            (λ k low high. old.last limit (below_left w limit before block same h) k (omega arith) high))
            k (omega arith) lt),
        (λ h. greater_lanes_below w limit before block same (old.bounded limit h) (block_below limit s i 32 room h)),
      );
    }
