-- The sums of a text.
use Rattle.std.proofs.Common.{◌≡◌, ℕ, ◌+◌, ◌<◌, ◌≤◌, List, [], ◌∷◌, length, take, get_or, map, Bool, cond, ◌∙◌, ap, subst, arith, length-append}
use Rattle.std.specs.List.{flat_map, sum_by, count_by}
use Rattle.std.proofs.lemmas.List.{length-map, take_all}
use Rattle.std.proofs.lemmas.List.Sums.{sum_by_more, sum_by-cons, sum_by_more_le, count_by-le-length}
use Rattle.ring_model.specs.declared.events.Event.{Event}
use Rattle.ring_model.specs.Surveys.{is_granted, is_corrupted, granted_count, corrupted_count}
use Rattle.saved_history.specs.declared.saved.SavedEvent.{SavedEvent}
use Rattle.saved_history.specs.declared.saved.SavedRing.{SavedRing}
use Rattle.saved_history.specs.Content.{Block, block_of}
use Rattle.ring_check.specs.Lines.{block_lines}
use Rattle.ring_check.specs.Table.{event_of}
use Rattle.ring_check.specs.Legal.{history}
use Rattle.ring_check.proofs.OpenRuns.{event_at}
use Rattle.ring_check.proofs.Blocks.{block_long}
use Rattle.ring_check.proofs.BlockLines.{ring_at}

-- one more event, counted where it passes
pub count_step : (p : Event → Bool) (es : List SavedEvent) (i : ℕ) (d e : SavedEvent) → i < length es → get_or es i d ≡ e →
    count_by p (take (i + 1) (map event_of es)) ≡ count_by p (take i (map event_of es)) + cond {A = ℕ} (p (event_of e)) 1 0
count_step p es i d e l is =
    let n : length (map event_of es) ≡ length es = length-map es event_of in
    sum_by_more (λ (e : Event). cond {A = ℕ} (p e) 1 0) (map event_of es) i (event_of d) (omega arith)
    ∙ ap (λ (e : Event). count_by p (take i (map event_of es)) + cond {A = ℕ} (p e) 1 0) (event_at es i d ∙ ap event_of is)

pub all_taken : (es : List SavedEvent) (i : ℕ) → length es ≤ i → take i (map event_of es) ≡ map event_of es
all_taken es i l = let n : length (map event_of es) ≡ length es = length-map es event_of in take_all i (map event_of es) (omega arith)

-- a sum of one more block
pub record SumStep (f : Block → ℕ) (rs : List SavedRing) (i : ℕ) (x : SavedRing) : Type 0 where
  pub more : sum_by f (take (i + 1) (map block_of rs)) ≡ sum_by f (take i (map block_of rs)) + f (block_of x)
  pub room : sum_by f (take i (map block_of rs)) + f (block_of x) ≤ sum_by f (map block_of rs)

pub sum_step : (f : Block → ℕ) (rs : List SavedRing) (i : ℕ) (x : SavedRing) → i < length rs → x ≡ get_or rs i x → SumStep f rs i x
sum_step f rs i x l e =
    let n : length (map block_of rs) ≡ length rs = length-map rs block_of in
    let lt : i < length (map block_of rs) = omega arith in
    let at = ring_at rs i x e in
    record {
      more = sum_by_more f (map block_of rs) i (block_of x) lt ∙ ap (λ (y : Block). sum_by f (take i (map block_of rs)) + f y) at;
      room = subst (λ (y : Block). sum_by f (take i (map block_of rs)) + f y ≤ sum_by f (map block_of rs)) at (sum_by_more_le f (map block_of rs) i (block_of x) lt);
    }

-- each sum is at most the number of lines
sum_le : (f : Block → ℕ) → ((r : Block) → f r ≤ length (block_lines r)) → (bs : List Block) → sum_by f bs ≤ length (flat_map block_lines bs)
sum_le f le [] = omega arith
sum_le f le (r ∷ bs) =
    let h = sum_le f le bs in
    let one = le r in
    let c = sum_by-cons f r bs in
    let a = length-append (block_lines r) (flat_map block_lines bs) in
    omega arith

count_le : (p : Event → Bool) (r : Block) → count_by p (history r) ≤ length (block_lines r)
count_le p r =
    let h = block_long r in
    let n = length-map r.events event_of in
    let c = count_by-le-length p (history r) in
    omega arith

pub events_le : (bs : List Block) → sum_by (λ b. length b.events) bs ≤ length (flat_map block_lines bs)
events_le bs = sum_le (λ b. length b.events) (λ r. let h = block_long r in omega arith) bs

pub surveys_le : (bs : List Block) → sum_by (λ b. length b.surveys) bs ≤ length (flat_map block_lines bs)
surveys_le bs = sum_le (λ b. length b.surveys) (λ r. let h = block_long r in omega arith) bs

pub granted_le : (bs : List Block) → sum_by (λ b. granted_count (history b)) bs ≤ length (flat_map block_lines bs)
granted_le bs = sum_le (λ b. granted_count (history b)) (λ r. count_le (λ (e : Event). is_granted e.reply) r) bs

pub corrupted_le : (bs : List Block) → sum_by (λ b. corrupted_count (history b)) bs ≤ length (flat_map block_lines bs)
corrupted_le bs = sum_le (λ b. corrupted_count (history b)) (λ r. count_le (λ (e : Event). is_corrupted e.reply) r) bs
