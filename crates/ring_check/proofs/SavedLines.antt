-- A saved text has a byte at least for each of its lines.
use Rattle.std.proofs.Common.{ℕ, ◌+◌, ◌≤◌, List, [], ◌∷◌, ◌++◌, length, length-append, arith}
use Rattle.std.specs.List.{flat_map}
use Rattle.saved_history.specs.declared.saved.SavedEvent.{SavedEvent}
use Rattle.saved_history.specs.declared.saved.SavedEvent.TheVariants.{Granted, Refused, Member, Corrupted}
use Rattle.saved_history.specs.Content.{Block, Content}
use Rattle.saved_history.specs.Spelling.{first_line, head_line, head_of, start_line, event_line, end_line, survey_line, done_line, below_head, block_text, text}
use Rattle.ring_check.specs.Lines.{block_lines, lines}
use Rattle.ring_check.proofs.Blocks.{block_long}
use Rattle.ring_check.proofs.BlockLines.{lines_long}

event_some : (e : SavedEvent) → 1 ≤ length (event_line e)
event_some (Granted seat machine order number answer) = omega arith
event_some (Refused seat machine order) = omega arith
event_some (Member seat machine order left number answer) = omega arith
event_some (Corrupted seat machine value old) = omega arith

each_some : {X : Type 0} (f : X → List ℕ) (xs : List X) → ((x : X) → 1 ≤ length (f x)) → length xs ≤ length (flat_map f xs)
each_some f [] some = omega arith
each_some f (x ∷ xs) some =
    let one = some x in
    let more = each_some f xs some in
    rw length-append (omega arith)

block_some : (b : Block) → length (block_lines b) ≤ length (block_text b)
block_some b =
    let events = each_some event_line b.events event_some in
    let surveys = each_some survey_line b.surveys (λ s. omega arith) in
    let head : 1 ≤ length (head_line (head_of b)) = omega arith in
    let start : 1 ≤ length (start_line b.start) = omega arith in
    let end : 1 ≤ length (end_line b.events_said) = omega arith in
    let long = block_long b in
    omega (
      arith,
      length-append (head_line (head_of b)) (below_head b),
      length-append (start_line b.start) ((flat_map event_line b.events ++ end_line b.events_said) ++ flat_map survey_line b.surveys),
      length-append (flat_map event_line b.events ++ end_line b.events_said) (flat_map survey_line b.surveys),
      length-append (flat_map event_line b.events) (end_line b.events_said),
    )

blocks_some : (bs : List Block) → length (flat_map block_lines bs) ≤ length (flat_map block_text bs)
blocks_some [] = omega arith
blocks_some (b ∷ bs) =
    let one = block_some b in
    let more = blocks_some bs in
    omega (arith, length-append (block_lines b) (flat_map block_lines bs), length-append (block_text b) (flat_map block_text bs))

pub lines_some : (s : Content) → length (lines s) + 1 ≤ length (text s)
lines_some s =
    let blocks = blocks_some s.rings in
    let done : 1 ≤ length (done_line s.rings_said) = omega arith in
    let long = lines_long s in
    let below = length-append (flat_map block_text s.rings) (done_line s.rings_said) in
    let whole = length-append (first_line s.version) (flat_map block_text s.rings ++ done_line s.rings_said) in
    omega arith
