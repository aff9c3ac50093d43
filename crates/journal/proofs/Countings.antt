-- How many lines the recorded history has: no more than the journal's start and the calls.
use Rattle.std.proofs.Common.{◌≡◌, ℕ, zero, suc, ◌+◌, ◌≤◌, Bool, true, false, cond, List, [], ◌∷◌, length, map, refl, length-append, arith}
use Rattle.std.specs.List.{flat_map}
use Rattle.saved_history.specs.Content.{Block, Content}
use Rattle.ring_model.specs.Limits.{seat_limit}
use Rattle.ring_check.specs.Lines.{block_lines, lines}
use Rattle.ring_check.proofs.Blocks.{block_long}
use Rattle.ring_check.proofs.BlockLines.{lines_long}
use Rattle.journal.specs.declared.calls.Call.{Call}
use Rattle.journal.specs.declared.calls.Call.TheVariants.{Event, Survey}
use Rattle.journal.specs.declared.calls.JournalLine.{JournalLine}
use Rattle.journal.specs.ContentAfter.{are_open, whole, with_call, with_call_at, with_calls, in_order, content_after}
use Rattle.journal.proofs.Seatings.{length-by_seats}

abbrev count : List Block → ℕ
count bs = length (flat_map block_lines bs)

one_block : (b : Block) (bs : List Block) → count (b ∷ bs) ≡ length (block_lines b) + count bs
one_block b bs = length-append (block_lines b) (flat_map block_lines bs)

pub one_call : (b : Block) (call : Call) → length (block_lines (with_call b call)) ≡ length (block_lines b) + 1
one_call b (Event e) =
    let long = block_long b in
    let more = block_long (with_call b (Event e)) in
    let events = length-append b.events (e ∷ []) in
    omega arith
one_call b (Survey s) =
    let long = block_long b in
    let more = block_long (with_call b (Survey s)) in
    let surveys = length-append b.surveys (s ∷ []) in
    omega arith

call_at : (bs : List Block) (ring : ℕ) (call : Call) → count (with_call_at bs ring call) ≤ count bs + 1
call_at [] ring call = omega arith
call_at (b ∷ bs) zero call =
    let one = one_call b call in
    let before = one_block b bs in
    let after = one_block (with_call b call) bs in
    omega arith
call_at (b ∷ bs) (suc ring) call =
    let more = call_at bs ring call in
    let before = one_block b bs in
    let after = one_block b (with_call_at bs ring call) in
    omega arith

calls_few : (bs : List Block) (calls : List JournalLine) → count (with_calls bs calls) ≤ count bs + length calls
calls_few bs [] = omega arith
calls_few bs (r ∷ rs) =
    let one = call_at bs r.ring r.call in
    let more = calls_few (with_call_at bs r.ring r.call) rs in
    omega arith

pub ordered : (b : Block) → length (block_lines (in_order b)) ≡ length (block_lines b)
ordered b =
    let long = block_long b in
    let same = block_long (in_order b) in
    let surveys = length-by_seats seat_limit 0 b.surveys in
    omega arith

all_ordered : (bs : List Block) → count (map in_order bs) ≡ count bs
all_ordered [] = refl
all_ordered (b ∷ bs) =
    let one = ordered b in
    let more = all_ordered bs in
    let before = one_block b bs in
    let after = one_block (in_order b) (map in_order bs) in
    omega arith

either_few : (b : Bool) (r : JournalLine) (rs : List JournalLine) (n : ℕ) → length rs ≤ n → length (cond b [] (r ∷ rs)) ≤ n + 1
either_few true r rs n le = omega arith
either_few false r rs n le = omega arith

whole_few : (calls : List JournalLine) → length (whole calls) ≤ length calls
whole_few [] = omega arith
whole_few (r ∷ rs) = let e = either_few (are_open (r ∷ rs)) r (whole rs) (length rs) (whole_few rs) in omega arith

pub lines_after : (began : Content) (calls : List JournalLine) → length (lines (content_after began calls)) ≤ length (lines began) + length calls
lines_after began calls =
    let before = lines_long began in
    let after = lines_long (content_after began calls) in
    let same = all_ordered (with_calls began.rings (whole calls)) in
    let few = calls_few began.rings (whole calls) in
    let some = whole_few calls in
    omega arith
