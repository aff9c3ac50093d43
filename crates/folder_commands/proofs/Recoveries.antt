-- A recovered history has fewer lines than the journal has bytes.
use Rattle.std.proofs.Common.{◌≡◌, ℕ, ◌+◌, ◌≤◌, List, ◌++◌, length, refl, ap, length-append, arith}
use Rattle.std.specs.List.{flat_map}
use Rattle.saved_history.specs.Content.{Content}
use Rattle.saved_history.specs.Spelling.{text}
use Rattle.ring_check.specs.Lines.{lines}
use Rattle.ring_check.proofs.SavedLines.{lines_some}
use Rattle.journal.specs.Spelling.{first_line, journal_head, journal_line, journal_text}
use Rattle.journal.specs.ContentAfter.{content_after}
use Rattle.journal.specs.Recovery.{IsRecovered}
use Rattle.journal.proofs.Countings.{lines_after}
use Rattle.journal.proofs.Heads.{calls_within}

pub recovered_lines : (bytes : List ℕ) (c : Content) → IsRecovered bytes c → length (lines c) + 1 ≤ length bytes
recovered_lines bytes c r =
    let began = r.journal.began in
    let calls = r.journal.calls in
    let few = lines_after began calls in
    let same : length (lines c) ≡ length (lines (content_after began calls)) = ap (λ (s : Content). length (lines s)) r.is in
    let some = lines_some began in
    let head = length-append first_line (text began) in
    let behind = length-append (journal_head began) (flat_map journal_line calls) in
    let whole : length bytes ≡ length (journal_text r.journal ++ r.tail) = ap length r.lines.spelled in
    let all = length-append (journal_text r.journal) r.tail in
    let within = calls_within calls (flat_map journal_line calls ++ r.tail) r.tail refl in
    let more = length-append (flat_map journal_line calls) r.tail in
    omega arith
