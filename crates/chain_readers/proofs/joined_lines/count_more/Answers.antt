use Rattle.std.proofs.Common.{◌≡◌, ℕ, ◌+◌, length, ap, ◌∙◌}
use Rattle.saved_history.specs.Content.{block_of}
use Rattle.segment_files.specs.Sums.{capped}
use Rattle.chain_readers.proofs.Counting.{counted}
use Rattle.chain_readers.proofs.joined_lines.count_more.Goals as goal

pub returns : goal.returns
returns c =
    let ring = c.args.ring.now in
    let events : c.len.result ≡ length ring.events.items = c.len.ensures ∙ ring.events.ok.0 in
    let surveys : c.len-2.result ≡ length ring.surveys.items = c.len-2.ensures ∙ ring.surveys.ok.0 in
    c.saturating_add-3.ensures
    ∙ ap (λ (n : ℕ). capped (n + c.len-2.result)) (c.saturating_add-2.ensures ∙ ap (λ (n : ℕ). capped (n + c.len.result)) c.saturating_add.ensures)
    ∙ ap (λ (n : ℕ). capped (capped (capped (c.args.lines + 3) + n) + c.len-2.result)) events
    ∙ ap (λ (n : ℕ). capped (capped (capped (c.args.lines + 3) + length ring.events.items) + n)) surveys
    ∙ counted c.args.lines (block_of ring)
