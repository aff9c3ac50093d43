-- The lines of a book that has a block's start and history are those of the block.
use Rattle.std.proofs.Common.{◌≡◌, ◌++◌, ◌∙◌, ℕ, List, length, map, ap}
use Rattle.ring_model.specs.Ring.{Ring, ring_with, bound}
use Rattle.ring_model.specs.History.{opening, after}
use Rattle.ring_model.specs.Surveys.{survey_at}
use Rattle.ring_model.specs.Grants.{grants_of, settled_grants_of}
use Rattle.ring_model.specs.Resources.{till}
use Rattle.ring_model.specs.declared.events.Event.{Event}
use Rattle.saved_history.specs.Content.{Block, block_of}
use Rattle.saved_history.specs.declared.saved.SavedRing.{SavedRing}
use Rattle.ring_book.specs.BookView.{BookView}
use Rattle.ring_check.specs.Table.{event_of}
use Rattle.ring_text.specs.declared.counts.Counts.{Counts}
use Rattle.ring_text.specs.Report.{counts_line, end_lines, states_line, standing_line, grants_line, each_machine}
use Rattle.ring_text.specs.SavedReport.{block_counts, book_of}

-- the three lines, by the start and the history
abbrev pub end_text : Ring → List Event → List ℕ
end_text start h =
    states_line (after till (opening start 0) h).ring.values
    ++ (standing_line (survey_at till (opening start 0) h (length h)) (bound (length start.values))
    ++ grants_line (each_machine (length start.values) (λ i. grants_of i h)) (each_machine (length start.values) (λ i. settled_grants_of till (opening start 0) i h)))

pub ends_of : (book : BookView ℕ) (b : Block) → book.start ≡ ring_with b.k b.start → book.history ≡ map event_of b.events → end_lines book ≡ end_lines (book_of b)
ends_of book b start history = ap (λ (s : Ring). end_text s book.history) start ∙ ap (end_text (ring_with b.k b.start)) history

pub counts_same : (r : SavedRing) (n : ℕ) (counts : Counts) → n ≡ length r.start.items → counts ≡ block_counts (block_of r) →
    counts_line r.index n r.k counts ≡ counts_line r.index (length r.start.items) r.k (block_counts (block_of r))
counts_same r n counts is_n is_counts =
    ap (λ (x : ℕ). counts_line r.index x r.k counts) is_n ∙ ap (λ (x : Counts). counts_line r.index (length r.start.items) r.k x) is_counts
