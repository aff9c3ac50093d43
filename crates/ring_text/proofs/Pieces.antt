-- The lines of rings, one after the other, and why there is no report.
use Rattle.std.proofs.Common.{◌≡◌, ◌∙◌, ◌++◌, [], ◌∷◌, ◌<◌, ℕ, ◌+◌, List, length, take, get_or, ap, sym, refl, Option, Some}
use Rattle.std.specs.List.{slice_get}
use Rattle.std.specs.List.{flat_map}
use Rattle.std.proofs.lemmas.List.{append-nil, take_more}
use Rattle.std.proofs.lemmas.List.Folds.{flat_map-map}
use Rattle.std.proofs.lemmas.List.Concat.{flat_map-append}
use Rattle.std.proofs.lemmas.Option.{slice_get-map, slice_get-get_or}
use Rattle.std.specs.Option.{option_map}
use Rattle.ring_model.specs.Limits.{event_limit}
use Rattle.saved_history.specs.declared.saved.SavedRing.{SavedRing}
use Rattle.saved_history.specs.declared.saved.Saved.{Saved}
use Rattle.saved_history.specs.Content.{content, block_of}
use Rattle.ring_text.specs.declared.reports.ReportFault.{ReportFault}
use Rattle.ring_text.specs.declared.reports.ReportFault.TheVariants as report
use Rattle.ring_text.specs.SavedReport.{block_lines, totals, report_of, IsReportFault}
use Rattle.ring_check.specs.declared.answers.Summary.{Summary}
use Rattle.ring_check.specs.Legal.{summary_of}
use Rattle.ring_text.specs.Report.{total_line}

-- the lines of rings
abbrev pub rings_text : List SavedRing → List ℕ
rings_text rings = flat_map (λ (r : SavedRing). block_lines (block_of r)) rings

-- with one ring more
pub rings_more : (rings : List SavedRing) (i : ℕ) (ring : SavedRing) (was is : List ℕ) → i < length rings → ring ≡ get_or rings i ring → was ≡ rings_text (take i rings) →
    is ≡ was ++ block_lines (block_of ring) → is ≡ rings_text (take (i + 1) rings)
rings_more rings i ring was is lt at before added =
    let f : SavedRing → List ℕ = λ r. block_lines (block_of r) in
    added ∙ ap (λ (t : List ℕ). t ++ f ring) before ∙ ap (λ (r : SavedRing). rings_text (take i rings) ++ f r) at
    ∙ ap (λ (t : List ℕ). rings_text (take i rings) ++ t) (sym (append-nil (f (get_or rings i ring))))
    ∙ sym (flat_map-append f (take i rings) (get_or rings i ring ∷ [])) ∙ ap rings_text (sym (take_more rings i ring lt))

-- all of them
pub rings_all : (saved : Saved) → rings_text saved.rings.items ≡ flat_map block_lines (content saved).rings
rings_all saved = sym (flat_map-map block_lines block_of saved.rings.items)

pub report_fault : (saved : Saved) (i : ℕ) (ring : SavedRing) (e : ReportFault) → i < length saved.rings.items → ring ≡ get_or saved.rings.items i ring →
    ((n : ℕ) → e ≡ report.Full n → (n ≡ i) × (event_limit < length ring.events.items)) → IsReportFault (content saved) e
report_fault saved i ring (report.Full n) lt at full =
    let rings = saved.rings.items in
    let ring_at = slice_get-get_or rings i ring lt ∙ ap (λ (x : SavedRing). Some x) (sym at) in
    let block_at = slice_get-map block_of rings i ∙ ap (λ (x : Option SavedRing). option_map block_of x) ring_at in
    (block_of ring, ap (λ (k : ℕ). slice_get (content saved).rings k) (full n refl).0 ∙ block_at, (full n refl).1)
report_fault saved i ring report.OutOfMemory lt at full = tt

-- the lines of all rings, and the sums
pub report_end : (saved : Saved) (sums : Summary) (text new : List ℕ) → text ≡ rings_text saved.rings.items → sums ≡ summary_of (content saved) →
    new ≡ text ++ total_line sums.rings (totals sums) → new ≡ report_of (content saved)
report_end saved sums text new all same added =
    added ∙ ap (λ (s : Summary). text ++ total_line s.rings (totals s)) same
    ∙ ap (λ (t : List ℕ). t ++ total_line (length (content saved).rings) (totals (summary_of (content saved)))) (all ∙ rings_all saved)
