-- No repair of a legal text took more passes than the bound.
use Rattle.std.proofs.Common.{◌≡◌, ℕ, ◌+◌, ◌≤◌, All, List, [], ◌∷◌, ◌∙◌, length, ap, subst, arith}
use Rattle.std.specs.Prelude.{slice_get}
use Rattle.ring_check.specs.declared.answers.Summary.{Summary}
use Rattle.ring_text.specs.SavedReport.{IsReportFault}
use Rattle.ring_text.specs.declared.reports.ReportFault.{ReportFault}
use Rattle.ring_text.specs.declared.reports.ReportFault.TheVariants as report
use Rattle.tool_parts.specs.Checked.{IsLegalSavedText}
use Rattle.std.specs.List.{AllByRecursion}
use Rattle.std.proofs.lemmas.List.Elements.{All-nil, All-cons}
use Rattle.ring_model.specs.Ring.{IsRing, ring_with, bound}
use Rattle.ring_model.specs.Resources.{till}
use Rattle.saved_history.specs.Content.{Content, Block}
use Rattle.saved_history.specs.Spelling.{BlockFits, Fits}
use Rattle.ring_check.specs.Meaning.{IsRightBlock, AreRightBlocks, IsRightText}
use Rattle.ring_check.specs.Legal.{history}
use Rattle.ring_check.specs.Table.{first_state}
use Rattle.history_repairs.specs.declared.repairs.Repair.{Repair}
use Rattle.history_repairs.specs.Repairs.{RepairsAreBounded}
use Rattle.history_repairs.specs.Lines.{repairs_of}
use Rattle.history_commands.specs.WithRepairs.{AreBounded, fault_of_report, IsRepairsTextRefusal}

block_bounded : RepairsAreBounded ℕ → (version place : ℕ) (b : Block) → IsRightBlock version place b → length b.start ≡ b.n → AreBounded b
block_bounded law version place b right size =
    let two = right.two in
    let enough = right.enough in
    let ring : IsRing (ring_with b.k b.start) = record { two = omega arith; enough = omega arith; below = λ i lt. right.below i 0 lt } in
    let most : All (λ (r : Repair). r.passes ≤ bound (length b.start)) (repairs_of b) = law till (first_state (ring_with b.k b.start)) (history b) ring right.legal_and_whole.0 in
    subst (λ (n : ℕ). All (λ (r : Repair). r.passes ≤ bound n) (repairs_of b)) size most

blocks_bounded : RepairsAreBounded ℕ → (version place : ℕ) (bs : List Block) → AreRightBlocks version place bs → AllByRecursion (BlockFits version) bs → All AreBounded bs
blocks_bounded law version place [] right fits = All-nil AreBounded
blocks_bounded law version place (b ∷ bs) right fits = All-cons AreBounded b bs (block_bounded law version place b right.0 fits.0.start) (blocks_bounded law version (place + 1) bs right.1 fits.1)

pub all_bounded : RepairsAreBounded ℕ → (c : Content) → Fits c → IsRightText c → All AreBounded c.rings
all_bounded law c fits right = blocks_bounded law c.version 0 c.rings right.blocks fits.rings

-- ---- why there is no report

pub report_refused : (bytes : List ℕ) (sums : Summary) (legal : IsLegalSavedText bytes sums) (c : Content) (e : ReportFault) → legal.content ≡ c → IsReportFault c e → IsRepairsTextRefusal bytes (fault_of_report e)
report_refused bytes sums legal c (report.Full place) same h = (sums, legal, h.0, ap (λ (x : Content). slice_get x.rings place) same ∙ h.1, h.2)
report_refused bytes sums legal c report.OutOfMemory same h = tt
