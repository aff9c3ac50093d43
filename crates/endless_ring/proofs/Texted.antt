-- A ring's block and its text in bytes of a caller, part by part.
use Rattle.std.proofs.Common.{◌≡◌, ◌≢◌, ℕ, ◌+◌, ◌-◌, ◌^◌, List, [], ◌∷◌, ◌++◌, length, take, drop, sym, ap, ◌∙◌, arith}
use Rattle.std.specs.Prelude.{min}
use Rattle.std.specs.List.{flat_map}
use Rattle.std.proofs.lemmas.List.{append-nil, take_at, drop_all}
use Rattle.ring_model.specs.declared.bases.Base.{Base}
use Rattle.segment_files.specs.Spelling.{Head, number_line, behind_line, base_line, head_text}
use Rattle.journal.specs.Spelling.{first_line as journal_line, journal_head}
use Rattle.endless_ring.specs.Files.{PlaceView, head_at}
use Rattle.saved_history.specs.Content.{Block, Content}
use Rattle.saved_history.specs.Spelling.{first_line, head_line, start_line, event_line, end_line, survey_line, done_line, head_of, block_text, text}
use Rattle.saved_history.proofs.TextParts.{history_lines, surveys_lines, below_start, blocks_lines, below_first}
use Rattle.endless_ring.specs.Filling.{Fills}
use Rattle.endless_ring.proofs.Filled.{fills_then, fills_same}

pub block_filled : (r : Block) {a b c d e f : List ℕ} {i j k l m n : ℕ} →
    Fills a b i j (head_line (head_of r)) → Fills b c j k (start_line r.start) → Fills c d k l (flat_map event_line r.events) → Fills d e l m (end_line r.events_said) → Fills e f m n (flat_map survey_line r.surveys) →
    Fills a f i n (block_text r)
block_filled r head start events end surveys =
    let history = fills_then (flat_map event_line r.events) (end_line r.events_said) events end in
    let below = fills_then (history_lines r) (surveys_lines r) history surveys in
    fills_then (head_line (head_of r)) (start_line r.start ++ below_start r) head (fills_then (start_line r.start) (below_start r) start below)

pub text_filled : (s : Content) {a b c d : List ℕ} {i j k l : ℕ} →
    Fills a b i j (first_line s.version) → Fills b c j k (blocks_lines s) → Fills c d k l (done_line s.rings_said) → Fills a d i l (text s)
text_filled s first blocks done = fills_then (first_line s.version) (below_first s) first (fills_then (blocks_lines s) (done_line s.rings_said) blocks done)

-- the head of a file of one ring
pub head_filled : (p : PlaceView) (base : Base) {a b c d : List ℕ} {i j k l : ℕ} →
    Fills a b i j (number_line p.number 1) → Fills b c j k (behind_line p.behind) → Fills c d k l (base_line base) → Fills a d i l (head_text (head_at p base))
head_filled p base number behind line =
    let bases = fills_same (base_line base) (flat_map base_line (base ∷ [])) (sym (append-nil (base_line base))) line in
    fills_then (number_line p.number 1) (behind_line p.behind ++ flat_map base_line (base ∷ [])) number (fills_then (behind_line p.behind) (flat_map base_line (base ∷ [])) behind bases)

-- a file: its head, and a journal that begins with a saved text
pub file_filled : (h : Head) (s : Content) {a b c d : List ℕ} {i j k l : ℕ} →
    Fills a b i j (head_text h) → Fills b c j k journal_line → Fills c d k l (text s) → Fills a d i l (head_text h ++ journal_head s)
file_filled h s head line began = fills_then (head_text h) (journal_head s) head (fills_then journal_line (text s) line began)

-- what has just the room of a text, as it was measured, is the text
pub whole_filled : (text : List ℕ) {none some old new : List ℕ} {size m : ℕ} (behind : List ℕ) (n : ℕ) → Fills none some 0 size text → n ≡ size → n ≢ 2 ^ 64 - 1 → length old ≡ n → Fills old new 0 m text → take n (new ++ behind) ≡ text
whole_filled text {old = old} {new = new} behind n measured is small room f =
    let said : n ≡ min (0 + length text) (2 ^ 64 - 1) = is ∙ measured.ends in
    let long : length text ≡ n = omega (arith, said, small) in
    let none : drop (0 + length text) old ≡ [] = drop_all (0 + length text) old (omega (arith, long, room)) in
    let whole : new ≡ text = f.there (omega (arith, long, room)) ∙ (ap (λ (t : List ℕ). text ++ t) none ∙ append-nil text) in
    take_at new behind n (ap length whole ∙ long) ∙ whole
