-- How many lines a recovered history has, and that it is all of its journal if these are enough.
use Rattle.std.proofs.Common.{◌≡◌, ℕ, zero, suc, ◌+◌, ◌<◌, ◌≤◌, Bool, true, false, cond, eqb, take, drop, get_or, List, [], ◌∷◌, ◌++◌, length, map, refl, sym, ap, subst, ◌∙◌, length-append, arith}
use Rattle.std.specs.List.{flat_map, AllByRecursion}
use Rattle.std.proofs.Math.ListN.{get_or-map}
use Rattle.std.proofs.lemmas.List.{append-nil, take_more, take-append-drop, length-map}
use Rattle.std.proofs.lemmas.List.Concat.{flat_map-append}
use Rattle.std.proofs.lemmas.List.Sums.{count_by-le-length}
use Rattle.saved_history.specs.declared.saved.SavedRing.{SavedRing}
use Rattle.saved_history.specs.Content.{Block, Content, block_of}
use Rattle.ring_check.specs.Lines.{block_lines, lines}
use Rattle.ring_check.proofs.Blocks.{block_long}
use Rattle.ring_check.proofs.BlockLines.{lines_long}
use Rattle.journal.specs.declared.calls.Call.{Call}
use Rattle.journal.specs.declared.calls.JournalLine.{JournalLine}
use Rattle.journal.specs.Spelling.{JournalLineFits, journal_text}
use Rattle.journal.specs.ContentAfter.{are_open, whole, with_call, with_call_at, with_calls, in_order, content_after}
use Rattle.journal.specs.Recovery.{IsRecovered}
use Rattle.segment_files.specs.Remarks.{IsEnded}
use Rattle.segment_files.specs.Files.{IsAllOf}
use Rattle.segment_files.proofs.LineCounts.{ends, ends_are, ends-append, journal_ends, journal_ended, none_follows}
use Rattle.journal.proofs.Countings.{ordered, one_call}

abbrev count : List Block → ℕ
count bs = length (flat_map block_lines bs)

one_block : (b : Block) (bs : List Block) → count (b ∷ bs) ≡ length (block_lines b) + count bs
one_block b bs = length-append (block_lines b) (flat_map block_lines bs)

call_at : (bs : List Block) (ring : ℕ) (call : Call) → ring < length bs → (count (with_call_at bs ring call) ≡ count bs + 1) × (length (with_call_at bs ring call) ≡ length bs)
call_at [] ring call lt = absurd (omega (arith, lt))
call_at (b ∷ bs) zero call lt =
    let one = one_call b call in
    let before = one_block b bs in
    let after = one_block (with_call b call) bs in
    (omega arith, refl)
call_at (b ∷ bs) (suc ring) call lt =
    let more = call_at bs ring call (omega (arith, lt)) in
    let m = more.0 in
    let before = one_block b bs in
    let after = one_block b (with_call_at bs ring call) in
    (omega arith, ap suc more.1)

abbrev AreWithin : ℕ → List JournalLine → Type 0
AreWithin n rs = AllByRecursion (λ (r : JournalLine). r.ring < n) rs

calls_many : (bs : List Block) (rs : List JournalLine) → AreWithin (length bs) rs → count (with_calls bs rs) ≡ count bs + length rs
calls_many bs [] f = omega arith
calls_many bs (r ∷ rs) f =
    let one = call_at bs r.ring r.call f.0 in
    let o = one.0 in
    let more = calls_many (with_call_at bs r.ring r.call) rs (subst (λ (n : ℕ). AreWithin n rs) (sym one.1) f.1) in
    omega arith

all_ordered : (bs : List Block) → count (map in_order bs) ≡ count bs
all_ordered [] = refl
all_ordered (b ∷ bs) =
    let one = ordered b in
    let more = all_ordered bs in
    let before = one_block b bs in
    let after = one_block (in_order b) (map in_order bs) in
    omega arith

either_within : (n : ℕ) (b : Bool) (r : JournalLine) (rs : List JournalLine) → r.ring < n → AreWithin n rs → AreWithin n (cond b [] (r ∷ rs))
either_within n true r rs lt f = tt
either_within n false r rs lt f = (lt, f)

whole_within : (n : ℕ) (rs : List JournalLine) → AreWithin n rs → AreWithin n (whole rs)
whole_within n [] f = tt
whole_within n (r ∷ rs) f = either_within n (are_open (r ∷ rs)) r (whole rs) f.0 (whole_within n rs f.1)

fit_within : (version n : ℕ) (rs : List JournalLine) → AllByRecursion (JournalLineFits version n) rs → AreWithin n rs
fit_within version n [] f = tt
fit_within version n (r ∷ rs) f = (f.0.ring, fit_within version n rs f.1)

-- the recorded history has a line for each whole call
told_many : (began : Content) (rs : List JournalLine) → AllByRecursion (JournalLineFits began.version (length began.rings)) rs → length (lines (content_after began rs)) ≡ length (lines began) + length (whole rs)
told_many began rs f =
    let before = lines_long began in
    let after = lines_long (content_after began rs) in
    let same = all_ordered (with_calls began.rings (whole rs)) in
    let many = calls_many began.rings (whole rs) (whole_within (length began.rings) rs (fit_within began.version (length began.rings) rs f)) in
    omega arith

-- the calls are whole if as many of them are
either_all : (b : Bool) (r : JournalLine) (ws rs : List JournalLine) → length (cond b [] (r ∷ ws)) ≡ suc (length rs) → (length ws ≡ length rs → ws ≡ rs) → cond b [] (r ∷ ws) ≡ r ∷ rs
either_all true r ws rs e f = absurd (omega (arith, e))
either_all false r ws rs e f = ap (λ (u : List JournalLine). r ∷ u) (f (omega (arith, e)))

all_whole : (rs : List JournalLine) → length (whole rs) ≡ length rs → whole rs ≡ rs
all_whole [] e = refl
all_whole (r ∷ rs) e = either_all (are_open (r ∷ rs)) r (whole rs) rs e (all_whole rs)

-- ---- the tests

module _ (bytes : List ℕ) (c : Content) where
  -- a journal that is recovered in full is ended, and has three lines more than its blocks
  pub all_ended : IsAllOf bytes c → IsEnded bytes
  all_ended a = subst IsEnded (sym a.spelled) (journal_ended a.journal a.fits)

  pub all_lines : IsAllOf bytes c → ends bytes ≡ length (flat_map block_lines c.rings) + 3
  all_lines a =
      let j = a.journal in
      let n = journal_ends j a.fits in
      let many = told_many j.began j.calls a.fits.calls in
      let same : length (whole j.calls) ≡ length j.calls = ap length a.closed in
      let long = lines_long c in
      let t : length (lines c) ≡ length (lines (content_after j.began j.calls)) = ap (λ (x : Content). length (lines x)) a.is in
      ap ends a.spelled ∙ omega (arith, n, many, same, long, t)

  pub is_all : IsRecovered bytes c → IsEnded bytes → ends bytes ≡ length (flat_map block_lines c.rings) + 3 → IsAllOf bytes c
  is_all r e n =
      let j = r.journal in
      let none : r.tail ≡ [] = none_follows (journal_text j) r.tail (subst IsEnded r.lines.spelled e) r.unended in
      let spelled : bytes ≡ journal_text j = r.lines.spelled ∙ ap (λ (u : List ℕ). journal_text j ++ u) none ∙ append-nil (journal_text j) in
      let m = journal_ends j r.lines.fits in
      let s : ends bytes ≡ ends (journal_text j) = ap ends spelled in
      let many = told_many j.began j.calls r.lines.fits.calls in
      let long = lines_long c in
      let t : length (lines c) ≡ length (lines (content_after j.began j.calls)) = ap (λ (x : Content). length (lines x)) r.is in
      let all : length (whole j.calls) ≡ length j.calls = omega (arith, n, m, s, many, long, t) in
      record { journal = j; fits = r.lines.fits; spelled = spelled; closed = all_whole j.calls all; is = r.is }

either_few : (b : Bool) (r : JournalLine) (ws rs : List JournalLine) → length ws ≤ length rs → length (cond b [] (r ∷ ws)) ≤ suc (length rs)
either_few true r ws rs le = omega arith
either_few false r ws rs le = omega (arith, le)

whole_few : (rs : List JournalLine) → length (whole rs) ≤ length rs
whole_few [] = omega arith
whole_few (r ∷ rs) = either_few (are_open (r ∷ rs)) r (whole rs) rs (whole_few rs)

-- the bytes are as many as the lines of what is recovered of them
pub lines_room : (bytes : List ℕ) (c : Content) → IsRecovered bytes c → length (flat_map block_lines c.rings) + 3 ≤ length bytes
lines_room bytes c r =
    let j = r.journal in
    let m = journal_ends j r.lines.fits in
    let s : ends bytes ≡ ends (journal_text j ++ r.tail) = ap ends r.lines.spelled in
    let a = ends-append (journal_text j) r.tail in
    let many = told_many j.began j.calls r.lines.fits.calls in
    let few = whole_few j.calls in
    let long = lines_long c in
    let t : length (lines c) ≡ length (lines (content_after j.began j.calls)) = ap (λ (x : Content). length (lines x)) r.is in
    let all : ends bytes ≤ length bytes = (let e = ends_are bytes in let le = count_by-le-length (λ (b : ℕ). eqb b 10) bytes in omega (arith, e, le)) in
    omega (arith, m, s, a, many, few, long, t, all)

-- ---- the lines of the blocks, one after the other

module _ (rs : List SavedRing) (i : ℕ) (x : SavedRing) (lt : i < length rs) (is : x ≡ get_or rs i x) where
  pub block_more : length (flat_map block_lines (take (i + 1) (map block_of rs))) ≡ length (flat_map block_lines (take i (map block_of rs))) + (3 + length x.events.items + length x.surveys.items)
  block_more =
      let blocks = map block_of rs in
      let there : get_or blocks i (block_of x) ≡ block_of x = get_or-map block_of rs i x ∙ ap block_of (sym is) in
      let many = length-map rs block_of in
      let within : i < length blocks = omega (arith, many, lt) in
      let cut : take (i + 1) blocks ≡ take i blocks ++ block_of x ∷ [] = take_more blocks i (block_of x) within ∙ ap (λ (b : Block). take i blocks ++ b ∷ []) there in
      let parts : flat_map block_lines (take (i + 1) blocks) ≡ flat_map block_lines (take i blocks) ++ flat_map block_lines (block_of x ∷ []) = ap (flat_map block_lines) cut ∙ flat_map-append block_lines (take i blocks) (block_of x ∷ []) in
      let long = block_long (block_of x) in
      let one = length-append (block_lines (block_of x)) [] in
      let all = length-append (flat_map block_lines (take i blocks)) (flat_map block_lines (block_of x ∷ [])) in
      ap length parts ∙ omega (arith, long, one, all)

  pub block_room : length (flat_map block_lines (take (i + 1) (map block_of rs))) ≤ length (flat_map block_lines (map block_of rs))
  block_room =
      let blocks = map block_of rs in
      let parts : flat_map block_lines blocks ≡ flat_map block_lines (take (i + 1) blocks) ++ flat_map block_lines (drop (i + 1) blocks) =
      ap (flat_map block_lines) (sym (take-append-drop (i + 1) blocks)) ∙ flat_map-append block_lines (take (i + 1) blocks) (drop (i + 1) blocks) in
      let all : length (flat_map block_lines blocks) ≡ length (flat_map block_lines (take (i + 1) blocks) ++ flat_map block_lines (drop (i + 1) blocks)) = ap length parts in
      let cut = length-append (flat_map block_lines (take (i + 1) blocks)) (flat_map block_lines (drop (i + 1) blocks)) in
      omega (arith, all, cut)
