use Rattle.std.proofs.Common.{◌≡◌, ◌+◌, length, map, arith, ℕ}
use Rattle.std.specs.List.{flat_map}
use Rattle.std.proofs.lemmas.Bool.{ne_eqb, eq-eqb}
use Rattle.std.proofs.lemmas.List.{length-map}
use Rattle.saved_history.specs.Content.{content, block_of}
use Rattle.ring_check.specs.Lines.{block_lines}
use Rattle.ring_check.specs.declared.answers.Summary.{Summary}
use Rattle.ring_check.specs.declared.answers.Kind.TheVariants.{Count}
use Rattle.ring_check.proofs.BlockLines.{text_stop, text_count, text_right, right_handed_on, right_bad, lines_long}
use Rattle.ring_check.proofs.Meanings.{legal_means, whole_of}
use Rattle.ring_check.proofs.check.check_saved.Goals as goal

pub returns-in_err-line-clause-right : goal.returns-in_err-line-clause-right
returns-in_err-line-clause-right c =
    let error = c.in_err-line.field-0.0 in
    right_handed_on (content c.args.saved.now) c.from_residual.result error c.from_residual.ensures
    (text_stop ℕ Summary (content c.args.saved.now) error (rw c.deref.ensures.value at c.in_err-line.ensures.finds))

pub returns-then-saved-len-clause-right : goal.returns-then-saved-len-clause-right
returns-then-saved-len-clause-right c =
    let n : length (map block_of c.args.saved.now.rings.items) ≡ length c.args.saved.now.rings.items = length-map c.args.saved.now.rings.items block_of in
    let m : c.len.result ≡ length (map block_of c.args.saved.now.rings.items) = omega (arith, n, c.len.ensures, c.args.saved.now.rings.ok.0) in
    let l : c.in_ok-line.line ≡ length (flat_map block_lines (map block_of c.args.saved.now.rings.items)) + 1 = rw c.deref.ensures.value at c.in_ok-line.ensures.lines in
    right_bad (content c.args.saved.now) (c.in_ok-line.line + 1) Count
    (rw l (text_count ℕ c.in_ok-line.line (content c.args.saved.now) (rw c.deref.ensures.value at c.in_ok-line.ensures.finds) (ne_eqb _ _ (rw m at c.if-saved-len.true))))

pub sums_of-requires-clause-count : goal.sums_of-requires-clause-count
sums_of-requires-clause-count c = rw c.deref-2.ensures.value (omega (arith, c.len.ensures, c.args.saved.now.rings.ok.0, c.if-saved-len.false))

pub sums_of-requires-clause-room : goal.sums_of-requires-clause-room
sums_of-requires-clause-room c = rw c.deref-2.ensures.value (omega (arith, lines_long (content c.args.saved.now), c.requires))

pub returns-clause-right : goal.returns-clause-right
returns-clause-right c =
    let n : length (map block_of c.args.saved.now.rings.items) ≡ length c.args.saved.now.rings.items = length-map c.args.saved.now.rings.items block_of in
    let m : c.args.saved.now.rings_said ≡ length (map block_of c.args.saved.now.rings.items) = omega (arith, n, c.len.ensures, c.args.saved.now.rings.ok.0, c.if-saved-len.false) in
    (text_right ℕ c.in_ok-line.line (content c.args.saved.now) (rw c.deref.ensures.value at c.in_ok-line.ensures.finds) (eq-eqb _ _ m), rw c.deref-2.ensures.value at (c.sums_of.ensures c.args.saved.now.version))

pub returns-clause-meaning : goal.returns-clause-meaning
returns-clause-meaning c =
    let n : length (map block_of c.args.saved.now.rings.items) ≡ length c.args.saved.now.rings.items = length-map c.args.saved.now.rings.items block_of in
    let m : c.args.saved.now.rings_said ≡ length (map block_of c.args.saved.now.rings.items) = omega (arith, n, c.len.ensures, c.args.saved.now.rings.ok.0, c.if-saved-len.false) in
    (legal_means (content c.args.saved.now) (whole_of c.args.saved.now.rings.items)).0
    (text_right ℕ c.in_ok-line.line (content c.args.saved.now) (rw c.deref.ensures.value at c.in_ok-line.ensures.finds) (eq-eqb _ _ m))
