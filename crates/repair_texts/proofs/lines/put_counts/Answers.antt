use Rattle.std.proofs.Common.{◌≡◌, ℕ, ◌+◌, ◌<◌, List, ◌∷◌, drop, get_or, length, subst, Option}
use Rattle.std.proofs.lemmas.List.{drop_more}
use Rattle.text_lines.specs.Writing.{Wrote}
use Rattle.text_lines.proofs.Writing.{wrote_piece, wrote_fault}
use Rattle.repair_texts.specs.Lines.{one_text, counts_from}
use Rattle.repair_texts.proofs.lines.put_counts.Goals as goal

-- what is left begins with the line of the next number
next : (a b : Option (List ℕ)) (text unit : List ℕ) (n k number : ℕ) (counts : List ℕ) → number < length counts → Wrote a b text (counts_from unit n k number (drop number counts)) → Wrote a b text (counts_from unit n k number (get_or counts number 0 ∷ drop (number + 1) counts))
next a b text unit n k number counts lt w = subst (λ (left : List ℕ). Wrote a b text (counts_from unit n k number left)) (drop_more counts number 0 lt) w

pub loop-number-preserved : goal.loop-number-preserved
loop-number-preserved g c =
    let l = c.loop-number in
    let h = c.args.head.now in
    let cut = next _ _ (counts_from c.args.unit.now h.n h.k 0 c.args.counts.now) c.args.unit.now h.n h.k l.number c.args.counts.now c.loop-number-test.true l.invariant in
    wrote_piece _ _ _ (counts_from c.args.unit.now h.n h.k 0 c.args.counts.now) (one_text c.args.unit.now h.n h.k l.number (get_or c.args.counts.now l.number 0)) (counts_from c.args.unit.now h.n h.k (l.number + 1) (drop (l.number + 1) c.args.counts.now)) cut c.in-Ok.ensures

pub returns-in-Err : goal.returns-in-Err
returns-in-Err g c =
    let l = c.loop-number in
    let h = c.args.head.now in
    let cut = next _ _ (counts_from c.args.unit.now h.n h.k 0 c.args.counts.now) c.args.unit.now h.n h.k l.number c.args.counts.now c.loop-number-test.true l.invariant in
    wrote_fault _ _ _ c.in-Err.fault (counts_from c.args.unit.now h.n h.k 0 c.args.counts.now) (one_text c.args.unit.now h.n h.k l.number (get_or c.args.counts.now l.number 0)) (counts_from c.args.unit.now h.n h.k (l.number + 1) (drop (l.number + 1) c.args.counts.now)) cut c.in-Err.ensures
