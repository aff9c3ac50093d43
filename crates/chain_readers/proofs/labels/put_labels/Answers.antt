use Rattle.std.proofs.Common.{◌≡◌, ℕ, List, [], ◌∷◌, rules, subst, Option}
use Rattle.std.specs.List.{flat_map}
use Rattle.std.specs.Map.Iter.{deref_pair}
use Rattle.std.proofs.lemmas.Map.Iter.{rest_more, rest_all}
use Rattle.text_lines.specs.Writing.{Wrote}
use Rattle.text_lines.proofs.Writing.{wrote_none, wrote_all, wrote_piece, wrote_fault}
use Rattle.chain_readers.specs.declared.labels.LabelCounts.{LabelCounts}
use Rattle.chain_readers.specs.Labels.{label_line}
use Rattle.chain_readers.proofs.labels.put_labels.Goals as goal

so_far : (a b : Option (List ℕ)) (text : List ℕ) (xs ys : List (ℕ × LabelCounts)) → xs ≡ ys → Wrote a b text (flat_map label_line xs) → Wrote a b text (flat_map label_line ys)
so_far a b text xs ys e w = subst (λ (u : List (ℕ × LabelCounts)). Wrote a b text (flat_map label_line u)) e w

pub loop-label-init : goal.loop-label-init
loop-label-init g c = so_far _ _ _ c.args.counts.now.entries c.into_iter-label-iterator.result (search rules) (wrote_none _ _)

pub loop-label-preserved : goal.loop-label-preserved
loop-label-preserved g c =
    let l = c.loop-label in
    let cut = rest_more deref_pair l.label-iterator c.next.new.self c.next.result (c.in-Some.label, c.in-Some.count) c.in-Some.is c.next.ensures.steps in
    wrote_piece _ _ _ (flat_map label_line c.args.counts.now.entries) (label_line (c.in-Some.label.now, c.in-Some.count.now)) (flat_map label_line c.next.new.self)
    (so_far _ _ _ l.label-iterator ((c.in-Some.label.now, c.in-Some.count.now) ∷ c.next.new.self) cut l.invariant) c.in-Ok.ensures

pub returns-in-Err-clause-written : goal.returns-in-Err-clause-written
returns-in-Err-clause-written g c =
    let l = c.loop-label in
    let cut = rest_more deref_pair l.label-iterator c.next.new.self c.next.result (c.in-Some.label, c.in-Some.count) c.in-Some.is c.next.ensures.steps in
    wrote_fault _ _ _ c.in-Err.fault (flat_map label_line c.args.counts.now.entries) (label_line (c.in-Some.label.now, c.in-Some.count.now)) (flat_map label_line c.next.new.self)
    (so_far _ _ _ l.label-iterator ((c.in-Some.label.now, c.in-Some.count.now) ∷ c.next.new.self) cut l.invariant) c.in-Err.ensures

pub returns-clause-written : goal.returns-clause-written
returns-clause-written g c =
    let l = c.loop-label in
    let none = rest_all deref_pair l.label-iterator c.next.new.self c.next.result c.in-None.is c.next.ensures.steps in
    wrote_all _ _ (flat_map label_line c.args.counts.now.entries) (so_far _ _ _ l.label-iterator [] none l.invariant)
