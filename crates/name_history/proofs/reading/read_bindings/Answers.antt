use Rattle.std.proofs.Common.{ℕ, List, [], ◌∷◌, ◌++◌, length, refl, sym, ap, subst, ◌∙◌, append_assoc}
use Rattle.std.proofs.lemmas.Bool.{eqb-true}
use Rattle.std.proofs.lemmas.List.{append-nil}
use Rattle.segment_files.specs.Remarks.{lines_in}
use Rattle.name_history.specs.Said.{RingBinding, AreSaid}
use Rattle.name_history.proofs.Lines.{one_more, empty_lines}
use Rattle.name_history.proofs.reading.read_bindings.Goals as goal

pub loop-rest-init : goal.loop-rest-init
loop-rest-init c = ([], [], refl, refl, sym (append-nil c.args.found.now.items))

pub loop-rest-preserved : goal.loop-rest-preserved
loop-rest-preserved c =
    let i = c.loop-rest.invariant in
    let line = c.split_line.result.0.now in
    let a = c.in_ok-add_line.ensures in
    let more = one_more (lines_in c.args.text.now) i.0 (lines_in c.loop-rest.rest.now) line i.1 a.0 (lines_in c.split_line.result.1.now) i.2 c.split_line.ensures.lines i.3 a.1 in
    (i.0 ++ line ∷ [], i.1 ++ a.0, more.0, more.1, a.2 ∙ ap (λ (es : List RingBinding). es ++ a.0) i.4 ∙ append_assoc c.args.found.now.items i.1 a.0)

pub returns : goal.returns
returns c =
    let i = c.loop-rest.invariant in
    let none = empty_lines c.loop-rest.rest.now (eqb-true (length c.loop-rest.rest.now) 0 (sym c.is_empty.ensures ∙ c.loop-rest-test.false)) in
    let all = i.2 ∙ ap (λ (ls : List (List ℕ)). i.0 ++ ls) none ∙ append-nil i.0 in
    (i.1, subst (λ (ls : List (List ℕ)). AreSaid ls i.1) (sym all) i.3, i.4)
