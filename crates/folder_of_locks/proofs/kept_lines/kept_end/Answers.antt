use Rattle.std.proofs.Common.{◌≡◌, ◌-◌, ℕ, List, inl, inr, length, take, drop, sym, subst, ◌∙◌, arith}
use Rattle.std.proofs.lemmas.List.{take_all, length-drop}
use Rattle.folder_of_locks.specs.Fronts.{IsTornBinding}
use Rattle.folder_of_locks.proofs.LineEnds.{last_cut, some_bytes}
use Rattle.folder_of_locks.proofs.kept_lines.kept_end.Goals as goal

pub returns-else-is_torn_binding-clause-kept : goal.returns-else-is_torn_binding-clause-kept
returns-else-is_torn_binding-clause-kept c =
    let lines = c.args.lines.now in
    let start = c.lines_end-start.result in
    let e = c.lines_end-start.ensures in
    let cut = last_cut lines start c.requires (some_bytes (length lines) (sym c.is_empty.ensures ∙ c.if-is_empty.false)) e.within e.lines e.half in
    let rest : take (length lines - start) (drop start lines) ≡ drop start lines = take_all (length lines - start) (drop start lines) (omega (arith, length-drop start lines)) in
    let no : ¬ IsTornBinding c.args.locks.now (drop start lines) = subst (λ (u : List ℕ). ¬ IsTornBinding c.args.locks.now u) rest (c.is_torn_binding.ensures.no c.if-is_torn_binding.false) in
    inl (take_all (length lines) lines (omega arith), inr (take start lines, drop start lines, cut.parts, cut.before, cut.last, no))
