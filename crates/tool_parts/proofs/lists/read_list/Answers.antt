use Rattle.std.proofs.Common.{◌≡◌, ◌<◌, ◌^◌, ℕ, List, [], rules, arith}
use Rattle.std.specs.Prelude.{All}
use Rattle.std.proofs.lemmas.Result.{err_from_is_err_and}
use Rattle.tool_parts.proofs.ListTexts.{fronts-none, one_more, all_more, listed, bad_piece, bad_last, told}
use Rattle.tool_parts.proofs.lists.read_list.Goals as goal

none_below : (xs : List ℕ) → xs ≡ [] → All (λ (n : ℕ). n < 2 ^ 32) xs
none_below xs e = rw e (λ i d h. absurd (omega arith))

pub loop-piece-init : goal.loop-piece-init
loop-piece-init c = (c.utf8.text, fronts-none _ _ c.new-numbers.ensures.items, none_below _ c.new-numbers.ensures.items)

pub returns-in_err-add_number-clause-err : goal.returns-in_err-add_number-clause-err
returns-in_err-add_number-clause-err c =
    let comma : 44 < 128 = omega arith in
    let cut = c.in-Some.ensures.byte comma (λ w o h. h) in
    let p = err_from_is_err_and c.from_residual.result c.from_residual.ensures.1 in
    rw (p.1, p.2)
    (told c.in-Some.piece.now c.args.text.now c.in_err-add_number.field-0.0
    (λ none. bad_piece c.args.text.now c.loop-piece.rest.now c.in-Some.piece.now c.loop-piece.numbers.items c.loop-piece.invariant.1 cut.0 cut.2 c.loop-piece.invariant.2 none)
    c.in_err-add_number.ensures.err)

pub loop-piece-preserved : goal.loop-piece-preserved
loop-piece-preserved c =
    let comma : 44 < 128 = omega arith in
    let cut = c.in-Some.ensures.byte comma (λ w o h. h) in
    let n = c.in_ok-add_number.ensures.ok in
    (search rules, one_more _ _ _ _ _ _ n.0 c.loop-piece.invariant.1 cut.0 cut.1 cut.2 n.2 n.3, all_more _ _ n.0 c.loop-piece.invariant.2 n.1 n.3)

pub returns-in_err-add_number-2-clause-err : goal.returns-in_err-add_number-2-clause-err
returns-in_err-add_number-2-clause-err c =
    let comma : 44 < 128 = omega arith in
    let end = c.in_default.ensures.byte comma (λ w o h. h) in
    let p = err_from_is_err_and c.from_residual-in_err-add_number-2.result c.from_residual-in_err-add_number-2.ensures.1 in
    rw (p.1, p.2)
    (told c.loop-piece.rest.now c.args.text.now c.in_err-add_number-2.field-0.0
    (λ none. bad_last c.args.text.now c.loop-piece.rest.now c.loop-piece.numbers.items c.loop-piece.invariant.1 end c.loop-piece.invariant.2 none)
    c.in_err-add_number-2.ensures.err)

pub returns-clause-ok : goal.returns-clause-ok
returns-clause-ok c =
    let n = c.in_ok-add_number-2.ensures.ok in
    listed _ _ _ _ n.0 c.loop-piece.invariant.1 c.loop-piece.invariant.2 n.1 n.2 n.3
