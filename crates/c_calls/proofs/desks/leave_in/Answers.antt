use Rattle.std.proofs.Common.{◌≡◌, ◌∙◌, ◌++◌, List, [], length, ap, vec_len, arith}
use Rattle.held_locks.specs.declared.answers.Left.{Left}
use Rattle.c_calls.proofs.Counted.{left_few, left_long, none_left}
use Rattle.c_calls.proofs.desks.leave_in.Goals as goal

pub put_all-requires : goal.put_all-requires
put_all-requires c =
    let none : c.args.grants.now.items ≡ [] = none_left _ c.args.grants.now.items c.is_empty.result c.args.grants.now.ok.0 c.is_empty.ensures c.if-not-is_empty.false in
    let said : List Left = c.leave.ensures.left.0 in
    let few = left_few c.args.locks.now c.leave.new.self c.args.client said c.leave.ensures.left.2 in
    let items : c.as_slice.result.now ≡ said = c.as_slice.ensures.value ∙ (c.leave.ensures.left.1 ∙ ap (λ (xs : List Left). xs ++ said) c.clear.ensures.items) in
    let same : length c.as_slice.result.now ≡ length said = ap length items in
    let size : vec_len c.args.grants.now ≡ 0 = c.args.grants.now.ok.0 ∙ ap length none in
    let room = c.requires.grants in
    omega arith

pub returns-clause-many : goal.returns-clause-many
returns-clause-many c = left_long c.args.locks.now c.leave.new.self c.args.client c.leave.ensures.left.0 c.leave.ensures.left.2
