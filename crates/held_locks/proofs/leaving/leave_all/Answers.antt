use Rattle.std.proofs.Common.{◌≡◌, ◌≢◌, ℕ, List, [], length, sym, subst, ◌∙◌, append-nil, arith, vec_len}
use Rattle.std.proofs.lemmas.Bool.{eqb-true, eqb-false}
use Rattle.std.proofs.lemmas.List.{length-map}
use Rattle.held_locks.specs.Parts.{view_of, views_of}
use Rattle.held_locks.specs.Holding.{AreLocksOf}
use Rattle.held_locks.proofs.AllLeft.{none_left, all_left}
use Rattle.held_locks.proofs.leaving.leave_all.Goals as goal

pub returns-then-is_empty-clause-left : goal.returns-then-is_empty-clause-left
returns-then-is_empty-clause-left c =
    let size : length (views_of c.args.locks.now.items) ≡ length c.args.locks.now.items = length-map c.args.locks.now.items view_of in
    let empty : vec_len c.args.locks.now ≡ 0 = eqb-true (vec_len c.args.locks.now) 0 (sym c.is_empty.ensures ∙ c.if-is_empty.true) in
    let there = c.args.locks.now.ok.0 in
    let none : 0 ≡ length (views_of c.args.locks.now.items) = omega (arith, size, empty, there) in
    ([], sym (append-nil c.args.left.now.items), all_left (views_of c.args.locks.now.items) (views_of c.args.locks.now.items) c.args.client 0 [] none (none_left (views_of c.args.locks.now.items) c.args.client))

pub list-requires : goal.list-requires
list-requires c =
    let size : length (views_of c.args.locks.now.items) ≡ length c.args.locks.now.items = length-map c.args.locks.now.items view_of in
    let many = c.requires.holders.many in
    let room = c.requires.order in
    let some : vec_len c.args.locks.now ≢ 0 = eqb-false (vec_len c.args.locks.now) 0 (sym c.is_empty.ensures ∙ c.if-is_empty.false) in
    let there = c.args.locks.now.ok.0 in
    omega (arith, size, many, room, some, there)

pub leave_each-requires-clause-listed : goal.leave_each-requires-clause-listed
leave_each-requires-clause-listed c =
    subst (λ (x : List ℕ). AreLocksOf c.args.client (views_of c.args.locks.now.items) x) (sym c.as_slice.ensures.value)
    (c.list.ensures.listed (views_of c.args.locks.now.items) c.requires.kept c.requires.holders)
