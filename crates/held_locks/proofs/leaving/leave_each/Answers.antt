use Rattle.std.proofs.Common.{◌≡◌, ◌<◌, ◌+◌, ℕ, List, ◌++◌, [], Some, length, refl, sym, append_assoc, append-nil, ◌∙◌, ap, arith, rules}
use Rattle.std.specs.Prelude.{slice_get, slice_index_or}
use Rattle.std.proofs.lemmas.List.{length-map}
use Rattle.std.proofs.lemmas.Option.{slice_get-get_or}
use Rattle.held_locks.specs.declared.answers.Left.{Left}
use Rattle.held_locks.specs.Kept.{left_by}
use Rattle.held_locks.specs.Parts.{view_of, views_of}
use Rattle.held_locks.proofs.Skipping.{none_leaving, next_within, one_left, end_left}
use Rattle.held_locks.specs.declared.parts.LockParts.{LockParts}
use Rattle.held_locks.proofs.leaving.leave_each.Goals as goal

-- as many locks as there were
as_many : (ps qs : List LockParts) → length qs ≡ length ps → length (views_of qs) ≡ length (views_of ps)
as_many ps qs e = length-map qs view_of ∙ e ∙ sym (length-map ps view_of)

at_place : (order : List ℕ) (k : ℕ) → k < length order → slice_get order k ≡ Some (slice_index_or order k 0)
at_place order k l = slice_get-get_or order k 0 l

pub loop-place-init : goal.loop-place-init
loop-place-init c =
    let len = c.args.left.now.ok.0 in record {
      kept = c.requires.kept;
      holders = c.requires.holders;
      left = (0, [], sym (append-nil c.args.left.now.items), none_leaving (views_of c.args.locks.now.items) c.args.client c.args.order.now c.requires.listed, omega arith);
      same = refl;
      capacity = refl;
    }

pub overflow_cast-lock : goal.overflow_cast-lock
overflow_cast-lock c =
    let i = c.loop-place.invariant in
    let ps = c.args.locks.now.items in
    let now = c.loop-place.locks.items in
    let n = slice_index_or c.args.order.now c.loop-place.place-index 0 in
    let at = at_place c.args.order.now c.loop-place.place-index c.loop-place-test.true in
    let within = next_within now c.loop-place.waits (views_of ps) c.args.client c.args.order.now c.loop-place.place-index i.left.0 i.left.1 i.kept (as_many ps now i.same) c.requires.listed i.left.3 n at in
    let few = c.requires.kept.few in
    let low : n < 4294967296 = omega (arith, within, few) in
    search rules

pub leave_and_follow-answers-requires-clause-lock : goal.leave_and_follow-answers-requires-clause-lock
leave_and_follow-answers-requires-clause-lock c =
    let i = c.loop-place.invariant in
    let ps = c.args.locks.now.items in
    let now = c.loop-place.locks.items in
    let n = slice_index_or c.args.order.now c.loop-place.place-index 0 in
    let at = at_place c.args.order.now c.loop-place.place-index c.loop-place-test.true in
    let within = next_within now c.loop-place.waits (views_of ps) c.args.client c.args.order.now c.loop-place.place-index i.left.0 i.left.1 i.kept (as_many ps now i.same) c.requires.listed i.left.3 n at in
    let size : length (views_of ps) ≡ length ps = length-map ps view_of in
    let same = i.same in
    omega (arith, within, size, same)

pub tell-requires : goal.tell-requires
tell-requires c =
    let i = c.loop-place.invariant in
    let ps = c.args.locks.now.items in
    let now = c.loop-place.locks.items in
    let n = slice_index_or c.args.order.now c.loop-place.place-index 0 in
    let at = at_place c.args.order.now c.loop-place.place-index c.loop-place-test.true in
    let within = next_within now c.loop-place.waits (views_of ps) c.args.client c.args.order.now c.loop-place.place-index i.left.0 i.left.1 i.kept (as_many ps now i.same) c.requires.listed i.left.3 n at in
    let low = i.left.3.more c.loop-place.place-index n (omega arith) at in
    let size : length (views_of ps) ≡ length ps = length-map ps view_of in
    let len = i.left.4 in
    let cap = i.capacity in
    let room = c.requires.room in
    omega (arith, within, low, size, len, cap, room)

pub loop-place-preserved : goal.loop-place-preserved
loop-place-preserved c =
    let i = c.loop-place.invariant in
    let ps = c.args.locks.now.items in
    let now = c.loop-place.locks.items in
    let n = slice_index_or c.args.order.now c.loop-place.place-index 0 in
    let r = c.leave_and_follow-answers.result in
    let said : List Left = i.left.1 in
    let more : List Left = left_by n r.ended r.granted in
    let at = at_place c.args.order.now c.loop-place.place-index c.loop-place-test.true in
    let low = i.left.3.more c.loop-place.place-index n (omega arith) at in
    let len = c.tell.ensures.len in
    let before = i.left.4 in
    let cap = c.tell.ensures.capacity in record {
      kept = c.leave_and_follow-answers.ensures.kept;
      holders = c.leave_and_follow-answers.ensures.holders;
      left = (
        n + 1,
        said ++ more,
        c.tell.ensures.told ∙ ap (λ (x : List Left). x ++ more) i.left.2 ∙ append_assoc c.args.left.now.items said more,
        one_left now c.loop-place.waits (views_of ps) c.args.client c.args.order.now c.loop-place.place-index i.left.0 said i.kept (as_many ps now i.same) c.requires.listed i.left.3 c.leave_and_follow-answers.new.locks.items n r at c.leave_and_follow-answers.ensures.done c.leave_and_follow-answers.ensures.own,
        omega (arith, len, before, low),
      );
      same = c.leave_and_follow-answers.ensures.many ∙ i.same;
      capacity = cap ∙ i.capacity;
    }

pub returns-clause-left : goal.returns-clause-left
returns-clause-left c =
    let i = c.loop-place.invariant in
    let ps = c.args.locks.now.items in
    let now = c.loop-place.locks.items in
    let past = c.loop-place-test.false in
    (i.left.1, i.left.2, end_left now c.loop-place.waits (views_of ps) c.args.client c.args.order.now c.loop-place.place-index i.left.0 i.left.1 i.kept (as_many ps now i.same) c.requires.listed i.left.3 past)
