use Rattle.std.proofs.Common.{◌≡◌, ◌+◌, ◌^◌, ◌<◌, ℕ, List, ◌++◌, map, length, Some, refl, sym, ◌∙◌, ap, subst, arith}
use Rattle.std.specs.Prelude.{slice_get}
use Rattle.held_locks.specs.declared.answers.Left.{Left}
use Rattle.lock_names.specs.Kept.{NamedView, seen}
use Rattle.lock_names.specs.Leaves.{told_left, names_left, grants_in, IsTellableLeft}
use Rattle.lock_names.proofs.LeftRings.{reports_apart, reports_tellable, few_grants, IsDoneLeave, left_kept}
use Rattle.lock_names.proofs.LeftSaid.{left_by_name}
use Rattle.lock_names.proofs.leaving.leave_among.Goals as goal

pub settle_left-requires-clause-apart : goal.settle_left-requires-clause-apart
settle_left-requires-clause-apart c =
    let raw : List Left = c.leave.ensures.left.0 in
    let all : c.leave.new.left.items ≡ raw = c.leave.ensures.left.1 ∙ ap (λ (x : List Left). x ++ raw) c.clear.ensures.items in
    subst (λ (x : List Left). (i j : ℕ) (l m : Left) → slice_get x i ≡ Some l → slice_get x j ≡ Some m → l.lock ≡ m.lock → i ≡ j) (sym (all ∙ c.leave.ensures.left.2.told))
    (reports_apart c.args.client c.args.rings.now.locks (length c.args.rings.now.locks))

pub settle_left-requires-clause-tellable : goal.settle_left-requires-clause-tellable
settle_left-requires-clause-tellable c =
    let raw : List Left = c.leave.ensures.left.0 in
    let all : c.leave.new.left.items ≡ raw = c.leave.ensures.left.1 ∙ ap (λ (x : List Left). x ++ raw) c.clear.ensures.items in
    subst (λ (x : List Left). (i : ℕ) (l : Left) → slice_get x i ≡ Some l → IsTellableLeft c.args.table.now l) (sym (all ∙ c.leave.ensures.left.2.told))
    (λ i l. reports_tellable (seen c.args.rings.now c.args.table.now) c.args.client i l c.requires.kept)

pub overflow_add-rings : goal.overflow_add-rings
overflow_add-rings c =
    let raw : List Left = c.leave.ensures.left.0 in
    let all : c.leave.new.left.items ≡ raw = c.leave.ensures.left.1 ∙ ap (λ (x : List Left). x ++ raw) c.clear.ensures.items in
    let v = seen c.args.rings.now c.args.table.now in
    let w : NamedView = record { locks = c.leave.new.self; names = c.args.table.now; fixed = c.args.rings.now.fixed; top = c.args.rings.now.top } in
    let few : c.args.rings.now.top + grants_in raw < 2 ^ 64 = few_grants v w c.args.client raw c.requires.kept c.leave.ensures.left.2 in
    let count : c.settle_left.result ≡ grants_in raw = c.settle_left.ensures.grants ∙ ap (λ (x : List Left). grants_in x) all in
    omega arith

pub returns-clause-left : goal.returns-clause-left
returns-clause-left c =
    let raw : List Left = c.leave.ensures.left.0 in
    let all : c.leave.new.left.items ≡ raw = c.leave.ensures.left.1 ∙ ap (λ (x : List Left). x ++ raw) c.clear.ensures.items in
    let v = seen c.args.rings.now c.args.table.now in
    let w : NamedView = record { locks = c.leave.new.self; names = c.settle_left.new.table; fixed = c.args.rings.now.fixed; top = c.args.rings.now.top + c.settle_left.result } in
    let d : IsDoneLeave v w c.args.client raw = record {
      left = c.leave.ensures.left.2;
      names = c.settle_left.ensures.names ∙ ap (λ (x : List Left). names_left c.args.rings.now.fixed c.args.table.now x) all;
      fixed = refl;
      top = ap (λ (n : ℕ). c.args.rings.now.top + n) (c.settle_left.ensures.grants ∙ ap (λ (x : List Left). grants_in x) all);
    } in
    left_by_name v w c.args.client raw c.settle_left.new.left.items c.requires.kept d (c.settle_left.ensures.told ∙ ap (λ (x : List Left). map (told_left c.args.table.now) x) all)

pub returns-clause-kept : goal.returns-clause-kept
returns-clause-kept c =
    let raw : List Left = c.leave.ensures.left.0 in
    let all : c.leave.new.left.items ≡ raw = c.leave.ensures.left.1 ∙ ap (λ (x : List Left). x ++ raw) c.clear.ensures.items in
    let v = seen c.args.rings.now c.args.table.now in
    let w : NamedView = record { locks = c.leave.new.self; names = c.settle_left.new.table; fixed = c.args.rings.now.fixed; top = c.args.rings.now.top + c.settle_left.result } in
    let d : IsDoneLeave v w c.args.client raw = record {
      left = c.leave.ensures.left.2;
      names = c.settle_left.ensures.names ∙ ap (λ (x : List Left). names_left c.args.rings.now.fixed c.args.table.now x) all;
      fixed = refl;
      top = ap (λ (n : ℕ). c.args.rings.now.top + n) (c.settle_left.ensures.grants ∙ ap (λ (x : List Left). grants_in x) all);
    } in
    left_kept v w c.args.client raw c.requires.kept d
