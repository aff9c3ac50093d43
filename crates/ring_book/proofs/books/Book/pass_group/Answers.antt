use Rattle.std.proofs.Common.{rules, ◌≡◌, ◌≤◌, ◌+◌, Err, length, ap, arith, sym, refl, ◌∙◌}
use Rattle.ring_model.specs.Groups.{Rises, IsWhole}
use Rattle.ring_model.specs.GroupLaws.{CanMove}
use Rattle.ring_state.specs.Sizes.{Size}
use Rattle.ring_book.proofs.Growth.{kept_closed}
use Rattle.ring_book.proofs.GroupGrowth.{rising_few, can_move, moved_whole}
use Rattle.ring_book.proofs.Repairing.{book_settlement}
use Rattle.ring_book.proofs.books.Book.pass_group.Goals as goal

pub returns-then-machines-n-clause-settlement : goal.returns-then-machines-n-clause-settlement
returns-then-machines-n-clause-settlement g c = rw (← c.self.view_is) (book_settlement _ _ _ c.self.invariant.book)

pub returns-in-Some-clause-settlement : goal.returns-in-Some-clause-settlement
returns-in-Some-clause-settlement g c = rw (← c.self.view_is) (book_settlement _ _ _ c.self.invariant.book)

pub returns-in-Err-HistoryFull-clause-settlement : goal.returns-in-Err-HistoryFull-clause-settlement
returns-in-Err-HistoryFull-clause-settlement g c = rw c.reserve.ensures.list (book_settlement _ _ _ c.self.invariant.book)

pub returns-in-Err-OutOfMemory-clause-settlement : goal.returns-in-Err-OutOfMemory-clause-settlement
returns-in-Err-OutOfMemory-clause-settlement g c = rw c.reserve.ensures.list (book_settlement _ _ _ c.self.invariant.book)

pub overflow_cast-count : goal.overflow_cast-count
overflow_cast-count g c =
    let rising : Rises 0 (length c.self.inside.parts.ring.values) c.args.machines.now = search rules in
    let few : 0 + length c.args.machines.now ≤ length c.self.inside.parts.ring.values = rising_few 0 (length c.self.inside.parts.ring.values) c.args.machines.now rising (omega arith) in
    let most = c.self.invariant.book.now_ring.most_machines in
    omega arith

pub grant_group-requires-clause-group : goal.grant_group-requires-clause-group
grant_group-requires-clause-group g c =
    let n : c.n.result ≡ length c.self.inside.parts.ring.values = c.n.ensures.is ∙ ap (λ (s : Size). s.n) c.params.ensures.is in
    let rising : Rises 0 (length c.self.inside.parts.ring.values) c.args.machines.now = search rules in
    can_move c.self.inside.parts.ring.values c.args.machines.now rising c.requires.some (λ e. c.if-machines-n.false (e ∙ sym n)) (c.in_default.ensures.none (search rules))

pub returns-in-Err-HistoryFull-clause-full : goal.returns-in-Err-HistoryFull-clause-full
returns-in-Err-HistoryFull-clause-full g c =
    let n : c.n.result ≡ length c.self.inside.parts.ring.values = c.n.ensures.is ∙ ap (λ (s : Size). s.n) c.params.ensures.is in
    let rising : Rises 0 (length c.self.inside.parts.ring.values) c.args.machines.now = search rules in
    let can : CanMove c.self.inside.parts.ring.values c.args.machines.now =
    can_move c.self.inside.parts.ring.values c.args.machines.now rising c.requires.some (λ e. c.if-machines-n.false (e ∙ sym n)) (c.in_default.ensures.none (search rules)) in
    let past = c.in-Err-HistoryFull.ensures.full.0 (ap Err c.in-Err-HistoryFull.field-0-is) in
    rw (← c.self.view_is) ((λ _. (can, past)), λ _. refl)

pub invariant_of-self-2 : goal.invariant_of-self-2
invariant_of-self-2 g c =
    let whole : IsWhole (length c.self.inside.parts.start.values) c.reserve.new.self.list = rw c.reserve.ensures.list c.self.invariant.book.whole in
    kept_closed _ _ _ _ c.grant_group.ensures.kept
    (moved_whole g.R.Resource.works _ _ c.args.seat c.args.order c.args.machines.now (ap (λ (s : Size). s.n) c.self.invariant.book.same_size) whole c.grant_group.ensures.moved)

pub returns-clause-book : goal.returns-clause-book
returns-clause-book g c = (invariant_of-self-2 g c).book

pub returns-clause-settlement : goal.returns-clause-settlement
returns-clause-settlement g c = book_settlement _ _ _ (returns-clause-book g c)
