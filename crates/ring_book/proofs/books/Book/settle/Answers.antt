use Rattle.std.proofs.Common.{◌≡◌, ℕ, ◌+◌, ◌<◌, ◌≤◌, false, List, [], ◌∷◌, ◌++◌, length, length-append, refl, sym, ◌∙◌, ap, arith}
use Rattle.std.proofs.lemmas.Bool.{both_ways}
use Rattle.ring_model.specs.Ring.{Ring, first_privileged, rest}
use Rattle.ring_model.specs.RepairLaws.{passes_left}
use Rattle.ring_model.specs.declared.events.Event.{Event}
use Rattle.ring_model.proofs.Settled.{rest_settled}
use Rattle.ring_model.proofs.FirstPasses.{left_settled, left_some, left_bounded}
use Rattle.ring_book.proofs.Repairing.{book_settlement, no_repairs, repair_turn, rest_left}
use Rattle.ring_book.proofs.books.Book.settle.Goals as goal

pub loop-self-init : goal.loop-self-init
loop-self-init g c = record {
  made = ([], no_repairs g.R.Resource.works c.args.self.now c.args.seat, refl);
  few = omega arith;
  count = omega arith;
  size = refl;
  fits = λ few. few;
  room = λ fits. fits;
}

pub returns-in_err-pass-clause-none : goal.returns-in_err-pass-clause-none
returns-in_err-pass-clause-none g c = λ settled.
    let none : rest c.args.self.now.now.ring ≡ 0 = rest_settled c.args.self.now.now.ring settled in
    let left : 1 ≤ rest c.loop-self.self.now.ring =
    rest_left g.R.Resource.works g.R.Resource.first c.loop-self.self c.is_settled.ensures.book (sym c.is_settled.ensures.is ∙ c.loop-self-test.true) in
    let few' = c.loop-self.invariant.few in
    absurd (omega arith)

pub returns-in_err-pass-clause-succeeds : goal.returns-in_err-pass-clause-succeeds
returns-in_err-pass-clause-succeeds g c = λ fits.
    let left : 1 ≤ rest c.loop-self.self.now.ring =
    rest_left g.R.Resource.works g.R.Resource.first c.loop-self.self c.is_settled.ensures.book (sym c.is_settled.ensures.is ∙ c.loop-self-test.true) in
    let room' : rest c.loop-self.self.now.ring ≤ c.loop-self.self.room = c.loop-self.invariant.room fits in
    absurd (both_ways false refl (c.in_err-pass.ensures.succeeds (omega arith)))

pub returns-in_err-pass-clause-fits : goal.returns-in_err-pass-clause-fits
returns-in_err-pass-clause-fits g c = λ few.
    let left : 1 ≤ passes_left c.loop-self.self.now.ring =
    left_some c.loop-self.self.now.ring c.is_settled.ensures.book.now_ring.ring (sym c.is_settled.ensures.is ∙ c.loop-self-test.true) in
    let fits' : passes_left c.loop-self.self.now.ring ≤ c.loop-self.self.room = c.loop-self.invariant.fits few in
    absurd (both_ways false refl (c.in_err-pass.ensures.succeeds (omega arith)))

pub loop-self-smaller : goal.loop-self-smaller
loop-self-smaller g c =
    (repair_turn g.R.Resource.works g.R.Resource.first c.args.self.now c.loop-self.self c.pass.new.self c.args.seat c.loop-self.invariant.made.0 c.in_ok-pass.field-0 c.first-machine.result
    c.is_settled.ensures.book c.loop-self.invariant.made.1 (sym c.is_settled.ensures.is ∙ c.loop-self-test.true)
    (c.first-machine.ensures.is ∙ ap (λ (r : Ring). first_privileged r.values) c.state.ensures.is) c.in_ok-pass.ensures.ok).falls

pub loop-self-preserved : goal.loop-self-preserved
loop-self-preserved g c =
    let passes : List Event = c.loop-self.invariant.made.0 in
    let t = repair_turn g.R.Resource.works g.R.Resource.first c.args.self.now c.loop-self.self c.pass.new.self c.args.seat passes c.in_ok-pass.field-0 c.first-machine.result
    c.is_settled.ensures.book c.loop-self.invariant.made.1 (sym c.is_settled.ensures.is ∙ c.loop-self-test.true)
    (c.first-machine.ensures.is ∙ ap (λ (r : Ring). first_privileged r.values) c.state.ensures.is) c.in_ok-pass.ensures.ok in
    let falls : rest c.pass.new.self.now.ring < rest c.loop-self.self.now.ring = t.falls in
    let count : length passes ≡ c.loop-self.passes = c.loop-self.invariant.made.2 in
    let few' = c.loop-self.invariant.few in
    let count' = c.loop-self.invariant.count in
    let less = t.count in
    let used : c.loop-self.self.room ≤ c.pass.new.self.room + 1 = c.in_ok-pass.ensures.room in
    record {
      made = (passes ++ c.in_ok-pass.field-0.event ∷ [], t.made, length-append passes (c.in_ok-pass.field-0.event ∷ []) ∙ ap (λ (n : ℕ). n + 1) count);
      few = omega arith;
      count = omega arith;
      size = t.size ∙ c.loop-self.invariant.size;
      fits = λ few.
          let fits' : passes_left c.loop-self.self.now.ring ≤ c.loop-self.self.room = c.loop-self.invariant.fits few in
          omega arith;
      room = λ fits.
          let room' : rest c.loop-self.self.now.ring ≤ c.loop-self.self.room = c.loop-self.invariant.room fits in
          omega arith;
    }

-- none is left at the end, and never more than n - 1
pub returns-clause-count : goal.returns-clause-count
returns-clause-count g c =
    let none : passes_left c.loop-self.self.now.ring ≡ 0 = left_settled c.loop-self.self.now.ring (sym c.is_settled.ensures.is ∙ c.loop-self-test.false) in
    let count' = c.loop-self.invariant.count in
    omega arith

pub returns-clause-soon : goal.returns-clause-soon
returns-clause-soon g c =
    let size' = c.loop-self.invariant.size in
    let count' = c.loop-self.invariant.count in
    let two = c.is_settled.ensures.book.now_ring.ring.two in
    let top = left_bounded c.args.self.now.now.ring (omega arith) in
    omega arith

pub returns-clause-settlement : goal.returns-clause-settlement
returns-clause-settlement g c = book_settlement _ _ _ c.is_settled.ensures.book
