-- The result of a call of a ring, as a turn.
use Rattle.std.proofs.Common.{◌≡◌, ℕ, List, ◌++◌, length, drop, sym, ap, ◌∙◌}
use Rattle.ring_model.specs.History.{State}
use Rattle.ring_model.specs.Groups.{move_order}
use Rattle.ring_model.specs.GroupLaws.{block_of}
use Rattle.ring_model.specs.Resources.{till}
use Rattle.ring_model.specs.declared.events.Event.{Event}
use Rattle.ring_book.specs.declared.books.groups.GroupReceipt.{GroupReceipt}
use Rattle.ring_logs.specs.Seats.{receipts_from}
use Rattle.ring_logs.proofs.Groups.{group_events}
use Rattle.one_thread_ring.specs.Rings.{told_more}
use Rattle.endless_ring.specs.Endless.{EndlessView, IsEndless, IsGrouped}
use Rattle.ring_service.specs.Standings.{standing_of, state_of, block_now, with_events}
use Rattle.ring_service.proofs.Groups.{members_block}

-- the state of a ring is that at the end of its history
pub state_is : (e : EndlessView) → IsEndless e → state_of (standing_of e) ≡ e.ring.book.now
state_is e k = k.ring.book.current

-- the events that a call or a group adds to the history
pub grown_is : (e e' : EndlessView) (seat : ℕ) (es : List Event) → e'.base ≡ e.base → e'.ring.book.start ≡ e.ring.book.start → e'.ring.book.history ≡ e.ring.book.history ++ es →
    e'.ring.clients ≡ told_more e.ring.clients seat (receipts_from (length e.ring.book.history) es) → standing_of e' ≡ with_events (standing_of e) seat es
grown_is e e' seat es base start history clients = λ i. record { base = base i; start = start i; history = history i; clients = clients i }

module _ (e e' : EndlessView) (seat order : ℕ) (machines : List ℕ) (r : GroupReceipt) (ring : IsEndless e) (made : IsGrouped e e' seat order machines r) where
  pub group_block : made.recorded.moved.events ≡ block_now (standing_of e) seat order machines
  group_block = members_block till e.ring.book.now seat order (move_order machines) made.recorded.moved.events made.recorded.moved.block.members made.recorded.moved.legal
      ∙ ap (λ (a : State ℕ). block_of till a seat order (move_order machines)) (sym (state_is e ring))

  pub group_leaves : standing_of e' ≡ with_events (standing_of e) seat (block_now (standing_of e) seat order machines)
  group_leaves =
      let first : ℕ = made.local.first in
      let cut : drop first e'.ring.book.history ≡ block_now (standing_of e) seat order machines = group_events till e.ring.book e'.ring.book seat order machines made.local made.recorded ∙ group_block in
      grown_is e e' seat (block_now (standing_of e) seat order machines) made.base made.recorded.moved.same_start
      (made.recorded.moved.grown ∙ ap (λ (es : List Event). e.ring.book.history ++ es) group_block)
      (made.logged ∙ (ap (λ (es : List Event). told_more e.ring.clients seat (receipts_from first es)) cut
      ∙ ap (λ (n : ℕ). told_more e.ring.clients seat (receipts_from n (block_now (standing_of e) seat order machines))) made.recorded.first))
