use Rattle.std.proofs.Common.{rules, ◌≤◌, ◌+◌, length, arith}
use Rattle.ring_model.specs.Limits.{event_limit}
use Rattle.ring_book.proofs.Growth.{IsOpenKept-corruption, calls_fit}
use Rattle.ring_book.proofs.open_books.OpenBook.corrupt.Goals as goal

pub add_call-requires-clause-fits : goal.add_call-requires-clause-fits
add_call-requires-clause-fits g c =
    let fit = calls_fit _ _ _ _ c.args.seat c.requires.kept c.requires.seat in
    rw c.add_corruption.ensures (omega arith)

pub returns-clause-kept : goal.returns-clause-kept
returns-clause-kept g c =
    let bounded = c.requires.kept.book.bounded in
    let room = c.push-position.ensures.room in
    let fits : length c.args.self.now.events.list + 1 + c.push-position.new.self.room ≤ event_limit = omega arith in
    rw (c.push-position.ensures.list, c.add_call.ensures, c.add_corruption.ensures)
    (IsOpenKept-corruption _ _ _ _ _ _ _ _ _ _ _ c.requires.kept fits (search rules) c.requires.seat c.is_settled.ensures)
