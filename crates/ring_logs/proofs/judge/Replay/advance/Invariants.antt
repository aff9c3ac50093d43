use Rattle.std.proofs.Common.{◌≡◌}
use Rattle.ring_logs.proofs.judge.Replay.advance.Given as goal

abbrev pub invariant-loop : goal.invariant-loop
invariant-loop g l = (l.self.place ≡ l.counter) × (l.self.book.now ≡ l.initial.self.book.now)
