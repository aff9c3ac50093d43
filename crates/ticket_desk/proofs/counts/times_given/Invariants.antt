use Rattle.std.proofs.Common.{◌≡◌, take}
use Rattle.ticket_desk.specs.Tickets.{times_given as times_given_of}
use Rattle.ticket_desk.proofs.counts.times_given.Given as goal

abbrev pub invariant-loop-log : goal.invariant-loop-log
invariant-loop-log l = l.times ≡ times_given_of l.ticket (take l.log-index l.logs)
