use Rattle.std.proofs.Common.{◌≡◌, ◌-◌}
use Rattle.ring_repairs.specs.Draws.{draw_within, draw, redraw_limit}
use Rattle.ring_repairs.proofs.draws.draw.Given as goal

abbrev pub invariant-loop : goal.invariant-loop
invariant-loop l = draw_within (redraw_limit - l.counter) l.below l.words ≡ draw l.below l.initial.words
