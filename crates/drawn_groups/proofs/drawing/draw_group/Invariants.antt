use Rattle.std.proofs.Common.{◌≡◌, ◌-◌, length}
use Rattle.drawn_groups.specs.Drawn.{group_within, set_limit}
use Rattle.drawn_groups.proofs.drawing.draw_group.Given as goal

abbrev pub invariant-loop : goal.invariant-loop
invariant-loop l = record {
  left : group_within (set_limit - l.counter) l.ring.values l.words ≡ group_within set_limit l.ring.values l.initial.words;
  same : length l.machines ≡ length l.initial.machines;
}
