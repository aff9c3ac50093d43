use Rattle.std.proofs.Common.{◌≡◌, ◌+◌, ap, arith}
use Rattle.saved_history.specs.Content.{block_of}
use Rattle.history_picture.specs.Picture.{ring_shown}
use Rattle.history_steps.proofs.Places.{named}
use Rattle.history_picture.proofs.Walking.{rows_new}
use Rattle.history_picture.proofs.stretches.walk.Goals as goal

pub loop-column-init : goal.loop-column-init
loop-column-init c =
    let b = block_of c.args.ring.now in
    let here : c.args.from ≡ c.args.from + 0 = omega arith in
    record {
      ring = named c.args.ring.now _ _ c.args.gauge.now (ap (ring_shown b) here) c.requires.ring;
      len = c.in_ok-rows.ensures.len;
      rows = rows_new b c.args.from c.in_ok-rows.rows.items c.in_ok-rows.ensures.new;
    }
