use Rattle.std.proofs.Common.{◌≡◌, drop, map, vec_len}
use Rattle.saved_history.specs.Content.{block_of}
use Rattle.journal.specs.ContentAfter.{with_calls}
use Rattle.journal.proofs.histories.add_all.Given as goal

abbrev pub invariant-loop-recorded : goal.invariant-loop-recorded
invariant-loop-recorded l =
    (vec_len l.rings ≡ vec_len l.initial.rings)
    × (with_calls (map block_of l.rings.items) (drop l.recorded-index l.calls) ≡ with_calls (map block_of l.initial.rings.items) l.calls)
