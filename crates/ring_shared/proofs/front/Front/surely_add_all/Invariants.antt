use Rattle.std.proofs.Common.{◌≡◌, ◌<◌, ◌++◌, take}
use mathlib.Core.List.{IsPrefix}
use Rattle.ring_shared.proofs.front.Front.surely_add_all.Given as goal

abbrev pub invariant-loop-event : goal.invariant-loop-event
invariant-loop-event g l = (l.end ≡ l.fn.self ++ take l.event-index l.events) × (0 < l.event-index → IsPrefix l.other l.end)
