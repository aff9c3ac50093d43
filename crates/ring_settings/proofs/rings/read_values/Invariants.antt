use Rattle.std.proofs.Common.{◌≡◌, drop, take, ◌^◌, nat_lt}
use Rattle.std.specs.List.{list_all}
use Rattle.ring_settings.proofs.rings.read_values.Given as goal

abbrev pub invariant-loop-number : goal.invariant-loop-number
invariant-loop-number l =
    (l.values.items ≡ take l.number-index l.numbers)
    × (list_all (λ n. nat_lt n (2 ^ 32)) l.numbers ≡ list_all (λ n. nat_lt n (2 ^ 32)) (drop l.number-index l.numbers))
