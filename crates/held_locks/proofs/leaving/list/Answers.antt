use Rattle.std.proofs.Common.{ℕ, List, sym, subst, arith}
use Rattle.std.specs.List.Sorted.{IsPermutation}
use Rattle.held_locks.specs.Holding.{with_awaited}
use Rattle.held_locks.proofs.Listing.{in_order}
use Rattle.held_locks.proofs.leaving.list.Goals as goal

pub add_awaited-requires : goal.add_awaited-requires
add_awaited-requires c =
    let few = c.find.ensures.found.few in
    let len = c.find.new.found.ok.0 in
    let found = c.find.ensures.capacity in
    let clear = c.clear.ensures.capacity in
    let room = c.requires in
    omega (arith, few, len, found, clear, room)

pub returns-clause-listed : goal.returns-clause-listed
returns-clause-listed c = λ vs kept holders.
    let moved : IsPermutation (with_awaited c.find.new.found.items c.get.result) c.sort_unstable.new.self.items = subst (λ (x : List ℕ). IsPermutation x c.sort_unstable.new.self.items) c.add_awaited.ensures.items c.sort_unstable.ensures.permutation in
    in_order vs c.args.waits.now c.args.holds.now c.args.client kept holders c.find.new.found.items c.find.ensures.found c.get.result c.sort_unstable.new.self.items (sym c.get.ensures) moved c.sort_unstable.ensures.sorted
