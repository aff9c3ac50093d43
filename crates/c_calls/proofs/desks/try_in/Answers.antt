use Rattle.std.proofs.Common.{◌≡◌, [], refl}
use Rattle.held_locks.specs.Locks.{Try}
use Rattle.c_calls.proofs.Counted.{answer_long, none_left, some_left, room_after}
use Rattle.c_calls.proofs.desks.try_in.Goals as goal

pub returns-then-not-is_empty : goal.returns-then-not-is_empty
returns-then-not-is_empty c = record {
  asked = (some_left _ c.args.grants.now.items c.is_empty.result c.args.grants.now.ok.0 c.is_empty.ensures c.if-not-is_empty.true, refl);
  capacity = refl;
  many = refl;
}

pub put-requires : goal.put-requires
put-requires c =
    room_after _ _ _ c.args.grants.now.items c.args.grants.now.ok.0
    (none_left _ c.args.grants.now.items c.is_empty.result c.args.grants.now.ok.0 c.is_empty.ensures c.if-not-is_empty.false) c.requires

pub returns : goal.returns
returns c =
    let none : c.args.grants.now.items ≡ [] = none_left _ c.args.grants.now.items c.is_empty.result c.args.grants.now.ok.0 c.is_empty.ensures c.if-not-is_empty.false in
    record {
      asked = (none, c.try_acquire-answers.ensures, rw none at c.put.ensures.put);
      capacity = c.put.ensures.capacity;
      many = answer_long c.args.locks.now c.try_acquire-answers.new.self c.args.client c.args.lock (Try c.args.label) c.try_acquire-answers.result c.try_acquire-answers.ensures;
    }
