use Rattle.std.proofs.Common.{◌≡◌, [], inl, inr, refl}
use Rattle.c_calls.proofs.Counted.{next_long, none_left, some_left}
use Rattle.c_calls.proofs.desks.cut_in.Goals as goal

pub returns-then-not-is_empty : goal.returns-then-not-is_empty
returns-then-not-is_empty c = record {
  is = record { is = inr (inl (refl, some_left _ c.args.grants.now.items c.is_empty.result c.args.grants.now.ok.0 c.is_empty.ensures c.if-not-is_empty.true, refl)) };
  many = refl;
}

pub returns-in-Ok : goal.returns-in-Ok
returns-in-Ok c =
    let none : c.args.grants.now.items ≡ [] = none_left _ c.args.grants.now.items c.is_empty.result c.args.grants.now.ok.0 c.is_empty.ensures c.if-not-is_empty.false in
    record { is = record { is = inl (refl, none, none, c.in-Ok.ensures.ok) }; many = next_long c.args.locks.now c.in-Ok.next c.in-Ok.ensures.ok }

pub returns-in-Err : goal.returns-in-Err
returns-in-Err c = record {
  is = record { is = inr (inr (c.in-Err.why, c.lock_code.ensures, c.in-Err.ensures.why, refl)) };
  many = refl;
}
