use Rattle.std.proofs.Common.{◌≡◌, ◌+◌, ◌≤◌, ◌++◌, length, drop, vec_len, vec_capacity}
use Rattle.c_calls.specs.Desks.{grants_in}
use Rattle.c_calls.proofs.desks.put_all.Given as goal

abbrev pub invariant-loop-one : goal.invariant-loop-one
invariant-loop-one l = record {
  put : l.fn.grants.items ++ grants_in l.left ≡ l.grants.items ++ grants_in (drop l.one-index l.left);
  room : vec_len l.grants + length l.left ≤ vec_capacity l.grants + l.one-index;
  capacity : vec_capacity l.grants ≡ vec_capacity l.fn.grants;
}
