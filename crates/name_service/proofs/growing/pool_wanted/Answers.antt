use Rattle.std.proofs.Common.{rules}
use Rattle.name_service.proofs.growing.pool_wanted.Goals as goal

pub returns : goal.returns
returns c = record {
  used = c.used.result;
  until = c.used.ensures;
  wanted = c.wanted_pool.result;
  wanted_is = c.wanted_pool.ensures;
  is = search rules;
}
