use Rattle.name_check.proofs.Starting.{free_end, unused_end, on_named_end}
use Rattle.name_check.proofs.begin.add_name.Goals as goal

pub bind-requires-clause-free : goal.bind-requires-clause-free
bind-requires-clause-free c = free_end c.args.table.now c.add_free.new.self c.count-ring.result c.count-ring.ensures c.in-Ok.ensures.ok

pub bind-requires-clause-unused : goal.bind-requires-clause-unused
bind-requires-clause-unused c = unused_end c.args.name.now c.args.table.now c.add_free.new.self c.in-Ok.ensures.ok c.requires

pub returns : goal.returns
returns c =
    on_named_end c.bind.result c.args.table.now c.add_free.new.self c.bind.new.self c.count-ring.result (record { name = c.args.name.now; before = 0; floor = 0 }) c.count-ring.ensures c.in-Ok.ensures.ok c.bind.ensures.ok
