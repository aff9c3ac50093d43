use Rattle.std.proofs.Common.{◌≡◌, ◌+◌, ◌-◌, arith, sym, ap, ◌∙◌}
use Rattle.ring_lanes.specs.Hits.{weight_from}
use Rattle.ring_lanes.proofs.Weights.{weigh_block, block_small, block_le, weight_from-le, weight_from_none, weigh_yes, weigh_no}
use Rattle.ring_lanes.proofs.kernels.weigh_hits.Goals as goal
use Rattle.ring_lanes.proofs.kernels.weigh_hits.Goals.{then-is_hit, else-is_hit}

pub loop-i-init : goal.loop-i-init
loop-i-init g c = record { low = omega arith; high = omega arith; weighed = sym (weight_from_none _ _ 1) }

pub overflow_sub-total-in-loop-i : goal.overflow_sub-total-in-loop-i
overflow_sub-total-in-loop-i g c =
    let p = g.P.Probe.hit c.args.p.now in
    let n = g.P.Probe.size c.args.p.now in
    rw c.len-n.ensures (block_le p n c.loop-i.i 32 c.hits-hits.result c.places.result c.hits-hits.ensures (c.places.ensures p n c.loop-i.i 32 (omega arith) (omega arith) c.hits-hits.ensures))

pub overflow_add-total : goal.overflow_add-total
overflow_add-total g c =
    let p = g.P.Probe.hit c.args.p.now in
    let n = g.P.Probe.size c.args.p.now in
    let before = weight_from-le p n 1 (c.loop-i.i - 1) c.requires.high in
    let block = block_small p n c.loop-i.i 32 c.hits-hits.result c.requires.high (omega arith) c.hits-hits.ensures in
    rw c.len-n.ensures (omega arith)

pub loop-i-preserved : goal.loop-i-preserved
loop-i-preserved g c =
    let p = g.P.Probe.hit c.args.p.now in
    let n = g.P.Probe.size c.args.p.now in
    let told = c.places.ensures p n c.loop-i.i 32 (omega arith) (omega arith) c.hits-hits.ensures in
    let block = weigh_block p n c.loop-i.i 32 c.hits-hits.result c.places.result c.loop-i.invariant.low c.hits-hits.ensures told in
    let le = block_le p n c.loop-i.i 32 c.hits-hits.result c.places.result c.hits-hits.ensures told in
    record { low = omega arith; high = omega arith; weighed = rw c.len-n.ensures (omega arith) }

pub overflow_add-total-then-is_hit : goal.overflow_add-total-then-is_hit
overflow_add-total-then-is_hit g c =
    let p = g.P.Probe.hit c.args.p.now in
    let n = g.P.Probe.size c.args.p.now in
    let before = weight_from-le p n 1 (c.loop-i-2.i - 1) c.requires.high in
    rw c.len-n.ensures (omega arith)

pub loop-i-2-preserved : goal.loop-i-2-preserved
loop-i-2-preserved g c =
    let p = g.P.Probe.hit c.args.p.now in
    let n = g.P.Probe.size c.args.p.now in
    let low = c.loop-i-2.invariant.low in
    let i = c.loop-i-2.i in
    let size = c.len-n.ensures in
    let told = c.is_hit.ensures in
    elim c.if-is_hit.branch [
      | then-is_hit w ↦ (let more = weigh_yes p n i low (sym told ∙ w.if-is_hit.true) in
          record { low = omega arith; high = omega arith; weighed = omega arith })
      | else-is_hit w ↦ (let more = weigh_no p n i low (sym told ∙ w.if-is_hit.false) in
          record { low = omega arith; high = omega arith; weighed = omega arith })
    ]

pub overflow_sub-result-then-n-gt32 : goal.overflow_sub-result-then-n-gt32
overflow_sub-result-then-n-gt32 g c =
    let p = g.P.Probe.hit c.args.p.now in
    let n = g.P.Probe.size c.args.p.now in
    let m = n - c.loop-i.i in
    rw c.len-n.ensures (block_le p n c.loop-i.i m c.last_hits-hits.result c.places-then-n-gt32.result c.last_hits-hits.ensures (c.places-then-n-gt32.ensures p n c.loop-i.i m (omega arith) (omega arith) c.last_hits-hits.ensures))

pub overflow_add-result : goal.overflow_add-result
overflow_add-result g c =
    let p = g.P.Probe.hit c.args.p.now in
    let n = g.P.Probe.size c.args.p.now in
    let before = weight_from-le p n 1 (c.loop-i.i - 1) c.requires.high in
    let block = block_small p n c.loop-i.i (n - c.loop-i.i) c.last_hits-hits.result c.requires.high (omega arith) c.last_hits-hits.ensures in
    rw c.len-n.ensures (omega arith)

pub returns-then-n-gt32 : goal.returns-then-n-gt32
returns-then-n-gt32 g c =
    let p = g.P.Probe.hit c.args.p.now in
    let n = g.P.Probe.size c.args.p.now in
    let i = c.loop-i.i in
    let told = c.places-then-n-gt32.ensures p n i (n - i) (omega arith) (omega arith) c.last_hits-hits.ensures in
    let block = weigh_block p n i (n - i) c.last_hits-hits.result c.places-then-n-gt32.result c.loop-i.invariant.low c.last_hits-hits.ensures told in
    let le = block_le p n i (n - i) c.last_hits-hits.result c.places-then-n-gt32.result c.last_hits-hits.ensures told in
    let f : i + (n - i) - 1 ≡ n - 1 = omega arith in
    let whole = ap (weight_from p n 1) f in
    rw c.len-n.ensures (omega arith)
