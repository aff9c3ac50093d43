use Rattle.std.proofs.Common.{◌<◌, ◌≤◌, length, sym, ◌∙◌, arith}
use Rattle.name_check.proofs.Scanning.{scan_here, scan_more, scan_past}
use Rattle.name_check.proofs.scans.first_held.Goals as goal

pub returns-then-is_some : goal.returns-then-is_some
returns-then-is_some c =
    let lt : c.loop-at.at < length c.args.rings.now = omega arith in
    let le : c.args.low ≤ c.loop-at.at = omega arith in
    scan_here c.args.low c.loop-at.at c.args.rings.now _ lt (sym c.is_some.ensures ∙ c.if-is_some.true) le c.loop-at.invariant

pub loop-at-preserved : goal.loop-at-preserved
loop-at-preserved c =
    let lt : c.loop-at.at < length c.args.rings.now = omega arith in
    scan_more c.args.low c.loop-at.at c.args.rings.now _ lt (sym c.is_some.ensures ∙ c.if-is_some.false) c.loop-at.invariant

pub returns : goal.returns
returns c =
    let past : length c.args.rings.now ≤ c.loop-at.at = omega arith in
    scan_past c.args.low c.loop-at.at c.args.rings.now past c.loop-at.invariant
