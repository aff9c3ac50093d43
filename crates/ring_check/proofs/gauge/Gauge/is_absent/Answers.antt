use Rattle.std.proofs.Common.{◌≡◌, get_or, length, sym}
use Rattle.std.proofs.lemmas.List.{get_or_read_under}
use Rattle.ring_check.proofs.Gauging.{absent_told}
use Rattle.ring_check.proofs.gauge.Gauge.is_absent.Goals as goal

pub returns : goal.returns
returns c =
    let g = c.requires.gauge in
    let long : c.args.self.now.k ≡ length c.args.self.now.holders.items = sym g.long in
    let read : c.index.result.now ≡ get_or c.args.self.now.holders.items c.args.value 0 =
    get_or_read_under c.args.self.now.holders.items c.args.value c.args.self.now.k c.index.result.now 0 c.index.ensures c.requires.below long in
    absent_told c.args.self.now.k c.args.self.now.values.items c.args.self.now.holders.items c.args.value c.index.result.now g.held c.requires.below read
