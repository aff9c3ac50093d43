use Rattle.std.proofs.Common.{◌-◌, ◌≤◌, Option, length, sym, ◌∙◌, ap, arith}
use Rattle.std.specs.Prelude.{is_some}
use Rattle.name_bindings.specs.Bindings.{Bound}
use Rattle.name_bindings.proofs.Found.{there_is}
use Rattle.lock_names.proofs.Sized.{all_used, used_here, used_none}
use Rattle.lock_names.proofs.Taking.{some_mapped}
use Rattle.lock_names.proofs.sizes.used_among.Goals as goal

pub loop-end-init : goal.loop-end-init
loop-end-init c =
    let n = c.count-end.ensures in
    let f : c.args.fixed ≤ length c.args.table.now = c.requires.fixed in
    record { least = omega arith; most = omega arith; above = all_used c.args.table.now _ (omega arith) }

pub returns-then-is_some : goal.returns-then-is_some
returns-then-is_some c =
    let inv = c.loop-end.invariant in
    let t = c.loop-end-test.true in
    let most : c.loop-end.end ≤ length c.args.table.now = inv.most in
    let w = there_is c.args.table.now (c.loop-end.end - 1) (omega arith) in
    used_here c.args.table.now _ c.loop-end.end w.0 (omega arith) inv.above w.1
    (ap (λ (o : Option Bound). is_some o) (sym (c.binding.ensures.there w.0 w.1)) ∙ some_mapped _ c.binding.result ∙ sym c.is_some.ensures ∙ c.if-is_some.true)

pub returns : goal.returns
returns c =
    let inv = c.loop-end.invariant in
    let t = c.loop-end-test.false in
    used_none c.args.table.now _ c.args.fixed c.loop-end.end (omega arith) (omega arith) inv.above c.requires.fixed c.requires.named
