use Rattle.std.proofs.Common.{◌<◌, List, slice_set, ap, ◌∙◌, arith}
use Rattle.std.proofs.lemmas.Option.{get_or_from_slice_get}
use Rattle.name_remarks.specs.Remarks.{Binding}
use Rattle.name_history.specs.Kept.{with_binding}
use Rattle.name_history.proofs.KeptRings.{kept_past, kept_one_more}
use Rattle.name_history.proofs.ring_names.add_binding.Goals as goal

pub returns-then-ring-len : goal.returns-then-ring-len
returns-then-ring-len c = λ rings said k.
    let many = k.many in
    let ok = c.args.each.now.ok in
    kept_past rings said c.args.each.now.items c.args.binding (omega (arith, many, ok, c.len.ensures, c.if-ring-len.true)) k

pub returns-in-Ok : goal.returns-in-Ok
returns-in-Ok c = λ rings said k.
    let many = k.many in
    let ok = c.args.each.now.ok in
    let within : c.args.binding.0 < rings = omega (arith, many, ok, c.len.ensures, c.if-ring-len.false) in
    let same = c.index_mut.ensures.value ∙ get_or_from_slice_get c.args.each.now.items c.args.binding.0 _ c.index_mut.result.now (k.each_ring c.args.binding.0 within) in
    kept_one_more rings said c.args.each.now.items _ c.args.binding within k
    (ap (λ (bs : List Binding). slice_set c.args.each.now.items c.args.binding.0 bs) (c.in-Ok.ensures ∙ ap (λ (bs : List Binding). with_binding bs c.args.binding.1) same))
