use Rattle.std.proofs.Common.{◌∙◌, sym, inr}
use Rattle.c_calls.proofs.Lasts.{right_ring, gone_on}
use Rattle.c_calls.proofs.segments.go_on_in.Goals as goal

pub resume-requires : goal.resume-requires
resume-requires c = right_ring c.args.bytes.now c.args.last.now c.in-Some.saved.now c.requires.right (sym c.as_slice.ensures.value ∙ c.in-Some.ensures.some)

pub returns-in-Ok-clause-ok : goal.returns-in-Ok-clause-ok
returns-in-Ok-clause-ok c =
    gone_on c.args.bytes.now c.args.last.now c.in-Some.saved.now c.in-Some-only_base.base c.args.seats c.of-place.result c.in-Ok.ring c.at.result c.at.ensures c.of-place.ensures c.requires.right
    (sym c.as_slice.ensures.value ∙ c.in-Some.ensures.some) (sym c.as_slice-2.ensures.value ∙ c.in-Some-only_base.ensures.some) c.in-Ok.ensures.ok

pub returns-in-Err-clause-err : goal.returns-in-Err-clause-err
returns-in-Err-clause-err c = inr (c.in-Some.saved.now, sym c.as_slice.ensures.value ∙ c.in-Some.ensures.some, c.in-Err.ensures.err)
