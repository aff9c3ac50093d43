use Rattle.std.proofs.Common.{◌≡◌, ◌+◌, ◌∙◌, ℕ, suc, ap, arith}
use Rattle.std.specs.Prelude.{max}
use Rattle.ring_model.specs.Ring.{Ring, rest}
use Rattle.saved_history.specs.Content.{block_of}
use Rattle.history_picture.specs.Picture.{ring_shown, rest_in, highest_rest}
use Rattle.history_steps.proofs.Places.{named}
use Rattle.history_picture.proofs.curves.highest_rest.Goals as goal

pub rest-requires : goal.rest-requires
rest-requires c = c.loop-column.invariant.ring.gauge

pub loop-column-preserved : goal.loop-column-preserved
loop-column-preserved c =
    let b = block_of c.args.ring.now in
    let here : c.rest.result ≡ rest_in b c.args.from c.loop-column.column =
    c.rest.ensures ∙ ap (λ (r : Ring). rest r) c.loop-column.invariant.ring.same in
    let further : c.args.from + c.loop-column.column + 1 ≡ c.args.from + (c.loop-column.column + 1) = omega arith in
    let one : suc c.loop-column.column ≡ c.loop-column.column + 1 = omega arith in
    record {
      ring = named c.args.ring.now _ _ c.go_on.new.gauge (ap (ring_shown b) further) c.go_on.ensures;
      highest = c.max-highest.ensures ∙ ap (λ (h : ℕ). max h c.rest.result) c.loop-column.invariant.highest ∙ ap (max (highest_rest b c.args.from c.loop-column.column)) here ∙ ap (highest_rest b c.args.from) one;
    }

pub returns-clause-ring : goal.returns-clause-ring
returns-clause-ring c =
    let end : c.args.from + c.loop-column.column ≡ c.args.from + c.args.columns = omega (arith, c.loop-column-test.false, c.loop-column.auto.column-end) in
    named c.args.ring.now _ _ c.loop-column.gauge (ap (ring_shown (block_of c.args.ring.now)) end) c.loop-column.invariant.ring
