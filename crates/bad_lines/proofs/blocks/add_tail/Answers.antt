use Rattle.std.proofs.Common.{◌≡◌, ◌+◌, ◌++◌, ◌∙◌, [], List, length, sym, ap, arith}
use Rattle.std.specs.Prelude.{not}
use Rattle.bad_lines.specs.declared.wrongs.BadLine.{BadLine}
use Rattle.bad_lines.proofs.BlockLines.{tail_lost, tail_told}
use Rattle.bad_lines.proofs.EventLines.{known_at}
use Rattle.bad_lines.proofs.blocks.add_tail.Goals as goal

pub returns-then-not-branch : goal.returns-then-not-branch
returns-then-not-branch c = λ version rings.
    let told = rw c.deref.ensures.value at (c.in_ok-add_events.ensures.told version rings) in
    let lost = rw c.deref.ensures.value at (c.in_ok-add_events.ensures.lost version rings) in
    told ∙ ap (λ (u : List BadLine). c.args.out.now.items ++ u)
    (sym (tail_lost (known_at c.args.start.now version rings c.args.line []) c.args.ring.now.events.items c.args.ring.now.events_said c.args.ring.now.surveys.items (lost ∙ ap not c.if-not-branch.true)))

pub returns : goal.returns
returns c = λ version rings.
    let told = rw c.deref.ensures.value at (c.in_ok-add_events.ensures.told version rings) in
    let callable = rw c.deref.ensures.value at (c.in_ok-add_events.ensures.callable c.if-not-branch.false) in
    let fault = rw c.deref-2.ensures.value at c.end_fault.ensures in
    let surveys = rw (c.deref-3.ensures.value, c.deref-4.ensures.value) at (c.in_ok-add_surveys.ensures version rings) in
    let l : c.len.result ≡ length c.args.ring.now.events.items = omega (arith, c.len.ensures, c.args.ring.now.events.ok.0) in
    tail_told c.args.start.now version rings c.args.line c.args.ring.now.events.items c.args.ring.now.events_said c.args.ring.now.surveys.items callable
    c.args.out.now.items c.add_events.new.out.items c.tell.new.out.items c.add_surveys.new.out.items (c.args.line + c.len.result) (omega (arith, l)) told (rw fault at c.in_ok-tell.ensures) surveys
