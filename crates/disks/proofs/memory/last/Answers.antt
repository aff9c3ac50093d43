use Rattle.std.proofs.Common.{◌≡◌, ◌∙◌, ap, sym, arith, string_bytes, List, ℕ}
use Rattle.std.specs.Str.{bytes_eq}
use Rattle.disks.specs.Entries.{thing_in}
use Rattle.disks.proofs.Finding.{kept, ended, pick, pass}
use Rattle.disks.proofs.memory.last.Goals.{then-eq, else-eq}
use Rattle.disks.proofs.memory.last.Goals as goal

pub loop-entry-preserved : goal.loop-entry-preserved
loop-entry-preserved c =
    let e = c.entry-item.result in
    let test : c.eq.result ≡ bytes_eq (string_bytes e.name) c.args.name.now = c.eq.ensures ∙ ap (λ (t : List ℕ). bytes_eq t c.args.name.now) c.as_str.ensures.value in
    kept _ _ c.args.entries.now c.loop-entry.entry-index e c.args.name.now _ (omega (arith, c.loop-entry-test.true)) c.entry-item.is
    (elim c.if-eq.branch [
      | then-eq w ↦ ap thing_in w.last-is ∙ sym (pick _ _ _ (sym test ∙ w.if-eq.true))
      | else-eq w ↦ ap thing_in w.last-is ∙ sym (pass _ _ _ (sym test ∙ w.if-eq.false))
    ])
    c.loop-entry.invariant

pub returns : goal.returns
returns c = sym (ended _ c.args.entries.now c.loop-entry.entry-index c.args.name.now _ (omega (arith, c.loop-entry-test.false)) c.loop-entry.invariant)
