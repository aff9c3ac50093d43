use Rattle.std.proofs.Common.{List, ℕ, map, inl, inr, refl, sym, subst}
use Rattle.saved_history.specs.Content.{Content}
use Rattle.chain_readers.specs.ChainSteps.{AreBlocksHeld, AreBlocksRefused}
use Rattle.tool_parts.specs.Named.{IsNamed}
use Rattle.chain_readers.specs.declared.hold_errors.ChainHoldError.TheVariants.{NoHold}
use Rattle.lock_commands.proofs.holds.text_holds.Goals as goal

pub returns-in-Err-legal_saved-clause-err : goal.returns-in-Err-legal_saved-clause-err
returns-in-Err-legal_saved-clause-err g c =
    let named = subst (λ (t : List ℕ). IsNamed c.args.file.now (g.D.Disk.holds c.args.disk.now) (g.I.Read.remaining c.args.input.now) (g.I.Read.remaining c.read_named.new.input) t)
    (sym c.as_slice.ensures.value) c.in-Ok.ensures.ok in
    inr (c.as_slice.result.now, named, inl c.in-Err-legal_saved.ensures.err)

pub returns-in-Ok-holds_of_saved-clause-ok : goal.returns-in-Ok-holds_of_saved-clause-ok
returns-in-Ok-holds_of_saved-clause-ok g c =
    let x = c.in-Ok-legal_saved.ensures.ok in
    record {
      bytes = c.as_slice.result.now;
      sums = c.in-Ok-legal_saved.found.1;
      named = subst (λ (t : List ℕ). IsNamed c.args.file.now (g.D.Disk.holds c.args.disk.now) (g.I.Read.remaining c.args.input.now) (g.I.Read.remaining c.read_named.new.input) t)
          (sym c.as_slice.ensures.value) c.in-Ok.ensures.ok;
      legal = x.0;
      held = subst (λ (k : Content). AreBlocksHeld k.rings (map (λ v. v.items) c.in-Ok-holds_of_saved.found.items)) (sym x.1) c.in-Ok-holds_of_saved.ensures.ok;
    }

pub returns-in-Err-NoHold-clause-err : goal.returns-in-Err-NoHold-clause-err
returns-in-Err-NoHold-clause-err g c =
    let x = c.in-Ok-legal_saved.ensures.ok in
    let named = subst (λ (t : List ℕ). IsNamed c.args.file.now (g.D.Disk.holds c.args.disk.now) (g.I.Read.remaining c.args.input.now) (g.I.Read.remaining c.read_named.new.input) t)
    (sym c.as_slice.ensures.value) c.in-Ok.ensures.ok in
    inr (c.as_slice.result.now, named, inr (c.in-Ok-legal_saved.found.1, x.0, (refl, subst (λ (k : Content). AreBlocksRefused k.rings (NoHold c.in-Err-NoHold.lock c.in-Err-NoHold.at)) (sym x.1) (rw c.in-Err-NoHold.field-0-is at c.in-Err-NoHold.ensures.err))))
