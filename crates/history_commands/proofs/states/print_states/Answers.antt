use Rattle.std.proofs.Common.{inl, inr, refl, sym, subst}
use Rattle.std.proofs.lemmas.Result.{err_from_is_err_and}
use Rattle.saved_history.specs.Content.{Content}
use Rattle.ring_check.specs.Meaning.{IsRightText}
use Rattle.history_states.specs.Rows.{table}
use Rattle.history_commands.specs.Stated.{AreChosen, IsChosenRefusal, form_of}
use Rattle.history_commands.proofs.states.print_states.Goals as goal

pub returns-in_err-saved-clause-err : goal.returns-in_err-saved-clause-err
returns-in_err-saved-clause-err g c =
    let p = err_from_is_err_and c.from_residual.result c.from_residual.ensures.1 in
    rw (p.1, p.2) (inl (c.in_err-saved.ensures.err, refl))

pub write_chosen-requires : goal.write_chosen-requires
write_chosen-requires g c = let legal = c.in_ok-saved.ensures.ok in subst IsRightText legal.1 legal.0.right

pub returns-in-Ok-clause-ok : goal.returns-in-Ok-clause-ok
returns-in-Ok-clause-ok g c =
    let legal = c.in_ok-saved.ensures.ok in
    let h = c.in-Ok.ensures.ok in
    (table (form_of c.args.words.now) h.0, (c.in_ok-saved._sums, legal.0, (h.0, subst (λ (x : Content). AreChosen c.args.words.now.ring x.rings h.0) (sym legal.1) h.1, refl)), h.2)

pub returns-clause-err : goal.returns-clause-err
returns-clause-err g c =
    let legal = c.in_ok-saved.ensures.ok in
    inr (c.in_ok-saved._sums, legal.0, subst (λ (x : Content). IsChosenRefusal c.args.words.now x.rings (g.W.Write.contents c.args.out.now) (g.W.Write.contents c.write_chosen.new.out) c.in-Err.fault) (sym legal.1) c.in-Err.ensures.err)
