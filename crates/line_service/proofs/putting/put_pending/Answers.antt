use Rattle.std.proofs.Common.{ℕ, List, refl, subst}
use Rattle.std.specs.Io.KnownBytes.{Appends}
use Rattle.text_lines.specs.Writing.{Wrote}
use Rattle.line_service.specs.Loop.{written_by}
use Rattle.line_service.proofs.Telling.{journal_stops, out_stops, all_told}
use Rattle.line_service.proofs.putting.put_pending.Goals as goal

pub returns-then-not-put_notes-clause-told : goal.returns-then-not-put_notes-clause-told
returns-then-not-put_notes-clause-told g c = λ old new before bytes line h.
    let p = c.put_notes.ensures.part in
    let journal = written_by g.J.Grow.contents c.args.journal.now in
    let end = written_by g.J.Grow.contents c.put_notes.new.journal in
    journal_stops journal end (g.W.Write.contents c.args.out.now) p.0 h (subst (λ (x : List ℕ). Wrote journal end x p.0) c.as_slice.ensures.value p.1)

pub returns-then-not-put_out-clause-told : goal.returns-then-not-put_out-clause-told
returns-then-not-put_out-clause-told g c = λ old new before bytes line h.
    let p = c.put_out.ensures.part in
    let journal = written_by g.J.Grow.contents c.args.journal.now in
    let noted = written_by g.J.Grow.contents c.put_notes.new.journal in
    let out = g.W.Write.contents c.args.out.now in
    let end = g.W.Write.contents c.put_out.new.out in
    out_stops journal noted out end p.0 h (subst (λ (x : List ℕ). Appends journal noted x) c.as_slice.ensures.value (c.if-not-put_notes.ensures.all refl))
    (subst (λ (x : List ℕ). Wrote out end x p.0) c.as_slice-2.ensures.value p.1)

pub returns-clause-told : goal.returns-clause-told
returns-clause-told g c = λ old new before bytes line h.
    let journal = written_by g.J.Grow.contents c.args.journal.now in
    let noted = written_by g.J.Grow.contents c.put_notes.new.journal in
    let out = g.W.Write.contents c.args.out.now in
    let end = g.W.Write.contents c.put_out.new.out in
    all_told journal noted out end h (subst (λ (x : List ℕ). Appends journal noted x) c.as_slice.ensures.value (c.if-not-put_notes.ensures.all refl))
    (subst (λ (x : List ℕ). Appends out end x) c.as_slice-2.ensures.value (c.if-not-put_out.ensures.all refl))

pub returns-then-not-put_notes-clause-lasts : goal.returns-then-not-put_notes-clause-lasts
returns-then-not-put_notes-clause-lasts g c = λ old new before bytes line h.
    let p = c.put_notes.ensures.lasts_part in
    let journal = written_by g.J.Grow.lasting c.args.journal.now in
    let end = written_by g.J.Grow.lasting c.put_notes.new.journal in
    journal_stops journal end (g.W.Write.contents c.args.out.now) p.0 h (subst (λ (x : List ℕ). Wrote journal end x p.0) c.as_slice.ensures.value p.1)

pub returns-then-not-put_out-clause-lasts : goal.returns-then-not-put_out-clause-lasts
returns-then-not-put_out-clause-lasts g c = λ old new before bytes line h.
    let p = c.put_out.ensures.part in
    let journal = written_by g.J.Grow.lasting c.args.journal.now in
    let noted = written_by g.J.Grow.lasting c.put_notes.new.journal in
    let out = g.W.Write.contents c.args.out.now in
    let end = g.W.Write.contents c.put_out.new.out in
    out_stops journal noted out end p.0 h (subst (λ (x : List ℕ). Appends journal noted x) c.as_slice.ensures.value (c.if-not-put_notes.ensures.lasts refl))
    (subst (λ (x : List ℕ). Wrote out end x p.0) c.as_slice-2.ensures.value p.1)

pub returns-clause-lasts : goal.returns-clause-lasts
returns-clause-lasts g c = λ old new before bytes line h.
    let journal = written_by g.J.Grow.lasting c.args.journal.now in
    let noted = written_by g.J.Grow.lasting c.put_notes.new.journal in
    let out = g.W.Write.contents c.args.out.now in
    let end = g.W.Write.contents c.put_out.new.out in
    all_told journal noted out end h (subst (λ (x : List ℕ). Appends journal noted x) c.as_slice.ensures.value (c.if-not-put_notes.ensures.lasts refl))
    (subst (λ (x : List ℕ). Appends out end x) c.as_slice-2.ensures.value (c.if-not-put_out.ensures.all refl))
