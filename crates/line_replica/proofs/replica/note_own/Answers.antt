use Rattle.std.proofs.Common.{ℕ, List, ◌++◌, ap, sym, ◌∙◌, append_assoc}
use Rattle.std.proofs.lemmas.List.Concat.{flat_map-append}
use Rattle.std.proofs.lemmas.Result.{on_ok_weaker}
use Rattle.segment_files.specs.Remarks.{remark_of}
use Rattle.line_replica.specs.State.{key_lines, lines_at, remarks_of}
use Rattle.line_replica.proofs.replica.note_own.Goals as goal

pub returns-in-Ok : goal.returns-in-Ok
returns-in-Ok g c =
    let r = c.args.replica.now in
    let text = c.args.text.now.items in
    let keys = key_lines r.numbered.keys in
    let places = lines_at r.running.place r.running.since in
    on_ok_weaker c.note-in-Ok.result (λ e.
    e
    ∙ (ap (λ (u : List ℕ). u ++ remarks_of places) c.in-Ok.ensures
    ∙ (append_assoc text (remarks_of keys) (remarks_of places) ∙ ap (λ (u : List ℕ). text ++ u) (sym (flat_map-append remark_of keys places))))) c.note-in-Ok.ensures
