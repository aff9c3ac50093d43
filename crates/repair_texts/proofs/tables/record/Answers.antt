use Rattle.std.proofs.Common.{◌≡◌, ◌++◌, ℕ, List, map, decimal, ◌∙◌, ap}
use Rattle.csv.specs.Writing.{default_writer, row_text}
use Rattle.repair_texts.specs.Columns.{words_of, numbers_of, record_of}
use Rattle.repair_texts.proofs.tables.record.Goals as goal

pub returns-in-Ok : goal.returns-in-Ok
unfolding record_of
returns-in-Ok c =
    let row = c.args.row.now in
    let digits : map (λ text. text.items) c.as_slice.result.now ≡ map (λ n. decimal n.1) (numbers_of row) =
    ap (map (λ text. text.items)) c.as_slice.ensures.value ∙ c.in_ok-texts.ensures ∙ c.numbers_of.ensures.digits in
    let fields : map (λ f. f.now) c.as_slice-2.result.now ≡ map (λ w. w.1) (words_of row.head) ++ map (λ n. decimal n.1) (numbers_of row) =
    ap (map (λ f. f.now)) c.as_slice-2.ensures.value ∙ c.in_ok-fields.ensures
    ∙ ap (λ (ws : List (List ℕ)). ws ++ map (λ text. text.items) c.as_slice.result.now) c.words_of.ensures.texts
    ∙ ap (λ (ts : List (List ℕ)). map (λ w. w.1) (words_of row.head) ++ ts) digits in
    c.in-Ok.ensures ∙ ap (row_text default_writer) fields
