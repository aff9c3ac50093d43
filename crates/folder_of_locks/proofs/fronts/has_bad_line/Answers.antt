use Rattle.std.proofs.Common.{◌≡◌, ◌++◌, ◌∙◌, List, ℕ, Err, drop, sym, ap, subst}
use Rattle.std.specs.Prelude.{is_some}
use Rattle.std.proofs.lemmas.List.{take-append-drop}
use Rattle.segment_files.specs.RemarkLaws.{AreLines}
use Rattle.segment_files.specs.Last.{IsRightLast}
use Rattle.segment_files.proofs.TornLines.{take_both}
use Rattle.folder_of_locks.proofs.fronts.has_bad_line.Goals as goal

pub returns : goal.returns
returns c =
    let bytes = c.args.bytes.now in
    let line = c.split_line.result.0.now in
    let behind = c.split_line.result.1.now in
    let parts : drop c.args.end bytes ≡ line ++ behind = sym c.split_at.ensures.back ∙ c.split_line.ensures.split in
    λ t. record {
      spelled = sym (take-append-drop c.args.end bytes);
      begins = subst AreLines c.split_at.ensures.front (c.are_lines.ensures c.if-not-are_lines.false);
      line = line;
      behind = behind;
      first = parts;
      whole = c.is_one_line.ensures c.if-not-is_one_line.false;
      why = c.in-Err.error;
      named = ap is_some (sym c.named_line.ensures) ∙ (sym c.is_some.ensures ∙ t);
      refused = subst (λ (u : List ℕ). IsRightLast u (Err c.in-Err.error)) (take_both bytes c.args.end line behind c.requires parts) c.in-Err.ensures.right;
    }
