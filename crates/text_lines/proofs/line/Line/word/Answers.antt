use Rattle.std.proofs.Common.{◌≡◌, ℕ, ◌+◌, ◌-◌, ◌≤◌, List, ◌++◌, length, take, drop, ap, ◌∙◌, arith, length-drop, length-take-le, drop-drop}
use Rattle.std.proofs.lemmas.List.{drop_at}
use borrow.Rule.Slice.PartMut.{post_of}
use Rattle.text_lines.proofs.line.Line.word.Goals as goal

pub returns : goal.returns
returns c =
    let bytes = c.self.inside.bytes in
    let end = c.self.inside.start in
    let word = c.args.word.now in
    let start : ℕ = end - length word in
    let whole : length bytes ≡ 128 = c.self.told in
    let high : end ≤ 128 = c.self.invariant in
    let so_far : length (drop end bytes) ≡ length c.args.self.now = ap (λ (u : List ℕ). length u) c.self.view_is in
    let left = length-drop end bytes in
    let low : length word ≤ end = omega (arith, so_far, left, c.requires, whole, high) in
    let within : start ≤ length bytes = omega arith in
    let whole_word : start + (end - start) ≡ end = omega arith in
    let after : post_of start (end - start) bytes ≡ c.args.self.now = drop-drop (end - start) start bytes ∙ (ap (λ (n : ℕ). drop n bytes) whole_word ∙ c.self.view_is) in
    drop_at (take start bytes) (c.copy_from_slice.new.self ++ post_of start (end - start) bytes) start (length-take-le start bytes within) ∙ (ap (λ (u : List ℕ). u ++ post_of start (end - start) bytes) c.copy_from_slice.ensures.after ∙ ap (λ (u : List ℕ). word ++ u) after)
