use Rattle.std.proofs.Common.{◌≡◌, ℕ, List, [], ◌++◌, sym, ap, ◌∙◌, append_assoc, append-nil, rules}
use Rattle.std.proofs.Output.{has_written_append, has_written_of_eq}
use Rattle.std.proofs.lemmas.List.{nil_from_length}
use Rattle.std.proofs.lemmas.Str.{IsUtf8-past_char, chars_past_char, chars-nil}
use Rattle.std.specs.List.{flat_map}
use Rattle.std.specs.Str.Iter.{chars_rest}
use Rattle.tool_parts.specs.OneLine.{escaped, one_line}
use Rattle.tool_parts.proofs.one_line.put_text.Goals as goal

pub loop-c-init : goal.loop-c-init
loop-c-init g c =
    let begins : chars_rest c.into_iter-c-iterator.result ≡ c.args.text.now = search rules in
    (rw begins c.utf8.text, λ plain. ([], search rules, ap one_line begins))

pub loop-c-preserved : goal.loop-c-preserved
loop-c-preserved g c =
    let utf8 = c.loop-c.invariant.0 in
    let step = c.in-Some.ensures.steps.0 in (
      IsUtf8-past_char _ _ _ utf8 step,
      λ plain.
          let now = c.loop-c.invariant.1 plain in
          let ch = c.in-Some.c in (
            now.0 ++ escaped ch,
            has_written_append _ _ _ _ _ _ now.1 (search rules),
            append_assoc now.0 (escaped ch) _
                ∙ ap (λ (cs : List ℕ). now.0 ++ flat_map escaped cs) (sym (chars_past_char _ _ ch utf8 step))
                ∙ now.2,
          ),
    )

pub returns : goal.returns
returns g c = λ plain ok.
    let now = c.loop-c.invariant.1 plain in
    let none = nil_from_length _ c.in-None.ensures.steps.0.0 in
    has_written_of_eq _ _ _ _ _
    (sym (append-nil now.0) ∙ ap (λ (cs : List ℕ). now.0 ++ flat_map escaped cs) (sym chars-nil)
    ∙ ap (λ (bs : List ℕ). now.0 ++ one_line bs) (sym none) ∙ now.2) now.1
