use Rattle.std.proofs.Common.{◌≡◌, ◌∙◌, ℕ, List, true, false, take, drop, inr, refl, sym, subst}
use Rattle.segment_files.specs.Last.{IsRightLast}
use Rattle.segment_files.specs.Torn.{has_later}
use Rattle.segment_files.proofs.torn_end.read_torn.Goals as goal

pub returns-then-later-clause-err : goal.returns-then-later-clause-err
returns-then-later-clause-err c = inr (
  refl,
  record {
    place = c.in-Ok.front.kept;
    bad = c.in-Ok.ensures.bad;
    why = inr (
      c.in-Ok-found.last,
      subst (λ r. IsRightLast (take c.in-Ok.front.kept c.args.bytes.now) r) c.in-Ok-found.is c.in-Ok.ensures.right,
      subst (λ (u : List ℕ). has_later c.in-Ok-found.last u ≡ true) c.split_at.ensures.back (sym c.in-Ok-later_in.ensures ∙ c.if-later.true),
    );
  },
)

pub returns-clause-ok : goal.returns-clause-ok
returns-clause-ok c = record {
  front = take c.in-Ok.front.kept c.args.bytes.now;
  left_out = drop c.in-Ok.front.kept c.args.bytes.now;
  bad = c.has_bad_line.ensures c.if-not-has_bad_line.false;
  right = subst (λ r. IsRightLast (take c.in-Ok.front.kept c.args.bytes.now) r) c.in-Ok-found.is c.in-Ok.ensures.right;
  none = subst (λ (u : List ℕ). has_later c.in-Ok-found.last u ≡ false) c.split_at.ensures.back (sym c.in-Ok-later_in.ensures ∙ c.if-later.false);
  why = c.args.error;
  named = c.requires.named;
  refused = c.requires.refused;
}
