use Rattle.std.proofs.Common.{ℕ, List, length, refl}
use Rattle.line_replay.specs.Following.{Follows}
use Rattle.line_replay.proofs.Looking.{look_on, look_back, look_end}
use Rattle.line_replay.proofs.following.can_follow.Goals as goal

pub lines-preserved : goal.lines-preserved
lines-preserved c =
    let P : List ℕ → Type 0 = Follows c.args.noted (length c.args.bytes.now) in
    let split = c.in-Some.ensures.split in
    let line = c.in-Some.ensures.line in (
      (λ s. c.lines.invariant.0 (look_on P c.in-Some.field-0-0.now c.in-Some.after.now c.lines.rest.now split line s)),
      (λ s. look_back P c.in-Some.field-0-0.now c.in-Some.after.now c.lines.rest.now split line (c.if-follows.ensures.no refl) (c.lines.invariant.1 s)),
    )

pub returns-in-None-clause-no : goal.returns-in-None-clause-no
returns-in-None-clause-no c = λ e s.
    look_end (Follows c.args.noted (length c.args.bytes.now)) c.lines.rest.now (c.in-None.ensures.none refl) (c.if-follows.ensures.no refl) (c.lines.invariant.1 s)
