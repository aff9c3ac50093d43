use Rattle.std.proofs.Common.{◌∙◌, inl, inr, ap}
use Rattle.saved_history.specs.Content.{block_of}
use Rattle.history_motion.specs.Motion.{motion}
use Rattle.motion_commands.specs.declared.refusals.Refusal.TheVariants as refusal
use Rattle.tool_parts.specs.declared.faults.ToolError.{ToolError}
use Rattle.motion_commands.proofs.Rings.{sized, block_at, no_block}
use Rattle.motion_commands.proofs.drawings.picture_of.Goals as goal

pub returns-in-Err-clause-err : goal.returns-in-Err-clause-err
returns-in-Err-clause-err c =
    inl (ap (λ (f : ToolError). refusal.Tool f) c.in-Err.ensures.err.0, no_block c.args.saved.now c.args.words.now.ring c.in-Err.ensures.err.1)

pub returns-in-Err-few_machines-clause-err : goal.returns-in-Err-few_machines-clause-err
returns-in-Err-few_machines-clause-err c =
    let at = block_at c.args.saved.now c.args.words.now.ring c.in-Ok.ring.now c.in-Ok.ensures.ok in
    let many = c.in-Err-few_machines.ensures.err in
    inr (inl (many.0, (_, at, many.1)))

pub returns-in-Err-count_of-clause-err : goal.returns-in-Err-count_of-clause-err
returns-in-Err-count_of-clause-err c =
    let at = block_at c.args.saved.now c.args.words.now.ring c.in-Ok.ring.now c.in-Ok.ensures.ok in
    let past = c.in-Err-count_of.ensures.err in
    inr (inr (inl (ap (λ (f : ToolError). refusal.Tool f) past.0, (_, at, past.1))))

pub motion-requires-clause-some : goal.motion-requires-clause-some
motion-requires-clause-some c = (sized c.args.saved.now c.args.words.now.ring c.in-Ok.ring.now c.requires.right c.in-Ok.ensures.ok).some

pub returns-in-Ok-motion-clause-ok : goal.returns-in-Ok-motion-clause-ok
returns-in-Ok-motion-clause-ok c =
    let at = block_at c.args.saved.now c.args.words.now.ring c.in-Ok.ring.now c.in-Ok.ensures.ok in
    let counted = c.in-Ok-count_of.ensures.ok in
    (block_of c.in-Ok.ring.now, at, c.in-Ok-few_machines.ensures.ok, counted.0, c.requires.few, c.in-Ok-motion.ensures ∙ ap (motion (block_of c.in-Ok.ring.now) c.args.words.now.from) counted.1)
