use Rattle.std.proofs.Common.{ℕ, List, drop, ap, ◌∙◌}
use Rattle.line_service.proofs.Parting.{skipped}
use Rattle.line_service.proofs.unread.Unread.skip.Goals as goal

pub returns : goal.returns
returns c =
    let u = c.self.inside in
    skipped u.from u.to c.args.count u.block (rw c.self.view_is c.requires) ∙ ap (λ (x : List ℕ). drop c.args.count x) c.self.view_is
