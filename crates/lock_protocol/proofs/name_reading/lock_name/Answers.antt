use Rattle.std.proofs.Common.{◌≤◌, ℕ, length, sym, subst}
use Rattle.lock_protocol.proofs.ReadNames.{leading_most}
use Rattle.lock_protocol.proofs.name_reading.lock_name.Goals as goal

pub split_at-requires : goal.split_at-requires
split_at-requires c = subst (λ (n : ℕ). n ≤ length c.args.bytes.now) (sym c.leading-length.ensures) (leading_most c.args.bytes.now)
