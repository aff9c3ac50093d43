use Rattle.std.proofs.Common.{ℕ, List, Err, length, sym, subst, arith}
use Rattle.std.proofs.lemmas.List.{take_all}
use Rattle.segment_files.specs.Last.{IsRightLast}
use Rattle.segment_files.proofs.torn_end.front_of.Goals as goal

pub cuts-init : goal.cuts-init
cuts-init c = record {
  within = omega arith;
  refused = subst (λ (u : List ℕ). IsRightLast u (Err c.args.error)) (sym (take_all (length c.args.bytes.now) c.args.bytes.now (omega arith))) c.requires;
}
