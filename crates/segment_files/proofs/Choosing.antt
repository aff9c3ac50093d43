-- A test that failed.
use Rattle.std.proofs.Common.{◌≡◌, Bool, false, IsTrue}

pub clash : (b : Bool) → b ≡ false → IsTrue b → ⊥
clash b e t = cc
