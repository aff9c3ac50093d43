-- Where lines may save in no folder.
use Rattle.std.proofs.Common.{◌≡◌, ℕ, List, true, false, Option, None, Some, refl, sym}
use Rattle.std.specs.Borrow.{Bor}
use Rattle.std.specs.Option.{option_map, is_some}
use Rattle.std.proofs.lemmas.Bool.{false≢true}

pub no_saves : (saves : Option (List ℕ)) → is_some saves ≡ false → saves ≡ None
no_saves None off = refl
no_saves (Some folder) off = absurd (false≢true (sym off))

-- the same of the folder's word
pub no_folder : (saves : Option (Bor (List ℕ))) → is_some saves ≡ false → option_map (λ (folder : Bor (List ℕ)). folder.now) saves ≡ None
no_folder None off = refl
no_folder (Some folder) off = absurd (false≢true (sym off))
