use Rattle.std.proofs.Common.{◌≡◌, ℕ, List, [], ◌∷◌, arith}
use Rattle.std.specs.List.{AllByRecursion}
use Rattle.saved_history.specs.declared.saved.SavedEvent.{SavedEvent}
use Rattle.saved_history.specs.declared.saved.SavedEvent.TheVariants.{Granted, Refused, Member, Corrupted}
use Rattle.saved_history.specs.Versions.{first_version}
use Rattle.saved_history.specs.Content.{Block}
use Rattle.saved_history.specs.Spelling.{EventFits, BlockFits, IsNoMember, BlockHasNoMember}
use Rattle.saved_history.proofs.versions.first_version_has_no_members.Goals as goal

no_member : (version : ℕ) (e : SavedEvent) → version ≡ first_version → EventFits version e → IsNoMember e
no_member version (Granted s m o n r) v f = tt
no_member version (Refused s m o) v f = tt
no_member version (Member s m o l n r) v f = let groups = f.0 in omega (arith, v, groups)
no_member version (Corrupted s m x o) v f = tt

no_members : (version : ℕ) (es : List SavedEvent) → version ≡ first_version → AllByRecursion (EventFits version) es → AllByRecursion IsNoMember es
no_members version [] v f = tt
no_members version (e ∷ es) v f = (no_member version e v f.0, no_members version es v f.1)

no_blocks : (version : ℕ) (bs : List Block) → version ≡ first_version → AllByRecursion (BlockFits version) bs → AllByRecursion BlockHasNoMember bs
no_blocks version [] v f = tt
no_blocks version (b ∷ bs) v f = (no_members version b.events v f.0.events, no_blocks version bs v f.1)

pub returns : goal.returns
returns c = λ s f v. no_blocks s.version s.rings v f.rings
