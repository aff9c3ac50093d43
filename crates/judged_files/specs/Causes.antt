-- What is printed of what is wrong with a line (this project's own).
use Rattle.std.specs.Prelude.{ℕ, List, codes}
use Rattle.name_check.specs.declared.wrongs.Wrong.{Wrong}
use Rattle.name_check.specs.declared.wrongs.Wrong.TheVariants as why
use Rattle.judged_files.specs.declared.faults.Cause.{Cause}
use Rattle.judged_files.specs.declared.faults.Cause.TheVariants as cause

abbrev pub wrong_text : Wrong → List ℕ
wrong_text why.NoRing = codes "there is no such ring"
wrong_text why.NoTop = codes "the number of all grants is missing"
wrong_text why.WrongTop = codes "the number of all grants is another one"
wrong_text why.SecondTop = codes "the number of all grants comes twice"
wrong_text why.NotRestated = codes "the binding of a held ring is missing"
wrong_text why.OtherBinding = codes "the binding is another one"
wrong_text why.FixedRing = codes "the ring is that of a fixed lock"
wrong_text why.HeldRing = codes "the ring is held"
wrong_text why.FixedName = codes "the name is that of a fixed lock"
wrong_text why.BoundTwice = codes "the name is bound to another ring"
wrong_text why.WrongBefore = codes "the ring had another number of grants"
wrong_text why.WrongFloor = codes "all rings had another number of grants"
wrong_text why.NoGrant = codes "a binding has no grant"
wrong_text why.GrantedTwice = codes "the lock is held"
wrong_text why.NoName = codes "the ring has no name"
wrong_text why.NotHeld = codes "the lock is not held"
wrong_text why.NotEnded = codes "the hold has not ended"
wrong_text why.NotFreed = codes "the hold before ended, and its ring keeps its name"
wrong_text why.FewerRings = codes "there are fewer rings"
wrong_text why.Full = codes "no more grants can be counted"

abbrev pub cause_text : Cause → List ℕ
cause_text cause.Misspelled = codes "misspelled"
cause_text cause.OtherRings = codes "the rings are not as they were left"
cause_text cause.FewRings = codes "there are fewer rings than fixed locks"
cause_text cause.Twice = codes "two fixed locks have one name"
cause_text (cause.Wrong w) = wrong_text w
