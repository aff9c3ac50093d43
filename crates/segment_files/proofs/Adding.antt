-- The files that were added are a chain.
use Rattle.std.proofs.Common.{◌≡◌, List, [], ◌∷◌, ◌++◌, Option, Some, None, sym, ap, subst}
use Rattle.segment_files.specs.Files.{File, IsWhole, Follows, AreChainedAfter, AreChained}
use Rattle.segment_files.specs.Chain.{State, asked, state_after, LeadTo, AddedAreChained}

module _ (f : File) where
  chained_after : (l : Option State) (g : File) (fs : List File) (m : Option State) → Follows (asked l g) g → IsWhole g → LeadTo (Some (state_after l g)) fs m → Follows (asked m f) f → AreChainedAfter (asked l g) (g ∷ (fs ++ f ∷ []))
  chained_after l g [] m h w e a = (h, w, subst (λ (x : Option State). Follows (asked x f) f) (sym e) a)
  chained_after l g (k ∷ fs) m h w e a = (h, w, chained_after (Some (state_after l g)) k fs m e.0 e.1 e.2 a)

  pub chained : (fs : List File) (m : Option State) → LeadTo None fs m → Follows (asked m f) f → AreChained (fs ++ f ∷ [])
  chained [] m e a = subst (λ (x : Option State). Follows (asked x f) f) (sym e) a
  chained (g ∷ fs) m e a = chained_after None g fs m e.0 e.1 e.2 a

  pub led_on : (l : Option State) (fs : List File) (m : Option State) → LeadTo l fs m → Follows (asked m f) f → IsWhole f → LeadTo l (fs ++ f ∷ []) (Some (state_after m f))
  led_on l [] m e a w = (subst (λ (x : Option State). Follows (asked x f) f) (sym e) a, w, ap (λ (x : Option State). Some (state_after x f)) e)
  led_on l (g ∷ fs) m e a w = (e.0, e.1, led_on (Some (state_after l g)) fs m e.2 a w)

some_is : (l : State) (new : Option State) (m : State) → new ≡ Some l → l ≡ m → Some m ≡ new
some_is l new m e f = cc

pub added_are_chained : AddedAreChained
added_are_chained fs old new bytes last lead r =
    let a = r.2 in
    record {
      file = a.file;
      same = a.same;
      chain = chained a.file fs old lead a.follows;
      on = λ e. subst (λ (x : Option State). LeadTo None (fs ++ a.file ∷ []) x) (some_is r.0 new (state_after old a.file) r.1 a.next) (led_on a.file None fs old lead a.follows (a.whole e));
    }
