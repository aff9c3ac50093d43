-- What the files of an accepted folder say is right.
use Rattle.std.proofs.Common.{◌≡◌, ℕ, Bool, false, List, [], ◌∷◌, ◌++◌, length, Option, Some, None, inl, inr, ◌⊎◌, refl, sym, ap, subst, arith}
use Rattle.std.specs.Prelude.{not}
use Rattle.std.proofs.lemmas.Bool.{cases_Bool}
use Rattle.name_check.specs.declared.lines.Ring.{Ring}
use Rattle.name_check.specs.Entries.{Entry, Judged, begun, File as NextFile}
use Rattle.name_check.specs.Judged.{noted, noted_all, AreRight}
use Rattle.name_check.specs.Laws.{IsNow, NoneHeld, JudgedAreNamed, SoundBegins}
use Rattle.judged_files.specs.Lines.{shows_pool}
use Rattle.judged_files.specs.Judging.{IsJudged, IsAcceptedBy, AreAccepted}
use Rattle.judged_files.specs.Laws.{FilesSay, AreBefore, Say, AreNamed, JudgedFoldersAreNamed}

right_both : (s : Judged) (es fs : List Entry) → AreRight s es → AreRight (noted_all s es) fs → AreRight s (es ++ fs)
right_both s [] fs right more = more
right_both s (e ∷ es) fs right more = (right.0, right_both (noted s e) es fs right.1 more)

-- ---- files after one that is judged

record SaidLater (s : Judged) (fs : List (List ℕ)) : Type 0 where
  es : List Entry
  say : FilesSay fs es
  right : AreRight s es

later_with : (fixed : List (List ℕ)) (s j : Judged) (f : List ℕ) (fs : List (List ℕ)) → IsJudged fixed (Some s) f j → SaidLater j fs → SaidLater s (f ∷ fs)
later_with fixed s j f fs is more =
    let start = is.starts.0 in
    record {
      es = NextFile (length is.rings) ∷ (is.said ++ more.es);
      say = (is.rings, is.said, more.es, is.begins, is.each, more.say, refl);
      right = (
        start.right,
        subst (λ (m : Judged). AreRight m (is.said ++ more.es)) start.now
            (right_both is.start is.said more.es is.right.right (subst (λ (m : Judged). AreRight m more.es) (sym is.right.now) more.right)),
      );
    }

later : (fixed : List (List ℕ)) (s : Judged) (fs : List (List ℕ)) (t : Option Judged) → AreAccepted fixed (Some s) fs t → SaidLater s fs
later fixed s [] t are = record { es = []; say = refl; right = tt }
later fixed s (f ∷ fs) t are =
    let j = are.1.0 in
    later_with fixed s j f fs are.1.2 (later fixed j fs t (subst (λ (o : Option Judged). AreAccepted fixed o fs t) are.1.1 are.2))

-- ---- all files

record SaidAll (fixed : List (List ℕ)) (fs : List (List ℕ)) : Type 0 where
  gs : List Ring
  es : List Entry
  say : Say (length fixed) fs gs es
  right : AreRight (begun fixed gs) es

first_with : (fixed : List (List ℕ)) (j : Judged) (f : List ℕ) (fs : List (List ℕ)) → IsJudged fixed None f j → SaidLater j fs → SaidAll fixed (f ∷ fs)
first_with fixed j f fs is more = record {
  gs = is.rings;
  es = is.said ++ more.es;
  say = record {
    before = [];
    first = f;
    others = fs;
    parts = refl;
    older = tt;
    begins = is.begins;
    said = is.said;
    more = more.es;
    each = is.each;
    later = more.say;
    all = refl;
  };
  right = subst (λ (m : Judged). AreRight m (is.said ++ more.es)) is.starts (right_both is.start is.said more.es is.right.right (subst (λ (m : Judged). AreRight m more.es) (sym is.right.now) more.right));
}

older_with : (fixed : List (List ℕ)) (f : List ℕ) (fs : List (List ℕ)) → shows_pool (length fixed) f ≡ false → AreBefore (length fixed) fs ⊎ SaidAll fixed fs → AreBefore (length fixed) (f ∷ fs) ⊎ SaidAll fixed (f ∷ fs)
older_with fixed f fs none (inl all) = inl (none, all)
older_with fixed f fs none (inr a) = inr (record {
  gs = a.gs;
  es = a.es;
  say = record {
    before = f ∷ a.say.before;
    first = a.say.first;
    others = a.say.others;
    parts = ap (λ (u : List (List ℕ)). f ∷ u) a.say.parts;
    older = (none, a.say.older);
    begins = a.say.begins;
    said = a.say.said;
    more = a.say.more;
    each = a.say.each;
    later = a.say.later;
    all = a.say.all;
  };
  right = a.right;
})

all_said : (fixed fs : List (List ℕ)) (t : Option Judged) → AreAccepted fixed None fs t → AreBefore (length fixed) fs ⊎ SaidAll fixed fs
all_said fixed [] t are = inl tt
all_said fixed (f ∷ fs) t are = elim (cases_Bool (shows_pool (length fixed) f)) [
  | inl has ↦
      let judged : IsAcceptedBy false fixed None f are.0 = subst (λ (v : Bool). IsAcceptedBy (not v) fixed None f are.0) has are.1 in
      inr (first_with fixed judged.0 f fs judged.2 (later fixed judged.0 fs t (subst (λ (o : Option Judged). AreAccepted fixed o fs t) judged.1 are.2)))
  | inr none ↦
      let passed : are.0 ≡ None = subst (λ (v : Bool). IsAcceptedBy (not v) fixed None f are.0) none are.1 in
      older_with fixed f fs none (all_said fixed fs t (subst (λ (o : Option Judged). AreAccepted fixed o fs t) passed are.2))
]

nothing_now : (x : List ℕ) (fixed : List (List ℕ)) (gs : List Ring) → NoneHeld gs → IsNow x 0 false (begun fixed gs)
nothing_now x fixed gs none = record { top = omega arith; each = λ i g b there bound is. (omega arith, none i g there); none = λ away. refl }

named : JudgedAreNamed → SoundBegins → (fixed : List (List ℕ)) (gs : List Ring) (es : List Entry) → AreRight (begun fixed gs) es → AreNamed fixed gs es
named law sound fixed gs es right x apart room none =
    law x 0 false (begun fixed gs) es (sound false fixed gs apart room (λ e. none)) (nothing_now x fixed gs none) right

pub folders_are_named : JudgedAreNamed → SoundBegins → JudgedFoldersAreNamed
folders_are_named law sound fixed files judged = elim (all_said fixed files judged.0 judged.1) [
  | inl all ↦ inl all
  | inr a ↦ inr (a.gs, a.es, a.say, a.right, named law sound fixed a.gs a.es a.right)
]
