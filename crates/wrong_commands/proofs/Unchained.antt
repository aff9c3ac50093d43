-- A file that is refused does not follow.
use Rattle.std.proofs.Common.{◌≡◌, Bool, false, List, ℕ, Option, Ok, Err, refl, sym, subst, ◌∙◌}
use Rattle.segment_files.specs.declared.errors.SegmentError.TheVariants as refused
use Rattle.segment_files.specs.Files.{File, IsWhole, Follows}
use Rattle.segment_files.specs.Chain.{State, asked, OfSegment, IsAdded, IsRightRefusal, IsRightAdd}
use Rattle.segment_files.proofs.OneFiles.{one_file}

-- two facts on the segment of some bytes are facts on one file
added_not : (old : Option State) (bytes : List ℕ) (last : Bool) (new : State) (Holds : File → Type 0) → ((f : File) → Holds f → Follows (asked old f) f → (last ≡ false → IsWhole f) → ⊥) →
    OfSegment bytes Holds → IsAdded old bytes last new → ⊥
added_not old bytes last new Holds other s a =
    let e : s.file ≡ a.file = one_file s.file a.file (s.same ∙ sym a.same) s.segment a.follows.file in
    other a.file (subst Holds e s.holds) a.follows a.whole

module _ (old before : Option State) (bytes : List ℕ) (last : Bool) (new : Option State) where
  pub no_gap : IsRightAdd old bytes last before (Err refused.Number) → IsRightAdd old bytes last new (Ok tt) → ⊥
  no_gap r a = added_not old bytes last a.0 _ (λ f not h w. not h.number) r.1 a.2

  pub no_digest : IsRightAdd old bytes last before (Err refused.Behind) → IsRightAdd old bytes last new (Ok tt) → ⊥
  no_digest r a = added_not old bytes last a.0 _ (λ f not h w. not.1 (h.number, h.behind)) r.1 a.2

  pub no_base : IsRightAdd old bytes last before (Err refused.Base) → IsRightAdd old bytes last new (Ok tt) → ⊥
  no_base r a = added_not old bytes last a.0 _ (λ f not h w. not.1 ((h.number, h.behind), h.bases)) r.1 a.2

  pub no_start : IsRightAdd old bytes last before (Err refused.Start) → IsRightAdd old bytes last new (Ok tt) → ⊥
  no_start r a = added_not old bytes last a.0 _ (λ f not h w. not.1 (((h.number, h.behind), h.bases), h.starts)) r.1 a.2

  pub no_refusal : IsRightAdd old bytes last new (Ok tt) → IsRightAdd old bytes last before (Err refused.Number) → ⊥
  no_refusal a r = no_gap r a

-- nothing may be left out of a file after which others come
pub no_cut : (old before new : Option State) (bytes : List ℕ) → IsRightAdd old bytes false before (Err refused.Unfinished) → IsRightAdd old bytes false new (Ok tt) → ⊥
no_cut old before new bytes u a = added_not old bytes false a.0 _ (λ f not h w. not.1 (w refl)) u.1.1 a.2
