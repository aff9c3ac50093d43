-- A recovered history can be saved.
use Rattle.std.proofs.Common.{◌≡◌, ℕ, zero, suc, Bool, true, false, cond, List, [], ◌∷◌, ◌++◌, length, map, refl, sym, ◌∙◌, subst, arith}
use Rattle.std.specs.List.{AllByRecursion}
use Rattle.std.proofs.lemmas.List.{length-map}
use Rattle.saved_history.specs.declared.saved.SavedEvent.{SavedEvent}
use Rattle.saved_history.specs.declared.saved.SavedEvent.TheVariants.{Granted, Refused, Member, Corrupted}
use Rattle.saved_history.specs.Content.{Block, Content}
use Rattle.saved_history.specs.Spelling.{EventFits, Fits, BlockFits, IsNoMember, BlockHasNoMember, HasNoMember}
use Rattle.saved_history.specs.Versions.{first_version}
use Rattle.journal.specs.declared.calls.Call.{Call}
use Rattle.journal.specs.declared.calls.Call.TheVariants.{Event, Survey}
use Rattle.journal.specs.declared.calls.JournalLine.{JournalLine}
use Rattle.journal.specs.Spelling.{CallFits, JournalLineFits}
use Rattle.journal.specs.ContentAfter.{are_open, whole, with_call, with_call_at, with_calls, in_order, content_after}
use Rattle.journal.specs.Recovery.{IsRecovered}
use Rattle.journal.specs.Prefixes.{CanBeSaved}

-- ---- as many rings

as_many_at : (bs : List Block) (ring : ℕ) (call : Call) → length (with_call_at bs ring call) ≡ length bs
as_many_at [] ring call = refl
as_many_at (b ∷ bs) zero call = refl
as_many_at (b ∷ bs) (suc ring) call = let more = as_many_at bs ring call in omega arith

as_many : (bs : List Block) (calls : List JournalLine) → length (with_calls bs calls) ≡ length bs
as_many bs [] = refl
as_many bs (r ∷ rs) = as_many (with_call_at bs r.ring r.call) rs ∙ as_many_at bs r.ring r.call

-- ---- no member in the first version

no_member : (e : SavedEvent) → EventFits first_version e → IsNoMember e
no_member (Granted s m o n r) f = tt
no_member (Refused s m o) f = tt
no_member (Member s m o l n r) f = let groups = f.0 in omega (arith, groups)
no_member (Corrupted s m v o) f = tt

no_members : (es : List SavedEvent) → AllByRecursion (EventFits first_version) es → AllByRecursion IsNoMember es
no_members [] f = tt
no_members (e ∷ es) f = (no_member e f.0, no_members es f.1)

no_blocks : (bs : List Block) → AllByRecursion (BlockFits first_version) bs → AllByRecursion BlockHasNoMember bs
no_blocks [] f = tt
no_blocks (b ∷ bs) f = (no_members b.events f.0.events, no_blocks bs f.1)

one_more : (es : List SavedEvent) (e : SavedEvent) → AllByRecursion IsNoMember es → IsNoMember e → AllByRecursion IsNoMember (es ++ e ∷ [])
one_more [] e f g = (g, tt)
one_more (x ∷ xs) e f g = (f.0, one_more xs e f.1 g)

still : (b : Block) (call : Call) → CallFits first_version call → BlockHasNoMember b → BlockHasNoMember (with_call b call)
still b (Event e) f g = one_more b.events e g (no_member e f)
still b (Survey s) f g = g

still_at : (bs : List Block) (ring : ℕ) (call : Call) → CallFits first_version call → AllByRecursion BlockHasNoMember bs → AllByRecursion BlockHasNoMember (with_call_at bs ring call)
still_at [] ring call f g = g
still_at (b ∷ bs) zero call f g = (still b call f g.0, g.1)
still_at (b ∷ bs) (suc ring) call f g = (g.0, still_at bs ring call f g.1)

still_all : (rings : ℕ) (bs : List Block) (calls : List JournalLine) → AllByRecursion (JournalLineFits first_version rings) calls → AllByRecursion BlockHasNoMember bs → AllByRecursion BlockHasNoMember (with_calls bs calls)
still_all rings bs [] f g = g
still_all rings bs (r ∷ rs) f g = still_all rings (with_call_at bs r.ring r.call) rs f.1 (still_at bs r.ring r.call f.0.call g)

still_ordered : (bs : List Block) → AllByRecursion BlockHasNoMember bs → AllByRecursion BlockHasNoMember (map in_order bs)
still_ordered [] g = tt
still_ordered (b ∷ bs) g = (g.0, still_ordered bs g.1)

either_fits : (P : JournalLine → Type 0) (b : Bool) (r : JournalLine) (rs : List JournalLine) → P r → AllByRecursion P rs → AllByRecursion P (cond b [] (r ∷ rs))
either_fits P true r rs f g = tt
either_fits P false r rs f g = (f, g)

whole_fits : (P : JournalLine → Type 0) (rs : List JournalLine) → AllByRecursion P rs → AllByRecursion P (whole rs)
whole_fits P [] f = tt
whole_fits P (r ∷ rs) f = either_fits P (are_open (r ∷ rs)) r (whole rs) f.0 (whole_fits P rs f.1)

has_none_after : (began : Content) (calls : List JournalLine) → began.version ≡ first_version → Fits began → AllByRecursion (JournalLineFits began.version (length began.rings)) calls → HasNoMember (content_after began calls)
has_none_after began calls e fits f =
    let blocks = subst (λ (v : ℕ). AllByRecursion (BlockFits v) began.rings) e fits.rings in
    let fit = subst (λ (v : ℕ). AllByRecursion (JournalLineFits v (length began.rings)) calls) e f in
    still_ordered (with_calls began.rings (whole calls)) (still_all (length began.rings) began.rings (whole calls) (whole_fits (JournalLineFits first_version (length began.rings)) calls fit) (no_blocks began.rings blocks))

saved_after : (began : Content) (calls : List JournalLine) → Fits began → AllByRecursion (JournalLineFits began.version (length began.rings)) calls → CanBeSaved (content_after began calls)
saved_after began calls fits f = record {
  some =
      let some = fits.some in
      let same = as_many began.rings (whole calls) in
      let ordered = length-map (with_calls began.rings (whole calls)) in_order in
      omega arith;
  version = fits.version;
  members = λ e. has_none_after began calls e fits f;
}

pub can_be_saved : (bytes : List ℕ) (c : Content) → IsRecovered bytes c → CanBeSaved c
can_be_saved bytes c r = subst CanBeSaved (sym r.is) (saved_after r.journal.began r.journal.calls r.lines.fits.began r.lines.fits.calls)
