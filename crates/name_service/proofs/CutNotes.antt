-- What whole lines at the front of the notes of a line record.
use Rattle.std.proofs.Common.{◌≡◌, ℕ, zero, suc, ◌^◌, ◌<◌, ◌≤◌, Bool, true, false, cond, List, [], ◌∷◌, ◌++◌, length, map, take, drop, Option, Some, None, inl, inr, ◌⊎◌, refl, sym, ap, subst, ◌∙◌, append_assoc, append-nil, arith}
use Rattle.std.specs.Prelude.{codes, slice_get, slice_set, is_some, option_map, nat_lt, ◌||◌, if◌then◌else◌}
use Rattle.std.specs.List.{AllByRecursion}
use Rattle.std.proofs.lemmas.Bool.{true≢false}
use Rattle.std.proofs.lemmas.List.{length-map, length-set, take-append-drop, take-set-le, drop-set-lt}
use Rattle.std.proofs.lemmas.Option.{slice_get_within}
use Rattle.text_lines.specs.Spelling.{ended}
use Rattle.text_lines.specs.LongNumbers.{in_32_bits}
use Rattle.segment_files.specs.RemarkLaws.{IsOneLine, AreLines}
use Rattle.segment_files.proofs.TornLines.{not_none}
use Rattle.ring_service.specs.Recovered.{IsPrefix}
use Rattle.held_locks.specs.declared.answers.Holder.{Holder}
use Rattle.held_locks.specs.declared.answers.HoldEnd.{HoldEnd}
use Rattle.held_locks.specs.declared.answers.Left.{Left}
use Rattle.held_locks.specs.Locks.{Ask, Acquire, Try, Release, Cancel, Leave, Corrupt, Stats, turn}
use Rattle.held_locks.specs.Kept.{LockView, lock_of, locks_of, lock_limit, left_by, left_at, left_of, ended_in}
use Rattle.lock_protocol.specs.Asks as lines
use Rattle.lock_protocol.specs.Names.{IsName}
use Rattle.lock_protocol.specs.Inputs.{IsReadAs}
use Rattle.lock_protocol.specs.Views.{Input}
use Rattle.lock_protocol.specs.Views as input
use Rattle.name_remarks.specs.Remarks.{free, remark_text}
use Rattle.name_remarks.specs.Bindings.{Bindings}
use Rattle.lock_journal.specs.Asking.{one_ask, is_off}
use Rattle.lock_journal.specs.Noting.{note_about, note_of_left}
use Rattle.lock_names.specs.declared.replies.NameAnswers.{NameAnswers}
use Rattle.lock_names.specs.Names.{Bound, fresh}
use Rattle.lock_names.specs.Kept.{NamedView, named_of, reached, noted_at, IsTaken}
use Rattle.lock_names.specs.Leaves.{told_left, name_left, names_left}
use Rattle.name_service.specs.declared.service.NameTerms.{NameTerms}
use Rattle.name_service.specs.Naming.{NamingView, is_no_lock}
use Rattle.name_service.specs.NamesKept.{EndsWithin}
use Rattle.name_service.specs.Noting.{binding_of, note_of_new, note_of_free, note_at, is_freed, notes_of_names_left}
use Rattle.name_service.specs.Serving.{IsNameToldOf, IsNameToldIf, IsNameToldOfLeave, IsNameTold, IsNameAnsweredIf, IsNameInputAnswered, IsNameLineAnswered}
use Rattle.name_service.specs.RightNames.{AreRightNames}
use Rattle.name_service.proofs.AskedRings.{reaching, none_is, wanting_is}
use Rattle.name_service.proofs.CutTexts.{nothing_first, HasFirst, front_of_both, none_within, none_or_whole, remark_is_line, plain_front}
use Rattle.name_service.proofs.PlainNotes.{ArePlain, plain_note, plain_left, bind_line, bind_is_line, free_is_line}
use Rattle.name_service.proofs.TakenLines.{new_taken, freed_taken, new_free, not_freed, freed_pool, IsBelow, left_below, told_below, leave_taken}
use Rattle.name_service.proofs.TakenNotes.{IsTakenText, taken_both, taken_none, taken_plain, recorded_of, fresh_fits}

-- the text records names of which the first are the new ones, and the others the old ones
pub record IsCutSo (floor fixed : ℕ) (old new : List (Option Bound)) (text : List ℕ) : Type 0 where
  pub first : ℕ
  pub taken : IsTakenText text (recorded_of floor fixed old) (recorded_of floor fixed (take first new ++ drop first old))

pub none_taken : (text : List ℕ) (t : Bindings) → text ≡ [] → IsTakenText text t t
none_taken text t e = subst (λ (u : List ℕ). IsTakenText u t t) (sym e) (taken_none t)

all_new : (old new : List (Option Bound)) → length new ≡ length old → take (length old) new ++ drop (length old) old ≡ new
all_new [] [] many = refl
all_new [] (p ∷ new) many = absurd (omega (arith, many))
all_new (o ∷ old) [] many = absurd (omega (arith, many))
all_new (o ∷ old) (p ∷ new) many = ap (λ (os : List (Option Bound)). p ∷ os) (all_new old new (omega (arith, many)))

module _ (floor fixed : ℕ) (old new : List (Option Bound)) (text : List ℕ) where
  none_new : IsTakenText text (recorded_of floor fixed old) (recorded_of floor fixed old) → IsCutSo floor fixed old new text
  none_new t = record { first = zero; taken = t }

  each_new : length new ≡ length old → IsTakenText text (recorded_of floor fixed old) (recorded_of floor fixed new) → IsCutSo floor fixed old new text
  each_new many t = record {
    first = length old;
    taken = subst (λ (os : List (Option Bound)). IsTakenText text (recorded_of floor fixed old) (recorded_of floor fixed os)) (sym (all_new old new many)) t;
  }

  empty_cut : text ≡ [] → IsCutSo floor fixed old new text
  empty_cut e = none_new (none_taken text (recorded_of floor fixed old) e)

  plain_cut : ArePlain text → IsCutSo floor fixed old new text
  plain_cut p = none_new (taken_plain text (recorded_of floor fixed old) p.lines p.hashless)

free_one : (ring : ℕ) → IsOneLine (remark_text (free ring))
free_one ring = remark_is_line (codes "free " ++ ended ring) (free_is_line ring)

-- ---- an ask

module _ (floor : ℕ) (v : NamedView) (x : List ℕ) (i : ℕ) (right : AreRightNames v) (bits : v.top < 2 ^ 64) (is : IsName x) (lt : i < length v.names) (plain : List ℕ) (p : ArePlain plain) (text : List ℕ) (ends : AreLines text) where
  few : length v.names ≤ 1000000
  few =
      let many : length v.names ≡ length (locks_of v.locks) = right.named.many in
      let same : length (locks_of v.locks) ≡ length v.locks = length-map v.locks lock_of in
      let most : length v.locks ≤ lock_limit = right.few in
      omega arith

  abbrev was : Bindings
  was = recorded_of floor v.fixed v.names

  -- the remark of a new name, and the names after it
  abbrev bound : List ℕ
  bound = note_of_new (named_of v) x i true

  abbrev with_new : List (Option Bound)
  with_new = slice_set v.names i (Some (fresh (named_of v) x i))

  bound_one : IsOneLine bound
  bound_one = remark_is_line (bind_line i (binding_of (fresh (named_of v) x i))) (bind_is_line i (binding_of (fresh (named_of v) x i)) is)

  of_new : v.fixed ≤ i → EndsWithin bound text ⊎ HasFirst bound (plain ++ []) text → IsCutSo floor v.fixed v.names with_new text
  of_new pool (inl w) = empty_cut floor v.fixed v.names with_new text (none_within bound text bound_one ends w)
  of_new pool (inr b) =
      let now : Bindings = recorded_of floor v.fixed with_new in
      let rest : ArePlain b.rest = plain_front plain b.rest p b.lines (b.front.0, sym (append-nil plain) ∙ b.front.1) in
      each_new floor v.fixed v.names with_new text (length-set v.names i (Some (fresh (named_of v) x i)))
      (subst (λ (u : List ℕ). IsTakenText u was now) (sym b.is)
      (taken_both bound b.rest was now now
      (new_taken floor v.fixed v.names i lt few (fresh (named_of v) x i) (fresh_fits v x i right bits) is pool)
      (taken_plain b.rest now rest.lines rest.hashless)))

  -- the remark that the ring is free, and the names after it
  abbrev gone : List ℕ
  gone = note_of_free i true

  abbrev without : List (Option Bound)
  without = slice_set v.names i None

  of_freed : v.fixed ≤ i → EndsWithin plain text ⊎ HasFirst plain gone text → IsCutSo floor v.fixed v.names without text
  of_freed pool (inl w) = plain_cut floor v.fixed v.names without text (plain_front plain text p ends (w.0 ∷ w.1, w.2))
  of_freed pool (inr b) = last (none_or_whole gone b.rest (free_one i) b.lines b.front)
    where
      last : (b.rest ≡ []) ⊎ (b.rest ≡ gone) → IsCutSo floor v.fixed v.names without text
      last (inl e) = plain_cut floor v.fixed v.names without text (subst (λ (u : List ℕ). ArePlain u) (sym (b.is ∙ (ap (λ (u : List ℕ). plain ++ u) e ∙ append-nil plain))) p)
      last (inr e) =
          let now : Bindings = recorded_of floor v.fixed without in
          each_new floor v.fixed v.names without text (length-set v.names i None)
          (subst (λ (u : List ℕ). IsTakenText u was now) (sym (b.is ∙ ap (λ (u : List ℕ). plain ++ u) e))
          (taken_both plain gone was was now (taken_plain plain was p.lines p.hashless) (freed_taken floor v.fixed v.names i lt few pool)))

  pub note_cut : (q d : Bool) → (q ≡ true → d ≡ false) → (q ≡ true → v.fixed ≤ i) → (d ≡ true → v.fixed ≤ i) → IsPrefix text (note_of_new (named_of v) x i q ++ (plain ++ note_of_free i d)) →
      IsCutSo floor v.fixed v.names (noted_at (named_of v) x (Some i) q d) text
  note_cut true true apart new freed f = absurd (true≢false (apart refl))
  note_cut true false apart new freed f = of_new (new refl) (front_of_both bound (plain ++ []) text ends f)
  note_cut false true apart new freed f = of_freed (freed refl) (front_of_both plain gone text ends f)
  note_cut false false apart new freed f = plain_cut floor v.fixed v.names v.names text (plain_front plain text p ends (f.0, sym (append-nil plain) ∙ f.1))

asked_cut : (floor : ℕ) (c : ℕ) (x : List ℕ) (a : Ask) (old new : NamedView) (r : NameAnswers) (is : IsName x) (right : AreRightNames old) (bits : old.top < 2 ^ 64) (p : ℕ × Bound) (e : reached (named_of old) x a ≡ Some p) (k : IsTaken old new c x a r) → r.ring ≡ Some p.0 →
    (text : List ℕ) → AreLines text → IsPrefix text (note_at (Some p.0) old new x r) → IsCutSo floor old.fixed old.names new.names text
asked_cut floor c x a old new r is right bits p e k ring text ends front =
    let i : ℕ = p.0 in
    let g = reaching (named_of old) x a right.named p e in
    let lt : i < length old.names = slice_get_within old.names i g.fits.was g.fits.entry in
    let names : new.names ≡ noted_at (named_of old) x (Some i) r.fresh r.freed = k.names ∙ ap (λ (o : Option ℕ). noted_at (named_of old) x o r.fresh r.freed) ring in
    let all = note_cut floor old x i right bits is lt (note_about i old.locks new.locks r.ended) (plain_note i old.locks new.locks r.ended) text ends r.fresh r.freed (not_freed floor c x a old new r is right bits p e k)
    (λ f. (new_free floor c x a old new r is right bits p e k f).1) (freed_pool floor c x a old new r is right bits p e k) front in
    subst (λ (os : List (Option Bound)). IsCutSo floor old.fixed old.names os text) (sym names) all

-- ---- a leave

-- the rings of these, each after the one before it, from this number on
abbrev AreFrom : ℕ → List Left → Type 0
AreFrom k [] = Unit {0}
AreFrom k (l ∷ ls) = (k ≤ l.lock) × AreFrom (suc l.lock) ls

from_lower : (k m : ℕ) (ls : List Left) → k ≤ m → AreFrom m ls → AreFrom k ls
from_lower k m [] le f = tt
from_lower k m (l ∷ ls) le f = let far : m ≤ l.lock = f.0 in (omega (arith, le, far), f.1)

from_append : (k m : ℕ) (xs ys : List Left) → k ≤ m → AreFrom k xs → AllByRecursion (IsBelow m) xs → AreFrom m ys → AreFrom k (xs ++ ys)
from_append k m [] ys le p below q = from_lower k m ys le q
from_append k m (x ∷ xs) ys le p below q = let lt : x.lock < m = below.0 in (p.0, from_append (suc x.lock) m xs ys (omega (arith, lt)) p.1 below.1 q)

left_from : (c m : ℕ) (vs : List LockView) → AreFrom zero (left_of c vs m)
left_from c zero vs = tt
left_from c (suc m) vs = from_append zero m (left_of c vs m) (left_at c m (slice_get vs m)) (omega arith) (left_from c m vs) (left_below c m m vs (omega arith)) (at (slice_get vs m))
  where
    same : m ≤ m
    same = omega arith

    by : (o : Option HoldEnd) (g : Option Holder) → AreFrom m (left_by m o g)
    by None g = tt
    by (Some h) g = (same, tt)

    at : (o : Option LockView) → AreFrom m (left_at c m o)
    at None = tt
    at (Some v) = by (ended_in v.ring (turn [] (lock_of v) c Leave).marks) (turn [] (lock_of v) c Leave).lock.holder

told_from : (os : List (Option Bound)) (k : ℕ) (ls : List Left) → AreFrom k ls → AreFrom k (map (told_left os) ls)
told_from os k [] f = tt
told_from os k (l ∷ ls) f = (f.0, told_from os (suc l.lock) ls f.1)

name_many : (fixed : ℕ) (os : List (Option Bound)) (l : Left) → length (name_left fixed os l) ≡ length os
name_many fixed os l = by (nat_lt l.lock fixed || is_some l.granted)
  where
    by : (q : Bool) → length (if q then os else slice_set os l.lock None) ≡ length os
    by true = refl
    by false = length-set os l.lock None

-- the names of earlier rings stay, and of one those of later rings
names_first : (k fixed : ℕ) (os : List (Option Bound)) (ls : List Left) → AreFrom k ls → take k (names_left fixed os ls) ≡ take k os
names_first k fixed os [] f = refl
names_first k fixed os (l ∷ ls) f =
    let le : k ≤ l.lock = f.0 in
    names_first k fixed (name_left fixed os l) ls (from_lower k (suc l.lock) ls (omega (arith, le)) f.1) ∙ one (nat_lt l.lock fixed || is_some l.granted)
  where
    one : (q : Bool) → take k (if q then os else slice_set os l.lock None) ≡ take k os
    one true = refl
    one false = take-set-le k os l.lock None f.0

name_rest : (n fixed : ℕ) (os : List (Option Bound)) (l : Left) → l.lock < n → drop n (name_left fixed os l) ≡ drop n os
name_rest n fixed os l lt = one (nat_lt l.lock fixed || is_some l.granted)
  where
    one : (q : Bool) → drop n (if q then os else slice_set os l.lock None) ≡ drop n os
    one true = refl
    one false = drop-set-lt n os l.lock None lt

-- the same cut, and all rings before this one are among the first
record IsCutFrom (k floor fixed : ℕ) (old new : List (Option Bound)) (text : List ℕ) : Type 0 where
  cut : IsCutSo floor fixed old new text
  far : k ≤ cut.first

from_none : (k floor fixed : ℕ) (os : List (Option Bound)) (ls : List Left) (text : List ℕ) → AreFrom k ls → IsTakenText text (recorded_of floor fixed os) (recorded_of floor fixed os) → IsCutFrom k floor fixed os (names_left fixed os ls) text
from_none k floor fixed os ls text f t =
    let same : take k (names_left fixed os ls) ++ drop k os ≡ os = ap (λ (ps : List (Option Bound)). ps ++ drop k os) (names_first k fixed os ls f) ∙ take-append-drop k os in
    let le : k ≤ k = omega arith in
    record {
      cut = record { first = k; taken = subst (λ (ps : List (Option Bound)). IsTakenText text (recorded_of floor fixed os) (recorded_of floor fixed ps)) (sym same) t };
      far = le;
    }

-- one ring, and those after it
module _ (floor fixed : ℕ) (vs : List LockView) (os : List (Option Bound)) (l : Left) (ls : List Left) (k : ℕ) (most : length os ≤ 1000000) (all : AllByRecursion (IsBelow (length os)) (l ∷ ls)) (from : AreFrom k (l ∷ ls)) (text : List ℕ) (ends : AreLines text) where
  abbrev own : List ℕ
  own = note_of_left vs l

  abbrev lost_name : List ℕ
  lost_name = note_of_free l.lock (is_freed fixed l)

  abbrev others : List ℕ
  others = notes_of_names_left fixed vs ls

  abbrev before : Bindings
  before = recorded_of floor fixed os

  abbrev left_names : List (Option Bound)
  left_names = name_left fixed os l

  whole : IsTakenText (own ++ lost_name) before (recorded_of floor fixed left_names)
  whole = subst (λ (u : List ℕ). IsTakenText u before (recorded_of floor fixed left_names)) (append-nil (own ++ lost_name)) (leave_taken floor fixed vs os (l ∷ []) most (all.0, tt))

  -- what the notes of the rings after it record, wherever they are cut
  abbrev AreCutLater : Type 0
  AreCutLater = (rest : List ℕ) → AreLines rest → IsPrefix rest others → IsCutFrom (suc l.lock) floor fixed left_names (names_left fixed left_names ls) rest

  by_name : AreCutLater → (d : HasFirst own (lost_name ++ others) text) → EndsWithin lost_name d.rest ⊎ HasFirst lost_name others d.rest → IsCutFrom k floor fixed os (names_left fixed os (l ∷ ls)) text
  by_name later d (inl w) =
      let p : ArePlain text = subst (λ (u : List ℕ). ArePlain u) (sym (d.is ∙ (ap (λ (u : List ℕ). own ++ u) (none (is_freed fixed l) w) ∙ append-nil own))) (plain_left vs l) in
      from_none k floor fixed os (l ∷ ls) text from (taken_plain text before p.lines p.hashless)
    where
      none : (q : Bool) → EndsWithin (note_of_free l.lock q) d.rest → d.rest ≡ []
      none true y = none_within (remark_text (free l.lock)) d.rest (free_one l.lock) d.lines y
      none false y = absurd (not_none d.rest y.0 y.1 (sym y.2))
  by_name later d (inr b) =
      let r = later b.rest b.lines b.front in
      let n : ℕ = r.cut.first in
      let lt : l.lock < n = r.far in
      let le : k ≤ l.lock = from.0 in
      let is : text ≡ (own ++ lost_name) ++ b.rest = d.is ∙ (ap (λ (u : List ℕ). own ++ u) b.is ∙ sym (append_assoc own lost_name b.rest)) in
      let now : List (Option Bound) = take n (names_left fixed left_names ls) in
      let both : IsTakenText ((own ++ lost_name) ++ b.rest) before (recorded_of floor fixed (now ++ drop n left_names)) =
      taken_both (own ++ lost_name) b.rest before (recorded_of floor fixed left_names) (recorded_of floor fixed (now ++ drop n left_names)) whole r.cut.taken in
      record {
        cut = record {
          first = n;
          taken = subst (λ (u : List ℕ). IsTakenText u before (recorded_of floor fixed (now ++ drop n os))) (sym is)
              (subst (λ (ps : List (Option Bound)). IsTakenText ((own ++ lost_name) ++ b.rest) before (recorded_of floor fixed (now ++ ps))) (name_rest n fixed os l lt) both);
        };
        far = omega (arith, lt, le);
      }

  by_ring : AreCutLater → EndsWithin own text ⊎ HasFirst own (lost_name ++ others) text → IsCutFrom k floor fixed os (names_left fixed os (l ∷ ls)) text
  by_ring later (inl w) = let p : ArePlain text = plain_front own text (plain_left vs l) ends (w.0 ∷ w.1, w.2) in from_none k floor fixed os (l ∷ ls) text from (taken_plain text before p.lines p.hashless)
  by_ring later (inr d) = by_name later d (front_of_both lost_name others d.rest d.lines d.front)

  ring_cut : AreCutLater → IsPrefix text (notes_of_names_left fixed vs (l ∷ ls)) → IsCutFrom k floor fixed os (names_left fixed os (l ∷ ls)) text
  ring_cut later f = by_ring later (front_of_both own (lost_name ++ others) text ends (f.0, sym (append_assoc own lost_name others) ∙ f.1))

leave_cut : (floor fixed : ℕ) (vs : List LockView) (os : List (Option Bound)) (ls : List Left) (k : ℕ) → length os ≤ 1000000 → AllByRecursion (IsBelow (length os)) ls → AreFrom k ls → (text : List ℕ) → AreLines text → IsPrefix text (notes_of_names_left fixed vs ls) →
    IsCutFrom k floor fixed os (names_left fixed os ls) text
leave_cut floor fixed vs os [] k most all from text ends f = from_none k floor fixed os [] text tt (none_taken text (recorded_of floor fixed os) (nothing_first text f.0 (sym f.1)))
leave_cut floor fixed vs os (l ∷ ls) k most all from text ends f =
    let same : length (name_left fixed os l) ≡ length os = name_many fixed os l in
    ring_cut floor fixed vs os l ls k most all from text ends
    (λ rest ends front. leave_cut floor fixed vs (name_left fixed os l) ls (suc l.lock) (subst (λ (n : ℕ). n ≤ 1000000) (sym same) most) (subst (λ (n : ℕ). AllByRecursion (IsBelow n) ls) (sym same) all.1) from.1 rest ends front)
    f

leave_line_cut : (floor : ℕ) (terms : NameTerms) (c : ℕ) (old new : NamingView) (said noted : List ℕ) → IsNameToldOfLeave terms.lines.noting c old said noted new → AreRightNames old.named → terms.lines.noting ≡ true → (text : List ℕ) → AreLines text → IsPrefix text noted →
    IsCutSo floor old.named.fixed old.named.names new.named.names text
leave_line_cut floor terms c old new said noted t right noting text ends front =
    let note : noted ≡ notes_of_names_left old.named.fixed new.named.locks new.left = t.notes ∙ ap (λ (q : Bool). cond q (notes_of_names_left old.named.fixed new.named.locks new.left) []) noting in
    let many : length old.named.names ≡ length (locks_of old.named.locks) = right.named.many in
    let same : length (locks_of old.named.locks) ≡ length old.named.locks = length-map old.named.locks lock_of in
    let most : length old.named.locks ≤ lock_limit = right.few in
    let raw : AllByRecursion (IsBelow (length old.named.names)) t.done.raw =
    subst (λ (ls : List Left). AllByRecursion (IsBelow (length old.named.names)) ls) (sym t.done.locks.told) (left_below c (length old.named.locks) (length old.named.names) old.named.locks (omega arith)) in
    let below : AllByRecursion (IsBelow (length old.named.names)) new.left =
    subst (λ (ls : List Left). AllByRecursion (IsBelow (length old.named.names)) ls) (sym t.done.told) (told_below (length old.named.names) old.named.names t.done.raw raw) in
    let from_raw : AreFrom zero t.done.raw = subst (λ (ls : List Left). AreFrom zero ls) (sym t.done.locks.told) (left_from c (length old.named.locks) old.named.locks) in
    let from : AreFrom zero new.left = subst (λ (ls : List Left). AreFrom zero ls) (sym t.done.told) (told_from old.named.names zero t.done.raw from_raw) in
    let all = leave_cut floor old.named.fixed new.named.locks old.named.names new.left zero (omega arith) below from text ends (front.0, sym note ∙ front.1) in
    subst (λ (os : List (Option Bound)). IsCutSo floor old.named.fixed old.named.names os text) (sym t.done.names) all.cut

-- ---- a line

module _ (floor : ℕ) (terms : NameTerms) (old new : NamingView) (said noted : List ℕ) (right : AreRightNames old.named) (bits : old.named.top < 2 ^ 64) (noting : terms.lines.noting ≡ true) (text : List ℕ) (ends : AreLines text) (front : IsPrefix text noted) where
  abbrev IsCut : Type 0
  IsCut = IsCutSo floor old.named.fixed old.named.names new.named.names text

  none_cut : noted ≡ [] → IsCut
  none_cut e = empty_cut floor old.named.fixed old.named.names new.named.names text (nothing_first text front.0 (sym front.1 ∙ e))

  by_reached : (c : ℕ) (x : List ℕ) (a : Ask) → IsName x → (t : IsNameToldOf terms c x a old said noted new) → IsTaken old.named new.named c x a t.answers → (o : Option (ℕ × Bound)) → reached (named_of old.named) x a ≡ o → IsCut
  by_reached c x a is t k None e = none_cut (none_is terms c x a old new said noted t e k).notes
  by_reached c x a is t k (Some p) e =
      let ring : t.answers.ring ≡ Some p.0 = t.done.ring ∙ ap (λ (o : Option (ℕ × Bound)). option_map (λ (q : ℕ × Bound). q.0) o) e in
      let note : noted ≡ note_at (Some p.0) old.named new.named x t.answers =
      t.notes ∙ (ap (λ (q : Bool). cond q (note_at t.answers.ring old.named new.named x t.answers) []) noting ∙ ap (λ (o : Option ℕ). note_at o old.named new.named x t.answers) ring) in
      asked_cut floor c x a old.named new.named t.answers is right bits p e k ring text ends (front.0, sym note ∙ front.1)

  asked_line_cut : (c : ℕ) (x : List ℕ) (a : Ask) → IsName x → IsNameToldOf terms c x a old said noted new → IsCut
  asked_line_cut c x a is t = elim t.done.answer [
    | inl k ↦ by_reached c x a is t k (reached (named_of old.named) x a) refl
    | inr w ↦ none_cut (wanting_is terms c x a old new said noted t w).notes
  ]

  if_lock_cut : (q : Bool) (c : ℕ) (x : List ℕ) (a : Ask) → IsName x → IsNameToldIf q terms c x a old said noted new → IsCut
  if_lock_cut true c x a is t = none_cut t.notes
  if_lock_cut false c x a is t = asked_line_cut c x a is t

  told_cut : (c : ℕ) (ask : lines.Ask) → lines.HasName ask → IsNameTold terms c (one_ask ask) old said noted new → IsCut
  told_cut c (lines.acquire name label) is t = if_lock_cut (is_no_lock terms.most old.named name (Acquire label)) c name (Acquire label) is t
  told_cut c (lines.try name label) is t = if_lock_cut (is_no_lock terms.most old.named name (Try label)) c name (Try label) is t
  told_cut c (lines.release name token) is t = if_lock_cut (is_no_lock terms.most old.named name (Release token)) c name (Release token) is t
  told_cut c (lines.cancel name) is t = if_lock_cut (is_no_lock terms.most old.named name Cancel) c name Cancel is t
  told_cut c lines.leave is t = leave_line_cut floor terms c old new said noted t right noting text ends front
  told_cut c (lines.corrupt name machine value) is t = if_lock_cut (is_no_lock terms.most old.named name (Corrupt (in_32_bits machine) (in_32_bits value))) c name (Corrupt (in_32_bits machine) (in_32_bits value)) is t
  told_cut c (lines.stats name) is t = if_lock_cut (is_no_lock terms.most old.named name Stats) c name Stats is t

  if_cut : (off : Bool) (c : ℕ) (ask : lines.Ask) → lines.HasName ask → IsNameAnsweredIf off terms c ask old said noted new → IsCut
  if_cut true c ask is t = none_cut t.notes
  if_cut false c ask is t = told_cut c ask is t

  input_cut : (line : List ℕ) (i : Input) → IsReadAs line i → IsNameInputAnswered terms i old said noted new → IsCut
  input_cut line (input.Asked c ask) r t = if_cut (is_off terms.lines.faults ask) c ask r.1.named t
  input_cut line (input.Refused c why) r t = none_cut t.notes
  input_cut line input.Nobody r t = none_cut t.notes

  pub line_cut : (line : List ℕ) → IsNameLineAnswered terms old line said noted new → IsCut
  line_cut line a = input_cut line a.0 a.1 a.2
