-- The names of rings, and the number of grants, come back of the notes of lines.
use Rattle.std.proofs.Common.{◌≡◌, ℕ, zero, suc, ◌+◌, ◌-◌, ◌^◌, ◌<◌, ◌≤◌, Bool, true, false, cond, List, [], ◌∷◌, ◌++◌, length, map, Option, Some, None, inl, inr, refl, sym, ap, subst, ◌∙◌, arith}
use Rattle.std.specs.Prelude.{slice_get, slice_set, is_some, option_map, nat_lt, not, ◌||◌, ◌&&◌, if◌then◌else◌}
use Rattle.std.specs.List.{AllByRecursion}
use Rattle.std.proofs.lemmas.Bool.{ltb-false, lt-ltb, cases_lt, true≢false}
use Rattle.std.proofs.lemmas.List.{length-map, length-set}
use Rattle.std.proofs.lemmas.Option.{slice_get_within}
use Rattle.ring_model.specs.Ring.{IsRing}
use Rattle.line_service.specs.Answering.{Answers}
use Rattle.segment_files.proofs.Hashless.{no_hash_head}
use Rattle.held_locks.specs.declared.answers.Holder.{Holder}
use Rattle.held_locks.specs.declared.answers.HoldEnd.{HoldEnd}
use Rattle.held_locks.specs.declared.answers.Left.{Left}
use Rattle.held_locks.specs.Queues.{Lock, holder_of}
use Rattle.held_locks.specs.Locks.{Ask, Acquire, Try, Release, Cancel, Leave, Corrupt, Stats, turn}
use Rattle.held_locks.specs.Kept.{LockView, lock_of, locks_of, lock_limit, left_by, left_at, left_of, ended_in}
use Rattle.held_locks.proofs.Standing.{get_set_same}
use Rattle.text_lines.specs.LongNumbers.{in_32_bits}
use Rattle.lock_protocol.specs.Asks as lines
use Rattle.lock_protocol.specs.Names.{IsName}
use Rattle.lock_protocol.specs.Inputs.{IsReadAs}
use Rattle.lock_protocol.specs.Views.{Input}
use Rattle.lock_protocol.specs.Views as input
use Rattle.name_remarks.specs.Remarks.{Binding, bind, free, remark_text}
use Rattle.name_remarks.specs.Bindings.{Bindings, nothing}
use Rattle.lock_journal.specs.Asking.{one_ask, is_off}
use Rattle.lock_journal.specs.Begun.{begun_text}
use Rattle.lock_journal.specs.Segments.{content_of}
use Rattle.lock_journal.specs.Noting.{note_about, note_of_left}
use Rattle.lock_journal.proofs.WithoutRemarks.{head_ends}
use Rattle.lock_names.specs.declared.replies.NameAnswers.{NameAnswers}
use Rattle.lock_names.specs.Names.{Bound, Named, NamedStep, of_ring, found, fresh, total, kept, stays, at_ring}
use Rattle.lock_names.specs.Kept.{NamedView, named_of, reached, noted_at, IsTaken}
use Rattle.lock_names.specs.Leaves.{settled, told_left, name_left, names_left}
use Rattle.lock_names.proofs.Found.{none_some, not_some, unlike}
use Rattle.lock_names.proofs.Fitting.{total_set, at_ring_is, moved}
use Rattle.lock_names.proofs.LeftNames.{left_lock}
use Rattle.lock_names.proofs.Taking.{Reaches}
use Rattle.name_service.specs.declared.service.NameTerms.{NameTerms}
use Rattle.name_service.specs.Naming.{NamingView, is_no_lock}
use Rattle.name_service.specs.Noting.{binding_of, note_of_new, note_of_free, note_at, note_of_name_left, notes_of_names_left}
use Rattle.name_service.specs.NamesText.{pool_bindings, names_text}
use Rattle.name_service.specs.Serving.{IsNameToldOf, IsNameToldIf, IsNameToldOfLeave, IsNameTold, IsNameAnsweredIf, IsNameInputAnswered, IsNameLineAnswered}
use Rattle.name_service.specs.RightNames.{AreRightNames}
use Rattle.name_service.specs.RingLines.{IsOfNoRing}
use Rattle.name_service.specs.NameLines.{begun_names}
use Rattle.name_service.specs.NamesBack.{NamesComeBackOfJournals}
use Rattle.name_service.proofs.AskedRings.{reaching, none_is, wanting_is}
use Rattle.name_service.proofs.LeaveOfRings.{left_state}
use Rattle.name_service.proofs.PlainNotes.{ArePlain, plain_note, plain_left}
use Rattle.name_service.proofs.RightNames.{line_right, lines_right}
use Rattle.name_service.proofs.TakenNotes.{IsTakenText, taken_both, taken_none, taken_plain, taken_bind, taken_free, pool_many, pool_set, recorded_of, IsFitting, fresh_fits, begun_taken}

-- ---- the notes of one line

-- what a line notes records the names after it, and its grants are those of the rings
pub record IsRecordedSo (floor : ℕ) (old new : NamedView) (note : List ℕ) : Type 0 where
  pub taken : IsTakenText note (recorded_of floor old.fixed old.names) (recorded_of floor new.fixed new.names)
  pub more : total (locks_of old.locks) ≤ total (locks_of new.locks)
  pub grants : new.top + total (locks_of old.locks) ≡ old.top + total (locks_of new.locks)

nothing_recorded : (floor : ℕ) (old new : NamedView) (note : List ℕ) → new ≡ old → note ≡ [] → IsRecordedSo floor old new note
nothing_recorded floor old new note e f =
    subst (λ (v : NamedView). IsRecordedSo floor old v note) (sym e)
    (subst (λ (u : List ℕ). IsRecordedSo floor old old u) (sym f) (record { taken = taken_none (recorded_of floor old.fixed old.names); more = omega arith; grants = refl }))

module _ (floor fixed : ℕ) (os : List (Option Bound)) (i : ℕ) (lt : i < length os) (few : length os ≤ 1000000) where
  among : i < length (pool_bindings fixed os)
  among = let many : length (pool_bindings fixed os) ≡ length os = pool_many fixed os in omega (arith, lt)

  taken_set : (o : Option Bound) → fixed ≤ i → record { top = Some floor; rings = slice_set (pool_bindings fixed os) i (option_map binding_of o) } ≡ recorded_of floor fixed (slice_set os i o)
  taken_set o le = ap (λ (bs : List (Option Binding)). record { top = Some floor; rings = bs }) (sym (pool_set fixed os i o le))

  pub new_taken : (b : Bound) → IsFitting b → IsName b.name → fixed ≤ i → IsTakenText (remark_text (bind i (binding_of b))) (recorded_of floor fixed os) (recorded_of floor fixed (slice_set os i (Some b)))
  new_taken b f is le =
      subst (λ (t : Bindings). IsTakenText (remark_text (bind i (binding_of b))) (recorded_of floor fixed os) t) (taken_set (Some b) le)
      (taken_bind i (binding_of b) (recorded_of floor fixed os) (omega (arith, lt, few), (f.before, (f.floor, is))) among)

  pub freed_taken : fixed ≤ i → IsTakenText (remark_text (free i)) (recorded_of floor fixed os) (recorded_of floor fixed (slice_set os i None))
  freed_taken le =
      subst (λ (t : Bindings). IsTakenText (remark_text (free i)) (recorded_of floor fixed os) t) (taken_set None le)
      (taken_free i (recorded_of floor fixed os) (omega (arith, lt, few)) among)

plain_taken : (text : List ℕ) (t : Bindings) → ArePlain text → IsTakenText text t t
plain_taken text t p = taken_plain text t p.lines p.hashless

-- ---- an ask

module _ (floor : ℕ) (v : NamedView) (x : List ℕ) (i : ℕ) (right : AreRightNames v) (bits : v.top < 2 ^ 64) (is : IsName x) (lt : i < length v.names) (plain : List ℕ) (p : ArePlain plain) where
  few : length v.names ≤ 1000000
  few =
      let many : length v.names ≡ length (locks_of v.locks) = right.named.many in
      let same : length (locks_of v.locks) ≡ length v.locks = length-map v.locks lock_of in
      let most : length v.locks ≤ lock_limit = right.few in
      omega arith

  abbrev was : Bindings
  was = recorded_of floor v.fixed v.names

  pub note_taken : (q d : Bool) → (q ≡ true → d ≡ false) → (q ≡ true → v.fixed ≤ i) → (d ≡ true → v.fixed ≤ i) →
      IsTakenText (note_of_new (named_of v) x i q ++ (plain ++ note_of_free i d)) was (recorded_of floor v.fixed (noted_at (named_of v) x (Some i) q d))
  note_taken true true apart new freed = absurd (true≢false (apart refl))
  note_taken true false apart new freed =
      let after : Bindings = recorded_of floor v.fixed (slice_set v.names i (Some (fresh (named_of v) x i))) in
      taken_both (note_of_new (named_of v) x i true) (plain ++ []) was after after
      (new_taken floor v.fixed v.names i lt few (fresh (named_of v) x i) (fresh_fits v x i right bits) is (new refl))
      (taken_both plain [] after after after (plain_taken plain after p) (taken_none after))
  note_taken false true apart new freed =
      let after : Bindings = recorded_of floor v.fixed (slice_set v.names i None) in
      taken_both plain (note_of_free i true) was was after (plain_taken plain was p) (freed_taken floor v.fixed v.names i lt few (freed refl))
  note_taken false false apart new freed = taken_both plain [] was was was (plain_taken plain was p) (taken_none was)

both_true : (a b : Bool) → (a && b) ≡ true → (a ≡ true) × (b ≡ true)
both_true true b e = (refl, e)
both_true false b e = absurd (true≢false (sym e))

not_true : (a : Bool) → not a ≡ true → a ≡ false
not_true true e = absurd (true≢false (sym e))
not_true false e = refl

module _ (floor : ℕ) (c : ℕ) (x : List ℕ) (a : Ask) (old new : NamedView) (r : NameAnswers) (is : IsName x) (right : AreRightNames old) (bits : old.top < 2 ^ 64) (p : ℕ × Bound) (e : reached (named_of old) x a ≡ Some p) (k : IsTaken old new c x a r) where
  abbrev i : ℕ
  i = p.0

  abbrev b : Bound
  b = p.1

  abbrev s : Named
  s = named_of old

  reaches : Reaches s x a i b
  reaches = reaching s x a right.named p e

  state : named_of new ≡ (at_ring s c i b a).named
  state = k.named ∙ ap (λ (z : NamedStep). z.named) (reaches.step c)

  pub new_free : r.fresh ≡ true → (found x old.names ≡ None) × (old.fixed ≤ i)
  new_free f =
      let none : found x old.names ≡ None = not_some (found x old.names) (not_true (is_some (found x old.names)) (both_true (not (is_some (found x old.names))) (is_some (found x new.names)) (sym k.fresh ∙ f)).0) in
      elim reaches.which [
        | inl g ↦ absurd (none_some (i, b) (sym none ∙ g))
        | inr g ↦ (none, (right.named.each i reaches.fits.lock None reaches.fits.there g.1).0)
      ]

  pub not_freed : r.fresh ≡ true → r.freed ≡ false
  not_freed f = k.freed ∙ ap (λ (o : Option (ℕ × Bound)). is_some o && not (is_some (found x new.names))) (new_free f).0

  pub freed_pool : r.freed ≡ true → old.fixed ≤ i
  freed_pool f = elim (cases_lt i old.fixed) [
    | inl lt ↦
        let some = both_true (is_some (found x old.names)) (not (is_some (found x new.names))) (sym k.freed ∙ f) in
        let none : found x new.names ≡ None = not_some (found x new.names) (not_true (is_some (found x new.names)) some.1) in
        let stay : stays old.fixed i (at_ring s c i b a).named.locks ≡ true = ap (λ (q : Bool). q || is_some (holder_of (slice_get (at_ring s c i b a).named.locks i))) (lt-ltb i old.fixed lt) in
        let names : new.names ≡ slice_set old.names i (Some b) = ap (λ (z : Named). z.names) state ∙ ap (λ (q : Bool). slice_set old.names i (kept q b)) stay in
        let here : slice_get new.names i ≡ Some (Some b) = ap (λ (os : List (Option Bound)). slice_get os i) names ∙ get_set_same old.names i (Some b) reaches.fits.was reaches.fits.entry in
        absurd (unlike x new.names i b none here reaches.name)
    | inr le ↦ le
  ]

  pub asked_recorded : r.ring ≡ Some i → (note : List ℕ) → note ≡ note_at (Some i) old new x r → IsRecordedSo floor old new note
  asked_recorded ring note f =
      let l : Lock = reaches.fits.lock in
      let t : Lock = (turn s.locks l c (of_ring b a)).lock in
      let lt : i < length old.names = slice_get_within old.names i reaches.fits.was reaches.fits.entry in
      let all = note_taken floor old x i right bits is lt (note_about i old.locks new.locks r.ended) (plain_note i old.locks new.locks r.ended) r.fresh r.freed not_freed (λ g. (new_free g).1) freed_pool in
      let fixed : new.fixed ≡ old.fixed = ap (λ (z : Named). z.fixed) state in
      let names : new.names ≡ noted_at s x (Some i) r.fresh r.freed = k.names ∙ ap (λ (o : Option ℕ). noted_at s x o r.fresh r.freed) ring in
      let turned : named_of new ≡ (at_ring s c i b a).named = state in
      let is_turned = ap (λ (z : NamedStep). z.named) (at_ring_is s c i b a l reaches.fits.there) in
      let sum : total (locks_of new.locks) ≡ total (slice_set s.locks i t) = ap (λ (z : Named). total z.locks) (turned ∙ is_turned) in
      let top : new.top ≡ old.top + (t.ring.grants - l.ring.grants) = ap (λ (z : Named). z.top) (turned ∙ is_turned) in
      let set : total (slice_set s.locks i t) + l.ring.grants ≡ total s.locks + t.ring.grants = total_set s.locks i l t reaches.fits.there in
      let grows : l.ring.grants ≤ t.ring.grants = (moved s.locks l c (of_ring b a) (right.named.right.each i l reaches.fits.there).ring).more in
      record {
        taken = subst (λ (u : List ℕ). IsTakenText u (recorded_of floor old.fixed old.names) (recorded_of floor new.fixed new.names)) (sym f)
            (subst (λ (n : ℕ). IsTakenText (note_at (Some i) old new x r) (recorded_of floor old.fixed old.names) (recorded_of floor n new.names)) (sym fixed)
            (subst (λ (os : List (Option Bound)). IsTakenText (note_at (Some i) old new x r) (recorded_of floor old.fixed old.names) (recorded_of floor old.fixed os)) (sym names) all));
        more = omega arith;
        grants = omega arith;
      }

-- ---- a leave

abbrev pub IsBelow : ℕ → Left → Type 0
IsBelow n l = l.lock < n

below_append : (n : ℕ) (xs ys : List Left) → AllByRecursion (IsBelow n) xs → AllByRecursion (IsBelow n) ys → AllByRecursion (IsBelow n) (xs ++ ys)
below_append n [] ys p q = q
below_append n (x ∷ xs) ys p q = (p.0, below_append n xs ys p.1 q)

pub left_below : (c m n : ℕ) (vs : List LockView) → m ≤ n → AllByRecursion (IsBelow n) (left_of c vs m)
left_below c zero n vs le = tt
left_below c (suc m) n vs le = below_append n (left_of c vs m) (left_at c m (slice_get vs m)) (left_below c m n vs (omega (arith, le))) (at (slice_get vs m))
  where
    by : (o : Option HoldEnd) (g : Option Holder) → AllByRecursion (IsBelow n) (left_by m o g)
    by None g = tt
    by (Some h) g = (omega (arith, le), tt)

    at : (o : Option LockView) → AllByRecursion (IsBelow n) (left_at c m o)
    at None = tt
    at (Some v) = by (ended_in v.ring (turn [] (lock_of v) c Leave).marks) (turn [] (lock_of v) c Leave).lock.holder

pub told_below : (n : ℕ) (os : List (Option Bound)) (ls : List Left) → AllByRecursion (IsBelow n) ls → AllByRecursion (IsBelow n) (map (told_left os) ls)
told_below n os [] all = tt
told_below n os (l ∷ ls) all = (all.0, told_below n os ls all.1)

pub leave_taken : (floor fixed : ℕ) (vs : List LockView) (os : List (Option Bound)) (ls : List Left) → length os ≤ 1000000 → AllByRecursion (IsBelow (length os)) ls → IsTakenText (notes_of_names_left fixed vs ls) (recorded_of floor fixed os) (recorded_of floor fixed (names_left fixed os ls))
leave_taken floor fixed vs os [] most all = taken_none (recorded_of floor fixed os)
leave_taken floor fixed vs os (l ∷ ls) most all =
    taken_both (note_of_name_left fixed vs l) (notes_of_names_left fixed vs ls) (recorded_of floor fixed os) (recorded_of floor fixed (name_left fixed os l)) (recorded_of floor fixed (names_left fixed os (l ∷ ls)))
    (one (nat_lt l.lock fixed || is_some l.granted) (λ e. ltb-false l.lock fixed (first_false (nat_lt l.lock fixed) (is_some l.granted) e)))
    (leave_taken floor fixed vs (name_left fixed os l) ls (subst (λ (n : ℕ). n ≤ 1000000) (sym same) most) (subst (λ (n : ℕ). AllByRecursion (IsBelow n) ls) (sym same) all.1))
  where
    first_false : (a b : Bool) → (a || b) ≡ false → a ≡ false
    first_false true b e = absurd (true≢false e)
    first_false false b e = refl

    many : (q : Bool) → length (if q then os else slice_set os l.lock None) ≡ length os
    many true = refl
    many false = length-set os l.lock None

    same : length (name_left fixed os l) ≡ length os
    same = many (nat_lt l.lock fixed || is_some l.granted)

    one : (q : Bool) → (q ≡ false → fixed ≤ l.lock) → IsTakenText (note_of_left vs l ++ note_of_free l.lock (not q)) (recorded_of floor fixed os) (recorded_of floor fixed (if q then os else slice_set os l.lock None))
    one true k = taken_both (note_of_left vs l) [] (recorded_of floor fixed os) (recorded_of floor fixed os) (recorded_of floor fixed os) (plain_taken (note_of_left vs l) (recorded_of floor fixed os) (plain_left vs l)) (taken_none (recorded_of floor fixed os))
    one false k = taken_both (note_of_left vs l) (note_of_free l.lock true) (recorded_of floor fixed os) (recorded_of floor fixed os) (recorded_of floor fixed (slice_set os l.lock None))
        (plain_taken (note_of_left vs l) (recorded_of floor fixed os) (plain_left vs l)) (freed_taken floor fixed os l.lock all.0 most (k refl))

rings_grow : (c : ℕ) (ls : List Lock) → ((i : ℕ) (l : Lock) → slice_get ls i ≡ Some l → IsRing l.ring.ring) → total ls ≤ total (map (left_lock c) ls)
rings_grow c [] rings = let le : 0 ≤ 0 = omega arith in le
rings_grow c (l ∷ ls) rings =
    let one : l.ring.grants ≤ (left_lock c l).ring.grants = (moved [] l c Leave (rings zero l refl)).more in
    let rest : total ls ≤ total (map (left_lock c) ls) = rings_grow c ls (λ i. rings (suc i)) in
    omega arith

leave_recorded : (floor : ℕ) (terms : NameTerms) (c : ℕ) (old new : NamingView) (said noted : List ℕ) → IsNameToldOfLeave terms.lines.noting c old said noted new → AreRightNames old.named → terms.lines.noting ≡ true → IsRecordedSo floor old.named new.named noted
leave_recorded floor terms c old new said noted t right noting =
    let s : Named = named_of old.named in
    let state : named_of new.named ≡ settled s (map (left_lock c) s.locks) = left_state terms c old new said noted t right in
    let note : noted ≡ notes_of_names_left old.named.fixed new.named.locks new.left = t.notes ∙ ap (λ (q : Bool). cond q (notes_of_names_left old.named.fixed new.named.locks new.left) []) noting in
    let many : length old.named.names ≡ length s.locks = right.named.many in
    let same : length s.locks ≡ length old.named.locks = length-map old.named.locks lock_of in
    let most : length old.named.locks ≤ lock_limit = right.few in
    let rings : length old.named.names ≡ length old.named.locks = omega arith in
    let raw : AllByRecursion (IsBelow (length old.named.names)) t.done.raw =
    subst (λ (ls : List Left). AllByRecursion (IsBelow (length old.named.names)) ls) (sym t.done.locks.told) (left_below c (length old.named.locks) (length old.named.names) old.named.locks (omega arith)) in
    let below : AllByRecursion (IsBelow (length old.named.names)) new.left =
    subst (λ (ls : List Left). AllByRecursion (IsBelow (length old.named.names)) ls) (sym t.done.told) (told_below (length old.named.names) old.named.names t.done.raw raw) in
    let fixed : new.named.fixed ≡ old.named.fixed = ap (λ (z : Named). z.fixed) state in
    let low : ℕ = total s.locks in
    let high : ℕ = total (map (left_lock c) s.locks) in
    let sum : total (locks_of new.named.locks) ≡ high = ap (λ (z : Named). total z.locks) state in
    let top : new.named.top ≡ old.named.top + (high - low) = ap (λ (z : Named). z.top) state in
    let grows : low ≤ high = rings_grow c s.locks (λ i l e. (right.named.right.each i l e).ring) in
    let all = leave_taken floor old.named.fixed new.named.locks old.named.names new.left (omega arith) below in
    record {
      taken = subst (λ (u : List ℕ). IsTakenText u (recorded_of floor old.named.fixed old.named.names) (recorded_of floor new.named.fixed new.named.names)) (sym note)
          (subst (λ (n : ℕ). IsTakenText (notes_of_names_left old.named.fixed new.named.locks new.left) (recorded_of floor old.named.fixed old.named.names) (recorded_of floor n new.named.names)) (sym fixed)
          (subst (λ (os : List (Option Bound)). IsTakenText (notes_of_names_left old.named.fixed new.named.locks new.left) (recorded_of floor old.named.fixed old.named.names) (recorded_of floor old.named.fixed os)) (sym t.done.names) all));
      more = omega arith;
      grants = omega arith;
    }

-- ---- a line

module _ (floor : ℕ) (terms : NameTerms) (old new : NamingView) (said noted : List ℕ) (right : AreRightNames old.named) (bits : old.named.top < 2 ^ 64) (noting : terms.lines.noting ≡ true) where
  same_recorded : new ≡ old → noted ≡ [] → IsRecordedSo floor old.named new.named noted
  same_recorded e f = nothing_recorded floor old.named new.named noted (ap (λ (v : NamingView). v.named) e) f

  none_recorded : IsOfNoRing old.named said noted new.named → IsRecordedSo floor old.named new.named noted
  none_recorded n = nothing_recorded floor old.named new.named noted n.same n.notes

  by_reached : (c : ℕ) (x : List ℕ) (a : Ask) → IsName x → (t : IsNameToldOf terms c x a old said noted new) → IsTaken old.named new.named c x a t.answers → (o : Option (ℕ × Bound)) → reached (named_of old.named) x a ≡ o → IsRecordedSo floor old.named new.named noted
  by_reached c x a is t k None e = none_recorded (none_is terms c x a old new said noted t e k)
  by_reached c x a is t k (Some p) e =
      let ring : t.answers.ring ≡ Some p.0 = t.done.ring ∙ ap (λ (o : Option (ℕ × Bound)). option_map (λ (q : ℕ × Bound). q.0) o) e in
      let note : noted ≡ note_at (Some p.0) old.named new.named x t.answers =
      t.notes ∙ (ap (λ (q : Bool). cond q (note_at t.answers.ring old.named new.named x t.answers) []) noting ∙ ap (λ (o : Option ℕ). note_at o old.named new.named x t.answers) ring) in
      asked_recorded floor c x a old.named new.named t.answers is right bits p e k ring noted note

  asked_line : (c : ℕ) (x : List ℕ) (a : Ask) → IsName x → IsNameToldOf terms c x a old said noted new → IsRecordedSo floor old.named new.named noted
  asked_line c x a is t = elim t.done.answer [
    | inl k ↦ by_reached c x a is t k (reached (named_of old.named) x a) refl
    | inr w ↦ none_recorded (wanting_is terms c x a old new said noted t w)
  ]

  if_lock_line : (q : Bool) (c : ℕ) (x : List ℕ) (a : Ask) → IsName x → IsNameToldIf q terms c x a old said noted new → IsRecordedSo floor old.named new.named noted
  if_lock_line true c x a is t = same_recorded t.leaves t.notes
  if_lock_line false c x a is t = asked_line c x a is t

  told_line : (c : ℕ) (ask : lines.Ask) → lines.HasName ask → IsNameTold terms c (one_ask ask) old said noted new → IsRecordedSo floor old.named new.named noted
  told_line c (lines.acquire name label) is t = if_lock_line (is_no_lock terms.most old.named name (Acquire label)) c name (Acquire label) is t
  told_line c (lines.try name label) is t = if_lock_line (is_no_lock terms.most old.named name (Try label)) c name (Try label) is t
  told_line c (lines.release name token) is t = if_lock_line (is_no_lock terms.most old.named name (Release token)) c name (Release token) is t
  told_line c (lines.cancel name) is t = if_lock_line (is_no_lock terms.most old.named name Cancel) c name Cancel is t
  told_line c lines.leave is t = leave_recorded floor terms c old new said noted t right noting
  told_line c (lines.corrupt name machine value) is t = if_lock_line (is_no_lock terms.most old.named name (Corrupt (in_32_bits machine) (in_32_bits value))) c name (Corrupt (in_32_bits machine) (in_32_bits value)) is t
  told_line c (lines.stats name) is t = if_lock_line (is_no_lock terms.most old.named name Stats) c name Stats is t

  if_line : (off : Bool) (c : ℕ) (ask : lines.Ask) → lines.HasName ask → IsNameAnsweredIf off terms c ask old said noted new → IsRecordedSo floor old.named new.named noted
  if_line true c ask is t = same_recorded t.leaves t.notes
  if_line false c ask is t = told_line c ask is t

  input_line : (line : List ℕ) (i : Input) → IsReadAs line i → IsNameInputAnswered terms i old said noted new → IsRecordedSo floor old.named new.named noted
  input_line line (input.Asked c ask) r t = if_line (is_off terms.lines.faults ask) c ask r.1.named t
  input_line line (input.Refused c why) r t = same_recorded t.leaves t.notes
  input_line line input.Nobody r t = same_recorded t.leaves t.notes

  pub line_recorded : (line : List ℕ) → IsNameLineAnswered terms old line said noted new → IsRecordedSo floor old.named new.named noted
  line_recorded line a = input_line line a.0 a.1 a.2

-- ---- lines

lines_recorded : (floor : ℕ) (terms : NameTerms) (old new : NamingView) (all : List (List ℕ)) (said noted : List ℕ) → AreRightNames old.named → new.named.top < 2 ^ 64 → terms.lines.noting ≡ true → Answers (IsNameLineAnswered terms) old all said noted new →
    IsRecordedSo floor old.named new.named noted
lines_recorded floor terms old new [] said noted right bits noting a = nothing_recorded floor old.named new.named noted (ap (λ (v : NamingView). v.named) a.2) a.1
lines_recorded floor terms old new (line ∷ all) said noted right bits noting a =
    let mid : NamingView = a.0 in
    let here = line_right terms old mid a.1 a.3 right line a.5 in
    let end = lines_right terms mid new all a.2 a.4 here.right a.8 in
    let low : old.named.top ≤ mid.named.top = here.more in
    let high : mid.named.top ≤ new.named.top = end.more in
    let one = line_recorded floor terms old mid a.1 a.3 right (omega (arith, low, high, bits)) noting line a.5 in
    let rest = lines_recorded floor terms mid new all a.2 a.4 here.right bits noting a.8 in
    let x : total (locks_of old.named.locks) ≤ total (locks_of mid.named.locks) = one.more in
    let y : total (locks_of mid.named.locks) ≤ total (locks_of new.named.locks) = rest.more in
    let g : mid.named.top + total (locks_of old.named.locks) ≡ old.named.top + total (locks_of mid.named.locks) = one.grants in
    let h : new.named.top + total (locks_of mid.named.locks) ≡ mid.named.top + total (locks_of new.named.locks) = rest.grants in
    record {
      taken = subst (λ (u : List ℕ). IsTakenText u (recorded_of floor old.named.fixed old.named.names) (recorded_of floor new.named.fixed new.named.names)) (sym a.7)
          (taken_both a.3 a.4 (recorded_of floor old.named.fixed old.named.names) (recorded_of floor mid.named.fixed mid.named.names) (recorded_of floor new.named.fixed new.named.names) one.taken rest.taken);
      more = omega arith;
      grants = omega arith;
    }

pub names_come_back : NamesComeBackOfJournals
names_come_back terms old new lines said noted begun right a bits =
    let floor : ℕ = old.named.top in
    let end = lines_right terms old new lines said noted right a.answers in
    let low : old.named.top ≤ new.named.top = end.more in
    let r = lines_recorded floor terms old new lines said noted right bits a.noting a.answers in
    let none : Bindings = nothing (length old.named.locks) in
    let was : Bindings = recorded_of floor old.named.fixed old.named.names in
    let is : Bindings = recorded_of floor new.named.fixed new.named.names in
    let content = content_of old.named.locks in
    let head : IsTakenText (begun_text old.named.locks) none none = taken_plain (begun_text old.named.locks) none (inr (head_ends content)) (no_hash_head content begun.text) in
    let names : IsTakenText (names_text old.named) none was = begun_taken old.named right (omega (arith, low, bits)) in
    let front = taken_both (begun_text old.named.locks) (names_text old.named) none none was head names in
    let whole = taken_both (begun_names old.named) noted none was is front r.taken in
    let more : total (locks_of old.named.locks) ≤ total (locks_of new.named.locks) = r.more in
    let grants : new.named.top + total (locks_of old.named.locks) ≡ old.named.top + total (locks_of new.named.locks) = r.grants in
    record { recorded = whole.taken; more = r.more; grants = omega arith }
