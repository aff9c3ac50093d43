-- What the notes of names record of the rings.
use Rattle.std.proofs.Common.{◌≡◌, ℕ, zero, suc, ◌+◌, ◌-◌, ◌^◌, ◌<◌, ◌≤◌, Bool, true, false, List, [], ◌∷◌, ◌++◌, length, map, Option, Some, None, inl, inr, refl, sym, ap, subst, ◌∙◌, arith}
use Rattle.std.specs.Prelude.{codes, slice_get, slice_set, option_map, ◌||◌}
use Rattle.std.specs.List.{list_any, AllByRecursion}
use Rattle.std.proofs.lemmas.Bool.{true≢false}
use Rattle.std.proofs.lemmas.List.{length-map}
use Rattle.text_lines.specs.Spelling.{ended}
use Rattle.segment_files.specs.Remarks.{lines_in, is_remark, remark_of}
use Rattle.segment_files.specs.RemarkLaws.{IsOneLine, AreLines}
use Rattle.segment_files.proofs.Remarked.{HasNoHash, lines_append, line_then, no_hash_lines}
use Rattle.held_locks.specs.Queues.{Lock}
use Rattle.held_locks.specs.Kept.{lock_of, locks_of, lock_limit}
use Rattle.lock_protocol.specs.Names.{IsName}
use Rattle.name_remarks.specs.Remarks.{Binding, Remark, bind, free, top, remark_text, Fits, BeginsAsOne}
use Rattle.name_remarks.specs.Bindings.{Bindings, nothing, after, IsAmong, AreTakenIn, binds, beginning, text_of}
use Rattle.name_remarks.proofs.Taken.{beginnings_record_all}
use Rattle.lock_journal.proofs.WholeTexts.{of_both}
use Rattle.lock_names.specs.Names.{Bound, fresh, total, grants_at}
use Rattle.lock_names.specs.Promises.{IsRightBound}
use Rattle.lock_names.specs.Kept.{NamedView, named_of}
use Rattle.lock_names.proofs.Fitting.{lock_at}
use Rattle.name_service.specs.Noting.{binding_of}
use Rattle.name_service.specs.NamesText.{bindings_of, pool_bindings, bindings_in, names_text}
use Rattle.name_service.specs.RightNames.{AreRightNames}
use Rattle.name_service.proofs.AskedRings.{grants_among}
use Rattle.name_service.proofs.PlainNotes.{bind_line, bind_is_line, free_is_line, top_is_line}

-- ---- texts that are taken in

-- whole lines are taken in, from what was recorded before to what is after them
pub record IsTakenText (text : List ℕ) (old new : Bindings) : Type 0 where
  pub lines : AreLines text
  pub taken : AreTakenIn (lines_in text) old new

taken_append : (xs ys : List (List ℕ)) (old mid new : Bindings) → AreTakenIn xs old mid → AreTakenIn ys mid new → AreTakenIn (xs ++ ys) old new
taken_append [] ys old mid new a b = subst (λ (t : Bindings). AreTakenIn ys t new) a b
taken_append (x ∷ xs) ys old mid new a b = (a.0, (a.1.0, taken_append xs ys a.0 mid new a.1.1 b))

pub taken_both : (a b : List ℕ) (old mid new : Bindings) → IsTakenText a old mid → IsTakenText b mid new → IsTakenText (a ++ b) old new
taken_both a b old mid new p q = record {
  lines = of_both a b p.lines q.lines;
  taken = subst (λ (ls : List (List ℕ)). AreTakenIn ls old new) (sym (lines_append a b p.lines)) (taken_append (lines_in a) (lines_in b) old mid new p.taken q.taken);
}

pub no_lines : lines_in [] ≡ []
unfolding lines_in
no_lines = refl

pub taken_none : (old : Bindings) → IsTakenText [] old old
taken_none old = record { lines = inl refl; taken = subst (λ (ls : List (List ℕ)). AreTakenIn ls old old) (sym no_lines) refl }

-- lines that are not remarks say nothing of names
neither : (a b : Bool) → (a || b) ≡ false → (a ≡ false) × (b ≡ false)
neither true b e = absurd cc
neither false b e = (refl, e)

hashed : (word rest line : List ℕ) → is_remark (word ++ rest) ≡ true → line ≡ word ++ rest → is_remark line ≡ false → ⊥
hashed word rest line e same none = true≢false (sym e ∙ (ap (λ (u : List ℕ). is_remark u) (sym same) ∙ none))

no_name : (line : List ℕ) → is_remark line ≡ false → BeginsAsOne line → ⊥
no_name line none (inl b) = hashed (codes "# name ") b.0 line refl b.1 none
no_name line none (inr (inl b)) = hashed (codes "# free ") b.0 line refl b.1 none
no_name line none (inr (inr b)) = hashed (codes "# floor ") b.0 line refl b.1 none

others_taken : (lines : List (List ℕ)) (old : Bindings) → list_any is_remark lines ≡ false → AreTakenIn lines old old
others_taken [] old none = refl
others_taken (line ∷ lines) old none =
    let n = neither (is_remark line) (list_any is_remark lines) none in
    (old, (inr (no_name line n.0, refl), others_taken lines old n.1))

pub taken_plain : (text : List ℕ) (old : Bindings) → AreLines text → HasNoHash text → IsTakenText text old old
taken_plain text old lines none = record { lines = lines; taken = others_taken (lines_in text) old (no_hash_lines text none.none) }

-- a remark about names
pub one_line : (line : List ℕ) → IsOneLine line → lines_in (remark_of line) ≡ remark_of line ∷ []
one_line line l =
    let body : List ℕ = 35 ∷ 32 ∷ l.0 in
    let is : remark_of line ≡ body ++ 10 ∷ [] = ap (λ (u : List ℕ). remark_of u) l.1 in
    ap (λ (u : List ℕ). lines_in u) is ∙ (line_then body [] l.2 ∙ (ap (λ (ls : List (List ℕ)). (body ++ 10 ∷ []) ∷ ls) no_lines ∙ ap (λ (u : List ℕ). u ∷ []) (sym is)))

taken_remark : (r : Remark) (line : List ℕ) (old : Bindings) → remark_text r ≡ remark_of line → IsOneLine line → Fits r → IsAmong r old.rings → IsTakenText (remark_text r) old (after old r)
taken_remark r line old same l fits among = record {
  lines = inr (35 ∷ 32 ∷ l.0, same ∙ ap (λ (u : List ℕ). remark_of u) l.1);
  taken = subst (λ (ls : List (List ℕ)). AreTakenIn ls old (after old r)) (sym (ap (λ (u : List ℕ). lines_in u) same ∙ (one_line line l ∙ ap (λ (u : List ℕ). u ∷ []) (sym same))))
      (after old r, (inl (r, (record { fits = fits; is = refl }, (among, refl))), refl));
}

pub taken_bind : (ring : ℕ) (b : Binding) (old : Bindings) → Fits (bind ring b) → ring < length old.rings → IsTakenText (remark_text (bind ring b)) old (after old (bind ring b))
taken_bind ring b old fits lt = taken_remark (bind ring b) (bind_line ring b) old refl (bind_is_line ring b fits.1.1.1) fits lt

pub taken_free : (ring : ℕ) (old : Bindings) → ring < 2 ^ 32 → ring < length old.rings → IsTakenText (remark_text (free ring)) old (after old (free ring))
taken_free ring old small lt = taken_remark (free ring) (codes "free " ++ ended ring) old refl (free_is_line ring) small lt

-- each of several remarks is a line
abbrev IsOfOneLine : Remark → Type 0
IsOfOneLine r = (line : List ℕ) × (remark_text r ≡ remark_of line) × IsOneLine line

remark_lines : (rs : List Remark) → AllByRecursion IsOfOneLine rs → AreLines (text_of rs) × (lines_in (text_of rs) ≡ map remark_text rs)
remark_lines [] all = (inl refl, no_lines)
remark_lines (r ∷ rs) all =
    let o = all.0 in
    let rest = remark_lines rs all.1 in
    let first : AreLines (remark_text r) = inr (35 ∷ 32 ∷ o.2.0, o.1 ∙ ap (λ (u : List ℕ). remark_of u) o.2.1) in
    let one : lines_in (remark_text r) ≡ remark_text r ∷ [] = ap (λ (u : List ℕ). lines_in u) o.1 ∙ (one_line o.0 o.2 ∙ ap (λ (u : List ℕ). u ∷ []) (sym o.1)) in (
      of_both (remark_text r) (text_of rs) first rest.0,
      lines_append (remark_text r) (text_of rs) first ∙ (ap (λ (ls : List (List ℕ)). ls ++ lines_in (text_of rs)) one ∙ ap (λ (ls : List (List ℕ)). remark_text r ∷ ls) rest.1),
    )

-- ---- how rings are bound, as a text has it

bindings_many : (os : List (Option Bound)) → length (bindings_of os) ≡ length os
bindings_many os = length-map os (λ (o : Option Bound). option_map binding_of o)

pub pool_many : (fixed : ℕ) (os : List (Option Bound)) → length (pool_bindings fixed os) ≡ length os
pool_many zero os = bindings_many os
pool_many (suc fixed) [] = refl
pool_many (suc fixed) (o ∷ os) = ap (λ (n : ℕ). suc n) (pool_many fixed os)

bindings_set : (os : List (Option Bound)) (i : ℕ) (o : Option Bound) → bindings_of (slice_set os i o) ≡ slice_set (bindings_of os) i (option_map binding_of o)
bindings_set [] i o = refl
bindings_set (p ∷ os) zero o = refl
bindings_set (p ∷ os) (suc i) o = ap (λ (bs : List (Option Binding)). option_map binding_of p ∷ bs) (bindings_set os i o)

pub pool_set : (fixed : ℕ) (os : List (Option Bound)) (i : ℕ) (o : Option Bound) → fixed ≤ i → pool_bindings fixed (slice_set os i o) ≡ slice_set (pool_bindings fixed os) i (option_map binding_of o)
pool_set zero os i o le = bindings_set os i o
pool_set (suc fixed) [] i o le = refl
pool_set (suc fixed) (p ∷ os) zero o le = absurd (omega (arith, le))
pool_set (suc fixed) (p ∷ os) (suc i) o le = ap (λ (bs : List (Option Binding)). None ∷ bs) (pool_set fixed os i o (omega (arith, le)))

-- what is recorded of these names, where there were this number of grants at the beginning
abbrev pub recorded_of : ℕ → ℕ → List (Option Bound) → Bindings
recorded_of floor fixed os = record { top = Some floor; rings = pool_bindings fixed os }

-- ---- the numbers of a binding

pub record IsFitting (b : Bound) : Type 0 where
  pub before : b.before < 2 ^ 64
  pub floor : b.floor < 2 ^ 64

pub right_fits : (v : NamedView) (i : ℕ) (b : Bound) → AreRightNames v → v.top < 2 ^ 64 → slice_get v.names i ≡ Some (Some b) → IsFitting b
right_fits v i b right bits e =
    let w = lock_at (named_of v) i (Some b) right.named e in
    let r : IsRightBound v.top w.0 b = (right.named.each i w.0 (Some b) w.1 e).0 in
    let before : b.before ≤ w.0.ring.grants = r.before in
    let token : b.floor + (w.0.ring.grants - b.before) ≤ v.top = r.token in
    let one : w.0.ring.grants ≤ total (locks_of v.locks) = grants_among (locks_of v.locks) i w.0 w.1 in
    let all : total (locks_of v.locks) ≤ v.top = right.counted in
    record { before = omega arith; floor = omega arith }

pub fresh_fits : (v : NamedView) (x : List ℕ) (i : ℕ) → AreRightNames v → v.top < 2 ^ 64 → IsFitting (fresh (named_of v) x i)
fresh_fits v x i right bits =
    let all : total (locks_of v.locks) ≤ v.top = right.counted in
    let few : grants_at (slice_get (locks_of v.locks) i) ≤ total (locks_of v.locks) = at (slice_get (locks_of v.locks) i) refl in
    record { before = omega arith; floor = omega (arith, bits) }
  where
    at : (o : Option Lock) → slice_get (locks_of v.locks) i ≡ o → grants_at o ≤ total (locks_of v.locks)
    at None e = omega arith
    at (Some l) e = grants_among (locks_of v.locks) i l e

-- ---- the beginning

abbrev AreFitting : List (Option Bound) → Type 0
AreFitting os = (i : ℕ) (b : Bound) → slice_get os i ≡ Some (Some b) → IsFitting b × IsName b.name

binds_fit : (at : ℕ) (os : List (Option Bound)) → at + length os < 2 ^ 32 → AreFitting os → AllByRecursion Fits (binds at (bindings_of os))
binds_fit at [] lt all = tt
binds_fit at (None ∷ os) lt all = binds_fit (suc at) os (omega (arith, lt)) (λ i. all (suc i))
binds_fit at (Some b ∷ os) lt all =
    let w = all zero b refl in
    ((omega (arith, lt), (w.0.before, (w.0.floor, w.1))), binds_fit (suc at) os (omega (arith, lt)) (λ i. all (suc i)))

pool_fits : (fixed at : ℕ) (os : List (Option Bound)) → at + length os < 2 ^ 32 → AreFitting os → AllByRecursion Fits (binds at (pool_bindings fixed os))
pool_fits zero at os lt all = binds_fit at os lt all
pool_fits (suc fixed) at [] lt all = tt
pool_fits (suc fixed) at (o ∷ os) lt all = pool_fits fixed (suc at) os (omega (arith, lt)) (λ i. all (suc i))

of_one_line : (r : Remark) → Fits r → IsOfOneLine r
of_one_line (bind ring b) f = (bind_line ring b, refl, bind_is_line ring b f.1.1.1)
of_one_line (free ring) f = (codes "free " ++ ended ring, refl, free_is_line ring)
of_one_line (top n) f = (codes "floor " ++ ended n, refl, top_is_line n)

all_of_one_line : (rs : List Remark) → AllByRecursion Fits rs → AllByRecursion IsOfOneLine rs
all_of_one_line [] all = tt
all_of_one_line (r ∷ rs) all = (of_one_line r all.0, all_of_one_line rs all.1)

pub begun_taken : (v : NamedView) → AreRightNames v → v.top < 2 ^ 64 → IsTakenText (names_text v) (nothing (length v.locks)) (recorded_of v.top v.fixed v.names)
begun_taken v right bits =
    let t : Bindings = bindings_in v in
    let many : length v.names ≡ length (locks_of v.locks) = right.named.many in
    let locks : length (locks_of v.locks) ≡ length v.locks = length-map v.locks lock_of in
    let most : length v.locks ≤ lock_limit = right.few in
    let rings : length (pool_bindings v.fixed v.names) ≡ length v.names = pool_many v.fixed v.names in
    let same : length (pool_bindings v.fixed v.names) ≡ length v.locks = omega arith in
    let fits : AllByRecursion Fits (beginning t) = (bits, pool_fits v.fixed 0 v.names (omega arith) (λ i b e. (right_fits v i b right bits e, right.spelled i b e))) in
    let l = remark_lines (beginning t) (all_of_one_line (beginning t) fits) in
    let taken : AreTakenIn (map remark_text (beginning t)) (nothing (length t.rings)) t = (beginnings_record_all t t fits).1 refl in
    record {
      lines = l.0;
      taken = subst (λ (ls : List (List ℕ)). AreTakenIn ls (nothing (length v.locks)) t) (sym l.1) (subst (λ (n : ℕ). AreTakenIn (map remark_text (beginning t)) (nothing n) t) same taken);
    }
