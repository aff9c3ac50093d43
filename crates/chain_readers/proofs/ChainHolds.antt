-- What is known of a lock after the files of a chain are its holds.
use Rattle.std.proofs.Common.{◌≡◌, ℕ, zero, suc, ◌+◌, Bool, true, false, cond, List, [], ◌∷◌, ◌++◌, length, map, drop, append_assoc, refl, sym, ◌∙◌, ap, subst, Option, Some, None, Result, Ok, Err, inl, inr}
use Rattle.std.specs.Prelude.{◌⊎◌, ◌==◌, slice_get}
use Rattle.saved_history.specs.Content.{Block}
use Rattle.ring_model.specs.Bases.{no_base}
use Rattle.segment_files.specs.Files.{File}
use Rattle.chain_readers.specs.declared.signs.Sign.{Sign}
use Rattle.chain_readers.specs.Signs.{signs_of}
use Rattle.chain_readers.specs.Known.{Known, nobody_holds, nothing_known, all_holds, read}
use Rattle.chain_readers.specs.Chains.{Part, parts_in, at_number, of_lock, signs_in, AreHoldsAfter, AreHoldsIn, started, with_first, with_parts, locks_opened, LeadTo, part_of, unknown, FilesTellHolds, BlocksTellHolds}
use Rattle.chain_readers.proofs.Reading.{read_ok}
use Rattle.chain_readers.proofs.Told.{read_first, read_later}

-- ---- the signs of segments

pub signs_append : (xs ys : List Part) → signs_in (xs ++ ys) ≡ signs_in xs ++ signs_in ys
signs_append [] ys = refl
signs_append (x ∷ xs) ys = ap (λ (u : List (ℕ × Sign)). signs_of x.base x.block ++ u) (signs_append xs ys) ∙ sym (append_assoc (signs_of x.base x.block) (signs_in xs) (signs_in ys))

-- read on through more segments
read_parts : (k m n : Known) (xs ys : List Part) → read k (signs_in xs) ≡ Ok m → read m (signs_in ys) ≡ Ok n → read k (signs_in (xs ++ ys)) ≡ Ok n
read_parts k m n xs ys e f = ap (read k) (signs_append xs ys) ∙ read_ok k (signs_in xs) (signs_in ys) m e ∙ f

read_part : (k m : Known) (p : Part) → read k (signs_of p.base p.block) ≡ Ok m → read k (signs_in (p ∷ [])) ≡ Ok m
read_part k m p e = read_ok k (signs_of p.base p.block) [] m e

-- ---- lists

some_is : (a b : Known) → ◌≡◌ {A = Option Known} (Some a) (Some b) → a ≡ b
some_is a b e = cc

none_no : (a : Known) → ◌≡◌ {A = Option Known} None (Some a) → ⊥
none_no a e = cc

ks_are : (xs ys : List Known) → ◌≡◌ {A = Result (List Known) (ℕ × ℕ)} (Ok xs) (Ok ys) → xs ≡ ys
ks_are xs ys e = cc

err_no : (e : ℕ × ℕ) (xs : List Known) → ◌≡◌ {A = Result (List Known) (ℕ × ℕ)} (Err e) (Ok xs) → ⊥
err_no e xs q = cc

-- ---- one file

-- both the first lock and the others were read
record AreRead (r : Result Known ℕ) (others : Result (List Known) (ℕ × ℕ)) (ns : List Known) : Type 0 where
  first : Known
  more : List Known
  is : r ≡ Ok first
  are : others ≡ Ok more
  all : first ∷ more ≡ ns

both_read : (r : Result Known ℕ) (lock : ℕ) (others : Result (List Known) (ℕ × ℕ)) (ns : List Known) → with_first r lock others ≡ Ok ns → AreRead r others ns
both_read (Err at) lock others ns e = absurd (err_no (lock, at) ns e)
both_read (Ok k) lock (Err x) ns e = absurd (err_no x ns e)
both_read (Ok k) lock (Ok ks) ns e = record { first = k; more = ks; is = refl; are = refl; all = ks_are (k ∷ ks) ns e }

-- what is known of a lock
abbrev IsReadOn : List Known → ℕ → Known → List Part → Type 0
IsReadOn ns i k ps = (m : Known) × (slice_get ns i ≡ Some m) × (read k (signs_in ps) ≡ Ok m)

read_at : (lock : ℕ) (ks : List Known) (ps : List Part) (ns : List Known) (i : ℕ) (k : Known) → with_parts lock ks ps ≡ Ok ns → slice_get ks i ≡ Some k → IsReadOn ns i k (at_number i ps)
read_at lock [] ps ns i k e at = absurd (none_no k at)
read_at lock (x ∷ ks) [] ns i k e at = (k, ap (λ (u : List Known). slice_get u i) (sym (ks_are (x ∷ ks) ns e)) ∙ at, refl)
read_at lock (x ∷ ks) (p ∷ ps) ns zero k e at =
    let r = both_read (read x (signs_of p.base p.block)) lock (with_parts (lock + 1) ks ps) ns e in
    let same : x ≡ k = some_is x k at in
    (r.first, ap (λ (u : List Known). slice_get u 0) (sym r.all), read_part k r.first p (ap (λ (u : Known). read u (signs_of p.base p.block)) (sym same) ∙ r.is))
read_at lock (x ∷ ks) (p ∷ ps) ns (suc i) k e at =
    let r = both_read (read x (signs_of p.base p.block)) lock (with_parts (lock + 1) ks ps) ns e in
    let more = read_at (lock + 1) ks ps r.more i k r.are at in
    (more.0, ap (λ (u : List Known). slice_get u (suc i)) (sym r.all) ∙ more.1, more.2)

none_at : (lock : ℕ) (ks : List Known) (ps : List Part) (ns : List Known) (i : ℕ) → with_parts lock ks ps ≡ Ok ns → slice_get ks i ≡ None → slice_get ns i ≡ None
none_at lock [] ps ns i e at = ap (λ (u : List Known). slice_get u i) (sym (ks_are [] ns e)) ∙ at
none_at lock (x ∷ ks) [] ns i e at = ap (λ (u : List Known). slice_get u i) (sym (ks_are (x ∷ ks) ns e)) ∙ at
none_at lock (x ∷ ks) (p ∷ ps) ns zero e at = absurd (none_no x (sym at))
none_at lock (x ∷ ks) (p ∷ ps) ns (suc i) e at =
    let r = both_read (read x (signs_of p.base p.block)) lock (with_parts (lock + 1) ks ps) ns e in
    ap (λ (u : List Known). slice_get u (suc i)) (sym r.all) ∙ none_at (lock + 1) ks ps r.more i r.are at

-- a lock that there is, and one more
old_at : (ks ys : List Known) (i : ℕ) (k : Known) → slice_get ks i ≡ Some k → slice_get (ks ++ ys) i ≡ Some k
old_at [] ys i k e = absurd (none_no k e)
old_at (x ∷ ks) ys zero k e = e
old_at (x ∷ ks) ys (suc i) k e = old_at ks ys i k e

abbrev IsOpened : List Known → List Part → ℕ → Type 0
IsOpened ns ps i = ((slice_get ns i ≡ None) × (at_number i ps ≡ [])) ⊎ ((p : Part) × (slice_get ns i ≡ Some (started p)) × (at_number i ps ≡ p ∷ []))

started_at : (ps : List Part) (i : ℕ) → IsOpened (map started ps) ps i
started_at [] i = inl (refl, refl)
started_at (p ∷ ps) zero = inr (p, refl, refl)
started_at (p ∷ ps) (suc i) = started_at ps i

no_more_at : (ks : List Known) (i : ℕ) → slice_get ks i ≡ None → slice_get (ks ++ []) i ≡ None
no_more_at [] i e = e
no_more_at (x ∷ ks) zero e = e
no_more_at (x ∷ ks) (suc i) e = no_more_at ks i e

opened_at : (ks : List Known) (ps : List Part) (i : ℕ) → slice_get ks i ≡ None → IsOpened (locks_opened ks ps) ps i
opened_at [] ps i e = started_at ps i
opened_at (x ∷ ks) [] i e = inl (no_more_at (x ∷ ks) i e, refl)
opened_at (x ∷ ks) (p ∷ ps) zero e = absurd (none_no x (sym e))
opened_at (x ∷ ks) (p ∷ ps) (suc i) e = opened_at ks ps i e

-- ---- all files

known_on : (fs : List File) (ks ms : List Known) (i : ℕ) (k : Known) → LeadTo ks fs ms → slice_get ks i ≡ Some k → IsReadOn ms i k (of_lock i fs)
known_on [] ks ms i k t at = (k, ap (λ (u : List Known). slice_get u i) (sym t) ∙ at, refl)
known_on (f ∷ fs) ks ms i k t at =
    let ps : List Part = parts_in f in
    let one = read_at 0 (locks_opened ks ps) ps t.0 i k t.1 (old_at ks (map started (drop (length ks) ps)) i k at) in
    let more = known_on fs t.0 ms i one.0 t.2 one.1 in
    (more.0, more.1, read_parts k one.0 more.0 (at_number i ps) (of_lock i fs) one.2 more.2)

abbrev IsNew : List Known → ℕ → List Part → Type 0
IsNew ms i ps =
    ((slice_get ms i ≡ None) × (ps ≡ []))
    ⊎ ((p : Part) × (more : List Part) × (m : Known) × (ps ≡ p ∷ more) × (slice_get ms i ≡ Some m) × (read (started p) (signs_in (p ∷ more)) ≡ Ok m))

new_on : (fs : List File) (ks ms : List Known) (i : ℕ) → LeadTo ks fs ms → slice_get ks i ≡ None → IsNew ms i (of_lock i fs)
new_on [] ks ms i t at = inl (ap (λ (u : List Known). slice_get u i) (sym t) ∙ at, refl)
new_on (f ∷ fs) ks ms i t at = go (opened_at ks (parts_in f) i at) (λ none. new_on fs t.0 ms i t.2 none)
  where
    go : IsOpened (locks_opened ks (parts_in f)) (parts_in f) i → (slice_get t.0 i ≡ None → IsNew ms i (of_lock i fs)) → IsNew ms i (of_lock i (f ∷ fs))
    go (inl o) next =
        subst (λ (u : List Part). IsNew ms i (u ++ of_lock i fs)) (sym o.1) (next (none_at 0 (locks_opened ks (parts_in f)) (parts_in f) t.0 i t.1 o.0))
    go (inr o) next =
        let one = read_at 0 (locks_opened ks (parts_in f)) (parts_in f) t.0 i (started o.0) t.1 o.1 in
        let more = known_on fs t.0 ms i one.0 t.2 one.1 in
        let first : read (started o.0) (signs_in (o.0 ∷ [])) ≡ Ok one.0 = subst (λ (u : List Part). read (started o.0) (signs_in u) ≡ Ok one.0) o.2 one.2 in
        inr (o.0, of_lock i fs, more.0, ap (λ (u : List Part). u ++ of_lock i fs) o.2, more.1, read_parts (started o.0) one.0 more.0 (o.0 ∷ []) (of_lock i fs) first more.2)

-- ---- the meaning

holds_after : (b : Bool) (signs : List (ℕ × Sign)) (m : Known) → read (cond b nobody_holds nothing_known) signs ≡ Ok m → AreHoldsAfter b (all_holds m) signs
holds_after true signs m e = read_first signs m e
holds_after false signs m e = read_later signs m e

pub files_tell_holds : FilesTellHolds
files_tell_holds fs ms t i m at = go (new_on fs [] ms i t refl)
  where
    go : IsNew ms i (of_lock i fs) → AreHoldsIn (of_lock i fs) (all_holds m)
    go (inl o) = absurd (none_no m (sym o.0 ∙ at))
    go (inr o) =
        let same : o.2 ≡ m = some_is o.2 m (sym o.4 ∙ at) in
        subst (λ (u : List Part). AreHoldsIn u (all_holds m)) (sym o.3)
        (holds_after (o.0.base.events == 0) (signs_in (o.0 ∷ o.1)) m (o.5 ∙ ap (λ (u : Known). Ok u) same))

blocks_at : (lock : ℕ) (ks : List Block) (ms : List Known) (i : ℕ) (m : Known) → with_parts lock (map unknown ks) (map part_of ks) ≡ Ok ms → slice_get ms i ≡ Some m →
    (k : Block) × (slice_get ks i ≡ Some k) × (read nothing_known (signs_of no_base k) ≡ Ok m)
blocks_at lock [] ms i m e at = absurd (none_no m (ap (λ (u : List Known). slice_get u i) (ks_are [] ms e) ∙ at))
blocks_at lock (k ∷ ks) ms zero m e at =
    let r = both_read (read nothing_known (signs_of no_base k)) lock (with_parts (lock + 1) (map unknown ks) (map part_of ks)) ms e in
    let same : r.first ≡ m = some_is r.first m (ap (λ (u : List Known). slice_get u 0) r.all ∙ at) in (k, refl, r.is ∙ ap (λ (u : Known). Ok u) same)
blocks_at lock (k ∷ ks) ms (suc i) m e at =
    let r = both_read (read nothing_known (signs_of no_base k)) lock (with_parts (lock + 1) (map unknown ks) (map part_of ks)) ms e in
    blocks_at (lock + 1) ks r.more i m r.are (ap (λ (u : List Known). slice_get u (suc i)) r.all ∙ at)

pub blocks_tell_holds : BlocksTellHolds
blocks_tell_holds ks ms e i m at =
    let r = blocks_at 0 ks ms i m e at in (r.0, r.1, read_later (signs_of no_base r.0) m r.2)
