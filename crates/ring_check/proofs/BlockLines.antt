-- The blocks of a text, one after the other, and the whole text.
use Rattle.std.proofs.Common.{◌≡◌, ℕ, ◌+◌, ◌<◌, ◌≤◌, List, [], ◌∷◌, ◌++◌, length, take, drop, get_or, map, true, false, cond, Option, Some, None, Result, Ok, Err, refl, sym, ◌∙◌, ap, subst, arith, eqb, zero, suc, length-append, append-nil}
use Rattle.std.specs.Prelude.{IsErr, IsErrAnd}
use Rattle.std.specs.List.{flat_map}
use Rattle.std.proofs.lemmas.List.{length-map, take_more, drop_more, take-append-drop, take_all}
use Rattle.std.proofs.lemmas.List.Folds.{length-flat_map-take}
use Rattle.std.proofs.lemmas.Grind.{flat_map-append}
use Rattle.saved_history.specs.declared.saved.SavedRing.{SavedRing}
use Rattle.saved_history.specs.Content.{Block, Content, block_of}
use Rattle.ring_check.specs.declared.answers.Kind.{Kind}
use Rattle.ring_check.specs.declared.answers.Kind.TheVariants.{Count}
use Rattle.ring_check.specs.declared.answers.Summary.{Summary}
use Rattle.ring_check.specs.declared.answers.CheckError.{CheckError}
use Rattle.ring_check.specs.declared.answers.CheckError.TheVariants.{Bad, OutOfMemory}
use Rattle.ring_check.specs.Lines.{Line, DoneLine, block_lines, lines}
use Rattle.ring_check.specs.Table.{Before, nothing, after_line, after_lines}
use Rattle.ring_check.specs.Scan.{or_behind, first_fault, Finds}
use Rattle.ring_check.specs.Legal.{IsLegalText, IsFirstBad, IsRightCheck}
use Rattle.ring_check.proofs.Scans.{or_else, fault_append, after_append, found, good_none, line_next, version_kept}
use Rattle.ring_check.proofs.Blocks.{block_leaves, block_long, finds_front, finds_none, finds_as, handed_on}

map_at : (rs : List SavedRing) (i : ℕ) (x : SavedRing) → get_or (map block_of rs) i (block_of x) ≡ block_of (get_or rs i x)
map_at [] i x = refl
map_at (r ∷ rs) zero x = refl
map_at (r ∷ rs) (suc i) x = map_at rs i x

pub ring_at : (rs : List SavedRing) (i : ℕ) (x : SavedRing) → x ≡ get_or rs i x → get_or (map block_of rs) i (block_of x) ≡ block_of x
ring_at rs i x e = map_at rs i x ∙ ap block_of (sym e)

-- the lines of the first i blocks are good
pub record AreGoodBlocks (version : ℕ) (rs : List SavedRing) (i line : ℕ) : Type 0 where
  pub none : first_fault (nothing version) (flat_map block_lines (take i (map block_of rs))) ≡ None
  pub at_line : (after_lines (nothing version) (flat_map block_lines (take i (map block_of rs)))).line ≡ line
  pub rings : (after_lines (nothing version) (flat_map block_lines (take i (map block_of rs)))).rings ≡ i
  pub long : line ≡ length (flat_map block_lines (take i (map block_of rs))) + 1

module _ (version : ℕ) (rs : List SavedRing) (i line : ℕ) (x : SavedRing) (l : i < length rs) (e : x ≡ get_or rs i x) (good : AreGoodBlocks version rs i line) where
  pub ring_room : line + length x.events.items + length x.surveys.items + 4 ≤ length (flat_map block_lines (map block_of rs)) + 2
  ring_room =
      let n : length (map block_of rs) ≡ length rs = length-map rs block_of in
      let lt : i < length (map block_of rs) = omega arith in
      let at = ring_at rs i x e in
      let room : length (flat_map block_lines (take i (map block_of rs))) + length (block_lines (block_of x)) ≤ length (flat_map block_lines (map block_of rs)) =
      subst (λ (y : Block). length (flat_map block_lines (take i (map block_of rs))) + length (block_lines y) ≤ length (flat_map block_lines (map block_of rs))) at
      (length-flat_map-take block_lines (map block_of rs) i (block_of x) lt) in
      let long = block_long (block_of x) in
      let was = good.long in
      omega arith

  push : flat_map block_lines (take (i + 1) (map block_of rs)) ≡ flat_map block_lines (take i (map block_of rs)) ++ block_lines (block_of x)
  push =
      let n : length (map block_of rs) ≡ length rs = length-map rs block_of in
      let lt : i < length (map block_of rs) = omega arith in
      ap (λ (u : List Block). flat_map block_lines u) (take_more (map block_of rs) i (block_of x) lt ∙ ap (λ (y : Block). take i (map block_of rs) ++ y ∷ []) (ring_at rs i x e))
      ∙ flat_map-append block_lines (take i (map block_of rs)) (block_of x ∷ [])
      ∙ ap (λ (u : List Line). flat_map block_lines (take i (map block_of rs)) ++ u) (append-nil (block_lines (block_of x)))

  parts : flat_map block_lines (map block_of rs) ≡ flat_map block_lines (take i (map block_of rs)) ++ (block_lines (block_of x) ++ flat_map block_lines (drop (i + 1) (map block_of rs)))
  parts =
      let n : length (map block_of rs) ≡ length rs = length-map rs block_of in
      let lt : i < length (map block_of rs) = omega arith in
      ap (λ (u : List Block). flat_map block_lines u) (sym (take-append-drop i (map block_of rs)) ∙ ap (λ (u : List Block). take i (map block_of rs) ++ u) (drop_more (map block_of rs) i (block_of x) lt
      ∙ ap (λ (y : Block). y ∷ drop (i + 1) (map block_of rs)) (ring_at rs i x e)))
      ∙ flat_map-append block_lines (take i (map block_of rs)) (block_of x ∷ drop (i + 1) (map block_of rs))

  pub ring_stop : (X Y : Type 0) (error : CheckError) →
      ((b : Before) → b.version ≡ version → b.line ≡ line → b.rings ≡ i → Finds {X = X} (first_fault b (block_lines (block_of x))) (Err error)) →
      Finds {X = Y} (first_fault (nothing version) (flat_map block_lines (map block_of rs))) (Err error)
  unfolding parts
  ring_stop X Y error h =
      let front = flat_map block_lines (take i (map block_of rs)) in
      let back = flat_map block_lines (drop (i + 1) (map block_of rs)) in
      let at = after_lines (nothing version) front in
      let here = h at (version_kept (nothing version) front) good.at_line good.rings in
      finds_as Y _ (or_else (first_fault at (block_lines (block_of x))) (first_fault (after_lines at (block_lines (block_of x))) back)) (Err error)
      (ap (λ (u : List Line). first_fault (nothing version) u) parts ∙ fault_append (nothing version) front (block_lines (block_of x) ++ back)
      ∙ ap (λ (u : Option (ℕ × Kind)). or_else u (first_fault at (block_lines (block_of x) ++ back))) good.none
      ∙ fault_append at (block_lines (block_of x)) back)
      (finds_front X Y (first_fault at (block_lines (block_of x))) _ error here)

  pub ring_good : (X : Type 0) (u : X) →
      ((b : Before) → b.version ≡ version → b.line ≡ line → b.rings ≡ i → Finds {X = X} (first_fault b (block_lines (block_of x))) (Ok u)) →
      AreGoodBlocks version rs (i + 1) (line + (3 + length x.events.items + length x.surveys.items))
  unfolding push
  ring_good X u h =
      let front = flat_map block_lines (take i (map block_of rs)) in
      let at = after_lines (nothing version) front in
      let none : first_fault at (block_lines (block_of x)) ≡ None = finds_none (first_fault at (block_lines (block_of x))) u (h at (version_kept (nothing version) front) good.at_line good.rings) in
      let leaves = block_leaves at (block_of x) in
      let lines = leaves.0 in
      let places = leaves.1 in
      let on : after_lines (nothing version) (flat_map block_lines (take (i + 1) (map block_of rs))) ≡ after_lines at (block_lines (block_of x)) =
      ap (λ (u : List Line). after_lines (nothing version) u) push ∙ after_append (nothing version) front (block_lines (block_of x)) in
      let was = good.at_line in
      let at_place = good.rings in
      let long = good.long in
      let more : length (flat_map block_lines (take (i + 1) (map block_of rs))) ≡ length front + length (block_lines (block_of x)) =
      ap (λ (u : List Line). length u) push ∙ length-append front (block_lines (block_of x)) in
      let wide = block_long (block_of x) in
      record {
        none = ap (λ (u : List Line). first_fault (nothing version) u) push ∙ fault_append (nothing version) front (block_lines (block_of x))
            ∙ ap (λ (u : Option (ℕ × Kind)). or_else u (first_fault at (block_lines (block_of x)))) good.none ∙ none;
        at_line = ap (λ (u : Before). u.line) on ∙ omega arith;
        rings = ap (λ (u : Before). u.rings) on ∙ omega arith;
        long = omega arith;
      }

pub good_end : (version : ℕ) (rs : List SavedRing) (i line : ℕ) → length rs ≤ i → AreGoodBlocks version rs i line →
    (first_fault (nothing version) (flat_map block_lines (map block_of rs)) ≡ None) × (line ≡ length (flat_map block_lines (map block_of rs)) + 1)
good_end version rs i line l good =
    let n : length (map block_of rs) ≡ length rs = length-map rs block_of in
    let all : take i (map block_of rs) ≡ map block_of rs = take_all i (map block_of rs) (omega arith) in (
      subst (λ (u : List Block). first_fault (nothing version) (flat_map block_lines u) ≡ None) all good.none,
      subst (λ (u : List Block). line ≡ length (flat_map block_lines u) + 1) all good.long,
    )

-- The whole text.

pub lines_leave : (b : Before) (ls : List Line) → (after_lines b ls).line ≡ b.line + length ls
lines_leave b [] = omega arith
lines_leave b (l ∷ ls) = let h = lines_leave (after_line b l) ls in let e = line_next b l in omega arith

pub rings_leave : (b : Before) (bs : List Block) → (after_lines b (flat_map block_lines bs)).rings ≡ b.rings + length bs
rings_leave b [] = omega arith
rings_leave b (r ∷ bs) =
    let h = rings_leave (after_lines b (block_lines r)) bs in
    let leaves = block_leaves b r in
    let one = leaves.1 in
    let on = ap (λ (u : Before). u.rings) (after_append b (block_lines r) (flat_map block_lines bs)) in
    omega arith

pub text_parts : (s : Content) → first_fault (nothing s.version) (lines s)
    ≡ or_else (first_fault (nothing s.version) (flat_map block_lines s.rings)) (or_behind (cond (eqb s.rings_said (length s.rings)) None (Some Count)) (length (flat_map block_lines s.rings) + 1) None)
text_parts s =
    let at = after_lines (nothing s.version) (flat_map block_lines s.rings) in
    let line : at.line ≡ length (flat_map block_lines s.rings) + 1 = let h = lines_leave (nothing s.version) (flat_map block_lines s.rings) in omega arith in
    let place : at.rings ≡ length s.rings = let h = rings_leave (nothing s.version) s.rings in omega arith in
    let one : first_fault at (DoneLine s.rings_said ∷ []) ≡ or_behind (cond (eqb s.rings_said (length s.rings)) None (Some Count)) (length (flat_map block_lines s.rings) + 1) None =
    ap (λ (x : ℕ). or_behind (cond (eqb s.rings_said x) None (Some Count)) at.line None) place
    ∙ ap (λ (x : ℕ). or_behind (cond (eqb s.rings_said (length s.rings)) None (Some Count)) x None) line in
    fault_append (nothing s.version) (flat_map block_lines s.rings) (DoneLine s.rings_said ∷ [])
    ∙ ap (λ (u : Option (ℕ × Kind)). or_else (first_fault (nothing s.version) (flat_map block_lines s.rings)) u) one

pub text_stop : (X Y : Type 0) (s : Content) (error : CheckError) → Finds {X = X} (first_fault (nothing s.version) (flat_map block_lines s.rings)) (Err error) →
    Finds {X = Y} (first_fault (nothing s.version) (lines s)) (Err error)
text_stop X Y s error h = finds_as Y _ _ (Err error) (text_parts s) (finds_front X Y (first_fault (nothing s.version) (flat_map block_lines s.rings)) _ error h)

pub text_count : (X : Type 0) (u : X) (s : Content) → Finds (first_fault (nothing s.version) (flat_map block_lines s.rings)) (Ok u) → eqb s.rings_said (length s.rings) ≡ false →
    first_fault (nothing s.version) (lines s) ≡ Some (length (flat_map block_lines s.rings) + 1 + 1, Count)
text_count X u s h w =
    let none = finds_none (first_fault (nothing s.version) (flat_map block_lines s.rings)) u h in
    text_parts s ∙ rw (none, w) refl

pub text_right : (X : Type 0) (u : X) (s : Content) → Finds (first_fault (nothing s.version) (flat_map block_lines s.rings)) (Ok u) → eqb s.rings_said (length s.rings) ≡ true →
    IsLegalText s
text_right X u s h w =
    let none = finds_none (first_fault (nothing s.version) (flat_map block_lines s.rings)) u h in
    good_none (nothing s.version) (lines s) (text_parts s ∙ rw (none, w) refl)

-- the checker may answer the fault that is found
pub right_bad : (s : Content) (line : ℕ) (kind : Kind) → first_fault (nothing s.version) (lines s) ≡ Some (line, kind) → IsFirstBad s.version (lines s) line kind
right_bad s line kind h =
    let f = found (nothing s.version) (lines s) (line, kind) h in
    let at = f.4 in
    (f.0, f.1, f.2, f.3, omega arith, f.5, f.6)

pub right_error : (X : Type 0) (s : Content) (error : CheckError) → Finds {X = X} (first_fault (nothing s.version) (lines s)) (Err error) → IsRightCheck s (Err error)
right_error X s OutOfMemory h = tt
right_error X s (Bad line kind) h = go (first_fault (nothing s.version) (lines s)) refl h
  where
    go : (f : Option (ℕ × Kind)) → first_fault (nothing s.version) (lines s) ≡ f → Finds {X = X} f (Err (Bad line kind)) → IsFirstBad s.version (lines s) line kind
    go None e h = absurd h
    go (Some bad) e h = rw (h.0, h.1) (right_bad s bad.0 bad.1 e)

pub right_handed_on : (s : Content) (r : Result Summary CheckError) (error : CheckError) → IsErr r × IsErrAnd r (λ x. x ≡ error) →
    Finds {X = Summary} (first_fault (nothing s.version) (lines s)) (Err error) → IsRightCheck s r
right_handed_on s r error h f = subst (λ (x : Result Summary CheckError). IsRightCheck s x) (sym (handed_on r error h)) (right_error Summary s error f)

pub lines_long : (s : Content) → length (lines s) ≡ length (flat_map block_lines s.rings) + 1
lines_long s = let a = length-append (flat_map block_lines s.rings) (DoneLine s.rings_said ∷ []) in omega arith
