-- The rings with which a file begins, one after the other.
use Rattle.std.proofs.Common.{◌≡◌, ℕ, ◌+◌, ◌<◌, ◌≤◌, inl, inr, List, [], ◌∷◌, ◌++◌, length, map, drop, get_or, Some, refl, sym, ap, subst, ◌∙◌, append_assoc, append-nil, arith}
use Rattle.std.specs.Prelude.{min, nat_lt}
use Rattle.std.proofs.lemmas.Bool.{cases_Bool, ltb-true, ltb-false}
use Rattle.std.proofs.lemmas.List.{drop_more, drop_all, get_or-map, length-map}
use Rattle.std.proofs.lemmas.Option.{slice_get-get_or}
use Rattle.ring_model.specs.declared.bases.Base.{Base}
use Rattle.saved_history.specs.declared.saved.SavedRing.{SavedRing}
use Rattle.saved_history.specs.Content.{Block, block_of}
use Rattle.segment_files.specs.Files.{File, IsFile}
use Rattle.chain_readers.specs.declared.hold_errors.HoldError.{HoldError}
use Rattle.chain_readers.specs.declared.hold_errors.HoldError.TheVariants as unheld
use Rattle.name_check.specs.declared.lines.Ring.{Ring}
use Rattle.judged_files.specs.declared.faults.JudgeError.{JudgeError}
use Rattle.judged_files.specs.declared.faults.JudgeError.TheVariants as refused
use Rattle.judged_files.specs.Beginnings.{beginning, IsRing, AreRings, IsNoRing, refused_at, AreUnheld, IsUnbegun}

-- what is found so far, and what comes then
abbrev pub AreFound : List Base → List Block → ℕ → List Ring → Type 0
AreFound bs ks i found =
    (gs : List Ring) → AreRings (drop i bs) (drop i ks) gs → AreRings bs ks (found ++ gs)

pub none_found : (bs : List Base) (ks : List Block) → AreFound bs ks 0 []
none_found bs ks gs are = are

pub one_found : (bs : List Base) (ks : List Block) (i : ℕ) (found : List Ring) (b : Base) (k : Block) (g : Ring) → i < length bs → i < length ks → IsRing (get_or bs i b) (get_or ks i k) g → AreFound bs ks i found → AreFound bs ks (i + 1) (found ++ g ∷ [])
one_found bs ks i found b k g lt less is so gs are =
    subst (λ (u : List Ring). AreRings bs ks u) (sym (append_assoc found (g ∷ []) gs))
    (so (g ∷ gs) (subst (λ (u : List Base). AreRings u (drop i ks) (g ∷ gs)) (sym (drop_more bs i b lt)) (subst (λ (u : List Block). AreRings (get_or bs i b ∷ drop (i + 1) bs) u (g ∷ gs)) (sym (drop_more ks i k less)) (is, are))))

no_bases : (ks : List Block) → AreRings [] ks []
no_bases [] = refl
no_bases (k ∷ ks) = refl

no_blocks : (bs : List Base) → AreRings bs [] []
no_blocks [] = refl
no_blocks (b ∷ bs) = refl

none_left : (bs : List Base) (ks : List Block) (i : ℕ) → min (length bs) (length ks) ≤ i → AreRings (drop i bs) (drop i ks) []
none_left bs ks i le = elim (cases_Bool (nat_lt i (length bs))) [
  | inl q ↦
      let lt : i < length bs = ltb-true i (length bs) q in
      let past : length ks ≤ i = omega (arith, le, lt) in
      subst (λ (u : List Block). AreRings (drop i bs) u []) (sym (drop_all i ks past)) (no_blocks (drop i bs))
  | inr q ↦
      let past : length bs ≤ i = ltb-false i (length bs) q in
      subst (λ (u : List Base). AreRings u (drop i ks) []) (sym (drop_all i bs past)) (no_bases (drop i ks))
]

pub all_found : (bs : List Base) (ks : List Block) (i : ℕ) (found : List Ring) → min (length bs) (length ks) ≤ i → AreFound bs ks i found → AreRings bs ks found
all_found bs ks i found le so = subst (λ (u : List Ring). AreRings bs ks u) (append-nil found) (so [] (none_left bs ks i le))

-- ---- of rings as they are read

block_at : (rs : List SavedRing) (i : ℕ) (r : SavedRing) → i < length rs → get_or (map block_of rs) i (block_of r) ≡ block_of (get_or rs i r)
block_at rs i r lt = get_or-map block_of rs i r (block_of r) lt

as_many : (rs : List SavedRing) (i : ℕ) → i < length rs → i < length (map block_of rs)
as_many rs i lt = let n : length (map block_of rs) ≡ length rs = length-map rs block_of in omega (arith, n, lt)

pub ring_found : (bs : List Base) (rs : List SavedRing) (i : ℕ) (found : List Ring) (b : Base) (d r : SavedRing) (g : Ring) → i < length bs → i < length rs → r ≡ get_or rs i d → IsRing (get_or bs i b) (block_of r) g → AreFound bs (map block_of rs) i found → AreFound bs (map block_of rs) (i + 1) (found ++ g ∷ [])
ring_found bs rs i found b d r g lt less e is so =
    one_found bs (map block_of rs) i found b (block_of d) g lt (as_many rs i less)
    (subst (λ (k : Block). IsRing (get_or bs i b) k g) (ap (λ (q : SavedRing). block_of q) e ∙ sym (block_at rs i d less)) is) so

pub ring_unheld : (bs : List Base) (rs : List SavedRing) (i : ℕ) (b : Base) (d r : SavedRing) (e : HoldError) → i < length bs → i < length rs → r ≡ get_or rs i d → IsNoRing (get_or bs i b) (block_of r) e → AreUnheld bs (map block_of rs) (refused_at i e)
ring_unheld bs rs i b d r (unheld.NoHold at) lt less e is = (
  get_or bs i b,
  block_of r,
  slice_get-get_or bs i b lt,
  slice_get-get_or (map block_of rs) i (block_of d) (as_many rs i less) ∙ ap (λ (k : Block). Some k) (block_at rs i d less ∙ ap (λ (q : SavedRing). block_of q) (sym e)),
  is,
)
ring_unheld bs rs i b d r unheld.OutOfMemory lt less e is = tt

pub rings_found : (bs : List Base) (rs : List SavedRing) (i : ℕ) (found : List Ring) → min (length bs) (length rs) ≤ i → AreFound bs (map block_of rs) i found → AreRings bs (map block_of rs) found
rings_found bs rs i found le so = all_found bs (map block_of rs) i found (let n : length (map block_of rs) ≡ length rs = length-map rs block_of in omega (arith, n, le)) so

-- ---- refusals

pub unbegun_by : (bytes : List ℕ) (f : File) → f.bytes ≡ beginning bytes → IsFile f → (e : JudgeError) → AreUnheld f.head.bases f.content.rings e → IsUnbegun bytes e
unbegun_by bytes f same is (refused.Line number c) why = absurd why
unbegun_by bytes f same is (refused.NoHold ring at) why = (f, same, is, why)
unbegun_by bytes f same is (refused.Segment e) why = absurd why
unbegun_by bytes f same is refused.OutOfMemory why = tt
