-- A call more at one of the rings.
use Rattle.std.proofs.Common.{◌≡◌, ℕ, zero, suc, ◌+◌, ◌<◌, List, [], ◌∷◌, ◌++◌, length, map, get_or, set, drop, refl, sym, ap, ◌∙◌, arith}
use Rattle.std.specs.List.{All}
use Rattle.std.proofs.lemmas.List.{map_push, drop_more}
use Rattle.saved_history.specs.declared.saved.SavedRing.{SavedRing}
use Rattle.saved_history.specs.Content.{Block, block_of}
use Rattle.journal.specs.declared.calls.Call.{Call}
use Rattle.journal.specs.declared.calls.JournalLine.{JournalLine}
use Rattle.journal.specs.ContentAfter.{with_call, with_call_at, with_calls, in_order}

pub placed : (rings : List SavedRing) (i : ℕ) (x d : SavedRing) (call : Call) → i < length rings → block_of x ≡ with_call (block_of (get_or rings i d)) call → map block_of (set rings i x) ≡ with_call_at (map block_of rings) i call
placed [] i x d call lt e = absurd (omega arith)
placed (r ∷ rs) zero x d call lt e = ap (λ (b : Block). b ∷ map block_of rs) e
placed (r ∷ rs) (suc i) x d call lt e = ap (λ (bs : List Block). block_of r ∷ bs) (placed rs i x d call (omega arith) e)

-- one call more of those that are left
pub placed_more : (rings : List SavedRing) (calls : List JournalLine) (i : ℕ) (d : JournalLine) (x y : SavedRing) (limit : ℕ) → i < length calls → All (λ (r : JournalLine). r.ring < limit) calls → limit ≡ length rings
    → y ≡ get_or rings (get_or calls i d).ring y → block_of x ≡ with_call (block_of y) (get_or calls i d).call
    → with_calls (map block_of (set rings (get_or calls i d).ring x)) (drop (i + 1) calls) ≡ with_calls (map block_of rings) (drop i calls)
placed_more rings calls i d x y limit lt all same was e =
    let r : JournalLine = get_or calls i d in
    let low : r.ring < limit = all i d lt in
    let within : r.ring < length rings = omega (arith, low, same) in
    ap (λ (bs : List Block). with_calls bs (drop (i + 1) calls)) (placed rings r.ring x y r.call within (e ∙ ap (λ (z : SavedRing). with_call (block_of z) r.call) was))
    ∙ ap (with_calls (map block_of rings)) (sym (drop_more calls i d lt))

pub map_same : (xs : List SavedRing) → map (λ (x : SavedRing). x) xs ≡ xs
map_same [] = refl
map_same (x ∷ xs) = ap (λ (ys : List SavedRing). x ∷ ys) (map_same xs)

-- one ring more in order
pub ordered_more : (found yielded : List SavedRing) (r ring : SavedRing) → map block_of found ≡ map in_order (map block_of yielded) → block_of r ≡ in_order (block_of ring)
    → map block_of (found ++ r ∷ []) ≡ map in_order (map block_of (yielded ++ ring ∷ []))
ordered_more found yielded r ring e same =
    map_push block_of found r
    ∙ ap (λ (bs : List Block). bs ++ block_of r ∷ []) e
    ∙ ap (λ (b : Block). map in_order (map block_of yielded) ++ b ∷ []) same
    ∙ sym (ap (map in_order) (map_push block_of yielded ring) ∙ map_push in_order (map block_of yielded) (block_of ring))
