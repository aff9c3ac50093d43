-- A ring whose events are not as many as they were.
use Rattle.std.proofs.Common.{◌≡◌, ℕ, zero, suc, ◌<◌, List, [], ◌∷◌, length, map, get_or, set, sym, ap, ◌∙◌, arith}
use Rattle.saved_history.specs.declared.saved.SavedRing.{SavedRing}
use Rattle.saved_history.specs.Content.{Block, Content, block_of}
use Rattle.journal.specs.Recovery.{IsRecovered}
use Rattle.journal.proofs.Cutting.{one_recovered}

as_many : (items : List SavedRing) (i : ℕ) (x d : SavedRing) → i < length items → map block_of (set items i x) ≡ map block_of items → length x.events.items ≡ length (get_or items i d).events.items
as_many [] i x d lt e = absurd (omega arith)
as_many (r ∷ rs) zero x d lt e = ap (λ (bs : List Block). first bs) e
  where
    first : List Block → ℕ
    first [] = 0
    first (b ∷ bs) = length b.events
as_many (r ∷ rs) (suc i) x d lt e = as_many rs i x d (omega arith) (ap (λ (bs : List Block). rest bs) e)
  where
    rest : List Block → List Block
    rest [] = []
    rest (b ∷ bs) = bs

-- a recovered history, with one ring that has fewer or more events, is not recovered
pub spoiled : (bytes : List ℕ) (version said : ℕ) (items : List SavedRing) (i : ℕ) (x y : SavedRing) → i < length items → y ≡ get_or items i y
    → IsRecovered bytes (record { version = version; rings = map block_of items; rings_said = said }) → IsRecovered bytes (record { version = version; rings = map block_of (set items i x); rings_said = said })
    → length x.events.items ≡ length y.events.items
spoiled bytes version said items i x y lt was r s =
    let e = one_recovered bytes _ _ s r in
    as_many items i x y lt (ap (λ (c : Content). c.rings) e) ∙ ap (λ (z : SavedRing). length z.events.items) (back was)
  where
    back : y ≡ get_or items i y → get_or items i y ≡ y
    back p = sym p
