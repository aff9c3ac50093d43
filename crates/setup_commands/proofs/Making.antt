-- The rings that were made of the first sizes, and what is left to make.
use Rattle.std.proofs.Common.{◌≡◌, ◌∙◌, ℕ, suc, ◌+◌, ◌<◌, ◌≤◌, List, [], ◌∷◌, ◌++◌, length, map, get_or, drop, take, Option, refl, ap, sym, subst, append-nil, append_assoc, arith}
use Rattle.std.proofs.Math.Seq.{drop-cons, take-suc}
use Rattle.std.specs.List.{All}
use Rattle.std.proofs.lemmas.List.{length-map, map-append, take-append-drop, length-take-le, length-drop, nil_from_length}
use Rattle.std.proofs.lemmas.List.Elements.{All-nil, All-cons, All-append}
use Rattle.ring_state.specs.Sizes.{Size, IsSize}
use Rattle.saved_history.specs.Content.{Block, block_of}
use Rattle.saved_history.specs.declared.saved.SavedRing.{SavedRing}
use Rattle.tool_parts.specs.declared.requests.RingSize.{RingSize}
use Rattle.setup_commands.specs.Rings.{size_given, ring_of, rings_from, rings_of, block_at, blocks_from, IsRingRefusal, IsRingsRefusal}
use Rattle.tool_parts.specs.declared.faults.ToolError.{ToolError}
use Rattle.tool_parts.specs.declared.faults.ToolError.TheVariants as tool

-- the blocks of the rings of these sizes, the first at the given place
abbrev blocks_of : Option ℕ → ℕ → List Size → List Block
blocks_of seed place ss = blocks_from place (rings_from seed place ss)

-- of the first sizes the blocks are made, and these sizes are allowed
pub record Made (seed : Option ℕ) (sizes : List RingSize) (place : ℕ) (blocks : List Block) : Type 0 where
  pub blocks_are : blocks ++ blocks_of seed place (map size_given (drop place sizes)) ≡ blocks_of seed 0 (map size_given sizes)
  pub allowed : All IsSize (map size_given (take place sizes))

-- none is made yet
pub none_made : (seed : Option ℕ) (sizes : List RingSize) (blocks : List Block) → blocks ≡ [] → Made seed sizes 0 blocks
none_made seed sizes blocks none = record {
  blocks_are = rw none refl;
  allowed = All-nil IsSize;
}

-- one more is made, of the size at the place
pub one_made : (seed : Option ℕ) (sizes : List RingSize) (place : ℕ) (d : RingSize) (rings more : List SavedRing) (ring : SavedRing) → place < length sizes →
    Made seed sizes place (map block_of rings) → block_of ring ≡ block_at place (ring_of seed place (size_given (get_or sizes place d))) →
    IsSize (size_given (get_or sizes place d)) → more ≡ rings ++ ring ∷ [] → Made seed sizes (place + 1) (map block_of more)
one_made seed sizes place d rings more ring low m is size grown =
    let next : place + 1 ≡ suc place = omega arith in
    let x = size_given (get_or sizes place d) in
    let back = map size_given (drop (suc place) sizes) in
    let cut : map size_given (drop place sizes) ≡ x ∷ back = ap (map size_given) (drop-cons sizes place d low) in
    let made : map block_of more ≡ map block_of rings ++ block_at place (ring_of seed place x) ∷ [] =
    ap (map block_of) grown ∙ map-append block_of rings (ring ∷ []) ∙ ap (λ (b : Block). map block_of rings ++ b ∷ []) is in
    let whole : map block_of more ++ blocks_of seed (place + 1) back ≡ blocks_of seed 0 (map size_given sizes) =
    ap (λ (bs : List Block). bs ++ blocks_of seed (place + 1) back) made
    ∙ append_assoc (map block_of rings) (block_at place (ring_of seed place x) ∷ []) (blocks_of seed (place + 1) back)
    ∙ ap (λ (ss : List Size). map block_of rings ++ blocks_of seed place ss) (sym cut)
    ∙ m.blocks_are in
    let front : map size_given (take (suc place) sizes) ≡ map size_given (take place sizes) ++ x ∷ [] =
    ap (map size_given) (take-suc sizes place d low) ∙ map-append size_given (take place sizes) (get_or sizes place d ∷ []) in
    let all : All IsSize (map size_given (take place sizes) ++ x ∷ []) =
    All-append IsSize (map size_given (take place sizes)) (x ∷ []) m.allowed (All-cons IsSize x [] size (All-nil IsSize)) in
    record {
      blocks_are = subst (λ (p : ℕ). map block_of more ++ blocks_of seed (place + 1) (map size_given (drop p sizes)) ≡ blocks_of seed 0 (map size_given sizes)) (sym next) whole;
      allowed = subst (λ (p : ℕ). All IsSize (map size_given (take p sizes))) (sym next) (subst (All IsSize) (sym front) all);
    }

-- all are made
pub all_made : (seed : Option ℕ) (sizes : List RingSize) (place : ℕ) (blocks : List Block) → length sizes ≤ place → Made seed sizes place blocks →
    (blocks ≡ blocks_from 0 (rings_of seed (map size_given sizes))) × All IsSize (map size_given sizes)
all_made seed sizes place blocks end m =
    let none : drop place sizes ≡ [] = nil_from_length (drop place sizes) (let l = length-drop place sizes in omega (arith, l, end)) in
    let all : take place sizes ≡ sizes =
    sym (append-nil (take place sizes)) ∙ ap (λ (t : List RingSize). take place sizes ++ t) (sym none) ∙ take-append-drop place sizes in
    let blocks_are : blocks ≡ blocks_of seed 0 (map size_given sizes) =
    sym (append-nil blocks) ∙ ap (λ (t : List RingSize). blocks ++ blocks_of seed place (map size_given t)) (sym none) ∙ m.blocks_are in
    (blocks_are, subst (λ (t : List RingSize). All IsSize (map size_given t)) all m.allowed)

-- the first that is refused
pub refused : (seed : Option ℕ) (sizes : List RingSize) (place : ℕ) (d : RingSize) (blocks : List Block) (e : ToolError) → place < length sizes →
    Made seed sizes place blocks → IsRingRefusal place (size_given (get_or sizes place d)) e → IsRingsRefusal (map size_given sizes) e
refused seed sizes place d blocks (tool.Ring at cause) low m h =
    let x = get_or sizes place d in
    let parts : sizes ≡ take place sizes ++ x ∷ drop (suc place) sizes =
    sym (take-append-drop place sizes) ∙ ap (λ (t : List RingSize). take place sizes ++ t) (drop-cons sizes place d low) in
    let mapped : map size_given sizes ≡ map size_given (take place sizes) ++ size_given x ∷ map size_given (drop (suc place) sizes) =
    ap (map size_given) parts ∙ map-append size_given (take place sizes) (x ∷ drop (suc place) sizes) in
    let count : length (map size_given (take place sizes)) ≡ place = length-map (take place sizes) size_given ∙ length-take-le place sizes (omega (arith, low)) in
    (map size_given (take place sizes), size_given x, map size_given (drop (suc place) sizes), mapped, h.0 ∙ sym count, m.allowed, h.1)
refused seed sizes place d blocks tool.OutOfMemory low m h = tt
refused seed sizes place d blocks _ low m h = absurd h
