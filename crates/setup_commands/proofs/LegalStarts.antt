-- A history of rings to which nothing has happened yet is legal.
use Rattle.std.proofs.Common.{◌≡◌, ◌∙◌, ℕ, suc, map, ◌+◌, ◌<◌, ◌^◌, List, [], ◌∷◌, length, Option, refl, ap, sym, arith}
use Rattle.std.specs.List.{All, AllByRecursion}
use Rattle.std.proofs.lemmas.List.{length-map}
use Rattle.std.proofs.lemmas.List.Elements.{All-nil, All-cons, All-head, All-tail}
use Rattle.ring_settings.specs.Contents.{RingData, IsRingSetting}
use Rattle.ring_state.specs.Sizes.{Size, IsSize}
use Rattle.saved_history.specs.Content.{Block, Content, block_of}
use Rattle.saved_history.specs.declared.saved.SavedRing.{SavedRing}
use Rattle.saved_history.specs.Spelling.{BlockFits}
use Rattle.saved_history.specs.Versions.{latest_version}
use Rattle.ring_check.specs.Meaning.{IsRightBlock, AreRightBlocks, IsRightText, LegalMeans}
use Rattle.setup_commands.specs.Rings.{ring_of, rings_from, rings_of, block_at, blocks_from}
use Rattle.setup_commands.specs.Drawn.{history_of, DrawnIsLegal}
use Rattle.setup_commands.proofs.Starting.{start_long, is_setting}

-- ---- one ring

right : (place : ℕ) (r : RingData) → IsRingSetting r → IsRightBlock latest_version place (block_at place r)
right place r is = record {
  index = refl;
  two = is.size.machines;
  enough = is.size.values;
  most_machines = is.size.most_machines;
  most = is.size.most;
  below = is.below;
  seats = All-nil _;
  legal_and_whole = (tt, record { pieces = []; are = tt; all = refl });
  events_said = refl;
  surveys = All-nil _;
  order = tt;
}

small : (k : ℕ) (vs : List ℕ) → k < 2 ^ 32 → All (λ v. v < k) vs → AllByRecursion (λ x. x < 2 ^ 32) vs
small k [] few below = tt
small k (v ∷ vs) few below =
    let first : v < k = All-head (λ x. x < k) v vs below in (omega (arith, first, few), small k vs few (All-tail (λ x. x < k) v vs below))

block_fits : (place : ℕ) (r : RingData) → place < 2 ^ 32 → IsRingSetting r → BlockFits latest_version (block_at place r)
block_fits place r low is =
    let two = is.size.machines in
    let most = is.size.most_machines in
    let values = is.size.most in
    record {
      head = record { index = low; some = omega arith; n = omega arith; k = omega arith };
      start = is.one_each;
      values = small r.size.k r.start (omega arith) is.below;
      events = tt;
      events_said = omega arith;
      surveys = tt;
    }

-- ---- all of them

all_right : (seed : Option ℕ) (place : ℕ) (sizes : List Size) → All IsSize sizes → AreRightBlocks latest_version place (blocks_from place (rings_from seed place sizes))
all_right seed place [] are = tt
all_right seed place (s ∷ ss) are = (
  right place (ring_of seed place s) (is_setting seed place s (All-head IsSize s ss are)),
  all_right seed (place + 1) ss (All-tail IsSize s ss are),
)

all_fit : (seed : Option ℕ) (place : ℕ) (sizes : List Size) → place + length sizes < 2 ^ 32 → All IsSize sizes →
    AllByRecursion (BlockFits latest_version) (blocks_from place (rings_from seed place sizes))
all_fit seed place [] low are = tt
all_fit seed place (s ∷ ss) low are = (
  block_fits place (ring_of seed place s) (omega (arith, low)) (is_setting seed place s (All-head IsSize s ss are)),
  all_fit seed (place + 1) ss (omega (arith, low)) (All-tail IsSize s ss are),
)

pub rings_count : (seed : Option ℕ) (place : ℕ) (sizes : List Size) → length (rings_from seed place sizes) ≡ length sizes
rings_count seed place [] = refl
rings_count seed place (s ∷ ss) = ap suc (rings_count seed (place + 1) ss)

pub blocks_count : (place : ℕ) (rings : List RingData) → length (blocks_from place rings) ≡ length rings
blocks_count place [] = refl
blocks_count place (r ∷ rs) = ap suc (blocks_count (place + 1) rs)

starts : (seed : Option ℕ) (place : ℕ) (sizes : List Size) → All (λ (b : Block). length b.start ≡ b.n) (blocks_from place (rings_from seed place sizes))
starts seed place [] = All-nil _
starts seed place (s ∷ ss) =
    All-cons (λ (b : Block). length b.start ≡ b.n) (block_at place (ring_of seed place s)) (blocks_from (place + 1) (rings_from seed (place + 1) ss))
    (start_long seed place s) (starts seed (place + 1) ss)

pub drawn_legal : LegalMeans → DrawnIsLegal
drawn_legal means seed sizes are =
    let said : IsRightText (history_of (rings_of seed sizes)) =
    record { blocks = all_right seed 0 sizes are.allowed; rings_said = sym (blocks_count 0 (rings_of seed sizes)) } in
    let some = are.some in
    let most = are.most in
    let number = rings_count seed 0 sizes in
    let blocks = blocks_count 0 (rings_of seed sizes) in
    record {
      fits = record { version = (omega arith, omega arith); some = omega arith; rings = all_fit seed 0 sizes (omega (arith, most)) are.allowed; rings_said = omega (arith, number, most) };
      table = (means (history_of (rings_of seed sizes)) (starts seed 0 sizes)).1 said;
      right = said;
    }

-- the content of what was made
pub content_is : (seed : Option ℕ) (sizes : List Size) (rings : List SavedRing) (count : ℕ) → map block_of rings ≡ blocks_from 0 (rings_of seed sizes) → count ≡ length rings →
    ◌≡◌ {A = Content} (record { version = latest_version; rings = map block_of rings; rings_said = count }) (history_of (rings_of seed sizes))
content_is seed sizes rings count are long =
    let number : count ≡ length (rings_of seed sizes) =
    long ∙ sym (length-map rings block_of) ∙ ap (λ (bs : List Block). length bs) are ∙ blocks_count 0 (rings_of seed sizes) in
    ap (λ (bs : List Block). record { version = latest_version; rings = bs; rings_said = count }) are
    ∙ ap (λ (n : ℕ). record { version = latest_version; rings = blocks_from 0 (rings_of seed sizes); rings_said = n }) number
