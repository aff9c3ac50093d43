-- A history without events of settled rings is legal.
use Rattle.std.proofs.Common.{◌≡◌, ℕ, zero, suc, ◌+◌, ◌<◌, ◌^◌, List, [], ◌∷◌, replicate, length, true, refl, ap, sym, subst, arith}
use Rattle.std.specs.List.{All, AllByRecursion}
use Rattle.std.proofs.lemmas.List.{length-replicate}
use Rattle.std.proofs.lemmas.List.Elements.{All-nil, All-cons, All-head, All-tail, All-replicate}
use Rattle.ring_model.specs.Ring.{is_settled}
use Rattle.ring_state.specs.Sizes.{Size, IsSize}
use Rattle.saved_history.specs.Content.{Block}
use Rattle.saved_history.specs.Spelling.{BlockFits}
use Rattle.saved_history.specs.Versions.{latest_version}
use Rattle.ring_check.specs.Meaning.{IsRightBlock, AreRightBlocks, IsRightText, LegalMeans}
use Rattle.run_commands.specs.Fresh.{fresh_block, fresh_blocks, fresh, IsFreshBlock, AreFreshBlocks, FreshIsSettled}
use Rattle.run_commands.proofs.Settling.{settled}

-- ---- one ring

fresh_is : (place : ℕ) (s : Size) → IsSize s → IsFreshBlock place s (fresh_block place s)
fresh_is place s is = record {
  index = refl;
  n = refl;
  k = refl;
  machines = length-replicate s.n 0;
  settled = settled s.n is.machines;
  no_events = refl;
  no_surveys = refl;
}

some : (s : Size) → IsSize s → 0 < s.k
some s is = let two = is.machines in let more = is.values in omega arith

right : (place : ℕ) (s : Size) → IsSize s → IsRightBlock latest_version place (fresh_block place s)
right place s is = record {
  index = refl;
  two = is.machines;
  enough = is.values;
  most_machines = is.most_machines;
  most = is.most;
  below = All-replicate (λ v. v < s.k) s.n 0 (some s is);
  seats = All-nil _;
  legal_and_whole = (tt, record { pieces = []; are = tt; all = refl });
  events_said = refl;
  surveys = All-nil _;
  order = tt;
}

small : (n : ℕ) → AllByRecursion (λ x. x < 2 ^ 32) (replicate n 0)
small zero = tt
small (suc n) = (omega arith, small n)

block_fits : (place : ℕ) (s : Size) → place < 2 ^ 32 → IsSize s → BlockFits latest_version (fresh_block place s)
block_fits place s low is =
    let two = is.machines in
    let most = is.most_machines in
    let values = is.most in
    record {
      head = record { index = low; some = omega arith; n = omega arith; k = omega arith };
      start = length-replicate s.n 0;
      values = small s.n;
      events = tt;
      events_said = omega arith;
      surveys = tt;
    }

-- ---- all of them

all_fresh : (place : ℕ) (sizes : List Size) → All IsSize sizes → AreFreshBlocks place sizes (fresh_blocks place sizes)
all_fresh place [] are = refl
all_fresh place (s ∷ ss) are = (fresh_is place s (All-head IsSize s ss are), all_fresh (place + 1) ss (All-tail IsSize s ss are))

all_right : (place : ℕ) (sizes : List Size) → All IsSize sizes → AreRightBlocks latest_version place (fresh_blocks place sizes)
all_right place [] are = tt
all_right place (s ∷ ss) are = (right place s (All-head IsSize s ss are), all_right (place + 1) ss (All-tail IsSize s ss are))

all_fit : (place : ℕ) (sizes : List Size) → place + length sizes < 2 ^ 32 → All IsSize sizes → AllByRecursion (BlockFits latest_version) (fresh_blocks place sizes)
all_fit place [] low are = tt
all_fit place (s ∷ ss) low are = (block_fits place s (omega (arith, low)) (All-head IsSize s ss are), all_fit (place + 1) ss (omega (arith, low)) (All-tail IsSize s ss are))

pub count : (place : ℕ) (sizes : List Size) → length (fresh_blocks place sizes) ≡ length sizes
count place [] = refl
count place (s ∷ ss) = ap suc (count (place + 1) ss)

starts : (place : ℕ) (sizes : List Size) → All (λ (b : Block). length b.start ≡ b.n) (fresh_blocks place sizes)
starts place [] = All-nil _
starts place (s ∷ ss) = All-cons (λ (b : Block). length b.start ≡ b.n) (fresh_block place s) (fresh_blocks (place + 1) ss) (length-replicate s.n 0) (starts (place + 1) ss)

-- each is settled
pub all_settled : (place : ℕ) (sizes : List Size) (bs : List Block) → AreFreshBlocks place sizes bs → All (λ (b : Block). is_settled b.start ≡ true) bs
all_settled place [] bs none = subst (All (λ (b : Block). is_settled b.start ≡ true)) (sym none) (All-nil _)
all_settled place (s ∷ ss) [] are = absurd are
all_settled place (s ∷ ss) (b ∷ bs) are =
    All-cons (λ (x : Block). is_settled x.start ≡ true) b bs are.0.settled (all_settled (place + 1) ss bs are.1)

pub fresh_settled : LegalMeans → FreshIsSettled
fresh_settled means sizes are =
    let said : IsRightText (fresh sizes) = record { blocks = all_right 0 sizes are.allowed; rings_said = sym (count 0 sizes) } in
    let some = are.some in
    let most = are.most in
    let number = count 0 sizes in
    record {
      rings = all_fresh 0 sizes are.allowed;
      fits = record { version = (omega arith, omega arith); some = omega arith; rings = all_fit 0 sizes (omega (arith, most)) are.allowed; rings_said = most };
      table = (means (fresh sizes) (starts 0 sizes)).1 said;
      right = said;
    }
