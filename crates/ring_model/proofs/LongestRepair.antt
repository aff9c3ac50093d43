-- For each n of at least 4 a repair of (n - 2)(3n + 1)/2 granted passes. It begins with (0,n-2,n-3,..,1,0) and a step of machine 0.
-- Each time all machines are then passed from the last to the first, which shifts all values by one place; n - 2 such rounds end
-- with a step of machine 0 each, and after them only a part of the ring is passed each time.
use Rattle.std.proofs.Common.{◌≡◌, ℕ, zero, suc, ◌+◌, ◌-◌, ◌*◌, ◌/◌, ◌<◌, ◌≤◌, ◌≢◌, true, false, List, [], ◌∷◌, ◌++◌, length, length-append, get_or, refl, sym, ◌∙◌, ap, subst, inl, inr, arith}
use Rattle.std.proofs.lemmas.Bool.{cases_eq, cases_lt, false_from_ne_true}
use Rattle.ring_model.specs.Ring.{Ring, ring_with, IsRing, is_privileged, is_settled}
use Rattle.ring_model.specs.Runs.{passed, after_passes, granted_passes, AreBelow}
use Rattle.ring_model.specs.Groups.{down_from}
use Rattle.ring_model.specs.RepairLaws.{longest_repair, LongRunsAreSharp}
use Rattle.ring_model.proofs.Settled.{only_one}
use Rattle.ring_model.proofs.Runs.{pass_granted}
use Rattle.ring_model.proofs.QuietRuns.{granted_on}
use Rattle.ring_model.proofs.Rounds.{after_passes-append, granted_passes-append}
use Rattle.ring_model.proofs.Labels.{pass_other}
use Rattle.ring_model.proofs.Orders.{down_length, down_at}
use Rattle.ring_model.proofs.PassedValues.{below_append, IsOn, on_pass, copied, zero_on, other_on, stepped}

-- a run of this many granted passes from the ring r that does not settle it
record Lasts (n passes : ℕ) (r : Ring) : Type 0 where
  choices : List ℕ
  below : AreBelow n choices
  granted : length (granted_passes r choices) ≡ passes
  unsettled : is_settled (after_passes r choices).values ≡ false

-- with a run before it of which every pass is granted
lasts_longer : (n passes : ℕ) (r : Ring) (front : List ℕ) → AreBelow n front → granted_passes r front ≡ front → Lasts n passes (after_passes r front) →
    Lasts n (length front + passes) r
lasts_longer n passes r front b all more =
    let t : Ring = after_passes r front in
    let parts : length (granted_passes r (front ++ more.choices)) ≡ length (granted_passes r front ++ granted_passes t more.choices) =
    ap (λ (x : List ℕ). length x) (granted_passes-append r front more.choices) in
    let sum : length (granted_passes r front ++ granted_passes t more.choices) ≡ length (granted_passes r front) + length (granted_passes t more.choices) =
    length-append (granted_passes r front) (granted_passes t more.choices) in
    let whole : length (granted_passes r front) ≡ length front = ap (λ (x : List ℕ). length x) all in
    let rest : length (granted_passes t more.choices) ≡ passes = more.granted in
    record {
      choices = front ++ more.choices;
      below = below_append n front more.choices b more.below;
      granted = omega arith;
      unsettled = ap (λ (u : Ring). is_settled u.values) (after_passes-append r front more.choices) ∙ more.unsettled;
    }

-- the machines m + d - 1 down to m
abbrev falling : ℕ → ℕ → List ℕ
falling m zero = []
falling m (suc d) = (m + d) ∷ falling m d

falling_length : (m d : ℕ) → length (falling m d) ≡ d
falling_length m zero = refl
falling_length m (suc d) = ap suc (falling_length m d)

falling_below : (n m d : ℕ) → m + d ≤ n → AreBelow n (falling m d)
falling_below n m zero l = tt
falling_below n m (suc d) l = (omega arith, falling_below n m d (omega arith))

-- how many passes the last d shifts of a repair have: 3, 4, and so on
abbrev melting_passes : ℕ → ℕ
melting_passes zero = 0
melting_passes (suc d) = (d + 3) + melting_passes d

module _ (n top : ℕ) (four : 4 ≤ n) (enough : n ≤ top) where
  -- what a run over falling machines leaves: where each differs from its left neighbour, all are granted, and their values are
  -- shifted by one place
  record IsShift (m d : ℕ) (r : Ring) : Type 0 where
    on : IsOn n top (after_passes r (falling m d))
    granted : granted_passes r (falling m d) ≡ falling m d
    inside : (i : ℕ) → m ≤ i → i < m + d → get_or (after_passes r (falling m d)).values i 0 ≡ get_or r.values (i - 1) 0
    before : (i : ℕ) → i < m → get_or (after_passes r (falling m d)).values i 0 ≡ get_or r.values i 0
    behind : (i : ℕ) → m + d ≤ i → get_or (after_passes r (falling m d)).values i 0 ≡ get_or r.values i 0

  shift : (m d : ℕ) (r : Ring) → IsOn n top r → 1 ≤ m → m + d ≤ n →
      ((i : ℕ) → m ≤ i → i < m + d → get_or r.values (i - 1) 0 ≢ get_or r.values i 0) → IsShift m d r
  shift m zero r o one l differ = record { on = o; granted = refl; inside = λ i li ln. absurd (omega arith); before = λ i li. refl; behind = λ i li. refl }
  shift m (suc d) r o one l differ =
      let s : Ring = passed r (m + d) in
      let y : is_privileged r.values (m + d) ≡ true = other_on n top r (m + d) (omega arith) (differ (m + d) (omega arith) (omega arith)) in
      let os = on_pass n top r (m + d) (omega arith) o in
      let same : (i : ℕ) → i ≢ m + d → get_or s.values i 0 ≡ get_or r.values i 0 = λ i ne. pass_other r (m + d) i ne in
      let ih = shift m d s os one (omega arith) (λ i li ln.
      let a = same i (omega arith) in
      let b = same (i - 1) (omega arith) in
      let c = differ i li (omega arith) in
      λ q. c (sym b ∙ (q ∙ a))) in
      let here : get_or s.values (m + d) 0 ≡ get_or r.values (m + d - 1) 0 = copied n top r (m + d) o (omega arith) (omega arith) in
      record {
        on = ih.on;
        granted = granted_on r (m + d) (falling m d) y ∙ ap (λ (x : List ℕ). (m + d) ∷ x)
            (ap (λ (t : Ring). granted_passes t (falling m d)) (sym (pass_granted r (m + d) y)) ∙ ih.granted);
        inside = λ i li ln. elim (cases_eq i (m + d)) [
          | inl e ↦ ih.behind i (omega arith) ∙ (ap (λ x. get_or s.values x 0) e ∙ (here ∙ ap (λ x. get_or r.values (x - 1) 0) (sym e)))
          | inr ne ↦ ih.inside i li (omega arith) ∙ same (i - 1) (omega arith)
        ];
        before = λ i li. ih.before i li ∙ same i (omega arith);
        behind = λ i li. ih.behind i (omega arith) ∙ same i (omega arith);
      }

  -- the end: machines 0 to k hold one value, and from machine k on there are the first values of a list without equal neighbours
  record IsMelting (f : ℕ → ℕ) (k : ℕ) (r : Ring) : Type 0 where
    on : IsOn n top r
    flat : (i : ℕ) → i ≤ k → get_or r.values i 0 ≡ f 0
    others : (i : ℕ) → k ≤ i → i < n → get_or r.values i 0 ≡ f (i - k)

  melting_last : (f : ℕ → ℕ) (k : ℕ) (r : Ring) → ((i : ℕ) → suc i < n → f i ≢ f (suc i)) → k + 3 ≡ n → IsMelting f k r → Lasts n 0 r
  melting_last f k r differ e h =
      let size' = h.on.size in
      let a : get_or r.values k 0 ≡ f 0 = h.flat k (omega arith) in
      let b : get_or r.values (k + 1) 0 ≡ f 1 = h.others (k + 1) (omega arith) (omega arith) ∙ (let q : k + 1 - k ≡ 1 = omega arith in ap f q) in
      let c : get_or r.values (k + 2) 0 ≡ f 2 = h.others (k + 2) (omega arith) (omega arith) ∙ (let q : k + 2 - k ≡ 2 = omega arith in ap f q) in
      let a' : get_or r.values (k + 1 - 1) 0 ≡ f 0 = (let q : k + 1 - 1 ≡ k = omega arith in ap (λ x. get_or r.values x 0) q) ∙ a in
      let b' : get_or r.values (k + 2 - 1) 0 ≡ f 1 = (let q : k + 2 - 1 ≡ k + 1 = omega arith in ap (λ x. get_or r.values x 0) q) ∙ b in
      let y : is_privileged r.values (k + 1) ≡ true = other_on n top r (k + 1) (omega arith) (λ q. differ 0 (omega arith) (sym a' ∙ (q ∙ b))) in
      let z : is_privileged r.values (k + 2) ≡ true = other_on n top r (k + 2) (omega arith) (λ q. differ 1 (omega arith) (sym b' ∙ (q ∙ c))) in
      record {
        choices = [];
        below = tt;
        granted = refl;
        unsettled = false_from_ne_true (is_settled r.values) (λ u.
            let same : k + 1 ≡ k + 2 = only_one r.values (k + 1) (k + 2) u (omega arith) (omega arith) y z in
            absurd (omega arith));
      }

  melting_lasts : (d k : ℕ) (f : ℕ → ℕ) (r : Ring) → ((i : ℕ) → suc i < n → f i ≢ f (suc i)) → k + d + 3 ≡ n → IsMelting f k r → Lasts n (melting_passes d) r
  melting_lasts zero k f r differ e h = melting_last f k r differ (omega arith) h
  melting_lasts (suc d) k f r differ e h =
      let m : ℕ = k + 1 in
      let sh = shift m (d + 3) r h.on (omega arith) (omega arith) (λ i li ln q.
      let a : get_or r.values (i - 1) 0 ≡ f (i - 1 - k) = h.others (i - 1) (omega arith) (omega arith) in
      let b : get_or r.values i 0 ≡ f (i - k) = h.others i (omega arith) (omega arith) in
      let up : i - k ≡ suc (i - 1 - k) = omega arith in
      differ (i - 1 - k) (omega arith) (sym a ∙ (q ∙ (b ∙ ap f up)))) in
      let t : Ring = after_passes r (falling m (d + 3)) in
      let next : IsMelting f m t = record {
        on = sh.on;
        flat = λ i li. elim (cases_lt i m) [
          | inl less ↦ sh.before i less ∙ h.flat i (omega arith)
          | inr at ↦ sh.inside i at (omega arith) ∙ h.flat (i - 1) (omega arith)
        ];
        others = λ i li ln. sh.inside i li (omega arith) ∙ (h.others (i - 1) (omega arith) (omega arith) ∙ (let q : i - 1 - k ≡ i - m = omega arith in ap f q));
      } in
      let count : length (falling m (d + 3)) + melting_passes d ≡ melting_passes (suc d) = ap (λ x. x + melting_passes d) (falling_length m (d + 3)) in
      subst (λ (x : ℕ). Lasts n x r) count
      (lasts_longer n (melting_passes d) r (falling m (d + 3)) (falling_below n m (d + 3) (omega arith)) sh.granted
      (melting_lasts d m f t differ (omega arith) next))

  -- (j,j-1,..,1,n-2,n-3,..,j)
  record IsFull (j : ℕ) (r : Ring) : Type 0 where
    on : IsOn n top r
    front : (i : ℕ) → i < j → i < n → get_or r.values i 0 + i ≡ j
    back : (i : ℕ) → j ≤ i → i < n → get_or r.values i 0 + i ≡ (n - 2) + j

  full_differs : (j : ℕ) (r : Ring) → 1 ≤ j → j < n → IsFull j r → (i : ℕ) → 1 ≤ i → i < n → get_or r.values (i - 1) 0 ≢ get_or r.values i 0
  full_differs j r one lj h i li ln q = elim (cases_lt i j) [
    | inl before ↦
        let a = h.front (i - 1) (omega arith) (omega arith) in
        let b = h.front i before ln in
        absurd (omega arith)
    | inr past ↦
        let b = h.back i past ln in
        elim (cases_lt (i - 1) j) [
          | inl first ↦ let a = h.front (i - 1) first (omega arith) in absurd (omega arith)
          | inr both ↦ let a = h.back (i - 1) both (omega arith) in absurd (omega arith)
        ]
  ]

  -- all machines are passed from the last to the first
  full_lasts : (d j : ℕ) (r : Ring) → 1 ≤ j → j + d + 1 ≡ n → IsFull j r → Lasts n (d * n + melting_passes (n - 3)) r
  full_lasts zero j r one e h =
      let q : melting_passes (n - 3) ≡ 0 * n + melting_passes (n - 3) = omega arith in
      let f : ℕ → ℕ = λ i. get_or r.values i 0 in
      subst (λ (x : ℕ). Lasts n x r) q
      (melting_lasts (n - 3) 0 f r
      (λ i l. let q : suc i - 1 ≡ i = omega arith in λ p. full_differs j r one (omega arith) h (suc i) (omega arith) l (ap f q ∙ p))
      (omega arith)
      (record {
        on = h.on;
        flat = λ i li. (let q : i ≡ 0 = omega arith in ap f q);
        others = λ i li ln. (let q : i ≡ i - 0 = omega arith in ap f q);
      }))
  full_lasts (suc d) j r one e h =
      let sh = shift 1 (n - 1) r h.on (omega arith) (omega arith) (λ i li ln. full_differs j r one (omega arith) h i li (omega arith)) in
      let t : Ring = after_passes r (falling 1 (n - 1)) in
      let first : get_or t.values 0 0 ≡ j = (let a = sh.before 0 (omega arith) in let b = h.front 0 (omega arith) (omega arith) in omega arith) in
      let last : get_or t.values (n - 1) 0 ≡ j =
      (let a = sh.inside (n - 1) (omega arith) (omega arith) in
      let b = h.back (n - 1 - 1) (omega arith) (omega arith) in
      omega arith) in
      let y : is_privileged t.values 0 ≡ true = zero_on n top t sh.on (last ∙ sym first) in
      let u : Ring = passed t 0 in
      let first' : get_or u.values 0 0 ≡ j + 1 = stepped n top t j sh.on last first (omega arith) in
      let next : IsFull (j + 1) u = record {
        on = on_pass n top t 0 (omega arith) sh.on;
        front = λ i li ln. elim (cases_eq i 0) [
          | inl z ↦ let q : get_or u.values i 0 ≡ get_or u.values 0 0 = ap (λ x. get_or u.values x 0) z in omega arith
          | inr ne ↦
              let a : get_or u.values i 0 ≡ get_or t.values i 0 = pass_other t 0 i ne in
              let b = sh.inside i (omega arith) (omega arith) in
              let c = h.front (i - 1) (omega arith) (omega arith) in
              omega arith
        ];
        back = λ i li ln.
            let a : get_or u.values i 0 ≡ get_or t.values i 0 = pass_other t 0 i (omega arith) in
            let b = sh.inside i (omega arith) (omega arith) in
            let c = h.back (i - 1) (omega arith) (omega arith) in
            omega arith;
      } in
      let ih = full_lasts d (j + 1) u (omega arith) (omega arith) next in
      let step : Lasts n (length {A = ℕ} (0 ∷ []) + (d * n + melting_passes (n - 3))) t =
      lasts_longer n (d * n + melting_passes (n - 3)) t (0 ∷ []) (omega arith, tt) (granted_on t 0 [] y) ih in
      let size : length (falling 1 (n - 1)) ≡ n - 1 = falling_length 1 (n - 1) in
      let count : length (falling 1 (n - 1)) + (length {A = ℕ} (0 ∷ []) + (d * n + melting_passes (n - 3))) ≡ suc d * n + melting_passes (n - 3) =
      (let one' : length {A = ℕ} (0 ∷ []) ≡ 1 = refl in omega arith) in
      subst (λ (x : ℕ). Lasts n x r) count
      (lasts_longer n (length {A = ℕ} (0 ∷ []) + (d * n + melting_passes (n - 3))) r (falling 1 (n - 1)) (falling_below n 1 (n - 1) (omega arith)) sh.granted step)

  -- (0,n-2,n-3,..,1,0)
  record IsStart (r : Ring) : Type 0 where
    on : IsOn n top r
    first : get_or r.values 0 0 ≡ 0
    others : (i : ℕ) → 1 ≤ i → i < n → get_or r.values i 0 + i ≡ n - 1

  start_lasts : (r : Ring) → IsStart r → Lasts n (1 + ((n - 2) * n + melting_passes (n - 3))) r
  start_lasts r h =
      let last : get_or r.values (n - 1) 0 ≡ 0 = (let a = h.others (n - 1) (omega arith) (omega arith) in omega arith) in
      let y : is_privileged r.values 0 ≡ true = zero_on n top r h.on (last ∙ sym h.first) in
      let u : Ring = passed r 0 in
      let first' : get_or u.values 0 0 ≡ 1 = stepped n top r 0 h.on last h.first (omega arith) in
      let next : IsFull 1 u = record {
        on = on_pass n top r 0 (omega arith) h.on;
        front = λ i li ln. (let q : get_or u.values i 0 ≡ get_or u.values 0 0 = (let z : i ≡ 0 = omega arith in ap (λ x. get_or u.values x 0) z) in omega arith);
        back = λ i li ln.
            let a : get_or u.values i 0 ≡ get_or r.values i 0 = pass_other r 0 i (omega arith) in
            let b = h.others i li ln in
            omega arith;
      } in
      lasts_longer n ((n - 2) * n + melting_passes (n - 3)) r (0 ∷ []) (omega arith, tt) (granted_on r 0 [] y) (full_lasts (n - 2) 1 u (omega arith) (omega arith) next)

-- that ring

start_length : (m : ℕ) → length {A = ℕ} (0 ∷ down_from m) ≡ m + 1
start_length m = let a = down_length m in let b : length {A = ℕ} (0 ∷ down_from m) ≡ suc (length (down_from m)) = refl in omega arith

start_others : (m i : ℕ) → 1 ≤ i → i < m + 1 → get_or (0 ∷ down_from m) i 0 + i ≡ m
start_others m zero one l = absurd (omega arith)
start_others m (suc i) one l =
    let a : get_or (down_from m) i 0 ≡ m - 1 - i = down_at m i (omega arith) in
    omega arith

start_ring : (m k : ℕ) → 1 ≤ m → m + 1 ≤ k → IsRing (ring_with k (0 ∷ down_from m))
start_ring m k one fits = let n = start_length m in record { two = omega arith; enough = omega arith; below = λ i l. small i (omega arith) }
  where
    small : (i : ℕ) → i < m + 1 → get_or (0 ∷ down_from m) i 0 < k
    small zero l = omega arith
    small (suc i) l = let a = start_others m (suc i) (omega arith) l in omega arith

-- the number of these passes

melting_twice : (d : ℕ) → 2 * melting_passes d ≡ d * (d + 5)
melting_twice zero = omega arith
melting_twice (suc d) = let ih = melting_twice d in omega arith

longest_is : (n : ℕ) → 4 ≤ n → 1 + ((n - 2) * n + melting_passes (n - 3)) + 1 ≡ longest_repair n
longest_is n four =
    let e : ℕ = n - 3 in
    let t : ℕ = 1 + ((n - 2) * n + melting_passes (n - 3)) + 1 in
    let c = melting_twice e in
    let a : n - 2 ≡ e + 1 = omega arith in
    let b : n ≡ e + 3 = omega arith in
    let one : (n - 2) * n ≡ (e + 1) * (e + 3) = ap (λ x. x * n) a ∙ ap (λ x. (e + 1) * x) b in
    let two : (n - 2) * (3 * n + 1) ≡ (e + 1) * (3 * (e + 3) + 1) = ap (λ x. x * (3 * n + 1)) a ∙ ap (λ x. (e + 1) * (3 * x + 1)) b in
    let twice : (n - 2) * (3 * n + 1) ≡ 2 * t = omega arith in
    sym (ap (λ x. x / 2) twice ∙ halved t)
  where
    halved : (x : ℕ) → 2 * x / 2 ≡ x
    halved x = omega arith

pub long_runs_are_sharp : LongRunsAreSharp
long_runs_are_sharp n k four enough =
    let m : ℕ = n - 1 in
    let whole : m + 1 ≡ n = omega arith in
    let r : Ring = ring_with k (0 ∷ down_from m) in
    let g : IsRing r = start_ring m k (omega arith) (omega arith) in
    let size : length r.values ≡ n = start_length m ∙ whole in
    let run = start_lasts n k four enough r (record {
      on = record { ring = g; size = size; same = refl };
      first = refl;
      others = λ i li ln. start_others m i li (omega arith);
    }) in
    let many = run.granted in
    let longest = longest_is n four in
    (r, run.choices, g, refl, size, run.below, omega arith, run.unsettled)
