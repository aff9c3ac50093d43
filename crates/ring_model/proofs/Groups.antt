-- A group moved one machine after the other: a machine that has not moved, whose left neighbour has not moved, is as it was.
use Rattle.std.proofs.Common.{◌≡◌, ℕ, zero, suc, ◌+◌, ◌-◌, ◌%◌, ◌<◌, ◌≤◌, Bool, true, false, cond, not, List, [], ◌∷◌, ◌++◌, length, get_or, refl, sym, ◌∙◌, ap, subst, inl, inr, arith, eqb}
use Rattle.std.specs.Prelude.{◌⊎◌, ◌||◌}
use Rattle.std.proofs.lemmas.Bool.{cases_eq, cond-true, cond-false, eq-eqb, ne_eqb, or_left, or_right, both_ways, false_from_ne_true}
use Rattle.std.proofs.lemmas.List.{ext_get_or}
use Rattle.ring_model.specs.Ring.{Ring, ring_with, is_privileged, moved_value, moved, rest}
use Rattle.ring_model.specs.Runs.{after_passes, granted_passes, AreBelow}
use Rattle.ring_model.specs.Groups.{has, GroupMove, down_from, Falls, IsInOrder}
use Rattle.ring_model.specs.GroupLaws.{AreAllPrivileged, GroupOrder, GroupMoveIsOne, GroupDescent}
use Rattle.ring_model.proofs.Moves.{length_move, at_mover, at_other, same_value}
use Rattle.ring_model.proofs.Runs.{pass_granted, run_descent}
use Rattle.ring_model.proofs.QuietRuns.{granted_on}

-- the left neighbour
pub left : ℕ → ℕ → ℕ
left n zero = n - 1
left n (suc i) = i

pub left_past : (n k : ℕ) → 1 ≤ k → left n k + 1 ≡ k
unfolding left
left_past n zero l = absurd (omega arith)
left_past n (suc k) l = omega arith

-- u is the ring before, in which the machines of the list have moved
pub record Agrees (before : Ring) (done : List ℕ) (u : Ring) : Type 0 where
  pub same : u.k ≡ before.k
  pub size : length u.values ≡ length before.values
  pub at : (k : ℕ) → k < length before.values → get_or u.values k 0 ≡ cond (has done k) (moved_value before k) (get_or before.values k 0)

pub agrees_start : (before : Ring) → Agrees before [] before
agrees_start before = record { same = refl; size = refl; at = λ k l. refl }

as_was : (before : Ring) (done : List ℕ) (u : Ring) (k : ℕ) → Agrees before done u → k < length before.values → has done k ≡ false → get_or u.values k 0 ≡ get_or before.values k 0
as_was before done u k a l e = a.at k l ∙ cond-false (has done k) (moved_value before k) (get_or before.values k 0) e

pub turn : (before : Ring) (done : List ℕ) (u : Ring) (i : ℕ) → 1 ≤ length before.values → Agrees before done u → i < length before.values → has done i ≡ false → has done (left (length before.values) i) ≡ false →
    (is_privileged u.values i ≡ is_privileged before.values i) × (moved_value u i ≡ moved_value before i)
unfolding left
turn before done u zero one a l ni nl =
    let n : length u.values ≡ length before.values = a.size in
    let x : get_or u.values 0 0 ≡ get_or before.values 0 0 = as_was before done u 0 a l ni in
    let y : get_or u.values (length u.values - 1) 0 ≡ get_or before.values (length before.values - 1) 0 = ap (λ z. get_or u.values (z - 1) 0) n ∙ as_was before done u (length before.values - 1) a (omega arith) nl in
    (same_value _ _ _ _ y x, ap (λ z. (z + 1) % u.k) x ∙ ap (λ z. (get_or before.values 0 0 + 1) % z) a.same)
turn before done u (suc i) one a l ni nl =
    let x : get_or u.values (suc i) 0 ≡ get_or before.values (suc i) 0 = as_was before done u (suc i) a l ni in
    let y : get_or u.values i 0 ≡ get_or before.values i 0 = as_was before done u i a (omega arith) nl in
    (ap not (same_value _ _ _ _ y x), y)

pub has_first : (i : ℕ) (ms : List ℕ) → has (i ∷ ms) i ≡ true
has_first i ms = or_left (eqb i i) (has ms i) (eq-eqb i i refl)

pub has_later : (m i : ℕ) (ms : List ℕ) → has ms i ≡ true → has (m ∷ ms) i ≡ true
has_later m i ms h = or_right (eqb i m) (has ms i) h

pub has_parts : (m i : ℕ) (ms : List ℕ) → has (m ∷ ms) i ≡ true → (i ≡ m) ⊎ (has ms i ≡ true)
has_parts m i ms h = elim (cases_eq i m) [
  | inl e ↦ inl e
  | inr ne ↦ inr (sym (ap (λ (b : Bool). b || has ms i) (ne_eqb i m ne)) ∙ h)
]

pub agrees_move : (before : Ring) (done : List ℕ) (u : Ring) (i : ℕ) → Agrees before done u → i < length before.values → moved_value u i ≡ moved_value before i →
    Agrees before (i ∷ done) (moved u i)
agrees_move before done u i a l e =
    let n : length u.values ≡ length before.values = a.size in
    let m : length (moved u i).values ≡ length u.values = length_move u i in
    let here : get_or (moved u i).values i 0 ≡ moved_value before i = at_mover u i (omega arith) ∙ e in
    record {
      same = a.same;
      size = m ∙ n;
      at = λ k lk. elim (cases_eq k i) [
        | inl q ↦ ap (λ x. get_or (moved u i).values x 0) q
            ∙ (here ∙ (sym (ap (moved_value before) q) ∙ sym (cond-true (has (i ∷ done) k) (moved_value before k) (get_or before.values k 0) (or_left (eqb k i) (has done k) (eq-eqb k i q)))))
        | inr ne ↦ at_other u i k ne
            ∙ (a.at k lk ∙ ap (λ (b : Bool). cond (b || has done k) (moved_value before k) (get_or before.values k 0)) (sym (ne_eqb k i ne)))
      ];
    }

pub agrees_like : (before : Ring) (done ms : List ℕ) (u : Ring) → ((k : ℕ) → has done k ≡ has ms k) → Agrees before done u → Agrees before ms u
agrees_like before done ms u same a = record {
  same = a.same;
  size = a.size;
  at = λ k l. a.at k l ∙ ap (λ (b : Bool). cond b (moved_value before k) (get_or before.values k 0)) (same k);
}

-- each machine of the list, in its turn, has not moved, nor its left neighbour
abbrev pub Apart : ℕ → List ℕ → List ℕ → Type 0
Apart n done [] = Unit {0}
Apart n done (i ∷ ms) = (i < n) × (has done i ≡ false) × (has done (left n i) ≡ false) × Apart n (i ∷ done) ms

-- the machines that moved and those that are left are a group's
abbrev pub AreOf : List ℕ → List ℕ → List ℕ → Type 0
AreOf group done ms = (k : ℕ) → (has done k || has ms k) ≡ has group k

turned : (d e m : Bool) → ((e || d) || m) ≡ (d || (e || m))
turned true true m = refl
turned true false m = refl
turned false true m = refl
turned false false m = refl

or_false : (b : Bool) → (b || false) ≡ b
or_false true = refl
or_false false = refl

pub are_of_more : (group done ms : List ℕ) (i : ℕ) → AreOf group done (i ∷ ms) → AreOf group (i ∷ done) ms
are_of_more group done ms i h = λ k. turned (has done k) (eqb k i) (has ms k) ∙ h k

pub are_of_end : (group done : List ℕ) → AreOf group done [] → (k : ℕ) → has done k ≡ has group k
are_of_end group done h = λ k. sym (or_false (has done k)) ∙ h k

-- the state of a walk along the machines: those in `done` have moved, those in `ms` are left
pub record Walks (before : Ring) (group done ms : List ℕ) (u : Ring) : Type 0 where
  pub some : 1 ≤ length before.values
  pub agrees : Agrees before done u
  pub apart : Apart (length before.values) done ms
  pub of : AreOf group done ms

pub record Walked (before : Ring) (group done : List ℕ) (i : ℕ) (ms : List ℕ) (u : Ring) : Type 0 where
  pub below : i < length u.values
  pub privileged : is_privileged u.values i ≡ is_privileged before.values i
  pub member : has group i ≡ true
  pub more : Walks before group (i ∷ done) ms (moved u i)

pub walk : (before : Ring) (group done : List ℕ) (i : ℕ) (ms : List ℕ) (u : Ring) → Walks before group done (i ∷ ms) u → Walked before group done i ms u
walk before group done i ms u w =
    let p = w.apart in
    let n : length u.values ≡ length before.values = w.agrees.size in
    let l : i < length before.values = p.0 in
    let t = turn before done u i w.some w.agrees l p.1 p.2 in
    record {
      below = omega arith;
      privileged = t.0;
      member = sym (w.of i) ∙ or_right (has done i) (has (i ∷ ms) i) (has_first i ms);
      more = record {
        some = w.some;
        agrees = agrees_move before done u i w.agrees l t.1;
        apart = p.3;
        of = are_of_more group done ms i w.of;
      };
    }

pub walk_end : (before : Ring) (group done : List ℕ) (u : Ring) → Walks before group done [] u → Agrees before group u
walk_end before group done u w = agrees_like before done group u (are_of_end group done w.of) w.agrees

-- the order of the moves keeps neighbours apart

apart_back : (n x : ℕ) (done ms : List ℕ) (high : ℕ) → Falls (suc x) high ms → high ≤ n → ((k : ℕ) → has done k ≡ true → (k < x) ⊎ (high ≤ k)) → Apart n done ms
apart_back n x done [] high f l h = tt
apart_back n x done (m ∷ ms) high f l h =
    let lt : m < high = f.0 in
    let ge : suc x ≤ m = f.1 in
    let one : left n m + 1 ≡ m = left_past n m (omega arith) in (
      omega arith,
      false_from_ne_true (has done m) (λ e. elim (h m e) [ inl a ↦ omega arith | inr a ↦ omega arith ]),
      false_from_ne_true (has done (left n m)) (λ e. elim (h (left n m) e) [ inl a ↦ omega arith | inr a ↦ omega arith ]),
      apart_back n x (m ∷ done) ms m f.2 (omega arith) (λ k e. elim (has_parts m k done e) [
        | inl q ↦ inr (omega arith)
        | inr r ↦ elim (h k r) [ inl a ↦ inl a | inr a ↦ inr (omega arith) ]
      ]),
    )

left_front : (n x top : ℕ) → suc x ≤ top → top < n → (left n x < suc x) ⊎ (top ≤ left n x)
unfolding left
left_front n zero top l m = inr (omega arith)
left_front n (suc x) top l m = inl (omega arith)

apart_front : (n x top : ℕ) (done back : List ℕ) → x ≤ top → top < n → Falls (suc top) n back → ((k : ℕ) → has done k ≡ true → (x ≤ k) × (k < top)) →
    Apart n done (down_from x ++ back)
apart_front n zero top done back l m f h = apart_back n top done back n f (omega arith) (λ k e. inl (h k e).1)
apart_front n (suc x) top done back l m f h = (
  omega arith,
  false_from_ne_true (has done x) (λ e. let p = h x e in let a : suc x ≤ x = p.0 in omega arith),
  false_from_ne_true (has done (left n x)) (λ e.
      let p = h (left n x) e in
      let a : suc x ≤ left n x = p.0 in
      let b : left n x < top = p.1 in
      elim (left_front n x top l m) [ inl c ↦ omega arith | inr c ↦ omega arith ]),
  apart_front n x top (x ∷ done) back (omega arith) m f (λ k e. elim (has_parts x k done e) [
    | inl q ↦ (omega arith, omega arith)
    | inr r ↦ let p = h k r in let a : suc x ≤ k = p.0 in (omega arith, p.1)
  ]),
)

pub order_apart : (n : ℕ) (ms : List ℕ) → IsInOrder n ms → Apart n [] ms
order_apart n ms o = subst (λ (x : List ℕ). Apart n [] x) (sym o.order)
    (apart_front n o.least o.least [] o.back (omega arith) o.machine o.falls (λ k e. absurd (both_ways false refl e)))

pub walk_start : (before : Ring) (ms : List ℕ) → 1 ≤ length before.values → IsInOrder (length before.values) ms → Walks before ms [] ms before
walk_start before ms one o = record { some = one; agrees = agrees_start before; apart = order_apart (length before.values) ms o; of = λ k. refl }

-- which machines are in the order

pub has_append : (xs ys : List ℕ) (k : ℕ) → has (xs ++ ys) k ≡ (has xs k || has ys k)
has_append [] ys k = refl
has_append (x ∷ xs) ys k = ap (λ (b : Bool). eqb k x || b) (has_append xs ys k) ∙ or_assoc (eqb k x) (has xs k) (has ys k)
  where
    or_assoc : (a b c : Bool) → (a || (b || c)) ≡ ((a || b) || c)
    or_assoc true b c = refl
    or_assoc false b c = refl

pub down_has : (x k : ℕ) → has (down_from x) k ≡ true → k < x
down_has zero k h = absurd (both_ways false refl h)
down_has (suc x) k h = elim (has_parts x k (down_from x) h) [ inl e ↦ omega arith | inr t ↦ let l : k < x = down_has x k t in omega arith ]

pub falls_has : (low high : ℕ) (ms : List ℕ) (k : ℕ) → Falls low high ms → has ms k ≡ true → (low ≤ k) × (k < high)
falls_has low high [] k f h = absurd (both_ways false refl h)
falls_has low high (m ∷ ms) k f h =
    let a : m < high = f.0 in
    let b : low ≤ m = f.1 in
    elim (has_parts m k ms h) [
      | inl e ↦ (omega arith, omega arith)
      | inr t ↦ let r = falls_has low m ms k f.2 t in let c : k < m = r.1 in (r.0, omega arith)
    ]

pub or_cases' : (a b : Bool) → (a || b) ≡ true → (a ≡ true) ⊎ (b ≡ true)
or_cases' true b e = inl refl
or_cases' false b e = inr e

pub order_has : (n : ℕ) (ms : List ℕ) (o : IsInOrder n ms) (k : ℕ) → has ms k ≡ true → (k < o.least) ⊎ ((o.least < k) × (k < n))
order_has n ms o k h = elim (or_cases' (has (down_from o.least) k) (has o.back k) (sym (has_append (down_from o.least) o.back k) ∙ (sym (ap (λ (x : List ℕ). has x k) o.order) ∙ h))) [
  | inl a ↦ inl (down_has o.least k a)
  | inr b ↦ let r = falls_has (suc o.least) n o.back k o.falls b in let c : suc o.least ≤ k = r.0 in inr (omega arith, r.1)
]

pub order_leaves_out : (n : ℕ) (ms : List ℕ) (o : IsInOrder n ms) → has ms o.least ≡ false
order_leaves_out n ms o = false_from_ne_true (has ms o.least) (λ h. elim (order_has n ms o o.least h) [ inl a ↦ omega arith | inr b ↦ let c : o.least < o.least = b.0 in omega arith ])

pub order_below : (n : ℕ) (ms : List ℕ) → IsInOrder n ms → (k : ℕ) → has ms k ≡ true → k < n
order_below n ms o k h =
    let m : o.least < n = o.machine in
    elim (order_has n ms o k h) [ inl a ↦ omega arith | inr b ↦ b.1 ]

-- the walk makes the group move

pub group_done : (before : Ring) (ms : List ℕ) (u : Ring) → IsInOrder (length before.values) ms → ((i : ℕ) → has ms i ≡ true → is_privileged before.values i ≡ true) → Agrees before ms u → GroupMove before ms u
group_done before ms u o able a = record {
  some = o.some;
  leaves_out = (o.least, o.machine, order_leaves_out (length before.values) ms o);
  privileged = λ i h. (order_below (length before.values) ms o i h, able i h);
  same = a.same;
  size = a.size;
  values = a.at;
}

pub walk_passes : (before : Ring) (group done ms : List ℕ) (u : Ring) → Walks before group done ms u → AreAllPrivileged before.values group →
    (granted_passes u ms ≡ ms) × Agrees before group (after_passes u ms)
walk_passes before group done [] u w able = (refl, walk_end before group done u w)
walk_passes before group done (i ∷ ms) u w able =
    let t = walk before group done i ms u w in
    let e : is_privileged u.values i ≡ true = t.privileged ∙ able i t.member in
    let r = walk_passes before group (i ∷ done) ms (moved u i) t.more able in (
      granted_on u i ms e ∙ ap (λ (x : List ℕ). i ∷ x) r.0,
      subst (λ (x : Ring). Agrees before group (after_passes x ms)) (sym (pass_granted u i e)) r.1,
    )

pub group_order : GroupOrder
group_order before ms r o able =
    let two = r.two in
    let p = walk_passes before ms [] ms before (walk_start before ms (omega arith) o) able in
    (p.0, group_done before ms (after_passes before ms) o able p.1)

same_ring : (t u : Ring) → t.k ≡ u.k → t.values ≡ u.values → t ≡ u
same_ring t u k v = ap (λ (x : ℕ). ring_with x t.values) k ∙ ap (λ (x : List ℕ). ring_with u.k x) v

pub group_move_is_one : GroupMoveIsOne
group_move_is_one before ms t u a b =
    let n : length t.values ≡ length before.values = a.size in
    let m : length u.values ≡ length before.values = b.size in
    same_ring t u (a.same ∙ sym b.same) (ext_get_or 0 t.values u.values (n ∙ sym m) (λ i l. a.values i (omega arith) ∙ sym (b.values i (omega arith))))

pub are_below : (n : ℕ) (ms : List ℕ) → ((k : ℕ) → has ms k ≡ true → k < n) → AreBelow n ms
are_below n [] h = tt
are_below n (m ∷ ms) h = (h m (has_first m ms), are_below n ms (λ k e. h k (has_later m k ms e)))

pub group_descent : GroupDescent
group_descent before ms t r o g =
    let p = group_order before ms r o (λ i h. (g.privileged i h).1) in
    let m : length (granted_passes before ms) ≡ length ms = ap (λ (y : List ℕ). length y) p.0 in
    let d : rest (after_passes before ms) ≤ rest before - length (granted_passes before ms) = run_descent before ms r (are_below (length before.values) ms (order_below (length before.values) ms o)) in
    let e : rest t ≡ rest (after_passes before ms) = ap rest (group_move_is_one before ms t (after_passes before ms) g p.1) in
    omega arith
