-- The passes of the members of drawn groups, one by one.
use Rattle.std.proofs.Common.{◌≡◌, ℕ, zero, suc, ◌+◌, ◌-◌, ◌<◌, ◌≤◌, true, false, List, [], ◌∷◌, length, get_or, take, drop, refl, sym, ◌∙◌, ap, subst, inl, inr, arith}
use Rattle.std.specs.Prelude.{◌⊎◌}
use Rattle.std.proofs.lemmas.List.{length-take-le, length-drop, get_or-drop, drop-drop}
use Rattle.std.proofs.lemmas.Bool.{cases_Bool, cases_lt, cond-true, cond-false, both_ways}
use Rattle.rand_pcg.specs.Lcg.{Lcg}
use Rattle.ring_model.specs.Ring.{Ring, IsRing, is_privileged, moved, is_settled, bound}
use Rattle.ring_model.specs.Runs.{passed, after_passes, granted_passes, AreBelow}
use Rattle.ring_model.specs.RepairLaws.{longest_repair}
use Rattle.ring_model.specs.Groups.{least_left_out, move_order}
use Rattle.ring_model.specs.GroupLaws.{CanMove}
use Rattle.ring_model.proofs.Runs.{pass_granted, pass_ring, length_pass, run_settles}
use Rattle.ring_model.proofs.LongRuns.{long_run_settles}
use Rattle.ring_model.proofs.Groups.{group_order, are_below, order_below}
use Rattle.ring_model.proofs.Orders.{group_of, order_able, order_length, group_move_like}
use Rattle.drawn_groups.specs.Drawn.{group}
use Rattle.drawn_groups.specs.Groups.{members_left, group_choices}
use Rattle.drawn_groups.specs.Turns.{left_in, IsPlace}
use Rattle.drawn_groups.specs.declared.groups.Place.{Place}
use Rattle.drawn_groups.specs.GroupLaws.{GroupsCanMove, GroupsMoveAtOnce, GroupsSettle, GroupsAreBounded, repair_choices}
use Rattle.drawn_groups.proofs.Drawings.{group_can}

-- ---- a group

pub groups_can_move : GroupsCanMove
groups_can_move r g is = let two = is.two in group_can r.values g two

pub groups_move : GroupsMoveAtOnce
groups_move r g is =
    let ms : List ℕ = (group r.values g).0 in
    let can : CanMove r.values ms = groups_can_move r g is in
    let order = group_of r.values ms can in
    let all = group_order r (move_order ms) is order.in_order (order_able r.values ms can) in
    (all.0, group_move_like r (move_order ms) ms (after_passes r (move_order ms)) order.size order.same all.1)

-- ---- members that are left are granted one after the other

pub record IsReady (left : List ℕ) (r : Ring) : Type 0 where
  pub granted : granted_passes r left ≡ left
  pub below : AreBelow (length r.values) left

none_ready : (r : Ring) → IsReady [] r
none_ready r = record { granted = refl; below = tt }

granted_short : (r : Ring) (cs : List ℕ) → length (granted_passes r cs) ≤ length cs
granted_short r [] = omega arith
granted_short r (i ∷ cs) = elim (cases_Bool (is_privileged r.values i)) [
  | inl on ↦
      let is = ap (λ (x : List ℕ). length x) (cond-true (is_privileged r.values i) (i ∷ granted_passes (passed r i) cs) (granted_passes (passed r i) cs) on) in
      let ih = granted_short (passed r i) cs in
      omega arith
  | inr off ↦
      let is = ap (λ (x : List ℕ). length x) (cond-false (is_privileged r.values i) (i ∷ granted_passes (passed r i) cs) (granted_passes (passed r i) cs) off) in
      let ih = granted_short (passed r i) cs in
      omega arith
]

same_tail : (x : ℕ) (xs ys : List ℕ) → (x ∷ xs) ≡ (x ∷ ys) → xs ≡ ys
same_tail x xs ys e = cc e

first_granted : (r : Ring) (i : ℕ) (cs : List ℕ) → granted_passes r (i ∷ cs) ≡ i ∷ cs → is_privileged r.values i ≡ true
first_granted r i cs e = elim (cases_Bool (is_privileged r.values i)) [
  | inl on ↦ on
  | inr off ↦
      let is = ap (λ (x : List ℕ). length x) (sym e ∙ cond-false (is_privileged r.values i) (i ∷ granted_passes (passed r i) cs) (granted_passes (passed r i) cs) off) in
      let short = granted_short (passed r i) cs in
      absurd (omega arith)
]

later_granted : (r : Ring) (i : ℕ) (cs : List ℕ) → granted_passes r (i ∷ cs) ≡ i ∷ cs → granted_passes (passed r i) cs ≡ cs
later_granted r i cs e =
    same_tail i (granted_passes (passed r i) cs) cs
    (sym (cond-true (is_privileged r.values i) (i ∷ granted_passes (passed r i) cs) (granted_passes (passed r i) cs) (first_granted r i cs e)) ∙ e)

-- the next member can pass, and the others are ready then
pub record IsNext (left : List ℕ) (r : Ring) : Type 0 where
  pub below : get_or left 0 0 < length r.values
  pub on : is_privileged r.values (get_or left 0 0) ≡ true
  pub more : IsReady (drop 1 left) (passed r (get_or left 0 0))

pub ready_next : (left : List ℕ) (r : Ring) → IsReady left r → 1 ≤ length left → IsNext left r
ready_next [] r ready some = absurd (omega arith)
ready_next (i ∷ left) r ready some = record {
  below = ready.below.0;
  on = first_granted r i left ready.granted;
  more = record {
    granted = later_granted r i left ready.granted;
    below = subst (λ (n : ℕ). AreBelow n left) (sym (length_pass r i)) ready.below.1;
  };
}

group_ready : (r : Ring) (g : Lcg) → IsRing r → IsReady (move_order (group r.values g).0) r
group_ready r g is =
    let ms : List ℕ = (group r.values g).0 in
    let order = group_of r.values ms (groups_can_move r g is) in
    record {
      granted = (groups_move r g is).0;
      below = are_below (length r.values) (move_order ms) (order_below (length r.values) (move_order ms) order.in_order);
    }

left_none : (s : List ℕ) (g : Lcg) → members_left s [] g ≡ (move_order (group s g).0, (group s g).1)
unfolding members_left
left_none s g = refl

left_some : (s : List ℕ) (i : ℕ) (left : List ℕ) (g : Lcg) → members_left s (i ∷ left) g ≡ (i ∷ left, g)
unfolding members_left
left_some s i left g = refl

pub record AreLeft (r : Ring) (p : List ℕ × Lcg) : Type 0 where
  pub ready : IsReady p.0 r
  pub some : 1 ≤ length p.0

pub left_ready : (r : Ring) (left : List ℕ) (g : Lcg) → IsRing r → IsReady left r → AreLeft r (members_left r.values left g)
left_ready r [] g is ready =
    let can = (groups_can_move r g is).some in
    let long = order_length (group r.values g).0 in
    subst (λ (x : List ℕ × Lcg). AreLeft r x) (sym (left_none r.values g)) (record { ready = group_ready r g is; some = omega arith })
left_ready r (i ∷ left) g is ready =
    subst (λ (x : List ℕ × Lcg). AreLeft r x) (sym (left_some r.values i left g)) (record { ready = ready; some = omega arith })

-- the machine that passes next
abbrev pub next_of : Ring → List ℕ → Lcg → ℕ
next_of r left g = get_or (members_left r.values left g).0 0 0

abbrev pub rest_of : Ring → List ℕ → Lcg → List ℕ
rest_of r left g = drop 1 (members_left r.values left g).0

abbrev pub words_of : Ring → List ℕ → Lcg → Lcg
words_of r left g = (members_left r.values left g).1

pub next_is : (r : Ring) (left : List ℕ) (g : Lcg) → IsRing r → IsReady left r → IsNext (members_left r.values left g).0 r
next_is r left g is ready = let are = left_ready r left g is ready in ready_next (members_left r.values left g).0 r are.ready are.some

-- ---- choices

pub choices_none : (left : List ℕ) (g : Lcg) (r : Ring) → group_choices 0 left g r ≡ []
unfolding group_choices
choices_none left g r = refl

pub choices_settled : (most : ℕ) (left : List ℕ) (g : Lcg) (r : Ring) → is_settled r.values ≡ true → group_choices most left g r ≡ []
unfolding group_choices
choices_settled zero left g r e = refl
choices_settled (suc most) left g r e =
    cond-true (is_settled r.values) [] (next_of r left g ∷ group_choices most (rest_of r left g) (words_of r left g) (passed r (next_of r left g))) e

pub choices_go_on : (most : ℕ) (left : List ℕ) (g : Lcg) (r : Ring) → is_settled r.values ≡ false →
    group_choices (suc most) left g r ≡ next_of r left g ∷ group_choices most (rest_of r left g) (words_of r left g) (passed r (next_of r left g))
unfolding group_choices
choices_go_on most left g r e =
    cond-false (is_settled r.values) [] (next_of r left g ∷ group_choices most (rest_of r left g) (words_of r left g) (passed r (next_of r left g))) e

-- what is chosen, one after the other
record IsRepair (most : ℕ) (r : Ring) (cs : List ℕ) : Type 0 where
  granted : granted_passes r cs ≡ cs
  below : AreBelow (length r.values) cs
  unsettled : (p : ℕ) → p < length cs → is_settled (after_passes r (take p cs)).values ≡ false
  short : length cs ≤ most
  ends : (is_settled (after_passes r cs).values ≡ true) ⊎ (length cs ≡ most)

repair_none : (r : Ring) → IsRepair 0 r []
repair_none r = record { granted = refl; below = tt; unsettled = λ p l. absurd (omega arith); short = omega arith; ends = inr refl }

repair_settled : (most : ℕ) (r : Ring) → is_settled r.values ≡ true → IsRepair most r []
repair_settled most r e = record { granted = refl; below = tt; unsettled = λ p l. absurd (omega arith); short = omega arith; ends = inl e }

repair_more : (most i : ℕ) (r : Ring) (cs : List ℕ) → is_settled r.values ≡ false → i < length r.values → is_privileged r.values i ≡ true →
    IsRepair most (passed r i) cs → IsRepair (suc most) r (i ∷ cs)
repair_more most i r cs e l on rep = record {
  granted =
      cond-true (is_privileged r.values i) (i ∷ granted_passes (passed r i) cs) (granted_passes (passed r i) cs) on
      ∙ ap (λ (x : List ℕ). i ∷ x) rep.granted;
  below = (l, subst (λ (n : ℕ). AreBelow n cs) (length_pass r i) rep.below);
  unsettled = λ p. elim p as (λ p. p < length (i ∷ cs) → is_settled (after_passes r (take p (i ∷ cs))).values ≡ false) [
    | zero ↦ λ lp. e
    | suc p ↦ λ lp. rep.unsettled p (omega arith)
  ];
  short = let few = rep.short in omega arith;
  ends = elim rep.ends [
    | inl done ↦ inl done
    | inr all ↦ inr (let q : length (i ∷ cs) ≡ suc most = omega arith in q)
  ];
}

repair_is : (most : ℕ) (left : List ℕ) (g : Lcg) (r : Ring) → IsRing r → IsReady left r → IsRepair most r (group_choices most left g r)
repair_is zero left g r is ready = subst (λ (x : List ℕ). IsRepair 0 r x) (sym (choices_none left g r)) (repair_none r)
repair_is (suc most) left g r is ready = elim (cases_Bool (is_settled r.values)) [
  | inl e ↦ subst (λ (x : List ℕ). IsRepair (suc most) r x) (sym (choices_settled (suc most) left g r e)) (repair_settled (suc most) r e)
  | inr e ↦
      let next = next_is r left g is ready in
      let i : ℕ = next_of r left g in
      subst (λ (x : List ℕ). IsRepair (suc most) r x) (sym (choices_go_on most left g r e))
      (repair_more most i r (group_choices most (rest_of r left g) (words_of r left g) (passed r i)) e next.below next.on
      (repair_is most (rest_of r left g) (words_of r left g) (passed r i) (pass_ring r i is next.below) next.more))
]

-- ---- a prefix of what is granted is granted

granted_take : (p : ℕ) (r : Ring) (cs : List ℕ) → granted_passes r cs ≡ cs → granted_passes r (take p cs) ≡ take p cs
granted_take zero r cs e = refl
granted_take (suc p) r [] e = refl
granted_take (suc p) r (i ∷ cs) e =
    cond-true (is_privileged r.values i) (i ∷ granted_passes (passed r i) (take p cs)) (granted_passes (passed r i) (take p cs)) (first_granted r i cs e)
    ∙ ap (λ (x : List ℕ). i ∷ x) (granted_take p (passed r i) cs (later_granted r i cs e))

below_take : (n p : ℕ) (cs : List ℕ) → AreBelow n cs → AreBelow n (take p cs)
below_take n zero cs b = tt
below_take n (suc p) [] b = tt
below_take n (suc p) (i ∷ cs) b = (b.0, below_take n p cs b.1)

long_take : (p : ℕ) (cs : List ℕ) → p ≤ length cs → length (take p cs) ≡ p
long_take zero cs l = refl
long_take (suc p) [] l = absurd (omega arith)
long_take (suc p) (i ∷ cs) l = let ih = long_take p cs (omega arith) in omega arith

-- ---- the laws

repairs_are : (r : Ring) (g : Lcg) → IsRing r → IsRepair (longest_repair (length r.values)) r (repair_choices g r)
repairs_are r g is = repair_is (longest_repair (length r.values)) [] g r is (none_ready r)

pub groups_settle : GroupsSettle
groups_settle r g is =
    let cs : List ℕ = repair_choices g r in
    let rep = repairs_are r g is in
    let settled : is_settled (after_passes r cs).values ≡ true = elim rep.ends [
      | inl done ↦ done
      | inr all ↦
          let long = ap (λ (x : List ℕ). length x) rep.granted in
          long_run_settles r cs is rep.below (omega arith)
    ] in
    (rep.granted, settled, rep.unsettled)

pub groups_are_bounded : GroupsAreBounded
groups_are_bounded r g is =
    let cs : List ℕ = repair_choices g r in
    let rep = repairs_are r g is in
    let b : ℕ = bound (length r.values) in
    let few : length cs ≤ b = elim (cases_lt b (length cs)) [
      | inr le ↦ le
      | inl more ↦
          let granted = ap (λ (x : List ℕ). length x) (granted_take b r cs rep.granted) in
          let long = long_take b cs (omega arith) in
          absurd (both_ways (is_settled (after_passes r (take b cs)).values) (rep.unsettled b more)
          (run_settles r (take b cs) is (below_take (length r.values) b cs rep.below) (omega arith)))
    ] in
    (rep.short, few)

-- ---- what is kept of a group

left_is : (machines : List ℕ) (p : Place) → left_in machines p ≡ drop p.turn (move_order (take p.count machines))
unfolding left_in
left_is machines p = refl

order_long : (machines : List ℕ) (count : ℕ) → count ≤ length machines → length (move_order (take count machines)) ≡ count
order_long machines count l = order_length (take count machines) ∙ length-take-le count machines l

left_long : (machines : List ℕ) (p : Place) → IsPlace machines p → length (left_in machines p) ≡ p.count - p.turn
left_long machines p is =
    ap (λ (x : List ℕ). length x) (left_is machines p) ∙ length-drop p.turn (move_order (take p.count machines))
    ∙ ap (λ (x : ℕ). x - p.turn) (order_long machines p.count is.count)

nothing_long : (xs : List ℕ) → length xs ≡ 0 → xs ≡ []
nothing_long [] e = refl
nothing_long (x ∷ xs) e = absurd (omega arith)

left_kept : (s left : List ℕ) (g : Lcg) → 1 ≤ length left → members_left s left g ≡ (left, g)
left_kept s [] g some = absurd (omega arith)
left_kept s (i ∷ left) g some = left_some s i left g

-- some member is left
pub members_kept : (s machines : List ℕ) (p : Place) (g : Lcg) → IsPlace machines p → p.turn < p.count →
    members_left s (left_in machines p) g ≡ (left_in machines p, g)
members_kept s machines p g is l = let long = left_long machines p is in left_kept s (left_in machines p) g (omega arith)

-- none is
pub members_new : (s machines : List ℕ) (p : Place) (g : Lcg) → IsPlace machines p → p.count ≤ p.turn →
    members_left s (left_in machines p) g ≡ (move_order (group s g).0, (group s g).1)
members_new s machines p g is l =
    let long = left_long machines p is in
    ap (λ (x : List ℕ). members_left s x g) (nothing_long (left_in machines p) (omega arith)) ∙ left_none s g

pub left_first : (machines : List ℕ) (p : Place) (ms : List ℕ) → p.turn ≡ 0 → take p.count machines ≡ ms → left_in machines p ≡ move_order ms
left_first machines p ms e em =
    left_is machines p ∙ ap (λ (x : ℕ). drop x (move_order (take p.count machines))) e ∙ ap move_order em

pub left_head : (machines : List ℕ) (p : Place) → get_or (left_in machines p) 0 0 ≡ get_or (move_order (take p.count machines)) p.turn 0
left_head machines p =
    let at : p.turn + 0 ≡ p.turn = omega arith in
    ap (λ (x : List ℕ). get_or x 0 0) (left_is machines p) ∙ get_or-drop p.turn (move_order (take p.count machines)) 0 0
    ∙ ap (λ (x : ℕ). get_or (move_order (take p.count machines)) x 0) at

pub left_later : (machines : List ℕ) (p q : Place) → q.count ≡ p.count → q.turn ≡ p.turn + 1 → left_in machines q ≡ drop 1 (left_in machines p)
left_later machines p q ec et =
    left_is machines q ∙ ap (λ (x : ℕ). drop q.turn (move_order (take x machines))) ec
    ∙ ap (λ (x : ℕ). drop x (move_order (take p.count machines))) et
    ∙ sym (drop-drop 1 p.turn (move_order (take p.count machines))) ∙ ap (drop 1) (sym (left_is machines p))

-- no member is kept
pub none_left : (machines : List ℕ) (p : Place) → p.count ≡ 0 → left_in machines p ≡ []
none_left machines p e =
    let short : length (left_in machines p) ≡ 0 =
    ap (λ (x : List ℕ). length x) (left_is machines p) ∙ length-drop p.turn (move_order (take p.count machines))
    ∙ ap (λ (x : ℕ). length (move_order (take x machines)) - p.turn) e ∙ (let q : length (move_order []) - p.turn ≡ 0 = omega arith in q) in
    nothing_long (left_in machines p) short

pub no_place : (machines : List ℕ) (p : Place) → p.count ≡ 0 → p.turn ≡ 0 → p.least ≡ 0 → IsPlace machines p
no_place machines p ec et el = record {
  count = omega arith;
  turn = omega arith;
  least = el ∙ sym (ap (λ (x : ℕ). least_left_out 0 (take x machines)) ec);
}

-- ---- the loop of a repair

-- after `at` passes the ring is r, and these members are left
pub record Repairs (most done : ℕ) (g0 g : Lcg) (left : List ℕ) (r0 r : Ring) (at : ℕ) : Type 0 where
  pub ring : IsRing r
  pub ready : IsReady left r
  pub size : length r.values ≡ length r0.values
  pub same : r.k ≡ r0.k
  pub all : done + length (group_choices (most - at) left g r) ≡ length (group_choices most [] g0 r0)
  pub counts : done ≡ at

pub repairs_start : (most : ℕ) (g : Lcg) (left : List ℕ) (r : Ring) → IsRing r → left ≡ [] → Repairs most 0 g g left r r 0
repairs_start most g left r is e =
    let less : most - 0 ≡ most = omega arith in
    let all' : length (group_choices (most - 0) left g r) ≡ length (group_choices most [] g r) =
    ap (λ (x : ℕ). length (group_choices x left g r)) less ∙ ap (λ (x : List ℕ). length (group_choices most x g r)) e in
    record { ring = is; ready = subst (λ (x : List ℕ). IsReady x r) (sym e) (none_ready r); size = refl; same = refl; all = omega arith; counts = refl }

-- the next member can pass
pub repairs_next : (most done : ℕ) (g0 g : Lcg) (left : List ℕ) (r0 r : Ring) (at i : ℕ) → Repairs most done g0 g left r0 r at →
    i ≡ next_of r left g → (i < length r.values) × (is_privileged r.values i ≡ true)
repairs_next most done g0 g left r0 r at i inv e =
    let next = next_is r left g inv.ring inv.ready in
    (subst (λ (x : ℕ). x < length r.values) (sym e) next.below, ap (is_privileged r.values) e ∙ next.on)

-- one more
pub repairs_more : (most done : ℕ) (g0 g g' : Lcg) (left left' : List ℕ) (r0 r t : Ring) (at i : ℕ) → Repairs most done g0 g left r0 r at → at < most →
    is_settled r.values ≡ false → i ≡ next_of r left g → left' ≡ rest_of r left g → g' ≡ words_of r left g → t ≡ moved r i →
    Repairs most (done + 1) g0 g' left' r0 t (at + 1)
repairs_more most done g0 g g' left left' r0 r t at i inv l e ei el eg et =
    let more : ℕ = most - (at + 1) in
    let one : most - at ≡ suc more = omega arith in
    let next = next_is r left g inv.ring inv.ready in
    let j : ℕ = next_of r left g in
    let to : t ≡ passed r j = et ∙ ap (moved r) ei ∙ sym (pass_granted r j next.on) in
    let go : length (group_choices (most - at) left g r) ≡ suc (length (group_choices more (rest_of r left g) (words_of r left g) (passed r j))) =
    ap (λ (x : ℕ). length (group_choices x left g r)) one ∙ ap (λ (x : List ℕ). length x) (choices_go_on more left g r e) in
    let then : length (group_choices more left' g' t) ≡ length (group_choices more (rest_of r left g) (words_of r left g) (passed r j)) =
    ap (λ (x : List ℕ). length (group_choices more x g' t)) el
    ∙ ap (λ (x : Lcg). length (group_choices more (rest_of r left g) x t)) eg
    ∙ ap (λ (x : Ring). length (group_choices more (rest_of r left g) (words_of r left g) x)) to in
    let all' = inv.all in
    let counts' = inv.counts in
    record {
      ring = subst (λ (x : Ring). IsRing x) (sym to) (pass_ring r j inv.ring next.below);
      ready = subst (λ (x : Ring). IsReady left' x) (sym to) (subst (λ (x : List ℕ). IsReady x (passed r j)) (sym el) next.more);
      size = ap (λ (x : Ring). length x.values) to ∙ length_pass r j ∙ inv.size;
      same = ap (λ (x : Ring). x.k) et ∙ inv.same;
      all = omega arith;
      counts = omega arith;
    }

pub repairs_end : (most done : ℕ) (g0 g : Lcg) (left : List ℕ) (r0 r : Ring) (at : ℕ) → Repairs most done g0 g left r0 r at →
    is_settled r.values ≡ true → done ≡ length (group_choices most [] g0 r0)
repairs_end most done g0 g left r0 r at inv e =
    let none = ap (λ (x : List ℕ). length x) (choices_settled (most - at) left g r e) in
    let all' = inv.all in
    omega arith

pub repairs_out : (most done : ℕ) (g0 g : Lcg) (left : List ℕ) (r0 r : Ring) (at : ℕ) → Repairs most done g0 g left r0 r at → most ≤ at →
    done ≡ length (group_choices most [] g0 r0)
repairs_out most done g0 g left r0 r at inv l =
    let out : most - at ≡ 0 = omega arith in
    let none : length (group_choices (most - at) left g r) ≡ 0 =
    ap (λ (x : ℕ). length (group_choices x left g r)) out ∙ ap (λ (x : List ℕ). length x) (choices_none left g r) in
    let all' = inv.all in
    omega arith
