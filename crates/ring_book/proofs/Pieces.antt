-- The tests of a block's members, and how a whole history begins.
use Rattle.std.proofs.Common.{◌≡◌, ℕ, zero, suc, ◌+◌, ◌-◌, ◌<◌, ◌≤◌, ◌↔◌, true, false, IsTrue, List, [], ◌∷◌, ◌++◌, length, get_or, take, drop, length-append, length-drop, refl, sym, ◌∙◌, ap, subst, inl, inr, arith}
use Rattle.std.proofs.lemmas.List.{drop_more, take-append-le, take_all, take-append-drop}
use Rattle.std.proofs.Math.Seq.{drop-append-add}
use Rattle.ring_model.specs.Groups.{down_from, Falls, IsInOrder, AreMembers, IsBlockOf, IsAlone, ArePieces, joined, IsWhole, left_of}
use Rattle.ring_model.specs.Replay.{machine_of}
use Rattle.ring_model.specs.declared.events.Op.{Op}
use Rattle.ring_model.specs.declared.events.Op.TheVariants.{Pass, Member, Corrupt}
use Rattle.ring_model.specs.declared.events.Event.{Event}
use Rattle.ring_model.proofs.Orders.{down_length}
use Rattle.ring_model.proofs.Wholes.{members_length, whole_before, whole_places, alone_none}
use Rattle.ring_book.specs.BookHistory.{machines_of, IsFirstPiece}

-- an answer of a test

pub is_so : {A : Type 0} → A → IsTrue true ↔ A
is_so a = (λ t. a, λ b. refl)

pub not_so : {A : Type 0} → (A → ⊥) → IsTrue false ↔ A
not_so none = (λ f. absurd (cc), λ a. absurd (none a))

-- the order of a block's machines

-- the machines are x - 1 down to 0, and then falling ones below high that are at least low
abbrev pub InTurn : ℕ → ℕ → ℕ → List ℕ → Type 0
InTurn low high zero ms = Falls low high ms
InTurn low high (suc x) [] = ⊥
InTurn low high (suc x) (m ∷ ms) = (m ≡ x) × InTurn low high x ms

record Parted (low high x : ℕ) (ms : List ℕ) : Type 0 where
  pub back : List ℕ
  pub order : ms ≡ down_from x ++ back
  pub falls : Falls low high back

parted : (low high x : ℕ) (ms : List ℕ) → InTurn low high x ms → Parted low high x ms
parted low high zero ms h = record { back = ms; order = refl; falls = h }
parted low high (suc x) [] h = absurd h
parted low high (suc x) (m ∷ ms) h =
    let t = parted low high x ms h.1 in
    record { back = t.back; order = ap (λ (k : ℕ). k ∷ ms) h.0 ∙ ap (λ (u : List ℕ). x ∷ u) t.order; falls = t.falls }

turn_of : (low high x : ℕ) (back : List ℕ) → Falls low high back → InTurn low high x (down_from x ++ back)
turn_of low high zero back f = f
turn_of low high (suc x) back f = (refl, turn_of low high x back f)

pub order_of_turns : (n least : ℕ) (ms : List ℕ) → least < n → 1 ≤ length ms → InTurn (suc least) n least ms → IsInOrder n ms
order_of_turns n least ms l some h =
    let t = parted (suc least) n least ms h in
    record { least = least; machine = l; back = t.back; order = t.order; falls = t.falls; some = some }

-- the least machine that an order leaves out is the one that the code finds
abbrev pub IsLeastOf : List ℕ → ℕ → Type 0
IsLeastOf ms found = (n least : ℕ) (back : List ℕ) → ms ≡ down_from least ++ back → Falls (suc least) n back → found ≡ least

pub turns_of_order : (n found : ℕ) (ms : List ℕ) → IsLeastOf ms found → IsInOrder n ms → (found < n) × InTurn (suc found) n found ms
turns_of_order n found ms is o =
    let e : found ≡ o.least = is n o.least o.back o.order o.falls in
    let m = o.machine in
    let there : InTurn (suc o.least) n o.least ms = subst (λ (u : List ℕ). InTurn (suc o.least) n o.least u) (sym o.order) (turn_of (suc o.least) n o.least o.back o.falls) in
    (omega (arith, e, m), subst (λ (x : ℕ). InTurn (suc x) n x ms) (sym e) there)

-- one machine more, on the way down and after it
module _ (low high least turn : ℕ) (ms : List ℕ) (within : turn < length ms) where
  pub down_on : turn < least → InTurn low high (least - turn) (drop turn ms) →
      (get_or ms turn 0 ≡ least - 1 - turn) × InTurn low high (least - (turn + 1)) (drop (turn + 1) ms)
  down_on t h =
      let s : least - turn ≡ suc (least - 1 - turn) = omega arith in
      let r : least - 1 - turn ≡ least - (turn + 1) = omega arith in
      let a : InTurn low high (suc (least - 1 - turn)) (drop turn ms) = subst (λ (x : ℕ). InTurn low high x (drop turn ms)) s h in
      let b : InTurn low high (suc (least - 1 - turn)) (get_or ms turn 0 ∷ drop (turn + 1) ms) =
      subst (λ (u : List ℕ). InTurn low high (suc (least - 1 - turn)) u) (drop_more ms turn 0 within) a in
      (b.0, subst (λ (x : ℕ). InTurn low high x (drop (turn + 1) ms)) r b.1)

  pub down_from_here : turn < least → get_or ms turn 0 ≡ least - 1 - turn → InTurn low high (least - (turn + 1)) (drop (turn + 1) ms) →
      InTurn low high (least - turn) (drop turn ms)
  down_from_here t e h =
      let s : suc (least - 1 - turn) ≡ least - turn = omega arith in
      let r : least - (turn + 1) ≡ least - 1 - turn = omega arith in
      let b : InTurn low high (suc (least - 1 - turn)) (get_or ms turn 0 ∷ drop (turn + 1) ms) = (e, subst (λ (x : ℕ). InTurn low high x (drop (turn + 1) ms)) r h) in
      let a : InTurn low high (suc (least - 1 - turn)) (drop turn ms) =
      subst (λ (u : List ℕ). InTurn low high (suc (least - 1 - turn)) u) (sym (drop_more ms turn 0 within)) b in
      subst (λ (x : ℕ). InTurn low high x (drop turn ms)) s a

  pub back_on : least ≤ turn → InTurn low high (least - turn) (drop turn ms) →
      (get_or ms turn 0 < high) × (low ≤ get_or ms turn 0) × InTurn low (get_or ms turn 0) (least - (turn + 1)) (drop (turn + 1) ms)
  back_on t h =
      let s : least - turn ≡ zero = omega arith in
      let r : zero ≡ least - (turn + 1) = omega arith in
      let a : InTurn low high zero (drop turn ms) = subst (λ (x : ℕ). InTurn low high x (drop turn ms)) s h in
      let b : InTurn low high zero (get_or ms turn 0 ∷ drop (turn + 1) ms) = subst (λ (u : List ℕ). InTurn low high zero u) (drop_more ms turn 0 within) a in
      (b.0, b.1, subst (λ (x : ℕ). InTurn low (get_or ms turn 0) x (drop (turn + 1) ms)) r b.2)

  pub back_from_here : least ≤ turn → get_or ms turn 0 < high → low ≤ get_or ms turn 0 → InTurn low (get_or ms turn 0) (least - (turn + 1)) (drop (turn + 1) ms) →
      InTurn low high (least - turn) (drop turn ms)
  back_from_here t below above h =
      let s : zero ≡ least - turn = omega arith in
      let r : least - (turn + 1) ≡ zero = omega arith in
      let b : InTurn low high zero (get_or ms turn 0 ∷ drop (turn + 1) ms) = (below, above, subst (λ (x : ℕ). InTurn low (get_or ms turn 0) x (drop (turn + 1) ms)) r h) in
      let a : InTurn low high zero (drop turn ms) = subst (λ (u : List ℕ). InTurn low high zero u) (sym (drop_more ms turn 0 within)) b in
      subst (λ (x : ℕ). InTurn low high x (drop turn ms)) s a

-- at the end nothing is left
pub in_turn_end : (low high least turn : ℕ) (ms : List ℕ) → length ms ≤ turn → least ≤ turn → InTurn low high (least - turn) (drop turn ms)
in_turn_end low high least turn ms all l =
    let s : zero ≡ least - turn = omega arith in
    let none : [] ≡ drop turn ms = sym (gone turn ms all) in
    let a : InTurn low high zero (drop turn ms) = subst (λ (u : List ℕ). InTurn low high zero u) none tt in
    subst (λ (x : ℕ). InTurn low high x (drop turn ms)) s a
  where
    gone : (i : ℕ) (xs : List ℕ) → length xs ≤ i → drop i xs ≡ []
    gone zero [] a = refl
    gone (suc i) [] a = refl
    gone zero (x ∷ xs) a = absurd (omega arith)
    gone (suc i) (x ∷ xs) a = gone i xs (omega arith)

-- the least machine that is left out

falls_some : (low high : ℕ) (ms : List ℕ) (i : ℕ) → Falls low high ms → 1 ≤ low → 1 ≤ get_or ms i 1
falls_some low high [] i f l = omega arith
falls_some low high (m ∷ ms) zero f l = let b : low ≤ m = f.1 in omega arith
falls_some low high (m ∷ ms) (suc i) f l = falls_some low m ms i f.2 l

zero_at : (y : ℕ) (back : List ℕ) → get_or (down_from (suc y) ++ back) y 1 ≡ 0
zero_at zero back = refl
zero_at (suc y) back = zero_at y back

one_or : (ms : List ℕ) (i : ℕ) → i < length ms → get_or ms i 1 ≡ get_or ms i 0
one_or [] i l = absurd (omega arith)
one_or (m ∷ ms) zero l = refl
one_or (m ∷ ms) (suc i) l = one_or ms i (omega arith)

past_one : (ms : List ℕ) (i : ℕ) → length ms ≤ i → get_or ms i 1 ≡ 1
past_one [] i l = refl
past_one (m ∷ ms) zero l = absurd (omega arith)
past_one (m ∷ ms) (suc i) l = past_one ms i (omega arith)

-- the machine that the first one names is machine 0
pub least_found : (ms : List ℕ) → get_or ms 0 0 < length ms → get_or ms (get_or ms 0 0) 0 ≡ 0 → IsLeastOf ms (get_or ms 0 0 + 1)
least_found ms l e n zero back order falls =
    let some : 1 ≤ get_or ms (get_or ms 0 0) 1 = subst (λ (u : List ℕ). 1 ≤ get_or u (get_or ms 0 0) 1) (sym order) (falls_some 1 n back (get_or ms 0 0) falls (omega arith)) in
    let one = one_or ms (get_or ms 0 0) l in
    absurd (omega (arith, some, one, e))
least_found ms l e n (suc y) back order falls =
    let first : get_or ms 0 0 ≡ y = ap (λ (u : List ℕ). get_or u 0 0) order in
    omega (arith, first)

-- it is not
pub least_missing : (ms : List ℕ) → (get_or ms 0 0 < length ms → get_or ms (get_or ms 0 0) 0 ≡ 0 → ⊥) → IsLeastOf ms 0
least_missing ms none n zero back order falls = refl
least_missing ms none n (suc y) back order falls =
    let first : get_or ms 0 0 ≡ y = ap (λ (u : List ℕ). get_or u 0 0) order in
    let there : get_or ms y 1 ≡ 0 = ap (λ (u : List ℕ). get_or u y 1) order ∙ zero_at y back in
    let size = ap (λ (u : List ℕ). length u) order in
    let both = length-append (down_from (suc y)) back in
    let down = down_length (suc y) in
    let l : y < length ms = omega (arith, size, both, down) in
    let l' : get_or ms 0 0 < length ms = omega (arith, l, first) in
    let is : get_or ms (get_or ms 0 0) 0 ≡ 0 = ap (λ (i : ℕ). get_or ms i 0) first ∙ (sym (one_or ms y l) ∙ there) in
    absurd (none l' is)

-- the members of a block

pub named_at : (h : List Event) (i : ℕ) (d : Event) → i < length h → get_or (machines_of h) i 0 ≡ machine_of (get_or h i d).op
named_at [] i d l = absurd (omega arith)
named_at (e ∷ h) zero d l = refl
named_at (e ∷ h) (suc i) d l = named_at h i d (omega arith)

pub named_length : (h : List Event) → length (machines_of h) ≡ length h
named_length [] = refl
named_length (e ∷ h) = ap suc (named_length h)

left_here : (h : List Event) (place : ℕ) → place < length h → length (machines_of (drop (place + 1) h)) ≡ length h - 1 - place
left_here h place l =
    let a = named_length (drop (place + 1) h) in
    let b = length-drop (place + 1) h in
    omega (arith, a, b)

module _ (seat order place : ℕ) (h : List Event) (d : Event) (within : place < length h) where
  pub member_on : AreMembers seat order (machines_of (drop place h)) (drop place h) →
      ((get_or h place d).seat ≡ seat) × ((get_or h place d).op ≡ Member (machine_of (get_or h place d).op) order (length h - 1 - place))
      × AreMembers seat order (machines_of (drop (place + 1) h)) (drop (place + 1) h)
  member_on a =
      let b : AreMembers seat order (machines_of (get_or h place d ∷ drop (place + 1) h)) (get_or h place d ∷ drop (place + 1) h) =
      subst (λ (u : List Event). AreMembers seat order (machines_of u) u) (drop_more h place d within) a in
      (b.0, b.1 ∙ ap (λ (x : ℕ). let o : Op = Member (machine_of (get_or h place d).op) order x in o) (left_here h place within), b.2)

  pub member_from_here : (get_or h place d).seat ≡ seat → (get_or h place d).op ≡ Member (machine_of (get_or h place d).op) order (length h - 1 - place) →
      AreMembers seat order (machines_of (drop (place + 1) h)) (drop (place + 1) h) → AreMembers seat order (machines_of (drop place h)) (drop place h)
  member_from_here s o a =
      let call : (get_or h place d).op ≡ Member (machine_of (get_or h place d).op) order (length (machines_of (drop (place + 1) h))) =
      o ∙ ap (λ (x : ℕ). let o : Op = Member (machine_of (get_or h place d).op) order x in o) (sym (left_here h place within)) in
      let b : AreMembers seat order (machines_of (get_or h place d ∷ drop (place + 1) h)) (get_or h place d ∷ drop (place + 1) h) = (s, call, a) in
      subst (λ (u : List Event). AreMembers seat order (machines_of u) u) (sym (drop_more h place d within)) b

pub members_end : (seat order place : ℕ) (h : List Event) → length h ≤ place → AreMembers seat order (machines_of (drop place h)) (drop place h)
members_end seat order zero [] l = refl
members_end seat order (suc place) [] l = refl
members_end seat order zero (e ∷ h) l = absurd (omega arith)
members_end seat order (suc place) (e ∷ h) l = members_end seat order place h (omega arith)

members_named : (seat order : ℕ) (ms : List ℕ) (es : List Event) → AreMembers seat order ms es → ms ≡ machines_of es
members_named seat order [] es a = ap (λ (u : List Event). machines_of u) (sym a)
members_named seat order (m ∷ ms) [] a = absurd a
members_named seat order (m ∷ ms) (e ∷ es) a =
    ap (λ (o : Op). machine_of o ∷ ms) (sym a.1) ∙ ap (λ (u : List ℕ). machine_of e.op ∷ u) (members_named seat order ms es a.2)

-- the first piece of a whole history

-- the block that a history begins with
pub record BeginsWith (n seat order left : ℕ) (h : List Event) : Type 0 where
  pub block : IsBlockOf n seat order (machines_of (take (left + 1) h)) (take (left + 1) h)
  pub long : left + 1 ≤ length h
  pub rest : IsWhole n (drop (left + 1) h)

abbrev order_of : Op → ℕ
order_of (Pass machine order) = order
order_of (Member machine order left) = order
order_of (Corrupt machine value) = 0

module _ (n machine order left : ℕ) (e : Event) (es : List Event) (call : e.op ≡ Member machine order left) where
  begins_block : (seat o : ℕ) (ms : List ℕ) (p rest : List Event) → IsBlockOf n seat o ms p → IsWhole n rest → p ++ rest ≡ e ∷ es → BeginsWith n e.seat order left (e ∷ es)
  begins_block seat o [] p rest b w q = absurd (let some = b.in_order.some in omega (arith, some))
  begins_block seat o (m ∷ ms) [] rest b w q = absurd b.members
  begins_block seat o (m ∷ ms) (d ∷ p) rest b w q =
      let first : d ≡ e = ap (λ (h : List Event). get_or h 0 e) q in
      let seats : seat ≡ e.seat = sym b.members.0 ∙ ap (λ (x : Event). x.seat) first in
      let ops : Member m o (length ms) ≡ Member machine order left = sym b.members.1 ∙ (ap (λ (x : Event). x.op) first ∙ call) in
      let orders : o ≡ order = ap order_of ops in
      let lefts : length ms ≡ left = ap left_of ops in
      let size : length (d ∷ p) ≡ length (m ∷ ms) = members_length seat o (m ∷ ms) (d ∷ p) b.members in
      let whole_length : length (d ∷ p) + 0 ≡ left + 1 = omega arith in
      let all = ap (λ (h : List Event). length h) q in
      let both = length-append (d ∷ p) rest in
      let front : d ∷ p ≡ take (left + 1) (e ∷ es) =
      sym (take_all (length (d ∷ p)) (d ∷ p) (omega arith)) ∙ (sym (take-append-le (length (d ∷ p)) (d ∷ p) rest (omega arith))
      ∙ (ap (λ (h : List Event). take (length (d ∷ p)) h) q ∙ ap (λ (i : ℕ). take i (e ∷ es)) (let x : length (d ∷ p) ≡ left + 1 = omega arith in x))) in
      let behind : rest ≡ drop (left + 1) (e ∷ es) =
      sym (drop-append-add (d ∷ p) rest 0) ∙ (ap (λ (h : List Event). drop (length (d ∷ p) + 0) h) q ∙ ap (λ (i : ℕ). drop i (e ∷ es)) whole_length) in
      let here : IsBlockOf n e.seat order (m ∷ ms) (d ∷ p) = subst (λ (x : ℕ). IsBlockOf n x order (m ∷ ms) (d ∷ p)) seats (subst (λ (x : ℕ). IsBlockOf n seat x (m ∷ ms) (d ∷ p)) orders b) in
      let named : IsBlockOf n e.seat order (machines_of (d ∷ p)) (d ∷ p) = subst (λ (u : List ℕ). IsBlockOf n e.seat order u (d ∷ p)) (members_named e.seat order (m ∷ ms) (d ∷ p) here.members) here in
      record {
        block = subst (λ (h : List Event). IsBlockOf n e.seat order (machines_of h) h) front named;
        long = omega (arith, all, both, size, lefts);
        rest = subst (λ (h : List Event). IsWhole n h) behind w;
      }

  begins_pieces : (ps : List (List Event)) → ArePieces n ps → joined ps ≡ e ∷ es → BeginsWith n e.seat order left (e ∷ es)
  begins_pieces [] are q = absurd (let l = ap (λ (h : List Event). length h) q in omega (arith, l))
  begins_pieces (p ∷ ps) (inl x, more) q =
      let first : x.0 ≡ e = ap (λ (h : List Event). get_or h 0 e) (sym (ap (λ (h : List Event). h ++ joined ps) x.1) ∙ q) in
      absurd (subst (λ (o : Op). IsAlone o) (ap (λ (y : Event). y.op) first ∙ call) x.2)
  begins_pieces (p ∷ ps) (inr b, more) q = begins_block b.seat b.order b.machines p (joined ps) b.is (record { pieces = ps; are = more; all = refl }) q

-- a whole history that begins with a member begins with its block
pub begins_with : (n machine order left : ℕ) (h : List Event) (d : Event) → 1 ≤ length h → (get_or h 0 d).op ≡ Member machine order left → IsWhole n h →
    BeginsWith n (get_or h 0 d).seat order left h
begins_with n machine order left [] d some call w = absurd (omega arith)
begins_with n machine order left (e ∷ es) d some call w = begins_pieces n machine order left e es call w.pieces w.are w.all

pub block_first : (n machine order left : ℕ) (h : List Event) (d : Event) → 1 ≤ length h → (get_or h 0 d).op ≡ Member machine order left → left + 1 ≤ length h →
    IsBlockOf n (get_or h 0 d).seat order (machines_of (take (left + 1) h)) (take (left + 1) h) → IsFirstPiece n h (left + 1)
block_first n machine order left h d some call long block = record {
  some = omega arith;
  within = long;
  whole = (
    λ w. (begins_with n machine order left h d some call w).rest,
    λ w. subst (λ (u : List Event). IsWhole n u) (take-append-drop (left + 1) h)
        (whole_before n (take (left + 1) h) (drop (left + 1) h) (inr (record { seat = (get_or h 0 d).seat; order = order; machines = machines_of (take (left + 1) h); is = block })) w),
  );
}

pub alone_first : (n : ℕ) (h : List Event) (d : Event) → 1 ≤ length h → IsAlone (get_or h 0 d).op → IsFirstPiece n h 1
alone_first n [] d some alone = absurd (omega arith)
alone_first n (e ∷ es) d some alone = record {
  some = omega arith;
  within = some;
  whole = (
    λ w. ((whole_places n (e ∷ es) 1 w some).0 (alone_none e.op alone)).1,
    λ w. whole_before n (e ∷ []) es (inl (e, refl, alone)) w,
  );
}
