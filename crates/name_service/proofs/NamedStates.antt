-- The lines of a state, one ring more.
use Rattle.std.proofs.Common.{◌≡◌, ℕ, zero, suc, ◌+◌, ◌-◌, ◌^◌, ◌<◌, ◌≤◌, List, [], ◌∷◌, ◌++◌, length, drop, Option, None, Some, slice_get, refl, sym, ap, ◌∙◌, arith}
use Rattle.std.proofs.lemmas.List.{append-nil, length-map}
use Rattle.std.specs.Prelude.{option_map}
use Rattle.line_service.specs.Answering.{joined_lines}
use Rattle.held_locks.specs.declared.answers.Holder.{Holder}
use Rattle.held_locks.specs.Queues.{Lock}
use Rattle.held_locks.specs.Kept.{LockView, lock_of, locks_of}
use Rattle.lock_names.specs.Names.{Bound, token_in, told_holder}
use Rattle.lock_names.specs.Promises.{IsRightName}
use Rattle.lock_names.specs.Kept.{NamedView, waiting, IsKeptNamed}
use Rattle.lock_names.proofs.Found.{there_is}
use Rattle.lock_names.proofs.Asking.{view_lock}
use Rattle.lock_journal.specs.State.{hold_lines, wait_lines}
use Rattle.lock_journal.proofs.StateLines.{drop_there}
use Rattle.name_service.specs.State.{hold_of_ring, waits_of_ring, name_holds, name_waits}

-- ---- places

pub many_names : (v : NamedView) → IsKeptNamed v → length v.names ≡ length v.locks
many_names v k = k.named.many ∙ length-map v.locks lock_of

-- the ring at a place has a name or none
pub name_there : (v : NamedView) → IsKeptNamed v → (i : ℕ) → i < length v.locks → (o : Option Bound) × (slice_get v.names i ≡ Some o)
name_there v k i l =
    let many = many_names v k in
    there_is v.names i (omega (arith, many, l))

-- ---- tokens

few_of : (fixed top i : ℕ) (l : Lock) (b : Bound) (h : Holder) → IsRightName fixed top i l (Some b) → l.holder ≡ Some h → token_in b h.token ≤ top
few_of fixed top i l b h r e =
    let held = r.0.held h e in
    let most : b.floor + (l.ring.grants - b.before) ≤ top = r.0.token in
    let above : b.before < h.token = held.0 in
    let below : h.token ≤ l.ring.grants = held.1 in
    let goal : b.floor + (h.token - b.before) ≤ top = omega (arith, most, above, below) in
    goal

-- the name's token of each hold has 64 bits
pub few_told : (v : NamedView) → IsKeptNamed v → (i : ℕ) (b : Bound) (l : LockView) (h : Holder) → slice_get v.names i ≡ Some (Some b) → slice_get v.locks i ≡ Some l → l.holder ≡ Some h → token_in b h.token < 2 ^ 64
few_told v k i b l h named at held =
    let right = k.named.each i (lock_of l) (Some b) (view_lock v.locks i l at) named in
    let most : b.floor + (h.token - b.before) ≤ v.top = few_of v.fixed v.top i (lock_of l) b h right held in
    let few : v.top + waiting (locks_of v.locks) < 2 ^ 64 = k.tokens in
    let goal : b.floor + (h.token - b.before) < 2 ^ 64 = omega (arith, most, few) in
    goal

-- ---- lines

pub holds_there : (os : List (Option Bound)) (vs : List LockView) (i : ℕ) (o : Option Bound) (v : LockView) → slice_get os i ≡ Some o → slice_get vs i ≡ Some v → name_holds (drop i os) (drop i vs) ≡ hold_of_ring o v ++ name_holds (drop (i + 1) os) (drop (i + 1) vs)
holds_there os vs i o v p q =
    ap (λ (xs : List (Option Bound)). name_holds xs (drop i vs)) (drop_there os i o p)
    ∙ ap (λ (ys : List LockView). name_holds (o ∷ drop (i + 1) os) ys) (drop_there vs i v q)

pub waits_there : (os : List (Option Bound)) (vs : List LockView) (i : ℕ) (o : Option Bound) (v : LockView) → slice_get os i ≡ Some o → slice_get vs i ≡ Some v → name_waits (drop i os) (drop i vs) ≡ waits_of_ring o v ++ name_waits (drop (i + 1) os) (drop (i + 1) vs)
waits_there os vs i o v p q =
    ap (λ (xs : List (Option Bound)). name_waits xs (drop i vs)) (drop_there os i o p)
    ∙ ap (λ (ys : List LockView). name_waits (o ∷ drop (i + 1) os) ys) (drop_there vs i v q)

drop_past : (vs : List LockView) (n : ℕ) → length vs ≤ n → drop n vs ≡ []
drop_past [] zero l = refl
drop_past [] (suc n) l = refl
drop_past (v ∷ vs) zero l = absurd (omega (arith, l))
drop_past (v ∷ vs) (suc n) l = drop_past vs n (omega (arith, l))

no_holds : (os : List (Option Bound)) → name_holds os [] ≡ []
no_holds [] = refl
no_holds (o ∷ os) = refl

no_waits : (os : List (Option Bound)) → name_waits os [] ≡ []
no_waits [] = refl
no_waits (o ∷ os) = refl

-- past the last ring there are none
pub holds_past : (os : List (Option Bound)) (vs : List LockView) (n : ℕ) → length vs ≤ n → name_holds (drop n os) (drop n vs) ≡ []
holds_past os vs n l = ap (λ (ys : List LockView). name_holds (drop n os) ys) (drop_past vs n l) ∙ no_holds (drop n os)

pub waits_past : (os : List (Option Bound)) (vs : List LockView) (n : ℕ) → length vs ≤ n → name_waits (drop n os) (drop n vs) ≡ []
waits_past os vs n l = ap (λ (ys : List LockView). name_waits (drop n os) ys) (drop_past vs n l) ∙ no_waits (drop n os)

-- all lines are added
pub lines_done : (text goal : List ℕ) (rest : List (List ℕ)) → rest ≡ [] → text ++ joined_lines rest ≡ goal → text ≡ goal
lines_done text goal rest none inv = sym (append-nil text) ∙ (ap (λ (xs : List (List ℕ)). text ++ joined_lines xs) (sym none) ∙ inv)

pub count_done : (count goal : ℕ) (rest : List (List ℕ)) → rest ≡ [] → count + length rest ≡ goal → count ≡ goal
count_done count goal rest none inv =
    let zero : length rest ≡ 0 = ap (λ (xs : List (List ℕ)). length xs) none in
    omega (arith, zero, inv)

-- the lines of one ring, by what is read of it
pub hold_is : (o : Option Bound) (v : LockView) (b : Bound) (name : List ℕ) (told held : Option Holder) → ◌≡◌ {A = Option Bound} (Some b) o → name ≡ b.name → told ≡ option_map (told_holder b) held → held ≡ v.holder → hold_lines name told ≡ hold_of_ring o v
hold_is o v b name told held at named is has =
    ap (λ (x : List ℕ). hold_lines x told) named
    ∙ (ap (λ (t : Option Holder). hold_lines b.name t) (is ∙ ap (λ (h : Option Holder). option_map (told_holder b) h) has) ∙ ap (λ (x : Option Bound). hold_of_ring x v) at)

pub waits_are : (o : Option Bound) (v : LockView) (b : Bound) (name : List ℕ) → ◌≡◌ {A = Option Bound} (Some b) o → name ≡ b.name → wait_lines name v.queue ≡ waits_of_ring o v
waits_are o v b name at named = ap (λ (x : List ℕ). wait_lines x v.queue) named ∙ ap (λ (x : Option Bound). waits_of_ring x v) at

pub no_hold : (o : Option Bound) (v : LockView) → ◌≡◌ {A = Option Bound} None o → hold_of_ring o v ≡ []
no_hold o v e = ap (λ (x : Option Bound). hold_of_ring x v) (sym e)

pub no_wait : (o : Option Bound) (v : LockView) → ◌≡◌ {A = Option Bound} None o → waits_of_ring o v ≡ []
no_wait o v e = ap (λ (x : Option Bound). waits_of_ring x v) (sym e)

-- nothing is added where there is no line
pub text_same : (text : List ℕ) (lines : List (List ℕ)) → lines ≡ [] → text ≡ text ++ joined_lines lines
text_same text lines e = sym (append-nil text) ∙ ap (λ (xs : List (List ℕ)). text ++ joined_lines xs) (sym e)

pub count_same : (count : ℕ) (lines : List (List ℕ)) → lines ≡ [] → count ≡ count + length lines
count_same count lines e = let none : length lines ≡ 0 = ap (λ (xs : List (List ℕ)). length xs) e in omega (arith, none)
