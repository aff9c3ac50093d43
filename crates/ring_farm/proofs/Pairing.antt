use Rattle.std.proofs.lemmas.List.{map-append, length-map}
use Rattle.std.proofs.Common.{map, ◌≡◌, ◌⊎◌, inl, inr, ⊎_elim, ℕ, zero, suc, ◌+◌, List, [], ◌∷◌, ◌++◌, length, Some, None, slice_get, ap, sym, ◌∙◌, refl, subst, arith, ◌<◌, All, get_or, ◌≤◌, eqb, false}
use Rattle.std.proofs.lemmas.Option.{slice_get_within, slice_get_cases}
use Rattle.std.specs.Prelude.{Result, Ok, Err, IfOk}
use Rattle.std.specs.List.{IsDistinct, AllByRecursion}
use Rattle.std.proofs.lemmas.Bool.{ne_eqb}
use Rattle.ring_shared.specs.Client.{Client, IsFreshClient, IsUnchanged}
use Rattle.ring_logs.specs.declared.logs.Log.{Log}
use Rattle.ring_shared.specs.Closing.{HasLog}
use Rattle.ring_shared.specs.Opening.{AreFresh}
use Rattle.ring_model.specs.declared.events.Entry.{Entry}
use Rattle.ring_model.specs.declared.events.Event.{Event}
use Rattle.ring_settings.specs.declared.actions.Plan.{Plan}
use Rattle.ring_farm.specs.declared.threads.Does.{Does}
use Rattle.ring_farm.specs.Plans.{actions_of, planned, action_of, Pairs}
use Rattle.ring_farm.specs.Promises.{IsPromised, DidAsPromised, IsDone, AreUnchanged}
use Rattle.ring_farm.specs.Runs.{IsLogged}

-- the entry at a place of a list with one more
at_snoc : {A : Type 0} (xs : List A) (y x : A) (i : ℕ) → slice_get (xs ++ y ∷ []) i ≡ Some x → (slice_get xs i ≡ Some x) ⊎ ((i ≡ length xs) × (y ≡ x))
at_snoc [] y x zero e = inr (refl, cc)
at_snoc [] y x (suc i) e = cc
at_snoc (z ∷ xs) y x zero e = inl e
at_snoc (z ∷ xs) y x (suc i) e = ⊎_elim (λ (h : slice_get xs i ≡ Some x). inl h) (λ (h : (i ≡ length xs) × (y ≡ x)). inr (ap suc h.0, h.1)) (at_snoc xs y x i e)

-- the second list gains what is related to the first's next
pub Pairs-next : {A B : Type 0} (rel : ℕ → A → B → Type 0) (xs : List A) (ys : List B) (x : A) (y : B) → slice_get xs (length ys) ≡ Some x → Pairs rel xs ys → rel (length ys) x y → Pairs rel xs (ys ++ y ∷ [])
Pairs-next {A = A} {B = B} rel xs ys x y at h r i a b p q = ⊎_elim (λ (t : slice_get ys i ≡ Some b). h i a b p t)
    (λ (t : (i ≡ length ys) × (y ≡ b)).
    let p' : slice_get xs (length ys) ≡ Some a = ap (slice_get xs) (sym t.0) ∙ p in
    let same : x ≡ a = cc in
    subst (λ (v : B). rel i a v) t.1 (subst (λ (u : A). rel i u y) same (subst (λ (k : ℕ). rel k x y) (sym t.0) r)))
    (at_snoc ys y b i q)

-- both gain
pub Pairs-push : {A B : Type 0} (rel : ℕ → A → B → Type 0) (xs : List A) (ys : List B) (x : A) (y : B) → length xs ≡ length ys → Pairs rel xs ys → rel (length ys) x y → Pairs rel (xs ++ x ∷ []) (ys ++ y ∷ [])
Pairs-push {A = A} {B = B} rel xs ys x y same h r i a b p q = ⊎_elim
    (λ (t : slice_get ys i ≡ Some b).
    ⊎_elim (λ (u : slice_get xs i ≡ Some a). h i a b u t)
    (λ (u : (i ≡ length xs) × (x ≡ a)). let w : i < length ys = slice_get_within ys i b t in absurd (omega arith))
    (at_snoc xs x a i p))
    (λ (t : (i ≡ length ys) × (y ≡ b)).
    ⊎_elim (λ (u : slice_get xs i ≡ Some a). let w : i < length xs = slice_get_within xs i a u in absurd (omega arith))
    (λ (u : (i ≡ length xs) × (x ≡ a)). subst (λ (v : B). rel i a v) t.1 (subst (λ (v : A). rel i v y) u.1 (subst (λ (k : ℕ). rel k x y) (sym t.0) r)))
    (at_snoc xs x a i p))
    (at_snoc ys y b i q)

pub Pairs-map-push : {H A B : Type 0} (f : H → A) (rel : ℕ → A → B → Type 0) (hs : List H) (ys : List B) (h : H) (y : B) → length hs ≡ length ys → Pairs rel (map f hs) ys → rel (length ys) (f h) y → Pairs rel (map f (hs ++ h ∷ [])) (ys ++ y ∷ [])
Pairs-map-push f rel hs ys h y same p r = rw map-append (Pairs-push rel (map f hs) ys (f h) y (length-map hs f ∙ same) p r)

pub Pairs-map-next : {H A B : Type 0} (f : H → B) (rel : ℕ → A → B → Type 0) (xs : List A) (hs : List H) (x : A) (h : H) → slice_get xs (length hs) ≡ Some x → Pairs rel xs (map f hs) → rel (length hs) x (f h) → Pairs rel xs (map f (hs ++ h ∷ []))
Pairs-map-next f rel xs hs x h at p r =
    let n = length-map hs f in
    rw map-append (Pairs-next rel xs (map f hs) x (f h) (ap (slice_get xs) n ∙ at) p (subst (λ (k : ℕ). rel k x (f h)) (sym n) r))

pub map_same : {A : Type 0} (xs : List A) → xs ≡ map (λ y. y) xs
map_same [] = refl
map_same (x ∷ xs) = ap (λ ys. x ∷ ys) (map_same xs)

pub done_of : (ring : ℕ) (ps : List Plan) (ds : List Does) (ss : List Client) → length ds ≡ length ps → Pairs (IsPromised ring) ps ds → Pairs DidAsPromised ds ss → Pairs (IsDone ring) ps ss
done_of ring ps ds ss n promised kept i p s at_p at_s =
    let w : i < length ps = slice_get_within ps i p at_p in
    ⊎_elim
    (λ (t : (d : Does) × (i < length ds) × (slice_get ds i ≡ Some d) × (get_or ds i d ≡ d)).
    let a = promised i p t.0 at_p t.2 in
    let k = kept i t.0 s t.2 at_s in
    (k.0 ∙ a.1, subst (λ (r : ℕ). actions_of r s.log ≡ planned r p.actions.items) a.0 (subst (λ (q : Plan). actions_of t.0.ring s.log ≡ planned t.0.ring q.actions.items) a.2 k.1)))
    (λ (t : (length ds ≤ i) × (slice_get ds i ≡ None)). let u = t.0 in absurd (omega arith))
    (slice_get_cases ds i).1

pub logged_of : (ring : ℕ) (ps : List Plan) (ss : List Client) (ls : List Log) → length ss ≡ length ps → Pairs (IsDone ring) ps ss → All (HasLog ls) ss → Pairs (IsLogged ring) ps ls
logged_of ring ps ss ls n done has i p l at_p at_l =
    let w : i < length ps = slice_get_within ps i p at_p in
    ⊎_elim
    (λ (t : (s : Client) × (i < length ss) × (slice_get ss i ≡ Some s) × (get_or ss i s ≡ s)).
    let d = done i p t.0 at_p t.2 in
    let h : HasLog ls t.0 = subst (λ (s : Client). HasLog ls s) t.3 (has i t.0 t.1) in
    let here = ap (slice_get ls) (sym d.0) ∙ h.1 in
    let e = sym here ∙ at_l in
    let same : h.0 ≡ l = cc in
    subst (λ (k : Log). IsLogged ring i p k) same (h.2.0 ∙ d.0, ap (λ es. map (action_of ring) es) h.2.1 ∙ d.1))
    (λ (t : (length ss ≤ i) × (slice_get ss i ≡ None)). let u = t.0 in absurd (omega arith))
    (slice_get_cases ss i).1

pub ok_both : {A E : Type 0} (P Q S : A → Type 0) (r : Result A E) → ((v : A) → P v → Q v → S v) → IfOk r P → IfOk r Q → IfOk r S
ok_both P Q S (Ok v) f p q = f v p q
ok_both P Q S (Err e) f p q = tt

-- numbers that are their places, from k on
counted_tail : (k : ℕ) (s : Client) (ss : List Client) → ((i : ℕ) (t : Client) → slice_get (s ∷ ss) i ≡ Some t → t.number ≡ k + i) → (i : ℕ) (t : Client) → slice_get ss i ≡ Some t → t.number ≡ k + 1 + i
counted_tail k s ss h i t at = let e = h (suc i) t at in omega arith

apart : (x k : ℕ) (ss : List Client) → x < k → ((i : ℕ) (t : Client) → slice_get ss i ≡ Some t → t.number ≡ k + i) → AllByRecursion (λ y. eqb x y ≡ false) (map (λ (s : Client). s.number) ss)
apart x k [] lt h = tt
apart x k (s ∷ ss) lt h = (ne_eqb x s.number (λ e. let n = h 0 s refl in absurd (omega arith)), apart x (k + 1) ss (omega arith) (counted_tail k s ss h))

distinct : (k : ℕ) (ss : List Client) → ((i : ℕ) (t : Client) → slice_get ss i ≡ Some t → t.number ≡ k + i) → IsDistinct eqb (map (λ (s : Client). s.number) ss)
unfolding IsDistinct
distinct k [] h = tt
distinct k (s ∷ ss) h = let n = h 0 s refl in (apart s.number (k + 1) ss (omega arith) (counted_tail k s ss h), distinct (k + 1) ss (counted_tail k s ss h))

pub distinct_of : (ring : ℕ) (ps : List Plan) (ss : List Client) → length ss ≡ length ps → Pairs (IsDone ring) ps ss → IsDistinct eqb (map (λ (s : Client). s.number) ss)
distinct_of ring ps ss n done = distinct 0 ss (λ i s at.
    let w : i < length ss = slice_get_within ss i s at in
    ⊎_elim
    (λ (t : (p : Plan) × (i < length ps) × (slice_get ps i ≡ Some p) × (get_or ps i p ≡ p)). let e = (done i t.0 s t.2 at).0 in omega arith)
    (λ (t : (length ps ≤ i) × (slice_get ps i ≡ None)). let u = t.0 in absurd (omega arith))
    (slice_get_cases ps i).1)

abbrev client_with : ℕ → List Entry → List Event → ℕ → Client
client_with i log seen room = record { number = i; log = log; seen = seen; room = room }

-- a fresh client that is unchanged is one still
still_fresh : (i : ℕ) (s t : Client) → IsFreshClient i s → IsUnchanged s t → IsFreshClient i t
still_fresh i s t is k =
    ap (λ (x : ℕ). client_with x t.log t.seen t.room) (k.number ∙ ap (λ (c : Client). c.number) is)
    ∙ (ap (λ (x : List Entry). client_with i x t.seen t.room) (k.log ∙ ap (λ (c : Client). c.log) is)
    ∙ ap (λ (x : List Event). client_with i [] x t.room) (k.seen ∙ ap (λ (c : Client). c.seen) is))

pub still_all_fresh : (n : ℕ) (ss ts : List Client) → AreFresh n ss → AreUnchanged ss ts → AreFresh n ts
still_all_fresh n ss ts f u = record {
  count = u.0 ∙ f.count;
  each = λ i within.
      let h = f.each i within in
      let count = f.count in
      let same = u.0 in
      ⊎_elim
      (λ (t : (t : Client) × (i < length ts) × (slice_get ts i ≡ Some t) × (get_or ts i t ≡ t)). (t.0, t.2, still_fresh i h.0 t.0 h.2 (u.1 i h.0 t.0 h.1 t.2)))
      (λ (t : (length ts ≤ i) × (slice_get ts i ≡ None)). let past = t.0 in absurd (omega arith))
      (slice_get_cases ts i).1;
}
