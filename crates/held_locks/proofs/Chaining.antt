-- The chains of locks, when a lock is put into one or taken out of one.
use Rattle.std.proofs.Common.{◌≡◌, ◌≢◌, ℕ, ◌+◌, ◌<◌, ◌≤◌, List, [], ◌∷◌, ◌++◌, length, length-append, refl, sym, ◌∙◌, ap, subst, inl, inr, arith, Option, Some, None}
use Rattle.std.specs.Prelude.{slice_get, slice_set, ◌⊎◌, ◌%◌}
use Rattle.std.proofs.lemmas.Bool.{cases_eq}
use Rattle.std.proofs.lemmas.List.{length-set}
use Rattle.std.proofs.lemmas.Option.{slice_get_within}
use Rattle.held_locks.specs.Holding.{Has, Differ, IsLinked, IsSpliced, IsChain, IsChainOf, IsHeldIn, AreChained}
use Rattle.held_locks.proofs.Standing.{get_set}
use Rattle.held_locks.proofs.Adding.{get_front, get_push}
use Rattle.held_locks.proofs.Linking.{same_nat, there_is, one_longer, one_before, get_more, link_linked}

-- ---- a lock goes out of the chain in which it is, if it is in one

module _ (ends : ℕ) (N P M : List ℕ) (i p z : ℕ) (k : IsLinked N P) (before : slice_get N p ≡ Some (ends + i)) (after : slice_get N (ends + i) ≡ Some z) (s : IsSpliced N M p (ends + i)) where
  pub record Out (at : ℕ) (is : List ℕ) : Type 0 where
    pub locks : List ℕ
    pub chain : IsChain ends M at locks
    pub only : (j : ℕ) → Has j locks → Has j is
    pub kept : (j : ℕ) → Has j is → j ≢ i → Has j locks
    pub differ : Differ is → Differ locks

  skipped : slice_get M p ≡ Some z
  skipped = s.first ∙ after

  -- the lock comes after itself, and so is in no chain
  pub alone : slice_get M (ends + i) ≡ Some (ends + i)
  alone = s.second ∙ before

  -- the chain continues from this link, which is another lock's, without the lock
  out_cons : (at j y : ℕ) (is js : List ℕ) → at ≡ ends + j → slice_get M (ends + j) ≡ Some y → ((m : ℕ) → Has m js → Has m is) → ((m : ℕ) → Has m is → m ≢ i → Has m js) → (Differ is → Differ js) → Out y js → Out at (j ∷ is)
  out_cons at j y is js e g back on apart o = record {
    locks = j ∷ o.locks;
    chain = (e, (y, g, o.chain));
    only = λ m h. elim h [
      | inl q ↦ inl q
      | inr r ↦ inr (back m (o.only m r))
    ];
    kept = λ m h n. elim h [
      | inl q ↦ inl q
      | inr r ↦ inr (o.kept m (on m r n) n)
    ];
    differ = λ d. (λ h. d.0 (back j (o.only j h)), o.differ (apart d.1));
  }

  -- and where the lock is the next of the chain, the chain continues after it
  without_first : (y j : ℕ) (is : List ℕ) → y ≡ ends + i → IsChain ends N y (j ∷ is) → (j ≡ i) × IsChain ends N z is
  without_first y j is e c =
      let a : y ≡ ends + j = c.0 in
      let same : j ≡ i = omega (arith, a, e) in
      let there : slice_get N (ends + i) ≡ Some c.1.0 = ap (λ (n : ℕ). slice_get N (ends + n)) (sym same) ∙ c.1.1 in
      (same, subst (λ (n : ℕ). IsChain ends N n is) (same_nat c.1.0 z (sym there ∙ after)) c.1.2)

  out : (at : ℕ) (is : List ℕ) → IsChain ends N at is → at ≢ ends + i → Out at is
  out at [] c n = record { locks = []; chain = c; only = λ j h. h; kept = λ j h m. h; differ = λ d. d }
  out at (j ∷ []) c n = elim (cases_eq (ends + j) p) [
    | inl q ↦
        let y : c.1.0 ≡ ends + i = same_nat c.1.0 (ends + i) (sym c.1.1 ∙ ap (λ (m : ℕ). slice_get N m) q ∙ before) in
        let l : c.1.0 < ends = c.1.2 in
        absurd (omega (arith, y, l))
    | inr q ↦
        let m : ends + j ≢ ends + i = λ r. n (c.0 ∙ r) in
        out_cons at j c.1.0 [] [] c.0 (s.others (ends + j) q m ∙ c.1.1) (λ m h. h) (λ m h _. h) (λ d. d) (record { locks = []; chain = c.1.2; only = λ j h. h; kept = λ j h m. h; differ = λ d. d })
  ]
  out at (j ∷ l ∷ is) c n = elim (cases_eq (ends + j) p) [
    | inl q ↦
        let y : c.1.0 ≡ ends + i = same_nat c.1.0 (ends + i) (sym c.1.1 ∙ ap (λ (m : ℕ). slice_get N m) q ∙ before) in
        let w = without_first c.1.0 l is y c.1.2 in
        let past : z ≢ ends + i = λ r. n (c.0 ∙ q ∙ one_before N P p (ends + i) (ends + i) k before (after ∙ ap (λ (m : ℕ). Some m) r)) in
        out_cons at j z (l ∷ is) is c.0 (ap (λ (m : ℕ). slice_get M m) q ∙ skipped) (λ m h. inr h)
        (λ m h d. elim h [
          | inl r ↦ absurd (d (r ∙ w.0))
          | inr r ↦ r
        ])
        (λ d. d.1) (out z is w.1 past)
    | inr q ↦
        let m : ends + j ≢ ends + i = λ r. n (c.0 ∙ r) in
        let past : c.1.0 ≢ ends + i = λ r. q (one_before N P (ends + j) p (ends + i) k (c.1.1 ∙ ap (λ (m : ℕ). Some m) r) before) in
        out_cons at j c.1.0 (l ∷ is) (l ∷ is) c.0 (s.others (ends + j) q m ∙ c.1.1) (λ m h. h) (λ m h _. h) (λ d. d) (out c.1.0 (l ∷ is) c.1.2 past)
  ]

  -- from an end on
  pub out_from : (t at to : ℕ) (is : List ℕ) → t < ends → slice_get N t ≡ Some at → slice_get M t ≡ Some to → IsChain ends N at is → Out to is
  out_from t at to [] l e f c = elim (cases_eq t p) [
    | inl q ↦
        let y : at ≡ ends + i = same_nat at (ends + i) (sym e ∙ ap (λ (m : ℕ). slice_get N m) q ∙ before) in
        let b : at < ends = c in
        absurd (omega (arith, y, b))
    | inr q ↦
        let same : to ≡ at = same_nat to at (sym f ∙ s.others t q (λ r. omega (arith, l, r)) ∙ e) in
        let b : at < ends = c in
        subst (λ (m : ℕ). Out m []) (sym same) (out at [] c (λ r. omega (arith, r, b)))
  ]
  out_from t at to (j ∷ is) l e f c = elim (cases_eq t p) [
    | inl q ↦
        let y : at ≡ ends + i = same_nat at (ends + i) (sym e ∙ ap (λ (m : ℕ). slice_get N m) q ∙ before) in
        let w = without_first at j is y c in
        let past : z ≢ ends + i = λ r. let u : p ≡ ends + i = one_before N P p (ends + i) (ends + i) k before (after ∙ ap (λ (m : ℕ). Some m) r) in omega (arith, l, q, u) in
        let to_z : to ≡ z = same_nat to z (sym f ∙ ap (λ (m : ℕ). slice_get M m) q ∙ skipped) in
        let o : Out z is = out z is w.1 past in
        subst (λ (m : ℕ). Out m (j ∷ is)) (sym to_z) (record {
          locks = o.locks;
          chain = o.chain;
          only = λ m h. inr (o.only m h);
          kept = λ m h d. elim h [
            | inl r ↦ absurd (d (r ∙ w.0))
            | inr r ↦ o.kept m r d
          ];
          differ = λ d. o.differ d.1;
        })
    | inr q ↦
        let same : to ≡ at = same_nat to at (sym f ∙ s.others t q (λ r. omega (arith, l, r)) ∙ e) in
        let past : at ≢ ends + i = λ r. q (one_before N P t p (ends + i) k (e ∙ ap (λ (m : ℕ). Some m) r) before) in
        subst (λ (m : ℕ). Out m (j ∷ is)) (sym same) (out at (j ∷ is) c past)
  ]

-- ---- a lock that is in no chain comes into one

module _ (ends : ℕ) (N P M : List ℕ) (i s h : ℕ) (k : IsLinked N P) (low : s < ends) (alone : slice_get N (ends + i) ≡ Some (ends + i)) (head : slice_get N s ≡ Some h) (sp : IsSpliced N M s (ends + i)) where
  -- a link that does not come to itself comes to no lock that does
  other : (u y : ℕ) → slice_get N u ≡ Some y → u ≢ ends + i → y ≢ ends + i
  other u y e n = λ r. n (one_before N P u (ends + i) (ends + i) k (e ∙ ap (λ (m : ℕ). Some m) r) alone)

  on : (at : ℕ) (is : List ℕ) → IsChain ends N at is → at ≢ ends + i → IsChain ends M at is × (¬ Has i is)
  on at [] c n = (c, λ x. x)
  on at (j ∷ is) c n =
      let a : ends + j ≢ ends + i = λ r. n (c.0 ∙ r) in
      let r = on c.1.0 is c.1.2 (other (ends + j) c.1.0 c.1.1 a) in (
        (c.0, (c.1.0, sp.others (ends + j) (λ q. omega (arith, low, q)) a ∙ c.1.1, r.0)),
        λ x. elim x [
          | inl q ↦ a (ap (λ (m : ℕ). ends + m) (sym q))
          | inr q ↦ r.1 q
        ],
      )

  -- the chain of that end
  pub into : (is : List ℕ) → IsChain ends N h is → IsChain ends M (ends + i) (i ∷ is) × (¬ Has i is)
  into is c =
      let r = on h is c (other s h head (λ q. omega (arith, low, q))) in
      ((refl, (h, sp.second ∙ head, r.0)), r.1)

  -- and of another
  pub beside : (t at : ℕ) (is : List ℕ) → t < ends → t ≢ s → slice_get M t ≡ Some at → IsChain ends N at is → (slice_get N t ≡ Some at) × IsChain ends M at is
  beside t at is l n e c =
      let o : t ≢ ends + i = λ q. omega (arith, l, q) in
      let f : slice_get N t ≡ Some at = sym (sp.others t n o) ∙ e in
      (f, (on at is c (other t at f o)).0)

-- ---- a lock is put

-- the lock is nobody's
pub taken_out : (ends : ℕ) (N P M : List ℕ) (clients : List (Option ℕ)) (i p : ℕ) → AreChained ends N P clients → i < length clients → slice_get P (ends + i) ≡ Some p → IsSpliced N M p (ends + i) →
    (s at : ℕ) → s < ends → slice_get M s ≡ Some at → IsChainOf ends M (λ j c. (j ≢ i) × IsHeldIn clients j c) s at
taken_out ends N P M clients i p a l e sp s at low there =
    let many = a.many in
    let k = a.linked in
    let before : slice_get N p ≡ Some (ends + i) = k.behind (ends + i) p e in
    let z = there_is N (ends + i) (omega (arith, many, l)) in
    let long : length M ≡ length N = sp.many in
    let within = slice_get_within M s at there in
    let first = there_is N s (omega (arith, long, within)) in
    let c = a.chains s first.0 low first.1 in
    let o = out_from ends N P M i p z.0 k before z.1 sp s first.0 at c.locks low first.1 there c.chain in record {
      locks = o.locks;
      chain = o.chain;
      differ = o.differ c.differ;
      known = λ j d h m. o.kept j (c.known j d h.1 m) h.0;
    }

-- it is a client's
pub put_into : (ends : ℕ) (N P M : List ℕ) (holds : ℕ → ℕ → Type 0) (i c h : ℕ) → IsLinked N P → c % ends < ends → slice_get N (ends + i) ≡ Some (ends + i) → slice_get N (c % ends) ≡ Some h → IsSpliced N M (c % ends) (ends + i) →
    ((s at : ℕ) → s < ends → slice_get N s ≡ Some at → IsChainOf ends N (λ j d. (j ≢ i) × holds j d) s at) →
    (s at : ℕ) → s < ends → slice_get M s ≡ Some at → IsChainOf ends M (λ j d. ((j ≢ i) × holds j d) ⊎ ((j ≡ i) × (d ≡ c))) s at
put_into ends N P M holds i c h k small alone head sp chains s at low there = elim (cases_eq s (c % ends)) [
  | inl q ↦
      let a = chains (c % ends) h small head in
      let r = into ends N P M i (c % ends) h k small alone head sp a.locks a.chain in
      let to : at ≡ ends + i = same_nat at (ends + i) (sym there ∙ ap (λ (m : ℕ). slice_get M m) q ∙ sp.first ∙ alone) in
      subst (λ (m : ℕ). IsChainOf ends M (λ j d. ((j ≢ i) × holds j d) ⊎ ((j ≡ i) × (d ≡ c))) s m) (sym to) (record {
        locks = i ∷ a.locks;
        chain = r.0;
        differ = (r.1, a.differ);
        known = λ j d x m. elim x [
          | inl y ↦ inr (a.known j d y (m ∙ q))
          | inr y ↦ inl y.0
        ];
      })
  | inr n ↦
      let o : s ≢ ends + i = λ q. omega (arith, low, q) in
      let f : slice_get N s ≡ Some at = sym (sp.others s n o) ∙ there in
      let a = chains s at low f in record {
        locks = a.locks;
        chain = (beside ends N P M i (c % ends) h k small alone head sp s at a.locks low n there a.chain).1;
        differ = a.differ;
        known = λ j d x m. elim x [
          | inl y ↦ a.known j d y m
          | inr y ↦ absurd (n (sym m ∙ ap (λ (u : ℕ). u % ends) y.1))
        ];
      }
]

no_client : (c : ℕ) → ◌≡◌ {A = Option (Option ℕ)} (Some None) (Some (Some c)) → ⊥
no_client c e = cc

one_client : (c d : ℕ) → ◌≡◌ {A = Option (Option ℕ)} (Some (Some c)) (Some (Some d)) → c ≡ d
one_client c d e = cc

some_is : (x y : Option ℕ) → ◌≡◌ {A = Option (Option ℕ)} (Some x) (Some y) → x ≡ y
some_is x y e = cc

-- the client that holds each lock then
pub held_none : (clients : List (Option ℕ)) (i : ℕ) (o : Option ℕ) → slice_get clients i ≡ Some o → (j c : ℕ) → IsHeldIn (slice_set clients i None) j c → (j ≢ i) × IsHeldIn clients j c
held_none clients i o at j c e = elim (get_set clients i j None o (Some c) at e) [
  | inl p ↦ absurd (no_client c (ap (λ (x : Option ℕ). Some x) (sym p.1)))
  | inr p ↦ p
]

pub held_some : (clients : List (Option ℕ)) (i d : ℕ) (o : Option ℕ) → slice_get clients i ≡ Some o → (j c : ℕ) → IsHeldIn (slice_set clients i (Some d)) j c → ((j ≢ i) × IsHeldIn clients j c) ⊎ ((j ≡ i) × (c ≡ d))
held_some clients i d o at j c e = elim (get_set clients i j (Some d) o (Some c) at e) [
  | inl p ↦ inr (p.0, one_client c d (ap (λ (x : Option ℕ). Some x) p.1))
  | inr p ↦ inl p
]

pub fewer : (ends : ℕ) (N : List ℕ) (H K : ℕ → ℕ → Type 0) (s at : ℕ) → IsChainOf ends N H s at → ((j c : ℕ) → K j c → H j c) → IsChainOf ends N K s at
fewer ends N H K s at a f = record { locks = a.locks; chain = a.chain; differ = a.differ; known = λ j c x m. a.known j c (f j c x) m }

pub put_nobody : (ends : ℕ) (N P M Q : List ℕ) (clients : List (Option ℕ)) (i p : ℕ) → AreChained ends N P clients → i < length clients → slice_get P (ends + i) ≡ Some p → IsSpliced N M p (ends + i) → IsLinked M Q → AreChained ends M Q (slice_set clients i None)
put_nobody ends N P M Q clients i p a l e sp k =
    let o = there_is clients i l in record {
      linked = k;
      many = let x = length-set clients i None in let y = a.many in let z = sp.many in omega arith;
      chains = λ s at low there. fewer ends M (λ j c. (j ≢ i) × IsHeldIn clients j c) (IsHeldIn (slice_set clients i None)) s at (taken_out ends N P M clients i p a l e sp s at low there) (held_none clients i o.0 o.1);
    }

pub put_client : (ends : ℕ) (N P M Q M' Q' : List ℕ) (clients : List (Option ℕ)) (i p c : ℕ) → AreChained ends N P clients → i < length clients → slice_get P (ends + i) ≡ Some p → IsSpliced N M p (ends + i) → IsLinked M Q →
    c % ends < ends → IsSpliced M M' (c % ends) (ends + i) → IsLinked M' Q' → AreChained ends M' Q' (slice_set clients i (Some c))
put_client ends N P M Q M' Q' clients i p c a l e sp k small sp' k' =
    let o = there_is clients i l in
    let many = a.many in
    let long = sp.many in
    let h = there_is M (c % ends) (omega (arith, many, long, l, small)) in
    let before : slice_get N p ≡ Some (ends + i) = a.linked.behind (ends + i) p e in
    let alone : slice_get M (ends + i) ≡ Some (ends + i) = sp.second ∙ before in record {
      linked = k';
      many = let x = length-set clients i (Some c) in let y = a.many in let z = sp.many in let w = sp'.many in omega arith;
      chains = λ s at low there. fewer ends M' (λ j d. ((j ≢ i) × IsHeldIn clients j d) ⊎ ((j ≡ i) × (d ≡ c))) (IsHeldIn (slice_set clients i (Some c))) s at
          (put_into ends M Q M' (IsHeldIn clients) i c h.0 k small alone h.1 sp' (taken_out ends N P M clients i p a l e sp) s at low there) (held_some clients i c o.0 o.1);
    }

-- ---- a link more

chain_more : (ends : ℕ) (N : List ℕ) (x at : ℕ) (is : List ℕ) → IsChain ends N at is → IsChain ends (N ++ x ∷ []) at is
chain_more ends N x at [] c = c
chain_more ends N x at (i ∷ is) c = (c.0, (c.1.0, get_front N x (ends + i) c.1.0 c.1.1, chain_more ends N x c.1.0 is c.1.2))

chain_of_more : (ends : ℕ) (N : List ℕ) (H : ℕ → ℕ → Type 0) (x s at : ℕ) → IsChainOf ends N H s at → IsChainOf ends (N ++ x ∷ []) H s at
chain_of_more ends N H x s at a = record { locks = a.locks; chain = chain_more ends N x at a.locks a.chain; differ = a.differ; known = a.known }

-- an end
pub end_more : (ends : ℕ) (N P : List ℕ) (clients : List (Option ℕ)) → AreChained ends N P clients → length N < ends → AreChained ends (N ++ length N ∷ []) (P ++ length N ∷ []) clients
end_more ends N P clients a l = record {
  linked = link_linked N P a.linked;
  many = let x = length-append N (length N ∷ []) in let y = a.many in omega arith;
  chains = λ s at low there. elim (get_more N (length N) s at there) [
    | inl p ↦ chain_of_more ends N (IsHeldIn clients) (length N) s at (a.chains s at low p)
    | inr p ↦ record {
      locks = [];
      chain = subst (λ (x : ℕ). x < ends) (sym p.1) l;
      differ = tt;
      known = λ i c h m. let w = slice_get_within clients i (Some c) h in let y = a.many in absurd (omega (arith, w, y, l));
    }
  ];
}

-- the link of a lock that nobody holds
pub lock_more : (ends : ℕ) (N P : List ℕ) (clients : List (Option ℕ)) → AreChained ends N P clients → ends ≤ length N → AreChained ends (N ++ length N ∷ []) (P ++ length N ∷ []) (clients ++ None ∷ [])
lock_more ends N P clients a l = record {
  linked = link_linked N P a.linked;
  many = let x = length-append N (length N ∷ []) in let z = one_longer clients None in let y = a.many in omega arith;
  chains = λ s at low there. elim (get_more N (length N) s at there) [
    | inl p ↦ fewer ends (N ++ length N ∷ []) (IsHeldIn clients) (IsHeldIn (clients ++ None ∷ [])) s at (chain_of_more ends N (IsHeldIn clients) (length N) s at (a.chains s at low p))
        (λ i c h. elim (get_push clients None i (Some c) h) [
          | inl q ↦ q
          | inr q ↦ absurd (no_client c (ap (λ (x : Option ℕ). Some x) (sym q)))
        ])
    | inr p ↦ let q = p.0 in absurd (omega (arith, q, l, low))
  ];
}

-- ---- the same, of lists that are known by equations

pub same_chained : (ends : ℕ) (N P M Q : List ℕ) (clients : List (Option ℕ)) → M ≡ N → Q ≡ P → AreChained ends N P clients → AreChained ends M Q clients
same_chained ends N P M Q clients e f a = subst (λ (x : List ℕ). AreChained ends x Q clients) (sym e) (subst (λ (x : List ℕ). AreChained ends N x clients) (sym f) a)

pub end_added : (ends : ℕ) (N P M Q : List ℕ) (clients : List (Option ℕ)) → M ≡ N ++ length N ∷ [] → Q ≡ P ++ length N ∷ [] → AreChained ends N P clients → length N < ends → AreChained ends M Q clients
end_added ends N P M Q clients e f a l = same_chained ends (N ++ length N ∷ []) (P ++ length N ∷ []) M Q clients e f (end_more ends N P clients a l)

pub lock_added : (ends : ℕ) (N P M Q : List ℕ) (clients later : List (Option ℕ)) → M ≡ N ++ length N ∷ [] → Q ≡ P ++ length N ∷ [] → later ≡ clients ++ None ∷ [] → AreChained ends N P clients → ends ≤ length N → AreChained ends M Q later
lock_added ends N P M Q clients later e f g a l =
    subst (λ (x : List (Option ℕ)). AreChained ends M Q x) (sym g) (same_chained ends (N ++ length N ∷ []) (P ++ length N ∷ []) M Q (clients ++ None ∷ []) e f (lock_more ends N P clients a l))
