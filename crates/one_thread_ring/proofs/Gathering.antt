-- How the survey lines of a saved ring are handed to its clients, one client after the other.
use Rattle.std.proofs.Common.{◌≡◌, ℕ, zero, suc, ◌+◌, ◌-◌, ◌<◌, ◌≤◌, List, [], ◌∷◌, ◌++◌, All, length, get_or, take, drop, length-append, length-drop, append_assoc, refl, sym, ◌∙◌, ap, subst, inl, inr, arith}
use Rattle.std.proofs.lemmas.Bool.{cases_eq, cases_lt}
use Rattle.std.proofs.lemmas.List.{append-nil, map-append, take_more, drop_more, drop_all, drop-drop, take_all, get_or_append_left, get_or-append_right}
use Rattle.std.proofs.lemmas.List.Elements.{All-nil, All-push}
use Rattle.saved_history.specs.declared.saved.SavedSurvey.{SavedSurvey}
use Rattle.ring_check.specs.Meaning.{survey_of, AreOnward, AreInOrder}
use Rattle.one_thread_ring.specs.SavedOf.{saved_survey}
use Rattle.one_thread_ring.specs.Clients.{ClientView, StandInOrder}
use Rattle.one_thread_ring.specs.Texts.{client_surveys, surveys_kept}
use Rattle.one_thread_ring.specs.Resuming.{AreSeated, IsToldFirst}
use Rattle.one_thread_ring.proofs.Telling.{in_order_longer, in_order_push}

-- one client

saved_same : (number : ℕ) (s : SavedSurvey) → s.seat ≡ number → saved_survey number (survey_of s) ≡ s
saved_same number s e = ap (λ (n : ℕ). saved_survey n (survey_of s)) (sym e)

pub record IsToldTo (number : ℕ) (ss : List SavedSurvey) (c : ClientView) (low i : ℕ) : Type 0 where
  pub is : c.number ≡ number
  pub told : client_surveys c ≡ take i ss
  pub many : length c.surveys ≡ i
  pub in_order : StandInOrder 0 low c.surveys
  pub onward : AreOnward number 0 ss → AreOnward number low (drop i ss)

pub told_none : (number : ℕ) (ss : List SavedSurvey) (c : ClientView) → c ≡ record { number = number; surveys = [] } → IsToldTo number ss c 0 0
told_none number ss c e = subst (λ (x : ClientView). IsToldTo number ss x 0 0) (sym e) (record { is = refl; told = refl; many = refl; in_order = omega arith; onward = λ o. o })

module _ (number : ℕ) (ss : List SavedSurvey) (c : ClientView) (low i : ℕ) (d : SavedSurvey) (within : i < length ss) (t : IsToldTo number ss c low i) where
  next_onward : AreOnward number 0 ss → AreOnward number low (get_or ss i d ∷ drop (i + 1) ss)
  next_onward o = subst (λ (u : List SavedSurvey). AreOnward number low u) (drop_more ss i d within) (t.onward o)

  -- its own survey goes not back
  pub not_back : (get_or ss i d).seat ≡ number → (get_or ss i d).position < low → AreOnward number 0 ss → ⊥
  not_back own back o = elim (next_onward o).0 [
    | inl later ↦ omega (arith, own, later)
    | inr same ↦ let p = same.1 in omega (arith, back, p)
  ]

  pub told_next : (more : ClientView) → (get_or ss i d).seat ≡ number → low ≤ (get_or ss i d).position →
      more ≡ record { number = c.number; surveys = c.surveys ++ survey_of (get_or ss i d) ∷ [] } → IsToldTo number ss more (get_or ss i d).position (i + 1)
  told_next more own on e =
      let s : SavedSurvey = get_or ss i d in
      let size = length-append c.surveys (survey_of s ∷ []) in
      let many = t.many in
      subst (λ (x : ClientView). IsToldTo number ss x s.position (i + 1)) (sym e) (record {
        is = t.is;
        told = map-append (saved_survey c.number) c.surveys (survey_of s ∷ [])
            ∙ (ap (λ (u : List SavedSurvey). u ++ saved_survey c.number (survey_of s) ∷ []) t.told
            ∙ (ap (λ (x : SavedSurvey). take i ss ++ x ∷ []) (saved_same c.number s (own ∙ sym t.is)) ∙ sym (take_more ss i d within)));
        many = omega (arith, size, many);
        in_order = in_order_push 0 s.position c.surveys (survey_of s) refl (in_order_longer 0 low s.position c.surveys on t.in_order);
        onward = λ o. subst (λ (n : ℕ). AreOnward n s.position (drop (i + 1) ss)) own (next_onward o).1;
      })

  -- the next survey is another client's
  pub told_up_to : ((get_or ss i d).seat ≡ number → ⊥) → IsToldFirst number ss c
  told_up_to other =
      let many = t.many in
      record {
        is = t.is;
        few = omega (arith, many, within);
        first = t.told ∙ ap (λ (k : ℕ). take k ss) (sym many);
        in_order = (low, t.in_order);
        onward = λ o.
            let n = next_onward o in
            let here : AreOnward (number + 1) 0 (get_or ss i d ∷ drop (i + 1) ss) = (
              elim n.0 [
                | inl later ↦ elim (cases_eq (number + 1) (get_or ss i d).seat) [
                  | inl e ↦ inr (e, omega arith)
                  | inr ne ↦ inl (omega (arith, later, ne))
                ]
                | inr same ↦ absurd (other (sym same.0))
              ],
              n.1,
            ) in
            subst (λ (k : ℕ). AreOnward (number + 1) 0 (drop k ss)) (sym many)
            (subst (λ (u : List SavedSurvey). AreOnward (number + 1) 0 u) (sym (drop_more ss i d within)) here);
      }

pub told_to_end : (number : ℕ) (ss : List SavedSurvey) (c : ClientView) (low i : ℕ) → length ss ≤ i → i ≤ length ss → IsToldTo number ss c low i → IsToldFirst number ss c
told_to_end number ss c low i past most t =
    let many = t.many in
    record {
      is = t.is;
      few = omega (arith, many, most);
      first = t.told ∙ ap (λ (k : ℕ). take k ss) (sym many);
      in_order = (low, t.in_order);
      onward = λ o. subst (λ (u : List SavedSurvey). AreOnward (number + 1) 0 u) (sym (drop_all (length c.surveys) ss (omega (arith, many, past)))) tt;
    }

-- all clients

pub order_onward : (ss : List SavedSurvey) → AreInOrder ss → AreOnward 0 0 ss
order_onward [] o = tt
order_onward (s ∷ ss) o = (
  elim (cases_eq 0 s.seat) [
    | inl e ↦ inr (e, omega arith)
    | inr ne ↦ inl (omega (arith, ne))
  ],
  o,
)

-- the end of the order of a client's surveys
abbrev pub HasOrder : ClientView → Type 0
HasOrder c = (end : ℕ) × StandInOrder 0 end c.surveys

pub record AreToldTo (ss : List SavedSurvey) (cs : List ClientView) (number place : ℕ) : Type 0 where
  pub many : length cs ≡ number
  pub numbers : (i : ℕ) (c : ClientView) → i < length cs → (get_or cs i c).number ≡ i
  pub in_order : All HasOrder cs
  pub told : surveys_kept cs ≡ take place ss
  pub within : place ≤ length ss
  pub onward : AreInOrder ss → AreOnward number 0 (drop place ss)

pub none_told : (ss : List SavedSurvey) (cs : List ClientView) → cs ≡ [] → AreToldTo ss cs 0 0
none_told ss cs e = subst (λ (x : List ClientView). AreToldTo ss x 0 0) (sym e) (record {
  many = refl;
  numbers = λ i c l. absurd (omega (arith, l));
  in_order = All-nil HasOrder;
  told = refl;
  within = omega arith;
  onward = λ o. order_onward ss o;
})

kept_push : (cs : List ClientView) (c : ClientView) → surveys_kept (cs ++ c ∷ []) ≡ surveys_kept cs ++ client_surveys c
kept_push [] c = append-nil (client_surveys c)
kept_push (x ∷ cs) c = ap (λ (u : List SavedSurvey). client_surveys x ++ u) (kept_push cs c) ∙ sym (append_assoc (client_surveys x) (surveys_kept cs) (client_surveys c))

nothing : (i : ℕ) → take {A = SavedSurvey} i [] ≡ []
nothing zero = refl
nothing (suc i) = refl

take_on : (ss : List SavedSurvey) (p k : ℕ) → take (p + k) ss ≡ take p ss ++ take k (drop p ss)
take_on [] zero k = ap (λ (i : ℕ). take i []) (let e : zero + k ≡ k = omega arith in e)
take_on [] (suc p) k = nothing (suc p + k) ∙ sym (nothing k)
take_on (s ∷ ss) zero k = ap (λ (i : ℕ). take i (s ∷ ss)) (let e : zero + k ≡ k = omega arith in e)
take_on (s ∷ ss) (suc p) k =
    let e : suc p + k ≡ suc (p + k) = omega arith in
    ap (λ (i : ℕ). take i (s ∷ ss)) e ∙ ap (λ (u : List SavedSurvey). s ∷ u) (take_on ss p k)

pub told_on : (ss : List SavedSurvey) (cs more : List ClientView) (c : ClientView) (number place k : ℕ) → AreToldTo ss cs number place → IsToldFirst number (drop place ss) c →
    k ≡ length c.surveys → more ≡ cs ++ c ∷ [] → AreToldTo ss more (number + 1) (place + k)
told_on ss cs more c number place k t f count e =
    let many = t.many in
    let size = length-append cs (c ∷ []) in
    let few = f.few in
    let left = length-drop place ss in
    let within = t.within in
    subst (λ (x : List ClientView). AreToldTo ss x (number + 1) (place + k)) (sym e) (record {
      many = omega (arith, many, size);
      numbers = λ i d l. elim (cases_lt i (length cs)) [
        | inl lt ↦ ap (λ (x : ClientView). x.number) (get_or_append_left cs (c ∷ []) d i lt) ∙ t.numbers i d lt
        | inr ge ↦
            let last : i ≡ length cs = omega (arith, ge, l, size) in
            let none : length cs - length cs ≡ 0 = omega arith in
            ap (λ (j : ℕ). (get_or (cs ++ c ∷ []) j d).number) last
            ∙ (ap (λ (x : ClientView). x.number) (get_or-append_right cs (c ∷ []) (length cs) (length cs) d refl (omega arith) ∙ ap (λ (j : ℕ). get_or (c ∷ []) j d) none)
            ∙ (f.is ∙ (sym many ∙ sym last)))
      ];
      in_order = All-push HasOrder cs c t.in_order f.in_order;
      told = kept_push cs c ∙ (ap (λ (u : List SavedSurvey). u ++ client_surveys c) t.told
          ∙ (ap (λ (u : List SavedSurvey). take place ss ++ u) (f.first ∙ ap (λ (j : ℕ). take j (drop place ss)) (sym count)) ∙ sym (take_on ss place k)));
      within = omega (arith, few, left, within, count);
      onward = λ o.
          let there : AreOnward (number + 1) 0 (drop k (drop place ss)) = subst (λ (j : ℕ). AreOnward (number + 1) 0 (drop j (drop place ss))) (sym count) (f.onward (t.onward o)) in
          subst (λ (u : List SavedSurvey). AreOnward (number + 1) 0 u) (drop-drop k place ss) there;
    })

-- after the last seat's there is none, if all are of the seats and in order
pub none_left : (ss : List SavedSurvey) (cs : List ClientView) (seats place : ℕ) (d : SavedSurvey) → AreToldTo ss cs seats place → AreInOrder ss → All (λ (s : SavedSurvey). s.seat < seats) ss →
    place < length ss → ⊥
none_left ss cs seats place d t o all l =
    let few : (get_or ss place d).seat < seats = all place d l in
    let next : AreOnward seats 0 (get_or ss place d ∷ drop (place + 1) ss) = subst (λ (u : List SavedSurvey). AreOnward seats 0 u) (drop_more ss place d l) (t.onward o) in
    elim next.0 [
      | inl later ↦ omega (arith, few, later)
      | inr same ↦ let e = same.0 in omega (arith, few, e)
    ]

pub all_told : (ss : List SavedSurvey) (cs : List ClientView) (seats place : ℕ) → AreToldTo ss cs seats place → length ss ≤ place → AreSeated seats cs × (surveys_kept cs ≡ ss)
all_told ss cs seats place t l = (record { many = t.many; numbers = t.numbers; in_order = t.in_order }, t.told ∙ take_all place ss l)
