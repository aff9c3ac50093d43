-- The folder of a name, by its last slash.
use Rattle.std.proofs.Common.{◌≡◌, ◌≢◌, ℕ, zero, suc, ◌+◌, ◌-◌, ◌<◌, ◌≤◌, Bool, true, false, List, length, get_or, take, drop, Option, None, Some, MatchOption, Bor, refl, sym, ap, ◌∙◌, arith, eqb, eq-eqb, ne_eqb, eqb-true, length-drop, get_or-drop, codes}
use Rattle.std.specs.Option.{option_map}
use Rattle.std.specs.Path.{rfind_below, rsplit_once}
use Rattle.std.specs.Str.Pattern.{RFindsChar}
use Rattle.std.proofs.lemmas.Bool.{cond-true, cond-false, eqb-false}
use Rattle.std.proofs.lemmas.Str.{len_utf8_ascii}
use Rattle.std.proofs.lemmas.Str.Pattern.{NoCharPasses-char}
use Rattle.tool_parts.specs.Outside.{before_slash, parent_in, parent_of}

module _ (text : List ℕ) where
  none_below : (n : ℕ) → ((i : ℕ) → i < n → get_or text i 0 ≢ 47) → rfind_below 47 text n ≡ None
  none_below zero none = refl
  none_below (suc n) none = cond-false _ _ _ (ne_eqb _ 47 (none n (omega arith))) ∙ none_below n (λ i l. none i (omega arith))

  last_below : (k n : ℕ) → k < n → get_or text k 0 ≡ 47 → ((i : ℕ) → k < i → i < n → get_or text i 0 ≢ 47) → rfind_below 47 text n ≡ Some k
  last_below k zero l at later = absurd (omega arith)
  last_below k (suc n) l at later = go (eqb k n) refl (λ below. last_below k n below at (λ i a b. later i a (omega arith)))
    where
      go : (here : Bool) → eqb k n ≡ here → (k < n → rfind_below 47 text n ≡ Some k) → rfind_below 47 text (suc n) ≡ Some k
      go true e below =
          let same = eqb-true k n e in
          cond-true _ _ _ (eq-eqb _ 47 (ap (λ j. get_or text j 0) (sym same) ∙ at)) ∙ ap (λ (j : ℕ). Some j) (sym same)
      go false e below =
          let other = eqb-false k n e in
          cond-false _ _ _ (ne_eqb _ 47 (later n (omega (arith, other)) (omega arith))) ∙ below (omega (arith, other))

  -- what `rsplit_once` says of a slash
  abbrev pub Splits : Option (Bor (List ℕ) × Bor (List ℕ)) → Type 0
  Splits r =
      MatchOption r (RFindsChar 47 text None)
      (λ x. (i : ℕ) × (j : ℕ) × RFindsChar 47 text (Some (i, j)) × (x.0.now ≡ take i text) × (x.1.now ≡ drop j text) × (i ≤ j) × (length x.0.now ≡ i) × (length x.1.now + j ≡ length text))

  pub no_slash : (r : Option (Bor (List ℕ) × Bor (List ℕ))) → r ≡ None → Splits r → codes "." ≡ parent_of text
  unfolding rsplit_once
  no_slash None is h = sym (ap parent_in (ap (option_map (λ i. (take i text, drop (i + 1) text))) (none_below (length text) (λ i l. NoCharPasses-char 47 text i h (omega arith) l))))
  no_slash (Some x) is h = absurd (some_none x is)
    where
      some_none : (x : Bor (List ℕ) × Bor (List ℕ)) → Some x ≡ None → ⊥
      some_none x p = cc

  pub last_slash : (x : Bor (List ℕ) × Bor (List ℕ)) → Splits (Some x) → before_slash x.0.now ≡ parent_of text
  unfolding rsplit_once
  last_slash x h =
      let i = h.0 in
      let j = h.1 in
      let next : j ≡ i + 1 = omega (arith, h.2.1.ends, len_utf8_ascii 47 (omega arith)) in
      let later : (k : ℕ) → i < k → k < length text → get_or text k 0 ≢ 47 = λ k a l e.
      let back : j + (k - j) ≡ k = omega arith in
      NoCharPasses-char 47 (drop j text) (k - j) h.2.0 (omega arith) (omega (arith, length-drop j text)) (get_or-drop j text (k - j) 0 ∙ ap (λ n. get_or text n 0) back ∙ e) in
      let found = last_below i (length text) (omega (arith, h.7)) (h.2.1.byte (omega arith)) later in
      ap before_slash h.3 ∙ sym (ap parent_in (ap (option_map (λ k. (take k text, drop (k + 1) text))) found))
