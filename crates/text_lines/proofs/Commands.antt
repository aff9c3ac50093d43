-- Commands of several kinds, each of which has a line: just those lines are read, as the commands that
-- are heard of them.
use Rattle.std.proofs.Common.{◌≡◌, ℕ, eqb, List, [], ◌∷◌, ◌++◌, Option, Ok, refl, sym, ap, ◌∙◌, append_assoc, inl, inr}
use Rattle.std.proofs.lemmas.List.{append-nil}
use Rattle.text_lines.specs.Reading.{Reader, ◌>>=◌, after_at, as_at, or_at, none_at, end_at, whole_at}
use Rattle.text_lines.proofs.Basics.{bind_ok, chosen, ok_is}
use Rattle.text_lines.proofs.Spellings.{Hears, word_takes, word_again}

-- commands of which some have a line, and what is heard of each
pub record Kind : Type 1 where
  pub C : Type 0
  pub Has : C → Type 0
  pub line : C → List ℕ
  pub heard : C → Option C

-- the bytes that the reader takes after these are the line of a command
abbrev pub Takes : (k : Kind) → List ℕ → Reader (Option k.C) → Type 0
Takes k before at = (bytes : List ℕ) (b : Option k.C) (rest : List ℕ) → at bytes ≡ Ok (b, rest)
    → (c : k.C) × k.Has c × (k.heard c ≡ b) × (before ++ bytes ≡ k.line c ++ rest)

module _ (k : Kind) {A B : Type 0} {hear : A → B} {F : A → Type 0} {s : A → List ℕ} {at : Reader B} (law : Hears hear F s at) (of : B → Option k.C) (word : List ℕ) where
  pub kind_takes : (before : List ℕ) (says : A → k.C) → ((a : A) → F a → k.Has (says a)) → ((a : A) → k.heard (says a) ≡ of (hear a)) → ((a : A) → k.line (says a) ≡ before ++ (word ++ s a)) → Takes k before (as_at of (after_at word at))
  kind_takes before says fits hears line bytes b rest e =
      let x = bind_ok (after_at word at bytes) (λ x. Ok (of x.0, x.1)) (b, rest) e in
      let w = word_takes word at bytes x.0 x.1 in
      let a = law.takes w.0 x.0.0 x.0.1 w.2 in
      let made : Option k.C × List ℕ = (of x.0.0, x.0.1) in
      let same : made ≡ (b, rest) = ok_is made (b, rest) x.2 in
      let is : k.heard (says a.0) ≡ b = hears a.0 ∙ ap of a.2 ∙ ap (λ (z : Option k.C × List ℕ). z.0) same in
      let inner : bytes ≡ (word ++ s a.0) ++ x.0.1 = w.1 ∙ ap (λ (u : List ℕ). word ++ u) a.3 ∙ sym (append_assoc word (s a.0) x.0.1) in
      let whole : before ++ bytes ≡ k.line (says a.0) ++ x.0.1 =
      ap (λ (u : List ℕ). before ++ u) inner ∙ sym (append_assoc before (word ++ s a.0) x.0.1) ∙ ap (λ (u : List ℕ). u ++ x.0.1) (sym (line a.0)) in
      (says a.0, fits a.0 a.1, is, whole ∙ ap (λ (z : Option k.C × List ℕ). k.line (says a.0) ++ z.1) same)

  pub kind_again : (a : A) (rest : List ℕ) → F a → as_at of (after_at word at) ((word ++ s a) ++ rest) ≡ Ok (of (hear a), rest)
  kind_again a rest f = ap (as_at of (after_at word at)) (append_assoc word (s a) rest) ∙ rw (word_again word at (s a ++ rest), law.again a rest f) refl

pub or_takes : (k : Kind) (before : List ℕ) (c : ℕ) (first second : Reader (Option k.C)) → Takes k before first → Takes k before second → Takes k before (or_at c first second)
or_takes k before c first second t u [] b rest e = absurd cc
or_takes k before c first second t u (x ∷ bs) b rest e =
    elim (chosen (eqb x c) (first (x ∷ bs)) (second (x ∷ bs)) (Ok (b, rest)) e) [
      | inl h ↦ t (x ∷ bs) b rest h.1
      | inr h ↦ u (x ∷ bs) b rest h.1
    ]

pub none_takes : (k : Kind) (before : List ℕ) → Takes k before none_at
none_takes k before [] b rest e = absurd cc
none_takes k before (x ∷ bs) b rest e = absurd cc

pub after_takes : (k : Kind) (word : List ℕ) (at : Reader (Option k.C)) → Takes k word at → Takes k [] (after_at word at)
after_takes k word at t bytes b rest e =
    let w = word_takes word at bytes (b, rest) e in
    let r = t w.0 b rest w.2 in (r.0, r.1, r.2, w.1 ∙ r.3)

-- ---- whole lines

end_ok : (rest : List ℕ) (u : Unit {0}) → end_at rest ≡ Ok u → rest ≡ []
end_ok [] u e = refl
end_ok (b ∷ bs) u e = absurd cc

module _ (k : Kind) (at : Reader (Option k.C)) where
  pub line_takes : Takes k [] at → (line : List ℕ) (b : Option k.C) → whole_at at line ≡ Ok b → (c : k.C) × (k.Has c × (line ≡ k.line c)) × (k.heard c ≡ b)
  unfolding whole_at
  line_takes takes line b e =
      let x = bind_ok (at line) (λ x. end_at x.1 >>= λ _. Ok x.0) b e in
      let y = bind_ok (end_at x.0.1) (λ _. Ok x.0.0) b x.2 in
      let t = takes line x.0.0 x.0.1 x.1 in
      let whole : line ≡ k.line t.0 = t.3 ∙ ap (λ (u : List ℕ). k.line t.0 ++ u) (end_ok x.0.1 y.0 y.1) ∙ append-nil (k.line t.0) in
      (t.0, (t.1, whole), t.2 ∙ ok_is x.0.0 b y.2)

  pub line_again : ((c : k.C) (rest : List ℕ) → k.Has c → at (k.line c ++ rest) ≡ Ok (k.heard c, rest)) → (c : k.C) (line : List ℕ) → k.Has c × (line ≡ k.line c) → whole_at at line ≡ Ok (k.heard c)
  unfolding whole_at
  line_again again c line is =
      let read : at line ≡ Ok (k.heard c, []) = ap at (is.1 ∙ sym (append-nil (k.line c))) ∙ again c [] is.0 in
      rw read refl
