-- How texts begin: with the same line, or with the same note.
use Rattle.std.proofs.Common.{◌≡◌, ◌⊎◌, ℕ, suc, ◌+◌, ◌≤◌, List, [], ◌∷◌, ◌++◌, length, refl, sym, ap, ◌∙◌, append_assoc, arith, inl, inr}
use Rattle.line_service.specs.Answering.{IsLine, HasNoEnd}
use Rattle.noted_lines.specs.Notes.{note_text}
use Rattle.noted_lines.proofs.NotedReads.{one_note}
use Rattle.noted_lines.proofs.NotedEnds.{notes_are_lines}
use Rattle.line_replay.specs.Following.{BeginsWithNote, Follows, AfterSomeEnd, CanFollow}

pub head_is : (a b : ℕ) (u v : List ℕ) → ◌≡◌ {A = List ℕ} (a ∷ u) (b ∷ v) → a ≡ b
head_is a b u v e = cc

pub tail_is : (a b : ℕ) (u v : List ℕ) → ◌≡◌ {A = List ℕ} (a ∷ u) (b ∷ v) → u ≡ v
tail_is a b u v e = cc

pub none_is_some : (a : ℕ) (u : List ℕ) → ◌≡◌ {A = List ℕ} [] (a ∷ u) → ⊥
none_is_some a u e = cc

-- two texts that begin with a line each
pub same_line : (x y u v : List ℕ) → IsLine x → IsLine y → x ++ u ≡ y ++ v → (x ≡ y) × (u ≡ v)
same_line [] y u v p q e = absurd p
same_line (a ∷ x) [] u v p q e = absurd q
same_line (a ∷ []) (b ∷ []) u v p q e = (ap (λ (n : ℕ). n ∷ []) (head_is a b u v e), tail_is a b u v e)
same_line (a ∷ []) (b ∷ d ∷ y) u v p q e = absurd (q.0 (sym (head_is a b u (d ∷ (y ++ v)) e) ∙ p))
same_line (a ∷ c ∷ x) (b ∷ []) u v p q e = absurd (p.0 (head_is a b (c ∷ (x ++ u)) v e ∙ q))
same_line (a ∷ c ∷ x) (b ∷ d ∷ y) u v p q e =
    let rest = same_line (c ∷ x) (d ∷ y) u v p.1 q.1 (tail_is a b (c ∷ (x ++ u)) (d ∷ (y ++ v)) e) in
    let first : a ≡ b = head_is a b (c ∷ (x ++ u)) (d ∷ (y ++ v)) e in
    (ap (λ (n : ℕ). n ∷ c ∷ x) first ∙ ap (λ (l : List ℕ). b ∷ l) rest.0, rest.1)

-- a text that is cut either has a whole line, or no LF
pub cut_line : (x t v w : List ℕ) → IsLine x → t ++ w ≡ x ++ v → ((more : List ℕ) × (t ≡ x ++ more) × (more ++ w ≡ v)) ⊎ HasNoEnd t
cut_line [] t v w p e = absurd p
cut_line (a ∷ x) [] v w p e = inr tt
cut_line (a ∷ []) (b ∷ t) v w p e = inl (t, ap (λ (n : ℕ). n ∷ t) (head_is b a (t ++ w) v e), tail_is b a (t ++ w) v e)
cut_line (a ∷ c ∷ x) (b ∷ t) v w p e =
    let first : b ≡ a = head_is b a (t ++ w) (c ∷ (x ++ v)) e in
    elim (cut_line (c ∷ x) t v w p.1 (tail_is b a (t ++ w) (c ∷ (x ++ v)) e)) [
      | inl (more, is, rest) ↦ inl (more, ap (λ (n : ℕ). n ∷ t) first ∙ ap (λ (l : List ℕ). a ∷ l) is, rest)
      | inr none ↦ inr ((λ q. p.0 (sym first ∙ q)), none)
    ]

-- a text without LF has no line in front
pub no_line : (x t v : List ℕ) → IsLine x → HasNoEnd t → t ≡ x ++ v → ⊥
no_line [] t v p none e = absurd p
no_line (a ∷ x) [] v p none e = none_is_some a (x ++ v) e
no_line (a ∷ []) (b ∷ t) v p none e = none.0 (head_is b a t v e ∙ p)
no_line (a ∷ c ∷ x) (b ∷ t) v p none e = no_line (c ∷ x) t v p.1 none.1 (tail_is b a t (c ∷ (x ++ v)) e)

pub nowhere : (P : List ℕ → Type 0) (t : List ℕ) → HasNoEnd t → AfterSomeEnd P t → ⊥
nowhere P [] none s = absurd s
nowhere P (b ∷ t) none (inl s) = none.0 s.0
nowhere P (b ∷ t) none (inr s) = nowhere P t none.1 s

-- after a line
pub after_line : (P : List ℕ → Type 0) (x t : List ℕ) → IsLine x → AfterSomeEnd P (x ++ t) → P t ⊎ AfterSomeEnd P t
after_line P [] t p s = absurd p
after_line P (a ∷ []) t p (inl s) = inl s.1
after_line P (a ∷ []) t p (inr s) = inr s
after_line P (a ∷ c ∷ x) t p (inl s) = absurd (p.0 s.0)
after_line P (a ∷ c ∷ x) t p (inr s) = after_line P (c ∷ x) t p.1 s

pub before_line : (P : List ℕ → Type 0) (x t : List ℕ) → IsLine x → P t ⊎ AfterSomeEnd P t → AfterSomeEnd P (x ++ t)
before_line P [] t p s = absurd p
before_line P (a ∷ []) t p (inl s) = inl (p, s)
before_line P (a ∷ []) t p (inr s) = inr s
before_line P (a ∷ c ∷ x) t p s = inr (before_line P (c ∷ x) t p.1 s)

-- ---- notes

pub note_line : (count : ℕ) (line rest bytes : List ℕ) → BeginsWithNote count line rest bytes → IsLine (note_text count line)
note_line count line rest bytes b = notes_are_lines count line b.fits b.whole

-- two notes at one place
pub same_note : (m n : ℕ) (a b u v bytes : List ℕ) → BeginsWithNote m a u bytes → BeginsWithNote n b v bytes → (m ≡ n) × (a ≡ b) × (u ≡ v)
same_note m n a b u v bytes p q =
    let same = same_line (note_text m a) (note_text n b) u v (note_line m a u bytes p) (note_line n b v bytes q) (sym p.is ∙ q.is) in
    let one = one_note (note_text m a) m n a b (record { fits = p.fits; is = refl }) (record { fits = q.fits; is = same.0 }) in
    (one.0, one.1, same.1)

pub note_more : (n : ℕ) (a u bytes w : List ℕ) → BeginsWithNote n a u bytes → BeginsWithNote n a (u ++ w) (bytes ++ w)
note_more n a u bytes w b = record {
  fits = b.fits;
  whole = b.whole;
  is = ap (λ (x : List ℕ). x ++ w) b.is ∙ append_assoc (note_text n a) u w;
}

pub no_note : (n : ℕ) (a u : List ℕ) → BeginsWithNote n a u [] → ⊥
no_note n a u b = no_line (note_text n a) [] u (note_line n a u [] b) tt b.is

-- nothing can follow where there is nothing
pub nothing_follows : (n : ℕ) → CanFollow n [] → ⊥
nothing_follows n (inl f) = no_note f.count f.line f.rest f.note
nothing_follows n (inr s) = absurd s

-- without an LF nothing can follow
pub none_follows : (n : ℕ) (t : List ℕ) → HasNoEnd t → CanFollow n t → ⊥
none_follows n t none (inl f) = no_line (note_text f.count f.line) t f.rest (note_line f.count f.line f.rest t f.note) none f.note.is
none_follows n t none (inr s) = nowhere (Follows n (length t)) t none s

note_some : (count : ℕ) (line rest bytes : List ℕ) → BeginsWithNote count line rest bytes → 1 ≤ length bytes
note_some count line rest [] b = absurd (no_note count line rest b)
note_some count line rest (x ∷ xs) b = omega arith

-- the next note can follow
pub next_follows : (n : ℕ) (line rest bytes : List ℕ) → BeginsWithNote (suc n) line rest bytes → CanFollow n bytes
next_follows n line rest bytes b =
    let some = note_some (suc n) line rest bytes b in
    inl (record { count = suc n; line = line; rest = rest; above = omega arith; near = omega (arith, some); note = b })
