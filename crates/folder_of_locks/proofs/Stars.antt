-- Texts of lists that are cut at the star of the pool.
use Rattle.std.proofs.Common.{◌≡◌, ◌≢◌, ◌∙◌, inl, inr, ℕ, ◌<◌, List, [], ◌∷◌, ◌++◌, length, map, Option, None, Some, refl, sym, ap, subst, append_assoc, arith}
use Rattle.std.proofs.lemmas.List.{length-map}
use Rattle.ring_state.specs.Sizes.{Size}
use Rattle.ring_state.specs.declared.sizes.ParamsError.{ParamsError}
use Rattle.folder_of_locks.specs.declared.locks.ListedLock.{ListedLock}
use Rattle.folder_of_locks.specs.declared.locks.ListError.{ListError}
use Rattle.folder_of_locks.specs.declared.locks.ListError.TheVariants as refused
use Rattle.folder_of_locks.specs.Lists.{Listed, listed, AreTexts, IsSizeFault, IsLocksFault, IsTextsFault}
use Rattle.folder_of_locks.specs.ListSteps.{IsPlain, IsCut, AreMarks, IsReadFault}
use Rattle.folder_of_locks.specs.Pools.{Pooled, IsPoolText, ArePooledTexts, ArePooled, pool_ring, HasOne, IsPooledFault, IsPooledWord, IsPooledWordFault, IsPooledFileFault}
use Rattle.folder_of_locks.specs.PoolSteps.{IsAround, IsNotAround}
use Rattle.folder_of_locks.proofs.Cuts.{not_in, first_cut, text_plain, plain_nil, plain_cons, plain_append}
use Rattle.folder_of_locks.proofs.Marks.{file_marks, star_in_word, star_in_file}
use Rattle.folder_of_locks.proofs.PoolSizes.{not_nil, pool_plain}

-- texts of locks have no mark of another kind
locks_plain : (m end mark : ℕ) (bytes : List ℕ) (ls : List Listed) → AreMarks m mark → m ≢ end → AreTexts end mark bytes ls → IsPlain m bytes
locks_plain m end mark bytes [] marks other h = subst (IsPlain m) (sym h) (plain_nil m)
locks_plain m end mark bytes (l ∷ ls) marks other h =
    subst (IsPlain m) (sym h.2)
    (plain_append m h.0 (end ∷ h.1) (text_plain m mark h.0 l marks h.3) (plain_cons m end h.1 (λ e. other (sym e)) (locks_plain m end mark h.1 ls marks other h.4)))

-- two texts with one end are the same before it
snoc_same : (x : ℕ) (a b : List ℕ) → a ++ x ∷ [] ≡ b ++ x ∷ [] → a ≡ b
snoc_same x [] [] e = refl
snoc_same x [] (y ∷ b) e = let t : [] ≡ b ++ x ∷ [] = cc in absurd (not_nil b x [] (sym t))
snoc_same x (z ∷ a) [] e = let t : a ++ x ∷ [] ≡ [] = cc in absurd (not_nil a x [] t)
snoc_same x (z ∷ a) (y ∷ b) e =
    let t : a ++ x ∷ [] ≡ b ++ x ∷ [] = cc in
    let s : z ≡ y = cc in
    rw (s, snoc_same x a b t) refl

-- ---- a list whose bytes have a star: its texts are those before and after it

record Starred (star end mark : ℕ) (front after : List ℕ) (ls : List Listed) (pool : Option Size) : Type 0 where
  size : Size
  text : List ℕ
  after_is : after ≡ text ++ end ∷ []
  locks : AreTexts end mark front ls
  pool_text : IsPoolText mark text size

-- the bytes have this mark, where a pool's text begins
abbrev TextsBy : ℕ → ℕ → ℕ → List ℕ → List Listed → Option Size → Type 0
TextsBy star end mark bytes ls None = AreTexts end mark bytes ls
TextsBy star end mark bytes ls (Some s) =
    (front : List ℕ)
    × (text : List ℕ)
    × (bytes ≡ front ++ star ∷ (text ++ end ∷ []))
    × AreTexts end mark front ls
    × IsPoolText mark text s

-- that of a pool is the star
by_star : (end mark : ℕ) (bytes : List ℕ) (ls : List Listed) (pool : Option Size) → ArePooledTexts end mark bytes ls pool → TextsBy 42 end mark bytes ls pool
by_star end mark bytes ls None h = h
by_star end mark bytes ls (Some s) h = h

starred : (star end mark : ℕ) (bytes front after : List ℕ) (ls : List Listed) (pool : Option Size) → AreMarks star mark → star ≢ end → IsPlain star front → bytes ≡ front ++ star ∷ after → TextsBy star end mark bytes ls pool → Starred star end mark front after ls pool
starred star end mark bytes front after ls None marks other plain is h =
    absurd (not_in star front after (subst (IsPlain star) is (locks_plain star end mark bytes ls marks other h)))
starred star end mark bytes front after ls (Some s) marks other plain is h =
    let both = first_cut star h.0 (h.1 ++ end ∷ []) front after (locks_plain star end mark h.0 ls marks other h.3) plain (sym h.2 ∙ is) in
    record {
      size = s;
      text = h.1;
      after_is = sym both.1;
      locks = subst (λ (t : List ℕ). AreTexts end mark t ls) both.0 h.3;
      pool_text = h.4;
    }

-- where there is no star there is no pool
starless : (star end mark : ℕ) (bytes : List ℕ) (ls : List Listed) (pool : Option Size) → IsPlain star bytes → ((all : List Listed) → 0 < length all → ¬ AreTexts end mark bytes all) → HasOne ls pool → ¬ TextsBy star end mark bytes ls pool
starless star end mark bytes ls None plain why some h = why ls some h
starless star end mark bytes ls (Some s) plain why some h = not_in star h.0 (h.1 ++ end ∷ []) (subst (IsPlain star) h.2 plain)

pub no_star : (end mark : ℕ) (bytes : List ℕ) (e : ListError) → IsPlain 42 bytes → IsTextsFault end mark bytes e → IsPooledFault end mark bytes e
no_star end mark bytes refused.Syntax plain why = λ ls pool some h. starless 42 end mark bytes ls pool plain why some (by_star end mark bytes ls pool h)
no_star end mark bytes refused.OutOfMemory plain why = tt
no_star end mark bytes refused.Many plain why = (why.0, None, why.1, why.2)
no_star end mark bytes (refused.Size i c) plain why = (why.0, None, why.1, why.2)
no_star end mark bytes (refused.Twice i) plain why = (why.0, None, why.1, why.2)

-- ---- what is read around the star

around : (end mark : ℕ) (bytes front text : List ℕ) (l : Pooled) → bytes ≡ front ++ 42 ∷ (text ++ end ∷ []) → IsAround end mark front text l → ArePooledTexts end mark bytes l.locks l.pool × ArePooled l.locks l.pool
around end mark bytes front text l is a =
    subst (λ (p : Option Size). ArePooledTexts end mark bytes l.locks p × ArePooled l.locks p) (sym a.pool) ((front, text, is, a.locks_text, a.pool_text), a.right)

not_around : (end mark : ℕ) (bytes front text : List ℕ) (e : ListError) → AreMarks 42 mark → 42 ≢ end → IsPlain 42 front → bytes ≡ front ++ 42 ∷ (text ++ end ∷ []) → IsNotAround end mark front text e → IsPooledFault end mark bytes e
not_around end mark bytes front text refused.Syntax marks other plain is why = λ ls pool some h.
    let s = starred 42 end mark bytes front (text ++ end ∷ []) ls pool marks other plain is (by_star end mark bytes ls pool h) in
    elim why [
      | inl none ↦ none ls s.locks
      | inr none ↦ none s.size (subst (λ (t : List ℕ). IsPoolText mark t s.size) (sym (snoc_same end text s.text s.after_is)) s.pool_text)
    ]
not_around end mark bytes front text refused.OutOfMemory marks other plain is why = tt
not_around end mark bytes front text refused.Many marks other plain is why = (why.0, Some why.1, (front, text, is, why.2, why.3), why.4)
not_around end mark bytes front text (refused.Size i c) marks other plain is why = (why.0, Some why.1, (front, text, is, why.2, why.3), why.4)
not_around end mark bytes front text (refused.Twice i) marks other plain is why = (why.0, Some why.1, (front, text, is, why.2, why.3), why.4)

-- ---- words

word_is : (word front text : List ℕ) → word ≡ front ++ 42 ∷ text → word ++ 44 ∷ [] ≡ front ++ 42 ∷ (text ++ 44 ∷ [])
word_is word front text is = ap (λ (t : List ℕ). t ++ 44 ∷ []) is ∙ append_assoc front (42 ∷ text) (44 ∷ [])

pub word_read : (word front text : List ℕ) (l : Pooled) → IsCut 42 word front (Some text) → IsAround 44 58 front text l → IsPooledWord word l
word_read word front text l cut a = around 44 58 (word ++ 44 ∷ []) front text l (word_is word front text cut.0) a

pub word_unread : (word front text : List ℕ) (e : ListError) → IsCut 42 word front (Some text) → IsNotAround 44 58 front text e → IsPooledWordFault word e
word_unread word front text e cut why = not_around 44 58 (word ++ 44 ∷ []) front text e star_in_word (λ e. omega (arith, e)) cut.1 (word_is word front text cut.0) why

pub word_starless : (word front : List ℕ) (e : ListError) → IsCut 42 word front None → IsTextsFault 44 58 (word ++ 44 ∷ []) e → IsPooledWordFault word e
word_starless word front e cut why =
    no_star 44 58 (word ++ 44 ∷ []) e (plain_append 42 word (44 ∷ []) (subst (IsPlain 42) (sym cut.0) cut.1) (plain_cons 42 44 [] (λ e. omega (arith, e)) (plain_nil 42))) why

-- ---- files

file_is : (bytes front after line : List ℕ) → bytes ≡ front ++ 42 ∷ after → after ≡ line ++ 10 ∷ [] → bytes ≡ front ++ 42 ∷ (line ++ 10 ∷ [])
file_is bytes front after line is e = is ∙ ap (λ (t : List ℕ). front ++ 42 ∷ t) e

pub file_unread : (bytes front after line : List ℕ) (e : ListError) → IsCut 42 bytes front (Some after) → after ≡ line ++ 10 ∷ [] → IsNotAround 10 32 front line e → IsPooledFileFault bytes e
file_unread bytes front after line e cut is why = not_around 10 32 bytes front line e star_in_file (λ e. omega (arith, e)) cut.1 (file_is bytes front after line cut.0 is) why

pub file_starless : (bytes front : List ℕ) (e : ListError) → IsCut 42 bytes front None → IsTextsFault 10 32 bytes e → IsPooledFileFault bytes e
file_starless bytes front e cut why = no_star 10 32 bytes e (subst (IsPlain 42) (sym cut.0) cut.1) why

-- the line of the pool is not the last one
pub file_unended : (bytes front after : List ℕ) → IsCut 42 bytes front (Some after) → ((text : List ℕ) → IsPlain 10 text → after ≢ text ++ 10 ∷ []) → IsPooledFileFault bytes refused.Syntax
file_unended bytes front after cut none = λ ls pool some h.
    let s = starred 42 10 32 bytes front after ls pool star_in_file (λ e. omega (arith, e)) cut.1 cut.0 (by_star 10 32 bytes ls pool h) in
    none s.text (pool_plain 10 32 s.text s.size file_marks s.pool_text) s.after_is

-- ---- the line of a pool

pub more_lines : (after line rest : List ℕ) → IsCut 10 after line (Some rest) → rest ≢ [] → (text : List ℕ) → IsPlain 10 text → after ≢ text ++ 10 ∷ []
more_lines after line rest cut some text plain e = some (first_cut 10 line rest text [] cut.1 plain (sym cut.0 ∙ e)).1

-- ---- refusals of what is read

pub front_fault : (end mark : ℕ) (front text : List ℕ) (e : ListError) → IsReadFault end mark front e → IsNotAround end mark front text e
front_fault end mark front text refused.Syntax why = inl why
front_fault end mark front text refused.OutOfMemory why = tt
front_fault end mark front text refused.Many why = absurd why
front_fault end mark front text (refused.Size i c) why = absurd why
front_fault end mark front text (refused.Twice i) why = absurd why

pub locks_fault : (end mark : ℕ) (front text : List ℕ) (ls : List Listed) (s : Size) (e : ListError) → AreTexts end mark front ls → IsPoolText mark text s → IsLocksFault ls e → IsNotAround end mark front text e
locks_fault end mark front text ls s refused.Syntax a p why = absurd why
locks_fault end mark front text ls s refused.OutOfMemory a p why = tt
locks_fault end mark front text ls s refused.Many a p why = (ls, s, a, p, inl why)
locks_fault end mark front text ls s (refused.Size i c) a p why = (ls, s, a, p, inl why)
locks_fault end mark front text ls s (refused.Twice i) a p why = (ls, s, a, p, inl why)

pub pool_fault : (end mark : ℕ) (front text : List ℕ) (locks : List ListedLock) (s : Size) (c : ParamsError) → AreTexts end mark front (map listed locks) → IsPoolText mark text s → IsSizeFault (pool_ring s) c → IsNotAround end mark front text (refused.Size (length locks) c)
pool_fault end mark front text locks s c a p why = (map listed locks, s, a, p, inr (sym (length-map locks listed), why))
