-- Items up to the one that ends them.
use Rattle.std.proofs.Common.{◌≡◌, ℕ, zero, suc, ◌<◌, ◌≤◌, List, [], ◌∷◌, ◌++◌, length, Result, Ok, Err, refl, sym, ap, subst, ◌∙◌, append_assoc, arith, inl, inr, length-append}
use Rattle.std.specs.List.{flat_map, AllByRecursion}
use Rattle.std.proofs.lemmas.List.{append-nil}
use Rattle.text_lines.specs.declared.fault.Fault.{Fault}
use Rattle.text_lines.specs.declared.fault.Fault.TheVariants.{Short, Bad}
use Rattle.text_lines.specs.declared.fault.Stop.{Stop}
use Rattle.text_lines.specs.declared.fault.Stop.TheVariants as stops
use Rattle.text_lines.specs.Reading.{Reader, ◌>>=◌, Either, this, that, Fails, many_with, some_at, many_at}
use Rattle.text_lines.specs.Spelling.{OfEither, of_either}
use Rattle.text_lines.specs.Grammar.{Reads, ShortOf, BadAt, RunFits, many, Repeats}
use Rattle.text_lines.proofs.Basics.{bind_ok, bind_err, ok_is}

module _ (S A E : Type 0) (V : S → Type 0) (F : S → A → Type 0) (s : A → List ℕ) (G : S → E → Type 0) (t : E → List ℕ) (item : S → Reader (Either A E)) (next : A → S)
    (reads : (st : S) → V st → Reads (OfEither (F st) (G st)) (of_either s t) (item st)) (keeps : (st : S) (a : A) → F st a → V (next a))
    (some : (st : S) (a : A) → F st a → 0 < length (s a)) (final : (st : S) → V st → (e : E) × G st e) where
  -- an item taken from the front leaves less
  shrinks : (st : S) → V st → (bytes : List ℕ) (a : A) (after : List ℕ) → item st bytes ≡ Ok (this a, after) → length after < length bytes
  shrinks st v bytes a after e =
      let k = (reads st v).takes bytes (this a) after e in
      let l = some st a k.0 in
      omega (arith, ap length k.1, length-append (s a) after, l)

  some_takes : (fuel : ℕ) (st : S) → V st → (bytes : List ℕ) (p : List A × E) (rest : List ℕ) → some_at item next fuel st bytes ≡ Ok (p, rest) → RunFits F G next st p.0 p.1 × (bytes ≡ many s t p ++ rest)
  unfolding some_at
  some_takes zero st v bytes p rest e = absurd cc
  some_takes (suc fuel) st v bytes p rest e =
      let x = bind_ok (item st bytes) (λ x. many_with (λ u. some_at item next fuel u x.1) next x.0 x.1) (p, rest) e in
      go x.0.0 x.0.1 x.1 x.2 (λ u w. some_takes fuel u w x.0.1)
    where
      go : (v0 : Either A E) (after : List ℕ) → item st bytes ≡ Ok (v0, after) → many_with (λ u. some_at item next fuel u after) next v0 after ≡ Ok (p, rest)
          → ((u : S) → V u → (q : List A × E) (r : List ℕ) → some_at item next fuel u after ≡ Ok (q, r) → RunFits F G next u q.0 q.1 × (after ≡ many s t q ++ r)) → RunFits F G next st p.0 p.1 × (bytes ≡ many s t p ++ rest)
      go (this a) after e1 e2 ih =
          let k = (reads st v).takes bytes (this a) after e1 in
          let y = bind_ok (some_at item next fuel (next a) after) (λ y. Ok ((a ∷ y.0.0, y.0.1), y.1)) (p, rest) e2 in
          let h = ih (next a) (keeps st a k.0) y.0.0 y.0.1 y.1 in
          let made : (List A × E) × List ℕ = ((a ∷ y.0.0.0, y.0.0.1), y.0.1) in
          let whole : bytes ≡ many s t (a ∷ y.0.0.0, y.0.0.1) ++ y.0.1 = k.1 ∙ ap (λ (u : List ℕ). s a ++ u) h.1 ∙ simp append_assoc in
          subst (λ (z : (List A × E) × List ℕ). RunFits F G next st z.0.0 z.0.1 × (bytes ≡ many s t z.0 ++ z.1)) (ok_is made (p, rest) y.2) ((k.0, h.0), whole)
      go (that b) after e1 e2 ih =
          let k = (reads st v).takes bytes (that b) after e1 in
          let made : (List A × E) × List ℕ = (([], b), after) in
          subst (λ (z : (List A × E) × List ℕ). RunFits F G next st z.0.0 z.0.1 × (bytes ≡ many s t z.0 ++ z.1)) (ok_is made (p, rest) e2) (k.0, k.1)

  some_again : (fuel : ℕ) (st : S) → V st → (xs : List A) (b : E) (rest : List ℕ) → length xs < fuel → RunFits F G next st xs b → some_at item next fuel st ((flat_map s xs ++ t b) ++ rest) ≡ Ok ((xs, b), rest)
  unfolding some_at
  some_again zero st v xs b rest lt f = absurd (omega arith)
  some_again (suc fuel) st v [] b rest lt f = rw ((reads st v).again (that b) rest f) refl
  some_again (suc fuel) st v (a ∷ xs) b rest lt f =
      let regrouped : (flat_map s (a ∷ xs) ++ t b) ++ rest ≡ s a ++ ((flat_map s xs ++ t b) ++ rest) = simp append_assoc in
      ap (some_at item next (suc fuel) st) regrouped ∙ rw ((reads st v).again (this a) ((flat_map s xs ++ t b) ++ rest) f.0, some_again fuel (next a) (keeps st a f.0) xs b rest (omega arith) f.1) refl

  many_long : (st : S) (xs : List A) (b : E) → RunFits F G next st xs b → length xs ≤ length (flat_map s xs)
  many_long st [] b f = omega arith
  many_long st (a ∷ xs) b f = let l = some st a f.0 in let m = many_long (next a) xs b f.1 in omega (arith, length-append (s a) (flat_map s xs), l, m)

  abbrev Alive : S → List ℕ → Type 0
  Alive st bytes = ShortOf (λ (p : List A × E). RunFits F G next st p.0 p.1) (many s t) bytes

  -- an item that is begun
  begun : (st : S) → V st → (bytes : List ℕ) (v : Either A E) (more : List ℕ) → OfEither (F st) (G st) v → bytes ++ more ≡ of_either s t v → Alive st bytes
  begun st v bytes (that b) more f e = record { value = ([], b); more = more; fits = f; viable = e }
  begun st v bytes (this a) more f e =
      let last = final (next a) (keeps st a f) in
      record { value = (a ∷ [], last.0); more = more ++ t last.0; fits = (f, last.1); viable = sym (append_assoc bytes more (t last.0)) ∙ ap (λ (u : List ℕ). u ++ t last.0) e ∙ simp append-nil }

  -- an item before what is begun
  behind : (st : S) (bytes after : List ℕ) (a : A) → F st a → bytes ≡ s a ++ after → Alive (next a) after → Alive st bytes
  behind st bytes after a f e h = record { value = (a ∷ h.value.0, h.value.1); more = h.more; fits = (f, h.fits); viable = ap (λ (u : List ℕ). u ++ h.more) e ∙ append_assoc (s a) after h.more ∙ ap (λ (u : List ℕ). s a ++ u) h.viable ∙ sym (append_assoc (s a) (flat_map s h.value.0) (t h.value.1)) }

  some_short : (fuel : ℕ) (st : S) → V st → (bytes : List ℕ) → length bytes < fuel → some_at item next fuel st bytes ≡ Err Short → Alive st bytes
  unfolding some_at
  some_short zero st v bytes lt e = absurd (omega arith)
  some_short (suc fuel) st v bytes lt e =
      elim (bind_err (item st bytes) (λ x. many_with (λ u. some_at item next fuel u x.1) next x.0 x.1) Short e) [
        | inl e1 ↦ let h = (reads st v).short bytes e1 in begun st v bytes h.value h.more h.fits h.viable
        | inr x ↦ go x.0.0 x.0.1 x.1 x.2 (λ u w. some_short fuel u w x.0.1)
      ]
    where
      go : (v0 : Either A E) (after : List ℕ) → item st bytes ≡ Ok (v0, after) → many_with (λ u. some_at item next fuel u after) next v0 after ≡ Err Short
          → ((u : S) → V u → length after < fuel → some_at item next fuel u after ≡ Err Short → Alive u after) → Alive st bytes
      go (this a) after e1 e2 ih =
          let k = (reads st v).takes bytes (this a) after e1 in
          let l = shrinks st v bytes a after e1 in
          elim (bind_err (some_at item next fuel (next a) after) (λ y. Ok ((a ∷ y.0.0, y.0.1), y.1)) Short e2) [
            | inl e3 ↦ behind st bytes after a k.0 k.1 (ih (next a) (keeps st a k.0) (omega (arith, l)) e3)
            | inr y ↦ absurd cc
          ]
      go (that b) after e1 e2 ih = absurd cc

  -- where the items break
  record Broken (st : S) (bytes : List ℕ) : Type 0 where
    front : List ℕ
    byte : ℕ
    back : List ℕ
    parts : bytes ≡ front ++ byte ∷ back
    alive : Alive st front
    dead : (w : List ℕ) (fuel : ℕ) → length (front ++ byte ∷ w) < fuel → some_at item next fuel st (front ++ byte ∷ w) ≡ Err (Bad (suc (length w)))

  some_bad : (fuel : ℕ) (st : S) → V st → (bytes : List ℕ) (n : ℕ) → length bytes < fuel → some_at item next fuel st bytes ≡ Err (Bad n) → Broken st bytes
  unfolding some_at
  some_bad zero st v bytes n lt e = absurd (omega arith)
  some_bad (suc fuel) st v bytes n lt e =
      elim (bind_err (item st bytes) (λ x. many_with (λ u. some_at item next fuel u x.1) next x.0 x.1) (Bad n) e) [
        | inl e1 ↦ at_once ((reads st v).bad bytes n e1)
        | inr x ↦ go x.0.0 x.0.1 x.1 x.2 (λ u w. some_bad fuel u w x.0.1 n)
      ]
    where
      at_once : BadAt (OfEither (F st) (G st)) (of_either s t) (item st) bytes → Broken st bytes
      at_once h = record { front = h.front; byte = h.byte; back = h.back; parts = h.parts; alive = begun st v h.front h.value h.more h.fits h.viable; dead = λ w. elim [ zero ↦ λ l. absurd (omega arith) | suc g ↦ λ l. rw (h.dead w) refl ] }

      step : (a : A) (after : List ℕ) → F st a → bytes ≡ s a ++ after → Broken (next a) after → Broken st bytes
      step a after f e h = record {
        front = s a ++ h.front;
        byte = h.byte;
        back = h.back;
        parts = e ∙ ap (λ (u : List ℕ). s a ++ u) h.parts ∙ sym (append_assoc (s a) h.front (h.byte ∷ h.back));
        alive = behind st (s a ++ h.front) h.front a f refl h.alive;
        dead = λ w. elim [
          | zero ↦ λ l. absurd (omega arith)
          | suc g ↦ λ l.
              let long = some st a f in
              let less : length (h.front ++ h.byte ∷ w) < g = omega (arith, length-append (s a ++ h.front) (h.byte ∷ w), length-append (s a) h.front, length-append h.front (h.byte ∷ w), long, l) in
              ap (some_at item next (suc g) st) (append_assoc (s a) h.front (h.byte ∷ w)) ∙ rw ((reads st v).again (this a) (h.front ++ h.byte ∷ w) f, h.dead w g less) refl
        ];
      }

      go : (v0 : Either A E) (after : List ℕ) → item st bytes ≡ Ok (v0, after) → many_with (λ u. some_at item next fuel u after) next v0 after ≡ Err (Bad n)
          → ((u : S) → V u → length after < fuel → some_at item next fuel u after ≡ Err (Bad n) → Broken u after) → Broken st bytes
      go (this a) after e1 e2 ih =
          let k = (reads st v).takes bytes (this a) after e1 in
          let l = shrinks st v bytes a after e1 in
          elim (bind_err (some_at item next fuel (next a) after) (λ y. Ok ((a ∷ y.0.0, y.0.1), y.1)) (Bad n) e2) [
            | inl e3 ↦ step a after k.0 k.1 (ih (next a) (keeps st a k.0) (omega (arith, l)) e3)
            | inr y ↦ absurd cc
          ]
      go (that b) after e1 e2 ih = absurd cc

  many_law : (st : S) → V st → Reads (λ (p : List A × E). RunFits F G next st p.0 p.1) (many s t) (many_at item next st)
  many_law st v = record {
    takes = λ bytes p rest e. some_takes (suc (length bytes)) st v bytes p rest e;
    again = λ p rest f. some_again (suc (length (many s t p ++ rest))) st v p.0 p.1 rest (let l = many_long st p.0 p.1 f in omega (arith, length-append (many s t p) rest, length-append (flat_map s p.0) (t p.1), l)) f;
    short = λ bytes e. some_short (suc (length bytes)) st v bytes (omega arith) e;
    bad = λ bytes n e. let h = some_bad (suc (length bytes)) st v bytes n (omega arith) e in
        record { front = h.front; byte = h.byte; back = h.back; value = h.alive.value; more = h.alive.more; parts = h.parts; fits = h.alive.fits; viable = h.alive.viable; dead = λ w. h.dead w (suc (length (h.front ++ h.byte ∷ w))) (omega arith) };
  }

  -- ---- the loop of a program

  enough : (f g : ℕ) (st : S) → V st → (bytes : List ℕ) → length bytes < f → length bytes < g → some_at item next f st bytes ≡ some_at item next g st bytes
  unfolding some_at
  enough zero g st v bytes lf lg = absurd (omega arith)
  enough (suc f) zero st v bytes lf lg = absurd (omega arith)
  enough (suc f) (suc g) st v bytes lf lg = go (item st bytes) refl (λ u w after l1 l2. enough f g u w after l1 l2)
    where
      go : (r : Result (Either A E × List ℕ) Fault) → item st bytes ≡ r → ((u : S) → V u → (after : List ℕ) → length after < f → length after < g → some_at item next f u after ≡ some_at item next g u after)
          → (r >>= λ x. many_with (λ u. some_at item next f u x.1) next x.0 x.1) ≡ (r >>= λ x. many_with (λ u. some_at item next g u x.1) next x.0 x.1)
      go (Err d) e ih = refl
      go (Ok (that b, after)) e ih = refl
      go (Ok (this a, after)) e ih =
          let l = shrinks st v bytes a after e in
          let k = (reads st v).takes bytes (this a) after e in
          ap (λ (r : Result ((List A × E) × List ℕ) Fault). r >>= λ y. Ok ((a ∷ y.0.0, y.0.1), y.1)) (ih (next a) (keeps st a k.0) after (omega (arith, l)) (omega (arith, l)))

  fault_law : (st : S) (bytes : List ℕ) (d : Fault) → item st bytes ≡ Err d → many_at item next st bytes ≡ Err d
  unfolding some_at
  fault_law st bytes d e = rw e refl

  end_law : (st : S) (bytes : List ℕ) (b : E) (after : List ℕ) → item st bytes ≡ Ok (that b, after) → many_at item next st bytes ≡ Ok (([], b), after)
  unfolding some_at
  end_law st bytes b after e = rw e refl

  more_law : (st : S) → V st → (bytes : List ℕ) (a : A) (after : List ℕ) → item st bytes ≡ Ok (this a, after) → many_at item next st bytes ≡ (many_at item next (next a) after >>= λ y. Ok ((a ∷ y.0.0, y.0.1), y.1))
  unfolding some_at
  more_law st v bytes a after e =
      let l = shrinks st v bytes a after e in
      let k = (reads st v).takes bytes (this a) after e in
      let one : many_at item next st bytes ≡ (some_at item next (length bytes) (next a) after >>= λ y. Ok ((a ∷ y.0.0, y.0.1), y.1)) = rw e refl in
      one ∙ ap (λ (r : Result ((List A × E) × List ℕ) Fault). r >>= λ y. Ok ((a ∷ y.0.0, y.0.1), y.1)) (enough (length bytes) (suc (length after)) (next a) (keeps st a k.0) after l (omega arith))

pub many_reads : {S A E : Type 0} {V : S → Type 0} {F : S → A → Type 0} {s : A → List ℕ} {G : S → E → Type 0} {t : E → List ℕ} {item : S → Reader (Either A E)} {next : A → S}
    → Repeats V F s G t item next → (st : S) → V st → Reads (λ (p : List A × E). RunFits F G next st p.0 p.1) (many s t) (many_at item next st)
many_reads {S} {A} {E} {V} {F} {s} {G} {t} {item} {next} r st v = many_law S A E V F s G t item next r.reads r.keeps r.some r.final st v

-- ---- a loop that reads the items

-- the items that were read, before those that are still to be read
abbrev pub with_items : {A E : Type 0} → List A → Result ((List A × E) × List ℕ) Fault → Result ((List A × E) × List ℕ) Fault
with_items front r = r >>= λ y. Ok ((front ++ y.0.0, y.0.1), y.1)

pub with_none : {A E : Type 0} (r : Result ((List A × E) × List ℕ) Fault) → with_items [] r ≡ r
with_none (Ok y) = refl
with_none (Err d) = refl

with_one : {A E : Type 0} (front : List A) (a : A) (r : Result ((List A × E) × List ℕ) Fault) → with_items front (r >>= λ y. Ok ((a ∷ y.0.0, y.0.1), y.1)) ≡ with_items (front ++ a ∷ []) r
with_one front a (Ok y) = ap (λ xs. Ok ((xs, y.0.1), y.1)) (sym (append_assoc front (a ∷ []) y.0.0))
with_one front a (Err d) = refl

module _ {S A E : Type 0} {V : S → Type 0} {F : S → A → Type 0} {s : A → List ℕ} {G : S → E → Type 0} {t : E → List ℕ} {item : S → Reader (Either A E)} {next : A → S} (r : Repeats V F s G t item next) (st : S) (v : V st) (rest : List ℕ) where
  -- an item leaves fewer bytes than there were
  pub item_shrinks : (a : A) (after : List ℕ) → item st rest ≡ Ok (this a, after) → length after < length rest
  item_shrinks a after h = shrinks S A E V F s G t item next r.reads r.keeps r.some r.final st v rest a after h

  -- and leads to a valid state
  pub item_keeps : (a : A) (after : List ℕ) → item st rest ≡ Ok (this a, after) → V (next a)
  item_keeps a after h = r.keeps st a ((r.reads st v).takes rest (this a) after h).0

  pub items_fault : (front : List A) (total : Result ((List A × E) × List ℕ) Fault) → with_items front (many_at item next st rest) ≡ total → (e : Stop) → Fails e (item st rest) → Fails e total
  items_fault front total so_far stops.Memory h = tt
  items_fault front total so_far (stops.Fault d) h =
      let one : many_at item next st rest ≡ Err d = fault_law S A E V F s G t item next r.reads r.keeps r.some r.final st rest d h in
      sym so_far ∙ ap (with_items front) one

  pub items_end : (front : List A) (total : Result ((List A × E) × List ℕ) Fault) → with_items front (many_at item next st rest) ≡ total → (e : E) (after : List ℕ) → item st rest ≡ Ok (that e, after) → total ≡ Ok ((front, e), after)
  items_end front total so_far e after h =
      let one : many_at item next st rest ≡ Ok (([], e), after) = end_law S A E V F s G t item next r.reads r.keeps r.some r.final st rest e after h in
      sym so_far ∙ ap (with_items front) one ∙ ap (λ (xs : List A). Ok ((xs, e), after)) (append-nil front)

  pub items_more : (front : List A) (total : Result ((List A × E) × List ℕ) Fault) → with_items front (many_at item next st rest) ≡ total → (a : A) (after : List ℕ) → item st rest ≡ Ok (this a, after) → with_items (front ++ a ∷ []) (many_at item next (next a) after) ≡ total
  items_more front total so_far a after h =
      let one : many_at item next st rest ≡ (many_at item next (next a) after >>= λ y. Ok ((a ∷ y.0.0, y.0.1), y.1)) = more_law S A E V F s G t item next r.reads r.keeps r.some r.final st v rest a after h in
      sym (with_one front a (many_at item next (next a) after)) ∙ sym (ap (with_items front) one) ∙ so_far

-- ---- items that fit whatever is before them

abbrev pub Always : {X : Type 0} → X → Type 0
Always st = Unit {0}

pub each_fits : {A E : Type 0} (F : A → Type 0) (G : E → Type 0) (xs : List A) (e : E) → RunFits {S = Unit {0}} (λ _. F) (λ _. G) (λ _. tt) tt xs e → AllByRecursion F xs × G e
each_fits F G [] e f = (tt, f)
each_fits F G (x ∷ xs) e f = let h = each_fits F G xs e f.1 in ((f.0, h.0), h.1)

pub run_fits : {A E : Type 0} (F : A → Type 0) (G : E → Type 0) (xs : List A) (e : E) → AllByRecursion F xs → G e → RunFits {S = Unit {0}} (λ _. F) (λ _. G) (λ _. tt) tt xs e
run_fits F G [] e f g = g
run_fits F G (x ∷ xs) e f g = (f.0, run_fits F G xs e f.1 g)
