-- One step of reading a word, or digits.
use Rattle.std.proofs.Common.{◌≡◌, ◌≢◌, ℕ, suc, ◌+◌, ◌-◌, ◌*◌, ◌<◌, ◌≤◌, true, false, get_or, List, length, drop, Ok, Err, refl, arith, length-drop}
use Rattle.std.proofs.lemmas.Bool.{ne_eqb}
use Rattle.std.proofs.lemmas.List.{drop_more, drop_all}
use Rattle.text_lines.specs.declared.fault.Fault.TheVariants.{Short, Bad}
use Rattle.text_lines.specs.Reading.{word_at, digits_at, grows}
use Rattle.text_lines.proofs.Basics.{same_eqb}

pub word_more : (ws bs : List ℕ) (i : ℕ) → i < length ws → i < length bs → get_or bs i 0 ≡ get_or ws i 0 → word_at (drop (i + 1) ws) (drop (i + 1) bs) ≡ word_at (drop i ws) (drop i bs)
unfolding word_at
word_more ws bs i l m e = rw (drop_more ws i 0 l, drop_more bs i 0 m, e, same_eqb (get_or ws i 0)) refl

pub word_other : (ws bs : List ℕ) (i : ℕ) → i < length ws → i < length bs → get_or bs i 0 ≢ get_or ws i 0 → word_at (drop i ws) (drop i bs) ≡ Err (Bad (length bs - i))
unfolding word_at
word_other ws bs i l m e =
    let n : suc (length (drop (i + 1) bs)) ≡ length bs - i = omega (arith, length-drop (i + 1) bs) in
    rw (drop_more ws i 0 l, drop_more bs i 0 m, ne_eqb _ _ e, n) refl

pub word_short : (ws bs : List ℕ) (i : ℕ) → i < length ws → length bs ≤ i → word_at (drop i ws) (drop i bs) ≡ Err Short
unfolding word_at
word_short ws bs i l m = rw (drop_more ws i 0 l, drop_all i bs m) refl

pub word_done : (ws bs : List ℕ) (i : ℕ) → length ws ≤ i → word_at (drop i ws) (drop i bs) ≡ Ok (drop i bs)
unfolding word_at
word_done ws bs i l = rw (drop_all i ws l) refl

pub digits_end : (limit stop v : ℕ) (bs : List ℕ) (i : ℕ) → i < length bs → get_or bs i 0 ≡ stop → digits_at limit stop v (drop i bs) ≡ Ok (v, drop (i + 1) bs)
unfolding digits_at
digits_end limit stop v bs i l e = rw (drop_more bs i 0 l, e, same_eqb stop) refl

pub digits_more : (limit stop v : ℕ) (bs : List ℕ) (i : ℕ) → i < length bs → get_or bs i 0 ≢ stop → grows limit v (get_or bs i 0) ≡ true → digits_at limit stop (v * 10 + (get_or bs i 0 - 48)) (drop (i + 1) bs) ≡ digits_at limit stop v (drop i bs)
unfolding digits_at
digits_more limit stop v bs i l e g = rw (drop_more bs i 0 l, ne_eqb _ _ e, g) refl

pub digits_other : (limit stop v : ℕ) (bs : List ℕ) (i : ℕ) → i < length bs → get_or bs i 0 ≢ stop → grows limit v (get_or bs i 0) ≡ false → digits_at limit stop v (drop i bs) ≡ Err (Bad (length bs - i))
unfolding digits_at
digits_other limit stop v bs i l e g =
    let n : suc (length (drop (i + 1) bs)) ≡ length bs - i = omega (arith, length-drop (i + 1) bs) in
    rw (drop_more bs i 0 l, ne_eqb _ _ e, g, n) refl

pub digits_short : (limit stop v : ℕ) (bs : List ℕ) (i : ℕ) → length bs ≤ i → digits_at limit stop v (drop i bs) ≡ Err Short
unfolding digits_at
digits_short limit stop v bs i l = rw (drop_all i bs l) refl
