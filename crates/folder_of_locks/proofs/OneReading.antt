-- Two readings of the same bytes are one.
use Rattle.std.proofs.Common.{◌≡◌, ℕ, ◌+◌, List, [], ◌∷◌, ◌++◌, length, append_assoc, refl, sym, ◌∙◌, ap}
use Rattle.std.specs.List.{AllByRecursion}
use Rattle.std.proofs.lemmas.List.{append-nil}
use Rattle.text_lines.proofs.Basics.{ok_is}
use Rattle.folder_of_locks.specs.Holders.{Hold, hold_line, FitsLine, lines_of, HasNoHold, OneText, NoBadLine, OneBadLine}
use Rattle.folder_of_locks.specs.HolderSteps.{hold_at}
use Rattle.folder_of_locks.proofs.Lines.{hold_again}

same_first : (h g : Hold) (x y : List ℕ) → FitsLine h → FitsLine g → hold_line h ++ x ≡ hold_line g ++ y → (h ≡ g) × (x ≡ y)
same_first h g x y f k e =
    let both : ◌≡◌ {A = Hold × List ℕ} (h, x) (g, y) = ok_is (h, x) (g, y) (sym (hold_again h x f) ∙ ap hold_at e ∙ hold_again g y k) in
    (ap (λ (z : Hold × List ℕ). z.0) both, ap (λ (z : Hold × List ℕ). z.1) both)

one_reading : (hs gs : List Hold) (r s : List ℕ) → AllByRecursion FitsLine hs → AllByRecursion FitsLine gs → HasNoHold r → HasNoHold s → lines_of hs ++ r ≡ lines_of gs ++ s → (hs ≡ gs) × (r ≡ s)
one_reading [] [] r s f k nr ns e = (refl, e)
one_reading [] (g ∷ gs) r s f k nr ns e = absurd (nr g (lines_of gs ++ s) k.0 (e ∙ append_assoc (hold_line g) (lines_of gs) s))
one_reading (h ∷ hs) [] r s f k nr ns e = absurd (ns h (lines_of hs ++ r) f.0 (sym e ∙ append_assoc (hold_line h) (lines_of hs) r))
one_reading (h ∷ hs) (g ∷ gs) r s f k nr ns e =
    let first = same_first h g (lines_of hs ++ r) (lines_of gs ++ s) f.0 k.0 (sym (append_assoc (hold_line h) (lines_of hs) r) ∙ e ∙ append_assoc (hold_line g) (lines_of gs) s) in
    let others = one_reading hs gs r s f.1 k.1 nr ns first.1 in
    ((λ i. first.0 i ∷ others.0 i), others.1)

nothing_holds : HasNoHold []
nothing_holds h more fits e = cc

pub one_text : OneText
one_text bytes hs gs a b =
    (one_reading hs gs [] [] a.each b.each nothing_holds nothing_holds (append-nil (lines_of hs) ∙ sym a.lines ∙ b.lines ∙ sym (append-nil (lines_of gs)))).0

pub no_bad_line : NoBadLine
no_bad_line bytes hs line a b = b.some (sym (one_reading hs b.before [] b.rest a.each b.each nothing_holds b.none (append-nil (lines_of hs) ∙ sym a.lines ∙ b.lines)).1)

pub one_bad_line : OneBadLine
one_bad_line bytes line other a b =
    let same = one_reading a.before b.before a.rest b.rest a.each b.each a.none b.none (sym a.lines ∙ b.lines) in
    a.many ∙ ap (λ (x : List Hold). length x + 1) same.0 ∙ sym b.many
