use Rattle.std.proofs.Common.{◌≡◌, ℕ, ◌+◌, ◌*◌, ◌/◌, ◌%◌, ◌^◌, true, get_or, refl, ◌∙◌, arith}
use Rattle.std.specs.Int.{w64, trailing_zeros}
use Rattle.machine_masks.specs.Members.{is_in}
use Rattle.machine_masks.proofs.Sets.{AreOut, rest_found, rest_none, word_found, next_found, next_none}
use Rattle.machine_masks.proofs.searches.first_from.Goals as goal

pub returns-then-rest-ne0 : goal.returns-then-rest-ne0
returns-then-rest-ne0 c =
    let ws = c.args.words.now in
    let from = c.args.from in
    let rest : ℕ = get_or ws (from / 64) 0 / 2 ^ (from % 64) in
    let t : ℕ = trailing_zeros w64 rest in
    let is : (is_in ws (from + t) ≡ true) × AreOut ws from (from + t) = rest_found ws from rest t (from + t) (c.fits-words (from / 64)) refl c.if-rest-ne0.true refl refl in
    c.min.ensures ∙ next_found ws from c.args.end (from + t) (omega arith) (omega arith) is.0 is.1

pub loop-w-init : goal.loop-w-init
loop-w-init c =
    let ws = c.args.words.now in
    let from = c.args.from in
    rest_none ws from (get_or ws (from / 64) 0 / 2 ^ (from % 64)) (64 * (from / 64 + 1)) refl (omega arith) refl

pub returns-then-word-ne0 : goal.returns-then-word-ne0
returns-then-word-ne0 c =
    let ws = c.args.words.now in
    let from = c.args.from in
    let w = c.loop-w.w in
    let word : ℕ = get_or ws w 0 in
    let t : ℕ = trailing_zeros w64 word in
    let is : (is_in ws (w * 64 + t) ≡ true) × AreOut ws from (w * 64 + t) = word_found ws w from word t (w * 64 + t) refl (c.fits-words w) c.if-word-ne0.true refl refl c.loop-w.invariant in
    let l = c.loop-w.auto.w in
    c.min-then-word-ne0.ensures ∙ next_found ws from c.args.end (w * 64 + t) (omega arith) (omega arith) is.0 is.1

pub returns : goal.returns
returns c =
    next_none c.args.words.now c.args.from c.args.end (omega arith) (λ i li le. c.loop-w.invariant i li (omega arith))
