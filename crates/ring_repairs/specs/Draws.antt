-- Numbers that are drawn from the words of a generator (this project's own way).
use Rattle.std.specs.Prelude.{ℕ, zero, suc, ◌+◌, ◌-◌, ◌%◌, ◌^◌, Bool, nat_le, cond}
use Rattle.rand_pcg.specs.Lcg.{Lcg, started, increment_of}
use Rattle.rand_pcg.specs.Pcg.{multiplier_64, pcg32}

-- the next word of a generator, and the generator after it (PCG32, by O'Neill)
unfoldable pub word : Lcg → ℕ × Lcg
word g = pcg32 g

-- words come in blocks of m, one for each rest modulo m; the word w is fair if its block is whole,
-- so that among the fair words each rest is as frequent as each other
abbrev pub is_fair : ℕ → ℕ → Bool
is_fair m w = nat_le (w - w % m + m) (2 ^ 32)

-- a number below m, and the generator after it: the first fair word modulo m, where at most `more`
-- words that are not fair are passed over
unfoldable pub draw_within : ℕ → ℕ → Lcg → ℕ × Lcg
draw_within zero m g = ((word g).0 % m, (word g).1)
draw_within (suc more) m g =
    cond (is_fair m (word g).0) ((word g).0 % m, (word g).1) (draw_within more m (word g).1)

-- how many words are passed over at most for one number: more than a few are as good as never met
abbrev pub redraw_limit : ℕ
redraw_limit = 63

-- a number below m, each as likely as each other, and the generator after it
unfoldable pub draw : ℕ → Lcg → ℕ × Lcg
draw m g = draw_within redraw_limit m g

-- the generator of trial t: the seed as the state of PCG32, and t as its stream
unfoldable pub generator : ℕ → ℕ → Lcg
generator seed t = started 64 multiplier_64 seed (increment_of 64 t)
