use Rattle.segment_files.proofs.Choosing.{clash}
use Rattle.segment_files.proofs.links.test.Goals as goal

pub returns-then-not-is_next : goal.returns-then-not-is_next
returns-then-not-is_next c = λ bytes n. clash c.is_next.result c.if-not-is_next.true ((c.is_next.ensures bytes).1 n)

pub returns-then-not-is_behind : goal.returns-then-not-is_behind
returns-then-not-is_behind c = λ bytes. ((c.is_next.ensures bytes).0 c.if-not-is_next.false, λ b. clash c.is_behind.result c.if-not-is_behind.true (c.is_behind.ensures.1 b.1))

pub returns-then-not-has_bases : goal.returns-then-not-has_bases
returns-then-not-has_bases c = λ bytes. (
  ((c.is_next.ensures bytes).0 c.if-not-is_next.false, c.is_behind.ensures.0 c.if-not-is_behind.false),
  λ b. clash c.has_bases.result c.if-not-has_bases.true ((c.has_bases.ensures bytes).1 b.1),
)

pub returns-then-not-are_starts : goal.returns-then-not-are_starts
returns-then-not-are_starts c =
    let starts = rw (c.deref.ensures.value, c.deref-2.ensures.value) at c.are_starts.ensures in
    λ bytes. (
      (((c.is_next.ensures bytes).0 c.if-not-is_next.false, c.is_behind.ensures.0 c.if-not-is_behind.false), (c.has_bases.ensures bytes).0 c.if-not-has_bases.false),
      λ s. clash c.are_starts.result c.if-not-are_starts.true (starts.1 s.1),
    )

pub returns-then-not-are_short : goal.returns-then-not-are_short
returns-then-not-are_short c =
    let starts = rw (c.deref.ensures.value, c.deref-2.ensures.value) at c.are_starts.ensures in
    let short = rw c.deref-3.ensures.value at c.are_short.ensures in
    λ bytes. (
      ((((c.is_next.ensures bytes).0 c.if-not-is_next.false, c.is_behind.ensures.0 c.if-not-is_behind.false), (c.has_bases.ensures bytes).0 c.if-not-has_bases.false), starts.0 c.if-not-are_starts.false),
      λ s. clash c.are_short.result c.if-not-are_short.true (short.1 s),
    )

pub returns : goal.returns
returns c =
    let starts = rw (c.deref.ensures.value, c.deref-2.ensures.value) at c.are_starts.ensures in
    let short = rw c.deref-3.ensures.value at c.are_short.ensures in
    λ bytes. (
      ((((c.is_next.ensures bytes).0 c.if-not-is_next.false, c.is_behind.ensures.0 c.if-not-is_behind.false), (c.has_bases.ensures bytes).0 c.if-not-has_bases.false), starts.0 c.if-not-are_starts.false),
      short.0 c.if-not-are_short.false,
    )
