-- What is kept of a folder's last segment starts the next run: the head of its file is the one that was written.
use Rattle.std.proofs.Common.{◌≡◌, ℕ, suc, ◌+◌, Bool, true, false, List, [], ◌∷◌, ◌++◌, map, length, Option, Some, None, refl, sym, ◌∙◌, ap, subst, inl, inr, arith, slice_get, ◌<◌, ◌^◌, append_assoc, take, eqb, zero, drop, ◌≤◌, Ok, ◌%◌, ◌⊎◌, replicate}
use Rattle.std.specs.Prelude.{◌-◌, ◌||◌, codes}
use Rattle.std.specs.List.{AllByRecursion}
use Rattle.std.specs.Fmt.{decimal}
use Rattle.std.proofs.lemmas.Bool.{ne_eqb}
use Rattle.std.proofs.lemmas.Fmt.{decimal_by_steps}
use Rattle.std.proofs.lemmas.List.{append-nil, length-map, length-take-le, take-append-drop}
use Rattle.std.proofs.lemmas.Option.{slice_get_past}
use Rattle.std.proofs.lemmas.List.Folds.{list_any-append}
use Rattle.text_lines.proofs.Basics.{ok_is}
use Rattle.disks.specs.Held.{Held, bytes_of, is_there, Thing, Nothing, Folder, File, file_bytes, is_a_thing}
use Rattle.disks.specs.Folders.{has_slash, names_of, ListsNames}
use Rattle.disks.specs.declared.disk.FolderEntry.{FolderEntry}
use Rattle.line_service.specs.SegmentNames.{segment_file, IsNumber, padded, segment_name}
use Rattle.line_service.specs.SegmentNumbers.{has_segment, IsRightNumbers}
use Rattle.line_service.specs.declared.segment_numbers.SegmentNumbers.{SegmentNumbers}
use Rattle.saved_history.specs.declared.saved.SavedRing.{SavedRing}
use Rattle.saved_history.specs.Content.{Block, block_of}
use Rattle.journal.specs.Spelling.{Journal, journal_text}
use Rattle.journal.specs.Prefixes.{IsRightJournal}
use Rattle.ring_model.specs.declared.bases.Base.{Base}
use Rattle.segment_files.specs.Spelling.{Head, head_text, head_of}
use Rattle.segment_files.specs.Remarks.{without_remarks}
use Rattle.segment_files.specs.Reading.{head_at}
use Rattle.segment_files.specs.RemarkLaws.{AreLines}
use Rattle.segment_files.specs.declared.last.LastSegment.{LastSegment}
use Rattle.segment_files.specs.Last.{IsRightLast}
use Rattle.segment_files.proofs.HeadLaws.{head_reads}
use Rattle.segment_files.specs.Torn.{IsTorn, IsRightEnd}
use Rattle.segment_files.proofs.TornStaying.{one_rest, told_stay}
use Rattle.endless_ring.specs.Endless.{EndlessView}
use Rattle.ring_service.specs.Segments.{bases_of}
use Rattle.ring_service.specs.Recovered.{IsPrefix}
use Rattle.ring_model.specs.declared.events.Event.{Event}
use Rattle.ring_model.specs.Bases.{shifted}
use Rattle.held_locks.specs.Locks.{Call}
use Rattle.held_locks.specs.Promises.{open_after}
use Rattle.held_locks.specs.Opened.{open_in, holder_after, ended_before}
use Rattle.held_locks.specs.Kept.{LockView, IsKeptRing}
use Rattle.folder_of_locks.specs.Holders.{AreHandedBy}
use Rattle.folder_of_locks.specs.Lists.{Listed}
use Rattle.folder_of_locks.specs.Rings.{AreBegun, IsRingOf}
use Rattle.folder_of_locks.specs.Folders.{Found, StandsAt}
use Rattle.lock_journal.proofs.Following.{some_is, also_there}
use Rattle.lock_journal.proofs.Segments.{added_locks_begin}
use Rattle.lock_journal.specs.Recovered.{AreMadeOf}
use Rattle.lock_journal.specs.Segments.{rings_of}
use Rattle.lock_life.proofs.Started.{bases_many, started_locks_are_found}
use Rattle.lock_life.specs.Life.{AreFound}
use Rattle.lock_life.specs.Started.{IsNew, head_with, IsKeptLast, IsTornAfter, KeptSegmentsStart, FoundLocksBegin}

-- ---- a segment's name has no slash

neither : (a b : Bool) → a ≡ false → b ≡ false → (a || b) ≡ false
neither true b e f = absurd cc
neither false b e f = f

no_slash_append : (xs ys : List ℕ) → has_slash xs ≡ false → has_slash ys ≡ false → has_slash (xs ++ ys) ≡ false
no_slash_append xs ys e f = list_any-append (λ b. eqb b 47) xs ys ∙ neither (has_slash xs) (has_slash ys) e f

digit : (n : ℕ) → has_slash ((48 + n) ∷ []) ≡ false
digit n = neither (eqb (48 + n) 47) false (ne_eqb (48 + n) 47 (λ e. omega (arith, e))) refl

no_slash_number : (n : ℕ) → n < 2 ^ 64 → has_slash (decimal n) ≡ false
no_slash_number n small = decimal_by_steps (λ m ds. has_slash ds ≡ false) (λ m lt. digit m) (λ m ds ge k. no_slash_append ds ((48 + m % 10) ∷ []) k (digit (m % 10))) n small

no_slash_zeros : (n : ℕ) → has_slash (replicate n 48) ≡ false
no_slash_zeros zero = refl
no_slash_zeros (suc n) = no_slash_zeros n

no_slash : (n : ℕ) → n < 2 ^ 64 → has_slash (segment_name n) ≡ false
no_slash n small = no_slash_append (padded n) (codes ".ring") (no_slash_append (replicate (10 - length (decimal n)) 48) (decimal n) (no_slash_zeros (10 - length (decimal n))) (no_slash_number n small)) refl

-- ---- the last segment

-- a file that is read, as it is or without a torn end
record IsReadAs (bytes : List ℕ) (s : LastSegment) : Type 0 where
  pub front : List ℕ
  pub left_out : List ℕ
  pub parts : bytes ≡ front ++ left_out
  pub right : IsRightLast front (Ok s)
  pub end : (left_out ≡ []) ⊎ ((t : IsTorn bytes s) × (t.front ≡ front))

read_as : (bytes : List ℕ) (s : LastSegment) → IsRightEnd bytes (Ok s) → IsReadAs bytes s
read_as bytes s (inl r) = record { front = bytes; left_out = []; parts = sym (append-nil bytes); right = r; end = inl refl }
read_as bytes s (inr t) = record { front = t.front; left_out = t.left_out; parts = t.bad.spelled; right = t.right; end = inr (t, refl) }

a_thing : (t : Thing) (bytes : List ℕ) → file_bytes t ≡ Some bytes → is_a_thing t ≡ true
a_thing Nothing bytes e = absurd cc
a_thing Folder bytes e = absurd cc
a_thing (File b) bytes e = refl

-- ---- the locks that were there, and new ones after them

nothing_got : {X : Type 0} (x : X) → ◌≡◌ {A = Option X} None (Some x) → ⊥
nothing_got x e = cc

get_take : {X : Type 0} (xs : List X) (n i : ℕ) (x : X) → slice_get (take n xs) i ≡ Some x → slice_get xs i ≡ Some x
get_take xs zero i x e = absurd (nothing_got x e)
get_take [] (suc n) i x e = e
get_take (y ∷ xs) (suc n) zero x e = e
get_take (y ∷ xs) (suc n) (suc i) x e = get_take xs n i x e

all_there : (vs : List LockView) (Such : LockView → Type 0) → ((i : ℕ) (v : LockView) → slice_get vs i ≡ Some v → Such v) → AllByRecursion Such vs
all_there [] Such f = tt
all_there (v ∷ vs) Such f = (f zero v refl, all_there vs Such (λ i w e. f (suc i) w e))

all_behind : (vs : List LockView) (n : ℕ) (Such : LockView → Type 0) → ((i : ℕ) (v : LockView) → n ≤ i → slice_get vs i ≡ Some v → Such v) → AllByRecursion Such (drop n vs)
all_behind vs zero Such f = all_there vs Such (λ i v e. f i v (omega arith) e)
all_behind [] (suc n) Such f = tt
all_behind (v ∷ vs) (suc n) Such f = all_behind vs n Such (λ i w le e. f (suc i) w (omega (arith, le)) e)

begun_take : (n : ℕ) (bs : List Base) (ss : List SavedRing) (ls : List Listed) (vs : List LockView) → length ss ≡ n → AreBegun bs ss ls vs → AreBegun bs ss (take n ls) (take n vs)
begun_take n bs ss ls vs size b =
    let rings = b.rings in
    let many = b.many in
    let one : length (take n ls) ≡ n = length-take-le n ls (omega (arith, rings, size)) in
    let two : length (take n vs) ≡ n = length-take-le n vs (omega (arith, rings, size, many)) in
    record { rings = omega (arith, size, one); many = two ∙ sym one; each = λ i l v p q. b.each i l v (get_take ls n i l p) (get_take vs n i v q) }

none_left : (m : ℕ) → ◌≡◌ {A = List Event} (drop m []) []
none_left zero = refl
none_left (suc m) = refl

-- a ring without history shows no hold
none_open : (e : EndlessView) → e.ring.book.history ≡ [] → open_in e ≡ None
none_open e none =
    ap (λ (h : List Event). open_after None (map Call (drop (ended_before e) (shifted e.base h)))) none
    ∙ ap (λ (es : List Event). open_after None (map Call es)) (none_left (ended_before e))

new_behind : (bs : List Base) (ss : List SavedRing) (ls : List Listed) (vs : List LockView) (n : ℕ) → length bs ≡ n → length ss ≡ n → AreBegun bs ss ls vs → AllByRecursion IsNew (drop n vs)
new_behind bs ss ls vs n size rings b = all_behind vs n IsNew is_new
  where
    is_new : (i : ℕ) (v : LockView) → n ≤ i → slice_get vs i ≡ Some v → IsNew v
    is_new i v le at =
        let l = also_there vs ls i v b.many at in
        let k = b.each i l.0 v l.1 at in
        let no_base : slice_get bs i ≡ None = slice_get_past bs i (omega (arith, size, le)) in
        let no_ring : slice_get ss i ≡ None = slice_get_past ss i (omega (arith, rings, le)) in
        let fresh : IsRingOf None None l.0 k.0 = subst (λ (o : Option Base). IsRingOf o None l.0 k.0) no_base (subst (λ (o : Option SavedRing). IsRingOf (slice_get bs i) o l.0 k.0) no_ring k.1) in
        (k.2.queue, k.2.holder ∙ ap (λ (t : Option ℕ). holder_after t) (none_open k.0 fresh.history))

-- locks start there, before a hold is handed over
record IsThere (number : ℕ) (behind : List ℕ) (start : List LockView) (kept : List ℕ) (p : Found) : Type 0 where
  pub number_is : p.number ≡ number
  pub behind_is : p.behind ≡ behind
  pub locks : List LockView
  pub added : List LockView
  pub front : List ℕ
  pub left_out : List ℕ
  pub parts : kept ≡ front ++ left_out
  pub end : (left_out ≡ []) ⊎ IsTornAfter number behind start kept front
  pub stays : (j : Journal) (told more : List ℕ) → IsRightJournal j → AreLines told
      → without_remarks told ≡ journal_text j → kept ≡ told ++ more → IsPrefix told front
  pub all : p.locks ≡ locks ++ added
  pub found : AreFound start (without_remarks front) locks
  pub new : AllByRecursion IsNew added

module _ (held : Held) (folder : List ℕ) (number : ℕ) (behind : List ℕ) (start : List LockView) (kept : List ℕ) (k : IsKeptLast held folder number behind start kept) where
  is_number : IsNumber number
  is_number = (k.fits.first, k.fits.number)

  seen : (names : List (List ℕ)) → ListsNames held folder names → (n : ℕ) → IsNumber n → has_segment names n ≡ is_there held (segment_file folder n)
  seen names l n is = l.each (segment_name n) (no_slash n is.1)

  has_it : (names : List (List ℕ)) → ListsNames held folder names → has_segment names number ≡ true
  has_it names l = seen names l number is_number ∙ a_thing (held.at (held.place (segment_file folder number))) (head_text (head_with number behind start) ++ kept) k.file

  -- the end of the file, and what it keeps
  module _ (s : LastSegment) (bytes front left_out rest : List ℕ) (text : bytes ≡ head_text (head_with number behind start) ++ kept) where
    torn_there : front ≡ head_text (head_with number behind start) ++ rest → (t : IsTorn bytes s) × (t.front ≡ front) → IsTornAfter number behind start kept rest
    torn_there is e =
        let t = subst (λ (u : List ℕ). (t : IsTorn u s) × (t.front ≡ front)) text e in
        (s, t.0, t.1 ∙ is)

    torn_after : front ≡ head_text (head_with number behind start) ++ rest → (left_out ≡ []) ⊎ ((t : IsTorn bytes s) × (t.front ≡ front)) → (left_out ≡ []) ⊎ IsTornAfter number behind start kept rest
    torn_after is (inl e) = inl e
    torn_after is (inr e) = inr (torn_there is e)

    told_stays : rest ++ left_out ≡ kept → front ≡ head_text (head_with number behind start) ++ rest → (left_out ≡ []) ⊎ ((t : IsTorn bytes s) × (t.front ≡ front)) → (j : Journal) (told more : List ℕ) → IsRightJournal j → AreLines told →
        without_remarks told ≡ journal_text j → kept ≡ told ++ more → IsPrefix told rest
    told_stays parts is (inl e) j told more right lines journal keeps =
        (more, sym (append-nil rest) ∙ (ap (λ (u : List ℕ). rest ++ u) (sym e) ∙ (parts ∙ keeps)))
    told_stays parts is (inr e) j told more right lines journal keeps =
        let h : Head = head_with number behind start in
        let t = subst (λ (u : List ℕ). (t : IsTorn u s) × (t.front ≡ front)) (text ∙ ap (λ (u : List ℕ). head_text h ++ u) keeps) e in
        let m = told_stay h j told more s k.fits right lines journal t.0 in
        (m.0, one_rest h h rest (told ++ m.0) k.fits k.fits (sym is ∙ (sym t.1 ∙ (m.1 ∙ append_assoc (head_text h) told m.0))))

  starts_there : (entries : List FolderEntry) → ListsNames held folder (names_of entries) → (range : Option SegmentNumbers) → IsRightNumbers entries (Ok range) → (locks : List Listed) (p : Found) → StandsAt (Some held) folder range locks p →
      IsThere number behind start kept p
  starts_there entries l None right locks p s = absurd (none (sym (has_it (names_of entries) l) ∙ right.1 number is_number))
    where
      none : true ≡ false → ⊥
      none e = cc
  starts_there entries l (Some r) right locks p s =
      let from = right.1 in
      let inside = from.only number is_number (has_it (names_of entries) l) in
      let up : number ≤ r.last = inside.1 in
      let there : is_there held (segment_file folder r.last) ≡ true = sym (seen (names_of entries) l r.last from.bounds.1) ∙ from.there r.last from.up (omega arith) in
      let down : r.last ≤ number = k.last r.last from.bounds.1 there in
      let same : r.last ≡ number = omega (arith, up, down) in
      let h : Head = head_with number behind start in
      let read : Head = head_of s.segment.head in
      let r = read_as s.last.bytes s.segment s.last.right in
      let f = r.right.file in
      let text : s.last.bytes ≡ head_text h ++ kept = some_is s.last.bytes (head_text h ++ kept) (sym s.last.held ∙ (ap (λ (n : ℕ). bytes_of held (segment_file folder n)) same ∙ k.file)) in
      let one : Head × List ℕ = (read, f.rest ++ r.left_out) in
      let other : Head × List ℕ = (h, kept) in
      let all : head_text read ++ (f.rest ++ r.left_out) ≡ head_text h ++ kept =
      sym (append_assoc (head_text read) f.rest r.left_out) ∙ (ap (λ (u : List ℕ). u ++ r.left_out) (sym f.spelled) ∙ (sym r.parts ∙ text)) in
      let both : one ≡ other = ok_is one other (sym (head_reads.again read (f.rest ++ r.left_out) f.fits) ∙ (ap head_at all ∙ head_reads.again h kept k.fits)) in
      let heads : read ≡ h = ap (λ (z : Head × List ℕ). z.0) both in
      let rest : f.rest ++ r.left_out ≡ kept = ap (λ (z : Head × List ℕ). z.1) both in
      let bases : s.segment.head.bases.items ≡ bases_of (rings_of start) = ap (λ (z : Head). z.bases) heads in
      let rings : List SavedRing = s.segment.saved.rings.items in
      let as_many : length s.segment.head.bases.items ≡ length (map block_of rings) = r.right.bases.rings in
      let written : length s.segment.head.bases.items ≡ length start = ap (λ (bs : List Base). length bs) bases ∙ bases_many start in
      let saved : length (map block_of rings) ≡ length rings = length-map rings block_of in
      let n : ℕ = length start in
      let size : length rings ≡ n = omega (arith, as_many, written, saved) in
      let begun : AreBegun (bases_of (rings_of start)) rings locks p.locks = subst (λ (bs : List Base). AreBegun bs rings locks p.locks) bases s.begun in
      let fewer : length rings ≤ length locks = s.begun.rings in
      let taken : length (take n locks) ≡ n = length-take-le n locks (omega (arith, size, fewer)) in record {
        number_is = s.number ∙ same;
        behind_is = s.behind ∙ ap (λ (z : Head). z.behind) heads;
        front = f.rest;
        left_out = r.left_out;
        parts = sym rest;
        end = torn_after s.segment s.last.bytes r.front r.left_out f.rest text (f.spelled ∙ ap (λ (z : Head). head_text z ++ f.rest) heads) r.end;
        stays = told_stays s.segment s.last.bytes r.front r.left_out f.rest text rest (f.spelled ∙ ap (λ (z : Head). head_text z ++ f.rest) heads) r.end;
        locks = take n p.locks;
        added = drop n p.locks;
        all = sym (take-append-drop n p.locks);
        found = started_locks_are_found start (take n p.locks) (without_remarks f.rest) s.segment.saved (take n locks)
            f.recovered
            (begun_take n (bases_of (rings_of start)) rings locks p.locks size begun)
            (taken ∙ sym size)
            taken;
        new = new_behind (bases_of (rings_of start)) rings locks p.locks n (bases_many start) size begun;
      }

pub kept_segments_start : KeptSegmentsStart
kept_segments_start held folder number behind start kept word holders after p k started =
    let stands = started.started.stands in
    let t = starts_there held folder number behind start kept k started.entries started.listed.1 started.range started.right started.started.locks stands.found stands.stands in record {
      number_is = stands.number ∙ t.number_is;
      behind_is = stands.behind ∙ t.behind_is;
      front = t.front;
      left_out = t.left_out;
      parts = t.parts;
      end = t.end;
      stays = t.stays;
      locks = t.locks;
      added = t.added;
      found = t.found;
      new = t.new;
      handed = subst (λ (vs : List LockView). AreHandedBy p.names vs holders p.locks) t.all stands.handed;
    }

-- ---- locks that are found

all_kept : (bases : List Base) (blocks : List Block) (rings : List EndlessView) → AreMadeOf bases blocks rings → AllByRecursion IsKeptRing rings
all_kept bases [] rings m = subst (λ (es : List EndlessView). AllByRecursion IsKeptRing es) (sym m) tt
all_kept bases (b ∷ bs) [] m = absurd m
all_kept [] (b ∷ bs) (e ∷ es) m = absurd m
all_kept (base ∷ bases) (b ∷ bs) (e ∷ es) m = (m.0.kept, all_kept bases bs es m.1)

pub found_locks_begin : FoundLocksBegin
found_locks_begin start found journal entries f kept fits = record {
  entries = entries;
  kept = kept;
  each = added_locks_begin f.rings found (all_kept (bases_of (rings_of start)) f.history.rings f.rings f.made) f.added;
  text = fits;
}
