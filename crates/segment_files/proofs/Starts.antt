-- A recovered history has its starts, as the text that it was read from.
use Rattle.std.proofs.Common.{◌≡◌, ℕ, zero, suc, List, [], ◌∷◌, length, map, sym, subst}
use Rattle.std.specs.List.{AllByRecursion}
use Rattle.std.proofs.lemmas.List.Elements.{All-from_recursion}
use Rattle.saved_history.specs.Content.{Block, Content}
use Rattle.saved_history.specs.Spelling.{BlockFits}
use Rattle.ring_check.specs.Meaning.{HasItsStarts}
use Rattle.journal.specs.declared.calls.Call.{Call}
use Rattle.journal.specs.declared.calls.Call.TheVariants.{Event, Survey}
use Rattle.journal.specs.declared.calls.JournalLine.{JournalLine}
use Rattle.journal.specs.ContentAfter.{whole, with_call, with_call_at, with_calls, in_order, content_after}
use Rattle.journal.specs.Recovery.{IsRecovered}
use Rattle.segment_files.specs.Remarks.{without_remarks}
use Rattle.segment_files.specs.Files.{File, IsFile}

abbrev HasStart : Block → Type 0
HasStart b = length b.start ≡ b.n

abbrev Have : List Block → Type 0
Have bs = AllByRecursion HasStart bs

one_more : (b : Block) (call : Call) → HasStart b → HasStart (with_call b call)
one_more b (Event e) h = h
one_more b (Survey s) h = h

at_more : (bs : List Block) (ring : ℕ) (call : Call) → Have bs → Have (with_call_at bs ring call)
at_more [] ring call h = tt
at_more (b ∷ bs) zero call h = (one_more b call h.0, h.1)
at_more (b ∷ bs) (suc ring) call h = (h.0, at_more bs ring call h.1)

calls_more : (bs : List Block) (calls : List JournalLine) → Have bs → Have (with_calls bs calls)
calls_more bs [] h = h
calls_more bs (r ∷ rs) h = calls_more (with_call_at bs r.ring r.call) rs (at_more bs r.ring r.call h)

ordered : (bs : List Block) → Have bs → Have (map in_order bs)
ordered [] h = tt
ordered (b ∷ bs) h = (h.0, ordered bs h.1)

read_have : (version : ℕ) (bs : List Block) → AllByRecursion (BlockFits version) bs → Have bs
read_have version [] f = tt
read_have version (b ∷ bs) f = (f.0.start, read_have version bs f.1)

recovered_starts : (bytes : List ℕ) (c : Content) → IsRecovered bytes c → HasItsStarts c
recovered_starts bytes c r =
    let j = r.journal in
    let have : Have (content_after j.began j.calls).rings = ordered (with_calls j.began.rings (whole j.calls)) (calls_more j.began.rings (whole j.calls) (read_have j.began.version j.began.rings r.lines.fits.began.rings)) in
    subst HasItsStarts (sym r.is) (All-from_recursion HasStart (content_after j.began j.calls).rings have)

-- so has that of a file
pub file_starts : (f : File) → IsFile f → HasItsStarts f.content
file_starts f is = recovered_starts (without_remarks is.rest) f.content is.recovered
