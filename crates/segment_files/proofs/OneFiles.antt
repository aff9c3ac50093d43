-- Of some bytes there is one segment.
use Rattle.std.proofs.Common.{◌≡◌, ℕ, List, ◌++◌, sym, ap, subst, ◌∙◌}
use Rattle.text_lines.proofs.Basics.{ok_is}
use Rattle.saved_history.specs.Content.{Content}
use Rattle.journal.specs.Recovery.{IsRecovered}
use Rattle.journal.proofs.Cutting.{one_recovered}
use Rattle.segment_files.specs.Spelling.{Head, head_text}
use Rattle.segment_files.specs.Remarks.{without_remarks}
use Rattle.segment_files.specs.Reading.{head_at}
use Rattle.segment_files.specs.Files.{File}
use Rattle.segment_files.specs.Chain.{OneFile}
use Rattle.segment_files.proofs.HeadLaws.{head_reads}

abbrev filed : List ℕ → Head → Content → File
filed bytes head content = record { bytes = bytes; head = head; content = content }

pub one_file : OneFile
one_file f g same a b =
    let x : Head × List ℕ = (f.head, a.rest) in
    let y : Head × List ℕ = (g.head, b.rest) in
    let one = head_reads.again f.head a.rest a.fits in
    let two = head_reads.again g.head b.rest b.fits in
    let text : head_text f.head ++ a.rest ≡ head_text g.head ++ b.rest = sym a.spelled ∙ same ∙ b.spelled in
    let p : x ≡ y = ok_is x y (sym one ∙ ap head_at text ∙ two) in
    let head : f.head ≡ g.head = ap (λ (z : Head × List ℕ). z.0) p in
    let rest : a.rest ≡ b.rest = ap (λ (z : Head × List ℕ). z.1) p in
    let content : f.content ≡ g.content = one_recovered (without_remarks b.rest) f.content g.content (subst (λ (u : List ℕ). IsRecovered (without_remarks u) f.content) rest a.recovered) b.recovered in
    ap (λ (u : List ℕ). filed u f.head f.content) same
    ∙ ap (λ (h : Head). filed g.bytes h f.content) head
    ∙ ap (λ (k : Content). filed g.bytes g.head k) content
