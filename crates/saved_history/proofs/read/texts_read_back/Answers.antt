use Rattle.std.proofs.Common.{[], Result, Ok, Err, refl, sym, ◌∙◌}
use Rattle.std.proofs.lemmas.List.{append-nil}
use Rattle.text_lines.specs.declared.answer.ReadError.{ReadError}
use Rattle.text_lines.specs.declared.answer.ReadError.TheVariants.{Syntax, Truncated, OutOfMemory}
use Rattle.text_lines.specs.Texts.{AnswersAreApart}
use Rattle.text_lines.proofs.Answering.{apart, none_begins_another, spellings_are_apart}
use Rattle.saved_history.specs.declared.saved.Saved.{Saved}
use Rattle.saved_history.specs.Content.{Content, content}
use Rattle.saved_history.specs.Spelling.{Fits, text}
use Rattle.saved_history.specs.Meaning.{IsText, IsRightRead, IsReadAs}
use Rattle.saved_history.proofs.TextLaws.{text_reads}
use Rattle.saved_history.proofs.read.texts_read_back.Goals as goal

others_are_wrong : (c : Content) → AnswersAreApart IsText (text c)
others_are_wrong c = apart IsText (none_begins_another text_reads) (text c)

reads_back : (c : Content) (answer : Result Saved ReadError) → Fits c → IsRightRead (text c) answer → IsReadAs c answer
reads_back c (Ok saved) f r = sym (spellings_are_apart text_reads c (content saved) [] f r.0 (append-nil (text c) ∙ r.1)).0
reads_back c (Err OutOfMemory) f r = tt
reads_back c (Err Truncated) f r = ((others_are_wrong c).text (c, f, refl)).0 r
reads_back c (Err (Syntax line)) f r = ((others_are_wrong c).text (c, f, refl)).1 line r

pub returns : goal.returns
returns c = λ s answer f r. reads_back s answer f r
