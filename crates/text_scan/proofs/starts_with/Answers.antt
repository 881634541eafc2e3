-- `text_scan::starts_with` meets its contract: the library compares the word with as many bytes of the text
-- (`starts_front` of LoopLaws).
use mathlib.Core.Path.{◌∙◌}
use Rattle.text_scan.proofs.LoopLaws.{starts_front}
use Rattle.text_scan.proofs.starts_with.Goals as goal

pub returns : goal.returns
returns c = c.starts_with.ensures.value ∙ starts_front c.args.word.now c.args.text.now
