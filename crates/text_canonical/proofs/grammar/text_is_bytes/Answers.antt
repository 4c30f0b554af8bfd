use Rattle.text_canonical.proofs.grammar.Bytes.{are_bytes}
use Rattle.text_canonical.proofs.grammar.text_is_bytes.Goals as goal

pub returns : goal.returns
returns c = are_bytes c.args.text.now c.type_inv.text
