use Rattle.std.proofs.Common.{Some, ap, sym, ◌∙◌}
use Rattle.ir_base.specs.declared.name.Name.{Name}
use Rattle.text_names.proofs.Readback.{named_text}
use Rattle.text_names.proofs.entry.candidate.Goals as goal

pub returns : goal.returns
returns c = λ n h s.
    ap (λ (m : Name). Some m)
    (named_text c.args.bytes.now c.in_ok-from_bytes.field-0 n (sym c.begins_with_digit.ensures ∙ c.if-begins_with_digit.false)
    (c.in_ok-from_bytes.ensures ∙ c.deref.ensures.value ∙ c.in_ok-text.ensures) h s)
