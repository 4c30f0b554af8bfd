-- Lemmas on shape, that speak of no pass.
use Rattle.std.proofs.Common.{◌≡◌, true, [], refl}
use Rattle.ir_laws.specs.pass_front.Front.{is_alloca}
use Rattle.ir_parts.specs.Contents.{instr_operands}
use Rattle.ir_laws.specs.ir_model.declared.instr.Instr.{Instr}

pub no_operands : (i : Instr) → is_alloca i ≡ true → instr_operands i ≡ []
no_operands (Instr.Alloca r ty align) e = refl
no_operands _ e = absurd (cc)
