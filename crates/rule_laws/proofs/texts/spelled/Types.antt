-- Types that the passes write can be written, and lists of types of which each can.
use Rattle.std.proofs.Common.{refl}
use Rattle.ir_laws.specs.ir_model.Ty.{int, ptr, token}
use Rattle.ir_laws.specs.ir_model.TypeView.{bits_of}
use Rattle.ir_laws.specs.ir_model.declared.ir_type.IntWidth.{IntWidth}
use Rattle.ir_laws.specs.ir_model.declared.ir_type.IntWidth.TheVariants.{I1, I8, I16, I32, I64}
use Rattle.rule_laws.specs.texts.spelled.Spelled.{IsSpelled}

pub width_spelled : (w : IntWidth) → IsSpelled (int (bits_of w))
width_spelled I1 = ((I1, refl), (tt, tt))
width_spelled I8 = ((I8, refl), (tt, tt))
width_spelled I16 = ((I16, refl), (tt, tt))
width_spelled I32 = ((I32, refl), (tt, tt))
width_spelled I64 = ((I64, refl), (tt, tt))

pub truth_spelled : IsSpelled (int 1)
truth_spelled = width_spelled I1

pub byte_spelled : IsSpelled (int 8)
byte_spelled = width_spelled I8

pub word_spelled : IsSpelled (int 64)
word_spelled = width_spelled I64

pub short_spelled : IsSpelled (int 32)
short_spelled = width_spelled I32

pub ptr_spelled : IsSpelled ptr
ptr_spelled = (tt, (tt, tt))

pub token_spelled : IsSpelled token
token_spelled = (tt, (tt, tt))
