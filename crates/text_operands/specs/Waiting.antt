-- What is left to write of a type, the last part first.
use Rattle.std.specs.Prelude.{◌≡◌, ℕ, ◌+◌, ◌*◌, List, [], ◌∷◌, ◌++◌, codes, refl}
use Rattle.std.proofs.Common.{◌∙◌, ap, append_assoc, append-nil, arith, sym}
use Rattle.ir_model.specs.Ty.{to_tys, ty_size, tys_size}
use Rattle.text_canonical.specs.canonical.Types.{fields_text, type_text}
use Rattle.text_operands.specs.declared.types.Part.{Part}

abbrev pub part_text : Part → List ℕ
part_text (Part.Type t) = type_text t.now
part_text (Part.Fields ts) = fields_text (to_tys ts.now) ++ codes " }"
part_text Part.Close = codes "]"

abbrev pub waiting_text : List Part → List ℕ
waiting_text [] = []
waiting_text (p ∷ ps) = waiting_text ps ++ part_text p

abbrev pub part_size : Part → ℕ
part_size (Part.Type t) = 2 * ty_size t.now
part_size (Part.Fields ts) = 2 * tys_size (to_tys ts.now) + 1
part_size Part.Close = 1

abbrev pub waiting_size : List Part → ℕ
waiting_size [] = 0
waiting_size (p ∷ ps) = waiting_size ps + part_size p

pub text_pushed : (ps : List Part) (p : Part) → waiting_text (ps ++ p ∷ []) ≡ part_text p ++ waiting_text ps
text_pushed [] p = sym (append-nil (part_text p))
text_pushed (q ∷ ps) p =
    ap (λ (l : List ℕ). l ++ part_text q) (text_pushed ps p) ∙ append_assoc (part_text p) (waiting_text ps) (part_text q)

pub size_pushed : (ps : List Part) (p : Part) → waiting_size (ps ++ p ∷ []) ≡ waiting_size ps + part_size p
size_pushed [] p = omega arith
size_pushed (q ∷ ps) p = omega (arith, size_pushed ps p)
