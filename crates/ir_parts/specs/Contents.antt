-- The types, operands and labels that stand in the parts of a function, and the names that they define.
use Rattle.std.specs.Prelude.{ℕ, Bool, true, false, List, [], map, Some, None, Option, option_to_list, ◌∷◌, ◌++◌}
use Rattle.ir_model.specs.ir_base.declared.outcome.Place.{Place}
use Rattle.ir_parts.specs.Parts.{Part, Signature, Head, OfPhi, OfInstr, Ending}
use Rattle.ir_model.specs.Ty.{Ty}
use Rattle.ir_model.specs.declared.instr.Instr.{Instr}
use Rattle.ir_model.specs.declared.instr.Terminator.{Terminator}
use Rattle.ir_model.specs.declared.module.Function.{Function}
use Rattle.ir_model.specs.declared.operand.Arg.{Arg}
use Rattle.ir_model.specs.declared.operand.Callee.{Callee}
use Rattle.ir_model.specs.declared.operand.Operand.{Operand}

-- ---- types

abbrev pub arg_types : List Arg → List Ty
arg_types args = map (λ a. a.ty) args

abbrev pub instr_types : Instr → List Ty
instr_types (Instr.Binary r op flags ty left right) = ty ∷ []
instr_types (Instr.Icmp r pred ty left right) = ty ∷ []
instr_types (Instr.Select r c a b) = a.ty ∷ b.ty ∷ []
instr_types (Instr.Cast r op nneg arg to) = arg.ty ∷ to ∷ []
instr_types (Instr.Alloca r ty align) = ty ∷ []
instr_types (Instr.Load r ty address align) = ty ∷ []
instr_types (Instr.Store arg address align) = arg.ty ∷ []
instr_types (Instr.Gep r inbounds ty base indices) = ty ∷ arg_types indices
instr_types (Instr.Call r must_tail ty callee args) = option_to_list ty ++ arg_types args

abbrev pub return_types : Option Arg → List Ty
return_types None = []
return_types (Some a) = a.ty ∷ []

abbrev pub ending_types : Terminator → List Ty
ending_types (Terminator.Jump label) = []
ending_types (Terminator.Branch c a b) = []
ending_types (Terminator.Switch arg default cases) = arg.ty ∷ map (λ k. k.arg.ty) cases
ending_types (Terminator.Ret value) = return_types value
ending_types Terminator.Unreachable = []

-- the types of a part; a signature's are its result and its parameters
abbrev pub part_types : Part → List Ty
part_types (Signature f) = option_to_list f.result ++ map (λ p. p.ty) f.params
part_types (Head b) = []
part_types (OfPhi p) = p.ty ∷ []
part_types (OfInstr i) = instr_types i
part_types (Ending t) = ending_types t

-- ---- operands

abbrev pub arg_operands : List Arg → List Operand
arg_operands args = map (λ a. a.value) args

abbrev pub callee_operands : Callee → List Operand
callee_operands (Callee.Local v) = Operand.Local v ∷ []
callee_operands _ = []

abbrev pub instr_operands : Instr → List Operand
instr_operands (Instr.Binary r op flags ty left right) = left ∷ right ∷ []
instr_operands (Instr.Icmp r pred ty left right) = left ∷ right ∷ []
instr_operands (Instr.Select r c a b) = c ∷ a.value ∷ b.value ∷ []
instr_operands (Instr.Cast r op nneg arg to) = arg.value ∷ []
instr_operands (Instr.Alloca r ty align) = []
instr_operands (Instr.Load r ty address align) = address ∷ []
instr_operands (Instr.Store arg address align) = arg.value ∷ address ∷ []
instr_operands (Instr.Gep r inbounds ty base indices) = base ∷ arg_operands indices
instr_operands (Instr.Call r must_tail ty callee args) = callee_operands callee ++ arg_operands args

abbrev pub return_operands : Option Arg → List Operand
return_operands None = []
return_operands (Some a) = a.value ∷ []

abbrev pub ending_operands : Terminator → List Operand
ending_operands (Terminator.Jump label) = []
ending_operands (Terminator.Branch c a b) = c ∷ []
ending_operands (Terminator.Switch arg default cases) = arg.value ∷ map (λ k. k.arg.value) cases
ending_operands (Terminator.Ret value) = return_operands value
ending_operands Terminator.Unreachable = []

abbrev pub part_operands : Part → List Operand
part_operands (Signature f) = []
part_operands (Head b) = []
part_operands (OfPhi p) = map (λ i. i.value) p.incoming
part_operands (OfInstr i) = instr_operands i
part_operands (Ending t) = ending_operands t

-- ---- labels

abbrev pub ending_labels : Terminator → List ℕ
ending_labels (Terminator.Jump label) = label ∷ []
ending_labels (Terminator.Branch c a b) = a ∷ b ∷ []
ending_labels (Terminator.Switch arg default cases) = default ∷ map (λ k. k.target) cases
ending_labels (Terminator.Ret value) = []
ending_labels Terminator.Unreachable = []

-- the labels that a part names
abbrev pub part_labels : Part → List ℕ
part_labels (Signature f) = []
part_labels (Head b) = []
part_labels (OfPhi p) = map (λ i. i.from) p.incoming
part_labels (OfInstr i) = []
part_labels (Ending t) = ending_labels t

-- ---- what is defined

-- the result of an instruction
abbrev pub result_of : Instr → Option ℕ
result_of (Instr.Binary r op flags ty left right) = Some r
result_of (Instr.Icmp r pred ty left right) = Some r
result_of (Instr.Select r c a b) = Some r
result_of (Instr.Cast r op nneg arg to) = Some r
result_of (Instr.Alloca r ty align) = Some r
result_of (Instr.Load r ty address align) = Some r
result_of (Instr.Store arg address align) = None
result_of (Instr.Gep r inbounds ty base indices) = Some r
result_of (Instr.Call r must_tail ty callee args) = r

-- the values that a part makes: parameters, and results of phis and other instructions
abbrev pub part_values : Part → List ℕ
part_values (Signature f) = map (λ p. p.name) f.params
part_values (Head b) = []
part_values (OfPhi p) = p.result ∷ []
part_values (OfInstr i) = option_to_list (result_of i)
part_values (Ending t) = []

-- the locals that a part defines: its values, and of a block its label
abbrev pub part_locals : Part → List ℕ
part_locals (Head b) = b.label ∷ []
part_locals x = part_values x
