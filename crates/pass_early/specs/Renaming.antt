-- Uses of some values put in the place of uses of others.
use Rattle.std.specs.Prelude.{ℕ, Bool, false, map, slice_get, Some, None, Option, if◌then◌else◌}
use Rattle.ir_model.specs.declared.instr.Incoming.{Incoming}
use Rattle.ir_model.specs.declared.instr.Instr.{Instr}
use Rattle.ir_model.specs.declared.instr.Phi.{Phi}
use Rattle.ir_model.specs.declared.instr.Terminator.{Terminator}
use Rattle.ir_model.specs.declared.operand.Arg.{Arg}
use Rattle.ir_model.specs.declared.operand.Callee.{Callee}
use Rattle.ir_model.specs.declared.operand.Operand.{Operand}
use Rattle.pass_early.specs.declared.renaming.Renaming.{Renaming}

-- the flag of a name
abbrev pub flag_or_false : Option Bool → Bool
flag_or_false None = false
flag_or_false (Some b) = b

abbrev pub is_renamed : Renaming → ℕ → Bool
is_renamed r n = flag_or_false (slice_get r.from n)

abbrev pub renamed_value : Renaming → ℕ → ℕ
renamed_value r n = if is_renamed r n then r.to else n

abbrev pub renamed : Renaming → Operand → Operand
renamed r (Operand.Local n) = Operand.Local (renamed_value r n)
renamed r (Operand.Global n) = Operand.Global n
renamed r (Operand.Number z) = Operand.Number z
renamed r Operand.True = Operand.True
renamed r Operand.False = Operand.False
renamed r Operand.Null = Operand.Null
renamed r Operand.None = Operand.None
renamed r Operand.Poison = Operand.Poison

abbrev pub renamed_arg : Renaming → Arg → Arg
renamed_arg r a = record { ty = a.ty; value = renamed r a.value }

abbrev pub renamed_callee : Renaming → Callee → Callee
renamed_callee r (Callee.Named n) = Callee.Named n
renamed_callee r (Callee.Allocator a) = Callee.Allocator a
renamed_callee r (Callee.Intrinsic i) = Callee.Intrinsic i
renamed_callee r (Callee.Local n) = Callee.Local (renamed_value r n)

abbrev pub renamed_instr : Renaming → Instr → Instr
renamed_instr r (Instr.Binary result op flags ty left right) = Instr.Binary result op flags ty (renamed r left) (renamed r right)
renamed_instr r (Instr.Icmp result pred ty left right) = Instr.Icmp result pred ty (renamed r left) (renamed r right)
renamed_instr r (Instr.Select result c a b) = Instr.Select result (renamed r c) (renamed_arg r a) (renamed_arg r b)
renamed_instr r (Instr.Cast result op nneg arg to) = Instr.Cast result op nneg (renamed_arg r arg) to
renamed_instr r (Instr.Alloca result ty align) = Instr.Alloca result ty align
renamed_instr r (Instr.Load result ty address align) = Instr.Load result ty (renamed r address) align
renamed_instr r (Instr.Store arg address align) = Instr.Store (renamed_arg r arg) (renamed r address) align
renamed_instr r (Instr.Gep result inbounds ty base indices) = Instr.Gep result inbounds ty (renamed r base) (map (renamed_arg r) indices)
renamed_instr r (Instr.Call result must_tail ty callee args) = Instr.Call result must_tail ty (renamed_callee r callee) (map (renamed_arg r) args)

abbrev pub renamed_incoming : Renaming → Incoming → Incoming
renamed_incoming r i = record { value = renamed r i.value; from = i.from }

abbrev pub renamed_phi : Renaming → Phi → Phi
renamed_phi r p = record { result = p.result; ty = p.ty; incoming = map (renamed_incoming r) p.incoming }

abbrev pub renamed_return : Renaming → Option Arg → Option Arg
renamed_return r None = None
renamed_return r (Some a) = Some (renamed_arg r a)

-- the values of a switch's cases are literals
abbrev pub renamed_term : Renaming → Terminator → Terminator
renamed_term r (Terminator.Jump label) = Terminator.Jump label
renamed_term r (Terminator.Branch c a b) = Terminator.Branch (renamed r c) a b
renamed_term r (Terminator.Switch arg default cases) = Terminator.Switch (renamed_arg r arg) default cases
renamed_term r (Terminator.Ret value) = Terminator.Ret (renamed_return r value)
renamed_term r Terminator.Unreachable = Terminator.Unreachable
