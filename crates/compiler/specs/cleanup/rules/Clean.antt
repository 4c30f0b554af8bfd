-- Functions in which nothing but the call itself names a `coro.id`, and nothing names a coro intrinsic's address.
use Rattle.std.specs.Prelude.{◌≡◌, ℕ, Bool, true, false, not, Some, None, Option, slice_get, ◌&&◌, ◌==◌}
use Rattle.std.specs.List.{list_all, list_any}
use Rattle.ir_base.specs.declared.outcome.Place.{Place}
use Rattle.pass_cleanup.specs.Cleanup.{is_kept_callee, is_kept_instr}
use Rattle.pass_proofs.specs.ir_parts.Contents.{part_operands, result_of}
use Rattle.pass_proofs.specs.ir_parts.Parts.{OfInstr, Part, first_part, parts_of}
use Rattle.ir_model.specs.Table.{callee_named}
use Rattle.ir_model.specs.declared.instr.Instr.{Instr}
use Rattle.ir_model.specs.declared.module.Function.{Function}
use Rattle.ir_model.specs.declared.module.Module.{Module}
use Rattle.ir_model.specs.declared.operand.Callee.{Callee}
use Rattle.ir_model.specs.declared.operand.Operand.{Operand}

abbrev pub is_number : Option ℕ → ℕ → Bool
is_number None v = false
is_number (Some r) v = r == v

-- the result of an instruction that goes
abbrev pub goes_with : ℕ → Instr → Bool
goes_with v i = not (is_kept_instr i) && is_number (result_of i) v

abbrev pub goes : Function → ℕ → Bool
goes f v = list_any (λ b. list_any (goes_with v) b.instrs) f.blocks

-- neither the result of an instruction that goes, nor a coro intrinsic's address
abbrev pub is_left : Function → Operand → Bool
is_left f (Operand.Local v) = not (goes f v)
is_left f (Operand.Global n) = is_kept_callee (callee_named n)
is_left f x = true

-- what is called by its name is no coro intrinsic
abbrev pub is_left_callee : Callee → Bool
is_left_callee (Callee.Named n) = is_kept_callee (callee_named n)
is_left_callee c = true

abbrev pub calls_left : Part → Bool
calls_left (OfInstr (Instr.Call r must_tail ty callee args)) = is_left_callee callee
calls_left x = true

abbrev pub names_gone : Function → Place → Part → Bool
names_gone f place part = not (list_all (is_left f) (part_operands part) && calls_left part)

-- no part of the function names what goes
abbrev pub NamesNothingGone : ℕ → Function → Type 0
NamesNothingGone k f = first_part (names_gone f) (parts_of k f) ≡ None

-- nor does one of any function of a module
abbrev pub NameNothingGone : Module → Type 0
NameNothingGone m = (k : ℕ) (f : Function) → slice_get m.functions k ≡ Some f → NamesNothingGone k f
