-- Functions that name no coro intrinsic but where it is called.
use Rattle.std.specs.Prelude.{ℕ, Bool, true, not, None, ◌≡◌, ◌&&◌}
use Rattle.std.specs.List.{list_all}
use Rattle.compiler.specs.cleanup.rules.Clean.{calls_left}
use Rattle.ir_base.specs.declared.outcome.Place.{Place}
use Rattle.pass_cleanup.specs.Cleanup.{is_kept_callee}
use Rattle.pass_proofs.specs.ir_parts.Contents.{part_operands}
use Rattle.pass_proofs.specs.ir_parts.Parts.{Part, first_part, parts_of}
use Rattle.ir_model.specs.Table.{callee_named}
use Rattle.ir_model.specs.declared.module.Function.{Function}
use Rattle.ir_model.specs.declared.operand.Operand.{Operand}

-- an operand that isn't the address of one
abbrev pub is_no_intrinsic : Operand → Bool
is_no_intrinsic (Operand.Global n) = is_kept_callee (callee_named n)
is_no_intrinsic x = true

-- an operand is the address of one, or one is called as other functions are
abbrev pub names_intrinsic : Place → Part → Bool
names_intrinsic place part = not (list_all is_no_intrinsic (part_operands part) && calls_left part)

-- no part of the function does so
abbrev pub NamesNoIntrinsic : ℕ → Function → Type 0
NamesNoIntrinsic k f = first_part names_intrinsic (parts_of k f) ≡ None
