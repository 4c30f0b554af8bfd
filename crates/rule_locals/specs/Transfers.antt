-- `musttail` calls (rule Y5).
use Rattle.std.specs.Prelude.{ℕ, Bool, true, false, not, List, [], length, map, slice_get, Some, None, Option, ◌+◌, ◌&&◌, ◌||◌, ◌∷◌, ◌==◌}
use Rattle.ir_base.specs.declared.outcome.Place.{Place}
use Rattle.ir_parts.specs.Parts.{first_part, parts_of}
use Rattle.ir_model.specs.Ty.{Ty}
use Rattle.ir_model.specs.declared.instr.Instr.{Instr}
use Rattle.ir_model.specs.declared.instr.Terminator.{Terminator}
use Rattle.ir_model.specs.declared.module.Block.{Block}
use Rattle.ir_model.specs.declared.module.Function.{Function}
use Rattle.rule_locals.specs.Instrs.{on_instr}
use Rattle.rule_names.specs.Stage.{is_source}
use Rattle.rule_names.specs.declared.stage.Stage.{Stage}
use Rattle.rule_types.specs.Wants.{is_ptr}

abbrev pub is_one_pointer : List Ty → Bool
is_one_pointer (t ∷ []) = is_ptr t
is_one_pointer ts = false

-- the type void(ptr)
abbrev pub is_void_of_pointer : Option Ty → List Ty → Bool
is_void_of_pointer None ts = is_one_pointer ts
is_void_of_pointer (Some t) ts = false

abbrev pub is_void_return : Terminator → Bool
is_void_return (Terminator.Ret None) = true
is_void_return t = false

-- `ret void` is what follows position i of a block
abbrev pub returns_behind : Option Block → Option ℕ → Bool
returns_behind (Some b) (Some i) = (i + 1 == length b.phis + length b.instrs) && is_void_return b.term
returns_behind b i = false

abbrev pub block_at : Function → Option ℕ → Option Block
block_at f None = None
block_at f (Some k) = slice_get f.blocks k

-- a call that may be a transfer in a plain module: followed at once by `ret void`, the caller and the callee of type void(ptr)
abbrev pub may_transfer : Function → Place → Option Ty → List Ty → Bool
may_transfer f place ty args =
    returns_behind (block_at f place.block) place.instr
    && (is_void_of_pointer f.result (map (λ p. p.ty) f.params) && is_void_of_pointer ty args)

-- Y5: in a source any `musttail` call; in a plain module one that may be no transfer
abbrev pub breaks_transfers : Stage → Function → Place → Instr → Bool
breaks_transfers stage f place (Instr.Call r must_tail ty callee args) = must_tail && (is_source stage || not (may_transfer f place ty (map (λ a. a.ty) args)))
breaks_transfers stage f place i = false

abbrev pub first_wrong_transfer : Stage → ℕ → Function → Option Place
first_wrong_transfer stage k f = first_part (on_instr (breaks_transfers stage f)) (parts_of k f)
