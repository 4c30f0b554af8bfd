-- Rule K3: the switch of a suspend.
use Rattle.std.specs.Prelude.{ℕ, suc, Bool, true, false, not, List, [], length, nat_le, slice_get, Some, None, Option, option_map, option_and_then, ◌+◌, ◌&&◌, ◌||◌, ◌∷◌, if◌then◌else◌, ◌==◌}
use Rattle.std.specs.List.{list_any}
use Rattle.ir_base.specs.declared.outcome.Place.{Place}
use Rattle.rule_shape.specs.Places.{is_the}
use Rattle.rule_shape.specs.Uses.{uses_of}
use Rattle.rule_windows.specs.ir_parts.Parts.{Part, OfInstr, first_part, parts_of}
use Rattle.ir_model.specs.Names.{is_local}
use Rattle.ir_model.specs.declared.instr.Case.{Case}
use Rattle.ir_model.specs.declared.instr.Instr.{Instr}
use Rattle.ir_model.specs.declared.instr.Terminator.{Terminator}
use Rattle.ir_model.specs.declared.module.Block.{Block}
use Rattle.ir_model.specs.declared.module.Function.{Function}
use Rattle.ir_model.specs.declared.operand.Intrinsic.{Intrinsic}
use Rattle.rule_windows.specs.ir_paths.Windows.{call_result, end_block, is_call_of, is_number}

-- the label of the end's block
abbrev pub end_label : Function → Option ℕ
end_label f = option_map (λ b. b.label) (slice_get f.blocks (end_block f))

-- how many blocks stand before that of the end
abbrev pub end_from : List Block → ℕ
end_from [] = 0
end_from (b ∷ bs) = if list_any (is_call_of Intrinsic.CoroEnd) b.instrs then 0 else suc (end_from bs)

-- exactly the cases 0 and 1, in either order
abbrev pub are_both : List Case → Bool
are_both (a ∷ b ∷ []) = (is_number 0 a.arg.value && is_number 1 b.arg.value) || (is_number 1 a.arg.value && is_number 0 b.arg.value)
are_both _ = false

-- a switch on the value, with 0 and 1 and with this default
abbrev pub is_switch_on : ℕ → Option ℕ → Terminator → Bool
is_switch_on v end (Terminator.Switch arg default cases) = is_local v arg.value && (are_both cases && is_the end default)
is_switch_on v end _ = false

-- the place is that of the block's last instruction
abbrev pub is_last : Block → Option ℕ → Bool
is_last b None = false
is_last b (Some at) = at + 1 == length b.phis + length b.instrs

-- the switch follows at once, and the value is used there alone
abbrev pub is_switched_in : Function → ℕ → Place → Option Block → Bool
is_switched_in f v p None = false
is_switched_in f v p (Some b) = is_last b p.instr && (is_switch_on v (end_label f) b.term && nat_le (uses_of f v) 1)

abbrev pub is_switched : Function → Place → Option ℕ → Bool
is_switched f p None = false
is_switched f p (Some v) = is_switched_in f v p (option_and_then (slice_get f.blocks) p.block)

abbrev pub breaks_switch : Function → Place → Part → Bool
breaks_switch f p (OfInstr i) = is_call_of Intrinsic.CoroSuspend i && not (is_switched f p (call_result i))
breaks_switch f p _ = false

-- K3: a suspend isn't followed at once by a switch on it with exactly 0 and 1, its result is used elsewhere, or the default isn't the end's block
abbrev pub wrong_switch : ℕ → Function → Option Place
wrong_switch func f = if f.coroutine then first_part (breaks_switch f) (parts_of func f) else None
