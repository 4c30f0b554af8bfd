-- The position of the end's block.
use Rattle.std.proofs.Common.{◌≡◌, ℕ, suc, Bool, true, false, List, [], ◌∷◌, length, refl, sym, ap, ◌∙◌}
use Rattle.std.specs.Prelude.{Option, Some, None, option_map, unwrap_or, if◌then◌else◌}
use Rattle.std.specs.List.{list_any}
use Rattle.ir_model.specs.Names.{first_where}
use Rattle.ir_model.specs.declared.module.Block.{Block}
use Rattle.ir_model.specs.declared.module.Function.{Function}
use Rattle.ir_model.specs.declared.operand.Intrinsic.{Intrinsic}
use Rattle.rule_windows.specs.ir_paths.Windows.{end_block, is_call_of}
use Rattle.rule_shape.specs.Switches.{end_from}

has_end : Block → Bool
has_end b = list_any (is_call_of Intrinsic.CoroEnd) b.instrs

later : (o : Option ℕ) (n : ℕ) → suc (unwrap_or o n) ≡ unwrap_or (option_map suc o) (suc n)
later None n = refl
later (Some k) n = refl

by_test : (b : Bool) (o : Option ℕ) (n k : ℕ) → k ≡ unwrap_or o n → (if b then 0 else suc k) ≡ unwrap_or (if b then Some 0 else option_map suc o) (suc n)
by_test true o n k e = refl
by_test false o n k e = ap suc e ∙ later o n

end_from_by : (bs : List Block) → end_from bs ≡ unwrap_or (first_where (λ b. list_any (is_call_of Intrinsic.CoroEnd) b.instrs) bs) (length bs)
end_from_by [] = refl
end_from_by (b ∷ bs) =
    by_test (list_any (is_call_of Intrinsic.CoroEnd) b.instrs) (first_where (λ b. list_any (is_call_of Intrinsic.CoroEnd) b.instrs) bs) (length bs) (end_from bs) (end_from_by bs)

pub end_from_is : (f : Function) → end_from f.blocks ≡ end_block f
end_from_is f = end_from_by f.blocks
