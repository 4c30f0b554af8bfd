use Rattle.std.proofs.Common.{◌≡◌, ℕ, suc, List, [], ◌∷◌, ◌++◌, ◌∙◌, ap, sym, refl, Option, None, Some}
use Rattle.std.specs.Prelude.{option_and_then, slice_get, unwrap_or}
use Rattle.ir_model.specs.Names.{function_at, no_function}
use Rattle.ir_model.specs.declared.instr.Instr.{Instr}
use Rattle.ir_model.specs.declared.module.Block.{Block}
use Rattle.ir_model.specs.declared.module.Function.{Function}
use Rattle.ir_model.specs.declared.module.Module.{Module}
use Rattle.ir_paths.specs.Windows.{call_result, instr_at, is_suspend_of, points_from, points_in, points_where, suspend_of}
use Rattle.ir_paths.specs.declared.point.Point.{Point}
use Rattle.run_source_tables.proofs.program.SourceProgram.suspend_of.Goals as goal

none-from : (block at : ℕ) (instrs : List Instr) → points_from (is_suspend_of None) block at instrs ≡ []
none-from block at [] = refl
none-from block at (i ∷ is) = none-from block (suc at) is

none-in : (block : ℕ) (blocks : List Block) → points_in (is_suspend_of None) block blocks ≡ []
none-in block [] = refl
none-in block (b ∷ blocks) = ap (λ (l : List Point). l ++ points_in (is_suspend_of None) (suc block) blocks) (none-from block 0 b.instrs) ∙ none-in (suc block) blocks

by-token : (m : Module) (func : ℕ) (f : Function) (save : Point) (token : Option ℕ) → slice_get m.functions func ≡ Some f → token ≡ option_and_then (λ i. call_result i) (instr_at f save) → slice_get (points_where (is_suspend_of token) f) 0 ≡ suspend_of (function_at m func) save
by-token m func f save token g e =
    ap (λ (o : Option ℕ). slice_get (points_where (is_suspend_of o) f) 0) e
    ∙ ap (λ (o : Option Function). suspend_of (unwrap_or o no_function) save) (sym g)

pub returns-in-None-result_at : goal.returns-in-None-result_at
returns-in-None-result_at c =
    let f = c.in-Some.function.now in
    sym (ap (λ (l : List Point). slice_get l 0) (none-in 0 f.blocks))
    ∙ by-token c.args.self.now.program.module c.args.func f c.args.save None c.in-Some.ensures (sym c.in-None-result_at.is ∙ c.result_at.ensures)
