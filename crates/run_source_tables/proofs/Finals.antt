-- A coroutine has a final suspend where an instruction is one.
use Rattle.std.proofs.Common.{◌≡◌, ℕ, zero, suc, Bool, true, false, ◌&&◌, ◌||◌, List, [], ◌∷◌, ◌++◌, drop, refl, ap, sym, ◌∙◌, Option, Some, None}
use Rattle.std.specs.Prelude.{slice_get, if◌then◌else◌}
use Rattle.std.specs.List.{list_any}
use Rattle.std.proofs.lemmas.List.Folds.{list_any-append}
use Rattle.ir_model.specs.declared.instr.Instr.{Instr}
use Rattle.ir_model.specs.declared.module.Block.{Block}
use Rattle.ir_model.specs.declared.module.Function.{Function}
use Rattle.ir_model.specs.declared.operand.Intrinsic.{Intrinsic}
use Rattle.ir_paths.specs.Windows.{call_operand, instr_at, instr_in, is_call_of, points_from, points_in}
use Rattle.ir_paths.specs.declared.point.Point.{Point}
use Rattle.run_source_tables.specs.Lookups.{is_final_suspend}
use Rattle.run_source_tables.specs.Given.{has_final, is_final, is_final_call, is_true}

drop-head : {A : Type 0} (xs : List A) (i : ℕ) (x : A) (ys : List A) → drop i xs ≡ x ∷ ys → slice_get xs i ≡ Some x
drop-head [] zero x ys e = absurd cc
drop-head [] (suc i) x ys e = absurd cc
drop-head (z ∷ xs) zero x ys e = cc
drop-head (z ∷ xs) (suc i) x ys e = drop-head xs i x ys e

drop-tail : {A : Type 0} (xs : List A) (i : ℕ) (x : A) (ys : List A) → drop i xs ≡ x ∷ ys → drop (suc i) xs ≡ ys
drop-tail [] zero x ys e = absurd cc
drop-tail [] (suc i) x ys e = absurd cc
drop-tail (z ∷ xs) zero x ys e = cc
drop-tail (z ∷ xs) (suc i) x ys e = drop-tail xs i x ys e

any-by : (b x : Bool) (test : Point → Bool) (p : Point) (ps : List Point) → test p ≡ x → list_any test (if b then p ∷ ps else ps) ≡ ((b && x) || list_any test ps)
any-by true x test p ps e = ap (λ y. y || list_any test ps) e
any-by false x test p ps e = refl

final-here : (f : Function) (block at : ℕ) (b : Block) (i : Instr) → slice_get f.blocks block ≡ Some b → slice_get b.instrs at ≡ Some i → is_final f (record { block = block; at = at }) ≡ is_true (call_operand i 1)
final-here f block at b i gb gi = ap (λ (o : Option Block). is_final_call (instr_in o at)) gb ∙ ap is_final_call gi

finals-from : (f : Function) (block : ℕ) (b : Block) → slice_get f.blocks block ≡ Some b → (at : ℕ) (instrs : List Instr) → drop at b.instrs ≡ instrs → list_any (is_final f) (points_from (is_call_of Intrinsic.CoroSuspend) block at instrs) ≡ list_any is_final_suspend instrs
finals-from f block b gb at [] e = refl
finals-from f block b gb at (i ∷ is) e =
    any-by (is_call_of Intrinsic.CoroSuspend i) (is_true (call_operand i 1)) (is_final f) (record { block = block; at = at }) (points_from (is_call_of Intrinsic.CoroSuspend) block (suc at) is) (final-here f block at b i gb (drop-head b.instrs at i is e))
    ∙ ap (λ y. is_final_suspend i || y) (finals-from f block b gb (suc at) is (drop-tail b.instrs at i is e))

finals-in : (f : Function) (block : ℕ) (bs : List Block) → drop block f.blocks ≡ bs → list_any (is_final f) (points_in (is_call_of Intrinsic.CoroSuspend) block bs) ≡ list_any (λ b. list_any is_final_suspend b.instrs) bs
finals-in f block [] e = refl
finals-in f block (b ∷ bs) e =
    list_any-append (is_final f) (points_from (is_call_of Intrinsic.CoroSuspend) block 0 b.instrs) (points_in (is_call_of Intrinsic.CoroSuspend) (suc block) bs)
    ∙ ap (λ y. y || list_any (is_final f) (points_in (is_call_of Intrinsic.CoroSuspend) (suc block) bs)) (finals-from f block b (drop-head f.blocks block b bs e) 0 b.instrs refl)
    ∙ ap (λ y. list_any is_final_suspend b.instrs || y) (finals-in f (suc block) bs (drop-tail f.blocks block b bs e))

pub finals : (f : Function) → has_final f ≡ list_any (λ b. list_any is_final_suspend b.instrs) f.blocks
finals f = finals-in f 0 f.blocks refl
