-- The first pass is its three passes in a row.
use Rattle.std.proofs.Common.{◌≡◌, ℕ, Bool, true, false, List, [], ◌∷◌, ◌++◌, length, refl, sym, ap, ◌∙◌}
use Rattle.std.specs.Prelude.{map, Some, None, Option, if◌then◌else◌, ◌-◌}
use Rattle.pass_early_proof.specs.early.renaming.Passes.{named_function, named_module, renamed_block, renamed_by_its_own, renamed_coroutine, renamed_function, renamed_module}
use Rattle.pass_early.specs.BeginName.{if_unnamed, with_begin_name}
use Rattle.pass_early.specs.Early.{after_blocks, after_instrs, after_one, early_block, early_blocks, early_coroutine, early_function, early_instrs, early_module, early_named, early_one, renaming_of, save_names}
use Rattle.pass_early.specs.Renaming.{renamed_instr, renamed_phi, renamed_term}
use Rattle.pass_early.specs.declared.renaming.Renaming.{Renaming}
use Rattle.ir_model.specs.Calls.{first_result}
use Rattle.ir_model.specs.declared.instr.Instr.{Instr}
use Rattle.ir_model.specs.declared.module.Block.{Block}
use Rattle.ir_model.specs.declared.module.Function.{Function}
use Rattle.ir_model.specs.declared.module.Module.{Module}
use Rattle.ir_model.specs.declared.operand.Intrinsic.{Intrinsic}
use Rattle.pass_early_proof.proofs.early.saves.Plain.{plain_stays}
use Rattle.pass_early_proof.specs.early.saves.SavesWritten.{behind_blocks, behind_saves, saved_block, saved_blocks, saved_function, saves_written, with_saves}

-- the saves of a function written out, as those of a coroutine or not
abbrev saved_as : Bool → Function → Function
saved_as coroutine f =
    record f {
      blocks = saved_blocks coroutine (length f.names) f.blocks;
      names = f.names ++ save_names (behind_blocks coroutine (length f.names) f.blocks - length f.names);
    }

module _ (r : Renaming) where
  instrs_in_turn : (n : ℕ) (is : List Instr) → early_instrs r n is ≡ with_saves true n (map (renamed_instr r) is)
  instrs_in_turn n [] = refl
  instrs_in_turn n (i ∷ is) = ap (λ xs. early_one n (renamed_instr r i) ++ xs) (instrs_in_turn (after_one n (renamed_instr r i)) is)

  behind_in_turn : (n : ℕ) (is : List Instr) → after_instrs r n is ≡ behind_saves true n (map (renamed_instr r) is)
  behind_in_turn n [] = refl
  behind_in_turn n (i ∷ is) = behind_in_turn (after_one n (renamed_instr r i)) is

  block_in_turn : (n : ℕ) (b : Block) → early_block r n b ≡ saved_block true n (renamed_block r b)
  block_in_turn n b = ap (λ (is : List Instr). record { label = b.label; phis = map (renamed_phi r) b.phis; instrs = is; term = renamed_term r b.term }) (instrs_in_turn n b.instrs)

  blocks_in_turn : (n : ℕ) (bs : List Block) → early_blocks r n bs ≡ saved_blocks true n (map (renamed_block r) bs)
  blocks_in_turn n [] = refl
  blocks_in_turn n (b ∷ bs) =
      let rest = blocks_in_turn (after_instrs r n b.instrs) bs ∙ ap (λ (k : ℕ). saved_blocks true k (map (renamed_block r) bs)) (behind_in_turn n b.instrs) in
      λ i. block_in_turn n b i ∷ rest i

  behind_blocks_in_turn : (n : ℕ) (bs : List Block) → after_blocks r n bs ≡ behind_blocks true n (map (renamed_block r) bs)
  behind_blocks_in_turn n [] = refl
  behind_blocks_in_turn n (b ∷ bs) =
      behind_blocks_in_turn (after_instrs r n b.instrs) bs ∙ ap (λ (k : ℕ). behind_blocks true k (map (renamed_block r) bs)) (behind_in_turn n b.instrs)

  coroutine_in_turn : (f : Function) → early_coroutine f r ≡ saved_as true (renamed_coroutine r f)
  coroutine_in_turn f =
      let n = length f.names in
      λ i. record f { blocks = blocks_in_turn n f.blocks i; names = f.names ++ save_names (behind_blocks_in_turn n f.blocks i - n) }

named_stays : (f : Function) (o : Option ℕ) → (if_unnamed o f).coroutine ≡ f.coroutine
named_stays f None = refl
named_stays f (Some n) = refl

in_turn_by : (f : Function) (b : Bool) → f.coroutine ≡ b → early_function f ≡ saved_function (renamed_function (named_function f))
in_turn_by f true e =
    let g = with_begin_name f in
    let is_one : g.coroutine ≡ true = named_stays f (first_result Intrinsic.CoroBegin f) ∙ e in
    ap (λ (c : Bool). if c then early_named g else f) e
    ∙ coroutine_in_turn (renaming_of g) g
    ∙ ap (λ (c : Bool). saved_as c (renamed_by_its_own g)) (sym is_one)
    ∙ ap (λ (c : Bool). saved_function (if c then renamed_by_its_own g else g)) (sym is_one)
    ∙ ap (λ (c : Bool). saved_function (renamed_function (if c then g else f))) (sym e)
in_turn_by f false e =
    ap (λ (c : Bool). if c then early_named (with_begin_name f) else f) e
    ∙ sym (plain_stays f e)
    ∙ ap (λ (c : Bool). saved_function (if c then renamed_by_its_own f else f)) (sym e)
    ∙ ap (λ (c : Bool). saved_function (renamed_function (if c then with_begin_name f else f))) (sym e)

functions_in_turn : (fs : List Function) → map early_function fs ≡ map saved_function (map renamed_function (map named_function fs))
functions_in_turn [] = refl
functions_in_turn (f ∷ fs) = let first = in_turn_by f f.coroutine refl in let rest = functions_in_turn fs in λ i. first i ∷ rest i

pub early_in_turn : (m : Module) → early_module m ≡ saves_written (renamed_module (named_module m))
early_in_turn m = ap (λ (fs : List Function). record { types = m.types; globals = m.globals; declarations = m.declarations; functions = fs }) (functions_in_turn m.functions)
