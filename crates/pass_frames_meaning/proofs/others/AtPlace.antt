-- What rules say of an instruction at its place: a function that is no coroutine has no coro intrinsics, and no local is
-- called.
use Rattle.std.proofs.Common.{◌≡◌, ℕ, Bool, true, false, List, [], ◌∷◌, Option, Some, None, refl, sym, ap, ◌∙◌, subst, ◌||◌}
use Rattle.std.specs.Prelude.{not, slice_get, unwrap_or}
use Rattle.std.specs.List.{list_all}
use Rattle.std.proofs.lemmas.Bool.{and_parts, false≢true}
use Rattle.pass_frames_proof.proofs.ir_laws.facts.Members.{at_each}
use Rattle.pass_frames_proof.proofs.ir_laws.paths.renamed.Uses.{stands_in}
use Rattle.pass_frames_proof.specs.ir_model.Names.{function_at, no_function}
use Rattle.pass_frames_proof.specs.ir_model.Ty.{Ty}
use Rattle.pass_frames_proof.specs.ir_model.declared.instr.Instr.{Instr}
use Rattle.pass_frames_proof.specs.ir_model.declared.module.Function.{Function}
use Rattle.pass_frames_proof.specs.ir_model.declared.module.Module.{Module}
use Rattle.pass_frames_proof.specs.ir_model.declared.operand.Arg.{Arg}
use Rattle.pass_frames_proof.specs.ir_model.declared.operand.Callee.{Callee}
use Rattle.pass_frames_proof.specs.ir_model.declared.operand.Intrinsic.{Intrinsic}
use Rattle.pass_frames_proof.specs.ir_parts.Contents.{part_operands}
use Rattle.pass_frames_proof.specs.ir_parts.Parts.{OfInstr}
use Rattle.pass_frames_proof.proofs.rule_laws.rules.counted.PartFacts.{block_passes}
use Rattle.pass_frames_proof.proofs.rule_laws.rules.sources.Places.{instr_there, point}
use Rattle.pass_frames_proof.specs.rule_laws.rules.function_rules.Kept.{KeepsFunctionRules}
use Rattle.pass_frames_proof.specs.rule_locals.Addresses.{is_no_function, points_to_functions}
use Rattle.pass_frames_proof.specs.rule_locals.Intrinsics.{calls_inner, is_inner, misplaces}
use Rattle.pass_frames_proof.specs.rule_names.declared.stage.Stage.{Stage}
use Rattle.pass_frames_proof.specs.rule_types.Signatures.{are_wanted, is_result}
use Rattle.pass_frames_proof.specs.rule_types.Wants.{intrinsic_params, intrinsic_result}
use Rattle.pass_frames_proof.specs.rule_types.declared.wants.Wanted.{Wanted}
use Rattle.pass_frames_proof.specs.run_step.Step.{AtInstr, fetch}
use Rattle.pass_renewed_meaning.specs.run_types.Rules.{KeepsTypes}

-- the function at a place is there
pub function_there : (m : Module) (k block at : ℕ) (i : Instr) → fetch (function_at m k) block at ≡ AtInstr i
    → slice_get m.functions k ≡ Some (function_at m k)
function_there m k block at i here = on (slice_get m.functions k) refl here
  where
    on : (o : Option Function) → slice_get m.functions k ≡ o → fetch (unwrap_or o no_function) block at ≡ AtInstr i
        → slice_get m.functions k ≡ Some (function_at m k)
    on None e h = absurd (cc)
    on (Some f) e h = e ∙ ap Some (ap (λ (o : Option Function). unwrap_or o no_function) (sym e))

module _ (m : Module) (k : ℕ) (f : Function) (rules : KeepsFunctionRules m k f) (block at : ℕ) (result : Option ℕ)
    (must_tail : Bool) (ty : Option Ty) (args : List Arg) where
  -- K1
  pub not_inner : f.coroutine ≡ false → (x : Intrinsic)
      → fetch f block at ≡ AtInstr (Instr.Call result must_tail ty (Callee.Intrinsic x) args) → is_inner x ≡ false
  not_inner outside x e =
      let i : Instr = Instr.Call result must_tail ty (Callee.Intrinsic x) args in
      let y = stands_in f (point block at) i (instr_there f block at i e) in
      let z = at_each _ y.block.instrs at i
      (block_passes (misplaces Stage.Source f.coroutine) k f rules.local.misplaced block y.block y.got).instrs y.stands in
      subst (λ (b : Bool). calls_inner b z.0 i ≡ false) outside z.2

  -- P1
  pub called_by_name : (v : ℕ) → fetch f block at ≡ AtInstr (Instr.Call result must_tail ty (Callee.Local v) args) → ⊥
  called_by_name v e =
      let i : Instr = Instr.Call result must_tail ty (Callee.Local v) args in
      let y = stands_in f (point block at) i (instr_there f block at i e) in
      let z = at_each _ y.block.instrs at i
      (block_passes (points_to_functions m) k f rules.local.function_pointers block y.block y.got).instrs y.stands in
      no (list_all (is_no_function m) (part_operands (OfInstr i))) z.2
    where
      no : (b : Bool) → (not b || true) ≡ false → ⊥
      no true e = absurd (cc)
      no false e = absurd (cc)

-- ---- shapes of arguments

pub record AreTwo (args : List Arg) : Type 0 where
  pub first : Arg
  pub second : Arg
  pub are : args ≡ first ∷ second ∷ []

pub two_wanted : (v w : Wanted) (args : List Arg) → are_wanted (v ∷ w ∷ []) args ≡ true → AreTwo args
two_wanted v w [] e = absurd (false≢true e)
two_wanted v w (a ∷ []) e = absurd (false≢true (and_parts _ _ e).1)
two_wanted v w (a ∷ (b ∷ [])) e = record { first = a; second = b; are = refl }
two_wanted v w (a ∷ (b ∷ (c ∷ rest))) e = absurd (false≢true (and_parts _ _ (and_parts _ _ e).1).1)

-- the arguments of an intrinsic are those of the table
pub args_wanted : (m : Module) (f : Function) → KeepsTypes m f → (block at : ℕ) (result : Option ℕ) (must_tail : Bool)
    (ty : Option Ty) (x : Intrinsic) (args : List Arg)
    → fetch f block at ≡ AtInstr (Instr.Call result must_tail ty (Callee.Intrinsic x) args)
    → are_wanted (intrinsic_params x) args ≡ true
args_wanted m f types block at result must_tail ty x args there =
    (and_parts (is_result (intrinsic_result x) ty) (are_wanted (intrinsic_params x) args)
    (types.calls block at result must_tail ty (Callee.Intrinsic x) args there)).1
