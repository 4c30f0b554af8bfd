-- Suspends of a coroutine take tokens, and their results are kept nowhere.
use Rattle.std.proofs.Common.{◌≡◌, ℕ, Bool, true, List, [], ◌∷◌, length, Option, Some, None, refl}
use Rattle.std.specs.Prelude.{is_some}
use Rattle.compiler_theorem.proofs.parts.Saved.{each_saved}
use Rattle.compiler_theorem.proofs.parts.Tokens.{HasTokens}
use Rattle.compiler.specs.frame_crossing.Crossing.{AreCrossing}
use Rattle.compiler.proofs.ir_laws.paths.begin_order.Framed.{get_listed}
use Rattle.compiler.proofs.ir_laws.facts.Members.{at_each}
use Rattle.compiler.proofs.ir_laws.paths.renamed.Uses.{stands_in}
use Rattle.compiler.proofs.ir_laws.paths.shape.Fetched.{ordered_value}
use Rattle.compiler.specs.ir_model.Ty.{Ty}
use Rattle.compiler.specs.ir_model.declared.instr.Instr.{Instr}
use Rattle.compiler.specs.ir_model.declared.module.Function.{Function}
use Rattle.compiler.specs.ir_model.declared.module.Module.{Module}
use Rattle.compiler.specs.ir_model.declared.operand.Arg.{Arg}
use Rattle.compiler.specs.ir_model.declared.operand.Callee.{Callee}
use Rattle.compiler.specs.ir_model.declared.operand.Intrinsic.{Intrinsic}
use Rattle.compiler.specs.ir_model.declared.operand.Operand.{Operand}
use Rattle.compiler.specs.ir_paths.Windows.{operand_at}
use Rattle.pass_frames_meaning.specs.Ends.{IsToldSuspend}
use Rattle.pass_frames_meaning.specs.pass_frames_proof.Places.{Framing, edged}
use Rattle.compiler.specs.pass_intrinsics.Shapes.{save_of, token_of}
use Rattle.compiler.proofs.pass_proofs.cells.shape.Unneeded.{unplaced}
use Rattle.compiler.proofs.rule_laws.rules.shape.Ordered.{IsSuspendValue, all_ordered, placed_calls}
use Rattle.compiler.proofs.rule_laws.rules.sources.Places.{instr_there, point}
use Rattle.compiler.specs.rule_laws.rules.function_rules.Kept.{KeepsFunctionRules}
use Rattle.compiler.specs.rule_shape.OneOfEach.{wrong_call}
use Rattle.compiler.specs.rule_shape.Switches.{wrong_switch}
use Rattle.compiler.specs.run_step.Step.{AtInstr, fetch}

-- the token of a first operand that is a local
local_token : (o : Operand) → is_some (token_of o) ≡ true → (n : ℕ) × (o ≡ Operand.Local n)
local_token (Operand.Local n) e = (n, refl)
local_token (Operand.Global n) e = absurd (cc)
local_token (Operand.Number z) e = absurd (cc)
local_token Operand.True e = absurd (cc)
local_token Operand.False e = absurd (cc)
local_token Operand.Null e = absurd (cc)
local_token Operand.None e = absurd (cc)
local_token Operand.Poison e = absurd (cc)

first_token : (args : List Arg) → is_some (save_of args) ≡ true → (n : ℕ) × (operand_at args 0 ≡ Operand.Local n)
first_token [] e = absurd (cc)
first_token (a ∷ args) e = local_token a.value e

module _ (m : Module) (k : ℕ) (x : Framing) (rules : KeepsFunctionRules m k (edged x))
    (coroutine : (edged x).coroutine ≡ true) (calls : wrong_call k (edged x) ≡ None)
    (switches : wrong_switch k (edged x) ≡ None) (tokens : HasTokens k (edged x))
    (crossed : AreCrossing (edged x) x.contents.crossing) where
  abbrev f : Function
  f = edged x

  module _ (block at : ℕ) (result : Option ℕ) (must_tail : Bool) (ty : Option Ty) (args : List Arg)
      (there : fetch (edged x) block at
      ≡ AtInstr (Instr.Call result must_tail ty (Callee.Intrinsic Intrinsic.CoroSuspend) args)) where
    abbrev i : Instr
    i = Instr.Call result must_tail ty (Callee.Intrinsic Intrinsic.CoroSuspend) args

    -- a suspend's result
    value : (n : ℕ) → result ≡ Some n → IsSuspendValue (edged x) n
    value n e =
        let z = stands_in f (point block at) i (instr_there f block at i there) in
        ordered_value (IsSuspendValue f) (length z.block.phis) z.block.instrs
        (at_each _ f.blocks block z.block (all_ordered (IsSuspendValue f) f.blocks
        (placed_calls k f coroutine calls switches)) z.got) at i z.stands refl n e

    saved : is_some (save_of args) ≡ true
    saved =
        let z = stands_in f (point block at) i (instr_there f block at i there) in
        each_saved m k f rules tokens z.block (get_listed f.blocks block z.block z.got) i
        (get_listed z.block.instrs at i z.stands)

    pub told_suspend : IsToldSuspend x result args
    told_suspend =
        let t = first_token args saved in
        record {
          token = t.0;
          takes = t.1;
          unkept = λ n e. unplaced k f coroutine switches n (value n e) x.contents.crossing crossed;
        }
