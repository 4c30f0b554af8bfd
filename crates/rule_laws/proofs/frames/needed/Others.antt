-- Values that neither begin nor an alloca makes.
use Rattle.std.proofs.Common.{◌≡◌, ℕ, Bool, true, false, refl, ap, ◌∙◌}
use Rattle.std.specs.Prelude.{Option, Some}
use Rattle.rule_laws.proofs.rules.source_rules.Locals.{same_instr}
use Rattle.ir_laws.specs.flow_solver.Paths.{IsListed}
use Rattle.rule_laws.specs.rules.function_rules.Kept.{KeepsFunctionRules}
use Rattle.ir_parts.specs.Contents.{result_of}
use Rattle.ir_laws.specs.ir_model.Calls.{first_result}
use Rattle.ir_laws.specs.ir_model.declared.instr.Instr.{Instr}
use Rattle.ir_laws.specs.ir_model.declared.module.Block.{Block}
use Rattle.ir_laws.specs.ir_model.declared.module.Function.{Function}
use Rattle.ir_laws.specs.ir_model.declared.module.Module.{Module}
use Rattle.ir_laws.specs.ir_model.declared.operand.Callee.{Callee}
use Rattle.ir_laws.specs.ir_model.declared.operand.Intrinsic.{Intrinsic}
use Rattle.ir_laws.specs.ir_paths.Windows.{instr_at, instr_in, is_call_of}
use Rattle.ir_laws.specs.ir_paths.declared.point.Point.{Point}
use Rattle.rule_laws.proofs.frames.needed.Apart.{apart_no_value}
use Rattle.rule_laws.proofs.rules.shape.Begin.{begin_result}
use Rattle.rule_laws.proofs.rules.shape.Stands.{begin_stands}
use Rattle.frame_contents.specs.frame_crossing.Values.{is_apart, is_token_result, values_of}
use Rattle.ir_laws.proofs.facts.Truth.{or_true}

-- an alloca, or begin
abbrev pub is_address : Instr → Bool
is_address (Instr.Alloca r ty align) = true
is_address (Instr.Call r must_tail ty (Callee.Intrinsic Intrinsic.CoroBegin) args) = true
is_address _ = false

-- none of them makes the value
abbrev pub IsOther : Function → ℕ → Type 0
IsOther f v = (p : Point) (i : Instr) → instr_at f p ≡ Some i → result_of i ≡ Some v → is_address i ≡ true → ⊥

address_apart : (i : Instr) → is_address i ≡ true → is_apart i ≡ true
address_apart (Instr.Alloca r ty align) e = refl
address_apart (Instr.Call r must_tail ty (Callee.Intrinsic Intrinsic.CoroBegin) args) e = or_true (is_token_result ty)
address_apart _ e = absurd (cc)

begin_address : (i : Instr) → is_call_of Intrinsic.CoroBegin i ≡ true → is_address i ≡ true
begin_address (Instr.Call r must_tail ty (Callee.Intrinsic Intrinsic.CoroBegin) args) e = refl
begin_address _ e = absurd (cc)

no_address : (i : Instr) → is_call_of Intrinsic.CoroFrame i ≡ true → is_address i ≡ true → ⊥
no_address (Instr.Call r must_tail ty (Callee.Intrinsic Intrinsic.CoroBegin) args) e a = absurd (cc)
no_address (Instr.Alloca r ty align) e a = absurd (cc)
no_address _ e a = absurd (cc)

module _ (m : Module) (k : ℕ) (f : Function) (rules : KeepsFunctionRules m k f) where
  -- values that may cross are such
  pub value_other : (v : ℕ) → IsListed v (values_of f) → IsOther f v
  value_other v value p i there makes address = apart_no_value m k f rules v p i there makes (address_apart i address) value

  -- those of coro.frame too
  pub frame_other : (v : ℕ) (p : Point) (i : Instr) → instr_at f p ≡ Some i → is_call_of Intrinsic.CoroFrame i ≡ true → result_of i ≡ Some v → IsOther f v
  frame_other v p i there calls makes q j here makes_too address =
      let same : i ≡ j = same_instr k f rules.definitions p q i j v there here makes makes_too in
      no_address i calls (ap is_address same ∙ address)

  -- begin's value is none
  pub other_than_begin : (begin v : ℕ) → first_result Intrinsic.CoroBegin f ≡ Some begin → IsOther f v → begin ≡ v → ⊥
  other_than_begin begin v named other same =
      let s = begin_stands f begin named in
      other (record { block = s.position; at = s.at }) s.instr (ap (λ (o : Option Block). instr_in o s.at) s.got ∙ s.there) (begin_result s.instr s.calls ∙ s.makes ∙ ap (λ (n : ℕ). Some n) same) (begin_address s.instr s.calls)
