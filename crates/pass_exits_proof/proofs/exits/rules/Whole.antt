-- Lemmas on whole.
use Rattle.std.proofs.Common.{◌≡◌, ℕ, true, None, ap, arith, refl, sym, ◌∙◌}
use Rattle.pass_fetch_proof.specs.rule_shape.OneOfEach.{wrong_call}
use Rattle.pass_fetch_proof.specs.rule_shape.Switches.{wrong_switch}
use Rattle.ir_model.specs.Calls.{first_result}
use Rattle.ir_model.specs.declared.module.Function.{Function}
use Rattle.ir_model.specs.declared.operand.Intrinsic.{Intrinsic}
use Rattle.pass_split.specs.pass_exits.ExitBlocks.{with_exit_blocks}
use Rattle.pass_fetch_proof.proofs.rule_laws.rules.woven_shape.Found.{made, not_begin, result_made}
use Rattle.pass_fetch_proof.proofs.rule_laws.rules.woven_shape.OneOfEach.{wrong_call_same}
use Rattle.pass_fetch_proof.proofs.rule_laws.rules.woven_shape.Switches.{wrong_switch_same}
use Rattle.pass_exits_proof.proofs.exits.rules.Shape.{same_calls, same_uses}

-- ---- calls

pub same_begin : (f : Function) → first_result Intrinsic.CoroBegin (with_exit_blocks f) ≡ first_result Intrinsic.CoroBegin f
same_begin f = result_made Intrinsic.CoroBegin not_begin (with_exit_blocks f) ∙ ap (made Intrinsic.CoroBegin) (same_calls f) ∙ sym (result_made Intrinsic.CoroBegin not_begin f)

pub calls_kept : (k : ℕ) (f : Function) → f.coroutine ≡ true → wrong_call k f ≡ None → wrong_call k (with_exit_blocks f) ≡ None
calls_kept k f coroutine calls = wrong_call_same k f (with_exit_blocks f) (same_calls f) coroutine calls refl

pub switches_kept : (k : ℕ) (f : Function) → f.coroutine ≡ true → wrong_switch k f ≡ None → wrong_switch k (with_exit_blocks f) ≡ None
switches_kept k f coroutine switches = wrong_switch_same k f (with_exit_blocks f) (same_calls f) (λ c v l s e. let same = same_uses f v in omega (arith, same)) coroutine switches refl
