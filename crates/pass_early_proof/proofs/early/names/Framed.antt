-- Lemmas on framed.
use Rattle.std.proofs.Common.{◌≡◌, ℕ, ◌-◌, Bool, true, [], ◌∷◌, length, sym, subst}
use Rattle.std.specs.Prelude.{None, Option, Some, codes, if◌then◌else◌}
use Rattle.pass_early.specs.BeginName.{if_unnamed, with_begin_name}
use Rattle.pass_early.specs.Early.{early_function, early_named, renaming_of, after_blocks as after_early}
use Rattle.ir_model.specs.Calls.{first_result}
use Rattle.ir_model.specs.declared.module.Function.{Function}
use Rattle.ir_model.specs.declared.operand.Intrinsic.{Intrinsic}
use Rattle.rule_laws.proofs.rules.names_apart.Steps.{IsStep, no_begin_step, then_step}
use Rattle.pass_early_proof.proofs.early.names.Steps.{begin_step, saves_step}
use Rattle.rule_laws.specs.rules.names_apart.Words.{AreFew, IsTableOf, early_words}

-- ---- the first pass

with_begin : (f : Function) → IsStep [] (codes "$c.begin" ∷ []) f.names (with_begin_name f).names
with_begin f = on (first_result Intrinsic.CoroBegin f)
  where
    on : (o : Option ℕ) → IsStep [] (codes "$c.begin" ∷ []) f.names (if_unnamed o f).names
    on None = begin_step f.names
    on (Some n) = no_begin_step f.names

named_saves : (f : Function) → IsStep (codes "$c.begin" ∷ []) early_words f.names (early_named f).names
named_saves f = saves_step f.names (after_early (renaming_of f) (length f.names) f.blocks - length f.names)

pub early_step : (f : Function) → f.coroutine ≡ true → IsStep [] early_words f.names (early_function f).names
early_step f c =
    let g : Function = with_begin_name f in
    subst (λ (b : Bool). IsStep [] early_words f.names (if b then early_named g else f).names) (sym c)
    (then_step [] (codes "$c.begin" ∷ []) early_words f.names g.names (early_named g).names (with_begin f) (named_saves g))

-- ---- both

pub early_table : (f : Function) → f.coroutine ≡ true → IsTableOf [] f.names → AreFew (early_function f).names → IsTableOf early_words (early_function f).names
early_table f c h few = (early_step f c).table few h
