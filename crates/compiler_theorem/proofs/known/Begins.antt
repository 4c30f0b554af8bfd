-- The name that begin gives, of a coroutine and of each other function with blocks on edges.
use Rattle.std.proofs.Common.{◌≡◌, ℕ, true, false, List, [], ◌∷◌, Option, Some, None, refl, sym, ap, ◌∙◌}
use Rattle.std.specs.Prelude.{option_and_then, slice_get, unwrap_or}
use Rattle.compiler.proofs.ir_laws.paths.path_rules.Where.{where_has}
use Rattle.compiler.specs.ir_model.declared.instr.Instr.{Instr}
use Rattle.compiler.specs.ir_model.declared.module.Block.{Block}
use Rattle.compiler.specs.ir_model.declared.module.Function.{Function}
use Rattle.compiler.specs.ir_model.declared.module.Module.{Module}
use Rattle.compiler.specs.ir_model.declared.operand.Callee.{Callee}
use Rattle.compiler.specs.ir_model.declared.operand.Intrinsic.{Intrinsic}
use Rattle.compiler.specs.ir_paths.Paths.{has_point}
use Rattle.compiler.specs.ir_paths.Windows.{call_result, instr_at, instr_in, is_call_of, points_where}
use Rattle.compiler.specs.ir_paths.declared.point.Point.{Point}
use Rattle.compiler.specs.pass_frames.Framed.{begin_of}
use Rattle.pass_frames_meaning.proofs.begun.Begun.{first}
use Rattle.pass_frames_meaning.specs.Led.{IsBegin}
use Rattle.pass_frames_meaning.specs.pass_frames_proof.Framings.{IsFraming}
use Rattle.pass_frames_meaning.specs.pass_frames_proof.Places.{Framing, edged}
use Rattle.compiler.proofs.pass_kept_proof.Rules.{where_is}
use Rattle.compiler.proofs.rule_laws.rules.shape.Stands.{StandsAt, begin_stands}
use Rattle.compiler.proofs.rule_laws.rules.source_rules.Once.{one_begin}
use Rattle.compiler.proofs.rule_laws.rules.sources.Places.{instr_there, point}
use Rattle.compiler.specs.rule_laws.rules.function_rules.Kept.{KeepsFunctionRules}
use Rattle.run_accepted.proofs.Plain.{begin_inside, no_call}
use Rattle.compiler.specs.run_framed.Framed.{begin_name}
use Rattle.compiler.specs.run_step.Step.{AtInstr, fetch}

pub calls_begin : (i : Instr) → IsBegin i → is_call_of Intrinsic.CoroBegin i ≡ true
calls_begin (Instr.Call result must_tail ty (Callee.Intrinsic Intrinsic.CoroBegin) args) b = refl
calls_begin _ b = absurd b

-- ---- a coroutine

module _ (x : Framing) (is : IsFraming x) where
  abbrev f : Function
  f = edged x

  -- K2: it is the one that stands first
  pub begin_named : (p : Point) (i : Instr) → instr_at f p ≡ Some i → is_call_of Intrinsic.CoroBegin i ≡ true
      → begin_name f ≡ call_result i
  begin_named p i there calls = on (slice_get (points_where (is_call_of Intrinsic.CoroBegin) f) 0) refl
    where
      none : (ps : List Point) → has_point ps p ≡ true → slice_get ps 0 ≡ None → ⊥
      none [] h e = absurd (cc)
      none (q ∷ ps) h e = absurd (cc)

      on : (o : Option Point) → slice_get (points_where (is_call_of Intrinsic.CoroBegin) f) 0 ≡ o
          → option_and_then call_result (option_and_then (instr_at f) o) ≡ call_result i
      on None e = absurd (none (points_where (is_call_of Intrinsic.CoroBegin) f)
          (where_has (is_call_of Intrinsic.CoroBegin) f p i there calls) e)
      on (Some q) e =
          let r = where_is (is_call_of Intrinsic.CoroBegin) f q e in
          let same : p ≡ q = one_begin is.position f is.frameable.coroutine is.frameable.calls p q i r.0 there
          (instr_there f q.block q.at r.0 r.1) calls r.2 in
          ap (λ (z : Point). option_and_then call_result (instr_at f z)) (sym same)
          ∙ ap (option_and_then call_result) there

  stands : StandsAt f Intrinsic.CoroBegin is.begin
  stands = begin_stands f is.begin (first x is)

  pub begin_is : begin_name f ≡ Some (begin_of x.function)
  begin_is =
      begin_named (point stands.position stands.at) stands.instr
      (ap (λ (o : Option Block). instr_in o stands.at) stands.got ∙ stands.there) stands.calls
      ∙ stands.makes ∙ ap Some (sym (ap (λ (o : Option ℕ). unwrap_or o 0) is.frameable.begins))

-- ---- a function that is no coroutine

module _ (m : Module) (k : ℕ) (f : Function) (rules : KeepsFunctionRules m k f) (plain : f.coroutine ≡ false) where
  pub no_begin : (block at : ℕ) (i : Instr) → fetch f block at ≡ AtInstr i → IsBegin i → ⊥
  no_begin block at i there begins = no_call m k f rules plain Intrinsic.CoroBegin begin_inside (point block at)
      (record { instr = i; stands = there; is = calls_begin i begins })
