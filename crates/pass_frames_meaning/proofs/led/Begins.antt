-- Where begin stands that gives the name.
use Rattle.std.proofs.Common.{◌≡◌, ℕ, true, Option, Some, None, refl, sym, ap, ◌∙◌}
use Rattle.std.specs.Prelude.{option_and_then, slice_get}
use Rattle.pass_frames_proof.specs.ir_model.declared.instr.Instr.{Instr}
use Rattle.pass_frames_proof.specs.ir_model.declared.module.Function.{Function}
use Rattle.pass_frames_proof.specs.ir_model.declared.operand.Callee.{Callee}
use Rattle.pass_frames_proof.specs.ir_model.declared.operand.Intrinsic.{Intrinsic}
use Rattle.pass_frames_proof.specs.ir_paths.Windows.{call_result, instr_at, is_call_of, points_where}
use Rattle.pass_frames_proof.specs.ir_paths.declared.point.Point.{Point}
use Rattle.pass_frames_meaning.specs.Led.{IsBegin}
use Rattle.pass_frames_proof.proofs.pass_kept_proof.Rules.{where_is}
use Rattle.pass_frames_proof.specs.pass_kept_proof.Needed.{given_by}
use Rattle.pass_frames_proof.proofs.pass_renewed_proof.Left.{instr_there}
use Rattle.pass_frames_proof.specs.run_framed.Framed.{begin_name}
use Rattle.pass_frames_proof.specs.run_laws.changed.Changed.{result_at, result_of}
use Rattle.pass_frames_proof.specs.run_step.Step.{AtInstr, fetch}

-- where begin stands that gives the name
pub record HasBegin (f : Function) (v : ℕ) : Type 0 where
  pub point : Point
  pub instr : Instr
  pub there : instr_at f point ≡ Some instr
  pub stands : fetch f point.block point.at ≡ AtInstr instr
  pub begins : IsBegin instr
  pub gives : result_of instr ≡ Some v
  pub named : result_at (AtInstr instr) ≡ Some v
  pub given : given_by instr ≡ Some v

is_begin : (i : Instr) (v : ℕ) → is_call_of Intrinsic.CoroBegin i ≡ true
    → call_result i ≡ Some v → IsBegin i × (result_of i ≡ Some v) × (result_at (AtInstr i) ≡ Some v)
    × (given_by i ≡ Some v)
is_begin (Instr.Call result must_tail ty (Callee.Intrinsic Intrinsic.CoroBegin) args) v is e = (tt, e, e, e)
is_begin _ v is e = absurd (cc)

pub has_begin : (f : Function) (v : ℕ) → begin_name f ≡ Some v → HasBegin f v
has_begin f v e = on (slice_get (points_where (is_call_of Intrinsic.CoroBegin) f) 0) refl e
  where
    on : (o : Option Point) → slice_get (points_where (is_call_of Intrinsic.CoroBegin) f) 0 ≡ o
        → option_and_then call_result (option_and_then (instr_at f) o) ≡ Some v → HasBegin f v
    on None eo j = absurd (cc)
    on (Some p) eo j =
        let r = where_is (is_call_of Intrinsic.CoroBegin) f p eo in
        let at = instr_there f p r.0 r.1 in
        let b = is_begin r.0 v r.2 (ap (option_and_then call_result) (sym at) ∙ j) in
        record {
          point = p;
          instr = r.0;
          there = at;
          stands = r.1;
          begins = b.0;
          gives = b.1;
          named = b.2;
          given = b.3;
        }
