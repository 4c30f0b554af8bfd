-- A state that passes lacks nothing.
use Rattle.std.proofs.Common.{◌≡◌, ◌∙◌, ℕ, Bool, true, List, Option, ap, sym}
use Rattle.std.specs.Prelude.{◌==◌, ◌||◌, not, ◌&&◌, Some, slice_get}
use Rattle.pass_elide_apart.specs.pass_elide_proof.Beginning.{BeginsInFrameSize}
use Rattle.pass_elide_apart.specs.pass_elide_proof.Elision.{Elision, function_in}
use Rattle.pass_elide_apart.specs.pass_elide_proof.Match.{frame_size}
use Rattle.pass_elide_apart.specs.pass_elide_proof.Places.{instrs_of}
use Rattle.pass_elide_apart.specs.pass_elide_proof.Placing.{HasShape}
use Rattle.pass_elide_apart.proofs.pass_proofs.ir_laws.facts.Truth.{equal_numbers}
use Rattle.pass_elide_apart.specs.pass_proofs.ir_model.Ty.{Ty}
use Rattle.pass_elide_apart.specs.pass_proofs.ir_model.declared.instr.Instr.{Instr}
use Rattle.pass_elide_apart.specs.pass_proofs.ir_model.declared.operand.Arg.{Arg}
use Rattle.pass_elide_apart.specs.pass_proofs.ir_model.declared.operand.Callee.{Callee}
use Rattle.pass_elide_apart.specs.pass_proofs.ir_model.declared.operand.Intrinsic.{Intrinsic}
use Rattle.pass_elide_apart.specs.pass_proofs.run_source.declared.state.Mode.{Mode}
use Rattle.pass_elide_apart.specs.pass_proofs.run_source.declared.state.State.{State}
use Rattle.pass_elide_apart.specs.pass_proofs.run_step.Values.{arg_values, nth, pointer_to}
use Rattle.pass_elide_meaning.specs.Lacks.{LacksFramed}
use Rattle.pass_elide_theorem.specs.Exact.{CoversShapes, begins_exactly, has_size, is_exact, is_ramp, leads_to_frame_size}

module _ (e : Elision) (callees : ℕ → Bool) (covers : CoversShapes e callees) (s : State)
    (passes : is_exact e callees s ≡ true) where
  abbrev here : Option Instr
  here = slice_get (instrs_of (function_in e s.top.func) s.top.block) s.top.at

  asked : (ramp callee : Bool) (rest : Bool) → ramp ≡ true → callee ≡ true
      → (not (ramp && callee) || rest) ≡ true → rest ≡ true
  asked ramp callee rest is_ramp is_callee h =
      sym (λ j. not (is_ramp j && is_callee j) || rest) ∙ h

  module _ (result : Option ℕ) (must_tail : Bool) (ty : Option Ty) (args : List Arg)
      (there : here ≡ Some (Instr.Call result must_tail ty (Callee.Intrinsic Intrinsic.CoroBegin) args))
      (mode : s.top.mode ≡ Mode.Ramp) (shape : HasShape e s.top.func) where
    leads : leads_to_frame_size e s (nth (arg_values e.code s.top.values args) 1) ≡ true
    leads =
        sym (ap (begins_exactly e s) there)
        ∙ asked (is_ramp s.top.mode) (callees s.top.func) (begins_exactly e s here) (ap is_ramp mode)
        (covers s.top.func shape) passes

    sized : BeginsInFrameSize e s args
    sized block z is at =
        let of_block : leads_to_frame_size e s (pointer_to block) ≡ true
        = sym (ap (leads_to_frame_size e s) is) ∙ leads in
        let of_size : has_size (frame_size e s.top.func) (Some z) ≡ true
        = sym (ap (has_size (frame_size e s.top.func)) at) ∙ of_block in
        equal_numbers z.size (frame_size e s.top.func) of_size

  pub exact_lacks : LacksFramed e s
  exact_lacks = record {
    exact = λ result must_tail ty args there mode shape. sized result must_tail ty args there mode shape;
  }
