-- Phis that take the same operands set the same names to the same values.
use Rattle.std.proofs.Common.{◌≡◌, ℕ, List, [], ◌∷◌, refl, sym, ap, ◌∙◌}
use Rattle.std.specs.Prelude.{map, slice_get}
use Rattle.pass_proofs.specs.ir_model.Names.{position_of}
use Rattle.pass_proofs.specs.ir_model.Ty.{Ty}
use Rattle.pass_proofs.specs.ir_model.declared.instr.Phi.{Phi}
use Rattle.pass_proofs.specs.ir_model.declared.module.Function.{Function}
use Rattle.pass_proofs.specs.ir_model.declared.module.Module.{Module}
use Rattle.pass_proofs.specs.ir_model.declared.operand.Operand.{Operand}
use Rattle.pass_proofs.specs.pass_intrinsics.declared.shape.Part.{Part}
use Rattle.pass_proofs.specs.pass_intrinsics.declared.shape.Shape.{Shape}
use Rattle.pass_split_proof.specs.places.Places.{Enters, entering}
use Rattle.pass_proofs.specs.run_memory.declared.pointer.Value.{Value}
use Rattle.pass_proofs.specs.run_step.Step.{incoming_from, label_of, phi_values, phis_of, values_in, with_all}
use Rattle.pass_proofs.specs.run_step.Values.{Env, operand_value}

module _ (m : Module) (env : Env) where
  abbrev valued : ℕ × (Ty × Operand) → ℕ × Value
  valued x = (x.0, operand_value m env x.1.0 x.1.1)

  by_entering : (label : ℕ) (ps : List Phi) → phi_values m env label ps ≡ map valued (entering label ps)
  by_entering label [] = refl
  by_entering label (p ∷ ps)
      = ap (λ (xs : List (ℕ × Value)). valued (p.result, (p.ty, incoming_from p.incoming label)) ∷ xs)
      (by_entering label ps)

  pub same_values : (s : Shape) (part : Part) (f g : Function) (block from label : ℕ)
      → Enters s part f g block from label → values_in m (slice_get g.blocks (position_of g label))
      (label_of (slice_get g.blocks from)) env ≡ values_in m (slice_get f.blocks (position_of f label))
      (label_of (slice_get f.blocks block)) env
  same_values s part f g block from label e =
      ap (with_all env)
      (by_entering (label_of (slice_get g.blocks from)) (phis_of (slice_get g.blocks (position_of g label)))
      ∙ ap (map valued) e.phis
      ∙ sym (by_entering (label_of (slice_get f.blocks block)) (phis_of (slice_get f.blocks (position_of f label)))))
