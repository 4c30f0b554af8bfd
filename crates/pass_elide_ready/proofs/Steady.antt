-- Where indices into structures are literals, no distance goes by a local that leads into one.
use Rattle.std.proofs.Common.{◌≡◌, ℕ, Bool, List, [], ◌∷◌, sym, ap, ◌∙◌, subst}
use Rattle.std.specs.Prelude.{Option, Some, slice_get, unwrap_or}
use Rattle.pass_elide_edges.proofs.pass_elide_proof.ElidedFound.{fetched}
use Rattle.pass_elide_edges.specs.pass_elide_proof.Ordinary.{AreSteady, AreSteadyInside, HasSteadyIndices, IsSteady}
use Rattle.pass_elide_edges.specs.pass_elide_proof.Places.{instrs_of}
use Rattle.pass_elide_edges.specs.pass_elide_proof.pass_proofs.ir_model.Layout.{field_type, unnamed}
use Rattle.pass_elide_edges.specs.pass_elide_proof.pass_proofs.ir_model.Ty.{Ty, array, int, named, ptr, structure, token}
use Rattle.pass_elide_edges.specs.pass_elide_proof.pass_proofs.ir_model.declared.instr.Instr.{Instr}
use Rattle.pass_elide_edges.specs.pass_elide_proof.pass_proofs.ir_model.declared.module.Function.{Function}
use Rattle.pass_elide_edges.specs.pass_elide_proof.pass_proofs.ir_model.declared.module.Module.{Module}
use Rattle.pass_elide_edges.specs.pass_elide_proof.pass_proofs.ir_model.declared.operand.Arg.{Arg}
use Rattle.pass_elide_edges.specs.pass_elide_proof.pass_proofs.ir_model.declared.operand.Operand.{Operand}
use Rattle.pass_elide_edges.specs.pass_elide_proof.pass_proofs.run_laws.transfer.Alone.{IsNoLocal}
use Rattle.pass_elide_edges.specs.pass_elide_proof.pass_proofs.run_step.Step.{AtInstr, fetch}
use Rattle.pass_elide_edges.specs.pass_elide_proof.pass_proofs.run_step.Values.{arg_value, index_of, number_at, part_at}
use Rattle.pass_split_proof.proofs.ready.Distances.{field_index}
use Rattle.pass_split_proof.specs.ready.Fields.{AreFieldIndices, AreInnerIndices, IsFieldIndex, number_in, type_inside}

abbrev own_index : Module → Arg → Option ℕ
own_index m a = index_of (number_at a.ty (arg_value m [] a))

by_type : (m : Module) (a : Arg) (args : List Arg)
    → ((u : Ty) → AreFieldIndices m u args → AreSteadyInside m u args) → (u : Ty) → IsFieldIndex u a
    → AreFieldIndices m (type_inside u a) args
    → IsSteady u a.value × AreSteadyInside m (part_at m u (own_index m a)).1 args
by_type m a args again (structure ts) x g =
    let ours = field_index m [] a x.0 x.1 x.2 x.3 in
    let number : number_in a.value ≡ x.0 = ap number_in x.2 in
    let same : field_type ts (number_in a.value) ≡ field_type ts (unwrap_or (own_index m a) 0) =
    ap (field_type ts) (number ∙ sym (ap (λ (o : Option ℕ). unwrap_or o 0) ours)) in (
      subst IsNoLocal (sym x.2) tt,
      subst (λ (u : Ty). AreSteadyInside m u args) same (again (field_type ts (number_in a.value)) g),
    )
by_type m a args again (array n t) x g = (tt, again t g)
by_type m a args again (int w) x g = (tt, again (int w) g)
by_type m a args again ptr x g = (tt, again ptr g)
by_type m a args again token x g = (tt, again token g)
by_type m a args again (named n) x g = (tt, again (named n) g)

steady_inside : (m : Module) (t : Ty) (args : List Arg) → AreFieldIndices m t args → AreSteadyInside m t args
steady_inside m t [] x = tt
steady_inside m t (a ∷ args) x = by_type m a args (λ u. steady_inside m u args) (unnamed m t) x.0 x.1

are_steady : (m : Module) (t : Ty) (args : List Arg) → AreInnerIndices m t args → AreSteady m t args
are_steady m t [] x = tt
are_steady m t (a ∷ args) x = steady_inside m t args x

pub instr_steady : (m : Module) (f : Function)
    → ((block at name : ℕ) (inbounds : Bool) (ty : Ty) (base : Operand) (indices : List Arg)
    → fetch f block at ≡ AtInstr (Instr.Gep name inbounds ty base indices) → AreInnerIndices m ty indices)
    → (block at : ℕ) (i : Instr) → slice_get (instrs_of f block) at ≡ Some i → HasSteadyIndices m i
instr_steady m f inner block at (Instr.Gep name inbounds ty base indices) there =
    are_steady m ty indices (inner block at name inbounds ty base indices
    (fetched f block at (Instr.Gep name inbounds ty base indices) there))
instr_steady m f inner block at (Instr.Binary name op flags ty a b) there = tt
instr_steady m f inner block at (Instr.Icmp name pred ty a b) there = tt
instr_steady m f inner block at (Instr.Select name x a b) there = tt
instr_steady m f inner block at (Instr.Cast name op nneg arg to) there = tt
instr_steady m f inner block at (Instr.Alloca name ty align) there = tt
instr_steady m f inner block at (Instr.Load name ty p align) there = tt
instr_steady m f inner block at (Instr.Store arg p align) there = tt
instr_steady m f inner block at (Instr.Call result must_tail ty callee args) there = tt
