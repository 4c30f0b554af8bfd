-- No instruction of a ramp that is given its frame sets the parameter for it, and no name of the coroutine is that.
use Rattle.std.proofs.Common.{◌≡◌, ℕ, ◌+◌, ◌<◌, length, Some, subst, arith}
use Rattle.std.specs.Prelude.{slice_get}
use Rattle.pass_proofs.specs.flow_solver.Paths.{IsListed}
use Rattle.pass_proofs.proofs.ir_laws.facts.Lists.{phi_names}
use Rattle.pass_proofs.specs.ir_model.declared.instr.Instr.{Instr}
use Rattle.pass_proofs.specs.ir_model.declared.module.Block.{Block}
use Rattle.pass_proofs.specs.ir_model.declared.module.Function.{Function}
use Rattle.pass_proofs.specs.ir_model.declared.module.Module.{Module}
use Rattle.pass_proofs.specs.pass_intrinsics.Shapes.{given_name, shape_of}
use Rattle.pass_proofs.specs.pass_intrinsics.declared.shape.Part.{Part}
use Rattle.pass_proofs.specs.pass_intrinsics.declared.shape.Shape.{Shape}
use Rattle.pass_proofs.proofs.rule_laws.rules.source_rules.Locals.{no_param, phi_below, result_below}
use Rattle.pass_proofs.proofs.rule_laws.rules.sources.Places.{instr_there, point}
use Rattle.pass_proofs.proofs.split.rules.GivenParams.{address_given}
use Rattle.pass_proofs.proofs.split.uses.Laws.{locals_once}
use Rattle.pass_proofs.specs.split.rules.Parted.{IsGivenRamp, IsPartOf}
use Rattle.pass_proofs.specs.split.rules.Splittable.{IsSplittable}
use Rattle.pass_split_proof.specs.places.Places.{IsCodeOf, OfCoroutine, OfPlain}
use Rattle.pass_proofs.specs.rule_uses.Undefined.{params_of}
use Rattle.pass_proofs.specs.run_laws.changed.Changed.{result_of}
use Rattle.pass_proofs.specs.run_step.Step.{AtInstr, fetch}

-- ---- of the part

pub given_unset : (f q : Function) (s : Shape) (part : Part) → IsCodeOf f q s part → part ≡ Part.GivenRamp
    → (block at : ℕ) (i : Instr) → fetch q block at ≡ AtInstr i → result_of i ≡ Some (given_name s) → ⊥
given_unset f q _ _ (OfCoroutine m k layout begin part x is) same block at i here sets = by part is same
  where
    by : (part : Part) → IsPartOf (shape_of f layout) f part q → part ≡ Part.GivenRamp → ⊥
    by Part.GivenRamp is same = no_param k q (locals_once m k k layout Part.GivenRamp begin f q x is) (point block at) i
        (given_name (shape_of f layout)) (instr_there q block at i here) sets (listed q is)
      where
        listed : (q : Function) → IsPartOf (shape_of f layout) f Part.GivenRamp q
            → IsListed (given_name (shape_of f layout)) (params_of q)
        listed _ IsGivenRamp = address_given (shape_of f layout) f
    by Part.Ramp is same = absurd (cc)
    by Part.Resume is same = absurd (cc)
    by Part.Destroy is same = absurd (cc)
    by Part.Cleanup is same = absurd (cc)
given_unset f q _ _ (OfPlain m k plain rules same) ramp block at i here sets = absurd (cc)

-- ---- of the coroutine

behind : (n : ℕ) → n + 6 < n → ⊥
behind n lt = omega arith

module _ (m : Module) (k : ℕ) (f : Function) (begin : ℕ) (x : IsSplittable m k f begin) (s : Shape)
    (base : s.base ≡ length f.names) where
  pub result_other : (block at : ℕ) (i : Instr) → fetch f block at ≡ AtInstr i
      → result_of i ≡ Some (given_name s) → ⊥
  result_other block at i here sets = behind (length f.names) (subst (λ (n : ℕ). n + 6 < length f.names) base
      (result_below k f x.rules.tabled (point block at) i (given_name s) (instr_there f block at i here) sets))

  pub phi_other : (block : ℕ) (b : Block) → slice_get f.blocks block ≡ Some b
      → IsListed (given_name s) (phi_names b.phis) → ⊥
  phi_other block b there h = behind (length f.names) (subst (λ (n : ℕ). n + 6 < length f.names) base
      (phi_below k f x.rules.tabled block b (given_name s) there h))
