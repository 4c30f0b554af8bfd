-- An address in a slot is of that slot alone, since one instruction gives a name (N1).
use Rattle.std.proofs.Common.{◌≡◌, inl, inr, ℕ, zero, suc, Bool, true, List, refl, sym, ap, ◌∙◌, subst, Option, Some}
use Rattle.std.specs.Prelude.{flat_map}
use Rattle.compiler_theorem.proofs.theorem.Needed.{named_in}
use Rattle.compiler.specs.flow_solver.Paths.{IsListed}
use Rattle.compiler.specs.ir_model.Ty.{Ty}
use Rattle.compiler.specs.ir_model.declared.instr.Instr.{Instr}
use Rattle.compiler.specs.ir_model.declared.module.Block.{Block}
use Rattle.compiler.specs.ir_model.declared.module.Function.{Function}
use Rattle.compiler.specs.ir_model.declared.module.Module.{Module}
use Rattle.compiler.specs.ir_model.declared.operand.Arg.{Arg}
use Rattle.compiler.specs.ir_model.declared.operand.Operand.{Operand}
use Rattle.compiler.specs.ir_paths.Slots.{addresses_within, geps_from, has_name}
use Rattle.compiler.specs.ir_paths.Windows.{instr_at, instr_in}
use Rattle.compiler.specs.ir_paths.declared.point.Point.{Point}
use Rattle.compiler.proofs.pass_kept_proof.Read.{listed_by_name}
use Rattle.compiler.proofs.rule_laws.rules.source_rules.Locals.{same_result}
use Rattle.compiler.proofs.rule_laws.rules.source_rules.Slots.{HasAlloca}
use Rattle.compiler.proofs.rule_laws.rules.sources.Places.{point}
use Rattle.compiler.specs.rule_laws.rules.function_rules.Kept.{KeepsFunctionRules}
use Rattle.run_accepted.proofs.Slots.{part_of}

-- a getelementptr of such a base gives a name
pub record IsGepOf (f : Function) (is_base : ℕ → Bool) (v : ℕ) : Type 0 where
  pub place : Point
  pub inbounds : Bool
  pub ty : Ty
  pub base : ℕ
  pub indices : List Arg
  pub there : instr_at f place ≡ Some (Instr.Gep v inbounds ty (Operand.Local base) indices)
  pub of_base : is_base base ≡ true

pub gep_of : (f : Function) (is_base : ℕ → Bool) (v : ℕ)
    → IsListed v (flat_map (λ b. geps_from is_base b.instrs) f.blocks) → IsGepOf f is_base v
gep_of f is_base v l =
    let x = part_of is_base f.blocks v (named_in v (flat_map (λ b. geps_from is_base b.instrs) f.blocks) l) in
    record {
      place = point x.block x.part.at;
      inbounds = x.part.inbounds;
      ty = x.part.ty;
      base = x.part.base;
      indices = x.part.indices;
      there = ap (λ (o : Option Block). instr_in o x.part.at) x.got ∙ x.part.stands;
      of_base = x.part.passes;
    }

module _ (m : Module) (k : ℕ) (g : Function) (rules : KeepsFunctionRules m k g) where
  -- one instruction gives a name
  pub no_gep : (a : ℕ) → HasAlloca g a → (is_base : ℕ → Bool) → IsGepOf g is_base a → ⊥
  no_gep a x is_base y =
      let i : Instr = Instr.Alloca a x.ty x.align in
      let j : Instr = Instr.Gep a y.inbounds y.ty (Operand.Local y.base) y.indices in
      let place : x.point ≡ y.place = same_result k g rules.definitions x.point y.place i j a x.stands y.there refl refl in
      let both : Some i ≡ Some j = sym x.stands ∙ ap (instr_at g) place ∙ y.there in
      absurd (cc)

  pub same_base : (v : ℕ) (p q : ℕ → Bool) (x : IsGepOf g p v) (y : IsGepOf g q v) → x.base ≡ y.base
  same_base v p q x y =
      let i : Instr = Instr.Gep v x.inbounds x.ty (Operand.Local x.base) x.indices in
      let j : Instr = Instr.Gep v y.inbounds y.ty (Operand.Local y.base) y.indices in
      let place : x.place ≡ y.place = same_result k g rules.definitions x.place y.place i j v x.there y.there refl refl in
      let both : Some i ≡ Some j = sym x.there ∙ ap (instr_at g) place ∙ y.there in
      cc

  -- so an address is of one slot
  pub one_root : (n l : ℕ) (a b v : ℕ) → HasAlloca g a → HasAlloca g b → IsListed v (addresses_within n g a)
      → IsListed v (addresses_within l g b) → a ≡ b
  one_root zero zero a b v x y (inl e) (inl d) = sym e ∙ d
  one_root zero zero a b v x y (inl e) (inr d) = absurd d
  one_root zero l a b v x y (inr e) d = absurd e
  one_root zero (suc l) a b v x y (inl e) (inl d) = sym e ∙ d
  one_root zero (suc l) a b v x y (inl e) (inr d) = absurd (no_gep a x (has_name (addresses_within l g b))
      (gep_of g (has_name (addresses_within l g b)) a (subst (λ (u : ℕ). IsListed u (flat_map
      (λ c. geps_from (has_name (addresses_within l g b)) c.instrs) g.blocks)) e d)))
  one_root (suc n) zero a b v x y (inl e) (inl d) = sym e ∙ d
  one_root (suc n) zero a b v x y (inr e) (inl d) = absurd (no_gep b y (has_name (addresses_within n g a))
      (gep_of g (has_name (addresses_within n g a)) b (subst (λ (u : ℕ). IsListed u (flat_map
      (λ c. geps_from (has_name (addresses_within n g a)) c.instrs) g.blocks)) d e)))
  one_root (suc n) zero a b v x y e (inr d) = absurd d
  one_root (suc n) (suc l) a b v x y (inl e) (inl d) = sym e ∙ d
  one_root (suc n) (suc l) a b v x y (inl e) (inr d) = absurd (no_gep a x (has_name (addresses_within l g b))
      (gep_of g (has_name (addresses_within l g b)) a (subst (λ (u : ℕ). IsListed u (flat_map
      (λ c. geps_from (has_name (addresses_within l g b)) c.instrs) g.blocks)) e d)))
  one_root (suc n) (suc l) a b v x y (inr e) (inl d) = absurd (no_gep b y (has_name (addresses_within n g a))
      (gep_of g (has_name (addresses_within n g a)) b (subst (λ (u : ℕ). IsListed u (flat_map
      (λ c. geps_from (has_name (addresses_within n g a)) c.instrs) g.blocks)) d e)))
  one_root (suc n) (suc l) a b v x y (inr e) (inr d) =
      let p = gep_of g (has_name (addresses_within n g a)) v e in
      let q = gep_of g (has_name (addresses_within l g b)) v d in
      let same = same_base v (has_name (addresses_within n g a)) (has_name (addresses_within l g b)) p q in
      one_root n l a b p.base x y (listed_by_name (addresses_within n g a) p.base p.of_base)
      (subst (λ (u : ℕ). IsListed u (addresses_within l g b)) (sym same)
      (listed_by_name (addresses_within l g b) q.base q.of_base))
