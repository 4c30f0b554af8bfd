-- Getelementptrs are told by the table of bases, and addresses of a slot have chains to it.
use Rattle.std.proofs.Common.{◌≡◌, inl, inr, ⊎_elim, ℕ, zero, suc, Bool, List, [], ◌∷◌, Option, Some, None, refl, sym, ap, ◌∙◌, subst}
use Rattle.std.specs.Prelude.{slice_get, ◌==◌}
use Rattle.compiler_theorem.proofs.theorem.Roots.{IsGepOf, gep_of, no_gep, same_base}
use Rattle.compiler_theorem.proofs.woken.Doubling.{Path, base_listed, base_told}
use Rattle.compiler.specs.flow_facts.Chains.{bases_by, bases_in}
use Rattle.compiler.specs.flow_solver.Paths.{IsListed}
use Rattle.compiler.proofs.ir_laws.facts.Truth.{itself}
use Rattle.compiler.proofs.ir_laws.paths.source_rules.Locals.{listed_either, listed_left, listed_right}
use Rattle.compiler.specs.ir_model.Ty.{Ty}
use Rattle.compiler.specs.ir_model.declared.instr.Instr.{Instr}
use Rattle.compiler.specs.ir_model.declared.module.Block.{Block}
use Rattle.compiler.specs.ir_model.declared.module.Function.{Function}
use Rattle.compiler.specs.ir_model.declared.module.Module.{Module}
use Rattle.compiler.specs.ir_model.declared.operand.Arg.{Arg}
use Rattle.compiler.specs.ir_model.declared.operand.Operand.{Operand}
use Rattle.compiler.specs.ir_paths.Slots.{addresses_within, has_name}
use Rattle.compiler.specs.ir_paths.Windows.{instr_in}
use Rattle.compiler.specs.pass_cells.Kept.{entry}
use Rattle.compiler.specs.pass_cells.Links.{bases_of}
use Rattle.compiler.proofs.pass_kept_proof.Read.{listed_by_name}
use Rattle.compiler.proofs.rule_laws.rules.source_rules.Locals.{result_below}
use Rattle.compiler.proofs.rule_laws.rules.source_rules.Slots.{HasAlloca}
use Rattle.compiler.proofs.rule_laws.rules.sources.Places.{point}
use Rattle.compiler.specs.rule_laws.rules.function_rules.Kept.{KeepsFunctionRules}

-- ---- pairs of names and bases are of getelementptrs

record IsGepIn (is : List Instr) (v u : ℕ) : Type 0 where
  at : ℕ
  inbounds : Bool
  ty : Ty
  indices : List Arg
  there : slice_get is at ≡ Some (Instr.Gep v inbounds ty (Operand.Local u) indices)

further : (i : Instr) (is : List Instr) (v u : ℕ) → IsGepIn is v u → IsGepIn (i ∷ is) v u
further i is v u x =
    record { at = suc x.at; inbounds = x.inbounds; ty = x.ty; indices = x.indices; there = x.there }

pair_in : (is : List Instr) (v u : ℕ) → IsListed {X = ℕ × ℕ} (v, u) (bases_in is) → IsGepIn is v u
pair_in [] v u l = absurd l
pair_in (Instr.Gep r inbounds ty (Operand.Local b) indices ∷ is) v u (inl e) = record {
  at = 0;
  inbounds = inbounds;
  ty = ty;
  indices = indices;
  there = λ j. Some (Instr.Gep (sym e j).0 inbounds ty (Operand.Local (sym e j).1) indices);
}
pair_in (Instr.Gep r inbounds ty (Operand.Local b) indices ∷ is) v u (inr l) =
    further (Instr.Gep r inbounds ty (Operand.Local b) indices) is v u (pair_in is v u l)
pair_in (i ∷ is) v u l = further i is v u (pair_in is v u l)

record IsGepBy (bs : List Block) (v u : ℕ) : Type 0 where
  block : ℕ
  own : Block
  got : slice_get bs block ≡ Some own
  gep : IsGepIn own.instrs v u

pair_by : (bs : List Block) (v u : ℕ) → IsListed {X = ℕ × ℕ} (v, u) (bases_by bs) → IsGepBy bs v u
pair_by [] v u l = absurd l
pair_by (b ∷ bs) v u l = ⊎_elim
    (λ (here : IsListed {X = ℕ × ℕ} (v, u) (bases_in b.instrs)).
    record { block = 0; own = b; got = refl; gep = pair_in b.instrs v u here })
    (λ (more : IsListed {X = ℕ × ℕ} (v, u) (bases_by bs)).
    let x = pair_by bs v u more in record { block = suc x.block; own = x.own; got = x.got; gep = x.gep })
    (listed_either {A = ℕ × ℕ} (v, u) (bases_in b.instrs) (bases_by bs) l)

pair_gep : (f : Function) (v u : ℕ) → IsListed {X = ℕ × ℕ} (v, u) (bases_by f.blocks)
    → (x : IsGepOf f (λ (n : ℕ). n == u) v) × (x.base ≡ u)
pair_gep f v u l =
    let x = pair_by f.blocks v u l in (
      record {
        place = point x.block x.gep.at;
        inbounds = x.gep.inbounds;
        ty = x.gep.ty;
        base = u;
        indices = x.gep.indices;
        there = ap (λ (o : Option Block). instr_in o x.gep.at) x.got ∙ x.gep.there;
        of_base = itself u;
      },
      refl,
    )

in_pair : (is : List Instr) (at v u : ℕ) (inbounds : Bool) (ty : Ty) (indices : List Arg)
    → slice_get is at ≡ Some (Instr.Gep v inbounds ty (Operand.Local u) indices)
    → IsListed {X = ℕ × ℕ} (v, u) (bases_in is)
in_pair [] at v u inbounds ty indices e = absurd (cc)
in_pair (i ∷ is) zero v u inbounds ty indices e =
    let same : i ≡ Instr.Gep v inbounds ty (Operand.Local u) indices = cc in
    subst (λ (j : Instr). IsListed {X = ℕ × ℕ} (v, u) (bases_in (j ∷ is))) (sym same) (inl refl)
in_pair (i ∷ is) (suc at) v u inbounds ty indices e = on i (in_pair is at v u inbounds ty indices e)
  where
    on : (i : Instr) → IsListed {X = ℕ × ℕ} (v, u) (bases_in is) → IsListed {X = ℕ × ℕ} (v, u) (bases_in (i ∷ is))
    on (Instr.Gep r inb t (Operand.Local b) ixs) l = inr l
    on _ l = l

by_pair : (bs : List Block) (block at v u : ℕ) (inbounds : Bool) (ty : Ty) (indices : List Arg)
    → instr_in (slice_get bs block) at ≡ Some (Instr.Gep v inbounds ty (Operand.Local u) indices)
    → IsListed {X = ℕ × ℕ} (v, u) (bases_by bs)
by_pair [] block at v u inbounds ty indices e = absurd (cc)
by_pair (b ∷ bs) zero at v u inbounds ty indices e =
    listed_left {A = ℕ × ℕ} (v, u) (bases_in b.instrs) (bases_by bs) (in_pair b.instrs at v u inbounds ty indices e)
by_pair (b ∷ bs) (suc block) at v u inbounds ty indices e =
    listed_right {A = ℕ × ℕ} (v, u) (bases_in b.instrs) (bases_by bs) (by_pair bs block at v u inbounds ty indices e)

-- ---- of a function that breaks no rule

module _ (m : Module) (k : ℕ) (f : Function) (rules : KeepsFunctionRules m k f) where
  -- its base is the one that the table tells
  based : (is_base : ℕ → Bool) (v : ℕ) (x : IsGepOf f is_base v) → entry (bases_of f) v ≡ Some x.base
  based is_base v x =
      let i : Instr = Instr.Gep v x.inbounds x.ty (Operand.Local x.base) x.indices in
      let low = result_below k f rules.tabled x.place i v x.there refl in
      let told = base_told f v x.base low
      (by_pair f.blocks x.place.block x.place.at v x.base x.inbounds x.ty x.indices x.there) in
      let y = pair_gep f v told.0 (base_listed f v told.0 told.1) in
      told.1 ∙ ap (λ (n : ℕ). Some n) (sym y.1 ∙ same_base m k f rules v (λ (n : ℕ). n == told.0) is_base y.0 x)

  -- an alloca has none
  pub unbased : (a : ℕ) → HasAlloca f a → entry (bases_of f) a ≡ None
  unbased a x = on (entry (bases_of f) a) refl
    where
      on : (o : Option ℕ) → entry (bases_of f) a ≡ o → o ≡ None
      on None e = refl
      on (Some u) e = absurd (no_gep m k f rules a x (λ (n : ℕ). n == u) (pair_gep f a u (base_listed f a u e)).0)

  pub way_back : (n a v : ℕ) → IsListed v (addresses_within n f a) → (l : ℕ) × Path (bases_of f) l v a
  way_back zero a v (inl e) = (0, e)
  way_back zero a v (inr l) = absurd l
  way_back (suc n) a v (inl e) = (0, e)
  way_back (suc n) a v (inr l) =
      let x = gep_of f (has_name (addresses_within n f a)) v l in
      let more = way_back n a x.base (listed_by_name (addresses_within n f a) x.base x.of_base) in
      (suc more.0, (x.base, based (has_name (addresses_within n f a)) v x, more.1))
