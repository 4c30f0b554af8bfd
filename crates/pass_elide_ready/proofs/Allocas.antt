-- Allocas of a function that breaks no rule: they stand in the entry block, nothing else gives their names, and
-- markers mark them (F1, F3, N1, K13).
use Rattle.std.proofs.Common.{◌≡◌, ◌≢◌, ◌⊎◌, inl, inr, ℕ, Bool, true, false, List, [], ◌∷◌, refl, sym, ap, ◌∙◌, arith}
use Rattle.std.proofs.lemmas.Bool.{false≢true}
use Rattle.std.specs.Prelude.{None, Option, Some, slice_get}
use Rattle.pass_elide_known.specs.Keeping.{is_marker}
use Rattle.pass_elide_edges.proofs.pass_elide_proof.ElidedFound.{fetched}
use Rattle.pass_elide_edges.proofs.pass_elide_proof.OwnPlaces.{instr_there}
use Rattle.pass_elide_edges.specs.pass_elide_proof.Places.{instrs_of}
use Rattle.pass_elide_runs.specs.Marks.{MarksAllocas}
use Rattle.pass_elide_runs.specs.Slots.{AllocasFirst, IsAllocaAt, NamesAllocas}
use Rattle.pass_elide_edges.proofs.pass_elide_proof.pass_proofs.ir_laws.paths.edges.Lists.{listed_at}
use Rattle.pass_elide_edges.proofs.pass_elide_proof.pass_proofs.ir_laws.paths.woven_rules.Unbroken.{each_listed}
use Rattle.pass_elide_edges.proofs.pass_elide_proof.pass_proofs.rule_laws.rules.renamed.Uses.{result_spelt}
use Rattle.pass_elide_edges.specs.pass_elide_proof.pass_proofs.flow_blocks.Edges.{block_edges}
use Rattle.pass_elide_edges.specs.pass_elide_proof.pass_proofs.flow_solver.Paths.{IsListed}
use Rattle.pass_elide_edges.specs.pass_elide_proof.pass_proofs.ir_model.declared.instr.Instr.{Instr}
use Rattle.pass_elide_edges.specs.pass_elide_proof.pass_proofs.ir_model.declared.instr.Phi.{Phi}
use Rattle.pass_elide_edges.specs.pass_elide_proof.pass_proofs.ir_model.declared.module.Block.{Block}
use Rattle.pass_elide_edges.specs.pass_elide_proof.pass_proofs.ir_model.declared.module.Function.{Function}
use Rattle.pass_elide_edges.specs.pass_elide_proof.pass_proofs.ir_model.declared.operand.Arg.{Arg}
use Rattle.pass_elide_edges.specs.pass_elide_proof.pass_proofs.ir_model.declared.operand.Callee.{Callee}
use Rattle.pass_elide_edges.specs.pass_elide_proof.pass_proofs.ir_model.declared.operand.Intrinsic.{Intrinsic}
use Rattle.pass_elide_edges.specs.pass_elide_proof.pass_proofs.ir_model.declared.operand.Operand.{Operand}
use Rattle.pass_elide_edges.specs.pass_elide_proof.pass_proofs.ir_paths.Windows.{operand_at}
use Rattle.pass_elide_edges.specs.pass_elide_proof.pass_proofs.run_laws.changed.Changed.{Each}
use Rattle.pass_elide_edges.specs.pass_elide_proof.pass_proofs.run_step.Step.{is_lifetime, phis_of}
use Rattle.pass_split_proof.specs.simulation.Premises.{AreAllocasAlone, IsEntryAlloca}

module _ (f : Function) (alone : AreAllocasAlone f) where
  entry_alloca : (place name : ℕ) → IsAllocaAt f place name → IsEntryAlloca f place name
  entry_alloca place name x = record {
    ty = x.ty;
    align = x.align;
    there = fetched f 0 place (Instr.Alloca name x.ty x.align) x.there;
  }

  alloca_at : (place name : ℕ) → IsEntryAlloca f place name → IsAllocaAt f place name
  alloca_at place name x = record {
    ty = x.ty;
    align = x.align;
    there = instr_there f 0 place (Instr.Alloca name x.ty x.align) x.there;
  }

  pub allocas_first : ((from : ℕ) → IsListed {X = ℕ × ℕ} (from, 0) (block_edges f) → ⊥) → AllocasFirst f
  allocas_first entry = record {
    first = λ block at name align ty there.
        alone.first block at name align ty (fetched f block at (Instr.Alloca name ty align) there);
    entry = entry;
  }

  no_phi : (place name block : ℕ) → IsAllocaAt f place name
      → Each (λ (p : Phi). p.result ≢ name) (phis_of (slice_get f.blocks block))
  no_phi place name block x = on (slice_get f.blocks block) refl
    where
      on : (o : Option Block) → slice_get f.blocks block ≡ o → Each (λ (p : Phi). p.result ≢ name) (phis_of o)
      on None e = tt
      on (Some b) e = each_listed (λ (p : Phi). p.result ≢ name) b.phis (λ p l same.
          alone.phis place name (entry_alloca place name x) b p (listed_at f.blocks block b e) l same)

  pub names_allocas : NamesAllocas f
  names_allocas = record {
    once = λ place name block at i x there gives.
        alone.once place name (entry_alloca place name x) block at i (fetched f block at i there)
        (sym (result_spelt i) ∙ gives);
    phis = no_phi;
    low = λ place name x. alone.known place name (entry_alloca place name x);
  }

  marked : (args : List Arg) (x : Arg) (y : Arg) (name : ℕ) → args ≡ x ∷ y ∷ [] → y.value ≡ Operand.Local name
      → operand_at args 1 ≡ Operand.Local name
  marked args x y name are is = ap (λ (xs : List Arg). operand_at xs 1) are ∙ is

  lifetime : (j : Intrinsic) → (j ≡ Intrinsic.LifetimeStart) ⊎ (j ≡ Intrinsic.LifetimeEnd)
      → is_lifetime (Callee.Intrinsic j) ≡ true
  lifetime j (inl e) = ap (λ (x : Intrinsic). is_lifetime (Callee.Intrinsic x)) e
  lifetime j (inr e) = ap (λ (x : Intrinsic). is_lifetime (Callee.Intrinsic x)) e

  pub marks_allocas : MarksAllocas f
  marks_allocas block at j result must_tail ty args is there =
      let x = alone.marks block at result must_tail ty (Callee.Intrinsic j) args
      (fetched f block at (Instr.Call result must_tail ty (Callee.Intrinsic j) args) there) (lifetime j is) in
      record {
        name = x.name;
        takes = marked args x.size x.pointer x.name x.are x.is;
        place = x.made;
        alloca = alloca_at x.made x.name x.alloca;
        passed = x.before;
      }

-- ---- the first instruction

first_marked : (f : Function) → MarksAllocas f → (i : Instr) → slice_get (instrs_of f 0) 0 ≡ Some i
    → is_marker i ≡ true → ⊥
first_marked f marks (Instr.Call result must_tail ty (Callee.Intrinsic Intrinsic.LifetimeStart) args) there e =
    let low = (marks 0 0 Intrinsic.LifetimeStart result must_tail ty args (inl refl) there).passed refl in
    omega (arith, low)
first_marked f marks (Instr.Call result must_tail ty (Callee.Intrinsic Intrinsic.LifetimeEnd) args) there e =
    let low = (marks 0 0 Intrinsic.LifetimeEnd result must_tail ty args (inr refl) there).passed refl in
    omega (arith, low)
first_marked f marks _ there e = absurd (false≢true e)

pub unmarked : (f : Function) → MarksAllocas f → (i : Instr) → slice_get (instrs_of f 0) 0 ≡ Some i
    → is_marker i ≡ false
unmarked f marks i there = on (is_marker i) refl
  where
    on : (b : Bool) → is_marker i ≡ b → is_marker i ≡ false
    on true e = absurd (first_marked f marks i there e)
    on false e = e
