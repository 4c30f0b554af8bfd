-- The worked function that tests what is to be freed keeps what is asked where a frame is freed.
use Rattle.std.proofs.Common.{◌≡◌, ◌∙◌, inr, ℕ, zero, suc, Option, refl, true, false, [], ◌∷◌}
use Rattle.std.specs.Prelude.{None, Some, slice_get}
use Rattle.elide_shape.specs.Calls.{deals_by}
use Rattle.elide_shape.specs.declared.calls.Dealing.{Dealing}
use Rattle.pass_elide_edges.specs.Keeping.{KeepsFreeing, SameOperand}
use Rattle.pass_elide_edges.specs.WorkedFreeing.{freeing_function, freeing_shape}
use Rattle.pass_elide_proof.specs.EdgesFreeing.{FreesAside, FreesFrame}
use Rattle.pass_elide_proof.specs.Places.{instrs_of}
use Rattle.pass_elide_proof.specs.pass_proofs.ir_model.Ty.{ptr}
use Rattle.pass_elide_proof.specs.pass_proofs.ir_model.declared.instr.Instr.{Instr}
use Rattle.pass_elide_proof.specs.pass_proofs.ir_model.declared.operand.Allocator.{Allocator}
use Rattle.pass_elide_proof.specs.pass_proofs.ir_model.declared.operand.Callee.{Callee}
use Rattle.pass_elide_proof.specs.pass_proofs.ir_model.declared.operand.Operand.{Operand}
use Rattle.pass_elide_proof.specs.pass_proofs.ir_parts.Contents.{result_of}

pub once : (k : ℕ) (i : Instr) → slice_get (instrs_of freeing_function 1) k ≡ Some i → deals_by Dealing.Frees i ≡ true
    → k ≡ 0
once zero i is frees = refl
once (suc k) i is frees = absurd (cc)

pub nothing : (k v : ℕ) (i : Instr) → slice_get (instrs_of freeing_function 1) k ≡ Some i → result_of i ≡ Some v
    → freeing_shape.passed v ≡ true
nothing zero v i is sets =
    let none : None ≡ Some v = (λ j. named (is j)) ∙ sets in
    absurd (cc)
  where
    named : Option Instr → Option ℕ
    named None = None
    named (Some i) = result_of i
nothing (suc k) v i is sets = absurd (cc)

abbrev pub the_test : FreesFrame freeing_function freeing_shape
the_test = record {
  tests = 0;
  frees = 1;
  after = 3;
  beside = 2;
  tested = 6;
  is_eq = false;
  one = 2;
  other = 3;
  branch = refl;
  to_free = refl;
  to_beside = refl;
  jumps = record { label = 4; stands = refl; leads = refl };
  waits = refl;
  freed = 7;
  release = 0;
  deallocator = Instr.Call None false None (Callee.Allocator Allocator.Free)
      (record { ty = ptr; value = Operand.Local 7 } ∷ []);
  there = refl;
  is_deallocator = refl;
  once = once;
  takes = refl;
  is_freed = refl;
  is_tested = refl;
  not_need = refl;
  is_passed = nothing;
}

aside : FreesAside freeing_function freeing_shape 3 2
aside = record {
  ends = 4;
  aside = refl;
  joins = record { label = 5; stands = refl; leads = refl };
  meets = record { label = 5; stands = refl; leads = refl };
  loads = λ k i j is at. absurd (cc);
  many = refl;
  is_loaded = λ k v i is sets. absurd (cc);
  is_loaded_beside = λ k v i is sets. absurd (cc);
}

pub worked_freeing : KeepsFreeing freeing_function freeing_shape the_test
unfolding aside
worked_freeing = record {
  bare = refl;
  bare_after = refl;
  bare_beside = refl;
  stays_tests = refl;
  stays_passes = refl;
  stays_jumps = refl;
  ways = inr (record {
    aside = aside;
    stays_joins = refl;
    stays_meets = refl;
    phis = λ reached. (λ differs. SameOperand Operand.Null (λ v is. absurd (cc)), tt);
  });
}
