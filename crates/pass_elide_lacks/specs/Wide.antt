-- An entry that hands its parameter to an allocator. No call of it gives a frame.
use Rattle.std.specs.Prelude.{◌≡◌, ◌+◌, ℕ, List, false, [], ◌∷◌, Some, codes, pos}
use Rattle.pass_elide_meaning.specs.pass_elide_edges.pass_elide_proof.Counts.{uncounted}
use Rattle.pass_elide_meaning.specs.pass_elide_edges.pass_elide_proof.Elision.{Elision, function_in, no_shape}
use Rattle.pass_elide_meaning.specs.pass_elide_edges.pass_elide_proof.Statement.{AreRelatedOrOver, elided_run, framed_run}
use Rattle.pass_elide_meaning.specs.pass_elide_edges.pass_elide_proof.pass_proofs.ir_base.declared.name.Name.{Name}
use Rattle.pass_elide_meaning.specs.pass_elide_edges.pass_elide_proof.pass_proofs.ir_base.declared.outcome.Word.{Word}
use Rattle.pass_elide_meaning.specs.pass_elide_edges.pass_elide_proof.pass_proofs.ir_model.Ty.{int, ptr}
use Rattle.pass_elide_meaning.specs.pass_elide_edges.pass_elide_proof.pass_proofs.ir_model.declared.instr.Instr.{Instr}
use Rattle.pass_elide_meaning.specs.pass_elide_edges.pass_elide_proof.pass_proofs.ir_model.declared.instr.Terminator.{Terminator}
use Rattle.pass_elide_meaning.specs.pass_elide_edges.pass_elide_proof.pass_proofs.ir_model.declared.module.Function.{Function}
use Rattle.pass_elide_meaning.specs.pass_elide_edges.pass_elide_proof.pass_proofs.ir_model.declared.module.Module.{Module}
use Rattle.pass_elide_meaning.specs.pass_elide_edges.pass_elide_proof.pass_proofs.ir_model.declared.operand.Allocator.{Allocator}
use Rattle.pass_elide_meaning.specs.pass_elide_edges.pass_elide_proof.pass_proofs.ir_model.declared.operand.Callee.{Callee}
use Rattle.pass_elide_meaning.specs.pass_elide_edges.pass_elide_proof.pass_proofs.ir_model.declared.operand.Operand.{Operand}
use Rattle.pass_elide_meaning.specs.pass_elide_edges.pass_elide_proof.pass_proofs.run_agreement.Costs.{AgreesBy, IsNear}

abbrev pub a_wide_caller : Function
a_wide_caller =
    record {
      name = Name.Text (codes "main");
      result = Some (int 32);
      params = record { ty = int 64; name = 0 } ∷ [];
      coroutine = false;
      blocks =
          record {
            label = 1;
            phis = [];
            instrs =
                (Instr.Call (Some 2) false (Some ptr) (Callee.Allocator Allocator.Malloc)
                (record { ty = int 64; value = Operand.Local 0 } ∷ []))
                ∷ [];
            term = Terminator.Ret (Some (record { ty = int 32; value = Operand.Number (pos 0) }));
          }
          ∷ [];
      names = Name.Text (codes "n") ∷ Name.Text (codes "entry") ∷ Name.Text (codes "p") ∷ [];
    }

abbrev pub a_wide_module : Module
a_wide_module =
    record {
      types = [];
      globals = [];
      declarations = record { name = Name.Text (codes "malloc"); result = Some ptr; params = int 64 ∷ [] } ∷ [];
      functions = a_wide_caller ∷ [];
    }

abbrev pub the_wide_elision : Elision
the_wide_elision =
    record {
      code = a_wide_module;
      layouts = record { coroutines = [] };
      sites = [];
      answers = [];
      shape = λ func. no_shape;
    }

-- The statement of elision of all words of an entry, whether they fit or not.
abbrev pub AllWordsKeepStates : Elision → ℕ → Type 0
AllWordsKeepStates e most =
    (entry : ℕ) (args : List Word) → (function_in e entry).coroutine ≡ false
    → AgreesBy (AreRelatedOrOver e) (IsNear (elided_run e entry args) (1 + most) (AreRelatedOrOver e))
    (uncounted (framed_run e entry args)) (λ s. 1 + most) (uncounted (elided_run e entry args)) (λ t. 1)
