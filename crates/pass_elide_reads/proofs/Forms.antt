-- Of a module each of whose shapes is that of a form.
use Rattle.std.proofs.Common.{◌≡◌, ◌⊎◌, ◌<◌, ◌^◌, inl, inr, ⊎_elim, ℕ, IsTrue, [], ◌∷◌, Some, ap, length, subst, sym}
use Rattle.std.specs.Prelude.{slice_get}
use Rattle.pass_elide_reads.proofs.ReadNames.{reads_plain}
use Rattle.pass_elide_edges.specs.Keeping.{HasEdge, KeepsEnds}
use Rattle.pass_elide_reads.proofs.Ends.{shapes_ends}
use Rattle.pass_elide_reads.proofs.Looks.{looks_so, takes_so}
use Rattle.pass_elide_reads.specs.Uses.{EndPlain, LooksSo, TakesSo, UseAlone, UsesAlone}
use Rattle.pass_elide_ready.proofs.Forms.{phis}
use Rattle.pass_elide_ready.proofs.Modules.{all_rules}
use Rattle.pass_elide_ready.specs.Form.{AreFormed, IsFormed}
use Rattle.pass_elide_ready.specs.Ruled.{IsRuled}
use Rattle.pass_elide_ready.specs.pass_elide_proof.Edges.{chosen_by, label_from, phis_at}
use Rattle.pass_elide_ready.specs.pass_elide_proof.Elision.{Elision, Shape, function_in, no_shape}
use Rattle.pass_elide_ready.specs.pass_elide_proof.Match.{frame_size}
use Rattle.pass_elide_ready.specs.pass_elide_proof.Places.{instrs_of}
use Rattle.pass_elide_ready.specs.pass_elide_proof.Placing.{ReadsPlain}
use Rattle.pass_elide_ready.specs.pass_elide_proof.pass_proofs.flow_blocks.Reach.{IsReached as IsReachedBlock}
use Rattle.pass_elide_ready.specs.pass_elide_proof.pass_proofs.flow_solver.Paths.{IsListed}
use Rattle.pass_elide_ready.specs.pass_elide_proof.pass_proofs.ir_model.Names.{position_of}
use Rattle.pass_elide_ready.specs.pass_elide_proof.pass_proofs.ir_model.declared.instr.Instr.{Instr}
use Rattle.pass_elide_ready.specs.pass_elide_proof.pass_proofs.ir_model.declared.instr.Phi.{Phi}
use Rattle.pass_elide_ready.specs.pass_elide_proof.pass_proofs.ir_model.declared.instr.Terminator.{Terminator}
use Rattle.pass_elide_ready.specs.pass_elide_proof.pass_proofs.ir_model.declared.operand.Operand.{Operand}
use Rattle.pass_elide_ready.specs.pass_elide_proof.pass_proofs.rule_laws.rules.function_rules.Kept.{KeepsFunctionRules}
use Rattle.pass_elide_ready.specs.pass_elide_proof.pass_proofs.run_step.Reads.{reads}
use Rattle.pass_elide_ready.specs.pass_elide_proof.pass_proofs.run_step.Step.{AtTerm, fetch, incoming_from}
use Rattle.pass_split_proof.proofs.ready.Entering.{coroutine_there}

module _ (e : Elision) (ruled : IsRuled e.code) where
  abbrev form_rules : (func : ℕ) → IsFormed e func → KeepsFunctionRules e.code func (function_in e func)
  form_rules func w =
      all_rules e.code ruled func (function_in e func) (coroutine_there e.code func w.form.coroutine)

  pub names_read : AreFormed e → UseAlone e → (func block at v : ℕ) (i : Instr)
      → IsReachedBlock (function_in e func) (0 ∷ []) [] block
      → slice_get (instrs_of (function_in e func) block) at ≡ Some i → IsTrue (reads v i)
      → ReadsPlain (e.shape func) block i v
  names_read forms uses func block at v i path there is = ⊎_elim
      (λ (p : e.shape func ≡ no_shape). record {
        need = ap (λ (z : Shape). z.need v) p;
        tested = ap (λ (z : Shape). z.tested v) p;
        freed = λ no_dealing no_test. ap (λ (z : Shape). z.freed v) p;
        made = λ no_begin no_wait. ap (λ (z : Shape). z.made v) p;
        passed = λ no_frees. ap (λ (z : Shape). z.passed v) p;
      })
      (λ (w : IsFormed e func). subst (λ (z : Shape). ReadsPlain z block i v) (sym w.shape)
      (reads_plain e.code func (function_in e func) (form_rules func w) w.asking w.freeing w.form (uses func w) block at v
      i path there is))
      (forms func)

  module _ (func : ℕ) (k : IsFormed e func) (uses : UsesAlone (function_in e func) k.asking k.freeing) where
    pub names_looked_at : (block v : ℕ) (term : Terminator) → IsReachedBlock (function_in e func) (0 ∷ []) [] block
        → fetch (function_in e func) block (length (instrs_of (function_in e func) block)) ≡ AtTerm term
        → chosen_by term ≡ Operand.Local v → LooksSo (function_in e func) k.asking k.freeing block v
    names_looked_at block v term path stands is =
        looks_so e.code func (function_in e func) (form_rules func k) k.asking k.freeing k.form uses block v term path
        stands is

    pub names_taken : (from label v : ℕ) (p : Phi) → IsReachedBlock (function_in e func) (0 ∷ []) [] from
        → HasEdge (function_in e func) from label
        → IsListed p (phis_at (function_in e func) (position_of (function_in e func) label))
        → incoming_from p.incoming (label_from (function_in e func) from) ≡ Operand.Local v
        → TakesSo (function_in e func) k.asking k.freeing from v
    names_taken from label v p path edge l takes =
        takes_so e.code func (function_in e func) (form_rules func k) k.asking k.freeing k.form uses from label v p path
        edge l takes

  pub ends_kept : AreFormed e → UseAlone e → EndPlain e → ((func : ℕ) → frame_size e func < 2 ^ 32) → KeepsEnds e
  ends_kept forms uses ends small = record {
    phis = phis e ruled forms;
    shapes = λ func. ⊎_elim (λ (p : e.shape func ≡ no_shape). inl p)
        (λ (w : IsFormed e func). inr (shapes_ends e ruled func w (small func) (uses func w) (ends func w))) (forms func);
  }
