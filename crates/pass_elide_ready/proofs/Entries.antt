-- No edge leads to the entry block of a function that breaks no rule (F1).
use Rattle.std.proofs.Common.{◌≡◌, ◌≢◌, ℕ, List, [], ◌∷◌, length, refl, sym, ap, ◌∙◌, subst}
use Rattle.std.specs.Prelude.{None, Option, Some, slice_get}
use Rattle.pass_elide_edges.specs.Keeping.{HasEdge}
use Rattle.pass_elide_edges.specs.States.{EntersNoStart}
use Rattle.pass_elide_kept.specs.Modules.{LeadsOut}
use Rattle.pass_elide_edges.proofs.pass_elide_proof.pass_proofs.ir_laws.facts.Truth.{itself}
use Rattle.pass_elide_edges.proofs.pass_elide_proof.pass_proofs.kept.sources.Modules.{at_function}
use Rattle.pass_elide_edges.proofs.pass_elide_proof.pass_proofs.rule_laws.frames.crossing.Paths.{edge_from}
use Rattle.pass_elide_edges.proofs.pass_elide_proof.pass_proofs.rule_laws.rules.edges.Entered.{has_listed}
use Rattle.pass_elide_edges.specs.pass_elide_proof.pass_proofs.flow_blocks.Edges.{block_edges}
use Rattle.pass_elide_edges.specs.pass_elide_proof.pass_proofs.flow_solver.Paths.{IsListed}
use Rattle.pass_elide_edges.specs.pass_elide_proof.pass_proofs.ir_model.Names.{function_at, no_function, position_of}
use Rattle.pass_elide_edges.specs.pass_elide_proof.pass_proofs.ir_model.declared.instr.Terminator.{Terminator}
use Rattle.pass_elide_edges.specs.pass_elide_proof.pass_proofs.ir_model.declared.module.Block.{Block}
use Rattle.pass_elide_edges.specs.pass_elide_proof.pass_proofs.ir_model.declared.module.Function.{Function}
use Rattle.pass_elide_edges.specs.pass_elide_proof.pass_proofs.ir_model.declared.module.Module.{Module}
use Rattle.pass_elide_edges.specs.pass_elide_proof.pass_proofs.ir_paths.Paths.{targets}
use Rattle.pass_elide_edges.specs.pass_elide_proof.pass_proofs.pass_kept_proof.Needed.{BranchesTo}
use Rattle.pass_elide_edges.specs.pass_elide_proof.pass_proofs.rule_laws.rules.function_rules.Kept.{AllKeepFunctionRules, KeepsFunctionRules}
use Rattle.pass_elide_edges.specs.pass_elide_proof.pass_proofs.run_step.Step.{AtTerm, Fetched, fetch, fetch_in, fetch_or}
use Rattle.run_accepted.proofs.Entries.{never_entered}

-- ---- the end of a block

past : {A : Type 0} (xs : List A) → slice_get xs (length xs) ≡ None
past [] = refl
past (x ∷ xs) = past xs

pub ending : (f : Function) (block : ℕ) (b : Block) → slice_get f.blocks block ≡ Some b
    → fetch f block (length b.instrs) ≡ AtTerm b.term
ending f block b got =
    ap (λ (o : Option Block). fetch_in o (length b.instrs)) got
    ∙ (λ z. fetch_or (past b.instrs z) (itself (length b.instrs) z) b.term)

branches : (label : ℕ) (t : Terminator) (x : Fetched) → x ≡ AtTerm t → IsListed label (targets t) → BranchesTo label x
branches label t x is l = subst (BranchesTo label) (sym is) (has_listed (targets t) label l)

-- ---- a function

module _ (m : Module) (k : ℕ) (f : Function) (rules : KeepsFunctionRules m k f) where
  pub never_led : (from label : ℕ) (b : Block) → slice_get f.blocks from ≡ Some b → IsListed label (targets b.term)
      → position_of f label ≡ 0 → ⊥
  never_led from label b got l first =
      never_entered m k f rules from (length b.instrs) label
      (branches label b.term (fetch f from (length b.instrs)) (ending f from b got) l) first

  pub no_edge_back : (block label : ℕ) → HasEdge f block label → position_of f label ≢ 0
  no_edge_back block label x first =
      never_entered m k f rules block _ label (branches label x.term _ x.stands x.leads) first

  pub none_out : (from label : ℕ) → LeadsOut f from label → position_of f label ≢ 0
  none_out from label x first = never_led from label x.block x.there x.among first

  pub no_edge_to_entry : (from : ℕ) → IsListed {X = ℕ × ℕ} (from, 0) (block_edges f) → ⊥
  no_edge_to_entry from l =
      let x = edge_from f from 0 l in
      never_led x.position x.label x.block x.got x.leads x.is_to

-- ---- a module

none_in_none : (block label : ℕ) → HasEdge no_function block label → position_of no_function label ≢ 0
none_in_none block label x = absurd (let s = x.stands in cc)

pub enters_no_start : (m : Module) → AllKeepFunctionRules m → EntersNoStart m
enters_no_start m rules =
    at_function (λ (f : Function). (block label : ℕ) → HasEdge f block label → position_of f label ≢ 0) m none_in_none
    (λ k f there. no_edge_back m k f (rules k f there))

none_out_of_none : (from label : ℕ) → LeadsOut no_function from label → position_of no_function label ≢ 0
none_out_of_none from label x = absurd (let s = x.there in cc)

pub leads_to_no_entry : (m : Module) → AllKeepFunctionRules m → (func from label : ℕ)
    → LeadsOut (function_at m func) from label → position_of (function_at m func) label ≢ 0
leads_to_no_entry m rules =
    at_function (λ (f : Function). (from label : ℕ) → LeadsOut f from label → position_of f label ≢ 0) m
    none_out_of_none (λ k f there. none_out m k f (rules k f there))
