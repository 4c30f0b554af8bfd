-- Operands and callees that stay are no intrinsics where they weren't: where saves are written out, and where edges have blocks.
use Rattle.std.proofs.Common.{◌≡◌, ℕ, Bool, true, false, List, ◌∷◌, refl, ap, ◌∙◌}
use Rattle.std.specs.List.{list_all}
use Rattle.std.specs.Prelude.{not, ◌&&◌}
use Rattle.compiler.specs.cleanup.rules.Clean.{calls_left, is_left_callee}
use Rattle.ir_base.specs.declared.outcome.Place.{Place}
use Rattle.pass_proofs.proofs.early.local_rules.Rules.{all_in_args, all_in_instr, all_in_phi, all_in_term}
use Rattle.pass_proofs.proofs.ir_laws.facts.Truth.{and_second}
use Rattle.pass_proofs.proofs.early.local_rules.Turned.{Any, Begins, Saves, Stays, Turns, turned_function}
use Rattle.pass_early.specs.Early.{early_function}
use Rattle.pass_early.specs.Renaming.{renamed, renamed_callee, renamed_instr, renamed_phi, renamed_term}
use Rattle.pass_early.specs.declared.renaming.Renaming.{Renaming}
use Rattle.pass_proofs.specs.edges.paths.Spots.{table_of}
use Rattle.pass_proofs.proofs.edges.rules.Homes.{own_block}
use Rattle.pass_proofs.specs.pass_edges.EdgeBlocks.{split_phi, with_edge_blocks}
use Rattle.pass_proofs.specs.pass_edges.Edges.{edges_at, ends_in_suspend, phi_flags}
use Rattle.pass_proofs.specs.ir_parts.Contents.{arg_operands}
use Rattle.pass_proofs.specs.ir_parts.Parts.{Ending, OfInstr, OfPhi}
use Rattle.ir_model.specs.declared.instr.Instr.{Instr}
use Rattle.ir_model.specs.declared.module.Function.{Function}
use Rattle.ir_model.specs.declared.operand.Callee.{Callee}
use Rattle.ir_model.specs.declared.operand.Intrinsic.{Intrinsic}
use Rattle.ir_model.specs.declared.operand.Operand.{Operand}
use Rattle.pass_proofs.specs.run_laws.changed.Changed.{Each}
use Rattle.compiler.specs.cleanup.unnamed_intrinsics.Unnamed.{NamesNoIntrinsic, is_no_intrinsic, names_intrinsic}
use Rattle.compiler.proofs.cleanup.unnamed_intrinsics.Early.{calls_free, named_by, operands_free}
use Rattle.pass_proofs.proofs.early.local_rules.Carried as early
use Rattle.pass_proofs.proofs.edges.rules.Carried as edges
use Rattle.pass_proofs.proofs.edges.rules.Operands as operands

-- ---- renamed operands

module _ (r : Renaming) where
  operand_renamed : (x : Operand) → is_no_intrinsic (renamed r x) ≡ is_no_intrinsic x
  operand_renamed (Operand.Local v) = refl
  operand_renamed (Operand.Global n) = refl
  operand_renamed (Operand.Number z) = refl
  operand_renamed Operand.True = refl
  operand_renamed Operand.False = refl
  operand_renamed Operand.Null = refl
  operand_renamed Operand.None = refl
  operand_renamed Operand.Poison = refl

  operand_over : (x : Operand) → is_no_intrinsic x ≡ true → is_no_intrinsic (renamed r x) ≡ true
  operand_over x e = operand_renamed x ∙ e

  callee_over : (c : Callee) → is_left_callee c ≡ true → is_left_callee (renamed_callee r c) ≡ true
  callee_over (Callee.Local v) e = refl
  callee_over (Callee.Intrinsic x) e = refl
  callee_over (Callee.Allocator x) e = refl
  callee_over (Callee.Named n) e = e

  calls_over : (i : Instr) → calls_left (OfInstr i) ≡ true → calls_left (OfInstr (renamed_instr r i)) ≡ true
  calls_over (Instr.Call result must_tail ty callee args) e = callee_over callee e
  calls_over _ e = refl

  instr_over : (p q : Place) (i : Instr) → names_intrinsic p (OfInstr i) ≡ false → names_intrinsic q (OfInstr (renamed_instr r i)) ≡ false
  instr_over p q i e = named_by q (OfInstr (renamed_instr r i)) (all_in_instr r is_no_intrinsic is_no_intrinsic operand_over i (operands_free p (OfInstr i) e)) (calls_over i (calls_free p (OfInstr i) e))

  turned_over : (p : Place) (i : Instr) (js : List Instr) → Turns r Any i js → names_intrinsic p (OfInstr i) ≡ false → Each (early.StaysOut names_intrinsic p) js
  turned_over p i _ (Stays _) e = ((λ q d. instr_over p q i e), tt)
  turned_over p _ _ (Begins n result must_tail ty args) e =
      let i : Instr = Instr.Call result must_tail ty (Callee.Intrinsic Intrinsic.CoroBegin) args in
      ((λ q d. instr_over p q i e), tt)
  turned_over p _ _ (Saves n result must_tail ty a args number none) e =
      let i : Instr = Instr.Call result must_tail ty (Callee.Intrinsic Intrinsic.CoroSuspend) (a ∷ args) in
      let rest = and_second (is_no_intrinsic a.value) (list_all is_no_intrinsic (arg_operands args)) (operands_free p (OfInstr i) e) in (
        (λ q d. refl),
        ((λ q d. ap (λ (b : Bool). not (b && true)) (all_in_args r is_no_intrinsic is_no_intrinsic operand_over args rest)), tt),
      )

  early_carried : (f g : Function) → early.Carries r Any f g names_intrinsic names_intrinsic
  early_carried f g =
      record {
        signature = λ p e. refl;
        head = λ p b c d e. refl;
        phi = λ p x e. named_by p (OfPhi (renamed_phi r x)) (all_in_phi r is_no_intrinsic is_no_intrinsic operand_over x (operands_free p (OfPhi x) e)) refl;
        instr = turned_over;
        ending = λ p q t e. named_by q (Ending (renamed_term r t)) (all_in_term r is_no_intrinsic is_no_intrinsic operand_over (λ x d. d) t (operands_free p (Ending t) e)) refl;
      }

pub early_free : (k : ℕ) (f : Function) → NamesNoIntrinsic k f → NamesNoIntrinsic k (early_function f)
early_free k f e =
    let t = turned_function f in
    early.carried t.renaming Any f (early_function f) names_intrinsic names_intrinsic (early_carried t.renaming f (early_function f)) k t.blocks e

-- ---- where edges have blocks

edges_carried : (f : Function) → edges.Carries f names_intrinsic names_intrinsic
edges_carried f =
    record {
      signature = λ p e. e;
      head = λ q c. refl;
      phi = λ p q k b x there e.
          named_by q (OfPhi (split_phi (edges_at (table_of f) b.label) x)) (operands.all_taken is_no_intrinsic x.incoming (edges_at (table_of f) b.label) (operands_free p (OfPhi x) e)) refl;
      instr = λ p q i alike e. e;
      ending = λ p q k b there e.
          named_by q (Ending (own_block f k b).term)
          (ap (list_all is_no_intrinsic) (operands.ending_operands_same (phi_flags f) (ends_in_suspend b.instrs) _ b.term) ∙ operands_free p (Ending b.term) e) refl;
      edge = λ q k b i e there got. refl;
    }

pub edges_free : (k : ℕ) (f : Function) → NamesNoIntrinsic k f → NamesNoIntrinsic k (with_edge_blocks f)
edges_free k f e = edges.carried f names_intrinsic names_intrinsic (edges_carried f) k e
