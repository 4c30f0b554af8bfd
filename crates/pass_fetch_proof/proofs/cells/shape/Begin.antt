-- Begin's value is none of those that may be kept.
use Rattle.std.proofs.Common.{◌≡◌, ⊎_elim, ℕ, true, false, List, [], refl, sym, ap, ◌∙◌, subst}
use Rattle.std.specs.Prelude.{Some, None, Option, slice_get}
use Rattle.pass_edges_proof.proofs.rule_laws.frames.counted.Keepable.{FoundBlock, FoundInstr, blocks_found, distinct_listed, params_found}
use Rattle.pass_edges_proof.proofs.ir_laws.facts.Lists.{FoundParam, FoundPhi}
use Rattle.pass_edges_proof.proofs.ir_laws.paths.counted.Keepable.{param_listed, phi_listed}
use Rattle.pass_fetch_proof.proofs.cells.rules.Keeping.{keeping_is}
use Rattle.pass_edges_proof.proofs.ir_laws.paths.source_rules.Locals.{listed_either}
use Rattle.pass_edges_proof.proofs.rule_laws.rules.source_rules.Locals.{no_param, no_phi, same_instr}
use Rattle.pass_edges_proof.specs.flow_solver.Paths.{IsListed}
use Rattle.pass_edges_proof.proofs.rule_laws.rules.shape.Stands.{StandsAt, begin_stands}
use Rattle.pass_edges_proof.specs.ir_parts.Contents.{result_of}
use Rattle.pass_edges_proof.specs.rule_laws.rules.function_rules.Kept.{KeepsFunctionRules}
use Rattle.ir_model.specs.Calls.{first_result}
use Rattle.ir_model.specs.declared.instr.Instr.{Instr}
use Rattle.ir_model.specs.declared.module.Block.{Block}
use Rattle.ir_model.specs.declared.module.Function.{Function}
use Rattle.ir_model.specs.declared.module.Module.{Module}
use Rattle.ir_model.specs.declared.operand.Callee.{Callee}
use Rattle.ir_model.specs.declared.operand.Intrinsic.{Intrinsic}
use Rattle.pass_edges_proof.specs.ir_paths.Windows.{instr_at, instr_in, is_call_of}
use Rattle.pass_edges_proof.specs.ir_paths.declared.point.Point.{Point}
use Rattle.pass_edges_proof.specs.frame_crossing.Values.{all_defined, blocks_defined, is_apart, is_token_result, params_defined, values_of}
use Rattle.pass_edges_proof.specs.pass_cells.Kept.{entry, keeping_of}
use Rattle.pass_edges_proof.proofs.ir_laws.facts.Truth.{or_true}
use Rattle.pass_edges_proof.proofs.rule_laws.rules.shape.Begin.{begin_result}

begin_apart : (i : Instr) → is_call_of Intrinsic.CoroBegin i ≡ true → is_apart i ≡ true
begin_apart (Instr.Call result must_tail ty (Callee.Intrinsic Intrinsic.CoroBegin) args) e = or_true (is_token_result ty)
begin_apart _ e = absurd (cc)

module _ (m : Module) (k : ℕ) (f : Function) (rules : KeepsFunctionRules m k f) (begin : ℕ) (named : first_result Intrinsic.CoroBegin f ≡ Some begin) where
  s : StandsAt f Intrinsic.CoroBegin begin
  s = begin_stands f begin named

  abbrev point : ℕ → ℕ → Point
  point q at = record { block = q; at = at }

  there : (q at : ℕ) (b : Block) (i : Instr) → slice_get f.blocks q ≡ Some b → slice_get b.instrs at ≡ Some i → instr_at f (point q at) ≡ Some i
  there q at b i got e = ap (λ (o : Option Block). instr_in o at) got ∙ e

  here : instr_at f (point s.position s.at) ≡ Some s.instr
  here = there s.position s.at s.block s.instr s.got s.there

  makes : result_of s.instr ≡ Some begin
  makes = begin_result s.instr s.calls ∙ s.makes

  no_instr : (q : ℕ) (b : Block) → slice_get f.blocks q ≡ Some b → FoundInstr b.instrs begin → ⊥
  no_instr q b got x =
      let same : x.instr ≡ s.instr = same_instr k f rules.definitions (point q x.at) (point s.position s.at) x.instr s.instr begin (there q x.at b x.instr got x.there) here x.makes makes in
      let t : true ≡ false = sym (begin_apart s.instr s.calls) ∙ ap is_apart (sym same) ∙ x.stays in
      absurd (cc)

  in_block : FoundBlock f.blocks begin → ⊥
  in_block x =
      ⊎_elim
      (λ (y : FoundPhi x.block.phis begin). no_phi k f rules.definitions x.at x.block (point s.position s.at) s.instr begin x.there (phi_listed x.block.phis y.at y.phi begin y.there y.same) here makes)
      (no_instr x.at x.block x.there)
      x.part

  in_params : FoundParam f.params begin → ⊥
  in_params x = no_param k f rules.definitions (point s.position s.at) s.instr begin here makes (param_listed f.params x.at x.param begin x.there x.same)

  pub begin_no_value : IsListed begin (values_of f) → ⊥
  begin_no_value h =
      ⊎_elim (λ l. absurd l)
      (λ l. ⊎_elim (λ a. in_params (params_found f.params begin a)) (λ r. in_block (blocks_found f.blocks begin r)) (listed_either begin (params_defined f.params) (blocks_defined f.blocks) l))
      (distinct_listed [] (all_defined f) begin h)

  pub begin_unplaced : (crossing : List (ℕ × ℕ)) → ((p : ℕ × ℕ) → IsListed p crossing → IsListed p.0 (values_of f)) → (count : ℕ) → entry (keeping_of count crossing).places begin ≡ None
  begin_unplaced crossing values count = on (entry (keeping_of count crossing).places begin) refl
    where
      on : (o : Option ℕ) → entry (keeping_of count crossing).places begin ≡ o → o ≡ None
      on None e = refl
      on (Some at) e =
          let h = keeping_is count (λ (u : ℕ). u ≡ begin → ⊥) crossing (λ p l same. begin_no_value (subst (λ (u : ℕ). IsListed u (values_of f)) same (values p l))) in
          absurd (h.holds begin at (h.there begin at e) refl)
