-- Lemmas on values.
use Rattle.pass_edges_proof.proofs.rule_laws.rules.counted.DefinedKinds.{made_in}
use Rattle.std.proofs.Common.{◌≡◌, ◌⊎◌, inl, ⊎_elim, ℕ, ◌<◌, ◌≤◌, Bool, [], refl, sym, ap, ◌∙◌}
use Rattle.std.specs.Prelude.{Some, None, slice_get, if◌then◌else◌}
use Rattle.pass_edges_proof.proofs.rule_laws.frames.counted.Keepable.{FoundInstr, blocks_found, distinct_listed, params_found}
use Rattle.pass_edges_proof.proofs.ir_laws.facts.Lists.{FoundParam, FoundPhi}
use Rattle.pass_fetch_proof.proofs.cells.rules.Keepable.{no_alloca}
use Rattle.pass_edges_proof.proofs.rule_laws.rules.counted.Slots.{instr_size}
use Rattle.pass_fetch_proof.proofs.cells.rules.Whole.{FrontAlloca}
use Rattle.pass_edges_proof.proofs.ir_laws.facts.Truth.{itself}
use Rattle.pass_edges_proof.proofs.rule_laws.rules.local_rules.Names.{numbers}
use Rattle.pass_edges_proof.proofs.ir_laws.paths.source_rules.Locals.{listed_either}
use Rattle.pass_edges_proof.specs.flow_solver.Paths.{IsListed}
use Rattle.ir_model.specs.Layout.{size_of}
use Rattle.ir_model.specs.declared.module.Block.{Block}
use Rattle.ir_model.specs.declared.module.Function.{Function}
use Rattle.ir_model.specs.declared.module.Module.{Module}
use Rattle.pass_edges_proof.specs.rule_locals.Markers.{slot_size}
use Rattle.pass_edges_proof.specs.frame_crossing.Values.{all_defined, blocks_defined, params_defined, values_of}
use Rattle.pass_edges_proof.specs.pass_cells.Moves.{cell_alloca}
use Rattle.pass_edges_proof.specs.rule_laws.rules.woven_rules.Blocks.{IsWoven}
use Rattle.pass_edges_proof.specs.ir_laws.facts.woven_rules.Pairs.{times}
use Rattle.pass_edges_proof.specs.rule_laws.rules.woven_rules.Weaving.{Weaving}
use Rattle.pass_edges_proof.proofs.ir_laws.paths.crossing.Values.{listed_at}

module _ (w : Weaving) (m : Module) (f g : Function) (woven : IsWoven w m f g) (below : (n : ℕ) → IsListed n (numbers f) → n < w.first) (c : ℕ) (new : w.first ≤ c) (once : times c (numbers g) ≤ 1) (front : FrontAlloca g c) where
  cell_sized : slot_size m g c ≡ None → ⊥
  cell_sized none =
      let x = listed_at front.block.instrs (cell_alloca c front.ty) front.listed in
      let both : Some (size_of m front.ty) ≡ None = sym (instr_size m c g once 0 front.block x.0 (cell_alloca c front.ty) front.got x.1 (inl refl) ∙ ap (λ (t : Bool). if t then Some (size_of m front.ty) else None) (itself c)) ∙ none in
      absurd (cc)

  instrs_new : (q : ℕ) (b : Block) → slice_get g.blocks q ≡ Some b → FoundInstr b.instrs c → ⊥
  instrs_new q b got x = cell_sized (instr_size m c g once q b x.at x.instr got x.there (made_in x.instr c x.makes) ∙ no_alloca m x.instr c x.stays)

  pub no_cell : ((q : ℕ) (b : Block) → slice_get g.blocks q ≡ Some b → FoundPhi b.phis c → ⊥) → (FoundParam g.params c → ⊥) → IsListed c (values_of g) → ⊥
  no_cell no_phi no_param h =
      ⊎_elim (λ x. x)
      (λ l. ⊎_elim (λ a. no_param (params_found g.params c a)) (λ r. let x = blocks_found g.blocks c r in ⊎_elim (no_phi x.at x.block x.there) (instrs_new x.at x.block x.there) x.part) (listed_either c (params_defined g.params) (blocks_defined g.blocks) l))
      (distinct_listed [] (all_defined g) c h)
