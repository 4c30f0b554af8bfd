-- What the rules say of the values that may be kept, and of the definitions of a function.
use Rattle.std.proofs.Common.{◌≡◌, ◌⊎◌, inl, inr, ⊎_elim, ℕ, zero, suc, ◌≤◌, Bool, true, false, List, [], ◌∷◌, ◌++◌, length, refl, sym, ap, ◌∙◌, subst}
use Rattle.std.specs.List.{list_all}
use Rattle.std.specs.Prelude.{Some, None, map, option_to_list, slice_get, ◌&&◌}
use Rattle.pass_edges_proof.proofs.rule_laws.frames.counted.CellKinds.{IsCellKind, made_cell}
use Rattle.pass_fetch_proof.proofs.cells.rules.CellKinds.{result_typed}
use Rattle.pass_edges_proof.proofs.rule_laws.rules.counted.DefinedKinds.{kind_of_instr, kind_of_param, kind_of_phi, made_in}
use Rattle.pass_fetch_proof.proofs.cells.rules.Keeping.{IsKeeping, keeping_is}
use Rattle.pass_edges_proof.proofs.rule_laws.rules.counted.PartFacts.{all_at, block_passes, signature_passes}
use Rattle.pass_edges_proof.proofs.ir_laws.paths.counted.PartFacts.{all_listed}
use Rattle.pass_edges_proof.proofs.rule_laws.rules.counted.Slots.{instr_size, param_size, phi_size}
use Rattle.pass_edges_proof.proofs.rule_laws.rules.counted.Times.{apart_times}
use Rattle.pass_edges_proof.proofs.rule_laws.rules.counted.Types.{scalar_cell}
use Rattle.pass_fetch_proof.proofs.cells.rules.ValueTypes.{TellBlock, TellResult, Tells, made_names}
use Rattle.pass_fetch_proof.specs.cells.rules.Asked.{AreCellsFor}
use Rattle.pass_edges_proof.specs.ir_laws.facts.counted.Widths.{has_width}
use Rattle.pass_edges_proof.specs.rule_laws.rules.counted.Widths.{is_of_other_width}
use Rattle.pass_edges_proof.proofs.ir_laws.facts.Members.{at_each, each_there}
use Rattle.pass_edges_proof.proofs.rule_laws.rules.local_rules.Names.{numbers}
use Rattle.pass_edges_proof.proofs.ir_laws.facts.Truth.{and_first, and_second, holds}
use Rattle.pass_edges_proof.proofs.rule_laws.rules.local_rules.Woven.{apart_names}
use Rattle.pass_edges_proof.proofs.ir_laws.paths.source_rules.Locals.{Apart, in_row, listed_either, listed_left, listed_right}
use Rattle.pass_edges_proof.proofs.rule_laws.rules.source_rules.Locals.{made_by, names_are}
use Rattle.pass_edges_proof.proofs.ir_laws.facts.Lists.{phi_names, row_of, FoundParam, FoundPhi}
use Rattle.pass_edges_proof.specs.flow_solver.Paths.{IsListed}
use Rattle.pass_edges_proof.specs.ir_parts.Contents.{instr_types, result_of}
use Rattle.pass_edges_proof.specs.ir_parts.Locals.{locals_of}
use Rattle.pass_edges_proof.specs.rule_laws.rules.function_rules.Kept.{KeepsFunctionRules}
use Rattle.ir_model.specs.Ty.{Ty}
use Rattle.ir_model.specs.declared.instr.Instr.{Instr}
use Rattle.ir_model.specs.declared.module.Block.{Block}
use Rattle.ir_model.specs.declared.module.Function.{Function}
use Rattle.ir_model.specs.declared.module.Module.{Module}
use Rattle.ir_model.specs.declared.module.Param.{Param}
use Rattle.pass_edges_proof.specs.rule_locals.Markers.{made_size, slot_size}
use Rattle.pass_edges_proof.specs.run_laws.changed.Changed.{Each}
use Rattle.pass_edges_proof.specs.frame_crossing.Values.{all_defined, blocks_defined, is_apart, params_defined, values_of}
use Rattle.pass_edges_proof.specs.rule_types.Signatures.{calls_otherwise}
use Rattle.pass_edges_proof.specs.pass_cells.Kept.{keeping_of}
use Rattle.pass_edges_proof.specs.pass_cells.declared.keeping.Keeping.{Keeping}
use Rattle.pass_edges_proof.specs.rule_values.Fits.{is_scalar}
use Rattle.pass_edges_proof.specs.rule_values.Instrs.{fits_instr}
use Rattle.pass_edges_proof.specs.rule_values.Kinds.{instr_kind, value_kind}
use Rattle.pass_edges_proof.specs.rule_values.Values.{breaks_values, fits_phi, has_scalar, is_scalar_or_void, takes}
use Rattle.pass_edges_proof.specs.ir_laws.facts.woven_rules.Pairs.{times}
use Rattle.pass_edges_proof.proofs.rule_laws.frames.counted.Keepable.{FoundBlock, FoundInstr, blocks_found, distinct_listed, params_found}
use Rattle.pass_edges_proof.proofs.ir_laws.paths.counted.Keepable.{param_listed, phi_listed}

-- a value that may be kept: an integer or an address, which the function defines, and which is no slot
pub record IsKeepable (m : Module) (f : Function) (v : ℕ) : Type 0 where
  pub kind : IsCellKind (value_kind f v)
  pub defined : IsListed v (map (λ p. p.name) f.params) ⊎ IsListed v (row_of made_names f.blocks)
  pub no_slot : slot_size m f v ≡ None

type_listed : (ps : List Param) (at : ℕ) (p : Param) → slice_get ps at ≡ Some p → IsListed p.ty (map (λ q. q.ty) ps)
type_listed [] at p e = absurd (cc)
type_listed (q ∷ ps) zero p e = let one : q ≡ p = cc in inl (ap (λ (x : Param). x.ty) (sym one))
type_listed (q ∷ ps) (suc at) p e = inr (type_listed ps at p e)

pub no_alloca : (m : Module) (i : Instr) (v : ℕ) → is_apart i ≡ false → made_size m i v ≡ None
no_alloca m (Instr.Alloca r ty align) v e = absurd (cc)
no_alloca m _ v e = refl

-- ---- by the rules

module _ (m : Module) (k : ℕ) (f : Function) (rules : KeepsFunctionRules m k f) (crossing : List (ℕ × ℕ)) (local : List Bool) (asked : AreCellsFor k f crossing local) where
  pub once : (n : ℕ) → times n (numbers f) ≤ 1
  once n = apart_times n (numbers f) (subst Apart (names_are k f) (apart_names [] (locals_of k f) rules.definitions))

  module _ (j : ℕ) (b : Block) (got : slice_get f.blocks j ≡ Some b) where
    pub block_fits : Each (λ i. fits_instr m (value_kind f) i ≡ true) b.instrs
    block_fits = each_there _ b.instrs (λ at i e. let x = at_each _ b.instrs at i (block_passes (breaks_values m (value_kind f) f.result) k f rules.local.values j b got).instrs e in holds (fits_instr m (value_kind f) i) x.2)

    pub block_widths : Each (λ i. list_all has_width (instr_types i) ≡ true) b.instrs
    block_widths = each_there _ b.instrs (λ at i e. let x = at_each _ b.instrs at i (block_passes is_of_other_width k f asked.widths j b got).instrs e in holds (list_all has_width (instr_types i)) x.2)

    instr_cell : (at : ℕ) (i : Instr) (v : ℕ) → slice_get b.instrs at ≡ Some i → result_of i ≡ Some v → is_apart i ≡ false → IsCellKind (instr_kind i v)
    instr_cell at i v e makes stays =
        let x = at_each _ b.instrs at i (block_passes (calls_otherwise m) k f rules.calls j b got).instrs e in
        made_cell m (value_kind f) x.0 v i makes stays (at_each _ b.instrs at i block_fits e) (at_each _ b.instrs at i block_widths e) x.2

    found_phi : (v : ℕ) → FoundPhi b.phis v → IsKeepable m f v
    found_phi v x =
        let fit = at_each _ b.phis x.at x.phi (block_passes (breaks_values m (value_kind f) f.result) k f rules.local.values j b got).phis x.there in
        let width = at_each _ b.phis x.at x.phi (block_passes is_of_other_width k f asked.widths j b got).phis x.there in
        let t : Ty = x.phi.ty in
        let scalar : is_scalar t ≡ true = and_first (is_scalar t) (list_all (takes (value_kind f) t) x.phi.incoming) (holds (fits_phi (value_kind f) t x.phi.incoming) fit.2) in
        let wide : has_width t ≡ true = and_first (has_width t) true (holds (has_width t && true) width.2) in
        let listed : IsListed v (phi_names b.phis) = phi_listed b.phis x.at x.phi v x.there x.same in
        record {
          kind = record { ty = t; cell = scalar_cell t scalar wide; kind = kind_of_phi f v (once v) j b x.at x.phi got x.there x.same };
          defined = inr (in_row made_names f.blocks j v b got (listed_left v (phi_names b.phis) (row_of made_by b.instrs) listed));
          no_slot = phi_size m v f (once v) j b got listed;
        }

    found_instr : (v : ℕ) → FoundInstr b.instrs v → IsKeepable m f v
    found_instr v x =
        let listed : IsListed v (made_by x.instr) = made_in x.instr v x.makes in
        let cell = instr_cell x.at x.instr v x.there x.makes x.stays in
        record {
          kind = record { ty = cell.ty; cell = cell.cell; kind = kind_of_instr f v (once v) j b x.at x.instr got x.there x.makes ∙ cell.kind };
          defined = inr (in_row made_names f.blocks j v b got (listed_right v (phi_names b.phis) (row_of made_by b.instrs) (in_row made_by b.instrs x.at v x.instr x.there listed)));
          no_slot = instr_size m v f (once v) j b x.at x.instr got x.there listed ∙ no_alloca m x.instr v x.stays;
        }

  found_param : (v : ℕ) → FoundParam f.params v → IsKeepable m f v
  found_param v x =
      let fit = signature_passes (breaks_values m (value_kind f) f.result) k f rules.local.values in
      let width = signature_passes is_of_other_width k f asked.widths in
      let t : Ty = x.param.ty in
      let scalar : is_scalar t ≡ true = all_at has_scalar f.params (and_second (is_scalar_or_void f.result) (list_all has_scalar f.params) (holds (is_scalar_or_void f.result && list_all has_scalar f.params) fit.1)) x.at x.param x.there in
      let types : List Ty = map (λ p. p.ty) f.params in
      let wide : has_width t ≡ true = all_listed has_width (option_to_list f.result ++ types) (holds (list_all has_width (option_to_list f.result ++ types)) width.1) t (listed_right t (option_to_list f.result) types (type_listed f.params x.at x.param x.there)) in
      let listed : IsListed v (map (λ p. p.name) f.params) = param_listed f.params x.at x.param v x.there x.same in
      record {
        kind = record { ty = t; cell = scalar_cell t scalar wide; kind = kind_of_param f v (once v) x.at x.param x.there x.same };
        defined = inl listed;
        no_slot = param_size m v f (once v) listed;
      }

  pub keepable : (v : ℕ) → IsListed v (values_of f) → IsKeepable m f v
  keepable v h = ⊎_elim (λ l. absurd l) all (distinct_listed [] (all_defined f) v h)
    where
      in_block : FoundBlock f.blocks v → IsKeepable m f v
      in_block x = ⊎_elim (found_phi x.at x.block x.there v) (found_instr x.at x.block x.there v) x.part

      all : IsListed v (all_defined f) → IsKeepable m f v
      all l = ⊎_elim (λ a. found_param v (params_found f.params v a)) (λ r. in_block (blocks_found f.blocks v r)) (listed_either v (params_defined f.params) (blocks_defined f.blocks) l)

  -- ---- what is kept

  abbrev pub kept_values : Keeping
  kept_values = keeping_of (length f.names) crossing

  pub keeping_holds : IsKeeping (length f.names) (IsKeepable m f) kept_values
  keeping_holds = keeping_is (length f.names) (IsKeepable m f) crossing (λ p l. keepable p.0 (asked.values p l))

  -- definitions tell the types of what is kept

  pub params_tell : Each (λ p. Tells f kept_values p.name p.ty) f.params
  params_tell = each_there _ f.params (λ at p e place there. kind_of_param f p.name (once p.name) at p e refl)

  result_tells : (j : ℕ) (b : Block) → slice_get f.blocks j ≡ Some b → (at : ℕ) (i : Instr) → slice_get b.instrs at ≡ Some i → TellResult f kept_values i
  result_tells j b got at i e r makes place there =
      let same : value_kind f r ≡ instr_kind i r = kind_of_instr f r (once r) j b at i got e makes in
      let cell = (keeping_holds.holds r place (keeping_holds.there r place there)).kind in
      same ∙ result_typed i r makes (record { ty = cell.ty; cell = cell.cell; kind = sym same ∙ cell.kind })

  pub blocks_tell : Each (TellBlock f kept_values) f.blocks
  blocks_tell =
      each_there _ f.blocks (λ j b got. (
        each_there _ b.phis (λ at p e place there. kind_of_phi f p.result (once p.result) j b at p got e refl),
        each_there _ b.instrs (λ at i e. result_tells j b got at i e),
      ))
