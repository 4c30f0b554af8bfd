-- Lemmas on sizes.
use Rattle.std.proofs.Common.{◌≡◌, ℕ, ◌+◌, Bool, true, false, List, [], ◌∷◌, ◌++◌, length, sym, subst}
use Rattle.std.specs.List.{list_all}
use Rattle.std.specs.Prelude.{None, Some, map, option_to_list, replicate, slice_get, slice_set}
use Rattle.pass_exits_proof.specs.ir_laws.facts.begin_order.Behind.{AreSizes}
use Rattle.pass_exits_proof.proofs.rule_laws.rules.counted.PartFacts.{block_passes, signature_passes}
use Rattle.pass_exits_proof.specs.rule_laws.rules.counted.Widths.{first_other_width, is_of_other_width}
use Rattle.pass_exits_proof.specs.ir_laws.facts.counted.Widths.{has_width}
use Rattle.pass_exits_proof.specs.frame_contents.Held.{crossing_values, frame_slots, held_blocks, held_of, held_params}
use Rattle.pass_exits_proof.specs.frame_contents.declared.contents.Contents.{Contents}
use Rattle.pass_exits_proof.specs.frame_contents.declared.held.Holding.{Holding}
use Rattle.pass_exits_proof.proofs.ir_laws.facts.Members.{each_behind, each_there, each_turns}
use Rattle.pass_exits_proof.proofs.ir_laws.facts.Truth.{and_first, holds}
use Rattle.pass_exits_proof.specs.ir_base.declared.outcome.Place.{Place}
use Rattle.pass_exits_proof.specs.ir_parts.Contents.{instr_types}
use Rattle.pass_exits_proof.specs.ir_parts.Parts.{OfInstr, OfPhi}
use Rattle.ir_model.specs.declared.instr.Instr.{Instr}
use Rattle.ir_model.specs.declared.instr.Phi.{Phi}
use Rattle.ir_model.specs.declared.module.Block.{Block}
use Rattle.ir_model.specs.declared.module.Function.{Function}
use Rattle.ir_model.specs.declared.module.Module.{Module}
use Rattle.ir_model.specs.declared.module.Param.{Param}
use Rattle.pass_exits_proof.specs.ir_paths.Slots.{has_name, promise_of}
use Rattle.pass_frames.specs.Tables.{sizes_by_name, with_sizes}
use Rattle.pass_exits_proof.specs.run_laws.changed.Changed.{Each}
use Rattle.pass_exits_proof.proofs.rule_laws.frames.begin_order.Sizes.{HasWidths, IsSmall, all_behind, blocks_small, each_set, none_sized, params_small}

all_set : (hs : List Holding) (sizes : List ℕ) → Each IsSmall hs → AreSizes sizes → AreSizes (with_sizes hs sizes)
all_set [] sizes h k = k
all_set (x ∷ hs) sizes h k = all_set hs (slice_set sizes x.value x.size) h.1 (each_set sizes x.value x.size k h.0)

pub held_sized : (m : Module) (k : ℕ) (f : Function) (c : Contents) → first_other_width k f ≡ None → c.held ≡ held_of m f c.classes c.crossing → AreSizes (sizes_by_name f c.held)
held_sized m k f c widths same =
    let is_value : ℕ → Bool = has_name (crossing_values c.crossing) in
    let is_slot : ℕ → Bool = has_name (frame_slots f c.classes) in
    let signature = signature_passes is_of_other_width k f widths in
    let params : list_all has_width (map (λ (p : Param). p.ty) f.params) ≡ true = all_behind (option_to_list f.result) (map (λ (p : Param). p.ty) f.params) (holds (list_all has_width (option_to_list f.result ++ map (λ (p : Param). p.ty) f.params)) signature.1) in
    let blocks : Each (HasWidths m (promise_of f) is_value is_slot) f.blocks = each_there (HasWidths m (promise_of f) is_value is_slot) f.blocks (λ j b e. of_block j b e) in
    let all : Each IsSmall (held_of m f c.classes c.crossing) = each_behind IsSmall (held_params is_value f.params) (held_blocks m (promise_of f) is_value is_slot f.blocks) (params_small is_value f.params params) (blocks_small m (promise_of f) is_value is_slot f.blocks blocks) in
    all_set c.held (replicate (length f.names) 0) (subst (Each IsSmall) (sym same) all) (none_sized (length f.names))
  where
    of_phis : (block : ℕ) (ps : List Phi) → Each (λ (p : Phi). (q : Place) × (q.block ≡ Some block) × (is_of_other_width q (OfPhi p) ≡ false)) ps → Each (λ (p : Phi). has_width p.ty ≡ true) ps
    of_phis block ps h = each_turns (λ (p : Phi). (q : Place) × (q.block ≡ Some block) × (is_of_other_width q (OfPhi p) ≡ false)) (λ (p : Phi). has_width p.ty ≡ true) (λ p x. and_first (has_width p.ty) true (holds (list_all has_width (p.ty ∷ [])) x.2)) ps h

    of_block : (j : ℕ) (b : Block) → slice_get f.blocks j ≡ Some b → HasWidths m (promise_of f) (has_name (crossing_values c.crossing)) (has_name (frame_slots f c.classes)) b
    of_block j b e =
        let x = block_passes is_of_other_width k f widths j b e in
        record {
          phis = of_phis j b.phis x.phis;
          instrs = each_turns (λ (i : Instr). (q : Place) × (q.block ≡ Some j) × (is_of_other_width q (OfInstr i) ≡ false)) (λ (i : Instr). list_all has_width (instr_types i) ≡ true) (λ i y. holds (list_all has_width (instr_types i)) y.2) b.instrs x.instrs;
        }
