-- A slot that is copied at begin is used before it, where a path leads to begin.
use Rattle.std.proofs.Common.{◌≡◌, ⊎_elim, inl, inr, ℕ, zero, suc, ◌+◌, ◌<◌, ◌≤◌, Bool, true, false, List, []}
use Rattle.std.proofs.Common.{◌∷◌, ◌++◌, length, Option, Some, refl, sym, ap, ◌∙◌, subst, arith}
use Rattle.std.proofs.lemmas.Bool.{false≢true}
use Rattle.std.specs.Prelude.{option_to_list, replicate, slice_get, unwrap_or}
use Rattle.compiler_theorem.proofs.apart.EarlySlots.{begun_in, not_copied}
use Rattle.compiler_theorem.proofs.apart.EarlyUsed.{slot_flagged}
use Rattle.compiler_theorem.proofs.known.Left.{left_path}
use Rattle.compiler.specs.flow_solver.Paths.{IsListed}
use Rattle.compiler.specs.frame_classes.declared.class.SlotClass.{SlotClass}
use Rattle.compiler.specs.frame_conflicts.Conflicts.{IsUsedEarly}
use Rattle.compiler.specs.frame_contents.declared.contents.Contents.{Contents}
use Rattle.compiler.specs.frame_layout.declared.layout.Layout.{Layout}
use Rattle.compiler.specs.ir_model.Calls.{first_result}
use Rattle.compiler.specs.ir_model.declared.instr.Instr.{Instr}
use Rattle.compiler.specs.ir_model.declared.module.Function.{Function}
use Rattle.compiler.specs.ir_model.declared.module.Module.{Module}
use Rattle.compiler.specs.ir_model.declared.operand.Intrinsic.{Intrinsic}
use Rattle.compiler.specs.ir_parts.Contents.{result_of}
use Rattle.compiler.specs.ir_paths.Slots.{allocas_of}
use Rattle.compiler.specs.pass_cells.Kept.{entry}
use Rattle.compiler.specs.pass_copies.Slots.{entry_instrs}
use Rattle.compiler.specs.pass_copies.Uses.{flag_at, used_before}
use Rattle.compiler.specs.pass_copies.declared.slot.EarlySlot.{EarlySlot}
use Rattle.compiler.specs.pass_edges.EdgeBlocks.{with_edge_blocks}
use Rattle.compiler.specs.pass_frames.Framed.{begin_block, begin_of, celled, copied, offsets_of}
use Rattle.compiler.specs.pass_frames.Tables.{class_flags, label_flags, sizes_by_name}
use Rattle.pass_frames_meaning.proofs.begun.Begun.{first}
use Rattle.pass_frames_meaning.proofs.pass_frames_proof.code.Names.{blocks_mark, never}
use Rattle.pass_frames_meaning.specs.pass_frames_proof.Places.{Framing, before_labels, copies}
use Rattle.pass_frames_meaning.specs.pass_frames_proof.Places.{offsets, unmarked, with_copies, written}
use Rattle.compiler.proofs.pass_proofs.addresses.begin_order.Passing.{woven_passes}
use Rattle.compiler.proofs.pass_proofs.cells.rules.Keepable.{IsKeepable, keeping_holds, once as names_once}
use Rattle.compiler.proofs.pass_proofs.cells.rules.Keeping.{IsKeeping}
use Rattle.compiler.proofs.pass_proofs.frames.begin_order.Framed.{alloca_pointer, celled_behind, in_either, pointer_low}
use Rattle.compiler.proofs.pass_proofs.frames.begin_order.Framed.{slot_alloca, woven}
use Rattle.compiler.proofs.pass_proofs.frames.begin_order.Tables.{IsOfClass, slot_flagged as class_flagged}
use Rattle.compiler.proofs.pass_proofs.frames.rules.Built.{frameable}
use Rattle.compiler.specs.pass_proofs.addresses.rules.Addresses.{lies_in_frame}
use Rattle.compiler.specs.pass_proofs.cells.rules.Weaving.{cells_weaving}
use Rattle.compiler.specs.pass_proofs.frames.begin_order.Fields.{IsField, values_kept}
use Rattle.compiler.specs.pass_proofs.frames.begin_order.Frames.{IsFrameable, slot_offsets}
use Rattle.compiler.specs.pass_proofs.frames.rules.Buildable.{IsBuildable}
use Rattle.compiler.proofs.rule_laws.rules.counted.Slots.{alloca_sized}
use Rattle.compiler.specs.rule_uses.Undefined.{ReachesWithout}
use Rattle.compiler.specs.rule_uses.Uses.{made_by_instrs, values_at}

-- ---- what a block makes

still : (v : ℕ) (before : List ℕ) (is : List Instr) → IsListed v before → IsListed v (made_by_instrs before is)
still v before [] l = l
still v before (i ∷ is) l = still v (option_to_list (result_of i) ++ before) is (more (option_to_list (result_of i)))
  where
    more : (xs : List ℕ) → IsListed v (xs ++ before)
    more [] = l
    more (x ∷ xs) = inr (more xs)

pub makes : (v : ℕ) (before : List ℕ) (is : List Instr) (n : ℕ) (i : Instr) → slice_get is n ≡ Some i
    → result_of i ≡ Some v → IsListed v (made_by_instrs before is)
makes v before [] n i e d = absurd (cc)
makes v before (j ∷ is) zero i e d =
    let same : j ≡ i = cc in
    let row : option_to_list (result_of j) ≡ v ∷ [] = ap (λ (k : Instr). option_to_list (result_of k)) same
    ∙ ap (λ (o : Option ℕ). option_to_list o) d in
    still v (option_to_list (result_of j) ++ before) is
    (subst (λ (xs : List ℕ). IsListed v (xs ++ before)) (sym row) (inl refl))
makes v before (j ∷ is) (suc n) i e d = makes v (option_to_list (result_of j) ++ before) is n i e d

-- ---- a coroutine whose frame may be built

module _ (m : Module) (k : ℕ) (l : Layout) (f : Function) (c : Contents) (before : List ℕ) (begin : ℕ)
    (h : IsBuildable m k l f c before begin) where
  abbrev x : Framing
  x = record { code = m; layout = l; function = f; contents = c; before = before }

  abbrev F : Function
  F = with_edge_blocks f

  abbrev names : ℕ
  names = length (copied f c (celled m f c) before).names

  abbrev Slots : List Bool
  Slots = class_flags f c.classes SlotClass.Frame

  abbrev local : List Bool
  local = class_flags f c.classes SlotClass.Local

  may : IsFrameable m k l f c begin (length (copied f c (celled m f c) before).names)
  may = frameable m k l f c before begin h

  names_are : length (with_copies (record { code = m; layout = l; function = f; contents = c; before = before })).names
      ≡ length (copied f c (celled m f c) before).names
  unfolding celled copied
  names_are = refl

  begins : first_result Intrinsic.CoroBegin (with_edge_blocks f) ≡ Some begin
  begins = first x (record {
    position = k;
    begin = begin;
    frameable = subst (IsFrameable m k l f c begin) (sym names_are) may;
  })

  -- a block that makes begin's value where edges have blocks is begin's
  in_block : (block : ℕ) → IsListed begin (values_at (with_edge_blocks f) block)
      → IsListed begin (values_at (celled m f c) block)
  unfolding celled
  in_block block made = (woven_passes (cells_weaving m F c.crossing local) m k F (celled m f c) begin
      (woven m k l f c begin names may) may.rules may.once refl).made block made

  module _ (e : EarlySlot)
      (listed : IsListed e
      (copies (record { code = m; layout = l; function = f; contents = c; before = before })).slots)
      (inside : lies_in_frame
      (offsets (record { code = m; layout = l; function = f; contents = c; before = before })) e.slot ≡ true) where
    flagged : flag_at (used_before (celled m f c) (class_flags f c.classes SlotClass.Frame)
        (label_flags (celled m f c) (begin_block (celled m f c) ∷ before))) e.slot ≡ true
    unfolding celled
    flagged = slot_flagged (used_before (written x) Slots (before_labels x)) (sizes_by_name f c.held)
        (length (written x).names) (entry_instrs (written x).blocks) e listed

    in_slots : flag_at (class_flags f c.classes SlotClass.Frame) e.slot ≡ true
    in_slots = ⊎_elim (λ no. absurd (never (length (celled m f c).names) e.slot no)) (λ yes. yes)
        (blocks_mark Slots (label_flags (celled m f c) (begin_block (celled m f c) ∷ before))
        (replicate (length (celled m f c).names) false) (celled m f c).blocks e.slot flagged)

    class : IsOfClass SlotClass.Frame c.classes 0 (allocas_of f) e.slot
    class = ⊎_elim (λ no. absurd (never (length f.names) e.slot no)) (λ y. y)
        (class_flagged SlotClass.Frame c.classes 0 (allocas_of f) (replicate (length f.names) false) e.slot in_slots)

    among : IsListed e.slot (allocas_of (with_edge_blocks f))
    among = slot_alloca m k l f c begin names may e.slot SlotClass.Frame class

    low : e.slot < length (with_edge_blocks f).names
    low = pointer_low m k l f c begin names may e.slot (alloca_pointer m k l f c begin names may e.slot among)

    lies : lies_in_frame (offsets_of l f c (length (copied f c (celled m f c) before).names)) e.slot ≡ true
    lies = subst (λ (n : ℕ). lies_in_frame (offsets_of l f c n) e.slot ≡ true) names_are inside

    old : lies_in_frame (slot_offsets l c (length (copied f c (celled m f c) before).names)) e.slot ≡ true
    old = ⊎_elim (λ there. there)
        (λ (y : IsField (length F.names) (length (values_kept F c.crossing).values) e.slot).
        let up : length F.names + length (values_kept F c.crossing).values ≤ e.slot = y.low in
        absurd (omega (arith, up, low)))
        (in_either m k l f c begin names may e.slot lies)

    other : begin ≡ e.slot → ⊥
    other same = false≢true (sym (celled_behind m k l f c begin names may).outside
        ∙ ap (lies_in_frame (offsets_of l f c names)) same ∙ lies)

    kept : (at : ℕ) → entry (values_kept (with_edge_blocks f) c.crossing).places e.slot ≡ Some at → ⊥
    kept at told =
        let keeping : IsKeeping (length F.names) (IsKeepable m F) (values_kept F c.crossing) =
        keeping_holds m k F may.rules c.crossing local may.cells in
        alloca_sized m F e.slot (names_once m k F may.rules c.crossing local may.cells e.slot) among
        (keeping.holds e.slot at (keeping.there e.slot at told)).no_slot

    module _ (unused : IsUsedEarly f e.slot → ⊥) (block : ℕ)
        (made : IsListed begin (values_at (with_edge_blocks f) block))
        (reached : ReachesWithout
        (unmarked (record { code = m; layout = l; function = f; contents = c; before = before })) begin block) where
      there : block ≡ begin_block (celled m f c)
      there = begun_in m k l f c before begin h begins e.slot old unused other among kept block (in_block block made)

      pub copied_not : ⊥
      copied_not = not_copied m k l f c before begin h begins e.slot old unused other among kept
          (subst (ReachesWithout (celled m f c) begin) there (left_path m k l f c before begin h block reached)) Slots
          flagged

  begin_is : begin_of f ≡ begin
  begin_is = ap (λ (o : Option ℕ). unwrap_or o 0) h.named

  -- so it can't be that no use stands before begin
  pub never_unused : (e : EarlySlot)
      → IsListed e (copies (record { code = m; layout = l; function = f; contents = c; before = before })).slots
      → lies_in_frame (offsets (record { code = m; layout = l; function = f; contents = c; before = before })) e.slot
      ≡ true
      → (IsUsedEarly f e.slot → ⊥) → (block : ℕ) → IsListed (begin_of f) (values_at (with_edge_blocks f) block)
      → ReachesWithout (unmarked (record { code = m; layout = l; function = f; contents = c; before = before }))
      (begin_of f) block
      → ⊥
  never_unused e listed inside unused block made reached = copied_not e listed inside unused block
      (subst (λ (b : ℕ). IsListed b (values_at F block)) begin_is made)
      (subst (λ (b : ℕ). ReachesWithout (unmarked x) b block) begin_is reached)
