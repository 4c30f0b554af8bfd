-- Allocas of a coroutine stand in its entry block (F3), and each gives its name alone (N1).
use Rattle.std.proofs.Common.{◌≡◌, ℕ, false, Option, Some, None, refl, sym, ap, ◌∙◌, ◌==◌}
use Rattle.std.specs.Prelude.{not, slice_get, unwrap_or}
use Rattle.pass_frames_proof.specs.flow_solver.Paths.{IsListed}
use Rattle.pass_frames_proof.proofs.ir_laws.facts.Members.{at_each}
use Rattle.pass_frames_proof.proofs.ir_laws.facts.Truth.{equal_numbers, holds}
use Rattle.pass_frames_proof.specs.ir_model.Ty.{Ty}
use Rattle.pass_frames_proof.specs.ir_model.declared.instr.Instr.{Instr}
use Rattle.pass_frames_proof.specs.ir_model.declared.module.Block.{Block}
use Rattle.pass_frames_proof.specs.ir_paths.Slots.{allocas_of}
use Rattle.pass_frames_proof.specs.ir_paths.Windows.{instr_at, instr_in}
use Rattle.pass_frames_proof.specs.ir_paths.declared.point.Point.{Point}
use Rattle.pass_frames_meaning.proofs.others.Names.{point_there}
use Rattle.pass_frames_proof.specs.Framings.{IsFraming}
use Rattle.pass_frames_proof.specs.Passes.{no_block}
use Rattle.pass_frames_proof.specs.Places.{Framing, edged, instrs_at}
use Rattle.pass_frames_proof.proofs.rule_laws.rules.counted.PartFacts.{block_passes}
use Rattle.pass_frames_proof.proofs.rule_laws.rules.source_rules.Locals.{same_result}
use Rattle.pass_frames_proof.proofs.rule_laws.rules.source_rules.Slots.{alloca_of}
use Rattle.pass_frames_proof.specs.rule_locals.Entries.{allocates_late, is_past_entry}
use Rattle.pass_frames_proof.specs.rule_locals.Instrs.{on_instr}

-- an alloca of the entry block gives the name
pub record IsInEntry (x : Framing) (v : ℕ) : Type 0 where
  pub at : ℕ
  pub ty : Ty
  pub align : ℕ
  pub there : slice_get (instrs_at x 0) at ≡ Some (Instr.Alloca v ty align)

module _ (x : Framing) (is : IsFraming x) where
  pub alloca_first : (p : Point) (v align : ℕ) (ty : Ty) → instr_at (edged x) p ≡ Some (Instr.Alloca v ty align)
      → p.block ≡ 0
  alloca_first p v align ty e = on (slice_get (edged x).blocks p.block) refl e
    where
      on : (o : Option Block) → slice_get (edged x).blocks p.block ≡ o → instr_in o p.at ≡ Some (Instr.Alloca v ty align)
          → p.block ≡ 0
      on None d h = absurd (cc)
      on (Some b) d h =
          let late = at_each _ b.instrs p.at (Instr.Alloca v ty align)
          (block_passes (on_instr allocates_late) is.position (edged x) is.frameable.rules.local.allocas p.block b d).instrs
          h in
          let past : not (p.block == 0) ≡ false = ap is_past_entry (sym late.1) ∙ late.2 in
          equal_numbers p.block 0 (holds (p.block == 0) past)

  instr_there : (p : Point) (i : Instr) → p.block ≡ 0 → instr_at (edged x) p ≡ Some i
      → slice_get (instrs_at x 0) p.at ≡ Some i
  instr_there p i first e =
      on (slice_get (edged x).blocks 0) refl (ap (λ (k : ℕ). instr_in (slice_get (edged x).blocks k) p.at) (sym first) ∙ e)
    where
      on : (o : Option Block) → slice_get (edged x).blocks 0 ≡ o → instr_in o p.at ≡ Some i
          → slice_get (unwrap_or o no_block).instrs p.at ≡ Some i
      on None d h = absurd (cc)
      on (Some b) d h = h

  pub in_entry : (v : ℕ) → IsListed v (allocas_of (edged x)) → IsInEntry x v
  in_entry v l =
      let a = alloca_of (edged x) v l in
      record {
        at = a.point.at;
        ty = a.ty;
        align = a.align;
        there = instr_there a.point (Instr.Alloca v a.ty a.align) (alloca_first a.point v a.align a.ty a.stands) a.stands;
      }

  -- the alloca of a name is one
  pub same_alloca : (k at l other v align align' : ℕ) (ty ty' : Ty)
      → slice_get (instrs_at x k) at ≡ Some (Instr.Alloca v ty align)
      → slice_get (instrs_at x l) other ≡ Some (Instr.Alloca v ty' align') → at ≡ other
  same_alloca k at l other v align align' ty ty' e d =
      ap (λ (p : Point). p.at)
      (same_result is.position (edged x) is.frameable.rules.definitions (record { block = k; at = at })
      (record { block = l; at = other }) (Instr.Alloca v ty align) (Instr.Alloca v ty' align') v
      (point_there x is k at (Instr.Alloca v ty align) e) (point_there x is l other (Instr.Alloca v ty' align') d) refl
      refl)
