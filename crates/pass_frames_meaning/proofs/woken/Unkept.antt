-- Allocas and begin give names that are kept in no cell, and of which no distance is kept.
use Rattle.std.proofs.Common.{◌≡◌, ℕ, Bool, List, Option, Some, None, refl, sym, ◌∙◌, subst}
use Rattle.std.specs.Prelude.{slice_get, unwrap_or}
use Rattle.pass_frames_proof.specs.flow_solver.Paths.{IsListed}
use Rattle.pass_frames_proof.specs.frame_classes.declared.class.SlotClass.{SlotClass}
use Rattle.pass_frames_proof.specs.ir_model.declared.instr.Instr.{Instr}
use Rattle.pass_frames_proof.specs.ir_model.declared.module.Block.{Block}
use Rattle.pass_frames_proof.specs.ir_model.declared.operand.Callee.{Callee}
use Rattle.pass_frames_proof.specs.ir_model.declared.operand.Intrinsic.{Intrinsic}
use Rattle.pass_frames_proof.specs.ir_paths.Slots.{allocas_of}
use Rattle.pass_frames_proof.specs.ir_paths.Windows.{instr_at, instr_in}
use Rattle.pass_frames_proof.specs.ir_paths.declared.point.Point.{Point}
use Rattle.pass_frames_proof.specs.pass_cells.Kept.{entry}
use Rattle.pass_frames_proof.specs.pass_frames.Framed.{begin_of}
use Rattle.pass_frames_proof.specs.pass_frames.Tables.{class_flags}
use Rattle.pass_frames_meaning.proofs.led.Begins.{HasBegin, has_begin}
use Rattle.pass_frames_meaning.proofs.others.Names.{no_distance, once}
use Rattle.pass_frames_meaning.specs.Led.{IsBegin}
use Rattle.pass_frames_meaning.specs.Plain.{IsNoGep}
use Rattle.pass_frames_proof.specs.Framings.{IsFraming}
use Rattle.pass_frames_proof.specs.Passes.{no_block}
use Rattle.pass_frames_proof.specs.Places.{Framing, edged, instrs_at, plan}
use Rattle.pass_frames_proof.proofs.pass_proofs.cells.rules.Keepable.{keeping_holds, once as names_once}
use Rattle.pass_frames_proof.proofs.rule_laws.rules.counted.Slots.{alloca_sized}
use Rattle.pass_frames_proof.proofs.rule_laws.rules.renamed.Uses.{result_spelt}
use Rattle.pass_frames_proof.proofs.rule_laws.rules.source_rules.Slots.{HasAlloca, alloca_of}
use Rattle.pass_frames_proof.specs.run_framed.Framed.{begin_name}

-- what stands at a point is in its block
in_block : (x : Framing) (p : Point) (i : Instr) → instr_at (edged x) p ≡ Some i
    → slice_get (instrs_at x p.block) p.at ≡ Some i
in_block x p i e = on (slice_get (edged x).blocks p.block) e
  where
    on : (o : Option Block) → instr_in o p.at ≡ Some i → slice_get (unwrap_or o no_block).instrs p.at ≡ Some i
    on None d = absurd (cc)
    on (Some b) d = d

begin_no_gep : (i : Instr) → IsBegin i → IsNoGep i
begin_no_gep (Instr.Call result must_tail ty (Callee.Intrinsic Intrinsic.CoroBegin) args) h = tt
begin_no_gep (Instr.Gep r inbounds ty base indices) h = absurd h
begin_no_gep (Instr.Binary r op flags ty a b) h = tt
begin_no_gep (Instr.Icmp r pred ty a b) h = tt
begin_no_gep (Instr.Select r k a b) h = tt
begin_no_gep (Instr.Cast r op nneg a to) h = tt
begin_no_gep (Instr.Alloca r ty align) h = tt
begin_no_gep (Instr.Load r ty p align) h = tt
begin_no_gep (Instr.Store a p align) h = tt
begin_no_gep (Instr.Call r must_tail ty callee args) h = tt

module _ (x : Framing) (is : IsFraming x) where
  abbrev local : List Bool
  local = class_flags x.function x.contents.classes SlotClass.Local

  -- an alloca's name crosses no suspend
  pub alloca_unkept : (v : ℕ) → IsListed v (allocas_of (edged x)) → entry (plan x).places v ≡ None
  alloca_unkept v l = on (entry (plan x).places v) refl
    where
      on : (o : Option ℕ) → entry (plan x).places v ≡ o → o ≡ None
      on None e = refl
      on (Some at) e =
          let keeps = keeping_holds x.code is.position (edged x) is.frameable.rules x.contents.crossing local
          is.frameable.cells in
          absurd (alloca_sized x.code (edged x) v (names_once x.code is.position (edged x) is.frameable.rules
          x.contents.crossing local is.frameable.cells v) l (keeps.holds v at (keeps.there v at e)).no_slot)

  -- and has no distance
  pub alloca_near : (v : ℕ) → IsListed v (allocas_of (edged x)) → entry (plan x).cells v ≡ None
  alloca_near v l =
      let a : HasAlloca (edged x) v = alloca_of (edged x) v l in
      no_distance x is a.point.block a.point.at (Instr.Alloca v a.ty a.align)
      (in_block x a.point (Instr.Alloca v a.ty a.align) a.stands) v refl tt

  -- ---- begin

  module _ (begins : begin_name (edged x) ≡ Some (begin_of x.function)) where
    b : HasBegin (edged x) (begin_of x.function)
    b = has_begin (edged x) (begin_of x.function) begins

    pub begin_near : entry (plan x).cells (begin_of x.function) ≡ None
    begin_near =
        no_distance x is b.point.block b.point.at b.instr (in_block x b.point b.instr b.there)
        (begin_of x.function) (result_spelt b.instr ∙ b.gives) (begin_no_gep b.instr b.begins)

    pub begin_no_alloca : IsListed (begin_of x.function) (allocas_of (edged x)) → ⊥
    begin_no_alloca l =
        let v : ℕ = begin_of x.function in
        let a : HasAlloca (edged x) v = alloca_of (edged x) v l in
        subst IsBegin (sym (once x is a.point b.point (Instr.Alloca v a.ty a.align) b.instr v a.stands b.there refl
        (result_spelt b.instr ∙ b.gives))) b.begins
