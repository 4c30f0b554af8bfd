-- Begin's value has no cell and no field, and no alloca gives it.
use Rattle.std.proofs.Common.{◌≡◌, ⊎_elim, ℕ, ◌+◌, ◌<◌, ◌≤◌, Bool, true, false, List, [], ◌∷◌, ◌++◌, length, map, Option, Some, None, refl, sym, ap, ◌∙◌, subst, arith}
use Rattle.std.specs.Prelude.{slice_get, unwrap_or}
use Rattle.std.proofs.lemmas.Bool.{false≢true}
use Rattle.pass_frames_proof.specs.flow_solver.Paths.{IsListed}
use Rattle.pass_frames_proof.specs.frame_classes.declared.class.SlotClass.{SlotClass}
use Rattle.pass_frames_proof.specs.ir_model.Calls.{first_result, first_result_by, first_result_in, or_else}
use Rattle.pass_frames_proof.specs.ir_model.Ty.{Ty}
use Rattle.pass_frames_proof.specs.ir_model.declared.instr.Instr.{Instr}
use Rattle.pass_frames_proof.specs.ir_model.declared.module.Block.{Block}
use Rattle.pass_frames_proof.specs.ir_model.declared.module.Function.{Function}
use Rattle.pass_frames_proof.specs.ir_model.declared.operand.Intrinsic.{Intrinsic}
use Rattle.pass_frames_proof.specs.ir_parts.Contents.{result_of}
use Rattle.pass_frames_proof.specs.ir_paths.Slots.{allocas_of}
use Rattle.pass_frames_proof.specs.ir_paths.Windows.{instr_at, instr_in, is_call_of}
use Rattle.pass_frames_proof.specs.pass_cells.Kept.{entry}
use Rattle.pass_frames_proof.specs.pass_edges.EdgeBlocks.{edge_block, split_blocks, with_edge_blocks}
use Rattle.pass_frames_proof.specs.pass_edges.Edges.{block_edges, edge_table, edges_of, phi_flags}
use Rattle.pass_frames_proof.specs.pass_edges.declared.edge.Edge.{Edge}
use Rattle.pass_frames_proof.specs.pass_frames.Framed.{begin_of}
use Rattle.pass_frames_meaning.proofs.others.Names.{once, result_low}
use Rattle.pass_frames_proof.specs.Framings.{IsFraming}
use Rattle.pass_frames_proof.specs.Passes.{no_block}
use Rattle.pass_frames_proof.specs.Places.{Framing, edged, instrs_at, offsets, plan, with_copies}
use Rattle.pass_frames_proof.specs.Stepping.{IsBeginPlain}
use Rattle.pass_frames_proof.proofs.pass_proofs.cells.shape.Begin.{begin_unplaced}
use Rattle.pass_frames_proof.proofs.pass_proofs.frames.begin_order.Framed.{in_either, old_slot, slot_alloca}
use Rattle.pass_frames_proof.specs.pass_proofs.addresses.rules.Addresses.{lies_in_frame}
use Rattle.pass_frames_proof.specs.pass_proofs.frames.begin_order.Fields.{IsField, values_kept}
use Rattle.pass_frames_proof.proofs.rule_laws.rules.shape.Begin.{begin_result}
use Rattle.pass_frames_proof.proofs.rule_laws.rules.shape.Stands.{StandsAt, begin_stands}
use Rattle.pass_frames_proof.proofs.rule_laws.rules.source_rules.Slots.{alloca_of}

-- ---- begin where edges have blocks

none_called : (es : List Edge) (rest : List Block)
    → first_result_by Intrinsic.CoroBegin (map edge_block es ++ rest) ≡ first_result_by Intrinsic.CoroBegin rest
none_called [] rest = refl
none_called (e ∷ es) rest = none_called es rest

begin_by : (flags : List Bool) (rows : List (List Edge)) (n : ℕ) (bs : List Block)
    → first_result_by Intrinsic.CoroBegin (split_blocks flags rows n bs) ≡ first_result_by Intrinsic.CoroBegin bs
begin_by flags rows n [] = refl
begin_by flags rows n (b ∷ bs) =
    let es : List Edge = block_edges flags n b in
    ap (or_else (first_result_in Intrinsic.CoroBegin b.instrs))
    (none_called es (split_blocks flags rows (n + length es) bs) ∙ begin_by flags rows (n + length es) bs)

same_begin : (f : Function)
    → first_result Intrinsic.CoroBegin (with_edge_blocks f) ≡ first_result Intrinsic.CoroBegin f
same_begin f = begin_by (phi_flags f) (edge_table f (edges_of (phi_flags f) f)) (length f.names) f.blocks

-- ---- a coroutine

no_begin : (v align : ℕ) (ty : Ty) (i : Instr) → i ≡ Instr.Alloca v ty align
    → is_call_of Intrinsic.CoroBegin i ≡ true → ⊥
no_begin v align ty i e calls = false≢true (ap (is_call_of Intrinsic.CoroBegin) (sym e) ∙ calls)

module _ (x : Framing) (is : IsFraming x) where
  abbrev begin : ℕ
  begin = is.begin

  abbrev names : ℕ
  names = length (with_copies x).names

  abbrev First : ℕ
  First = length (edged x).names

  abbrev Count : ℕ
  Count = length (values_kept (edged x) x.contents.crossing).values

  pub first : first_result Intrinsic.CoroBegin (edged x) ≡ Some begin
  first = same_begin x.function ∙ is.frameable.begins

  S : StandsAt (edged x) Intrinsic.CoroBegin begin
  S = begin_stands (edged x) begin first

  makes : result_of S.instr ≡ Some begin
  makes = begin_result S.instr S.calls ∙ S.makes

  there : slice_get (instrs_at x S.position) S.at ≡ Some S.instr
  there = ap (λ (o : Option Block). slice_get (unwrap_or o no_block).instrs S.at) S.got ∙ S.there

  stands : instr_at (edged x) (record { block = S.position; at = S.at }) ≡ Some S.instr
  stands = ap (λ (o : Option Block). instr_in o S.at) S.got ∙ S.there

  low : begin < First
  low = result_low x is S.position S.at begin S.instr there makes

  unkept : entry (plan x).places begin ≡ None
  unkept =
      begin_unplaced x.code is.position (edged x) is.frameable.rules begin first x.contents.crossing
      is.frameable.cells.values First

  no_slot : IsListed begin (allocas_of (edged x)) → ⊥
  no_slot l =
      let a = alloca_of (edged x) begin l in
      no_begin begin a.align a.ty S.instr
      (once x is (record { block = S.position; at = S.at }) a.point S.instr (Instr.Alloca begin a.ty a.align) begin stands
      a.stands makes refl) S.calls

  no_field : IsField First Count begin → ⊥
  no_field y =
      let up : First + Count ≤ begin = y.low in
      let lt : begin < First = low in
      omega (arith, up, lt)

  outside : lies_in_frame (offsets x) begin ≡ false
  outside = on (lies_in_frame (offsets x) begin) refl
    where
      on : (b : Bool) → lies_in_frame (offsets x) begin ≡ b → b ≡ false
      on false e = refl
      on true e = absurd (⊎_elim
          (λ o. no_slot (slot_alloca x.code is.position x.layout x.function x.contents begin names is.frameable begin
          SlotClass.Frame
          (old_slot x.code is.position x.layout x.function x.contents begin names is.frameable begin o)))
          (λ y. no_field y)
          (in_either x.code is.position x.layout x.function x.contents begin names is.frameable begin e))

  same : begin ≡ begin_of x.function
  same = sym (ap (λ (o : Option ℕ). unwrap_or o 0) is.frameable.begins)

pub begin_plain : (x : Framing) → IsFraming x → IsBeginPlain x
begin_plain x is = record {
  low = subst (λ (v : ℕ). v < length (edged x).names) (same x is) (low x is);
  unkept = subst (λ (v : ℕ). entry (plan x).places v ≡ None) (same x is) (unkept x is);
  outside = subst (λ (v : ℕ). lies_in_frame (offsets x) v ≡ false) (same x is) (outside x is);
}
