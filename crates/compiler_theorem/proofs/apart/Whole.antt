-- Fields of what crosses lie apart from live slots, in each state beside one of the run before.
use Rattle.std.proofs.Common.{◌≡◌, inl, inr, ℕ, zero, suc, ◌+◌, ◌≤◌, true, false, List, [], ◌∷◌, Some, sym, ap, ◌∙◌, subst}
use Rattle.std.proofs.lemmas.Option.{slice_get-map}
use Rattle.std.specs.Prelude.{option_map, slice_get}
use Rattle.compiler_theorem.proofs.apart.Facts.{good, held, layout}
use Rattle.compiler_theorem.proofs.apart.Fields.{field_apart, once}
use Rattle.compiler_theorem.proofs.apart.Kept.{edged_is}
use Rattle.compiler_theorem.proofs.kinds.Opened.{field_there}
use Rattle.compiler_theorem.specs.theorem.Anew.{Anew, IsAnewOf}
use Rattle.compiler_theorem.specs.theorem.Asked.{asking}
use Rattle.compiler_theorem.specs.theorem.Between.{setting}
use Rattle.compiler_theorem.specs.theorem.Entries.{IsEntryCall, Run}
use Rattle.compiler_theorem.specs.theorem.Lowered.{HasFewBytes, IsLowered, Lowered, early, edged}
use Rattle.compiler.specs.flow_solver.Paths.{IsListed}
use Rattle.compiler.specs.frame_contents.Held.{field_of, value_held}
use Rattle.compiler.specs.frame_layout.declared.layout.Layout.{Layout}
use Rattle.compiler.specs.ir_model.Layout.{size_of}
use Rattle.compiler.specs.ir_model.Names.{function_at}
use Rattle.compiler.specs.ir_model.Ty.{Ty}
use Rattle.compiler.specs.ir_model.declared.instr.Instr.{Instr}
use Rattle.compiler.specs.ir_model.declared.module.Function.{Function}
use Rattle.compiler.specs.ir_model.declared.module.Module.{Module}
use Rattle.compiler.specs.pass_cells.declared.plan.KeptValue.{KeptValue}
use Rattle.compiler.specs.pass_fetch.Fetching.{value_bytes}
use Rattle.compiler.specs.pass_frames.Tables.{offset_at}
use Rattle.pass_frames_meaning.specs.Sized.{AreSlotwise, AreSlotwiseIn, IsSizedAt, IsSizedState}
use Rattle.pass_frames_meaning.specs.Sized.{sizes_of as sizes_in}
use Rattle.pass_frames_meaning.specs.Spared.{AreFieldsApart, HasFieldAt}
use Rattle.pass_frames_meaning.proofs.pass_frames_proof.followed.Assembly.{other_instance}
use Rattle.pass_frames_meaning.proofs.pass_frames_proof.lines.Cells.{contained}
use Rattle.pass_frames_meaning.specs.pass_frames_proof.Related.{AreBuiltOf}
use Rattle.pass_frames_meaning.specs.pass_frames_proof.Slotted.{HasFrameThere}
use Rattle.pass_frames_meaning.specs.pass_renewed_meaning.Offsets.{first_at}
use Rattle.pass_frames_meaning.specs.pass_renewed_proof.Beside.{IsBeside}
use Rattle.pass_frames_meaning.specs.pass_renewed_proof.SlotRules.{IsMadeOnce}
use Rattle.compiler.specs.run_framed.Framed.{layout_of}
use Rattle.compiler.specs.run_memory.declared.block.MemoryBlock.{MemoryBlock}
use Rattle.compiler.specs.run_source.declared.state.Instance.{Instance}
use Rattle.compiler.specs.run_source.declared.state.State.{State}
use Rattle.compiler.specs.run_step.Step.{AtInstr, fetch}
use Rattle.pass_frames_meaning.specs.pass_renewed_proof.Steps.{given_at}
use Rattle.compiler.specs.run_step.declared.world.Slot.{Slot}

-- ---- of each slot

of_instance : (W : Function → Slot → Type 0) (m : Module) (xs : List Instance) (i : ℕ) (x : Instance)
    → AreSlotwiseIn W m xs → slice_get xs i ≡ Some x → AreSlotwise W (function_at m x.coroutine) x.slots
of_instance W m [] i x h e = absurd (cc)
of_instance W m (y ∷ xs) zero x h e =
    let same : y ≡ x = cc in
    subst (λ (z : Instance). AreSlotwise W (function_at m z.coroutine) z.slots) same h.0
of_instance W m (y ∷ xs) (suc i) x h e = of_instance W m xs i x h.1 e

pub of_slot : (W : Function → Slot → Type 0) (f : Function) (ss : List Slot) (slot : Slot) → AreSlotwise W f ss
    → IsListed slot ss → W f slot
of_slot W f [] slot h k = absurd k
of_slot W f (s ∷ ss) slot h (inl e) = subst (W f) (sym e) h.0
of_slot W f (s ∷ ss) slot h (inr k) = of_slot W f ss slot h.1 k

-- the alloca of a slot, in the entry block, and the size and the alignment of its block
pub record IsOfSize (m : Module) (f : Function) (v : ℕ) (y : MemoryBlock) : Type 0 where
  pub at : ℕ
  pub ty : Ty
  pub align : ℕ
  pub stands : fetch f 0 at ≡ AtInstr (Instr.Alloca v ty align)
  pub sized : y.size ≡ size_of m ty
  pub aligned : y.align ≡ align

pub size_there : (m : Module) (s : State) → IsSizedState m s → (i : ℕ) (x : Instance)
    → slice_get s.instances i ≡ Some x → (slot : Slot) → IsListed slot x.slots
    → IsMadeOnce (function_at m x.coroutine) slot.alloca → (y : MemoryBlock)
    → slice_get s.world.memory slot.block ≡ Some y → IsOfSize m (function_at m x.coroutine) slot.alloca y
size_there m s sized i x there slot k once y e =
    let h : IsSizedAt m (sizes_in s.world.memory) (function_at m x.coroutine) slot =
    of_slot (IsSizedAt m (sizes_in s.world.memory)) (function_at m x.coroutine) x.slots slot
    (of_instance (IsSizedAt m (sizes_in s.world.memory)) m s.instances i x sized.instances there) k in
    let first : h.block ≡ 0 = (once.alone h.block h.at (ap given_at h.stands)).0 in
    let both : Some (y.size, y.align) ≡ Some (size_of m h.ty, h.align) =
    sym (slice_get-map (λ (z : MemoryBlock). (z.size, z.align)) s.world.memory slot.block
    ∙ ap (option_map (λ (z : MemoryBlock). (z.size, z.align))) e) ∙ h.sized in
    let same : ◌≡◌ {A = ℕ × ℕ} (y.size, y.align) (size_of m h.ty, h.align) = same_pair both in
    record {
      at = h.at;
      ty = h.ty;
      align = h.align;
      stands = subst (λ (b : ℕ). fetch (function_at m x.coroutine) b h.at ≡ AtInstr (Instr.Alloca slot.alloca h.ty h.align))
          first h.stands;
      sized = ap (λ (q : ℕ × ℕ). q.0) same;
      aligned = ap (λ (q : ℕ × ℕ). q.1) same;
    }
  where
    same_pair : {p q : ℕ × ℕ} → Some p ≡ Some q → p ≡ q
    same_pair e = cc

module _ (l : Lowered) (low : IsLowered l) (few : HasFewBytes l) (a : Anew) (anew : IsAnewOf (early l) a) (r : Run)
    (entered : IsEntryCall l.source r) where
  inside : (func suspend v position : ℕ) (k : KeptValue) → (function_at (early l) func).coroutine ≡ true
      → HasFieldAt (asking l low a r).b func suspend v position k
      → offset_at ((asking l low a r).b.framing func).layout position + value_bytes k.field_ty
      ≤ (layout_of l.layouts.coroutines func).size
  inside func suspend v position k coroutine field =
      let value = held l low a r func coroutine v k field.kept in
      let x = (asking l low a r).b.framing func in
      let position_is : value.position ≡ position = same_number value.position position (sym value.told ∙ field.placed) in
      let g = good l low a r func coroutine in
      let in_layout = (g.each value.position (field_of (function_at (early l) func) (value_held v (value_bytes k.field_ty)))
      (field_there (function_at (early l) func) x.contents.held value.position (value_held v (value_bytes k.field_ty))
      value.there)).inside in
      subst (λ (q : Layout × ℕ). offset_at q.0 q.1 + value_bytes k.field_ty ≤ (layout_of l.layouts.coroutines func).size)
      (λ j. (sym (layout l low a r func coroutine) j, position_is j)) in_layout
    where
      same_number : (u q : ℕ) → Some u ≡ Some q → u ≡ q
      same_number u q e = cc

  module _ (n : ℕ) (s : State) (is_one : (i : ℕ) (x : Instance) → slice_get s.instances i ≡ Some x
      → (function_at (early l) x.coroutine).coroutine ≡ true)
      (beside : IsBeside (edged l) a.flags a.roots (first_at (setting l a r) n) s) (sized : IsSizedState (edged l) s)
      (frames : (i : ℕ) (x : Instance) → slice_get s.instances i ≡ Some x → x.freed ≡ false
      → HasFrameThere (asking l low a r).b s x) where
    pub fields_apart_of : AreFieldsApart (asking l low a r).b s
    fields_apart_of = record {
      frames = λ i x there unfreed p env status. frames i x there unfreed;
      inside = inside;
      apart = λ i x there unfreed p env status suspend v position k number field slot y place own e live told.
          let c = is_one i x there in
          let li = contained x.slots slot own in
          let made = once l low few a anew r entered n s beside i x there c slot li in
          let z = size_there (edged l) s sized i x there slot li
          (subst (λ (g : Function). IsMadeOnce g slot.alloca) (sym (edged_is l low few a anew r entered x.coroutine c)) made)
          y e in
          field_apart l low few a anew r entered n s beside i x there c slot li p env status y e live suspend number z.at
          z.align z.ty z.stands z.sized v position place k field told;
    }

  pub fields_apart : (n : ℕ) (s t : State) → AreBuiltOf (asking l low a r).b s t
      → IsBeside (edged l) a.flags a.roots (first_at (setting l a r) n) s → IsSizedState (edged l) s
      → ((i : ℕ) (x : Instance) → slice_get s.instances i ≡ Some x → x.freed ≡ false
      → HasFrameThere (asking l low a r).b s x)
      → AreFieldsApart (asking l low a r).b s
  fields_apart n s t built =
      fields_apart_of n s (λ i x there. (other_instance (asking l low a r).b s t built i x there).2.is_coroutine)
