-- What stands right behind begin for each slot that is used before it.
use Rattle.std.proofs.Common.{◌≡◌, ◌+◌, ◌∷◌, ◌++◌, ◌∙◌, [], List, None, Some, ap, arith, refl, ℕ}
use Rattle.std.specs.Prelude.{false, pos, slice_get}
use Rattle.pass_frames_steps.specs.ir_model.Ty.{int, ptr}
use Rattle.pass_frames_steps.specs.ir_model.declared.instr.Instr.{Instr}
use Rattle.pass_frames_steps.specs.ir_model.declared.operand.Arg.{Arg}
use Rattle.pass_frames_steps.specs.ir_model.declared.operand.Callee.{Callee}
use Rattle.pass_frames_steps.specs.ir_model.declared.operand.Intrinsic.{Intrinsic}
use Rattle.pass_frames_steps.specs.ir_model.declared.operand.Operand.{Operand}
use Rattle.pass_frames_steps.specs.pass_addresses.Placing.{lies_outside}
use Rattle.pass_frames_steps.specs.pass_copies.BeginCopies.{begin_copies, copy, put}
use Rattle.pass_frames_steps.specs.pass_copies.declared.slot.EarlySlot.{EarlySlot}
use Rattle.pass_frames_steps.specs.pass_fetch.Fetching.{address_behind, fetch_of, fetches_by, next_by, operand_by}
use Rattle.pass_frames_steps.specs.pass_frames.Framed.{begin_of}
use Rattle.pass_frames_steps.proofs.code.Idle.{only_idle}
use Rattle.pass_frames_proof.proofs.from_edges.Puts.{put_code, put_is}
use Rattle.pass_frames_steps.proofs.layers.Grown.{both_becomes}
use Rattle.pass_frames_steps.proofs.layers.Idle.{all_stay}
use Rattle.pass_frames_steps.proofs.lines.Fillers.{field_fetched}
use Rattle.pass_frames_steps.specs.Code.{slot_table}
use Rattle.pass_frames_steps.specs.Early.{IsCopiedSlot, copies_line}
use Rattle.pass_frames_steps.specs.Layers.{Layer, becomes, grown, only}
use Rattle.pass_frames_steps.specs.Passes.{fetching_at}
use Rattle.pass_frames_steps.specs.Places.{Framing, addressing_layer, offsets, unmarked}
use Rattle.pass_frames_steps.specs.pass_intrinsics.Lowered.{number_arg, pointer_arg}
use Rattle.pass_frames_steps.specs.run_laws.changed.Changed.{Each}

-- ---- the code

abbrev pub copy_args : ℕ → EarlySlot → List Arg
copy_args m s =
    pointer_arg (Operand.Local m)
    ∷ pointer_arg (Operand.Local s.temporary)
    ∷ number_arg 64 (pos s.size)
    ∷ record { ty = int 1; value = Operand.False }
    ∷ []

abbrev pub copy_from : ℕ → EarlySlot → Instr
copy_from m s = Instr.Call None false None (Callee.Intrinsic Intrinsic.MemcpyI64) (copy_args m s)

module _ (x : Framing) (k : ℕ) where
  abbrev A : Layer (ℕ × Unit {0})
  A = addressing_layer x k

  -- an address is made, and the bytes are copied there
  abbrev pub copy_code : ℕ → ℕ → EarlySlot → List Instr
  copy_code m d s = address_behind m (begin_of x.function) d ∷ copy_from m s ∷ []

  copy_is : (m d : ℕ) (s : EarlySlot) → slice_get (offsets x) s.slot ≡ Some (Some d)
      → fetch_of (slot_table x) (Operand.Local s.temporary) ≡ None
      → (becomes A (m, tt) (copy s) ≡ copy_code m d s) × (A.after (m, tt) (copy s) ≡ (m + 1, tt))
  copy_is m d s told none =
      let at = field_fetched x k s.slot d told in (
        both_becomes (fetching_at (unmarked x) (slot_table x) k) (only (lies_outside (offsets x))) m tt (copy s)
            ∙ (λ i. grown (only (lies_outside (offsets x))) tt
            ((fetches_by m (at i) ++ (fetches_by (next_by m (at i)) (none i) ++ []))
            ++ (Instr.Call None false None (Callee.Intrinsic Intrinsic.MemcpyI64)
            (record { ty = ptr; value = operand_by m (at i) (Operand.Local s.slot) }
            ∷ record { ty = ptr; value = operand_by (next_by m (at i)) (none i) (Operand.Local s.temporary) }
            ∷ number_arg 64 (pos s.size) ∷ record { ty = int 1; value = Operand.False } ∷ []) ∷ [])))
            ∙ all_stay (only (lies_outside (offsets x))) (copy_code m d s)
            (only_idle (lies_outside (offsets x)) _ refl, (only_idle (lies_outside (offsets x)) _ refl, tt)) tt,
        (λ i. (next_by (next_by m (at i)) (none i), tt)),
      )

  module _ (start : ℕ) where
    abbrev pub one_code : (m : ℕ) (s : EarlySlot) → IsCopiedSlot x start s → List Instr
    one_code m s p = copy_code m p.place.offset s ++ put_code x k (m + 1) p.place.offset s

    abbrev pub copies_code : (m : ℕ) (ss : List EarlySlot) → Each (IsCopiedSlot x start) ss → List Instr
    copies_code m [] ps = []
    copies_code m (s ∷ ss) ps = one_code m s ps.0 ++ copies_code (m + 2) ss ps.1

    pub copies_are : (m : ℕ) (ss : List EarlySlot) (ps : Each (IsCopiedSlot x start) ss)
        → copies_line x k m ss ≡ copies_code m ss ps
    copies_are m [] ps = refl
    copies_are m (s ∷ ss) ps =
        let d : ℕ = ps.0.place.offset in
        let one = copy_is m d s ps.0.place.told ps.0.unfetched in
        let two = put_is x k (m + 1) d s ps.0.place.told ps.0.place.unfetched in
        let e : m + 1 + 1 ≡ m + 2 = omega arith in
        (λ i. one.0 i ++ grown A (one.1 i) (put s.slot s.cell ∷ begin_copies ss))
        ∙ (λ i. copy_code m d s ++ (two.0 i ++ grown A (two.1 i) (begin_copies ss)))
        ∙ (λ i. copy_code m d s ++ (put_code x k (m + 1) d s ++ grown A (e i, tt) (begin_copies ss)))
        ∙ ap (λ (js : List Instr). copy_code m d s ++ (put_code x k (m + 1) d s ++ js))
        (copies_are (m + 2) ss ps.1)
