-- The elided function has the markers of the function.
use Rattle.std.proofs.Common.{◌≡◌, ◌+◌, ℕ, Bool, false, List, [], ◌∷◌, ◌++◌, length, Option, refl, ◌∙◌, ◌||◌}
use Rattle.std.specs.List.{list_any}
use Rattle.std.specs.Prelude.{None, Some}
use Rattle.pass_elide.specs.Elided.{elided_blocks, elided_by, elided_function, elided_instrs, frame_allocas, frames_by, function_frames, given_call, instr_frames, with_front}
use Rattle.pass_elide.specs.declared.given.GivenFrame.{GivenFrame}
use Rattle.pass_elide_proof.specs.Places.{Rooms, allocas_ahead}
use Rattle.pass_proofs.specs.ir_model.declared.instr.Instr.{Instr}
use Rattle.pass_proofs.specs.ir_model.declared.module.Block.{Block}
use Rattle.pass_proofs.specs.ir_model.declared.module.Function.{Function}
use Rattle.pass_proofs.specs.ir_model.declared.operand.Callee.{Callee}
use Rattle.pass_proofs.specs.run_laws.changed.Changed.{Each}
use Rattle.pass_proofs.specs.run_step.Step.{has_markers, is_marker_of}

module _ (name : ℕ) where
  abbrev Marks : Instr → Bool
  Marks i = is_marker_of name i

  abbrev HasMark : Block → Bool
  HasMark b = list_any (is_marker_of name) b.instrs

  none_ahead : (front is : List Instr) → Each (λ (i : Instr). is_marker_of name i ≡ false) front
      → list_any (is_marker_of name) (front ++ is) ≡ list_any (is_marker_of name) is
  none_ahead [] is h = refl
  none_ahead (x ∷ xs) is h = λ j. h.0 j || none_ahead xs is h.1 j

  call_marks : (n : ℕ) (i : Instr) → is_marker_of name (given_call n i) ≡ is_marker_of name i
  call_marks n (Instr.Call result must_tail ty (Callee.Named g) args) = refl
  call_marks n (Instr.Call result must_tail ty (Callee.Allocator a) args) = refl
  call_marks n (Instr.Call result must_tail ty (Callee.Intrinsic j) args) = refl
  call_marks n (Instr.Call result must_tail ty (Callee.Local v) args) = refl
  call_marks n (Instr.Binary r op flags ty a b) = refl
  call_marks n (Instr.Icmp r pred ty a b) = refl
  call_marks n (Instr.Select r y a b) = refl
  call_marks n (Instr.Cast r op nneg a to) = refl
  call_marks n (Instr.Alloca r ty align) = refl
  call_marks n (Instr.Load r ty p align) = refl
  call_marks n (Instr.Store a p align) = refl
  call_marks n (Instr.Gep r inbounds ty p indices) = refl

  by_marks : (n : ℕ) (o : Option GivenFrame) (i : Instr) (rest : List Instr)
      → list_any (is_marker_of name) (elided_by n o i ++ rest)
      ≡ (is_marker_of name i || list_any (is_marker_of name) rest)
  by_marks n None i rest = refl
  by_marks n (Some (GivenFrame.Alloca size align)) i rest =
      λ j. call_marks n i j || list_any (is_marker_of name) rest
  by_marks n (Some (GivenFrame.Field base distance)) i rest =
      λ j. call_marks n i j || list_any (is_marker_of name) rest

  instrs_mark : (room : ℕ → Instr → Option GivenFrame) (at n : ℕ) (is : List Instr)
      → list_any (is_marker_of name) (elided_instrs room at n is) ≡ list_any (is_marker_of name) is
  instrs_mark room at n [] = refl
  instrs_mark room at n (i ∷ is) =
      by_marks n (room at i) i (elided_instrs room (at + 1) (length (frames_by (room at i)) + n) is)
      ∙ (λ j. is_marker_of name i || instrs_mark room (at + 1) (length (frames_by (room at i)) + n) is j)

  blocks_mark : (room : Rooms) (block n : ℕ) (bs : List Block)
      → list_any HasMark (elided_blocks room block n bs) ≡ list_any HasMark bs
  blocks_mark room block n [] = refl
  blocks_mark room block n (b ∷ bs) =
      λ j. instrs_mark (room block) (length b.phis) n b.instrs j
      || blocks_mark room (block + 1) (length (instr_frames (room block) (length b.phis) b.instrs) + n) bs j

  front_marks : (front : List Instr) (bs : List Block) → Each (λ (i : Instr). is_marker_of name i ≡ false) front
      → list_any HasMark (with_front front bs) ≡ list_any HasMark bs
  front_marks front [] h = refl
  front_marks front (b ∷ bs) h = λ j. none_ahead front b.instrs h j || list_any HasMark bs

  allocas_mark : (n : ℕ) (rs : List GivenFrame)
      → Each (λ (i : Instr). is_marker_of name i ≡ false) (frame_allocas n rs)
  allocas_mark n [] = tt
  allocas_mark n (GivenFrame.Alloca size align ∷ rs) = (refl, allocas_mark (n + 1) rs)
  allocas_mark n (GivenFrame.Field base distance ∷ rs) = allocas_mark (n + 1) rs

  pub same_markers : (room : Rooms) (f : Function) → has_markers (elided_function room f) name ≡ has_markers f name
  same_markers room f =
      front_marks (allocas_ahead room f) (elided_blocks room 0 (length f.names) f.blocks)
      (allocas_mark (length f.names) (function_frames room f))
      ∙ blocks_mark room 0 (length f.names) f.blocks
