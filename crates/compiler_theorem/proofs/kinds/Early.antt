-- The temporary of a slot that is used before begin is of the slot's type: it is made of the slot's alloca.
use Rattle.std.proofs.Common.{◌≡◌, ◌&&◌, Bool, false, inl, inr, not, ℕ, suc, ◌<◌, ◌≤◌, List, [], ◌∷◌, length, Some, refl, sym, true, ap, arith, zero}
use Rattle.std.proofs.lemmas.Bool.{and_parts, leb-true}
use Rattle.std.specs.List.{Contains}
use Rattle.std.specs.Prelude.{nat_le, slice_get, unwrap_or}
use Rattle.compiler.specs.flow_solver.Paths.{IsListed}
use Rattle.compiler.specs.frame_classes.declared.class.SlotClass.{SlotClass}
use Rattle.compiler.proofs.ir_laws.paths.woven_rules.Unbroken.{of_listed}
use Rattle.compiler.specs.ir_model.Layout.{size_of}
use Rattle.compiler.specs.ir_model.Ty.{Ty}
use Rattle.compiler.specs.ir_model.declared.instr.Instr.{Instr}
use Rattle.compiler.specs.ir_model.declared.module.Block.{Block}
use Rattle.compiler.specs.ir_model.declared.module.Function.{Function}
use Rattle.compiler.specs.ir_model.declared.module.Module.{Module}
use Rattle.compiler.specs.ir_model.declared.operand.Operand.{Operand}
use Rattle.compiler.specs.ir_parts.Contents.{result_of}
use Rattle.compiler.specs.pass_copies.Slots.{entry_instrs}
use Rattle.compiler.specs.pass_copies.Uses.{used_before}
use Rattle.compiler.specs.pass_copies.declared.slot.EarlySlot.{EarlySlot}
use Rattle.compiler.specs.pass_frames.Tables.{class_flags, sizes_by_name}
use Rattle.pass_frames_meaning.proofs.others.Names.{once, point_there, result_low}
use Rattle.pass_frames_meaning.proofs.pass_frames_proof.lines.Cells.{contained}
use Rattle.pass_frames_meaning.proofs.pass_frames_proof.early.Placed.{frame_class, slot_low}
use Rattle.pass_frames_meaning.proofs.pass_frames_proof.stepping.Codes.{block_there}
use Rattle.pass_frames_meaning.specs.pass_frames_proof.Framings.{IsFraming}
use Rattle.pass_frames_meaning.specs.pass_frames_proof.Passes.{block_at, no_block}
use Rattle.pass_frames_meaning.specs.pass_frames_proof.Places.{Framing, before_labels, copies, edged, instrs_at, with_copies, written}
use Rattle.compiler.proofs.pass_proofs.copies.rules.Slots.{IsAlloca, from_allocas}
use Rattle.compiler.proofs.pass_proofs.frames.begin_order.Framed.{woven}
use Rattle.compiler.specs.pass_proofs.cells.rules.Weaving.{cells_weaving}
use Rattle.compiler.proofs.ir_laws.facts.Members.{at_each}
use Rattle.compiler.proofs.rule_laws.rules.counted.PartFacts.{block_passes}
use Rattle.compiler.specs.rule_locals.Extents.{breaks_extents, is_aligned, is_sized}
use Rattle.compiler.specs.rule_locals.Instrs.{on_instr}
use Rattle.compiler.specs.rule_names.declared.stage.Stage.{Stage}
use Rattle.compiler.specs.rule_laws.rules.woven_rules.Blocks.{AreWoven, AreWovenBlocks, Done, Gone, IsWoven, Kept, NoBlock, OneBlock, Put, Remain, Stays, Unpromised}
use Rattle.compiler.specs.rule_laws.rules.woven_rules.Parts.{Alloca, Binary, Call, Cast, Gep, Icmp, InstrStays, Load, Select, Store}
use Rattle.compiler.specs.rule_laws.rules.woven_rules.Weaving.{Weaving}

module _ (v align : ℕ) (ty : Ty) where
  abbrev A : Instr
  A = Instr.Alloca v ty align

  -- an alloca that stays is the same
  same_stays : (R : Operand → Operand → Type 0) (i j : Instr) → InstrStays R i j → j ≡ A → i ≡ A
  same_stays R _ _ (Alloca r t a) e = e
  same_stays R _ _ (Binary r op flags t a b c d h k) e = absurd (cc)
  same_stays R _ _ (Icmp r pred t a b c d h k) e = absurd (cc)
  same_stays R _ _ (Select r x y a b c d h k z) e = absurd (cc)
  same_stays R _ _ (Cast r op nneg a c to h) e = absurd (cc)
  same_stays R _ _ (Load r t x y al h) e = absurd (cc)
  same_stays R _ _ (Store a c x y al h k) e = absurd (cc)
  same_stays R _ _ (Gep r inbounds t x y args now h k) e = absurd (cc)
  same_stays R _ _ (Call r must_tail t c d args now h k) e = absurd (cc)

  one_stays : (w : Weaving) (f : Function) (made : List ℕ) (i j : Instr) → Stays w f made i j → j ≡ A → i ≡ A
  one_stays w f made _ _ (Kept i j h k) e = same_stays _ i j h e
  one_stays w f made _ _ (Unpromised r must_tail t a p args h) e = absurd (cc)

  -- one of an old name was there before
  was_there : (w : Weaving) (m : Module) (f : Function) (block : ℕ) → v < w.first → (made : List ℕ) (is js : List Instr)
      → AreWoven w m f block made is js → IsListed A js → IsListed A is
  was_there w m f block low _ _ _ (Done made) l = absurd l
  was_there w m f block low _ _ _ (Put made j is js h rest) (inl e) =
      let new = (h.result v (ap result_of (sym e))).low in
      absurd (omega (arith, new, low))
  was_there w m f block low _ _ _ (Put made j is js h rest) (inr l) = was_there w m f block low _ is js rest l
  was_there w m f block low _ _ _ (Gone made i is js h rest) l = inr (was_there w m f block low made is js rest l)
  was_there w m f block low _ _ _ (Remain made i j is js h rest) (inl e) =
      inl (sym (one_stays w f made i j h (sym e)))
  was_there w m f block low _ _ _ (Remain made i j is js h rest) (inr l) =
      inr (was_there w m f block low _ is js rest l)

  entry_was : (w : Weaving) (m : Module) (f g : Function) (n : ℕ) (bs cs : List Block) → v < w.first
      → AreWovenBlocks w m f g n bs cs → IsListed A (entry_instrs cs) → IsListed A (entry_instrs bs)
  entry_was w m f g n _ _ low (NoBlock block) l = l
  entry_was w m f g n _ _ low (OneBlock block b c bs cs h rest) l =
      was_there w m f block low _ b.instrs c.instrs h.instrs l

  listed_at : (is : List Instr) → IsListed A is → (n : ℕ) × (slice_get is n ≡ Some A)
  listed_at [] l = absurd l
  listed_at (i ∷ is) (inl e) = (0, ap Some (sym e))
  listed_at (i ∷ is) (inr l) = let z = listed_at is l in (suc z.0, z.1)

  entry_at : (bs : List Block) → IsListed A (entry_instrs bs)
      → (n : ℕ) × (slice_get (unwrap_or (slice_get bs 0) no_block).instrs n ≡ Some A)
  entry_at [] l = absurd l
  entry_at (b ∷ bs) l = listed_at b.instrs l

module _ (x : Framing) (is : IsFraming x) where
  abbrev w : Weaving
  w = cells_weaving x.code (edged x) x.contents.crossing (class_flags x.function x.contents.classes SlotClass.Local)

  are_woven : IsWoven w x.code (edged x) (written x)
  are_woven = woven x.code is.position x.layout x.function x.contents is.begin (length (with_copies x).names) is.frameable

  own_slot : (e : EarlySlot) → Contains (copies x).slots e
      → IsListed (Instr.Alloca e.slot e.ty e.align) (entry_instrs (written x).blocks)
  own_slot e listed =
      of_listed (IsAlloca (entry_instrs (written x).blocks)) (copies x).slots
      (from_allocas
      (used_before (written x) (class_flags x.function x.contents.classes SlotClass.Frame) (before_labels x))
      (sizes_by_name x.function x.contents.held) (length (written x).names) (entry_instrs (written x).blocks)
      (entry_instrs (written x).blocks) (λ j l. l)) e (contained (copies x).slots e listed)

  -- its alloca stands in the entry block
  pub early_alloca : (e : EarlySlot) → Contains (copies x).slots e
      → (n : ℕ) × (slice_get (instrs_at x 0) n ≡ Some (Instr.Alloca e.slot e.ty e.align))
  early_alloca e listed =
      let l : IsListed e (copies x).slots = contained (copies x).slots e listed in
      let low : e.slot < length (edged x).names = slot_low x is e (frame_class x is e l) in
      let first : w.first ≡ length (edged x).names = are_woven.first in
      let old : e.slot < w.first = omega (arith, low, first) in
      entry_at e.slot e.align e.ty (edged x).blocks
      (entry_was e.slot e.align e.ty w x.code (edged x) (written x) 0 (edged x).blocks (written x).blocks old
      are_woven.blocks (own_slot e listed))

  -- Y4: an alloca has bytes, and an alignment
  pub alloca_fits : (at v align : ℕ) (ty : Ty) → slice_get (instrs_at x 0) at ≡ Some (Instr.Alloca v ty align)
      → (1 ≤ size_of x.code ty) × (1 ≤ align)
  alloca_fits at v align ty there =
      let i : Instr = Instr.Alloca v ty align in
      let passes = (block_passes (on_instr (breaks_extents Stage.Source x.code)) is.position (edged x)
      is.frameable.rules.local.extents 0 (block_at (edged x) 0) (block_there (edged x) 0 at i there)).instrs in
      let y = at_each _ (block_at (edged x) 0).instrs at i passes there in
      let both = and_parts (is_sized 1048576 (size_of x.code ty)) (is_aligned align)
      (not_false (is_sized 1048576 (size_of x.code ty) && is_aligned align) y.2) in
      (leb-true 1 (size_of x.code ty) (and_parts (nat_le 1 (size_of x.code ty)) _ both.0).0, some_aligned align both.1)
    where
      not_false : (b : Bool) → not b ≡ false → b ≡ true
      not_false true e = refl
      not_false false e = absurd (cc)

      some_aligned : (n : ℕ) → is_aligned n ≡ true → 1 ≤ n
      some_aligned zero e = absurd (cc)
      some_aligned (suc n) e = omega arith

  pub early_typed : (at v align : ℕ) (ty : Ty) → slice_get (instrs_at x 0) at ≡ Some (Instr.Alloca v ty align)
      → (e : EarlySlot) → Contains (copies x).slots e → e.slot ≡ v → (e.ty ≡ ty) × (e.align ≡ align)
  early_typed at v align ty there e listed same =
      let low : v < length (edged x).names = result_low x is 0 at v (Instr.Alloca v ty align) there refl in
      let first : w.first ≡ length (edged x).names = are_woven.first in
      let old : e.slot < w.first = omega (arith, low, first, same) in
      let z = entry_at e.slot e.align e.ty (edged x).blocks
      (entry_was e.slot e.align e.ty w x.code (edged x) (written x) 0 (edged x).blocks (written x).blocks old
      are_woven.blocks (own_slot e listed)) in
      let one : Instr.Alloca e.slot e.ty e.align ≡ Instr.Alloca v ty align =
      once x is (record { block = 0; at = z.0 }) (record { block = 0; at = at }) (Instr.Alloca e.slot e.ty e.align)
      (Instr.Alloca v ty align) v (point_there x is 0 z.0 (Instr.Alloca e.slot e.ty e.align) z.1)
      (point_there x is 0 at (Instr.Alloca v ty align) there) (ap Some same) refl in
      let types : e.ty ≡ ty = cc in
      let aligns : e.align ≡ align = cc in
      (types, aligns)
