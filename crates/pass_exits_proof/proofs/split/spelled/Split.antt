-- The parts of a coroutine can be written where it can, and so can a function that is no coroutine, once it is turned.
use Rattle.std.proofs.Common.{ℕ, zero, suc, ℤ, pos, ◌+◌, ◌-◌, Bool, true, false, List, [], ◌∷◌, ◌++◌, length, refl, sym, subst, arith}
use Rattle.std.specs.Prelude.{None, Option, Some, codes, if◌then◌else◌, map, slice_get, slice_set}
use Rattle.pass_fetch_proof.specs.ir_base.declared.name.Name.{Name}
use Rattle.pass_fetch_proof.specs.text_names.Spelling.{IsName}
use Rattle.pass_split.specs.Parts.{back_name, begun_mark, case_of, cases_from, done_mark, entry_mark, frame_mark, given_mark, given_ramp_of, index_mark, instr_names, is_entered, later_part, mark_names, names_of, names_of_suspend, none_mark, origins_for, part_names, pass_name, plain_of, plain_shape, ramp_of, saved_name, slot_mark, suspend_names}
use Rattle.pass_split.specs.Pieces.{next_after}
use Rattle.pass_split.specs.Reached.{pruned}
use Rattle.pass_fetch_proof.specs.frame_layout.declared.layout.Layout.{Layout}
use Rattle.pass_fetch_proof.proofs.ir_laws.facts.Members.{each_joined, each_turns, joined_names}
use Rattle.pass_fetch_proof.specs.ir_parts.Contents.{ending_types}
use Rattle.pass_fetch_proof.specs.pass_intrinsics.Lowered.{address, allocates, begin_memory, begin_stores, call_pointer, destroy_call, destroyed_by, done_test, freed_by, is_final_at, load_pointer, lowered, number_of_save, operand_at, resume_call, resumed_by, save_or_none, set_address, set_number, set_truth, store_pointer, truth_of}
use Rattle.pass_fetch_proof.specs.pass_intrinsics.Shapes.{first_name, given_name, shape_of}
use Rattle.pass_fetch_proof.specs.pass_intrinsics.declared.shape.Part.{Part}
use Rattle.pass_fetch_proof.specs.pass_intrinsics.declared.shape.Shape.{Shape}
use Rattle.pass_fetch_proof.specs.pass_intrinsics.declared.shape.SuspendPoint.{SuspendPoint}
use Rattle.ir_model.specs.Names.{numbered}
use Rattle.ir_model.specs.Ty.{Ty, int, ptr}
use Rattle.ir_model.specs.declared.instr.Instr.{Instr}
use Rattle.ir_model.specs.declared.instr.Phi.{Phi}
use Rattle.ir_model.specs.declared.instr.Terminator.{Terminator}
use Rattle.ir_model.specs.declared.module.Block.{Block}
use Rattle.ir_model.specs.declared.module.Function.{Function}
use Rattle.ir_model.specs.declared.module.Param.{Param}
use Rattle.ir_model.specs.declared.operand.Arg.{Arg}
use Rattle.ir_model.specs.declared.operand.Callee.{Callee}
use Rattle.ir_model.specs.declared.operand.Intrinsic.{Intrinsic}
use Rattle.ir_model.specs.declared.operand.Operand.{Operand}
use Rattle.pass_fetch_proof.proofs.ir_laws.facts.Lists.{numbered_named}
use Rattle.pass_fetch_proof.proofs.rule_laws.frames.spelled.Names.{part_named}
use Rattle.pass_fetch_proof.proofs.rule_laws.texts.spelled.Types.{byte_spelled, ptr_spelled, short_spelled, truth_spelled, width_spelled, word_spelled}
use Rattle.pass_exits_proof.proofs.split.rules.Carried.{Becomes, part_all, plain_all}
use Rattle.pass_exits_proof.proofs.split.rules.Local.{same_term_types}
use Rattle.pass_fetch_proof.proofs.rule_laws.rules.replaced.Passed.{IsAll}
use Rattle.pass_fetch_proof.specs.rule_laws.texts.spelled.Spelled.{IsSpelled}
use Rattle.pass_fetch_proof.specs.rule_laws.rules.spelled.Spelled.{IsSpelledBlock, IsSpelledFunction, IsSpelledInstr}
use Rattle.pass_exits_proof.specs.split.rules.Parted.{IsCleanup, IsDestroy, IsGivenRamp, IsPartOf, IsRamp, IsResume}
use Rattle.pass_fetch_proof.specs.run_laws.changed.Changed.{Each}

-- ---- the names of a coroutine's parts

saved_one_named : (j : ℕ) → IsName (saved_name j)
unfolding saved_name
saved_one_named j = numbered_named (codes "$c.saved.") j refl

back_one_named : (j : ℕ) → IsName (back_name j)
unfolding back_name
back_one_named j = numbered_named (codes "$c.back.") j refl

pass_one_named : (j : ℕ) → IsName (pass_name j)
unfolding pass_name
pass_one_named j = numbered_named (codes "$c.pass.") j refl

suspends_named : (k : ℕ) → Each IsName (suspend_names k)
suspends_named zero = tt
suspends_named (suc j) = joined_names (suspend_names j) (names_of_suspend j) (suspends_named j) (saved_one_named j, (back_one_named j, (pass_one_named j, tt)))

instrs_named : (k : ℕ) → Each IsName (instr_names k)
instrs_named zero = tt
instrs_named (suc k) = joined_names (instr_names k) (numbered (codes "$c.") k ∷ []) (instrs_named k) (numbered_named (codes "$c.") k refl, tt)

marks_named : Each IsName mark_names
unfolding begun_mark done_mark entry_mark none_mark slot_mark index_mark given_mark
marks_named = (refl, (refl, (refl, (refl, (refl, (refl, (refl, tt)))))))

frame_named : IsName frame_mark
unfolding frame_mark
frame_named = refl

names_set : (names : List Name) (at : ℕ) (n : Name) → Each IsName names → IsName n → Each IsName (slice_set names at n)
names_set [] at n h k = tt
names_set (x ∷ names) zero n h k = (k, h.1)
names_set (x ∷ names) (suc at) n h k = (h.0, names_set names at n h.1 k)

parts_named : (s : Shape) (names : List Name) (count : ℕ) → Each IsName names → Each IsName (names_of s names count)
parts_named s names count h =
    let own : List Name = slice_set names s.begin frame_mark in
    let marked : List Name = own ++ mark_names in
    let all : List Name = marked ++ suspend_names (length s.suspends) in
    joined_names all (instr_names count)
    (joined_names marked (suspend_names (length s.suspends)) (joined_names own mark_names (names_set names s.begin frame_mark h frame_named) marks_named) (suspends_named (length s.suspends)))
    (instrs_named count)

-- ---- what is lowered

module _ (s : Shape) where
  abbrev All : List Instr → Type 0
  All is = Each IsSpelledInstr is

  number_spelled : (r : Option ℕ) (w k : ℕ) → IsSpelled (int w) → All (set_number r w k)
  number_spelled None w k h = tt
  number_spelled (Some r) w k h = (record { types = (h, tt); stands = (refl, refl) }, tt)

  set_truth_spelled : (r : Option ℕ) (x : Operand) → All (set_truth r x)
  set_truth_spelled None x = tt
  set_truth_spelled (Some r) x = (record { types = (truth_spelled, tt); stands = (refl, refl, refl, refl) }, tt)

  one_address : (r : ℕ) (p : Operand) (z : ℤ) → IsSpelledInstr (address r p z)
  one_address r p z = record { types = (byte_spelled, (word_spelled, tt)); stands = tt }

  address_spelled : (r : Option ℕ) (p : Operand) (z : ℤ) → All (set_address r p z)
  address_spelled None p z = tt
  address_spelled (Some r) p z = (one_address r p z, tt)

  one_store : (x p : Operand) → IsSpelledInstr (store_pointer x p)
  one_store x p = record { types = (ptr_spelled, tt); stands = tt }

  one_load : (r : ℕ) (p : Operand) → IsSpelledInstr (load_pointer r p)
  one_load r p = record { types = (ptr_spelled, tt); stands = tt }

  one_call : (n : ℕ) (p : Operand) → IsSpelledInstr (call_pointer n p)
  one_call n p = record { types = (ptr_spelled, tt); stands = tt }

  begin_spelled : (part : Part) (n : ℕ) (p : Operand) → All (begin_stores s part n p)
  begin_spelled part n p =
      (one_address s.begin p (pos 0), (one_store (Operand.Global s.resume_name) (Operand.Local s.begin), (one_address n (Operand.Local s.begin) (pos 8), (one_store (Operand.Global (destroyed_by s part)) (Operand.Local n), tt))))

  save_spelled : (n : ℕ) (o : Option ℕ) → All (save_or_none s n o)
  save_spelled n None = tt
  save_spelled n (Some j) = (
    one_address n (Operand.Local s.begin) (pos s.index),
    (record { types = (width_spelled s.width, tt); stands = tt }, (one_store (resumed_by s (is_final_at (slice_get s.suspends j))) (Operand.Local s.begin), tt)),
  )

  resume_spelled : (n : ℕ) (p : Operand) → All (resume_call n p)
  resume_spelled n p = (one_load n p, (one_call n p, tt))

  destroy_spelled : (n : ℕ) (p : Operand) → All (destroy_call n p)
  destroy_spelled n p = (one_address n p (pos 8), (one_load (n + 1) (Operand.Local n), (one_call (n + 1) p, tt)))

  test_spelled : (n : ℕ) (r : Option ℕ) (p : Operand) → All (done_test n r p)
  test_spelled n None p = tt
  test_spelled n (Some r) p = (one_load n p, (record { types = (ptr_spelled, tt); stands = tt }, tt))

  call_spelled : (part : Part) (n : ℕ) (x : Intrinsic) (r : Option ℕ) (must_tail : Bool) (ty : Option Ty) (args : List Arg) → IsSpelledInstr (Instr.Call r must_tail ty (Callee.Intrinsic x) args) → All (lowered s part n (Instr.Call r must_tail ty (Callee.Intrinsic x) args))
  call_spelled part n Intrinsic.CoroSizeI32 r must_tail ty args h = number_spelled r 32 s.size short_spelled
  call_spelled part n Intrinsic.CoroSizeI64 r must_tail ty args h = number_spelled r 64 s.size word_spelled
  call_spelled part n Intrinsic.CoroAlignI32 r must_tail ty args h = number_spelled r 32 s.align short_spelled
  call_spelled part n Intrinsic.CoroAlignI64 r must_tail ty args h = number_spelled r 64 s.align word_spelled
  call_spelled part n Intrinsic.CoroAlloc r must_tail ty args h = set_truth_spelled r (truth_of (allocates part))
  call_spelled part n Intrinsic.CoroBegin r must_tail ty args h = begin_spelled part n (begin_memory s part args)
  call_spelled part n Intrinsic.CoroFree r must_tail ty args h = address_spelled r (freed_by s part) (pos 0)
  call_spelled part n Intrinsic.CoroFrame r must_tail ty args h = address_spelled r (Operand.Local s.begin) (pos 0)
  call_spelled part n Intrinsic.CoroSave r must_tail ty args h = save_spelled n (number_of_save s r)
  call_spelled part n Intrinsic.CoroSuspend r must_tail ty args h = tt
  call_spelled part n Intrinsic.CoroEnd r must_tail ty args h = set_truth_spelled r (truth_of false)
  call_spelled part n Intrinsic.CoroResume r must_tail ty args h = resume_spelled n (operand_at args 0)
  call_spelled part n Intrinsic.CoroDestroy r must_tail ty args h = destroy_spelled n (operand_at args 0)
  call_spelled part n Intrinsic.CoroDone r must_tail ty args h = test_spelled n r (operand_at args 0)
  call_spelled part n Intrinsic.CoroPromise r must_tail ty args h = address_spelled r (operand_at args 0) _
  call_spelled part n _ r must_tail ty args h = (h, tt)

  lowered_spelled : (part : Part) (n : ℕ) (i : Instr) → IsSpelledInstr i → All (lowered s part n i)
  lowered_spelled part n (Instr.Call r must_tail ty (Callee.Intrinsic x) args) h = call_spelled part n x r must_tail ty args h
  lowered_spelled part n i h = (h, tt)

  -- ---- the entry of the parts that go on

  cases_spelled : (flags : List Bool) (part : Part) (j : ℕ) (ps : List SuspendPoint) → Each IsSpelled (map (λ k. k.arg.ty) (cases_from s flags part j ps))
  cases_spelled flags part j [] = tt
  cases_spelled flags part j (p ∷ ps) = on (is_entered flags part p) (cases_spelled flags part (j + 1) ps)
    where
      on : (b : Bool) → Each IsSpelled (map (λ k. k.arg.ty) (cases_from s flags part (j + 1) ps)) → Each IsSpelled (map (λ k. k.arg.ty) ((if b then case_of s j ∷ [] else []) ++ cases_from s flags part (j + 1) ps))
      on true h = (width_spelled s.width, h)
      on false h = h

  abbrev PhiSpelled : Phi → Type 0
  PhiSpelled p = IsSpelled p.ty

  abbrev TermSpelled : Terminator → Type 0
  TermSpelled t = Each IsSpelled (ending_types t)

  becomes_spelled : (part : Part) → Becomes s part 0 PhiSpelled PhiSpelled IsSpelledInstr IsSpelledInstr TermSpelled TermSpelled
  becomes_spelled part =
      record {
        phi = λ x y of h. subst IsSpelled (sym of.ty) h;
        instr = λ n i low again h. lowered_spelled part n i h;
        ending = λ t h. subst (Each IsSpelled) (sym (same_term_types s t)) h;
        ends = record { jump = λ label. tt; return = λ e. tt; stop = tt };
        index = λ e. (one_address _ _ _, (record { types = (width_spelled s.width, tt); stands = tt }, tt));
        switch = λ e flags. (width_spelled s.width, cases_spelled flags part 0 s.suspends);
      }

  all_of : (bs : List Block) → Each IsSpelledBlock bs → Each (IsAll PhiSpelled IsSpelledInstr TermSpelled) bs
  all_of bs h = each_turns IsSpelledBlock (IsAll PhiSpelled IsSpelledInstr TermSpelled) (λ b k. record { phis = k.phis; instrs = k.instrs; term = k.term }) bs h

  blocks_of : (bs : List Block) → Each (IsAll PhiSpelled IsSpelledInstr TermSpelled) bs → Each IsSpelledBlock bs
  blocks_of bs h = each_turns (IsAll PhiSpelled IsSpelledInstr TermSpelled) IsSpelledBlock (λ b k. record { phis = k.phis; instrs = k.instrs; term = k.term }) bs h

  part_blocks_spelled : (part : Part) (f g : Function) → IsPartOf s f part g → Each IsSpelledBlock f.blocks → Each IsSpelledBlock g.blocks
  part_blocks_spelled part f g is h =
      blocks_of g.blocks (part_all s part 0 PhiSpelled PhiSpelled IsSpelledInstr IsSpelledInstr TermSpelled TermSpelled (becomes_spelled part) (omega arith) f g is (all_of f.blocks h))

  plain_blocks_spelled : (f : Function) → Each IsSpelledBlock f.blocks → Each IsSpelledBlock (plain_of s f).blocks
  plain_blocks_spelled f h =
      blocks_of (plain_of s f).blocks (plain_all s 0 PhiSpelled PhiSpelled IsSpelledInstr IsSpelledInstr TermSpelled TermSpelled (becomes_spelled Part.Ramp) (omega arith) f (all_of f.blocks h))

-- ---- the functions

names_spelled : (s : Shape) (part : Part) (f : Function) → Each IsName f.names → Each IsName (part_names s part f (origins_for s part f))
names_spelled s part f h = parts_named s f.names (next_after s part (origins_for s part f) (first_name s) f.blocks - first_name s) h

pub parts_spelled : (layout : Layout) (part : Part) (f g : Function) → IsPartOf (shape_of f layout) f part g → IsSpelledFunction f → IsSpelledFunction g
parts_spelled layout _ f _ IsRamp h =
    let s : Shape = shape_of f layout in
    record {
      name = h.name;
      result = h.result;
      params = h.params;
      blocks = part_blocks_spelled s Part.Ramp f (pruned (ramp_of s f)) IsRamp h.blocks;
      names = names_spelled s Part.Ramp f h.names;
    }
parts_spelled layout _ f _ IsResume h =
    let s : Shape = shape_of f layout in
    record {
      name = part_named f.name (codes ".resume") h.name refl;
      result = tt;
      params = (ptr_spelled, tt);
      blocks = part_blocks_spelled s Part.Resume f (pruned (later_part s Part.Resume s.resume_name f)) IsResume h.blocks;
      names = names_spelled s Part.Resume f h.names;
    }
parts_spelled layout _ f _ IsDestroy h =
    let s : Shape = shape_of f layout in
    record {
      name = part_named f.name (codes ".destroy") h.name refl;
      result = tt;
      params = (ptr_spelled, tt);
      blocks = part_blocks_spelled s Part.Destroy f (pruned (later_part s Part.Destroy s.destroy_name f)) IsDestroy h.blocks;
      names = names_spelled s Part.Destroy f h.names;
    }
parts_spelled layout _ f _ IsCleanup h =
    let s : Shape = shape_of f layout in
    record {
      name = part_named f.name (codes ".cleanup") h.name refl;
      result = tt;
      params = (ptr_spelled, tt);
      blocks = part_blocks_spelled s Part.Cleanup f (pruned (later_part s Part.Cleanup s.cleanup_name f)) IsCleanup h.blocks;
      names = names_spelled s Part.Cleanup f h.names;
    }
parts_spelled layout _ f _ IsGivenRamp h =
    let s : Shape = shape_of f layout in
    record {
      name = part_named f.name (codes ".noalloc") h.name refl;
      result = h.result;
      params = each_joined (λ (p : Param). IsSpelled p.ty) f.params (record { ty = ptr; name = given_name s } ∷ []) h.params (ptr_spelled, tt);
      blocks = part_blocks_spelled s Part.GivenRamp f (pruned (given_ramp_of s f)) IsGivenRamp h.blocks;
      names = names_spelled s Part.GivenRamp f h.names;
    }

pub turned_spelled : (f : Function) → IsSpelledFunction f → IsSpelledFunction (plain_of (plain_shape f) f)
turned_spelled f h =
    let s : Shape = plain_shape f in
    let count : ℕ = next_after s Part.Ramp [] s.base f.blocks - s.base in
    record {
      name = h.name;
      result = h.result;
      params = h.params;
      blocks = plain_blocks_spelled s f h.blocks;
      names = joined_names f.names (instr_names count) h.names (instrs_named count);
    }
