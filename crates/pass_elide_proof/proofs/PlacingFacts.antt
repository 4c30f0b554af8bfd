-- Names, rooms and held blocks at a place, by what the module keeps.
use Rattle.std.proofs.Common.{◌≡◌, ◌⊎◌, ◌<◌, ◌+◌, inl, inr, ℕ, zero, suc, Bool, true, false, List, [], ◌∷◌, length, Option, refl, sym, ap, ◌∙◌, subst, arith, ◌==◌, ◌||◌, ◌++◌}
use Rattle.std.specs.Prelude.{None, Some, is_some, option_map, slice_get, if◌then◌else◌}
use Rattle.elide_shape.specs.Calls.{deals_by}
use Rattle.elide_shape.specs.declared.calls.Dealing.{Dealing}
use Rattle.elide_sites.specs.Sites.{is_named_call}
use Rattle.pass_elide.specs.Elided.{blocks_frames, coroutine_frame, frames_by, function_frames, instr_frames}
use Rattle.pass_elide.specs.Frames.{callee_layout, frame_of, layout_of, site_frame}
use Rattle.pass_elide.specs.Places.{is_site}
use Rattle.pass_elide.specs.declared.given.GivenFrame.{GivenFrame}
use Rattle.pass_elide_proof.proofs.Facts.{not_both, some_none}
use Rattle.pass_elide_proof.specs.Calling.{IsAlike}
use Rattle.pass_elide_proof.specs.Elision.{Elision, Shape, differs_in, function_in, no_shape, rooms}
use Rattle.pass_elide_proof.specs.Places.{Rooms, instrs_of, phi_count, room_at}
use Rattle.pass_elide_proof.specs.Placing.{HasShape, KeepsPlaces}
use Rattle.pass_elide_proof.specs.Shapes.{AsksForFrame}
use Rattle.pass_elide_proof.proofs.Reading.{or_right}
use Rattle.pass_proofs.proofs.ir_laws.facts.Truth.{equal_numbers, itself, not_equal}
use Rattle.pass_proofs.specs.frame_layout.declared.layout.Layout.{Layout}
use Rattle.pass_proofs.specs.ir_base.declared.name.Name.{Name}
use Rattle.pass_proofs.specs.ir_model.Names.{function_at, is_local}
use Rattle.pass_proofs.specs.ir_model.declared.instr.Instr.{Instr}
use Rattle.pass_proofs.specs.ir_model.declared.module.Block.{Block}
use Rattle.pass_proofs.specs.ir_model.declared.module.Function.{Function}
use Rattle.pass_proofs.specs.ir_model.declared.module.Module.{Module}
use Rattle.pass_proofs.specs.ir_model.declared.operand.Allocator.{Allocator}
use Rattle.pass_proofs.specs.ir_model.declared.operand.Arg.{Arg}
use Rattle.pass_proofs.specs.ir_model.declared.operand.Callee.{Callee}
use Rattle.pass_proofs.specs.ir_model.declared.operand.Intrinsic.{Intrinsic}
use Rattle.pass_proofs.specs.ir_model.declared.operand.Operand.{Operand}
use Rattle.pass_proofs.specs.ir_parts.Contents.{result_of}
use Rattle.pass_proofs.specs.ir_paths.Slots.{is_in_args}
use Rattle.pass_proofs.specs.ir_paths.Windows.{is_call_of}
use Rattle.pass_proofs.specs.run_framed.Framed.{given_ramp}
use Rattle.pass_proofs.specs.run_laws.changed.Changed.{Each, callee_at, values_of}
use Rattle.pass_proofs.specs.run_step.Reads.{given_by, given_by_allocator, given_by_intrinsic}
use Rattle.pass_proofs.specs.run_step.Step.{AtInstr, fetch}
use Rattle.run_slots.specs.Slots.{GivesNoFrames}

-- by whether it holds
pub by_truth : {A : Type 0} (b : Bool) → (b ≡ true → A) → (b ≡ false → A) → A
by_truth true f g = f refl
by_truth false f g = g refl

three_ways : (a b : ℕ) → (a < b) ⊎ ((a ≡ b) ⊎ (b < a))
three_ways zero zero = inr (inl refl)
three_ways zero (suc b) = inl (omega arith)
three_ways (suc a) zero = inr (inr (omega arith))
three_ways (suc a) (suc b) = on (three_ways a b)
  where
    on : (a < b) ⊎ ((a ≡ b) ⊎ (b < a)) → (suc a < suc b) ⊎ ((suc a ≡ suc b) ⊎ (suc b < suc a))
    on (inl h) = inl (omega (arith, h))
    on (inr (inl h)) = inr (inl (ap suc h))
    on (inr (inr h)) = inr (inr (omega (arith, h)))

-- ---- names

intrinsic_gives : (x : Intrinsic) (r : Option ℕ) (v : ℕ) → given_by_intrinsic x r ≡ Some v → r ≡ Some v
intrinsic_gives Intrinsic.CoroSizeI32 r v e = e
intrinsic_gives Intrinsic.CoroSizeI64 r v e = e
intrinsic_gives Intrinsic.CoroAlignI32 r v e = e
intrinsic_gives Intrinsic.CoroAlignI64 r v e = e
intrinsic_gives Intrinsic.CoroAlloc r v e = e
intrinsic_gives Intrinsic.CoroBegin r v e = e
intrinsic_gives Intrinsic.CoroFree r v e = e
intrinsic_gives Intrinsic.CoroFrame r v e = e
intrinsic_gives Intrinsic.CoroSuspend r v e = e
intrinsic_gives Intrinsic.CoroDone r v e = e
intrinsic_gives Intrinsic.CoroPromise r v e = e
intrinsic_gives _ r v e = absurd (cc)

allocator_gives : (x : Allocator) (r : Option ℕ) (v : ℕ) → given_by_allocator x r ≡ Some v → r ≡ Some v
allocator_gives Allocator.Malloc r v e = e
allocator_gives Allocator.Znwm r v e = e
allocator_gives _ r v e = absurd (cc)

-- a name that a step sets is that of the instruction's result
pub gives_result : (i : Instr) (v : ℕ) → given_by i ≡ Some v → result_of i ≡ Some v
gives_result (Instr.Binary name op flags ty a b) v e = e
gives_result (Instr.Icmp name pred ty a b) v e = e
gives_result (Instr.Select name x a b) v e = e
gives_result (Instr.Cast name op nneg arg to) v e = e
gives_result (Instr.Alloca name ty align) v e = e
gives_result (Instr.Load name ty p align) v e = e
gives_result (Instr.Store arg p align) v e = absurd (cc)
gives_result (Instr.Gep name inbounds ty base indices) v e = e
gives_result (Instr.Call result must_tail ty (Callee.Named n) args) v e = e
gives_result (Instr.Call result must_tail ty (Callee.Allocator a) args) v e = allocator_gives a result v e
gives_result (Instr.Call result must_tail ty (Callee.Intrinsic x) args) v e = intrinsic_gives x result v e
gives_result (Instr.Call result must_tail ty (Callee.Local f) args) v e = e

-- what isn't asked of frames that may be given differs in no activation
pub quiet : (x : Shape) (ramp given : Bool) (v : ℕ) → x.need v ≡ false → (ramp ≡ true → x.made v ≡ false)
    → x.freed v ≡ false → x.tested v ≡ None → (given ≡ true → x.passed v ≡ false)
    → differs_in x ramp given v ≡ false
quiet x false false v need made freed tested passed = refl
quiet x true false v need made freed tested passed = let made' = made refl in λ j. (need j || made' j) || false
quiet x false true v need made freed tested passed =
    let passed' = passed refl in λ j. freed j || (is_some (tested j) || passed' j)
quiet x true true v need made freed tested passed =
    let made' = made refl in
    let passed' = passed refl in
    λ j. (need j || made' j) || (freed j || (is_some (tested j) || passed' j))

-- ---- calls

pub no_ramp : (m : Module) → GivesNoFrames m → (func block at : ℕ) (i : Instr)
    → fetch (function_at m func) block at ≡ AtInstr i → (n : Name) → callee_at (AtInstr i) ≡ Some n
    → given_ramp m n ≡ None
no_ramp m none func block at (Instr.Call result must_tail ty (Callee.Named c) args) there n is =
    let same : c ≡ n = cc in
    subst (λ (k : Name). given_ramp m k ≡ None) same (none func block at result must_tail ty c args there)
no_ramp m none func block at (Instr.Call result must_tail ty (Callee.Allocator a) args) there n is = absurd (cc)
no_ramp m none func block at (Instr.Call result must_tail ty (Callee.Intrinsic j) args) there n is = absurd (cc)
no_ramp m none func block at (Instr.Call result must_tail ty (Callee.Local v) args) there n is = absurd (cc)
no_ramp m none func block at (Instr.Binary r op flags ty a b) there n is = absurd (cc)
no_ramp m none func block at (Instr.Icmp r pred ty a b) there n is = absurd (cc)
no_ramp m none func block at (Instr.Select r x a b) there n is = absurd (cc)
no_ramp m none func block at (Instr.Cast r op nneg arg to) there n is = absurd (cc)
no_ramp m none func block at (Instr.Alloca r ty align) there n is = absurd (cc)
no_ramp m none func block at (Instr.Load r ty p align) there n is = absurd (cc)
no_ramp m none func block at (Instr.Store arg p align) there n is = absurd (cc)
no_ramp m none func block at (Instr.Gep r inbounds ty base indices) there n is = absurd (cc)

-- ---- rooms

not_site : (b : Bool) (o : Option Layout) → o ≡ None → (if b then option_map frame_of o else None) ≡ None
not_site true o e = ap (option_map frame_of) e
not_site false o e = refl

no_layout : (m : Module) (ls : List Layout) (i : Instr) → is_named_call i ≡ false → callee_layout m ls i ≡ None
no_layout m ls (Instr.Call result must_tail ty (Callee.Named n) args) e = absurd (cc)
no_layout m ls (Instr.Call result must_tail ty (Callee.Allocator a) args) e = refl
no_layout m ls (Instr.Call result must_tail ty (Callee.Intrinsic j) args) e = refl
no_layout m ls (Instr.Call result must_tail ty (Callee.Local v) args) e = refl
no_layout m ls (Instr.Binary r op flags ty a b) e = refl
no_layout m ls (Instr.Icmp r pred ty a b) e = refl
no_layout m ls (Instr.Select r x a b) e = refl
no_layout m ls (Instr.Cast r op nneg arg to) e = refl
no_layout m ls (Instr.Alloca r ty align) e = refl
no_layout m ls (Instr.Load r ty p align) e = refl
no_layout m ls (Instr.Store arg p align) e = refl
no_layout m ls (Instr.Gep r inbounds ty base indices) e = refl

module _ (e : Elision) (keeps : KeepsPlaces e) (func : ℕ) where
  abbrev f : Function
  f = function_in e func

  -- a call that names no function has no room
  pub no_room : (block at : ℕ) (i : Instr) → is_named_call i ≡ false
      → room_at (rooms e func) (function_in e func) block at i ≡ None
  no_room block at i other = by_truth f.coroutine in_coroutine elsewhere
    where
      in_coroutine : f.coroutine ≡ true → room_at (rooms e func) f block at i ≡ None
      in_coroutine is = (keeps.wakes func is).none block (phi_count f block + at) i

      elsewhere : f.coroutine ≡ false → room_at (rooms e func) f block at i ≡ None
      elsewhere is =
          ap (λ (b : Bool). (if b then coroutine_frame (layout_of e.layouts.coroutines func) f
          else site_frame e.code e.layouts.coroutines e.sites func) block (phi_count f block + at) i) is
          ∙ not_site (is_site e.sites (record { func = func; block = block; at = phi_count f block + at }))
          (callee_layout e.code e.layouts.coroutines i) (no_layout e.code e.layouts.coroutines i other)

-- ---- the block that is held

module _ (f : Function) (x : Shape) (k : AsksForFrame f x) (block at : ℕ) (i : Instr)
    (there : slice_get (instrs_of f block) at ≡ Some i) (begins : is_call_of Intrinsic.CoroBegin i ≡ false) where
  in_begins : block ≡ k.begins → x.holds block (at + 1) ≡ x.holds block at
  in_begins same = on (three_ways at k.begin)
    where
      on : (at < k.begin) ⊎ ((at ≡ k.begin) ⊎ (k.begin < at)) → x.holds block (at + 1) ≡ x.holds block at
      on (inl lt) =
          (λ j. x.holds (same j) (at + 1))
          ∙ (k.held_until (at + 1) (omega (arith, lt))
          ∙ (sym (k.held_until at (omega (arith, lt))) ∙ sym (λ j. x.holds (same j) at)))
      on (inr (inl is)) =
          let here : Some i ≡ Some k.start
          = sym there ∙ ((λ j. slice_get (instrs_of f (same j)) (is j)) ∙ k.is_start) in
          let one : i ≡ k.start = cc in
          absurd (not_both (is_call_of Intrinsic.CoroBegin i) (ap (is_call_of Intrinsic.CoroBegin) one ∙ k.is_begin)
          begins)
      on (inr (inr gt)) =
          (λ j. x.holds (same j) (at + 1))
          ∙ (k.free_behind (at + 1) (omega (arith, gt))
          ∙ (sym (k.free_behind at gt) ∙ sym (λ j. x.holds (same j) at)))

  in_allocates : deals_by Dealing.Allocates i ≡ false → block ≡ k.allocates
      → x.holds block (at + 1) ≡ x.holds block at
  in_allocates other same = on (three_ways at k.allocation)
    where
      on : (at < k.allocation) ⊎ ((at ≡ k.allocation) ⊎ (k.allocation < at))
          → x.holds block (at + 1) ≡ x.holds block at
      on (inl lt) =
          (λ j. x.holds (same j) (at + 1))
          ∙ (k.free_before (at + 1) (omega (arith, lt))
          ∙ (sym (k.free_before at (omega (arith, lt))) ∙ sym (λ j. x.holds (same j) at)))
      on (inr (inl is)) =
          let here : Some i ≡ Some k.allocator
          = sym there ∙ ((λ j. slice_get (instrs_of f (same j)) (is j)) ∙ k.there) in
          let one : i ≡ k.allocator = cc in
          absurd (not_both (deals_by Dealing.Allocates i) (ap (deals_by Dealing.Allocates) one ∙ k.is_allocator) other)
      on (inr (inr gt)) =
          (λ j. x.holds (same j) (at + 1))
          ∙ (k.held (at + 1) (omega (arith, gt)) ∙ (sym (k.held at gt) ∙ sym (λ j. x.holds (same j) at)))

  elsewhere : (block == k.allocates) ≡ false → x.holds block (at + 1) ≡ x.holds block at
  elsewhere other =
      by_truth (block == k.after)
      (λ is. let same = equal_numbers block k.after is in
      (λ j. x.holds (same j) (at + 1))
      ∙ (k.held_behind (at + 1) ∙ (sym (k.held_behind at) ∙ sym (λ j. x.holds (same j) at))))
      (λ nor. by_truth (block == k.begins) (λ is. in_begins (equal_numbers block k.begins is))
      (λ neither. k.free_elsewhere block (at + 1) (not_equal block k.allocates other) (not_equal block k.after nor)
      (not_equal block k.begins neither)
      ∙ sym (k.free_elsewhere block at (not_equal block k.allocates other) (not_equal block k.after nor)
      (not_equal block k.begins neither))))

  -- outside of the allocator's block
  pub held_still : x.waits block ≡ None → x.holds block (at + 1) ≡ x.holds block at
  held_still waits =
      by_truth (block == k.allocates)
      (λ is. let same = equal_numbers block k.allocates is in
      absurd (some_none (x.waits block) k.asks (ap x.waits same ∙ k.waits) waits)) elsewhere

  -- by an instruction that doesn't allocate
  pub held_over : deals_by Dealing.Allocates i ≡ false → x.holds block (at + 1) ≡ x.holds block at
  held_over other =
      by_truth (block == k.allocates) (λ is. in_allocates other (equal_numbers block k.allocates is)) elsewhere

module _ (e : Elision) (func : ℕ) (block at : ℕ) (i : Instr)
    (there : slice_get (instrs_of (function_in e func) block) at ≡ Some i)
    (begins : is_call_of Intrinsic.CoroBegin i ≡ false) where
  none_held : e.shape func ≡ no_shape → (e.shape func).holds block (at + 1) ≡ (e.shape func).holds block at
  none_held none =
      ap (λ (x : Shape). x.holds block (at + 1)) none ∙ sym (ap (λ (x : Shape). x.holds block at) none)

  pub holds_still : (e.shape func).waits block ≡ None → (e.shape func ≡ no_shape) ⊎ HasShape e func
      → (e.shape func).holds block (at + 1) ≡ (e.shape func).holds block at
  holds_still waits (inl none) = none_held none
  holds_still waits (inr k) = held_still (function_in e func) (e.shape func) k.asks block at i there begins waits

  pub holds_over : deals_by Dealing.Allocates i ≡ false → (e.shape func ≡ no_shape) ⊎ HasShape e func
      → (e.shape func).holds block (at + 1) ≡ (e.shape func).holds block at
  holds_over other (inl none) = none_held none
  holds_over other (inr k) = held_over (function_in e func) (e.shape func) k.asks block at i there begins other

-- ---- a function none of whose calls has a room

module _ (room : ℕ → Instr → Option GivenFrame) (none : (at : ℕ) (i : Instr) → room at i ≡ None) where
  no_instr_frames : (at : ℕ) (is : List Instr) → instr_frames room at is ≡ []
  no_instr_frames at [] = refl
  no_instr_frames at (i ∷ is) = λ j. frames_by (none at i j) ++ no_instr_frames (at + 1) is j

module _ (room : Rooms) (none : (block at : ℕ) (i : Instr) → room block at i ≡ None) where
  no_block_frames : (block : ℕ) (bs : List Block) → blocks_frames room block bs ≡ []
  no_block_frames block [] = refl
  no_block_frames block (b ∷ bs) =
      λ j. no_instr_frames (room block) (none block) (length b.phis) b.instrs j ++ no_block_frames (block + 1) bs j

  pub no_frames : (f : Function) → function_frames room f ≡ []
  no_frames f = no_block_frames 0 f.blocks

-- ---- operands

or_left : (a b : Bool) → a ≡ true → (a || b) ≡ true
or_left true b e = refl
or_left false b e = absurd (cc)

pub alike_operand : (differs : ℕ → Bool) (a : Operand) → ((v : ℕ) → is_local v a ≡ true → differs v ≡ false)
    → IsAlike differs a
alike_operand differs (Operand.Local u) h = h u (itself u)
alike_operand differs _ h = tt

pub alike_args : (differs : ℕ → Bool) (args : List Arg)
    → ((v : ℕ) → is_in_args v args ≡ true → differs v ≡ false) → Each (IsAlike differs) (values_of args)
alike_args differs [] h = tt
alike_args differs (a ∷ args) h = (
  alike_operand differs a.value (λ v is. h v (or_left (is_local v a.value) (is_in_args v args) is)),
  alike_args differs args (λ v is. h v (or_right (is_local v a.value) (is_in_args v args) is)),
)
