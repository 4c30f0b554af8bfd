-- An alloca that is made again gives a cell, where its block has no markers.
use Rattle.std.proofs.Common.{◌≡◌, ◌≢◌, ◌+◌, ◌<◌, ◌≤◌, ◌%◌, ◌&&◌, ◌==◌, ◌∷◌, ◌∙◌, [], if◌then◌else◌, Bool, List, Some, ap, arith, false, inl, inr, length, not, refl, suc, zero, replicate, true, ℕ}
use Rattle.std.proofs.lemmas.Bool.{le-leb}
use Rattle.std.proofs.lemmas.List.{length-replicate}
use Rattle.std.specs.Prelude.{slice_get}
use Rattle.pass_frames_steps.specs.flow_solver.Paths.{IsListed}
use Rattle.pass_frames_steps.specs.ir_laws.paths.woven_rules.Pairs.{AreDifferent}
use Rattle.pass_frames_steps.specs.ir_model.Layout.{size_of}
use Rattle.pass_frames_steps.specs.ir_model.Ty.{Ty}
use Rattle.pass_frames_steps.specs.ir_model.declared.instr.Instr.{Instr}
use Rattle.pass_frames_steps.specs.ir_model.declared.module.Function.{Function}
use Rattle.pass_frames_steps.specs.ir_paths.Slots.{allocas_in}
use Rattle.pass_frames_steps.specs.pass_fetch.Fetching.{value_bytes}
use Rattle.pass_frames_proof.proofs.entering.Behind.{are_behind}
use Rattle.pass_frames_steps.proofs.layers.Standing.{take_whole}
use Rattle.pass_frames_steps.specs.Entering.{IsGoodAlloca, behind_allocas}
use Rattle.pass_frames_steps.specs.Related.{Anything, IsCell}
use Rattle.pass_frames_steps.specs.run_framed.Framed.{FramedGiven, frame_rights, is_open, is_open_byte, meets_in}
use Rattle.pass_frames_steps.specs.run_laws.access.Lines.{Holds}
use Rattle.pass_frames_steps.specs.run_laws.changed.Changed.{Each}
use Rattle.pass_frames_steps.specs.run_laws.memory.Standing.{IsAlignment, blank_block}
use Rattle.pass_frames_steps.proofs.run_access_worked.run_laws_worked.Frames.{no_judge}
use Rattle.pass_frames_steps.specs.run_memory.Memory.{same_kind}
use Rattle.pass_frames_steps.specs.run_memory.declared.block.Byte.{Byte}
use Rattle.pass_frames_steps.specs.run_memory.declared.block.Kind.{Kind}
use Rattle.pass_frames_steps.specs.run_memory.declared.block.Life.{Life}
use Rattle.pass_frames_steps.specs.run_memory.declared.block.MemoryBlock.{MemoryBlock}
use Rattle.pass_frames_steps.specs.run_source.State.{function_of}
use Rattle.pass_frames_steps.specs.run_source.declared.state.Instance.{Instance}
use Rattle.pass_frames_steps.specs.run_source.declared.state.State.{State}
use Rattle.pass_frames_steps.specs.run_step.Step.{alloca_kind, has_markers}

each_there : {A : Type 0} (P : A → Type 0) (xs : List A) → ((i : ℕ) (x : A) → slice_get xs i ≡ Some x → P x)
    → Each P xs
each_there P [] h = tt
each_there P (x ∷ xs) h = (h 0 x refl, each_there P xs (λ i z e. h (suc i) z e))

writable_kind : (c : Bool) → same_kind (if c then Kind.Slot else Kind.Stack) Kind.Constant ≡ false
writable_kind true = refl
writable_kind false = refl

zero_meets : (a : ℕ) → IsAlignment a → (0 % a == 0) ≡ true
zero_meets a (inl e) = ap (λ (n : ℕ). 0 % n == 0) e
zero_meets a (inr (inl e)) = ap (λ (n : ℕ). 0 % n == 0) e
zero_meets a (inr (inr (inl e))) = ap (λ (n : ℕ). 0 % n == 0) e
zero_meets a (inr (inr (inr (inl e)))) = ap (λ (n : ℕ). 0 % n == 0) e
zero_meets a (inr (inr (inr (inr e)))) = ap (λ (n : ℕ). 0 % n == 0) e

-- ---- a blank block in which no frame lies

module _ (g : FramedGiven) (ys : List Instance) (block : ℕ) (none : Each (λ (y : Instance). y.block ≢ block) ys) where
  all_open : (o len : ℕ) → is_open g ys block o len ≡ true
  all_open o zero = refl
  all_open o (suc len) = λ j. is_open_byte g o (no_judge g ys block o none j) && all_open (o + 1) len j

  pub blank_holds : (m : List MemoryBlock) (size align most : ℕ) (f : Function)
      → slice_get m block ≡ Some (record (blank_block size align (alloca_kind f)) { life = Life.Live }) → most ≤ align
      → Holds (frame_rights g ys) m block 0 most (replicate size Byte.Undefined)
  blank_holds m size align most f there le = record {
    block = record (blank_block size align (alloca_kind f)) { life = Life.Live };
    there = there;
    live = refl;
    writable = writable_kind f.coroutine;
    whole = length-replicate size Byte.Undefined;
    within = let e : length (replicate size Byte.Undefined) ≡ size = length-replicate size Byte.Undefined in
        omega (arith, e);
    holds = take_whole (replicate size Byte.Undefined);
    unclosed = ap not (all_open 0 (length (replicate size Byte.Undefined)));
    aligned = λ a is low.
        ap (meets_in g (record (blank_block size align (alloca_kind f)) { life = Life.Live }) 0 a)
        (no_judge g ys block 0 none)
        ∙ (λ j. zero_meets a is j && le-leb a align (omega (arith, low, le)) j);
  }

pub cells_made : (g : FramedGiven) (u : State) (line : List Instr) → Each IsGoodAlloca line
    → AreDifferent (allocas_in line) → ((v : ℕ) → IsListed v (allocas_in line) → v < length u.top.values)
    → ((i : ℕ) (y : Instance) → slice_get u.instances i ≡ Some y → y.block < length u.world.memory)
    → (p name align : ℕ) (ty : Ty) → slice_get line p ≡ Some (Instr.Alloca name ty align)
    → has_markers (function_of g.given u) name ≡ false → size_of g.given.code ty ≡ value_bytes ty
    → value_bytes ty ≤ align
    → IsCell (frame_rights g u.instances) (behind_allocas g u line).world.memory (behind_allocas g u line).top name ty
    Anything
cells_made g u line good different low frames p name align ty there marks sized le =
    let made = (are_behind g u line good).made different low p name align ty there in
    let n : ℕ = size_of g.given.code ty in
    let block : ℕ = length u.world.memory + p in
    record {
      block = block;
      address = made.0;
      own = made.1;
      bytes = replicate n Byte.Undefined;
      sized = length-replicate n Byte.Undefined ∙ sized;
      holds = blank_holds g u.instances block
          (each_there (λ (y : Instance). y.block ≢ block) u.instances
          (λ i y e same. let lt = frames i y e in omega (arith, lt, same)))
          (behind_allocas g u line).world.memory n align (value_bytes ty) (function_of g.given u)
          (made.2
          ∙ ap (λ (c : Bool). Some (record (blank_block n align (alloca_kind (function_of g.given u))) {
            life = if c then Life.Ended else Life.Live;
          })) marks) le;
      has = tt;
    }
