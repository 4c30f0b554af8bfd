-- Behind allocas cells are there, whatever they have: no frame lies in their blocks.
use Rattle.std.proofs.Common.{◌≡◌, inl, inr, ℕ, zero, suc, ◌+◌, ◌<◌, ◌≤◌, Bool, true, false, not, nat_le, nat_lt, ◌%◌, List, [], ◌∷◌, length, refl, sym, ap, ◌∙◌, subst, arith}
use Rattle.std.proofs.Math.Seq.{take-length}
use Rattle.std.proofs.lemmas.List.{length-replicate}
use Rattle.std.specs.List.{Contains}
use Rattle.std.specs.Prelude.{None, Option, Some, option_and_then, slice_get, if◌then◌else◌, ◌&&◌, ◌==◌}
use Rattle.pass_frames_steps.specs.flow_solver.Paths.{IsListed}
use Rattle.pass_frames_steps.proofs.ir_laws.facts.Truth.{and_both, and_first, equal_numbers}
use Rattle.pass_frames_steps.specs.ir_model.Layout.{size_of}
use Rattle.pass_frames_steps.specs.ir_model.Ty.{Ty}
use Rattle.pass_frames_steps.specs.ir_model.declared.module.Function.{Function}
use Rattle.pass_frames_steps.specs.ir_model.declared.module.Module.{Module}
use Rattle.pass_frames_steps.specs.pass_fetch.Fetching.{value_bytes}
use Rattle.pass_frames_steps.specs.Entered.{IsThere, Made, alloca_block}
use Rattle.pass_frames_steps.specs.Related.{Anything, IsCell}
use Rattle.pass_frames_steps.specs.run_framed.Framed.{FramedGiven, covers, frame_rights, is_open, is_open_byte, judge_of, layout_of, meets_in}
use Rattle.pass_frames_steps.specs.run_laws.access.Lines.{Holds}
use Rattle.pass_frames_steps.specs.run_laws.memory.Standing.{IsAlignment}
use Rattle.pass_frames_steps.specs.run_memory.Memory.{is_live, meets, same_kind}
use Rattle.pass_frames_steps.specs.run_memory.declared.block.Byte.{Byte}
use Rattle.pass_frames_steps.specs.run_memory.declared.block.Kind.{Kind}
use Rattle.pass_frames_steps.specs.run_memory.declared.block.Life.{Life}
use Rattle.pass_frames_steps.specs.run_memory.declared.block.MemoryBlock.{MemoryBlock}
use Rattle.pass_frames_steps.specs.run_source.Indexes.{last_from, or_else}
use Rattle.pass_frames_steps.specs.run_source.State.{numbered}
use Rattle.pass_frames_steps.specs.run_source.declared.state.Activation.{Activation}
use Rattle.pass_frames_steps.specs.run_source.declared.state.Instance.{Instance}
use Rattle.pass_frames_steps.specs.run_step.Step.{alloca_kind, has_markers}
use Rattle.pass_frames_steps.specs.run_step.Values.{Env, value_in}
use Rattle.pass_frames_steps.specs.run_step.declared.world.Slot.{Slot}

le_true : (a b : ℕ) → a ≤ b → nat_le a b ≡ true
le_true a b le = grind arith

-- ---- no frame has a byte of a block in which no instance began

never_last : (test : Instance → Bool) (i : ℕ) (xs : List Instance)
    → ((j : ℕ) (z : Instance) → slice_get xs j ≡ Some z → test z ≡ false) → last_from test i xs ≡ None
never_last test i [] none = refl
never_last test i (x ∷ xs) none =
    (λ k. or_else (never_last test (suc i) xs (λ j z e. none (suc j) z e) k)
    (if none 0 x refl k then Some i else None))

module _ (g : FramedGiven) (ys : List Instance) (n : ℕ)
    (new : (i : ℕ) (y : Instance) → slice_get ys i ≡ Some y → y.block ≡ n → ⊥) where
  uncovered : (k j : ℕ) (z : Instance) → slice_get ys j ≡ Some z → covers g n k z ≡ false
  uncovered k j z e = on (covers g n k z) refl
    where
      on : (c : Bool) → covers g n k z ≡ c → covers g n k z ≡ false
      on false h = h
      on true h = absurd (new j z e (equal_numbers z.block n (and_first (z.block == n) (nat_le z.start k)
          (and_first ((z.block == n) && nat_le z.start k)
          (nat_lt k (z.start + (layout_of g.layouts z.coroutine).size)) h))))

  unjudged : (k : ℕ) → judge_of g ys n k ≡ None
  unjudged k =
      ap (option_and_then (numbered ys)) (never_last (covers g n k) 0 ys (λ j z e. uncovered k j z e))

  opens : (len o : ℕ) → is_open g ys n o len ≡ true
  opens zero o = refl
  opens (suc len) o =
      ap (λ (q : Option (ℕ × Instance)). is_open_byte g o q && is_open g ys n (o + 1) len) (unjudged o)
      ∙ opens len (o + 1)

  meets_there : (a k : ℕ) (x : MemoryBlock) → x.align ≡ k → IsAlignment a → a ≤ k → meets x 0 a ≡ true
  meets_there a k x same of le = at of
    where
      fits : (c : ℕ) → a ≡ c → nat_le a x.align ≡ true
      fits c e = le_true a x.align (subst (λ (z : ℕ). a ≤ z) (sym same) le)

      at : IsAlignment a → meets x 0 a ≡ true
      at (inl e) = and_both (0 % a == 0) (nat_le a x.align) (ap (λ (c : ℕ). 0 % c == 0) e) (fits 1 e)
      at (inr (inl e)) = and_both (0 % a == 0) (nat_le a x.align) (ap (λ (c : ℕ). 0 % c == 0) e) (fits 2 e)
      at (inr (inr (inl e))) = and_both (0 % a == 0) (nat_le a x.align) (ap (λ (c : ℕ). 0 % c == 0) e) (fits 4 e)
      at (inr (inr (inr (inl e)))) =
          and_both (0 % a == 0) (nat_le a x.align) (ap (λ (c : ℕ). 0 % c == 0) e) (fits 8 e)
      at (inr (inr (inr (inr e)))) =
          and_both (0 % a == 0) (nat_le a x.align) (ap (λ (c : ℕ). 0 % c == 0) e) (fits 16 e)

  -- all of a live block that is no constant may be accessed
  pub all_held : (m : List MemoryBlock) (x : MemoryBlock) → slice_get m n ≡ Some x → is_live x.life ≡ true
      → same_kind x.kind Kind.Constant ≡ false → length x.bytes ≡ x.size
      → Holds (frame_rights g ys) m n 0 x.align x.bytes
  all_held m x there live kind whole = record {
    block = x;
    there = there;
    live = live;
    writable = kind;
    whole = whole;
    within = let e = whole in omega (arith, e);
    holds = take-length x.bytes;
    unclosed = ap not (opens (length x.bytes) 0);
    aligned = λ a of le.
        ap (meets_in g x 0 a) (unjudged 0) ∙ meets_there a x.align x refl of le;
  }

kind_open : (f : Function) → same_kind (alloca_kind f) Kind.Constant ≡ false
kind_open f = on f.coroutine
  where
    on : (c : Bool) → same_kind (if c then Kind.Slot else Kind.Stack) Kind.Constant ≡ false
    on true = refl
    on false = refl

listed_in : (ss : List Slot) (slot : Slot) → IsListed slot ss → Contains ss slot
listed_in [] slot l = absurd l
listed_in (s ∷ ss) slot (inl e) = (0, omega arith, sym e)
listed_in (s ∷ ss) slot (inr l) =
    let r = listed_in ss slot l in
    let lt : r.0 < length ss = r.1 in
    (suc r.0, omega (arith, lt), r.2)

-- a cell of a type whose alloca has its size and alignment and no marker
pub cell_made : (g : FramedGiven) (ys : List Instance) (m : Module) (f : Function) (base : ℕ) (k : Made) (a : Activation)
    (cell : ℕ) (ty : Ty) → ((i : ℕ) (y : Instance) → slice_get ys i ≡ Some y → y.block < base)
    → IsThere m f base k cell ty (value_bytes ty) → size_of m ty ≡ value_bytes ty → has_markers f cell ≡ false
    → a.values ≡ k.values → a.slots ≡ k.slots → IsCell (frame_rights g ys) k.memory a cell ty Anything
cell_made g ys m f base k a cell ty old z size unmarked values slots = record {
  block = z.block;
  address = ap (λ (env : Env). value_in env cell) values ∙ z.address;
  own = subst (λ (ss : List Slot). Contains ss (record { alloca = cell; block = z.block })) (sym slots)
      (listed_in k.slots (record { alloca = cell; block = z.block }) z.own);
  bytes = x.bytes;
  sized = length-replicate (size_of m ty) Byte.Undefined ∙ size;
  holds = all_held g ys z.block fresh k.memory x z.there
      (ap (λ (c : Bool). is_live (if c then Life.Ended else Life.Live)) unmarked) (kind_open f)
      (length-replicate (size_of m ty) Byte.Undefined);
  has = tt;
}
  where
    x : MemoryBlock
    x = alloca_block m f cell ty (value_bytes ty)

    fresh : (i : ℕ) (y : Instance) → slice_get ys i ≡ Some y → y.block ≡ z.block → ⊥
    fresh i y e same = let lt = old i y e in let le = z.new in omega (arith, lt, le, same)
