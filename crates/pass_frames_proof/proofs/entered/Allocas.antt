-- The framed run executes allocas one after another: each has a block of its own behind all that there were.
use Rattle.std.proofs.Common.{Bool, List, [], ap, arith, false, inl, inr, length, refl, subst, suc, sym, true, zero, ℕ, ⊎_elim, ◌++◌, ◌+◌, ◌<◌, ◌∙◌, ◌∷◌, ◌≡◌, ◌≤◌}
use Rattle.std.specs.Prelude.{None, Some, if◌then◌else◌, map}
use Rattle.pass_frames_steps.specs.flow_solver.Paths.{IsListed}
use Rattle.pass_frames_steps.specs.ir_base.declared.cause.Cause.{Cause}
use Rattle.pass_frames_steps.specs.ir_base.declared.outcome.Outcome.{Outcome}
use Rattle.pass_frames_steps.proofs.ir_laws.facts.Lists.{get_front, get_last}
use Rattle.pass_frames_steps.specs.ir_laws.paths.woven_rules.Pairs.{AreDifferent}
use Rattle.pass_frames_steps.specs.ir_model.Layout.{size_of}
use Rattle.pass_frames_steps.specs.ir_model.Ty.{Ty}
use Rattle.pass_frames_steps.specs.ir_model.declared.instr.Instr.{Instr}
use Rattle.pass_frames_steps.specs.ir_model.declared.module.Function.{Function}
use Rattle.pass_frames_steps.specs.ir_model.declared.module.Module.{Module}
use Rattle.pass_frames_steps.proofs.lined.Lines.{framed_does}
use Rattle.pass_frames_steps.specs.Entered.{AreBelow, Grows, IsAlloca, IsThere, Made, alloca_block, made_all, made_one, made_state, names_in}
use Rattle.pass_frames_steps.proofs.pass_renewed_proof.EnteredValues.{set_here}
use Rattle.pass_frames_steps.specs.run_agreement.Machines.{iterate}
use Rattle.pass_frames_steps.specs.run_framed.Framed.{FramedGiven, framed_context, framed_slot, framed_step, given_call}
use Rattle.pass_frames_steps.proofs.run_laws.transfer.Sets.{set_elsewhere, set_length}
use Rattle.pass_frames_steps.specs.run_laws.access.Lines.{StandAt}
use Rattle.pass_frames_steps.specs.run_laws.changed.Changed.{Each}
use Rattle.pass_frames_steps.specs.run_memory.Memory.{end, ended, fresh}
use Rattle.pass_frames_steps.specs.run_memory.declared.block.Life.{Life}
use Rattle.pass_frames_steps.specs.run_memory.declared.block.MemoryBlock.{MemoryBlock}
use Rattle.pass_frames_steps.specs.run_source.State.{function_of, settled, work_of}
use Rattle.pass_frames_steps.specs.run_source.declared.state.Mode.{Mode}
use Rattle.pass_frames_steps.specs.run_source.declared.state.State.{State}
use Rattle.pass_frames_steps.specs.run_step.Step.{AtInstr, NewSlot, Stuck, Work, alloca, alloca_kind, fetch, has_markers, instr_action, set_memory, set_value}
use Rattle.pass_frames_steps.specs.run_step.Values.{pointer_to, value_in, with_value}
use Rattle.pass_frames_steps.specs.run_step.declared.world.Slot.{Slot}

-- ---- the memory

ended_last : (m : List MemoryBlock) (x : MemoryBlock) → end (m ++ x ∷ []) (length m) ≡ m ++ ended x ∷ []
ended_last [] x = refl
ended_last (y ∷ m) x = ap (λ (k : List MemoryBlock). y ∷ k) (ended_last m x)

block_made : (c : Module) (f : Function) (m : List MemoryBlock) (name : ℕ) (ty : Ty) (align : ℕ) (b : Bool)
    → (if b then end (fresh m (size_of c ty) align (alloca_kind f)) (length m)
    else fresh m (size_of c ty) align (alloca_kind f))
    ≡ m ++ record (alloca_block c f name ty align) { life = if b then Life.Ended else Life.Live } ∷ []
block_made c f m name ty align true = ended_last m _
block_made c f m name ty align false = refl

-- ---- a memory that grows

pub grows_none : (m : List MemoryBlock) → Grows m m
grows_none m = record { same = λ e lt. refl; longer = omega arith }

one_longer : (m : List MemoryBlock) (x : MemoryBlock) → length (m ++ x ∷ []) ≡ length m + 1
one_longer [] x = refl
one_longer (y ∷ m) x = let e = one_longer m x in omega (arith, e)

grows_one : (m : List MemoryBlock) (x : MemoryBlock) → Grows m (m ++ x ∷ [])
grows_one m x = record {
  same = λ e lt. get_front m (x ∷ []) e lt;
  longer = let e = one_longer m x in omega (arith, e);
}

pub grows_on : (m k l : List MemoryBlock) → Grows m k → Grows k l → Grows m l
grows_on m k l one more = record {
  same = λ e lt. more.same e (let a = one.longer in omega (arith, a, lt)) ∙ one.same e lt;
  longer = let a = one.longer in let c = more.longer in omega (arith, a, c);
}

-- ---- one step

module _ (h : FramedGiven) (t : State) (runs : t.outcome ≡ Outcome.Running) (ramp : t.top.mode ≡ Mode.Ramp) where
  abbrev F : Function
  F = function_of h.given t

  module _ (k : Made) (n : ℕ) (j : Instr) (a : IsAlloca j)
      (there : fetch F t.top.block (t.top.at + n) ≡ AtInstr j) where
    abbrev at : State
    at = made_state t k n

    abbrev made : Slot
    made = record { alloca = a.name; block = length k.memory }

    abbrev w : Work
    w = record {
      world = record t.world { memory = k.memory ++ alloca_block h.given.code F a.name a.ty a.align ∷ [] };
      values = with_value k.values a.name (pointer_to (length k.memory));
    }

    further : (p q : ℕ) → p + q + 1 ≡ p + (q + 1)
    further p q = omega arith

    ungiven : given_call h at (AtInstr j) ≡ None
    ungiven = ap (λ (i : Instr). given_call h at (AtInstr i)) a.is

    does : instr_action (framed_context h at) (work_of at) j ≡ NewSlot w made
    does =
        ap (instr_action (framed_context h at) (work_of at)) a.is
        ∙ ap (λ (b : Bool). if b then alloca (framed_context h at) (work_of at) a.name (size_of h.given.code a.ty) a.align
        else Stuck Cause.Align) a.alignment
        ∙ ap (λ (m : List MemoryBlock). NewSlot
        (set_memory (set_value (work_of at) a.name (pointer_to (length k.memory))) m) made)
        (block_made h.given.code F k.memory a.name a.ty a.align (has_markers F a.name))

    one_made : framed_step h (made_state t k n)
        ≡ made_state t (made_one h.given.code F k a.name a.ty a.align) (n + 1)
    one_made =
        framed_does h at (AtInstr j) (NewSlot w made) runs there ungiven does
        ∙ ap (λ (mode : Mode). framed_slot h (settled at w) made mode) ramp
        ∙ ap (λ (q : ℕ). record t {
          world = w.world;
          top = record t.top { at = q; values = w.values; slots = made ∷ k.slots };
        }) (further t.top.at n)

  -- ---- all of them

  pub all_made : (k : Made) (n : ℕ) (js : List Instr) (ups : Each IsAlloca js) → StandAt F t.top.block (t.top.at + n) js
      → iterate (framed_step h) (length js) (made_state t k n)
      ≡ made_state t (made_all h.given.code F k js ups) (n + length js)
  all_made k n [] ups stand = let e : n ≡ n + 0 = omega arith in ap (λ (q : ℕ). made_state t k q) e
  all_made k n (j ∷ js) ups stand =
      ap (iterate (framed_step h) (length js)) (one_made k n j ups.0 stand.0)
      ∙ all_made (made_one h.given.code F k ups.0.name ups.0.ty ups.0.align) (n + 1) js ups.1
      (let e : t.top.at + n + 1 ≡ t.top.at + (n + 1) = omega arith in
      subst (λ (q : ℕ). StandAt F t.top.block q js) e stand.1)
      ∙ (let e : n + 1 + length js ≡ n + length (j ∷ js) = omega arith in
      ap (λ (q : ℕ). made_state t (made_all h.given.code F k (j ∷ js) ups) q) e)

  -- after some of them
  pub some_made : (k : Made) (n : ℕ) (js : List Instr) (ups : Each IsAlloca js) → StandAt F t.top.block (t.top.at + n) js
      → (i : ℕ) → i ≤ length js
      → (q : Made) × (iterate (framed_step h) i (made_state t k n) ≡ made_state t q (n + i))
      × Grows k.memory q.memory
  some_made k n js ups stand zero le = (k, (let e : n ≡ n + 0 = omega arith in ap (λ (q : ℕ). made_state t k q) e), grows_none k.memory)
  some_made k n [] ups stand (suc i) le = absurd (omega (arith, le))
  some_made k n (j ∷ js) ups stand (suc i) le =
      let more = some_made (made_one h.given.code F k ups.0.name ups.0.ty ups.0.align) (n + 1) js ups.1
      (let e : t.top.at + n + 1 ≡ t.top.at + (n + 1) = omega arith in
      subst (λ (q : ℕ). StandAt F t.top.block q js) e stand.1) i (omega (arith, le)) in (
        more.0,
        ap (iterate (framed_step h) i) (one_made k n j ups.0 stand.0) ∙ more.1
            ∙ (let e : n + 1 + i ≡ n + suc i = omega arith in ap (λ (q : ℕ). made_state t more.0 q) e),
        grows_on k.memory (k.memory ++ alloca_block h.given.code F ups.0.name ups.0.ty ups.0.align ∷ []) more.0.memory
            (grows_one k.memory (alloca_block h.given.code F ups.0.name ups.0.ty ups.0.align)) more.2,
      )

-- ---- what is there behind all of them

module _ (m : Module) (f : Function) where
  pub all_grow : (k : Made) (js : List Instr) (ups : Each IsAlloca js) → Grows k.memory (made_all m f k js ups).memory
  all_grow k [] ups = grows_none k.memory
  all_grow k (j ∷ js) ups =
      grows_on k.memory (made_one m f k ups.0.name ups.0.ty ups.0.align).memory (made_all m f k (j ∷ js) ups).memory
      (grows_one k.memory (alloca_block m f ups.0.name ups.0.ty ups.0.align))
      (all_grow (made_one m f k ups.0.name ups.0.ty ups.0.align) js ups.1)

  pub values_long : (k : Made) (js : List Instr) (ups : Each IsAlloca js)
      → length (made_all m f k js ups).values ≡ length k.values
  values_long k [] ups = refl
  values_long k (j ∷ js) ups =
      values_long (made_one m f k ups.0.name ups.0.ty ups.0.align) js ups.1
      ∙ set_length k.values ups.0.name (pointer_to (length k.memory))

  -- a name that none of them gives keeps its value
  pub values_stay : (k : Made) (js : List Instr) (ups : Each IsAlloca js) (v : ℕ) → (IsListed v (names_in js ups) → ⊥)
      → value_in (made_all m f k js ups).values v ≡ value_in k.values v
  values_stay k [] ups v none = refl
  values_stay k (j ∷ js) ups v none =
      values_stay (made_one m f k ups.0.name ups.0.ty ups.0.align) js ups.1 v (λ l. none (inr l))
      ∙ set_elsewhere k.values ups.0.name v (pointer_to (length k.memory)) (λ e. none (inl (sym e)))

  slots_stay : (k : Made) (js : List Instr) (ups : Each IsAlloca js) (slot : Slot) → IsListed slot k.slots
      → IsListed slot (made_all m f k js ups).slots
  slots_stay k [] ups slot l = l
  slots_stay k (j ∷ js) ups slot l = slots_stay (made_one m f k ups.0.name ups.0.ty ups.0.align) js ups.1 slot (inr l)

  there_stays : (base : ℕ) (k : Made) (js : List Instr) (ups : Each IsAlloca js) (name : ℕ) (ty : Ty) (align : ℕ)
      → (IsListed name (names_in js ups) → ⊥) → (z : IsThere m f base k name ty align) → z.block < length k.memory
      → IsThere m f base (made_all m f k js ups) name ty align
  there_stays base k js ups name ty align none z lt = record {
    block = z.block;
    address = values_stay k js ups name none ∙ z.address;
    own = slots_stay k js ups (record { alloca = name; block = z.block }) z.own;
    there = (all_grow k js ups).same z.block lt ∙ z.there;
    new = z.new;
  }

  -- each has its block
  pub each_there : (base : ℕ) (k : Made) (js : List Instr) (ups : Each IsAlloca js) → AreDifferent (names_in js ups)
      → Each (λ (j : Instr). (a : IsAlloca j) → a.name < length k.values) js → base ≤ length k.memory
      → (name : ℕ) (ty : Ty) (align : ℕ) → IsListed (Instr.Alloca name ty align) js
      → IsThere m f base (made_all m f k js ups) name ty align
  each_there base k [] ups once low le name ty align l = absurd l
  each_there base k (j ∷ js) ups once low le name ty align (inl e) =
      there_stays base (made_one m f k ups.0.name ups.0.ty ups.0.align) js ups.1 name ty align (λ l. once.0 (subst (λ (q : ℕ). IsListed q (names_in js ups.1)) (sym same) l))
      (record {
        block = length k.memory;
        address = ap (value_in (made_one m f k ups.0.name ups.0.ty ups.0.align).values) (sym same)
            ∙ set_here k.values ups.0.name (pointer_to (length k.memory)) (low.0 ups.0);
        own = inl (ap (λ (q : ℕ). record { alloca = q; block = length k.memory }) (sym same));
        there = get_last k.memory (alloca_block m f ups.0.name ups.0.ty ups.0.align)
            ∙ (λ i. Some (alloca_block m f (same i) (same_ty i) (same_align i)));
        new = le;
      })
      (let long = one_longer k.memory (alloca_block m f ups.0.name ups.0.ty ups.0.align) in omega (arith, long))
    where
      both : Instr.Alloca ups.0.name ups.0.ty ups.0.align ≡ Instr.Alloca name ty align
      both = sym ups.0.is ∙ sym e

      same : ups.0.name ≡ name
      same = cc

      same_ty : ups.0.ty ≡ ty
      same_ty = cc

      same_align : ups.0.align ≡ align
      same_align = cc
  each_there base k (j ∷ js) ups once low le name ty align (inr l) =
      each_there base (made_one m f k ups.0.name ups.0.ty ups.0.align) js ups.1 once.1
      (longer js low.1)
      (let long = one_longer k.memory (alloca_block m f ups.0.name ups.0.ty ups.0.align) in omega (arith, long, le)) name ty
      align l
    where
      longer : (is : List Instr) → Each (λ (q : Instr). (a : IsAlloca q) → a.name < length k.values) is
          → Each (λ (q : Instr). (a : IsAlloca q)
          → a.name < length (with_value k.values ups.0.name (pointer_to (length k.memory)))) is
      longer [] h = tt
      longer (q ∷ is) h = (
        λ a. let lt = h.0 a in
            let e = set_length k.values ups.0.name (pointer_to (length k.memory)) in omega (arith, lt, e),
        longer is h.1,
      )

  -- ---- slots

  pub slots_below : (rest : List Slot) (k : Made) (js : List Instr) (ups : Each IsAlloca js) → AreBelow k rest
      → AreBelow (made_all m f k js ups) rest
  slots_below rest k [] ups h = h
  slots_below rest k (j ∷ js) ups h =
      slots_below rest (made_one m f k ups.0.name ups.0.ty ups.0.align) js ups.1
      (λ n l. ⊎_elim
      (λ e. let long = one_longer k.memory (alloca_block m f ups.0.name ups.0.ty ups.0.align) in omega (arith, long, e))
      (λ more. let lt = h n more in
      let long = one_longer k.memory (alloca_block m f ups.0.name ups.0.ty ups.0.align) in omega (arith, long, lt)) l)

  pub slots_differ : (rest : List Slot) (k : Made) (js : List Instr) (ups : Each IsAlloca js) → AreBelow k rest
      → AreDifferent (map (λ (slot : Slot). slot.block) (k.slots ++ rest))
      → AreDifferent (map (λ (slot : Slot). slot.block) ((made_all m f k js ups).slots ++ rest))
  slots_differ rest k [] ups h once = once
  slots_differ rest k (j ∷ js) ups h once =
      slots_differ rest (made_one m f k ups.0.name ups.0.ty ups.0.align) js ups.1
      (slots_below rest k (j ∷ []) (ups.0, tt) h)
      ((λ l. let lt = h (length k.memory) l in omega (arith, lt)), once)

  -- and they are new
  pub slots_new : (base : ℕ) (k : Made) (js : List Instr) (ups : Each IsAlloca js) → base ≤ length k.memory
      → ((slot : Slot) → IsListed slot k.slots → base ≤ slot.block) → (slot : Slot)
      → IsListed slot (made_all m f k js ups).slots → base ≤ slot.block
  slots_new base k [] ups le h slot l = h slot l
  slots_new base k (j ∷ js) ups le h slot l =
      slots_new base (made_one m f k ups.0.name ups.0.ty ups.0.align) js ups.1
      (let long = one_longer k.memory (alloca_block m f ups.0.name ups.0.ty ups.0.align) in omega (arith, long, le))
      (λ s q. ⊎_elim (λ e. subst (λ (z : ℕ). base ≤ z) (sym (ap (λ (z : Slot). z.block) e)) le) (h s) q) slot l
