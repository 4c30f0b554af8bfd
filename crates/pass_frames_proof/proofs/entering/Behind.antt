-- What allocas leave that are made again: blocks at the end of the memory, slots that have them, and their addresses.
use Rattle.std.proofs.Common.{◌≡◌, ◌⊎◌, ◌+◌, ◌<◌, ◌≤◌, ◌∷◌, ◌++◌, ◌∙◌, [], if◌then◌else◌, List, Some, ap, append-nil, append_assoc, arith, inl, inr, length, length-append, map, refl, subst, suc, sym, zero, ℕ, ⊎_elim}
use Rattle.std.specs.List.{Contains}
use Rattle.std.specs.Prelude.{slice_get}
use Rattle.pass_frames_steps.specs.flow_solver.Paths.{IsListed}
use Rattle.pass_frames_steps.specs.ir_laws.paths.woven_rules.Pairs.{AreDifferent}
use Rattle.pass_frames_steps.specs.ir_model.Layout.{size_of}
use Rattle.pass_frames_steps.specs.ir_model.Ty.{Ty}
use Rattle.pass_frames_steps.specs.ir_model.declared.instr.Instr.{Instr}
use Rattle.pass_frames_steps.specs.ir_model.declared.module.Function.{Function}
use Rattle.pass_frames_steps.specs.ir_paths.Slots.{allocas_in}
use Rattle.pass_frames_steps.proofs.distances.Sums.{value_set}
use Rattle.pass_frames_steps.specs.Entering.{IsGoodAlloca, behind_alloca, behind_allocas, made_blocks}
use Rattle.pass_frames_steps.specs.run_framed.Framed.{FramedGiven}
use Rattle.pass_frames_steps.proofs.run_laws.transfer.Sets.{set_elsewhere, set_length}
use Rattle.pass_frames_steps.specs.run_laws.changed.Changed.{Each}
use Rattle.pass_frames_steps.specs.run_laws.memory.Standing.{blank_block}
use Rattle.pass_frames_steps.specs.run_memory.declared.block.Life.{Life}
use Rattle.pass_frames_steps.specs.run_memory.declared.block.MemoryBlock.{MemoryBlock}
use Rattle.pass_frames_steps.specs.run_source.State.{function_of, work_of}
use Rattle.pass_frames_steps.specs.run_source.declared.state.State.{State}
use Rattle.pass_frames_steps.specs.run_step.Step.{alloca_kind, has_markers}
use Rattle.pass_frames_steps.specs.run_step.Values.{pointer_to, value_in}
use Rattle.pass_frames_steps.specs.run_step.declared.world.Slot.{Slot}

alloca_form : (i : Instr) → IsGoodAlloca i
    → (name : ℕ) × (ty : Ty) × (align : ℕ) × (i ≡ Instr.Alloca name ty align)
alloca_form (Instr.Alloca name ty align) h = (name, ty, align, refl)
alloca_form (Instr.Binary r op flags ty a b) h = absurd h
alloca_form (Instr.Icmp r pred ty a b) h = absurd h
alloca_form (Instr.Select r k a b) h = absurd h
alloca_form (Instr.Cast r op nneg a to) h = absurd h
alloca_form (Instr.Load r ty p align) h = absurd h
alloca_form (Instr.Store a p align) h = absurd h
alloca_form (Instr.Gep r inbounds ty p indices) h = absurd h
alloca_form (Instr.Call r must_tail ty callee args) h = absurd h

-- ---- lists

nth_behind : {A : Type 0} (xs : List A) (y : A) (ys : List A) → slice_get (xs ++ y ∷ ys) (length xs) ≡ Some y
nth_behind [] y ys = refl
nth_behind (x ∷ xs) y ys = nth_behind xs y ys

first_in : {A : Type 0} (xs : List A) (x : A) → Contains (x ∷ xs) x
first_in xs x = (0, omega arith, refl)

more_in : {A : Type 0} (xs : List A) (x z : A) → Contains xs z → Contains (x ∷ xs) z
more_in xs x z c = (suc c.0, (let lt = c.1 in omega (arith, lt)), c.2)

first_or_more : {A : Type 0} (xs : List A) (x z : A) → Contains (x ∷ xs) z → (x ≡ z) ⊎ Contains xs z
first_or_more xs x z (zero, lt, e) = inl e
first_or_more xs x z (suc k, lt, e) = inr (k, omega (arith, lt), e)

listed_block : (xs : List Slot) (n : ℕ) → IsListed n (map (λ (z : Slot). z.block) xs)
    → (z : Slot) × Contains xs z × (z.block ≡ n)
listed_block [] n l = absurd l
listed_block (y ∷ xs) n (inl e) = (y, first_in xs y, sym e)
listed_block (y ∷ xs) n (inr l) = let z = listed_block xs n l in (z.0, more_in xs y z.0 z.1, z.2)

-- ---- what is left

module _ (g : FramedGiven) where
  abbrev f : State → Function
  f u = function_of g.given u

  abbrev blocks : List Slot → List ℕ
  blocks slots = map (λ (z : Slot). z.block) slots

  abbrev end_of : State → ℕ
  end_of u = length u.world.memory

  pub record AreBehind (u z : State) (is : List Instr) : Type 0 where
    pub memory : z.world.memory ≡ u.world.memory ++ made_blocks g.given.code (f u) is
    pub many : length z.world.memory ≡ length u.world.memory + length is
    pub state : z ≡ record u {
      world = record u.world { memory = z.world.memory };
      top = record u.top { at = z.top.at; values = z.top.values; slots = z.top.slots };
    }
    pub at : z.top.at ≡ u.top.at + length is
    pub room : length z.top.values ≡ length u.top.values
    pub kept : (slot : Slot) → Contains u.top.slots slot → Contains z.top.slots slot
    pub new : (slot : Slot) → Contains z.top.slots slot
        → Contains u.top.slots slot ⊎ ((length u.world.memory ≤ slot.block) × IsListed slot.alloca (allocas_in is))
    pub others : (v : ℕ) → (IsListed v (allocas_in is) → ⊥) → value_in z.top.values v ≡ value_in u.top.values v
    pub once : (rest : List Slot)
        → ((slot : Slot) → Contains (u.top.slots ++ rest) slot → slot.block < length u.world.memory)
        → AreDifferent (blocks (u.top.slots ++ rest)) → AreDifferent (blocks (z.top.slots ++ rest))
    pub made : AreDifferent (allocas_in is)
        → ((name : ℕ) → IsListed name (allocas_in is) → name < length u.top.values) → (p name align : ℕ) (ty : Ty)
        → slice_get is p ≡ Some (Instr.Alloca name ty align)
        → (value_in z.top.values name ≡ pointer_to (length u.world.memory + p))
        × Contains z.top.slots (record { alloca = name; block = length u.world.memory + p })
        × (slice_get z.world.memory (length u.world.memory + p)
        ≡ Some (record (blank_block (size_of g.given.code ty) align (alloca_kind (f u))) {
          life = if has_markers (f u) name then Life.Ended else Life.Live;
        }))

  module _ (u : State) (name align : ℕ) (ty : Ty) (is : List Instr) where
    abbrev first : Instr
    first = Instr.Alloca name ty align

    abbrev v : State
    v = behind_alloca g u first

    abbrev slot : Slot
    slot = record { alloca = name; block = length u.world.memory }

    abbrev x : MemoryBlock
    x = record (blank_block (size_of g.given.code ty) align (alloca_kind (f u))) {
      life = if has_markers (f u) name then Life.Ended else Life.Live;
    }

    one_more_block : length (u.world.memory ++ x ∷ []) ≡ length u.world.memory + 1
    one_more_block = length-append u.world.memory (x ∷ [])

    more_behind : (z : State) → AreBehind v z is → AreBehind u z (first ∷ is)
    more_behind z h = record {
      memory = h.memory ∙ append_assoc u.world.memory (x ∷ []) (made_blocks g.given.code (f u) is);
      many =
          let long : length z.world.memory ≡ length (u.world.memory ++ x ∷ []) + length is = h.many in
          let one : length (u.world.memory ++ x ∷ []) ≡ length u.world.memory + 1 = one_more_block in
          omega (arith, long, one);
      state = h.state;
      at = let e : z.top.at ≡ u.top.at + 1 + length is = h.at in omega (arith, e);
      room = h.room ∙ set_length u.top.values name (pointer_to (length u.world.memory));
      kept = λ s own. h.kept s (more_in u.top.slots slot s own);
      new = λ s own. ⊎_elim (λ (c : Contains (slot ∷ u.top.slots) s). ⊎_elim
          (λ (e : slot ≡ s). inr (
            (let at : length u.world.memory ≡ s.block = ap (λ (y : Slot). y.block) e in omega (arith, at)),
            inl (sym (ap (λ (y : Slot). y.alloca) e)),
          ))
          (λ (c : Contains u.top.slots s). inl c) (first_or_more u.top.slots slot s c))
          (λ (l : (length (u.world.memory ++ x ∷ []) ≤ s.block) × IsListed s.alloca (allocas_in is)). inr (
            (let le : length (u.world.memory ++ x ∷ []) ≤ s.block = l.0 in
                let one : length (u.world.memory ++ x ∷ []) ≡ length u.world.memory + 1 = one_more_block in
                omega (arith, le, one)),
            inr l.1,
          )) (h.new s own);
      others = λ w off.
          h.others w (λ l. off (inr l))
          ∙ set_elsewhere u.top.values name w (pointer_to (length u.world.memory)) (λ e. off (inl (sym e)));
      once = λ rest below different. h.once rest
          (λ s own. ⊎_elim
          (λ (e : slot ≡ s).
          let at : length u.world.memory ≡ s.block = ap (λ (y : Slot). y.block) e in
          let one : length (u.world.memory ++ x ∷ []) ≡ length u.world.memory + 1 = one_more_block in
          omega (arith, at, one))
          (λ (c : Contains (u.top.slots ++ rest) s).
          let lt : s.block < length u.world.memory = below s c in
          let one : length (u.world.memory ++ x ∷ []) ≡ length u.world.memory + 1 = one_more_block in
          omega (arith, lt, one)) (first_or_more (u.top.slots ++ rest) slot s own)) (
            (λ l.
                let y = listed_block (u.top.slots ++ rest) (length u.world.memory) l in
                let lt : y.0.block < length u.world.memory = below y.0 y.1 in
                let e : y.0.block ≡ length u.world.memory = y.2 in
                omega (arith, lt, e)),
            different,
          );
      made = made_on;
    }
      where
        made_on : AreDifferent (allocas_in (first ∷ is))
            → ((n : ℕ) → IsListed n (allocas_in (first ∷ is)) → n < length u.top.values) → (p n a : ℕ) (s : Ty)
            → slice_get (first ∷ is) p ≡ Some (Instr.Alloca n s a)
            → (value_in z.top.values n ≡ pointer_to (length u.world.memory + p))
            × Contains z.top.slots (record { alloca = n; block = length u.world.memory + p })
            × (slice_get z.world.memory (length u.world.memory + p)
            ≡ Some (record (blank_block (size_of g.given.code s) a (alloca_kind (f u))) {
              life = if has_markers (f u) n then Life.Ended else Life.Live;
            }))
        made_on different low zero n a s e =
            let same : name ≡ n = cc in
            let type : ty ≡ s = cc in
            let aligned : align ≡ a = cc in
            let none : length u.world.memory ≡ length u.world.memory + 0 = omega arith in (
              ap (value_in z.top.values) (sym same)
                  ∙ h.others name different.0
                  ∙ value_set (work_of u) name name (pointer_to (length u.world.memory)) (low name (inl refl))
                  ∙ ap pointer_to none,
              subst (λ (y : Slot). Contains z.top.slots y)
                  (λ j. record { alloca = same j; block = none j })
                  (h.kept slot (first_in u.top.slots slot)),
              ap (slice_get z.world.memory) (sym none)
                  ∙ ap (λ (m : List MemoryBlock). slice_get m (length u.world.memory))
                  (h.memory ∙ append_assoc u.world.memory (x ∷ []) (made_blocks g.given.code (f u) is))
                  ∙ nth_behind u.world.memory x (made_blocks g.given.code (f u) is)
                  ∙ (λ j. Some (record (blank_block (size_of g.given.code (type j)) (aligned j) (alloca_kind (f u))) {
                    life = if has_markers (f u) (same j) then Life.Ended else Life.Live;
                  })),
            )
        made_on different low (suc p) n a s e =
            let m = h.made different.1
            (λ k l. let lt : k < length u.top.values = low k (inr l) in
            let long : length v.top.values ≡ length u.top.values =
            set_length u.top.values name (pointer_to (length u.world.memory)) in
            omega (arith, lt, long)) p n a s e in
            let one : length (u.world.memory ++ x ∷ []) ≡ length u.world.memory + 1 = one_more_block in
            let at : length (u.world.memory ++ x ∷ []) + p ≡ length u.world.memory + suc p = omega (arith, one) in (
              m.0 ∙ ap pointer_to at,
              subst (λ (k : ℕ). Contains z.top.slots (record { alloca = n; block = k })) at m.1,
              ap (slice_get z.world.memory) (sym at) ∙ m.2,
            )

  pub are_behind : (u : State) (is : List Instr) → Each IsGoodAlloca is → AreBehind u (behind_allocas g u is) is
  are_behind u [] good = record {
    memory = sym (append-nil u.world.memory);
    many = let e : length u.world.memory ≡ length u.world.memory + 0 = omega arith in e;
    state = refl;
    at = let e : u.top.at ≡ u.top.at + 0 = omega arith in e;
    room = refl;
    kept = λ slot own. own;
    new = λ slot own. inl own;
    others = λ v off. refl;
    once = λ rest below different. different;
    made = λ different low p name align ty e. absurd (cc);
  }
  are_behind u (i ∷ is) good =
      let form = alloca_form i good.0 in
      subst (λ (k : Instr). AreBehind u (behind_allocas g (behind_alloca g u k) is) (k ∷ is)) (sym form.3)
      (more_behind u form.0 form.2 form.1 is
      (behind_allocas g (behind_alloca g u (Instr.Alloca form.0 form.1 form.2)) is)
      (are_behind (behind_alloca g u (Instr.Alloca form.0 form.1 form.2)) is good.1))
