-- The framed run makes allocas in the mode of a resumed activation that enters a label.
use Rattle.std.proofs.Common.{◌≡◌, ◌+◌, ◌≤◌, ◌==◌, ◌∷◌, ◌++◌, ◌∙◌, [], if◌then◌else◌, Bool, List, None, Option, Some, ap, arith, drop, false, length, refl, subst, suc, sym, take, true, zero, ℕ}
use Rattle.std.specs.Prelude.{option_map, slice_get}
use Rattle.pass_frames_steps.specs.ir_base.declared.cause.Cause.{Cause}
use Rattle.pass_frames_steps.specs.ir_model.Layout.{size_of}
use Rattle.pass_frames_steps.specs.ir_model.Ty.{Ty}
use Rattle.pass_frames_steps.specs.ir_model.declared.instr.Instr.{Instr}
use Rattle.pass_frames_steps.specs.ir_model.declared.module.Block.{Block}
use Rattle.pass_frames_steps.specs.ir_model.declared.module.Function.{Function}
use Rattle.pass_frames_steps.proofs.lined.Lines.{framed_does}
use Rattle.pass_frames_steps.specs.Entering.{IsGoodAlloca, IsMaking, behind_alloca, behind_allocas, entered, made_block}
use Rattle.pass_frames_steps.specs.run_agreement.Machines.{iterate}
use Rattle.pass_frames_steps.specs.run_framed.Framed.{FramedGiven, alloca_from, alloca_in, alloca_of, at_point, enter_after, framed_context, framed_slot, framed_step, with_mode}
use Rattle.pass_frames_steps.specs.run_laws.access.Lines.{StandAt}
use Rattle.pass_frames_steps.specs.run_laws.changed.Changed.{Each}
use Rattle.pass_frames_steps.specs.run_laws.memory.Standing.{blank_block}
use Rattle.pass_frames_steps.specs.run_memory.Memory.{end, ended, with_block}
use Rattle.pass_frames_steps.specs.run_memory.declared.block.Life.{Life}
use Rattle.pass_frames_steps.specs.run_memory.declared.block.MemoryBlock.{MemoryBlock}
use Rattle.pass_frames_steps.specs.run_source.State.{function_of, settled, work_of}
use Rattle.pass_frames_steps.specs.run_source.declared.state.Mode.{Mode}
use Rattle.pass_frames_steps.specs.run_source.declared.state.State.{State}
use Rattle.pass_frames_steps.specs.run_step.Step.{AtInstr, NewSlot, Stuck, Work, alloca, alloca_kind, fetch, fetch_in, fetch_or, has_markers, instr_action, is_alignment}
use Rattle.pass_frames_steps.specs.run_step.Values.{pointer_to, with_value}
use Rattle.pass_frames_steps.specs.run_step.declared.world.Slot.{Slot}

-- ---- the first alloca from a position on

dropped : {A : Type 0} (xs : List A) (k : ℕ) (x : A) → slice_get xs k ≡ Some x → drop k xs ≡ x ∷ drop (suc k) xs
dropped [] k x e = absurd (cc)
dropped {A = A} (y ∷ xs) zero x e = let same : y ≡ x = cc in ap (λ (z : A). z ∷ xs) same
dropped (y ∷ xs) (suc k) x e = dropped xs k x e

first_is : (at : ℕ) (i : Instr) (rest : List Instr) → IsGoodAlloca i → alloca_in at (i ∷ rest) ≡ Some at
first_is at (Instr.Alloca name ty align) rest h = refl
first_is at (Instr.Binary r op flags ty a b) rest h = absurd h
first_is at (Instr.Icmp r pred ty a b) rest h = absurd h
first_is at (Instr.Select r k a b) rest h = absurd h
first_is at (Instr.Cast r op nneg a to) rest h = absurd h
first_is at (Instr.Load r ty p align) rest h = absurd h
first_is at (Instr.Store a p align) rest h = absurd h
first_is at (Instr.Gep r inbounds ty p indices) rest h = absurd h
first_is at (Instr.Call r must_tail ty callee args) rest h = absurd h

pub alloca_there : (o : Option Block) (at : ℕ) (i : Instr) → IsGoodAlloca i → fetch_in o at ≡ AtInstr i
    → alloca_of o at ≡ Some at
alloca_there None at i h e = absurd (cc)
alloca_there (Some b) at i h e = from (slice_get b.instrs at) refl (at == length b.instrs) e
  where
    from : (q : Option Instr) → slice_get b.instrs at ≡ q → (c : Bool) → fetch_or q c b.term ≡ AtInstr i
        → alloca_in at (drop at b.instrs) ≡ Some at
    from None there true e = absurd (cc)
    from None there false e = absurd (cc)
    from (Some j) there c e =
        ap (alloca_in at) (dropped b.instrs at j there)
        ∙ first_is at j (drop (suc at) b.instrs) (let same : i ≡ j = cc in subst IsGoodAlloca same h)

-- the first one of a line with another one behind it
abbrev second : Instr → List Instr → Instr
second k [] = k
second k (j ∷ js) = j

-- ---- one alloca

end_block : (m : List MemoryBlock) (x : MemoryBlock) (f : MemoryBlock → MemoryBlock)
    → with_block (m ++ x ∷ []) (length m) f ≡ m ++ f x ∷ []
end_block [] x f = refl
end_block (y ∷ m) x f = ap (λ (k : List MemoryBlock). y ∷ k) (end_block m x f)

module _ (g : FramedGiven) (from label : ℕ) where
  abbrev f : State → Function
  f u = function_of g.given u

  module _ (u : State) (h : IsMaking u from label) (name align : ℕ) (ty : Ty) (good : is_alignment align ≡ true) where
    abbrev i : Instr
    i = Instr.Alloca name ty align

    abbrev slot : Slot
    slot = record { alloca = name; block = length u.world.memory }

    abbrev work : Work
    work = record {
      world = record u.world { memory = u.world.memory ++ made_block g.given.code (f u) i };
      values = with_value u.top.values name (pointer_to (length u.world.memory));
    }

    made : (c : Bool) (x : MemoryBlock) → x.life ≡ Life.Live
        → (if c then end (u.world.memory ++ x ∷ []) (length u.world.memory) else u.world.memory ++ x ∷ [])
        ≡ u.world.memory ++ record x { life = if c then Life.Ended else Life.Live } ∷ []
    made true x live =
        end_block u.world.memory x ended
        ∙ ap (λ (l : Life). u.world.memory ++ ended (record x { life = l }) ∷ []) live
    made false x live = ap (λ (l : Life). u.world.memory ++ record x { life = l } ∷ []) live

    does : instr_action (framed_context g u) (work_of u) i ≡ NewSlot work slot
    does =
        ap (λ (c : Bool). if c then alloca (framed_context g u) (work_of u) name (size_of g.given.code ty) align
        else Stuck Cause.Align) good
        ∙ ap (λ (m : List MemoryBlock). NewSlot (record {
          world = record u.world { memory = m };
          values = with_value u.top.values name (pointer_to (length u.world.memory));
        }) slot)
        (made (has_markers (f u) name) (blank_block (size_of g.given.code ty) align (alloca_kind (f u))) refl)

    one_alloca : fetch (f u) 0 u.top.at ≡ AtInstr i
        → framed_step g u ≡ enter_after g (behind_alloca g u i) from label (alloca_from (f u) (u.top.at + 1))
    one_alloca there =
        framed_does g u (AtInstr i) (NewSlot work slot) h.runs
        (ap (λ (k : ℕ). fetch (f u) k u.top.at) h.entry_block ∙ there) refl does
        ∙ ap (λ (m : Mode). framed_slot g (settled u work) slot m) h.mode

  one : (u : State) → IsMaking u from label → (i : Instr) → IsGoodAlloca i → fetch (f u) 0 u.top.at ≡ AtInstr i
      → framed_step g u ≡ enter_after g (behind_alloca g u i) from label (alloca_from (f u) (u.top.at + 1))
  one u h (Instr.Alloca name ty align) good there = one_alloca u h name align ty good there
  one u h (Instr.Binary r op flags ty a b) good there = absurd good
  one u h (Instr.Icmp r pred ty a b) good there = absurd good
  one u h (Instr.Select r k a b) good there = absurd good
  one u h (Instr.Cast r op nneg a to) good there = absurd good
  one u h (Instr.Load r ty p align) good there = absurd good
  one u h (Instr.Store a p align) good there = absurd good
  one u h (Instr.Gep r inbounds ty p indices) good there = absurd good
  one u h (Instr.Call r must_tail ty callee args) good there = absurd good

  behind_makes : (u : State) (i : Instr) → IsGoodAlloca i → IsMaking u from label
      → IsMaking (behind_alloca g u i) from label × ((behind_alloca g u i).top.at ≡ u.top.at + 1)
      × (f (behind_alloca g u i) ≡ f u)
  behind_makes u (Instr.Alloca name ty align) good h =
      (record { runs = h.runs; mode = h.mode; entry_block = h.entry_block }, refl, refl)
  behind_makes u (Instr.Binary r op flags ty a b) good h = absurd good
  behind_makes u (Instr.Icmp r pred ty a b) good h = absurd good
  behind_makes u (Instr.Select r k a b) good h = absurd good
  behind_makes u (Instr.Cast r op nneg a to) good h = absurd good
  behind_makes u (Instr.Load r ty p align) good h = absurd good
  behind_makes u (Instr.Store a p align) good h = absurd good
  behind_makes u (Instr.Gep r inbounds ty p indices) good h = absurd good
  behind_makes u (Instr.Call r must_tail ty callee args) good h = absurd good

  -- it stands there already
  stays : (z : State) → IsMaking z from label
      → at_point (with_mode z (Mode.Entering from label)) (record { block = 0; at = z.top.at }) ≡ z
  stays z h j = record z { top = record z.top { mode = sym h.mode j; block = sym h.entry_block j } }

  -- an alloca in front of another one
  pub one_more : (u : State) → IsMaking u from label → (i k : Instr) → IsGoodAlloca i → IsGoodAlloca k
      → fetch (f u) 0 u.top.at ≡ AtInstr i → fetch (f u) 0 (u.top.at + 1) ≡ AtInstr k
      → framed_step g u ≡ behind_alloca g u i
  one_more u h i k good next there behind =
      let z : State = behind_alloca g u i in
      one u h i good there
      ∙ ap (λ (o : Option ℕ). enter_after g z from label (option_map (λ (n : ℕ). record { block = 0; at = n }) o))
      (alloca_there (slice_get (f u).blocks 0) (u.top.at + 1) k next behind)
      ∙ ap (λ (n : ℕ). at_point (with_mode z (Mode.Entering from label)) (record { block = 0; at = n }))
      (sym (behind_makes u i good h).1)
      ∙ stays z (behind_makes u i good h).0

  -- the last one
  pub last_one : (u : State) → IsMaking u from label → (i : Instr) → IsGoodAlloca i
      → fetch (f u) 0 u.top.at ≡ AtInstr i → alloca_from (f u) (u.top.at + 1) ≡ None
      → framed_step g u ≡ entered g (behind_alloca g u i) from label
  last_one u h i good there none =
      one u h i good there ∙ ap (enter_after g (behind_alloca g u i) from label) none

  -- ---- allocas up to another one

  pub up_to_next : (u : State) → IsMaking u from label → (is : List Instr) (k : Instr) → Each IsGoodAlloca is
      → IsGoodAlloca k → StandAt (f u) 0 u.top.at (is ++ k ∷ []) → (n : ℕ) → n ≤ length is
      → iterate (framed_step g) n u ≡ behind_allocas g u (take n is)
  up_to_next u h [] k good next stand zero le = refl
  up_to_next u h [] k good next stand (suc n) le = absurd (omega (arith, le))
  up_to_next u h (i ∷ is) k good next stand zero le = refl
  up_to_next u h (i ∷ is) k good next stand (suc n) le =
      let b = behind_makes u i good.0 h in
      ap (iterate (framed_step g) n)
      (one_more u h i (second k is) good.0 (second_good is good.1) stand.0 (second_there is stand.1))
      ∙ up_to_next (behind_alloca g u i) b.0 is k good.1 next
      (subst (λ (p : ℕ). StandAt (f (behind_alloca g u i)) 0 p (is ++ k ∷ [])) (sym b.1)
      (subst (λ (q : Function). StandAt q 0 (u.top.at + 1) (is ++ k ∷ [])) (sym b.2) stand.1)) n (omega (arith, le))
    where
      second_good : (js : List Instr) → Each IsGoodAlloca js → IsGoodAlloca (second k js)
      second_good [] e = next
      second_good (j ∷ js) e = e.0

      second_there : (js : List Instr) → StandAt (f u) 0 (u.top.at + 1) (js ++ k ∷ [])
          → fetch (f u) 0 (u.top.at + 1) ≡ AtInstr (second k js)
      second_there [] e = e.0
      second_there (j ∷ js) e = e.0

  pub all_made : (u : State) → IsMaking u from label → (is : List Instr) → Each IsGoodAlloca is
      → IsMaking (behind_allocas g u is) from label × ((behind_allocas g u is).top.at ≡ u.top.at + length is)
      × (f (behind_allocas g u is) ≡ f u)
  all_made u h [] good = (h, let e : u.top.at ≡ u.top.at + 0 = omega arith in e, refl)
  all_made u h (i ∷ is) good =
      let b = behind_makes u i good.0 h in
      let m = all_made (behind_alloca g u i) b.0 is good.1 in
      let at : u.top.at + 1 + length is ≡ u.top.at + suc (length is) = omega arith in
      (m.0, m.1 ∙ ap (λ (n : ℕ). n + length is) b.1 ∙ at, m.2 ∙ b.2)

  -- all that are left, behind the last of which the label is entered
  pub to_the_last : (u : State) → IsMaking u from label → (is : List Instr) (k : Instr) → Each IsGoodAlloca is
      → IsGoodAlloca k → StandAt (f u) 0 u.top.at (is ++ k ∷ [])
      → alloca_from (f u) (u.top.at + length is + 1) ≡ None
      → iterate (framed_step g) (suc (length is)) u
      ≡ entered g (behind_alloca g (behind_allocas g u is) k) from label
  to_the_last u h is k good next stand none =
      let z : State = behind_allocas g u is in
      let m = all_made u h is good in
      more (framed_step g) (length is) u
      ∙ ap (framed_step g)
      (up_to_next u h is k good next stand (length is) (omega arith) ∙ ap (behind_allocas g u) (take_all is))
      ∙ last_one z m.0 k next
      (ap (λ (q : Function). fetch q 0 z.top.at) m.2 ∙ ap (fetch (f u) 0) m.1 ∙ last_there u.top.at is stand)
      (ap (λ (q : Function). alloca_from q (z.top.at + 1)) m.2 ∙ ap (λ (n : ℕ). alloca_from (f u) (n + 1)) m.1
      ∙ none)
    where
      more : (step : State → State) (n : ℕ) (v : State) → iterate step (suc n) v ≡ step (iterate step n v)
      more step zero v = refl
      more step (suc n) v = more step n (step v)

      take_all : (js : List Instr) → take (length js) js ≡ js
      take_all [] = refl
      take_all (j ∷ js) = ap (λ (ks : List Instr). j ∷ ks) (take_all js)

      last_there : (at : ℕ) (js : List Instr) → StandAt (f u) 0 at (js ++ k ∷ [])
          → fetch (f u) 0 (at + length js) ≡ AtInstr k
      last_there at [] e = let same : at + 0 ≡ at = omega arith in ap (fetch (f u) 0) same ∙ e.0
      last_there at (j ∷ js) e =
          let same : at + suc (length js) ≡ at + 1 + length js = omega arith in
          ap (fetch (f u) 0) same ∙ last_there (at + 1) js e.1
