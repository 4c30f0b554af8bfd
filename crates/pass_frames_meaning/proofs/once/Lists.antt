-- Slots of a called activation, or of its instance, each of its own alloca.
use Rattle.std.proofs.Common.{◌≡◌, ◌≢◌, inl, inr, ℕ, ◌<◌, ◌+◌, Bool, true, false, List, [], ◌∷◌, ◌++◌}
use Rattle.std.proofs.Common.{refl, sym, ap, ◌∙◌, subst, arith}
use Rattle.std.specs.List.{Contains}
use Rattle.std.specs.Prelude.{filter, if◌then◌else◌}
use Rattle.pass_frames_proof.specs.flow_solver.Paths.{IsListed}
use Rattle.pass_frames_proof.specs.ir_model.Ty.{Ty}
use Rattle.pass_frames_proof.specs.ir_model.declared.instr.Instr.{Instr}
use Rattle.pass_frames_proof.specs.ir_model.declared.module.Function.{Function}
use Rattle.pass_frames_proof.proofs.lines.Cells.{contained}
use Rattle.pass_frames_meaning.specs.Once.{AreMadeOnce, AreOfOthers, AreOnce, ArePassed, IsPassed}
use Rattle.pass_frames_proof.specs.pass_renewed_proof.SlotRules.{IsMadeOnce}
use Rattle.pass_frames_proof.specs.pass_renewed_proof.Steps.{given_at}
use Rattle.pass_frames_proof.specs.run_step.Step.{AtInstr, fetch}
use Rattle.pass_frames_proof.specs.run_step.declared.world.Slot.{Slot}

-- ---- no two of one alloca

other_listed : (name : ℕ) (ss : List Slot) → AreOfOthers name ss → (o : Slot) → IsListed o ss → o.alloca ≢ name
other_listed name [] h o l = absurd l
other_listed name (s ∷ ss) h o (inl e) = λ same. h.0 (ap (λ (z : Slot). z.alloca) (sym e) ∙ same)
other_listed name (s ∷ ss) h o (inr l) = other_listed name ss h.1 o l

same_listed : (ss : List Slot) → AreOnce ss → (a b : Slot) → IsListed a ss → IsListed b ss → a.alloca ≡ b.alloca
    → a.block ≡ b.block
same_listed [] h a b l m e = absurd l
same_listed (s ∷ ss) h a b (inl c) (inl d) e = ap (λ (z : Slot). z.block) (c ∙ sym d)
same_listed (s ∷ ss) h a b (inl c) (inr m) e =
    absurd (other_listed s.alloca ss h.0 b m (sym e ∙ ap (λ (z : Slot). z.alloca) c))
same_listed (s ∷ ss) h a b (inr l) (inl d) e =
    absurd (other_listed s.alloca ss h.0 a l (e ∙ ap (λ (z : Slot). z.alloca) d))
same_listed (s ∷ ss) h a b (inr l) (inr m) e = same_listed ss h.1 a b l m e

pub same_block : (slots : List Slot) → AreOnce slots → (one other : Slot) → Contains slots one → Contains slots other
    → one.alloca ≡ other.alloca → one.block ≡ other.block
same_block slots h one other c d =
    same_listed slots h one other (contained slots one c) (contained slots other d)

-- ---- those of one class

some_others : (name : ℕ) (p : Slot → Bool) (ss : List Slot) → AreOfOthers name ss → AreOfOthers name (filter p ss)
some_others name p [] h = tt
some_others name p (s ∷ ss) h = on (p s) (some_others name p ss h.1)
  where
    on : (b : Bool) → AreOfOthers name (filter p ss) → AreOfOthers name (if b then s ∷ filter p ss else filter p ss)
    on true k = (h.0, k)
    on false k = k

some_once : (p : Slot → Bool) (ss : List Slot) → AreOnce ss → AreOnce (filter p ss)
some_once p [] h = tt
some_once p (s ∷ ss) h = on (p s) (some_once p ss h.1)
  where
    on : (b : Bool) → AreOnce (filter p ss) → AreOnce (if b then s ∷ filter p ss else filter p ss)
    on true k = (some_others s.alloca p ss h.0, k)
    on false k = k

module _ (f : Function) (block at : ℕ) where
  some_passed : (p : Slot → Bool) (ss : List Slot) → ArePassed f block at ss → ArePassed f block at (filter p ss)
  some_passed p [] h = tt
  some_passed p (s ∷ ss) h = on (p s) (some_passed p ss h.1)
    where
      on : (b : Bool) → ArePassed f block at (filter p ss)
          → ArePassed f block at (if b then s ∷ filter p ss else filter p ss)
      on true k = (h.0, k)
      on false k = k

  pub some_made : (p : Slot → Bool) (slots : List Slot) → AreMadeOnce f block at slots
      → AreMadeOnce f block at (filter p slots)
  some_made p slots h = record { once = some_once p slots h.once; passed = some_passed p slots h.passed }

  -- ---- at another point

  moved_passed : (to k : ℕ) → ((name : ℕ) → IsPassed f block at name → IsPassed f to k name) → (ss : List Slot)
      → ArePassed f block at ss → ArePassed f to k ss
  moved_passed to k go [] h = tt
  moved_passed to k go (s ∷ ss) h = (go s.alloca h.0, moved_passed to k go ss h.1)

  one_more : (x y : ℕ) → x < y → x < y + 1
  one_more x y lt = omega (arith, lt)

  pub next_made : (slots : List Slot) → AreMadeOnce f block at slots → AreMadeOnce f block (at + 1) slots
  next_made slots h = record {
    once = h.once;
    passed = moved_passed block (at + 1) (λ name k made zero_block. one_more made.at at (k made zero_block)) slots
        h.passed;
  }

  pub left_made : (slots : List Slot) → AreMadeOnce f block at slots → (to k : ℕ) → to ≢ 0 → AreMadeOnce f to k slots
  left_made slots h to k apart = record {
    once = h.once;
    passed = moved_passed to k (λ name q made zero_block. absurd (apart zero_block)) slots h.passed;
  }

  -- ---- at an alloca

  module _ (name : ℕ) (ty : Ty) (align : ℕ) (there : fetch f block at ≡ AtInstr (Instr.Alloca name ty align)) where
    here : (made : IsMadeOnce f name) → (block ≡ 0) × (at ≡ made.at)
    here made = made.alone block at (ap given_at there)

    not_passed : IsMadeOnce f name → IsPassed f block at name → ⊥
    not_passed made passed =
        let low : made.at < at = passed made (here made).0 in
        let same : at ≡ made.at = (here made).1 in
        absurd (omega (arith, low, same))

    others_there : IsMadeOnce f name → (ss : List Slot) → ArePassed f block at ss → AreOfOthers name ss
    others_there made [] h = tt
    others_there made (s ∷ ss) h =
        (λ same. not_passed made (subst (IsPassed f block at) same h.0), others_there made ss h.1)

    at_next : (made : IsMadeOnce f name) → made.at < at + 1
    at_next made =
        let same : at ≡ made.at = (here made).1 in
        omega (arith, same)

    pub fresh_there : (slots : List Slot) → AreMadeOnce f block at slots → IsMadeOnce f name → (other : Slot)
        → Contains slots other → other.alloca ≢ name
    fresh_there slots h made other c =
        other_listed name slots (others_there made slots h.passed) other (contained slots other c)

  pub placed_made : (slots : List Slot) → AreMadeOnce f block at slots → (slot : Slot) (ty : Ty) (align : ℕ)
      → fetch f block at ≡ AtInstr (Instr.Alloca slot.alloca ty align) → IsMadeOnce f slot.alloca
      → AreMadeOnce f block (at + 1) (slot ∷ slots)
  placed_made slots h slot ty align there made = record {
    once = (others_there slot.alloca ty align there made slots h.passed, h.once);
    passed = (λ again zero_block. at_next slot.alloca ty align there again, (next_made slots h).passed);
  }

  -- what the activation or its instance gets of a new slot, and of the slots that it has at begin
  pub placed_some : (p : Slot → Bool) (slots : List Slot) → AreMadeOnce f block at slots → (slot : Slot) (ty : Ty)
      (align : ℕ) → fetch f block at ≡ AtInstr (Instr.Alloca slot.alloca ty align) → IsMadeOnce f slot.alloca
      → AreMadeOnce f block (at + 1) (filter p (slot ∷ []) ++ slots)
  placed_some p slots h slot ty align there made = on (p slot)
    where
      on : (b : Bool) → AreMadeOnce f block (at + 1) ((if b then slot ∷ [] else []) ++ slots)
      on true = placed_made slots h slot ty align there made
      on false = next_made slots h

  pub begun_some : (p : Slot → Bool) (slots : List Slot) → AreMadeOnce f block at slots
      → AreMadeOnce f block at (filter p slots ++ [])
  begun_some p slots h = subst (AreMadeOnce f block at) (sym (joined_none (filter p slots))) (some_made p slots h)
    where
      joined_none : (ss : List Slot) → ss ++ [] ≡ ss
      joined_none [] = refl
      joined_none (s ∷ ss) = ap (λ (zs : List Slot). s ∷ zs) (joined_none ss)
