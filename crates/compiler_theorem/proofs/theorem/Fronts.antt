-- The allocas of entries stand first in a framed form.
use Rattle.std.proofs.Common.{◌≡◌, ⊎_elim, ℕ, ◌<◌, ◌+◌, zero, suc, Bool, true, false, List, [], ◌∷◌, length, refl, sym, ap, ◌∙◌, subst, arith}
use Rattle.std.specs.Prelude.{Some, filter, slice_get, if◌then◌else◌}
use Rattle.compiler_theorem.specs.theorem.Lowered.{AreAllocasFirst, HasAllocasFirst}
use Rattle.compiler.specs.frame_layout.declared.layout.Layouts.{Layouts}
use Rattle.compiler.proofs.ir_laws.facts.Lists.{below, in_front, of_row}
use Rattle.compiler.proofs.ir_laws.facts.Truth.{not_both}
use Rattle.compiler.specs.ir_model.declared.instr.Instr.{Instr}
use Rattle.compiler.specs.ir_model.declared.module.Block.{Block}
use Rattle.compiler.specs.ir_model.declared.module.Function.{Function}
use Rattle.compiler.specs.ir_model.declared.module.Module.{Module}
use Rattle.compiler.specs.pass_frames.Framed.{IsFramedForm}
use Rattle.compiler.specs.pass_front.Front.{allocas_first, is_alloca, is_no_alloca, with_allocas_first, with_front_allocas}
use Rattle.compiler.proofs.pass_proofs.frames.unnamed.Positions.{Becomes, FramedBy, Unchanged, stands_as}
use Rattle.compiler.specs.run_step.Effects.{is_alloca as is_slot}

-- what is filtered passes the test
passed : {A : Type 0} (t : A → Bool) (xs : List A) (j : ℕ) (x : A) → slice_get (filter t xs) j ≡ Some x → t x ≡ true
passed t [] j x e = absurd (cc)
passed {A = A} t (y ∷ ys) j x e = on (t y) refl (passed t ys) j e
  where
    on : (b : Bool) → t y ≡ b → ((k : ℕ) (z : A) → slice_get (filter t ys) k ≡ Some z → t z ≡ true) → (k : ℕ)
        → slice_get (if b then y ∷ filter t ys else filter t ys) k ≡ Some x → t x ≡ true
    on true p more zero d = let same : y ≡ x = cc in ap t (sym same) ∙ p
    on true p more (suc k) d = more k x d
    on false p more k d = more k x d

-- what stands before an alloca is one
before_alloca : (is : List Instr) (j k : ℕ) (i x : Instr) → slice_get (in_front is) j ≡ Some i
    → slice_get (in_front is) k ≡ Some x → is_alloca x ≡ true → j < k → is_alloca i ≡ true
before_alloca is j k i x at_j at_k alloca before = ⊎_elim
    (λ (a : slice_get (filter is_alloca is) j ≡ Some i). passed is_alloca is j i a)
    (λ (b : (n : ℕ) × ((slice_get (filter is_no_alloca is) n ≡ Some i) × (j ≡ length (filter is_alloca is) + n))).
    ⊎_elim
    (λ (c : slice_get (filter is_alloca is) k ≡ Some x).
    let low = below (filter is_alloca is) k x c in
    let at = b.1.1 in
    absurd (omega (arith, low, at, before)))
    (λ (d : (n : ℕ) × ((slice_get (filter is_no_alloca is) n ≡ Some x) × (k ≡ length (filter is_alloca is) + n))).
    let other = passed is_no_alloca is d.0 x d.1.0 in
    let no : true ≡ false = sym other ∙ ap (λ (t : Bool). if t then false else true) alloca in
    absurd (cc))
    (of_row (filter is_alloca is) (filter is_no_alloca is) k x at_k))
    (of_row (filter is_alloca is) (filter is_no_alloca is) j i at_j)

in_entry : (bs : List Block) (b : Block) (j k : ℕ) (i x : Instr) → slice_get (with_allocas_first bs) 0 ≡ Some b
    → slice_get b.instrs j ≡ Some i → slice_get b.instrs k ≡ Some x → is_alloca x ≡ true → j < k → is_alloca i ≡ true
in_entry [] b j k i x e at_j at_k alloca before = absurd (cc)
in_entry (c ∷ cs) b j k i x e at_j at_k alloca before =
    let same : allocas_first c ≡ b = cc in
    let row : b.instrs ≡ in_front c.instrs = ap (λ (d : Block). d.instrs) (sym same) in
    before_alloca c.instrs j k i x (subst (λ (is : List Instr). slice_get is j ≡ Some i) row at_j)
    (subst (λ (is : List Instr). slice_get is k ≡ Some x) row at_k) alloca before

-- both tests say the same
same_test : (i : Instr) → is_slot i ≡ is_alloca i
same_test (Instr.Alloca r t a) = refl
same_test _ = refl

moved_first : (f : Function) → HasAllocasFirst (with_front_allocas f)
moved_first f = record {
  first = λ b j k i x e at_j at_k alloca before.
      same_test i ∙ in_entry f.blocks b j k i x e at_j at_k (sym (same_test x) ∙ alloca) before;
}

pub allocas_stand_first : (layouts : Layouts) (m n : Module) → IsFramedForm layouts m n → AreAllocasFirst n
allocas_stand_first layouts m n form k g there coroutine =
    let framed = form.functions.framed in
    let x = stands_as m layouts.coroutines form.functions.count m.functions n.functions framed k g there in
    by x.source g x.becomes coroutine
  where
    by : (f h : Function) → Becomes m layouts.coroutines f h → h.coroutine ≡ true → HasAllocasFirst h
    by f _ (Unchanged plain) c = absurd (not_both f.coroutine plain c)
    by f h (FramedBy taken _ marked framed) c = subst HasAllocasFirst (sym framed.is) (moved_first _)
