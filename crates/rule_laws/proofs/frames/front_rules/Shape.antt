-- Lemmas on shape, that speak of no pass.
use Rattle.std.proofs.Common.{◌≡◌, ◌+◌, Bool, true, false, List, [], ◌∷◌, ◌++◌, ap, refl, sym, ◌∙◌}
use Rattle.std.specs.Prelude.{filter, if◌then◌else◌}
use Rattle.ir_laws.specs.pass_front.Front.{allocas_first, is_alloca, is_no_alloca, with_allocas_first, with_front_allocas}
use Rattle.pass_intrinsics.specs.Shapes.{suspends_of, with_suspend, with_suspends_by, with_suspends_in}
use Rattle.pass_intrinsics.specs.declared.shape.SuspendPoint.{SuspendPoint}
use Rattle.ir_laws.specs.ir_model.declared.instr.Instr.{Instr}
use Rattle.ir_laws.specs.ir_model.declared.module.Block.{Block}
use Rattle.ir_laws.specs.ir_model.declared.module.Function.{Function}

-- ---- the suspends

no_suspend : (all : List SuspendPoint) (b : Block) (i : Instr) → is_alloca i ≡ true → with_suspend all b i ≡ all
no_suspend all b (Instr.Alloca r ty align) e = refl
no_suspend all b _ e = absurd (cc)

one_suspend : (all : List SuspendPoint) (b : Block) (i : Instr) → with_suspend all (allocas_first b) i ≡ with_suspend all b i
one_suspend all b i = refl

module _ (b : Block) where
  suspends_skip : (all : List SuspendPoint) (is rest : List Instr) → with_suspends_in all (allocas_first b) (filter is_alloca is ++ rest) ≡ with_suspends_in all (allocas_first b) rest
  suspends_skip all [] rest = refl
  suspends_skip all (i ∷ is) rest = on (is_alloca i) refl (suspends_skip all is rest)
    where
      on : (t : Bool) → is_alloca i ≡ t → with_suspends_in all (allocas_first b) (filter is_alloca is ++ rest) ≡ with_suspends_in all (allocas_first b) rest → with_suspends_in all (allocas_first b) ((if t then i ∷ filter is_alloca is else filter is_alloca is) ++ rest) ≡ with_suspends_in all (allocas_first b) rest
      on true e more = ap (λ (ps : List SuspendPoint). with_suspends_in ps (allocas_first b) (filter is_alloca is ++ rest)) (no_suspend all (allocas_first b) i e) ∙ more
      on false e more = more

  suspends_others : (all : List SuspendPoint) (is : List Instr) → with_suspends_in all (allocas_first b) (filter is_no_alloca is) ≡ with_suspends_in all b is
  suspends_others all [] = refl
  suspends_others all (i ∷ is) = on (is_alloca i) refl (λ ps. suspends_others ps is)
    where
      on : (t : Bool) → is_alloca i ≡ t → ((ps : List SuspendPoint) → with_suspends_in ps (allocas_first b) (filter is_no_alloca is) ≡ with_suspends_in ps b is) → with_suspends_in all (allocas_first b) (if (if t then false else true) then i ∷ filter is_no_alloca is else filter is_no_alloca is) ≡ with_suspends_in (with_suspend all b i) b is
      on true e more = more all ∙ sym (ap (λ (ps : List SuspendPoint). with_suspends_in ps b is) (no_suspend all b i e))
      on false e more = ap (λ (ps : List SuspendPoint). with_suspends_in ps (allocas_first b) (filter is_no_alloca is)) (one_suspend all b i) ∙ more (with_suspend all b i)

suspends_by : (bs : List Block) → with_suspends_by [] (with_allocas_first bs) ≡ with_suspends_by [] bs
suspends_by [] = refl
suspends_by (b ∷ bs) = ap (λ (ps : List SuspendPoint). with_suspends_by ps bs) (suspends_skip b [] b.instrs (filter is_no_alloca b.instrs) ∙ suspends_others b [] b.instrs)

pub same_suspends : (f : Function) → suspends_of (with_front_allocas f) ≡ suspends_of f
same_suspends f = suspends_by f.blocks
