-- Where a marker stands in a function that is no coroutine, its alloca stands before it (rules K13, F2 and F3).
use Rattle.std.proofs.Common.{◌≡◌, ⊎_elim, ℕ, zero, suc, ◌+◌, ◌<◌, ◌≤◌, Bool, true, false, List, [], ◌∷◌, ◌||◌}
use Rattle.std.proofs.Common.{length, Option, Some, refl, sym, ap, ◌∙◌, subst, arith}
use Rattle.std.proofs.lemmas.Bool.{cases_lt}
use Rattle.std.specs.Prelude.{slice_get, ◌==◌}
use Rattle.compiler.proofs.ir_laws.facts.Lists.{get_within}
use Rattle.compiler.proofs.ir_laws.facts.Truth.{itself}
use Rattle.compiler.proofs.ir_laws.paths.renamed.Uses.{stands_in}
use Rattle.compiler.specs.ir_model.Names.{is_local}
use Rattle.compiler.specs.ir_model.Ty.{Ty}
use Rattle.compiler.specs.ir_model.declared.instr.Instr.{Instr}
use Rattle.compiler.specs.ir_model.declared.module.Block.{Block}
use Rattle.compiler.specs.ir_model.declared.module.Function.{Function}
use Rattle.compiler.specs.ir_model.declared.module.Module.{Module}
use Rattle.compiler.specs.ir_model.declared.operand.Arg.{Arg}
use Rattle.compiler.specs.ir_model.declared.operand.Operand.{Operand}
use Rattle.compiler.specs.ir_model.declared.operand.Intrinsic.{Intrinsic}
use Rattle.compiler.proofs.ir_paths.Search.{or_left, or_right}
use Rattle.compiler.specs.ir_paths.Slots.{allocas_of, has_name}
use Rattle.compiler.specs.ir_paths.Windows.{instr_in}
use Rattle.pass_frames_meaning.specs.pass_frames_proof.Marking.{marking}
use Rattle.compiler.specs.pass_kept_proof.Crossing.{IsDefinite, IsReachedWithout, after_without, first_without}
use Rattle.compiler.specs.pass_kept_proof.Needed.{given_by, reads_at}
use Rattle.compiler.proofs.pass_proofs.early.save_simulation.Suspending.{fetch_at}
use Rattle.pass_frames_meaning.specs.pass_renewed_proof.SlotRules.{IsMadeOnce}
use Rattle.pass_frames_meaning.specs.pass_renewed_proof.Steps.{given_at}
use Rattle.compiler.proofs.rule_laws.rules.sources.Places.{instr_there, point}
use Rattle.compiler.specs.rule_laws.rules.function_rules.Kept.{KeepsFunctionRules}
use Rattle.run_accepted.proofs.Alive.{listed}
use Rattle.run_accepted.proofs.Marks.{marks_alloca}
use Rattle.pass_frames_meaning.specs.run_hooks.alive.Alive.{IsEnd, IsStart, MarksAlloca}
use Rattle.compiler.specs.run_step.Step.{AtInstr, fetch}

pub there_at : {A : Type 0} (xs : List A) (i : ℕ) → i < length xs → (x : A) × (slice_get xs i ≡ Some x)
there_at [] i lt = absurd (omega (arith, lt))
there_at (x ∷ xs) zero lt = (x, refl)
there_at (x ∷ xs) (suc i) lt = there_at xs i (omega (arith, lt))

-- an instruction stands before each other one of a block
earlier : (f : Function) (block n m : ℕ) (i : Instr) → fetch f block m ≡ AtInstr i → n < m
    → (j : Instr) × (fetch f block n ≡ AtInstr j)
earlier f block n m i e lt =
    let x = stands_in f (point block m) i (instr_there f block m i e) in
    let low : m < length x.block.instrs = get_within x.block.instrs m i x.stands in
    let y = there_at x.block.instrs n (omega (arith, lt, low)) in
    (y.0, fetch_at f (point block n) y.0 (ap (λ (o : Option Block). instr_in o n) x.got ∙ y.1))

-- ---- a marker uses its alloca

module _ (starts must_tail : Bool) (ty : Option Ty) (size : Arg) (u : Ty) (name : ℕ) where
  abbrev i : Instr
  i = marking starts must_tail ty size u name

  pub marker_reads : reads_at name (AtInstr (marking starts must_tail ty size u name)) ≡ true
  marker_reads = on starts
    where
      second : (is_local name size.value || ((name == name) || false)) ≡ true
      second = or_right (is_local name size.value) _ (or_left (name == name) false (itself name))

      on : (b : Bool) → reads_at name (AtInstr (marking b must_tail ty size u name)) ≡ true
      on true = second
      on false = second

  module _ (m : Module) (k : ℕ) (f : Function) (rules : KeepsFunctionRules m k f) (block at : ℕ)
      (there : fetch f block at ≡ AtInstr (marking starts must_tail ty size u name)) where
    takes : MarksAlloca f (marking starts must_tail ty size u name)
    takes = on starts there
      where
        on : (b : Bool) → fetch f block at ≡ AtInstr (marking b must_tail ty size u name)
            → MarksAlloca f (marking b must_tail ty size u name)
        on true e = marks_alloca m k f rules Intrinsic.LifetimeStart IsStart (point block at)
            (marking true must_tail ty size u name) e refl
        on false e = marks_alloca m k f rules Intrinsic.LifetimeEnd IsEnd (point block at)
            (marking false must_tail ty size u name) e refl

    -- K13: it is one
    pub marks_slot : has_name (allocas_of f) name ≡ true
    marks_slot = subst (λ (v : ℕ). has_name (allocas_of f) v ≡ true) same (listed f takes.alloca takes.made)
      where
        same : takes.alloca ≡ name
        same = let e : Operand.Local name ≡ Operand.Local takes.alloca = takes.takes in cc

    -- F2
    pub marks_behind : IsDefinite f → (made : IsMadeOnce f name) → block ≡ 0 → made.at < at
    marks_behind definite made e = ⊎_elim (λ lt. lt) (λ le. absurd (early le)) (cases_lt made.at at)
      where
        not_given : (n : ℕ) → suc n ≤ made.at → (j : Instr) → fetch f 0 n ≡ AtInstr j → given_by j ≡ Some name → ⊥
        not_given n le j d g =
            let same : n ≡ made.at = (made.alone 0 n (ap given_at d ∙ g)).1 in
            omega (arith, le, same)

        reached : (n : ℕ) → n ≤ made.at → IsReachedWithout f name 0 n
        reached zero le = first_without made.no_param (made.no_phi 0)
        reached (suc n) le =
            let x = earlier f 0 n made.at (Instr.Alloca name made.ty made.align) made.stands (omega (arith, le)) in
            let next : n + 1 ≡ suc n = omega arith in
            subst (IsReachedWithout f name 0) next
            (after_without x.0 x.1 (not_given n le x.0 x.1) (reached n (omega (arith, le))))

        early : at ≤ made.at → ⊥
        early le =
            let here : fetch f 0 at ≡ AtInstr (marking starts must_tail ty size u name) =
            ap (λ (b : ℕ). fetch f b at) (sym e) ∙ there in
            definite.uses name 0 at (reached at le) (ap (reads_at name) here ∙ marker_reads)
