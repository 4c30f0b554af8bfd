-- The rules of a framed form say that the allocas in front of its entry have alignments that there are (Y4).
use Rattle.std.proofs.Common.{◌≡◌, ◌+◌, ◌∷◌, [], Bool, List, Some, arith, false, refl, subst, suc, true, ℕ}
use Rattle.std.specs.Prelude.{filter, if◌then◌else◌, slice_get, ◌==◌, ◌||◌}
use Rattle.pass_frames_steps.proofs.ir_laws.facts.Members.{at_each}
use Rattle.pass_frames_steps.proofs.ir_laws.facts.Truth.{and_second, holds}
use Rattle.pass_frames_steps.proofs.ir_laws.paths.renamed.Uses.{stands_in}
use Rattle.pass_frames_steps.specs.ir_model.Layout.{size_of}
use Rattle.pass_frames_steps.specs.ir_model.Ty.{Ty}
use Rattle.pass_frames_steps.specs.ir_model.declared.instr.Instr.{Instr}
use Rattle.pass_frames_steps.specs.ir_model.declared.module.Function.{Function}
use Rattle.pass_frames_steps.specs.ir_model.declared.module.Module.{Module}
use Rattle.pass_frames_steps.specs.ir_paths.Windows.{instr_at}
use Rattle.pass_frames_steps.specs.ir_paths.declared.point.Point.{Point}
use Rattle.pass_frames_steps.specs.Entered.{IsAlloca}
use Rattle.pass_frames_steps.specs.pass_front.Front.{is_alloca}
use Rattle.pass_frames_steps.proofs.rule_laws.rules.counted.PartFacts.{block_passes}
use Rattle.pass_frames_steps.specs.rule_laws.rules.function_rules.Kept.{KeepsFunctionRules}
use Rattle.pass_frames_steps.specs.rule_locals.Extents.{breaks_extents, is_aligned, is_sized}
use Rattle.pass_frames_steps.specs.rule_locals.Instrs.{on_instr}
use Rattle.pass_frames_steps.specs.rule_names.declared.stage.Stage.{Stage}
use Rattle.pass_frames_steps.specs.run_laws.changed.Changed.{Each}
use Rattle.pass_frames_steps.specs.run_step.Step.{is_alignment}

bracketed : (a b c d e : Bool) → (a || (b || (c || (d || e)))) ≡ true → (a || b || c || d || e) ≡ true
bracketed true b c d e h = refl
bracketed false true c d e h = refl
bracketed false false true d e h = refl
bracketed false false false true e h = refl
bracketed false false false false e h = h

alignment : (n : ℕ) → is_aligned n ≡ true → is_alignment n ≡ true
alignment n h = bracketed (n == 1) (n == 2) (n == 4) (n == 8) (n == 16) h

-- what is filtered are allocas
pub are_allocas : (js : List Instr) → Each (λ (j : Instr). is_alloca j ≡ true) (filter is_alloca js)
are_allocas [] = tt
are_allocas (j ∷ js) = on (is_alloca j) refl (are_allocas js)
  where
    on : (b : Bool) → is_alloca j ≡ b → Each (λ (i : Instr). is_alloca i ≡ true) (filter is_alloca js)
        → Each (λ (i : Instr). is_alloca i ≡ true) (if b then j ∷ filter is_alloca js else filter is_alloca js)
    on true e rest = (e, rest)
    on false e rest = rest

module _ (m : Module) (k : ℕ) (f : Function) (rules : KeepsFunctionRules m k f) where
  abbrev at_entry : ℕ → Point
  at_entry n = record { block = 0; at = n }

  aligned : (at name align : ℕ) (ty : Ty) → instr_at f (at_entry at) ≡ Some (Instr.Alloca name ty align)
      → is_alignment align ≡ true
  aligned at name align ty e =
      let i : Instr = Instr.Alloca name ty align in
      let x = stands_in f (at_entry at) i e in
      let y = at_each _ x.block.instrs at i
      (block_passes (on_instr (breaks_extents Stage.Source m)) k f rules.local.extents 0 x.block x.got).instrs
      x.stands in
      alignment align (and_second (is_sized 1048576 (size_of m ty)) (is_aligned align) (holds _ y.2))

  one : (at : ℕ) (j : Instr) → is_alloca j ≡ true → instr_at f (at_entry at) ≡ Some j → IsAlloca j
  one at (Instr.Alloca name ty align) up e =
      record { name = name; ty = ty; align = align; is = refl; alignment = aligned at name align ty e }
  one at _ up e = absurd (cc)

  -- a row of them in an entry, from a position on
  pub all_aligned : (from : ℕ) (js : List Instr) → Each (λ (j : Instr). is_alloca j ≡ true) js
      → ((i : ℕ) (j : Instr) → slice_get js i ≡ Some j → instr_at f (at_entry (from + i)) ≡ Some j)
      → Each IsAlloca js
  all_aligned from [] ups h = tt
  all_aligned from (j ∷ js) ups h = (
    one (from + 0) j ups.0 (h 0 j refl),
    all_aligned (from + 1) js ups.1 (λ i u e.
        let same : from + suc i ≡ from + 1 + i = omega arith in
        subst (λ (n : ℕ). instr_at f (at_entry n) ≡ Some u) same (h (suc i) u e)),
  )
