-- A marker of a slot that may be made anew: what it takes, and where it stands.
use Rattle.std.proofs.Common.{◌≡◌, ℕ, zero, suc, Bool, true, false, List, [], ◌∷◌, Option, refl, sym, ap, ◌∙◌}
use Rattle.std.proofs.Common.{replicate, if◌then◌else◌}
use Rattle.std.proofs.lemmas.Bool.{false≢true}
use Rattle.pass_kept_proof.specs.ir_model.Ty.{Ty}
use Rattle.pass_kept_proof.specs.ir_model.declared.instr.Instr.{Instr}
use Rattle.pass_kept_proof.specs.ir_model.declared.module.Function.{Function}
use Rattle.pass_kept_proof.specs.ir_model.declared.module.Module.{Module}
use Rattle.pass_kept_proof.specs.ir_model.declared.operand.Arg.{Arg}
use Rattle.pass_kept_proof.specs.ir_model.declared.operand.Callee.{Callee}
use Rattle.pass_kept_proof.specs.ir_model.declared.operand.Intrinsic.{Intrinsic}
use Rattle.pass_kept_proof.specs.ir_model.declared.operand.Operand.{Operand}
use Rattle.pass_kept_proof.specs.ir_paths.Windows.{call_operand, operand_at}
use Rattle.pass_kept_proof.specs.ir_paths.declared.point.Point.{Point}
use Rattle.pass_kept_proof.specs.run_memory.Memory.{ended, is_killed, is_live, started}
use Rattle.pass_kept_proof.specs.run_memory.declared.block.Byte.{Byte}
use Rattle.pass_kept_proof.specs.run_memory.declared.block.Life.{Life}
use Rattle.pass_kept_proof.specs.run_memory.declared.block.MemoryBlock.{MemoryBlock}
use Rattle.pass_kept_proof.specs.run_step.Step.{AtInstr, fetch}
use Rattle.pass_kept_proof.specs.run_step.Values.{Env, arg_values, nth, value_in}
use Rattle.pass_renewed_proof.proofs.Marked.{IsMark}
use Rattle.pass_renewed_proof.proofs.Shown.{undefined_shown}
use Rattle.pass_renewed_proof.proofs.Way.{same_instr}
use Rattle.pass_renewed_proof.specs.Places.{IsBlank}
use Rattle.pass_renewed_proof.specs.Shown.{AreShownBytes}
use Rattle.pass_renewed_proof.specs.SlotRules.{IsMarkerAt}

-- ---- what becomes of a block

module _ (x : MemoryBlock) where
  abbrev by_end : Bool → MemoryBlock
  by_end t = if t then x else record x { life = Life.Ended }

  abbrev by_start : Bool → MemoryBlock
  by_start t = if t then x else record x { life = Life.Live; bytes = replicate x.size Byte.Undefined }

  end_size : (t : Bool) → (if t then x else record x { life = Life.Ended }).size ≡ x.size
  end_size true = refl
  end_size false = refl

  end_align : (t : Bool) → (if t then x else record x { life = Life.Ended }).align ≡ x.align
  end_align true = refl
  end_align false = refl

  end_kind : (t : Bool) → (if t then x else record x { life = Life.Ended }).kind ≡ x.kind
  end_kind true = refl
  end_kind false = refl

  start_kind : (t : Bool)
      → (if t then x else record x { life = Life.Live; bytes = replicate x.size Byte.Undefined }).kind ≡ x.kind
  start_kind true = refl
  start_kind false = refl

  end_shown : (hides : ℕ → Bool) (t : Bool) → AreShownBytes hides x.bytes
      → AreShownBytes hides (if t then x else record x { life = Life.Ended }).bytes
  end_shown hides true h = h
  end_shown hides false h = h

  start_size : (t : Bool)
      → (if t then x else record x { life = Life.Live; bytes = replicate x.size Byte.Undefined }).size ≡ x.size
  start_size true = refl
  start_size false = refl

  start_align : (t : Bool)
      → (if t then x else record x { life = Life.Live; bytes = replicate x.size Byte.Undefined }).align ≡ x.align
  start_align true = refl
  start_align false = refl

  start_shown : (hides : ℕ → Bool) (t : Bool) → AreShownBytes hides x.bytes
      → AreShownBytes hides (if t then x else record x {
        life = Life.Live;
        bytes = replicate x.size Byte.Undefined;
      }).bytes
  start_shown hides true h = h
  start_shown hides false h = undefined_shown hides x.size

  end_dead : (y : Life) → x.life ≡ y → is_live (ended x).life ≡ false
  end_dead Life.Live e = ap (λ t. is_live (by_end t).life) (ap is_killed e)
  end_dead Life.Ended e = ap (λ t. is_live (by_end t).life) (ap is_killed e)
  end_dead Life.Killed e = ap (λ t. is_live (by_end t).life) (ap is_killed e) ∙ ap is_live e

  -- where it lives it holds nothing
  start_blank : (y : Life) → x.life ≡ y → is_live (started x).life ≡ true → IsBlank (started x)
  start_blank Life.Live e live = ap (λ t. (by_start t).bytes) (ap is_killed e) ∙ ap (λ n. replicate n Byte.Undefined)
      (sym (start_size (is_killed x.life)))
  start_blank Life.Ended e live = ap (λ t. (by_start t).bytes) (ap is_killed e) ∙ ap (λ n. replicate n Byte.Undefined)
      (sym (start_size (is_killed x.life)))
  start_blank Life.Killed e live = absurd (false≢true (sym (ap (λ t. is_live (by_start t).life) (ap is_killed e)
      ∙ ap is_live e) ∙ live))

pub ends : IsMark ended
ends = record {
  size = λ x. end_size x (is_killed x.life);
  align = λ x. end_align x (is_killed x.life);
  kind = λ x. end_kind x (is_killed x.life);
  gone = λ x h. ap (λ t. is_killed (if t then x else record x { life = Life.Ended }).life) h ∙ h;
  shown = λ hides x h. end_shown x hides (is_killed x.life) h;
}

pub starts : IsMark started
starts = record {
  size = λ x. start_size x (is_killed x.life);
  align = λ x. start_align x (is_killed x.life);
  kind = λ x. start_kind x (is_killed x.life);
  gone = λ x h. ap (λ t. is_killed (if t then x else record x {
    life = Life.Live;
    bytes = replicate x.size
        Byte.Undefined;
  }).life) h ∙ h;
  shown = λ hides x h. start_shown x hides (is_killed x.life) h;
}

pub ended_dead : (x : MemoryBlock) → is_live (ended x).life ≡ false
ended_dead x = end_dead x x.life refl

pub started_blank : (x : MemoryBlock) → is_live (started x).life ≡ true → IsBlank (started x)
started_blank x live = start_blank x x.life refl live

-- ---- what it takes

pub marked_value : (m : Module) (env : Env) (args : List Arg) (k slot : ℕ) → operand_at args k ≡ Operand.Local slot
    → nth (arg_values m env args) k ≡ value_in env slot
marked_value m env [] k slot e = absurd (cc)
marked_value m env (a ∷ args) zero slot e = on a.value e
  where
    on : (x : Operand) → x ≡ Operand.Local slot → nth (arg_values m env (record { ty = a.ty; value = x } ∷ args)) 0 ≡
        value_in env slot
    on (Operand.Local v) h = let same : v ≡ slot = cc in ap (value_in env) same
    on (Operand.Global n) h = absurd (cc)
    on (Operand.Number z) h = absurd (cc)
    on Operand.True h = absurd (cc)
    on Operand.False h = absurd (cc)
    on Operand.Null h = absurd (cc)
    on Operand.None h = absurd (cc)
    on Operand.Poison h = absurd (cc)
marked_value m env (a ∷ args) (suc k) slot e = marked_value m env args k slot e

-- a marker at the place is one of this slot
pub marks_alone : (f : Function) (p : Point) (marker other : Intrinsic) (slot al : ℕ) (result : Option ℕ) (must_tail :
    Bool) (ty : Option Ty) (args : List Arg)
    → fetch f p.block p.at ≡ AtInstr (Instr.Call result must_tail ty (Callee.Intrinsic marker) args)
    → operand_at args 1 ≡ Operand.Local slot → IsMarkerAt f other al p → al ≡ slot
marks_alone f p marker other slot al result must_tail ty args here takes x =
    let same = same_instr x.instr (Instr.Call result must_tail ty (Callee.Intrinsic marker) args) (sym x.stands ∙ here) in
    let both : Operand.Local slot ≡ Operand.Local al = sym takes ∙ ap (λ i. call_operand i 1) (sym same) ∙ x.takes in
    cc
