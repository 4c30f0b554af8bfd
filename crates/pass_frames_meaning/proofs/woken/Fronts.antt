-- Allocas in front of a framed form's entry: alignments that there are, names of their own, and begin's is none of
-- them.
use Rattle.std.proofs.Common.{◌≡◌, inl, inr, ℕ, zero, suc, ◌+◌, ◌<◌, List, [], ◌∷◌, length, Some, refl, sym, ap, ◌∙◌, subst, arith}
use Rattle.std.specs.Prelude.{slice_get}
use Rattle.pass_frames_proof.specs.flow_solver.Paths.{IsListed}
use Rattle.pass_frames_proof.specs.ir_laws.paths.woven_rules.Pairs.{AreDifferent}
use Rattle.pass_frames_proof.specs.ir_model.Ty.{Ty}
use Rattle.pass_frames_proof.specs.ir_model.declared.instr.Instr.{Instr}
use Rattle.pass_frames_proof.specs.ir_paths.Slots.{allocas_in}
use Rattle.pass_frames_proof.specs.pass_frames.Framed.{begin_of}
use Rattle.pass_frames_meaning.proofs.led.Begins.{HasBegin, has_begin}
use Rattle.pass_frames_meaning.specs.Led.{IsBegin}
use Rattle.pass_frames_meaning.specs.Setting.{Setting}
use Rattle.pass_frames_meaning.specs.Woken.{IsWakeable}
use Rattle.pass_frames_proof.proofs.ramps.Behind.{AreEntryAllocas}
use Rattle.pass_frames_proof.proofs.ramps.Front.{entry_front}
use Rattle.pass_frames_proof.proofs.ramps.Rules.{entry_allocas}
use Rattle.pass_frames_proof.proofs.returning.Behind.{stand_before}
use Rattle.pass_frames_proof.specs.Entered.{IsAlloca, names_in}
use Rattle.pass_frames_proof.specs.Entering.{IsGoodAlloca, front_allocas}
use Rattle.pass_frames_proof.specs.Framings.{IsFraming}
use Rattle.pass_frames_proof.specs.Places.{Framing, framed}
use Rattle.pass_frames_proof.specs.Ramps.{entry_stores}
use Rattle.pass_frames_proof.specs.Waking.{AreFrontsGood}
use Rattle.pass_frames_proof.proofs.rule_laws.rules.source_rules.Locals.{same_instr}
use Rattle.pass_frames_proof.proofs.rule_laws.rules.sources.Places.{instr_there, point}
use Rattle.pass_frames_proof.specs.run_laws.access.Lines.{StandAt}
use Rattle.pass_frames_proof.specs.run_laws.changed.Changed.{Each}
use Rattle.pass_frames_proof.specs.run_step.Step.{AtInstr, fetch}
use Rattle.pass_frames_proof.specs.ir_model.declared.module.Function.{Function}

-- ---- their names

same_names : (js : List Instr) (ups : Each IsAlloca js) → names_in js ups ≡ allocas_in js
same_names [] ups = refl
same_names (j ∷ js) ups =
    ap (λ (ns : List ℕ). ups.0.name ∷ ns) (same_names js ups.1)
    ∙ sym (ap (λ (i : Instr). allocas_in (i ∷ js)) ups.0.is)

all_good : (js : List Instr) → Each IsAlloca js → Each IsGoodAlloca js
all_good [] ups = tt
all_good (j ∷ js) ups = (subst IsGoodAlloca (sym ups.0.is) ups.0.alignment, all_good js ups.1)

all_low : (n : ℕ) (js : List Instr) (ups : Each IsAlloca js)
    → Each (λ (j : Instr). (a : IsAlloca j) → a.name < n) js → (v : ℕ) → IsListed v (names_in js ups) → v < n
all_low n [] ups lows v l = absurd l
all_low n (j ∷ js) ups lows v (inl e) = subst (λ (u : ℕ). u < n) (sym e) (lows.0 ups.0)
all_low n (j ∷ js) ups lows v (inr l) = all_low n js ups.1 lows.1 v l

-- the alloca of a name
pub record HasAlloca (js : List Instr) (v : ℕ) : Type 0 where
  pub at : ℕ
  pub ty : Ty
  pub align : ℕ
  pub there : slice_get js at ≡ Some (Instr.Alloca v ty align)

named_at : (js : List Instr) (ups : Each IsAlloca js) (v : ℕ) → IsListed v (names_in js ups) → HasAlloca js v
named_at [] ups v l = absurd l
named_at (j ∷ js) ups v (inl e) = record {
  at = 0;
  ty = ups.0.ty;
  align = ups.0.align;
  there = ap Some (ups.0.is ∙ ap (λ (n : ℕ). Instr.Alloca n ups.0.ty ups.0.align) (sym e));
}
named_at (j ∷ js) ups v (inr l) =
    let more = named_at js ups.1 v l in
    record { at = suc more.at; ty = more.ty; align = more.align; there = more.there }

pub standing : (f : Function) (k at : ℕ) (js : List Instr) → StandAt f k at js → (n : ℕ) (i : Instr)
    → slice_get js n ≡ Some i → fetch f k (at + n) ≡ AtInstr i
standing f k at [] h n i e = absurd (cc)
standing f k at (j ∷ js) h zero i e =
    let same : j ≡ i = cc in
    let here : at + 0 ≡ at = omega arith in
    ap (fetch f k) here ∙ h.0 ∙ ap AtInstr same
standing f k at (j ∷ js) h (suc n) i e =
    let here : at + suc n ≡ at + 1 + n = omega arith in
    ap (fetch f k) here ∙ standing f k (at + 1) js h.1 n i e

module _ (c : Setting) (func : ℕ) (x : Framing) (is : IsFraming x) (w : IsWakeable c func x) where
  pub allocas : AreEntryAllocas c.b.framed_code x
  allocas = entry_allocas c.b.framed_code func x is w.entry w.rules

  -- each of them stands there
  pub fronts_stand : StandAt (framed x) 0 0 (front_allocas x)
  fronts_stand = stand_before (framed x) 0 0 (front_allocas x) (entry_stores x) (entry_front x is w.entry).stand

  pub front_named : (v : ℕ) → IsListed v (allocas_in (front_allocas x)) → HasAlloca (front_allocas x) v
  front_named v l = named_at (front_allocas x) allocas.allocas v
      (subst (IsListed v) (sym (same_names (front_allocas x) allocas.allocas)) l)

  -- an alloca is no begin
  no_begin : IsListed (begin_of x.function) (allocas_in (front_allocas x)) → ⊥
  no_begin l =
      let v : ℕ = begin_of x.function in
      let a = front_named v l in
      let b : HasBegin (framed x) v = has_begin (framed x) v w.framed_begins in
      let i : Instr = Instr.Alloca v a.ty a.align in
      let same : i ≡ b.instr = same_instr func (framed x) w.rules.rules.definitions (point 0 (0 + a.at)) b.point i
      b.instr v
      (instr_there (framed x) 0 (0 + a.at) i (standing (framed x) 0 0 (front_allocas x) fronts_stand a.at i a.there))
      b.there refl b.gives in
      subst IsBegin (sym same) b.begins

  pub fronts_good : AreFrontsGood x
  fronts_good = record {
    good = all_good (front_allocas x) allocas.allocas;
    different = subst AreDifferent (same_names (front_allocas x) allocas.allocas) allocas.once;
    low = λ v l. all_low (length (framed x).names) (front_allocas x) allocas.allocas allocas.low v
        (subst (IsListed v) (sym (same_names (front_allocas x) allocas.allocas)) l);
    no_begin = no_begin;
  }
