-- What is needed behind a reached suspend crosses it.
use Rattle.std.proofs.Common.{◌≡◌, ℕ, ◌+◌, ◌⊎◌, inl, inr, ⊎_elim, Bool, true, false, List, Option, Some, None, refl, sym, ap, subst, ℤ}
use Rattle.std.specs.Prelude.{IsTrue, slice_get}
use Rattle.std.proofs.lemmas.Bool.{cases_eq}
use Rattle.pass_kept_proof.specs.SuspendRules.{AllKeepSuspendRules, KeepsSuspendRules, IsCallAt, IsGivenBy, KeepsNeeded}
use Rattle.pass_kept_proof.specs.Crossing.{AreDefinite, Crosses, IsDefinedBefore, IsDefinite, IsReachedWithout, KeepsCrossing, LeadsTo, across, after_without, along_without, by_instr, by_param, by_phi, first_without, is_param, is_remade, over, there}
use Rattle.pass_kept_proof.specs.Kept.{Keep, KeptAt}
use Rattle.pass_kept_proof.specs.Needed.{BranchesTo, IsNeeded, IsNeededBehind, IsReached, PassesBy, after, along, enter, first, given_by, next, phi, phis_at, phis_give, read}
use Rattle.pass_kept_proof.proofs.Main.{kept_agrees}
use Rattle.pass_kept_proof.proofs.Walks.{saves_enough}
use Rattle.run_agreement.specs.Agreements.{AgreesWithin}
use Rattle.ir_base.specs.declared.outcome.Word.{Word}
use Rattle.run_source.specs.Source.{SourceAt}
use Rattle.ir_model.specs.Names.{function_at, position_of}
use Rattle.ir_model.specs.declared.instr.Instr.{Instr}
use Rattle.ir_model.specs.declared.module.Frame.{Frame}
use Rattle.ir_model.specs.declared.module.Function.{Function}
use Rattle.ir_model.specs.declared.module.Module.{Module}
use Rattle.ir_model.specs.declared.operand.Intrinsic.{Intrinsic}
use Rattle.ir_paths.specs.declared.point.Point.{Point}
use Rattle.run_step.specs.Step.{AtInstr, AtTerm, Fetched, Nowhere, fetch, phis_of}

-- a path with one edge more
more_over : (f : Function) (block at : ℕ) (i : Instr) → fetch f block at ≡ AtInstr i → {b a : ℕ} → LeadsTo f block at b a → LeadsTo f block (at + 1) b a
more_over f block at i e there = over i e there
more_over f block at i e (over j k l) = over j k (more_over f block at i e l)
more_over f block at i e (across label k l) = across label k (more_over f block at i e l)

more_across : (f : Function) (block at label : ℕ) → BranchesTo label (fetch f block at) → {b a : ℕ} → LeadsTo f block at b a → LeadsTo f (position_of f label) 0 b a
more_across f block at label e there = across label e there
more_across f block at label e (over j k l) = over j k (more_across f block at label e l)
more_across f block at label e (across label' k l) = across label' k (more_across f block at label e l)

defined_over : (f : Function) (v block at : ℕ) (i : Instr) → fetch f block at ≡ AtInstr i → IsDefinedBefore f v block at → IsDefinedBefore f v block (at + 1)
defined_over f v block at i e (by_param h l) = by_param h (more_over f block at i e l)
defined_over f v block at i e (by_instr b a h l) = by_instr b a h (more_over f block at i e l)
defined_over f v block at i e (by_phi b h l) = by_phi b h (more_over f block at i e l)

defined_across : (f : Function) (v block at label : ℕ) → BranchesTo label (fetch f block at) → IsDefinedBefore f v block at → IsDefinedBefore f v (position_of f label) 0
defined_across f v block at label e (by_param h l) = by_param h (more_across f block at label e l)
defined_across f v block at label e (by_instr b a h l) = by_instr b a h (more_across f block at label e l)
defined_across f v block at label e (by_phi b h l) = by_phi b h (more_across f block at label e l)

is_given : (o : Option ℕ) (v : ℕ) → (o ≡ Some v) ⊎ (o ≡ Some v → ⊥)
is_given None v = inr (λ e. absurd (cc))
is_given (Some u) v = ⊎_elim (λ e. inl (ap Some e)) (λ ne. inr (λ (e : Some u ≡ Some v). ne (cc))) (cases_eq u v)

-- a reached point is reached without the definition, or it stands before
pub split : (f : Function) (v : ℕ) {block at : ℕ} → IsReached f block at → IsReachedWithout f v block at ⊎ IsDefinedBefore f v block at
split f v first = on (is_param f v) (phis_give v (phis_of (slice_get f.blocks 0))) refl refl
  where
    on : (b c : Bool) → is_param f v ≡ b → phis_give v (phis_of (slice_get f.blocks 0)) ≡ c → IsReachedWithout f v 0 0 ⊎ IsDefinedBefore f v 0 0
    on true c e d = inr (by_param e there)
    on false true e d = inr (by_phi 0 d there)
    on false false e d = inl (first_without e d)
split f v (after {block} {at} i e r) = on (split f v r) (is_given (given_by i) v)
  where
    on : IsReachedWithout f v block at ⊎ IsDefinedBefore f v block at → (given_by i ≡ Some v) ⊎ (given_by i ≡ Some v → ⊥) → IsReachedWithout f v block (at + 1) ⊎ IsDefinedBefore f v block (at + 1)
    on (inl w) (inl g) = inr (by_instr block at (subst (λ (x : Fetched). IsGivenBy x v) (sym e) g) (over i e there))
    on (inl w) (inr ng) = inl (after_without i e ng w)
    on (inr d) g = inr (defined_over f v block at i e d)
split f v (along {block} {at} label b r) = on (split f v r) (phis_give v (phis_at f label)) refl
  where
    on : IsReachedWithout f v block at ⊎ IsDefinedBefore f v block at → (c : Bool) → phis_give v (phis_at f label) ≡ c → IsReachedWithout f v (position_of f label) 0 ⊎ IsDefinedBefore f v (position_of f label) 0
    on (inl w) true e = inr (by_phi (position_of f label) e there)
    on (inl w) false e = inl (along_without label b e w)
    on (inr d) c e = inr (defined_across f v block at label b d)

-- what is needed isn't reached without its definition
pub not_without : (f : Function) (v : ℕ) → IsDefinite f → {block at : ℕ} → IsNeeded f v block at → IsReachedWithout f v block at → ⊥
not_without f v d (read {block} {at} h) w = d.uses v block at w h
not_without f v d (next {block} {at} h n) w = not_without f v d n (on (fetch f block at) refl h)
  where
    on : (x : Fetched) → fetch f block at ≡ x → PassesBy v x → IsReachedWithout f v block (at + 1)
    on Nowhere e p = absurd p
    on (AtInstr i) e p = after_without i e p.1 w
    on (AtTerm t) e p = absurd p
not_without f v d (phi {block} {at} label b h) w = d.phi_uses v block at label w b h
not_without f v d (enter label b h n) w = not_without f v d n (along_without label b h w)

pub needed_crosses : (f : Function) → KeepsSuspendRules f → IsDefinite f → (s : Point) (v : ℕ) → IsReached f s.block s.at → IsCallAt Intrinsic.CoroSuspend f s → IsNeededBehind f s v → IsTrue (is_remade f v) ⊎ Crosses f s v
needed_crosses f ok d s v r c n = on (is_remade f v) refl (split f v r)
  where
    on : (b : Bool) → is_remade f v ≡ b → IsReachedWithout f v s.block s.at ⊎ IsDefinedBefore f v s.block s.at → IsTrue (is_remade f v) ⊎ Crosses f s v
    on true e k = inl e
    on false e (inl w) = absurd (not_without f v d ((saves_enough f ok).itself s c v n) w)
    on false e (inr k) = inr (record { not_remade = e; defined = k; needed = n })

pub crossing_is_enough : (m : Module) (keep : Keep) → AllKeepSuspendRules m → AreDefinite m → KeepsCrossing m keep → KeepsNeeded m keep
crossing_is_enough m keep ok d k = λ func s v r c n. (k.each func s v c).1 (needed_crosses (function_at m func) (ok func) (d.each func) s v r c n)

pub crossing_agrees : (m : Module) (keep : Keep) (sizes : List Frame) (entry : ℕ) (args : List Word) (answers : List ℤ) → AllKeepSuspendRules m → AreDefinite m → KeepsCrossing m keep → AgreesWithin 1 (SourceAt m sizes entry args answers) (KeptAt m keep sizes entry args answers)
crossing_agrees m keep sizes entry args answers ok d k = kept_agrees m keep sizes entry args answers ok (crossing_is_enough m keep ok d k)
