-- The facts that both runs look up of a function.
use Rattle.std.proofs.Common.{◌≡◌, ℕ, zero, suc, List, [], ◌∷◌, map, Option, Some, None, refl, sym, ap, ◌∙◌, subst}
use Rattle.std.specs.Prelude.{slice_get, unwrap_or}
use Rattle.run_types.specs.ir_model.Names.{function_at, no_function}
use Rattle.run_types.specs.ir_model.declared.instr.Instr.{Instr}
use Rattle.run_types.specs.ir_model.declared.module.Function.{Function}
use Rattle.run_types.specs.ir_model.declared.module.Module.{Module}
use Rattle.run_types.proofs.ir_paths.Right.{facts_of_right}
use Rattle.run_types.specs.ir_paths.Facts.{AreFactsOf, all_facts, facts_of}
use Rattle.run_types.specs.ir_paths.declared.point.Facts.{Facts}
use Rattle.run_types.specs.run_source_tables.Given.{facts_at}
use Rattle.run_types.specs.run_step.Step.{AtInstr, fetch}
use Rattle.run_types.specs.pass_renewed_proof.Renewed.{Flags, facts_from, renewed_facts}

-- ---- lists

abbrev pub none : Facts
none = record { windows = []; ramp_slots = [] }

plain_found : (fs : List Function) (func : ℕ) (f : Function) → slice_get fs func ≡ Some f
    → slice_get (map facts_of fs) func ≡ Some (facts_of f)
plain_found [] func f e = absurd (cc)
plain_found (x ∷ fs) zero f e = let is : x ≡ f = cc in ap (λ z. Some (facts_of z)) is
plain_found (x ∷ fs) (suc func) f e = plain_found fs func f e

pub plain_missing : (fs : List Function) (func : ℕ) → slice_get fs func ≡ None → slice_get (map facts_of fs) func ≡ None
plain_missing [] func e = refl
plain_missing (x ∷ fs) zero e = absurd (cc)
plain_missing (x ∷ fs) (suc func) e = plain_missing fs func e

renewed_found : (flags : Flags) (fs : List Function) (func : ℕ) (f : Function) → slice_get fs func ≡ Some f
    → slice_get (facts_from flags fs) func ≡ Some (renewed_facts (flags func) f (facts_of f))
renewed_found flags [] func f e = absurd (cc)
renewed_found flags (x ∷ fs) zero f e = let is : x ≡ f = cc in ap (λ z. Some (renewed_facts (flags 0) z (facts_of z))) is
renewed_found flags (x ∷ fs) (suc func) f e = renewed_found (λ k. flags (suc k)) fs func f e

renewed_missing : (flags : Flags) (fs : List Function) (func : ℕ) → slice_get fs func ≡ None
    → slice_get (facts_from flags fs) func ≡ None
renewed_missing flags [] func e = refl
renewed_missing flags (x ∷ fs) zero e = absurd (cc)
renewed_missing flags (x ∷ fs) (suc func) e = renewed_missing (λ k. flags (suc k)) fs func e

-- ---- a function in which something stands is one of the module's

pub is_there : (m : Module) (func block at : ℕ) (i : Instr) → fetch (function_at m func) block at ≡ AtInstr i
    → slice_get m.functions func ≡ Some (function_at m func)
is_there m func block at i here = on (slice_get m.functions func) refl
  where
    on : (o : Option Function) → slice_get m.functions func ≡ o → slice_get m.functions func ≡ Some (function_at m func)
    on (Some f) e = e ∙ ap Some (sym (ap (λ z. unwrap_or z no_function) e))
    on None e =
        let none : fetch (unwrap_or None no_function) block at ≡ AtInstr i = ap (λ z. fetch (unwrap_or z no_function) block at) (sym e)
        ∙ here in
        absurd (cc)

pub plain_facts : (m : Module) (func : ℕ) → slice_get m.functions func ≡ Some (function_at m func)
    → facts_at (all_facts m) func ≡ facts_of (function_at m func)
plain_facts m func there = ap (λ z. unwrap_or z none) (plain_found m.functions func (function_at m func) there)

-- they are those of the function
pub facts_are : (m : Module) (func : ℕ) → slice_get m.functions func ≡ Some (function_at m func)
    → AreFactsOf (function_at m func) (facts_at (all_facts m) func)
facts_are m func there = subst (AreFactsOf (function_at m func)) (sym (plain_facts m func there)) (facts_of_right
    (function_at m func))

-- in the second run with the slots that are made anew
pub renewed_are : (m : Module) (flags : Flags) (func : ℕ) → slice_get m.functions func ≡ Some (function_at m func)
    → facts_at (facts_from flags m.functions) func ≡ renewed_facts (flags func) (function_at m func) (facts_at (all_facts
    m) func)
renewed_are m flags func there = ap (λ z. unwrap_or z none) (renewed_found flags m.functions func (function_at m func)
    there) ∙ ap (renewed_facts (flags func) (function_at m func)) (sym (plain_facts m func there))

-- windows are the same in both
pub same_windows : (m : Module) (flags : Flags) (func : ℕ) → (facts_at (facts_from flags m.functions) func).windows ≡
    (facts_at (all_facts m) func).windows
same_windows m flags func = on (slice_get m.functions func) refl
  where
    on : (o : Option Function) → slice_get m.functions func ≡ o → (facts_at (facts_from flags m.functions) func).windows ≡
        (facts_at (all_facts m) func).windows
    on (Some f) e = ap (λ z. (unwrap_or z none).windows) (renewed_found flags m.functions func f e) ∙ sym (ap (λ z.
        (unwrap_or z none).windows) (plain_found m.functions func f e))
    on None e = ap (λ z. (unwrap_or z none).windows) (renewed_missing flags m.functions func e) ∙ sym (ap (λ z.
        (unwrap_or z none).windows) (plain_missing m.functions func e))
