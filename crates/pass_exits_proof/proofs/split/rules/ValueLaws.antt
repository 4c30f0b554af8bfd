-- Operands and results fit their types (rule Y1) in the parts of a coroutine and in what becomes of a function that is none.
use Rattle.std.proofs.Common.{◌≡◌, ◌⊎◌, inl, inr, ℕ, Bool, true, false, List, [], ◌∷◌, length, refl, sym, ap, ◌∙◌, subst, arith}
use Rattle.std.proofs.lemmas.List.Folds.{list_all-append}
use Rattle.std.specs.List.{list_all}
use Rattle.std.specs.Prelude.{None, Option, Some, is_some, not, ◌&&◌, ◌||◌}
use Rattle.pass_fetch_proof.specs.ir_base.declared.outcome.Place.{Place}
use Rattle.pass_split.specs.Parts.{given_params, plain_of, plain_shape}
use Rattle.pass_fetch_proof.proofs.rule_laws.rules.local_rules.Carried.{passing}
use Rattle.pass_fetch_proof.proofs.rule_laws.rules.local_rules.Fitting.{either, no_either}
use Rattle.pass_fetch_proof.proofs.rule_laws.rules.local_rules.Names.{numbers}
use Rattle.pass_fetch_proof.proofs.ir_laws.facts.Truth.{and_both, and_first, and_second, holds, first_no}
use Rattle.pass_fetch_proof.proofs.rule_laws.rules.local_rules.Woven.{apart_names}
use Rattle.pass_fetch_proof.proofs.ir_laws.paths.source_rules.Locals.{Apart}
use Rattle.pass_fetch_proof.proofs.rule_laws.rules.source_rules.Locals.{names_are}
use Rattle.pass_fetch_proof.specs.frame_layout.declared.layout.Layout.{Layout}
use Rattle.pass_fetch_proof.specs.ir_parts.Locals.{locals_of}
use Rattle.pass_fetch_proof.specs.ir_parts.Parts.{Ending, OfInstr, OfPhi, Part as FunctionPart, Signature, first_part, function_place, parts_of}
use Rattle.pass_fetch_proof.specs.rule_laws.rules.function_rules.Kept.{KeepsFunctionRules, KeepsFunctionRulesAt}
use Rattle.pass_fetch_proof.specs.pass_intrinsics.Cuts.{goes_on}
use Rattle.pass_fetch_proof.specs.pass_intrinsics.Shapes.{first_name, given_name, shape_of}
use Rattle.pass_fetch_proof.specs.pass_intrinsics.declared.shape.Part.{Part}
use Rattle.pass_fetch_proof.specs.pass_intrinsics.declared.shape.Shape.{Shape}
use Rattle.ir_model.specs.Calls.{first_result}
use Rattle.ir_model.specs.Ty.{Ty, ptr}
use Rattle.ir_model.specs.declared.instr.Instr.{Instr}
use Rattle.ir_model.specs.declared.instr.Phi.{Phi}
use Rattle.ir_model.specs.declared.instr.Terminator.{Terminator}
use Rattle.ir_model.specs.declared.module.Function.{Function}
use Rattle.ir_model.specs.declared.module.Module.{Module}
use Rattle.ir_model.specs.declared.module.Param.{Param}
use Rattle.ir_model.specs.declared.operand.Intrinsic.{Intrinsic}
use Rattle.pass_fetch_proof.specs.rule_locals.Instrs.{on_instr}
use Rattle.pass_fetch_proof.specs.rule_locals.Intrinsics.{calls_inner, misplaces}
use Rattle.pass_fetch_proof.specs.rule_names.Known.{first_unknown, is_label, is_value, names_unknown}
use Rattle.pass_fetch_proof.specs.rule_names.declared.stage.Stage.{Stage}
use Rattle.pass_fetch_proof.specs.rule_laws.frames.same_names.Parts.{HasPartsOf}
use Rattle.pass_exits_proof.proofs.split.rules.Carried.{part_all, part_carried, plain_all, plain_carried}
use Rattle.pass_exits_proof.proofs.split.rules.Instructions.{no_saves}
use Rattle.pass_exits_proof.proofs.split.rules.NewKinds.{index_below, index_literal, nothing_more, part_kinds, plain_kinds, plain_small, switch_fits}
use Rattle.pass_fetch_proof.proofs.rule_laws.rules.replaced.OwnKinds.{MakesIn, PhiMakesIn, own_kinds, own_params, value_is}
use Rattle.pass_exits_proof.proofs.split.rules.PartKinds.{AreNewKinds, both_all, kinds_become, old_same}
use Rattle.pass_fetch_proof.proofs.rule_laws.rules.replaced.PartValues.{misfits}
use Rattle.pass_exits_proof.proofs.split.rules.PartValues.{values_carried}
use Rattle.pass_fetch_proof.proofs.rule_laws.rules.replaced.Passed.{IsAll, Passes, PassingBlock, blocks_pass}
use Rattle.pass_fetch_proof.proofs.rule_laws.frames.replaced.Saves.{saves_below}
use Rattle.pass_fetch_proof.proofs.rule_laws.rules.replaced.Values.{values_now}
use Rattle.pass_fetch_proof.specs.rule_laws.frames.replaced.Kinds.{kinds_with, part_kind, plain_kind}
use Rattle.pass_exits_proof.specs.split.rules.Parted.{IsCleanup, IsDestroy, IsGivenRamp, IsPartOf, IsRamp, IsResume}
use Rattle.pass_fetch_proof.specs.rule_laws.frames.replaced.Parted.{IsSmall}
use Rattle.pass_fetch_proof.specs.rule_laws.rules.replaced.Returns.{ReturnsNothing}
use Rattle.pass_fetch_proof.specs.run_laws.changed.Changed.{Each}
use Rattle.pass_fetch_proof.specs.rule_types.Signatures.{calls_otherwise}
use Rattle.pass_fetch_proof.specs.rule_values.Kinds.{kind_of, value_kind}
use Rattle.pass_fetch_proof.specs.rule_values.Values.{breaks_values, first_wrong_value, fits_signature, has_scalar, is_scalar_or_void}
use Rattle.pass_fetch_proof.specs.rule_values.declared.kinds.Kind.{Kind}
use Rattle.pass_fetch_proof.proofs.ir_laws.facts.Members.{each_joined, each_turns}

-- ---- what is asked of the function

module _ (stage : Stage) (m : Module) (k : ℕ) (f : Function) (rules : KeepsFunctionRulesAt stage m k f) where
  names_apart : Apart (numbers f)
  names_apart = subst Apart (names_are k f) (apart_names [] (locals_of k f) rules.definitions)

  calls_pass : Each (PassingBlock (calls_otherwise m)) f.blocks
  calls_pass = blocks_pass (calls_otherwise m) k 0 f.blocks (passing (calls_otherwise m) (parts_of k f) rules.calls).1

  module _ (extra : Place → FunctionPart → Bool) (none : first_part extra (parts_of k f) ≡ None) where
    abbrev Told : Instr → Type 0
    Told i = MakesIn (value_kind f) i × Passes (either (calls_otherwise m) extra) (OfInstr i)

    told : Each (IsAll (PhiMakesIn (value_kind f)) Told (λ (t : Terminator). Unit {0})) f.blocks
    told =
        both_all (PhiMakesIn (value_kind f)) (λ (x : Phi). Passes (either (calls_otherwise m) extra) (OfPhi x)) (MakesIn (value_kind f)) (λ (i : Instr). Passes (either (calls_otherwise m) extra) (OfInstr i)) (λ (t : Terminator). Unit {0}) (λ (t : Terminator). Passes (either (calls_otherwise m) extra) (Ending t)) f.blocks
        (own_kinds f names_apart)
        (blocks_pass (either (calls_otherwise m) extra) k 0 f.blocks (passing (either (calls_otherwise m) extra) (parts_of k f) (no_either (calls_otherwise m) extra (parts_of k f) rules.calls none)).1)

    four : first_part (either (either (either (breaks_values m (value_kind f) f.result) (calls_otherwise m)) (names_unknown m (is_value k f) (is_label k f))) extra) (parts_of k f) ≡ None
    four =
        no_either (either (either (breaks_values m (value_kind f) f.result) (calls_otherwise m)) (names_unknown m (is_value k f) (is_label k f))) extra (parts_of k f)
        (no_either (either (breaks_values m (value_kind f) f.result) (calls_otherwise m)) (names_unknown m (is_value k f) (is_label k f)) (parts_of k f)
        (no_either (breaks_values m (value_kind f) f.result) (calls_otherwise m) (parts_of k f) rules.local.values rules.calls) rules.known) none

-- a signature that fits
signature_fits : (aside : Bool) (n : Module) (K : ℕ → Option Kind) (ty : Option Ty) (q : Place) (g : Function) → fits_signature g ≡ true → misfits aside n K ty q (Signature g) ≡ false
signature_fits aside n K ty q g e = ap (λ (t : Bool). not (aside && false) && not t) e ∙ none (not (aside && false))
  where
    none : (t : Bool) → (t && false) ≡ false
    none true = refl
    none false = refl

never : (xs : List (Place × FunctionPart)) → first_part nothing_more xs ≡ None
never [] = refl
never (x ∷ xs) = never xs

-- ---- the parts of a coroutine

part_result : (s : Shape) (part : Part) (f g : Function) → IsPartOf s f part g → (goes_on part ≡ true) ⊎ (g.result ≡ f.result)
part_result s _ f _ IsRamp = inr refl
part_result s _ f _ IsResume = inl refl
part_result s _ f _ IsDestroy = inl refl
part_result s _ f _ IsGivenRamp = inr refl
part_result s _ f _ IsCleanup = inl refl

part_void : (s : Shape) (part : Part) (f g : Function) → IsPartOf s f part g → goes_on part ≡ true → g.result ≡ None
part_void s _ f _ IsRamp e = absurd (cc)
part_void s _ f _ IsResume e = refl
part_void s _ f _ IsDestroy e = refl
part_void s _ f _ IsGivenRamp e = absurd (cc)
part_void s _ f _ IsCleanup e = refl

part_signature : (s : Shape) (part : Part) (f g : Function) → IsPartOf s f part g → fits_signature f ≡ true → fits_signature g ≡ true
part_signature s _ f _ IsRamp e = e
part_signature s _ f _ IsResume e = refl
part_signature s _ f _ IsDestroy e = refl
part_signature s _ f _ IsCleanup e = refl
part_signature s _ f _ IsGivenRamp e =
    and_both (is_scalar_or_void f.result) (list_all has_scalar (given_params s f)) (and_first (is_scalar_or_void f.result) (list_all has_scalar f.params) e)
    (list_all-append has_scalar f.params (record { ty = ptr; name = given_name s } ∷ []) ∙ and_both (list_all has_scalar f.params) true (and_second (is_scalar_or_void f.result) (list_all has_scalar f.params) e) refl)

part_params : (s : Shape) (part : Part) (f g : Function) → IsPartOf s f part g → (P : Param → Type 0) → Each P f.params → P (record { ty = ptr; name = s.begin }) → (part ≡ Part.GivenRamp → P (record { ty = ptr; name = given_name s })) → Each P g.params
part_params s _ f _ IsRamp P a b c = a
part_params s _ f _ IsGivenRamp P a b c = each_joined P f.params (record { ty = ptr; name = given_name s } ∷ []) a (c refl, tt)
part_params s _ f _ IsResume P a b c = (b, tt)
part_params s _ f _ IsDestroy P a b c = (b, tt)
part_params s _ f _ IsCleanup P a b c = (b, tt)

pub parts_values : (m n : Module) (k l : ℕ) (layout : Layout) (part : Part) (begin : ℕ) (f g : Function) → HasPartsOf m n → KeepsFunctionRules m k f → first_result Intrinsic.CoroBegin f ≡ Some begin → IsSmall (shape_of f layout) → IsPartOf (shape_of f layout) f part g → first_unknown n l g ≡ None → (goes_on part ≡ true → ReturnsNothing l g) → first_wrong_value n l g ≡ None
parts_values m n k l layout part begin f g h rules named small is known returns =
    values_now n l g K right (goes_on part) (part_void s part f g is)
    (part_carried s part (first_name s) old (misfits (goes_on part) n K g.result)
    (values_carried m n h k f s part (saves_below f layout) (first_name s) (part_kind s) nothing_more kinds small (index_literal f layout small) (goes_on part) g.result (part_result s part f g is)
    (λ e flags. switch_fits s flags part K (index_below f layout small) g.result (kinds.index e)) (part_void s part f g is))
    (omega arith) k l f g is signature (four Stage.Source m k f rules nothing_more (never (parts_of k f))))
    known returns
  where
    s : Shape
    s = shape_of f layout

    K : ℕ → Option Kind
    K = kinds_with f (part_kind (shape_of f layout))

    apart : Apart (numbers f)
    apart = names_apart Stage.Source m k f rules

    kinds : AreNewKinds f (shape_of f layout) part (first_name (shape_of f layout)) (part_kind (shape_of f layout)) nothing_more
    kinds = part_kinds m k f layout begin rules.tabled (names_apart Stage.Source m k f rules) named (calls_pass Stage.Source m k f rules) part

    old : Place → FunctionPart → Bool
    old = either (either (either (breaks_values m (value_kind f) f.result) (calls_otherwise m)) (names_unknown m (is_value k f) (is_label k f))) nothing_more

    signature : (p q : Place) → old p (Signature f) ≡ false → misfits (goes_on part) n K g.result q (Signature g) ≡ false
    signature p q e =
        signature_fits (goes_on part) n K g.result q g
        (part_signature s part f g is
        (holds (fits_signature f)
        (first_no (breaks_values m (value_kind f) f.result p (Signature f)) false
        (first_no (breaks_values m (value_kind f) f.result p (Signature f) || false) (names_unknown m (is_value k f) (is_label k f) p (Signature f))
        (first_no ((breaks_values m (value_kind f) f.result p (Signature f) || false) || names_unknown m (is_value k f) (is_label k f) p (Signature f)) false e)))))

    right : (v : ℕ) → is_some (value_kind g v) ≡ true → value_kind g v ≡ K v
    right v e =
        value_is K v g (λ (t : Terminator). Unit {0})
        (part_params s part f g is (λ (p : Param). Some (kind_of p.ty) ≡ K p.name)
        (each_turns (λ (p : Param). Some (kind_of p.ty) ≡ value_kind f p.name) (λ (p : Param). Some (kind_of p.ty) ≡ K p.name) (λ p d. old_same m f s part (saves_below f layout) (first_name s) (part_kind s) nothing_more kinds p.name (kind_of p.ty) d) f.params (own_params f apart))
        (sym (kinds.frame (function_place 0) None false None Intrinsic.CoroBegin [] refl refl))
        (λ d. sym (kinds.given d)))
        (part_all s part (first_name s) (PhiMakesIn (value_kind f)) (PhiMakesIn K) (λ (i : Instr). MakesIn (value_kind f) i × Passes (either (calls_otherwise m) nothing_more) (OfInstr i)) (MakesIn K) (λ (t : Terminator). Unit {0}) (λ (t : Terminator). Unit {0})
        (kinds_become m f s part (saves_below f layout) (first_name s) (part_kind s) nothing_more kinds) (omega arith) f g is (told Stage.Source m k f rules nothing_more (never (parts_of k f))))
        e

-- ---- a function that is no coroutine

pub plain_values : (stage : Stage) (m n : Module) (k l : ℕ) (f : Function) → HasPartsOf m n → f.coroutine ≡ false
    → KeepsFunctionRulesAt stage m k f → first_unknown n l (plain_of (plain_shape f) f) ≡ None → first_wrong_value n l (plain_of (plain_shape f) f) ≡ None
plain_values stage m n k l f h coroutine rules known =
    values_now n l g K right false (λ e. absurd (cc))
    (plain_carried s (length f.names) old (misfits false n K f.result)
    (values_carried m n h k f s Part.Ramp (no_saves f) (length f.names) plain_kind inner kinds (plain_small f) (λ j low. absurd (omega (arith, low))) false f.result (inr refl) (λ e flags. absurd (cc)) (λ e. absurd (cc)))
    (omega arith) k l f signature (four stage m k f rules inner none))
    known (λ e. absurd (cc))
  where
    s : Shape
    s = plain_shape f

    g : Function
    g = plain_of (plain_shape f) f

    K : ℕ → Option Kind
    K = kinds_with f plain_kind

    inner : Place → FunctionPart → Bool
    inner = on_instr (calls_inner false)

    kinds : AreNewKinds f (plain_shape f) Part.Ramp (length f.names) plain_kind (on_instr (calls_inner false))
    kinds = plain_kinds k f rules.tabled

    none : first_part (on_instr (calls_inner false)) (parts_of k f) ≡ None
    none = subst (λ (b : Bool). first_part (misplaces Stage.Source b) (parts_of k f) ≡ None) coroutine rules.local.misplaced

    old : Place → FunctionPart → Bool
    old = either (either (either (breaks_values m (value_kind f) f.result) (calls_otherwise m)) (names_unknown m (is_value k f) (is_label k f))) inner

    signature : (p q : Place) → old p (Signature f) ≡ false → misfits false n K f.result q (Signature g) ≡ false
    signature p q e =
        signature_fits false n K f.result q g
        (holds (fits_signature f)
        (first_no (breaks_values m (value_kind f) f.result p (Signature f)) false
        (first_no (breaks_values m (value_kind f) f.result p (Signature f) || false) (names_unknown m (is_value k f) (is_label k f) p (Signature f))
        (first_no ((breaks_values m (value_kind f) f.result p (Signature f) || false) || names_unknown m (is_value k f) (is_label k f) p (Signature f)) false e))))

    right : (v : ℕ) → is_some (value_kind g v) ≡ true → value_kind g v ≡ K v
    right v e =
        value_is K v g (λ (t : Terminator). Unit {0})
        (each_turns (λ (p : Param). Some (kind_of p.ty) ≡ value_kind f p.name) (λ (p : Param). Some (kind_of p.ty) ≡ K p.name) (λ p d. old_same m f s Part.Ramp (no_saves f) (length f.names) plain_kind inner kinds p.name (kind_of p.ty) d) f.params (own_params f (names_apart stage m k f rules)))
        (plain_all s (length f.names) (PhiMakesIn (value_kind f)) (PhiMakesIn K) (λ (i : Instr). MakesIn (value_kind f) i × Passes (either (calls_otherwise m) inner) (OfInstr i)) (MakesIn K) (λ (t : Terminator). Unit {0}) (λ (t : Terminator). Unit {0})
        (kinds_become m f s Part.Ramp (no_saves f) (length f.names) plain_kind inner kinds) (omega arith) f (told stage m k f rules inner none))
        e
