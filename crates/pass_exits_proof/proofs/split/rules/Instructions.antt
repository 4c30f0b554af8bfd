-- The rules that look at parts of a function one by one: no part of a coroutine breaks them, nor what a function that is no coroutine becomes.
use Rattle.std.proofs.Common.{◌≡◌, ℕ, ◌<◌, Bool, true, false, List, [], ◌∷◌, ◌++◌, append_assoc, length, refl, sym, ap, ◌∙◌, subst, arith}
use Rattle.std.proofs.lemmas.List.{map-append}
use Rattle.std.proofs.lemmas.List.Folds.{list_all-append}
use Rattle.std.specs.List.{list_all}
use Rattle.std.specs.Prelude.{None, Option, Some, is_some, map, not, option_to_list, slice_get, ◌||◌}
use Rattle.pass_fetch_proof.specs.ir_base.declared.name.Name.{Name}
use Rattle.pass_fetch_proof.specs.ir_base.declared.outcome.Place.{Place}
use Rattle.pass_split.specs.Parts.{given_ramp_of, plain_of, plain_shape}
use Rattle.pass_split.specs.Reached.{pruned}
use Rattle.pass_fetch_proof.proofs.rule_laws.rules.local_rules.Carried.{none_of, passing}
use Rattle.pass_fetch_proof.proofs.rule_laws.rules.local_rules.Fitting.{either, no_either}
use Rattle.pass_fetch_proof.proofs.ir_laws.facts.Truth.{and_both, first_no, holds, second_no}
use Rattle.pass_fetch_proof.specs.frame_layout.declared.layout.Layout.{Layout}
use Rattle.pass_fetch_proof.specs.ir_parts.Contents.{part_types}
use Rattle.pass_fetch_proof.specs.ir_parts.Parts.{OfInstr, Part as FunctionPart, Signature, first_part, parts_of}
use Rattle.pass_fetch_proof.specs.rule_laws.rules.function_rules.Kept.{KeepsFunctionRules, KeepsFunctionRulesAt}
use Rattle.pass_fetch_proof.specs.pass_intrinsics.Lowered.{number_of_save}
use Rattle.pass_fetch_proof.specs.pass_intrinsics.Shapes.{given_name, shape_of}
use Rattle.pass_fetch_proof.specs.pass_intrinsics.declared.shape.Part.{Part}
use Rattle.pass_fetch_proof.specs.pass_intrinsics.declared.shape.Shape.{Shape}
use Rattle.ir_model.specs.Names.{declaration_named, global_named}
use Rattle.ir_model.specs.Ty.{Ty, ptr}
use Rattle.ir_model.specs.declared.instr.Instr.{Instr}
use Rattle.ir_model.specs.declared.module.Function.{Function}
use Rattle.ir_model.specs.declared.module.Module.{Module}
use Rattle.ir_model.specs.declared.module.Param.{Param}
use Rattle.ir_model.specs.declared.operand.Arg.{Arg}
use Rattle.ir_model.specs.declared.operand.Callee.{Callee}
use Rattle.ir_model.specs.declared.operand.Intrinsic.{Intrinsic}
use Rattle.pass_fetch_proof.specs.rule_locals.Calls.{calls_closed}
use Rattle.pass_fetch_proof.specs.rule_locals.Extents.{breaks_extents}
use Rattle.pass_fetch_proof.specs.rule_locals.Instrs.{on_instr}
use Rattle.pass_fetch_proof.specs.rule_locals.Intrinsics.{calls_inner, is_inner, misplaces}
use Rattle.pass_fetch_proof.specs.rule_locals.Transfers.{breaks_transfers}
use Rattle.pass_fetch_proof.specs.rule_names.Known.{is_label, is_value, knows_name, knows_type, names_unknown}
use Rattle.pass_fetch_proof.specs.rule_names.declared.stage.Stage.{Stage}
use Rattle.pass_fetch_proof.specs.rule_laws.frames.same_names.Parts.{HasPart, HasPartsOf}
use Rattle.pass_exits_proof.proofs.split.rules.Carried.{Carries, part_carried, plain_carried}
use Rattle.pass_fetch_proof.proofs.rule_laws.rules.replaced.Known.{called_before, types_before}
use Rattle.pass_exits_proof.proofs.split.rules.Known.{KnowsParts, known_carried, now_known}
use Rattle.pass_exits_proof.proofs.split.rules.Local.{calls_carried, closed_before, closed_carried, deep, deep_again, depths_carried, extents_carried, transfers_carried}
use Rattle.pass_fetch_proof.proofs.rule_laws.rules.fetching_rules.Puts.{ptr_shallow as shallow_ptr}
use Rattle.pass_fetch_proof.proofs.rule_laws.frames.replaced.Modules.{all_known, has_functions}
use Rattle.pass_fetch_proof.proofs.rule_laws.frames.replaced.Saves.{saves_below}
use Rattle.pass_fetch_proof.specs.rule_laws.rules.replaced.Instructions.{KeepsRulesOfInstructions, names_strange}
use Rattle.pass_exits_proof.specs.split.rules.Parted.{IsCleanup, IsDestroy, IsGivenRamp, IsPartOf, IsRamp, IsResume}
use Rattle.pass_fetch_proof.specs.run_laws.changed.Changed.{Each}
use Rattle.pass_fetch_proof.specs.rule_types.Depth.{is_shallow}
use Rattle.pass_fetch_proof.specs.rule_types.Limits.{all_fit, breaks_limits, is_block_past}
use Rattle.pass_fetch_proof.specs.rule_types.Signatures.{calls_otherwise}

part_there : (n : Module) (x : Name) → HasPart n x → knows_name n x ≡ true
part_there n x h = ap (λ (o : Option ℕ). is_some o || (is_some (declaration_named n x) || is_some (global_named n x))) h.signature.is_named

-- nothing is called that isn't known
calls_known : (m : Module) (values labels : ℕ → Bool) (p : Place) (x : FunctionPart) → names_unknown m values labels p x ≡ false → on_instr (closed_before m) p x ≡ on_instr (calls_closed m) p x
calls_known m values labels p (OfInstr (Instr.Call r must_tail ty callee args)) e =
    ap (λ (b : Bool). calls_closed m p (Instr.Call r must_tail ty callee args) || not b) (called_before m values labels p (OfInstr (Instr.Call r must_tail ty callee args)) e) ∙ or_false (calls_closed m p (Instr.Call r must_tail ty callee args))
  where
    or_false : (b : Bool) → (b || false) ≡ b
    or_false true = refl
    or_false false = refl
calls_known m values labels p (OfInstr _) e = refl
calls_known m values labels p _ e = refl

closed_too : (m : Module) (values labels : ℕ → Bool) (xs : List (Place × FunctionPart)) → first_part (on_instr (calls_closed m)) xs ≡ None → first_part (names_unknown m values labels) xs ≡ None → first_part (on_instr (closed_before m)) xs ≡ None
closed_too m values labels xs d e = none_of (on_instr (closed_before m)) xs (both xs (passing (on_instr (calls_closed m)) xs d) (passing (names_unknown m values labels) xs e))
  where
    both : (ys : List (Place × FunctionPart)) → Each (λ x. on_instr (calls_closed m) x.0 x.1 ≡ false) ys → Each (λ x. names_unknown m values labels x.0 x.1 ≡ false) ys → Each (λ x. on_instr (closed_before m) x.0 x.1 ≡ false) ys
    both [] a b = tt
    both (y ∷ ys) a b = (calls_known m values labels y.0 y.1 b.0 ∙ a.0, both ys a.1 b.1)

-- ---- the parts of a coroutine

-- the types of the ramp that is given its frame
given_types : (s : Shape) (f : Function) → part_types (Signature (pruned (given_ramp_of s f))) ≡ part_types (Signature f) ++ ptr ∷ []
given_types s f =
    ap (λ (ts : List Ty). option_to_list f.result ++ ts) (map-append (λ (p : Param). p.ty) f.params (record { ty = ptr; name = given_name s } ∷ []))
    ∙ sym (append_assoc (option_to_list f.result) (map (λ (p : Param). p.ty) f.params) (ptr ∷ []))

-- the signature of a part is that of the function, with a ptr behind it where the frame is given, or void(ptr)
signature_types : (P : List Ty → Type 0) → ((ts us : List Ty) → P ts → P us → P (ts ++ us)) → (s : Shape) (part : Part) (f g : Function) → IsPartOf s f part g → P (part_types (Signature f)) → P (ptr ∷ []) → P (part_types (Signature g))
signature_types P join s _ f _ IsRamp a b = a
signature_types P join s _ f _ IsGivenRamp a b = subst P (sym (given_types s f)) (join (part_types (Signature f)) (ptr ∷ []) a b)
signature_types P join s _ f _ IsResume a b = b
signature_types P join s _ f _ IsDestroy a b = b
signature_types P join s _ f _ IsCleanup a b = b

module _ (stage : Stage) (m n : Module) (k l : ℕ) (f g : Function) (h : HasPartsOf m n)
    (stands : slice_get m.functions k ≡ Some f) (rules : KeepsFunctionRulesAt stage m k f) where
  -- what is known of the names of parts, for calls that store them
  abbrev Own : Shape → Part → (Place → FunctionPart → Bool) → Type 0
  Own s part extra = (p : Place) (r : Option ℕ) (must_tail : Bool) (ty : Option Ty) (x : Intrinsic) (args : List Arg) → extra p (OfInstr (Instr.Call r must_tail ty (Callee.Intrinsic x) args)) ≡ false → is_inner x ≡ true → KnowsParts n s part

  abbrev values : ℕ → Bool
  values = is_value k f

  abbrev labels : ℕ → Bool
  labels = is_label k f

  known_signature : (p q : Place) → names_unknown m values labels p (Signature f) ≡ false → names_strange n q (Signature f) ≡ false
  known_signature p q e = now_known m n h values labels q (Signature f) (all_known m n (has_functions m n h) (part_types (Signature f)) ∙ types_before m values labels p (Signature f) e) refl refl

  -- each rule is carried where each signature is
  module _ (s : Shape) (part : Part) (saves : (r : Option ℕ) (j : ℕ) → number_of_save s r ≡ Some j → j < length s.suspends)
      (carry : (breaks now : Place → FunctionPart → Bool) → Carries s part 0 breaks now → ((p q : Place) → breaks p (Signature f) ≡ false → now q (Signature g) ≡ false) → first_part breaks (parts_of k f) ≡ None → first_part now (parts_of l g) ≡ None)
      (types : (P : List Ty → Type 0) → ((ts us : List Ty) → P ts → P us → P (ts ++ us)) → P (part_types (Signature f)) → P (ptr ∷ []) → P (part_types (Signature g)))
      (extra : Place → FunctionPart → Bool) (own : Own s part extra) (none : first_part extra (parts_of k f) ≡ None) where
    strange_signature : (p q : Place) → either (either (names_unknown m values labels) (calls_otherwise m)) extra p (Signature f) ≡ false → names_strange n q (Signature g) ≡ false
    strange_signature p q e =
        let before = first_no (names_unknown m values labels p (Signature f)) false (first_no (names_unknown m values labels p (Signature f) || false) (extra p (Signature f)) e) in
        now_known m n h values labels q (Signature g)
        (types (λ (ts : List Ty). list_all (knows_type n) ts ≡ true) (λ ts us a b. list_all-append (knows_type n) ts us ∙ and_both (list_all (knows_type n) ts) (list_all (knows_type n) us) a b) (all_known m n (has_functions m n h) (part_types (Signature f)) ∙ types_before m values labels p (Signature f) before) refl) refl refl

    deep_joined : (q : Place) (ts us : List Ty) → (is_block_past Stage.Plain q.block || not (all_fit n ts)) ≡ false → (is_block_past Stage.Plain q.block || not (all_fit n us)) ≡ false → (is_block_past Stage.Plain q.block || not (all_fit n (ts ++ us))) ≡ false
    deep_joined q ts us a b =
        let past : Bool = is_block_past Stage.Plain q.block in
        deep m n h s part saves q (ts ++ us)
        (list_all-append (is_shallow n.types) ts us
        ∙ and_both (all_fit n ts) (all_fit n us) (holds (all_fit n ts) (second_no past (not (all_fit n ts)) a)) (holds (all_fit n us) (second_no past (not (all_fit n us)) b)))

    deep_signature : (p q : Place) → either (breaks_limits Stage.Plain m None) (calls_otherwise m) p (Signature f) ≡ false → breaks_limits Stage.Plain n None q (Signature g) ≡ false
    deep_signature p q e =
        types (λ (ts : List Ty). (is_block_past Stage.Plain q.block || not (all_fit n ts)) ≡ false) (deep_joined q)
        (deep_again m n h s part saves p q (part_types (Signature f)) (part_types (Signature f)) refl (first_no (breaks_limits Stage.Plain m None p (Signature f)) false e))
        (deep m n h s part saves q (ptr ∷ []) (and_both (is_shallow n.types ptr) true (shallow_ptr n.types) refl))

    pub instructions_kept : KeepsRulesOfInstructions n l g
    instructions_kept =
        let calls = rules.calls in
        record {
          known = carry (either (either (names_unknown m values labels) (calls_otherwise m)) extra) (names_strange n) (known_carried m n h values labels s part saves extra own) strange_signature
              (no_either (either (names_unknown m values labels) (calls_otherwise m)) extra (parts_of k f) (no_either (names_unknown m values labels) (calls_otherwise m) (parts_of k f) rules.known calls) none);
          depths = carry (either (breaks_limits Stage.Plain m None) (calls_otherwise m)) (breaks_limits Stage.Plain n None) (depths_carried m n h s part saves) deep_signature
              (no_either (breaks_limits Stage.Plain m None) (calls_otherwise m) (parts_of k f) rules.depths calls);
          calls = carry (calls_otherwise m) (calls_otherwise n) (calls_carried m n h s part saves) (λ p q e. refl) calls;
          closed_calls = carry (either (on_instr (closed_before m)) (calls_otherwise m)) (on_instr (calls_closed n)) (closed_carried m n h s part saves) (λ p q e. refl)
              (no_either (on_instr (closed_before m)) (calls_otherwise m) (parts_of k f) (closed_too m values labels (parts_of k f) rules.local.closed_calls rules.known) calls);
          extents = carry (either (on_instr (breaks_extents stage m)) (calls_otherwise m))
              (on_instr (breaks_extents Stage.Plain n)) (extents_carried m n h s part saves stage) (λ p q e. refl)
              (no_either (on_instr (breaks_extents stage m)) (calls_otherwise m) (parts_of k f) rules.local.extents calls);
          transfers = carry (either (on_instr (breaks_transfers Stage.Source f)) (calls_otherwise m)) (on_instr (breaks_transfers Stage.Plain g)) (transfers_carried m n h s part saves f g) (λ p q e. refl)
              (no_either (on_instr (breaks_transfers Stage.Source f)) (calls_otherwise m) (parts_of k f) rules.local.transfers calls);
        }

-- a coroutine's parts
pub parts_kept : (m n : Module) (k l : ℕ) (layout : Layout) (part : Part) (f g : Function) → HasPartsOf m n → slice_get m.functions k ≡ Some f → f.coroutine ≡ true → KeepsFunctionRules m k f → IsPartOf (shape_of f layout) f part g → (part ≡ Part.GivenRamp → HasPart n (shape_of f layout).cleanup_name) → KeepsRulesOfInstructions n l g
parts_kept m n k l layout part f g h stands coroutine rules is given =
    let s : Shape = shape_of f layout in
    let resume : knows_name n s.resume_name ≡ true = part_there n s.resume_name (h.resumes k f stands coroutine) in
    let destroy : knows_name n s.destroy_name ≡ true = part_there n s.destroy_name (h.destroys k f stands coroutine) in
    instructions_kept Stage.Source m n k l f g h stands rules s part (saves_below f layout)
    (λ breaks now over signature e. part_carried s part 0 breaks now over (omega arith) k l f g is signature e) (λ P join a b. signature_types P join s part f g is a b) (λ p x. false)
    (λ p r must_tail ty x args e o. record { resume = resume; destroy = destroy; cleanup = λ d. part_there n s.cleanup_name (given d) }) (never (parts_of k f))
  where
    never : (xs : List (Place × FunctionPart)) → first_part (λ p x. false) xs ≡ None
    never [] = refl
    never (x ∷ xs) = never xs

-- a function that is no coroutine stores no parts
no_parts : (n : Module) (s : Shape) (p : Place) (r : Option ℕ) (must_tail : Bool) (ty : Option Ty) (x : Intrinsic) (args : List Arg) → on_instr (calls_inner false) p (OfInstr (Instr.Call r must_tail ty (Callee.Intrinsic x) args)) ≡ false → is_inner x ≡ true → KnowsParts n s Part.Ramp
no_parts n s p r must_tail ty x args e is = let t : true ≡ false = sym is ∙ e in absurd (cc)

pub no_saves : (f : Function) (r : Option ℕ) (j : ℕ) → number_of_save (plain_shape f) r ≡ Some j → j < length (plain_shape f).suspends
no_saves f None j e = absurd (cc)
no_saves f (Some r) j e = absurd (cc)

pub plain_kept : (stage : Stage) (m n : Module) (k l : ℕ) (f : Function) → HasPartsOf m n
    → slice_get m.functions k ≡ Some f → f.coroutine ≡ false → KeepsFunctionRulesAt stage m k f
    → KeepsRulesOfInstructions n l (plain_of (plain_shape f) f)
plain_kept stage m n k l f h stands coroutine rules =
    let s : Shape = plain_shape f in
    instructions_kept stage m n k l f (plain_of s f) h stands rules s Part.Ramp (no_saves f)
    (λ breaks now over signature e. plain_carried s 0 breaks now over (omega arith) k l f signature e) (λ P join a b. a) (on_instr (calls_inner false)) (no_parts n s)
    (subst (λ (b : Bool). first_part (misplaces Stage.Source b) (parts_of k f) ≡ None) coroutine rules.local.misplaced)
