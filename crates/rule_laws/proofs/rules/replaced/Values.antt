-- Y1 of parts and of functions that are no coroutines, where the values that they name are known.
use Rattle.std.proofs.Common.{◌≡◌, ℕ, Bool, true, false, List, [], ◌∷◌, refl, sym, ap, ◌∙◌}
use Rattle.std.specs.List.{list_all}
use Rattle.std.specs.Prelude.{None, Option, Some, is_some, map, not, ◌&&◌}
use Rattle.ir_laws.specs.ir_base.declared.outcome.Place.{Place}
use Rattle.rule_laws.proofs.rules.local_rules.Carried.{none_of, passing}
use Rattle.rule_laws.proofs.rules.local_rules.Defined.{value_defined}
use Rattle.rule_laws.proofs.rules.local_rules.Fitting.{either, no_either}
use Rattle.ir_laws.proofs.facts.Truth.{and_both, and_first, and_second, holds, first_no, second_no}
use Rattle.ir_parts.specs.Contents.{ending_operands, instr_operands, part_operands}
use Rattle.ir_parts.specs.Parts.{Ending, Head, OfInstr, OfPhi, Part as FunctionPart, Signature, first_part, parts_of}
use Rattle.ir_laws.specs.ir_model.Ty.{Ty}
use Rattle.ir_laws.specs.ir_model.declared.instr.Incoming.{Incoming}
use Rattle.ir_laws.specs.ir_model.declared.instr.Terminator.{Terminator}
use Rattle.ir_laws.specs.ir_model.declared.module.Function.{Function}
use Rattle.ir_laws.specs.ir_model.declared.module.Module.{Module}
use Rattle.ir_laws.specs.ir_model.declared.operand.Operand.{Operand}
use Rattle.rule_names.specs.Known.{first_unknown, is_label, is_value, knows_operand, names_unknown}
use Rattle.rule_laws.proofs.rules.replaced.Known.{operands_before}
use Rattle.rule_laws.proofs.rules.replaced.PartValues.{is_return, misfits}
use Rattle.rule_laws.specs.rules.replaced.Returns.{ReturnsNothing, gives_value}
use Rattle.ir_laws.specs.run_laws.changed.Changed.{Each}
use Rattle.rule_values.specs.Fits.{is_scalar}
use Rattle.rule_values.specs.Kinds.{value_kind}
use Rattle.rule_values.specs.Values.{breaks_values, first_wrong_value, fits_part, takes}
use Rattle.rule_values.specs.declared.kinds.Kind.{Kind}
use Rattle.rule_laws.proofs.rules.woven_rules.Alike.{IsAlike, Local as AlikeLocal, Other as AlikeOther, fits_alike, instr_alike, term_alike}
use Rattle.ir_laws.proofs.facts.Members.{each_passes, each_turns}
use Rattle.rule_laws.proofs.rules.woven_rules.Operands.{instr_itself, term_itself}

-- ---- from kinds that are told of the values to those that they have

module _ (n : Module) (l : ℕ) (g : Function) (K : ℕ → Option Kind) (right : (v : ℕ) → is_some (value_kind g v) ≡ true → value_kind g v ≡ K v) where
  abbrev Known : Operand → Type 0
  Known x = knows_operand n (is_value l g) x ≡ true

  alike : (x : Operand) → Known x → IsAlike K (value_kind g) x x
  alike (Operand.Local v) e = AlikeLocal v v (right v (sym (value_defined v l g) ∙ e))
  alike (Operand.Global x) e = AlikeOther (Operand.Global x) refl
  alike (Operand.Number z) e = AlikeOther (Operand.Number z) refl
  alike Operand.True e = AlikeOther Operand.True refl
  alike Operand.False e = AlikeOther Operand.False refl
  alike Operand.Null e = AlikeOther Operand.Null refl
  alike Operand.None e = AlikeOther Operand.None refl
  alike Operand.Poison e = AlikeOther Operand.Poison refl

  all_alike : (xs : List Operand) → list_all (knows_operand n (is_value l g)) xs ≡ true → Each (λ (x : Operand). IsAlike K (value_kind g) x x) xs
  all_alike xs e = each_turns Known (λ (x : Operand). IsAlike K (value_kind g) x x) alike xs (each_passes (knows_operand n (is_value l g)) xs e)

  takes_now : (t : Ty) (is : List Incoming) → list_all (knows_operand n (is_value l g)) (map (λ (i : Incoming). i.value) is) ≡ true → list_all (takes K t) is ≡ true → list_all (takes (value_kind g) t) is ≡ true
  takes_now t [] e d = refl
  takes_now t (i ∷ is) e d =
      let others : List Operand = map (λ (j : Incoming). j.value) is in
      and_both (takes (value_kind g) t i) (list_all (takes (value_kind g) t) is)
      (fits_alike n K (value_kind g) t i.value i.value (alike i.value (and_first (knows_operand n (is_value l g) i.value) (list_all (knows_operand n (is_value l g)) others) e)) ∙ and_first (takes K t i) (list_all (takes K t) is) d)
      (takes_now t is (and_second (knows_operand n (is_value l g) i.value) (list_all (knows_operand n (is_value l g)) others) e) (and_second (takes K t i) (list_all (takes K t) is) d))

  fits_now : (ty : Option Ty) (x : FunctionPart) → list_all (knows_operand n (is_value l g)) (part_operands x) ≡ true → fits_part n K ty x ≡ true → fits_part n (value_kind g) ty x ≡ true
  fits_now ty (Signature f) e d = d
  fits_now ty (Head b) e d = refl
  fits_now ty (OfPhi p) e d = and_both (is_scalar p.ty) (list_all (takes (value_kind g) p.ty) p.incoming) (and_first (is_scalar p.ty) (list_all (takes K p.ty) p.incoming) d) (takes_now p.ty p.incoming e (and_second (is_scalar p.ty) (list_all (takes K p.ty) p.incoming) d))
  fits_now ty (OfInstr i) e d = instr_alike n K (value_kind g) i i (instr_itself (IsAlike K (value_kind g)) i (all_alike (instr_operands i) e)) ∙ d
  fits_now ty (Ending t) e d = term_alike n K (value_kind g) ty t t (term_itself (IsAlike K (value_kind g)) t (all_alike (ending_operands t) e)) ∙ d

  -- what is asked together
  abbrev asked : Bool → Option Ty → Place → FunctionPart → Bool
  asked aside ty = either (either (misfits aside n K ty) (names_unknown n (is_value l g) (is_label l g))) (λ p x. aside && gives_value p x)

  not_left : (a b : Bool) → a ≡ false → (not a && b) ≡ false → b ≡ false
  not_left true b e d = absurd (cc)
  not_left false b e d = d

  void_fits : (p : Place) (x : FunctionPart) → is_return x ≡ true → gives_value p x ≡ false → fits_part n K None x ≡ true
  void_fits p (Ending (Terminator.Ret None)) a b = refl
  void_fits p (Ending (Terminator.Ret (Some v))) a b = absurd (cc)
  void_fits p (Ending (Terminator.Jump label)) a b = absurd (cc)
  void_fits p (Ending (Terminator.Branch c x y)) a b = absurd (cc)
  void_fits p (Ending (Terminator.Switch arg default cases)) a b = absurd (cc)
  void_fits p (Ending Terminator.Unreachable) a b = absurd (cc)
  void_fits p (Signature f) a b = absurd (cc)
  void_fits p (Head c) a b = absurd (cc)
  void_fits p (OfPhi c) a b = absurd (cc)
  void_fits p (OfInstr i) a b = absurd (cc)

  one_now : (aside : Bool) (ty : Option Ty) → (aside ≡ true → ty ≡ None) → (p : Place) (x : FunctionPart) → asked aside ty p x ≡ false → breaks_values n (value_kind g) ty p x ≡ false
  one_now aside ty void p x e = ap not (fits_now ty x known fitting)
    where
      two : either (misfits aside n K ty) (names_unknown n (is_value l g) (is_label l g)) p x ≡ false
      two = first_no (either (misfits aside n K ty) (names_unknown n (is_value l g) (is_label l g)) p x) (aside && gives_value p x) e

      known : list_all (knows_operand n (is_value l g)) (part_operands x) ≡ true
      known = operands_before n (is_value l g) (is_label l g) p x (second_no (misfits aside n K ty p x) (names_unknown n (is_value l g) (is_label l g) p x) two)

      fit : misfits aside n K ty p x ≡ false
      fit = first_no (misfits aside n K ty p x) (names_unknown n (is_value l g) (is_label l g) p x) two

      left : (aside && gives_value p x) ≡ false
      left = second_no (either (misfits aside n K ty) (names_unknown n (is_value l g) (is_label l g)) p x) (aside && gives_value p x) e

      by_cases : (a b : Bool) → aside ≡ a → is_return x ≡ b → fits_part n K ty x ≡ true
      by_cases false b d r = holds (fits_part n K ty x) (not_left (aside && is_return x) (breaks_values n K ty p x) (λ i. d i && is_return x) fit)
      by_cases true false d r = holds (fits_part n K ty x) (not_left (aside && is_return x) (breaks_values n K ty p x) (λ i. d i && r i) fit)
      by_cases true true d r = ap (λ (o : Option Ty). fits_part n K o x) (void d) ∙ void_fits p x r (sym (ap (λ (c : Bool). c && gives_value p x) d) ∙ left)

      fitting : fits_part n K ty x ≡ true
      fitting = by_cases aside (is_return x) refl refl

  each_now : (a b : Place → FunctionPart → Bool) → ((p : Place) (x : FunctionPart) → a p x ≡ false → b p x ≡ false) → (xs : List (Place × FunctionPart)) → first_part a xs ≡ None → first_part b xs ≡ None
  each_now a b h xs e = none_of b xs (each_turns (λ (x : Place × FunctionPart). a x.0 x.1 ≡ false) (λ (x : Place × FunctionPart). b x.0 x.1 ≡ false) (λ x d. h x.0 x.1 d) xs (passing a xs e))

  pub values_now : (aside : Bool) → (aside ≡ true → g.result ≡ None) → first_part (misfits aside n K g.result) (parts_of l g) ≡ None → first_unknown n l g ≡ None → (aside ≡ true → ReturnsNothing l g) → first_wrong_value n l g ≡ None
  values_now aside void fit known returns =
      each_now (asked aside g.result) (breaks_values n (value_kind g) g.result) (one_now aside g.result void) (parts_of l g)
      (no_either (either (misfits aside n K g.result) (names_unknown n (is_value l g) (is_label l g))) (λ p x. aside && gives_value p x) (parts_of l g)
      (no_either (misfits aside n K g.result) (names_unknown n (is_value l g) (is_label l g)) (parts_of l g) fit known) (aside_gives aside returns))
    where
      aside_gives : (a : Bool) → (a ≡ true → ReturnsNothing l g) → first_part (λ p x. a && gives_value p x) (parts_of l g) ≡ None
      aside_gives true h = h refl
      aside_gives false h = never (parts_of l g)
        where
          never : (xs : List (Place × FunctionPart)) → first_part (λ p x. false) xs ≡ None
          never [] = refl
          never (x ∷ xs) = never xs
