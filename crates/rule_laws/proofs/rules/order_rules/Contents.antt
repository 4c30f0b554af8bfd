-- What stands in a renumbered part: the types that stood there, and the operands, labels and locals, renumbered.
use Rattle.std.proofs.Common.{◌≡◌, ℕ, List, [], ◌∷◌, ◌++◌, refl, sym, ap, ◌∙◌, Option, Some, None}
use Rattle.std.proofs.lemmas.List.{map-append}
use Rattle.std.specs.Prelude.{map, option_map, option_to_list}
use Rattle.ir_laws.specs.ir_base.declared.name.Name.{Name}
use Rattle.ir_parts.specs.Contents.{arg_operands, arg_types, callee_operands, ending_labels, ending_operands, ending_types, instr_operands, instr_types, part_labels, part_locals, part_operands, part_types, result_of}
use Rattle.ir_parts.specs.Parts.{Ending, Head, OfInstr, OfPhi, Part, Signature}
use Rattle.ir_laws.specs.ir_model.Ty.{Ty}
use Rattle.ir_laws.specs.ir_model.declared.instr.Case.{Case}
use Rattle.ir_laws.specs.ir_model.declared.instr.Incoming.{Incoming}
use Rattle.ir_laws.specs.ir_model.declared.instr.Instr.{Instr}
use Rattle.ir_laws.specs.ir_model.declared.instr.Terminator.{Terminator}
use Rattle.ir_laws.specs.ir_model.declared.module.Param.{Param}
use Rattle.ir_laws.specs.ir_model.declared.operand.Arg.{Arg}
use Rattle.ir_laws.specs.ir_model.declared.operand.Callee.{Callee}
use Rattle.ir_laws.specs.ir_model.declared.operand.Operand.{Operand}
use Rattle.rule_laws.proofs.rules.order_rules.Parts.{renumbered_part}
use Rattle.ir_laws.specs.facts.order_rules.Renumbered.{renumbered_arg, renumbered_callee, renumbered_case, renumbered_incoming, renumbered_instr, renumbered_operand, renumbered_param, renumbered_term}

-- what one map makes of what another one made
pub maps_same : {A B C D : Type 0} (f : B → D) (g : A → B) (u : C → D) (v : A → C) → ((x : A) → f (g x) ≡ u (v x)) → (xs : List A) → map f (map g xs) ≡ map u (map v xs)
maps_same f g u v h [] = refl
maps_same f g u v h (x ∷ xs) = λ i. h x i ∷ maps_same f g u v h xs i

pub maps_forget : {A B C : Type 0} (f : B → C) (g : A → B) (v : A → C) → ((x : A) → f (g x) ≡ v x) → (xs : List A) → map f (map g xs) ≡ map v xs
maps_forget f g v h [] = refl
maps_forget f g v h (x ∷ xs) = λ i. h x i ∷ maps_forget f g v h xs i

module _ (to : ℕ → ℕ) where
  -- ---- types

  pub arg_types_same : (args : List Arg) → arg_types (map (renumbered_arg to) args) ≡ arg_types args
  arg_types_same args = maps_forget (λ (a : Arg). a.ty) (renumbered_arg to) (λ (a : Arg). a.ty) (λ a. refl) args

  instr_types_same : (x : Instr) → instr_types (renumbered_instr to x) ≡ instr_types x
  instr_types_same (Instr.Gep r inbounds ty base indices) = ap (λ (ts : List Ty). ty ∷ ts) (arg_types_same indices)
  instr_types_same (Instr.Call r must_tail ty callee args) = ap (λ (ts : List Ty). option_to_list ty ++ ts) (arg_types_same args)
  instr_types_same _ = refl

  ending_types_same : (t : Terminator) → ending_types (renumbered_term to t) ≡ ending_types t
  ending_types_same (Terminator.Switch arg default cases) = ap (λ (ts : List Ty). arg.ty ∷ ts) (maps_forget (λ (c : Case). c.arg.ty) (renumbered_case to) (λ (c : Case). c.arg.ty) (λ c. refl) cases)
  ending_types_same (Terminator.Ret None) = refl
  ending_types_same (Terminator.Ret (Some a)) = refl
  ending_types_same _ = refl

  pub param_types_same : (ps : List Param) → map (λ (p : Param). p.ty) (map (renumbered_param to) ps) ≡ map (λ (p : Param). p.ty) ps
  param_types_same ps = maps_forget (λ (p : Param). p.ty) (renumbered_param to) (λ (p : Param). p.ty) (λ p. refl) ps

  pub types_same : (names : List Name) (x : Part) → part_types (renumbered_part to names x) ≡ part_types x
  types_same names (Signature f) = ap (λ (ts : List Ty). option_to_list f.result ++ ts) (param_types_same f.params)
  types_same names (Head b) = refl
  types_same names (OfPhi p) = refl
  types_same names (OfInstr x) = instr_types_same x
  types_same names (Ending t) = ending_types_same t

  -- ---- operands

  args_over : (args : List Arg) → arg_operands (map (renumbered_arg to) args) ≡ map (renumbered_operand to) (arg_operands args)
  args_over args = maps_same (λ (a : Arg). a.value) (renumbered_arg to) (renumbered_operand to) (λ (a : Arg). a.value) (λ a. refl) args

  callee_over : (c : Callee) → callee_operands (renumbered_callee to c) ≡ map (renumbered_operand to) (callee_operands c)
  callee_over (Callee.Named n) = refl
  callee_over (Callee.Allocator a) = refl
  callee_over (Callee.Intrinsic i) = refl
  callee_over (Callee.Local n) = refl

  pub instr_over : (x : Instr) → instr_operands (renumbered_instr to x) ≡ map (renumbered_operand to) (instr_operands x)
  instr_over (Instr.Gep r inbounds ty base indices) = ap (λ (xs : List Operand). renumbered_operand to base ∷ xs) (args_over indices)
  instr_over (Instr.Call r must_tail ty callee args) =
      (λ i. callee_over callee i ++ args_over args i) ∙ sym (map-append (renumbered_operand to) (callee_operands callee) (arg_operands args))
  instr_over _ = refl

  pub ending_over : (t : Terminator) → ending_operands (renumbered_term to t) ≡ map (renumbered_operand to) (ending_operands t)
  ending_over (Terminator.Switch arg default cases) =
      ap (λ (xs : List Operand). renumbered_operand to arg.value ∷ xs) (maps_same (λ (c : Case). c.arg.value) (renumbered_case to) (renumbered_operand to) (λ (c : Case). c.arg.value) (λ c. refl) cases)
  ending_over (Terminator.Ret None) = refl
  ending_over (Terminator.Ret (Some a)) = refl
  ending_over _ = refl

  pub operands_over : (names : List Name) (x : Part) → part_operands (renumbered_part to names x) ≡ map (renumbered_operand to) (part_operands x)
  operands_over names (Signature f) = refl
  operands_over names (Head b) = refl
  operands_over names (OfPhi p) = maps_same (λ (i : Incoming). i.value) (renumbered_incoming to) (renumbered_operand to) (λ (i : Incoming). i.value) (λ i. refl) p.incoming
  operands_over names (OfInstr x) = instr_over x
  operands_over names (Ending t) = ending_over t

  -- ---- labels

  pub ending_labels_over : (t : Terminator) → ending_labels (renumbered_term to t) ≡ map to (ending_labels t)
  ending_labels_over (Terminator.Switch arg default cases) =
      ap (λ (ns : List ℕ). to default ∷ ns) (maps_same (λ (c : Case). c.target) (renumbered_case to) to (λ (c : Case). c.target) (λ c. refl) cases)
  ending_labels_over (Terminator.Ret None) = refl
  ending_labels_over (Terminator.Ret (Some a)) = refl
  ending_labels_over _ = refl

  pub incoming_labels_over : (is : List Incoming) → map (λ (i : Incoming). i.from) (map (renumbered_incoming to) is) ≡ map to (map (λ (i : Incoming). i.from) is)
  incoming_labels_over is = maps_same (λ (i : Incoming). i.from) (renumbered_incoming to) to (λ (i : Incoming). i.from) (λ i. refl) is

  pub labels_over : (names : List Name) (x : Part) → part_labels (renumbered_part to names x) ≡ map to (part_labels x)
  labels_over names (Signature f) = refl
  labels_over names (Head b) = refl
  labels_over names (OfPhi p) = incoming_labels_over p.incoming
  labels_over names (OfInstr x) = refl
  labels_over names (Ending t) = ending_labels_over t

  -- ---- what is defined

  pub result_over : (x : Instr) → result_of (renumbered_instr to x) ≡ option_map to (result_of x)
  result_over (Instr.Call r must_tail ty callee args) = refl
  result_over _ = refl

  pub listed_over : (o : Option ℕ) → option_to_list (option_map to o) ≡ map to (option_to_list o)
  listed_over None = refl
  listed_over (Some n) = refl

  pub locals_over : (names : List Name) (x : Part) → part_locals (renumbered_part to names x) ≡ map to (part_locals x)
  locals_over names (Signature f) = maps_same (λ (p : Param). p.name) (renumbered_param to) to (λ (p : Param). p.name) (λ p. refl) f.params
  locals_over names (Head b) = refl
  locals_over names (OfPhi p) = refl
  locals_over names (OfInstr x) = ap option_to_list (result_over x) ∙ listed_over (result_of x)
  locals_over names (Ending t) = refl
