-- The rules on instructions alone: calls of functions that are declared only (Y3), extents (Y4), transfers (Y5), allocas (F3), coro intrinsics (K1) and markers (K13); and addresses of functions (P1).
use Rattle.std.proofs.Common.{◌≡◌, ◌⊎◌, inl, inr, ℕ, Bool, true, false, List, [], ◌∷◌, refl, sym, ap, ◌∙◌, subst}
use Rattle.std.specs.List.{list_all}
use Rattle.std.specs.Prelude.{None, Option, Some, not, ◌&&◌, ◌||◌}
use Rattle.ir_laws.specs.ir_base.declared.outcome.Place.{Place}
use Rattle.ir_laws.proofs.facts.Truth.{and_first, and_second, false_behind as no_and, was_not as not_tail}
use Rattle.ir_parts.specs.Contents.{instr_operands, part_operands}
use Rattle.ir_parts.specs.Parts.{Ending, OfInstr, OfPhi, first_part, parts_of}
use Rattle.ir_laws.specs.ir_model.Ty.{Ty}
use Rattle.ir_laws.specs.ir_model.declared.instr.Instr.{Instr}
use Rattle.ir_laws.specs.ir_model.declared.module.Function.{Function}
use Rattle.ir_laws.specs.ir_model.declared.module.Module.{Module}
use Rattle.ir_laws.specs.ir_model.declared.operand.Arg.{Arg}
use Rattle.ir_laws.specs.ir_model.declared.operand.Callee.{Callee}
use Rattle.ir_laws.specs.ir_model.declared.operand.Intrinsic.{Intrinsic}
use Rattle.ir_laws.specs.ir_model.declared.operand.Operand.{Operand}
use Rattle.rule_locals.specs.Addresses.{calls_indirectly, first_function_pointer, is_indirect, is_no_function, points_to_functions}
use Rattle.rule_locals.specs.Calls.{calls_closed, first_closed_call}
use Rattle.rule_locals.specs.Entries.{allocates_late, first_late_alloca, is_past_entry}
use Rattle.rule_locals.specs.Extents.{breaks_extents, first_past_extent}
use Rattle.rule_locals.specs.Instrs.{on_instr}
use Rattle.rule_locals.specs.Intrinsics.{calls_inner, first_misplaced}
use Rattle.rule_locals.specs.Transfers.{breaks_transfers, first_wrong_transfer}
use Rattle.rule_names.specs.declared.stage.Stage.{Stage}
use Rattle.rule_laws.proofs.rules.woven_rules.Carried.{Carries, CarriesInstrs, carried, on_instrs}
use Rattle.rule_laws.proofs.rules.woven_rules.Laid.{AreLaidBlocks, IsLike, IsSafe, KeptOne, NoPromise, Remains, Renamed, Stayed, Unnamed, Valued}
use Rattle.rule_laws.proofs.rules.woven_rules.Operands.{all_beside, term_pairs}
use Rattle.ir_laws.proofs.facts.Members.{all_pass, each_turns}
use Rattle.rule_laws.proofs.rules.woven_rules.Rules.{incoming_pairs, of_copies, remain_pairs}
use Rattle.rule_laws.specs.rules.woven_rules.Blocks.{is_copy, may_stand}
use Rattle.rule_laws.specs.rules.woven_rules.Parts.{Alloca, Binary, Call, Direct, Indirect, InstrStays}
use Rattle.rule_laws.specs.rules.woven_rules.Weaving.{Weaving, names_nothing}

module _ (w : Weaving) (m : Module) (f g : Function) (k : ℕ) (blocks : AreLaidBlocks w m f g 0 f.blocks g.blocks) where
  abbrev Like : Operand → Operand → Type 0
  Like = IsLike w f g

  -- what remains is the same to a rule, and what is put in doesn't break it
  record Leaves (breaks now : Place → Instr → Bool) : Type 0 where
    put_in : (block : ℕ) (q : Place) (j : Instr) → q.block ≡ Some block → may_stand block j ≡ true → ((p : Place) → breaks_extents w.stage m p j ≡ false) → now q j ≡ false
    same : (p q : Place) (i j : Instr) → q.block ≡ p.block → InstrStays Like i j → now q j ≡ breaks p i
    id : (p q : Place) (r : Option ℕ) (must_tail : Bool) (ty : Option Ty) (xs ys : List Arg) → now q (Instr.Call r must_tail ty (Callee.Intrinsic Intrinsic.CoroId) ys) ≡ breaks p (Instr.Call r must_tail ty (Callee.Intrinsic Intrinsic.CoroId) xs)

  left_out : (breaks now : Place → Instr → Bool) → Leaves breaks now → first_part (on_instr breaks) (parts_of k f) ≡ None → first_part (on_instr now) (parts_of k g) ≡ None
  left_out breaks now h = carried w m f g (on_instr breaks) (on_instr now) (on_instrs w m f g breaks now over) k blocks
    where
      remain : (p q : Place) (i j : Instr) → q.block ≡ p.block → Remains w f g i j → now q j ≡ breaks p i
      remain p q _ _ e (KeptOne i j s mark) = h.same p q i j e s
      remain p q _ _ e (NoPromise r must_tail ty a x args s) = h.id p q r must_tail ty (a ∷ x ∷ args) (a ∷ record x { value = Operand.Null } ∷ args)

      over : CarriesInstrs w m f g breaks now
      over = record { put_one = λ block q j e s. h.put_in block q j e s.stands s.extents; remain_one = λ p q i j e s d. remain p q i j e s ∙ d }

  -- ---- Y3

  closed_callee : (p q : Place) (r : Option ℕ) (must_tail : Bool) (ty : Option Ty) (c : Callee) (xs ys : List Arg) → calls_closed m q (Instr.Call r must_tail ty c ys) ≡ calls_closed m p (Instr.Call r must_tail ty c xs)
  closed_callee p q r must_tail ty (Callee.Named n) xs ys = refl
  closed_callee p q r must_tail ty _ xs ys = refl

  closed_same : (p q : Place) (i j : Instr) → InstrStays Like i j → calls_closed m q j ≡ calls_closed m p i
  closed_same p q _ _ (Call r must_tail ty _ _ args now (Direct c e) t) = closed_callee p q r must_tail ty c args now
  closed_same p q _ _ (Call r must_tail ty _ _ args now (Indirect v n s) t) = refl
  closed_same p q _ _ _ = refl

  open_put : (block : ℕ) (q : Place) (j : Instr) → may_stand block j ≡ true → calls_closed m q j ≡ false
  open_put block q (Instr.Call r must_tail ty c args) e = of_copies (λ (d : Callee). calls_closed m q (Instr.Call r must_tail ty d args) ≡ false) refl refl c (and_second (not must_tail) (is_copy c) e)
  open_put block q _ e = refl

  pub closed_woven : first_closed_call m k f ≡ None → first_closed_call m k g ≡ None
  closed_woven =
      left_out (calls_closed m) (calls_closed m)
      (record { put_in = λ block q j e s x. open_put block q j s; same = λ p q i j e s. closed_same p q i j s; id = λ p q r must_tail ty xs ys. refl })

  -- ---- Y4

  extents_same : (p q : Place) (i j : Instr) → InstrStays Like i j → breaks_extents w.stage m q j ≡ breaks_extents w.stage m p i
  extents_same p q _ _ (Binary r op flags ty a b c d x y) = refl
  extents_same p q _ _ _ = refl

  pub extents_woven : first_past_extent w.stage m k f ≡ None → first_past_extent w.stage m k g ≡ None
  extents_woven =
      left_out (breaks_extents w.stage m) (breaks_extents w.stage m)
      (record { put_in = λ block q j e s x. x q; same = λ p q i j e s. extents_same p q i j s; id = λ p q r must_tail ty xs ys. refl })

  -- ---- Y5

  transfers_same : (p q : Place) (i j : Instr) → InstrStays Like i j → breaks_transfers Stage.Source g q j ≡ breaks_transfers Stage.Source f p i
  transfers_same p q _ _ (Binary r op flags ty a b c d x y) = refl
  transfers_same p q _ _ _ = refl

  transfers_put : (block : ℕ) (q : Place) (j : Instr) → may_stand block j ≡ true → breaks_transfers Stage.Source g q j ≡ false
  transfers_put block q (Instr.Call r must_tail ty c args) e = ap (λ (b : Bool). b && true) (not_tail must_tail (and_first (not must_tail) (is_copy c) e))
  transfers_put block q _ e = refl

  pub transfers_woven : first_wrong_transfer Stage.Source k f ≡ None → first_wrong_transfer Stage.Source k g ≡ None
  transfers_woven =
      left_out (breaks_transfers Stage.Source f) (breaks_transfers Stage.Source g)
      (record { put_in = λ block q j e s x. transfers_put block q j s; same = λ p q i j e s. transfers_same p q i j s; id = λ p q r must_tail ty xs ys. refl })

  -- ---- F3

  late_same : (p q : Place) (i j : Instr) → q.block ≡ p.block → InstrStays Like i j → allocates_late q j ≡ allocates_late p i
  late_same p q _ _ e (Alloca r ty align) = ap is_past_entry e
  late_same p q _ _ e _ = refl

  late_put : (block : ℕ) (q : Place) (j : Instr) → q.block ≡ Some block → may_stand block j ≡ true → allocates_late q j ≡ false
  late_put block q (Instr.Alloca r ty align) e s = ap is_past_entry e ∙ ap not s
  late_put block q _ e s = refl

  pub allocas_woven : first_late_alloca k f ≡ None → first_late_alloca k g ≡ None
  allocas_woven =
      left_out allocates_late allocates_late
      (record { put_in = λ block q j e s x. late_put block q j e s; same = late_same; id = λ p q r must_tail ty xs ys. refl })

  -- ---- K1

  inner_same : (c : Bool) (p q : Place) (i j : Instr) → InstrStays Like i j → calls_inner c q j ≡ calls_inner c p i
  inner_same o p q _ _ (Call r must_tail ty _ _ args now (Direct c e) t) = refl
  inner_same o p q _ _ (Call r must_tail ty _ _ args now (Indirect v n s) t) = refl
  inner_same o p q _ _ _ = refl

  inner_put : (o : Bool) (block : ℕ) (q : Place) (j : Instr) → may_stand block j ≡ true → calls_inner o q j ≡ false
  inner_put o block q (Instr.Call r must_tail ty c args) e =
      of_copies (λ (d : Callee). calls_inner o q (Instr.Call r must_tail ty d args) ≡ false) (no_and (not o)) (no_and (not o)) c (and_second (not must_tail) (is_copy c) e)
  inner_put o block q _ e = refl

  pub misplaced_woven : g.coroutine ≡ f.coroutine → first_misplaced Stage.Source k f ≡ None → first_misplaced Stage.Source k g ≡ None
  misplaced_woven same e =
      subst (λ (o : Bool). first_part (on_instr (calls_inner o)) (parts_of k g) ≡ None) (sym same)
      (left_out (calls_inner f.coroutine) (calls_inner f.coroutine)
      (record { put_in = λ block q j e s x. inner_put f.coroutine block q j s; same = λ p q i j e s. inner_same f.coroutine p q i j s; id = λ p q r must_tail ty xs ys. refl }) e)

  -- ---- P1

  no_function_like : (x y : Operand) → Like x y ⊎ (y ≡ Operand.Null) → is_no_function m x ≡ true → is_no_function m y ≡ true
  no_function_like x y (inl s) e = on x y s e
    where
      on : (x y : Operand) → Like x y → is_no_function m x ≡ true → is_no_function m y ≡ true
      on _ _ (Stayed x stays) e = e
      on _ _ (Renamed v n same) e = refl
  no_function_like x y (inr s) e = ap (is_no_function m) s

  no_function_safe : (x : Operand) → IsSafe g x → is_no_function m x ≡ true
  no_function_safe _ (Valued v e) = refl
  no_function_safe _ (Unnamed x e) = on x e
    where
      on : (x : Operand) → names_nothing x ≡ true → is_no_function m x ≡ true
      on (Operand.Global n) e = absurd (cc)
      on _ e = refl

  indirect_same : (i j : Instr) → Remains w f g i j → calls_indirectly (OfInstr j) ≡ calls_indirectly (OfInstr i)
  indirect_same _ _ (KeptOne i j s mark) = on i j s
    where
      on : (i j : Instr) → InstrStays Like i j → calls_indirectly (OfInstr j) ≡ calls_indirectly (OfInstr i)
      on _ _ (Call r must_tail ty _ _ args now (Direct c e) t) = refl
      on _ _ (Call r must_tail ty _ _ args now (Indirect v n s) t) = refl
      on _ _ _ = refl
  indirect_same _ _ (NoPromise r must_tail ty a x args s) = refl

  direct_put : (block : ℕ) (j : Instr) → may_stand block j ≡ true → calls_indirectly (OfInstr j) ≡ false
  direct_put block (Instr.Call r must_tail ty c args) e = of_copies (λ (d : Callee). is_indirect d ≡ false) refl refl c (and_second (not must_tail) (is_copy c) e)
  direct_put block _ e = refl

  -- no operand is a function's address, and nothing is called indirectly
  points : (xs ys : List Operand) (a b : Bool) → (list_all (is_no_function m) xs ≡ true → list_all (is_no_function m) ys ≡ true) → b ≡ a → (not (list_all (is_no_function m) xs) || a) ≡ false → (not (list_all (is_no_function m) ys) || b) ≡ false
  points xs ys a b x same e = on (list_all (is_no_function m) xs) refl e
    where
      on : (t : Bool) → list_all (is_no_function m) xs ≡ t → (not t || a) ≡ false → (not (list_all (is_no_function m) ys) || b) ≡ false
      on true d none = ap (λ (t : Bool). not t || b) (x d) ∙ same ∙ none
      on false d none = absurd (cc)

  pointers_carried : Carries w m f g (points_to_functions m) (points_to_functions m)
  pointers_carried =
      record {
        signature = λ p e. refl;
        head = λ p b c d e. refl;
        phi = λ p x y s once e.
            points (part_operands (OfPhi x)) (part_operands (OfPhi y)) false false
            (all_beside Like (is_no_function m) (is_no_function m) (λ a b h. no_function_like a b (inl h)) (part_operands (OfPhi x)) (part_operands (OfPhi y)) (incoming_pairs w m f g x.incoming y.incoming s.incoming)) refl e;
        put = λ block q j e s.
            points [] (instr_operands j) false (calls_indirectly (OfInstr j))
            (λ t. all_pass (is_no_function m) (instr_operands j) (each_turns (IsSafe g) (λ (x : Operand). is_no_function m x ≡ true) no_function_safe (instr_operands j) s.operands))
            (direct_put block j s.stands) refl;
        remain = λ p q i j same s e.
            points (instr_operands i) (instr_operands j) (calls_indirectly (OfInstr i)) (calls_indirectly (OfInstr j))
            (all_beside (λ (x y : Operand). Like x y ⊎ (y ≡ Operand.Null)) (is_no_function m) (is_no_function m) no_function_like (instr_operands i) (instr_operands j) (remain_pairs w m f g i j s)) (indirect_same i j s) e;
        ending = λ p q t u s e.
            points (part_operands (Ending t)) (part_operands (Ending u)) false false
            (all_beside Like (is_no_function m) (is_no_function m) (λ a b h. no_function_like a b (inl h)) (part_operands (Ending t)) (part_operands (Ending u)) (term_pairs Like t u s)) refl e;
      }

  pub pointers_woven : first_function_pointer m k f ≡ None → first_function_pointer m k g ≡ None
  pointers_woven = carried w m f g (points_to_functions m) (points_to_functions m) pointers_carried k blocks
