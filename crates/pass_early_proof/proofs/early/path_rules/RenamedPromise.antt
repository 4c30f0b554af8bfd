-- The promise of a renamed function: rule K10.
use Rattle.std.proofs.Common.{◌≡◌, ◌⊎◌, inl, inr, ℕ, suc, ◌+◌, Bool, true, false, List, [], ◌∷◌, ◌++◌, length, refl, sym, ap, ◌∙◌, arith}
use Rattle.std.proofs.lemmas.Bool.{le-ltb}
use Rattle.std.specs.Prelude.{Some, None, Option, cond, flat_map, is_some, map, nat_lt, not, option_and_then, option_map, position, slice_get, if◌then◌else◌, ◌==◌}
use Rattle.std.specs.List.{position_or_len}
use Rattle.rule_laws.specs.ir_base.declared.outcome.Place.{Place}
use Rattle.rule_laws.specs.ir_calls.Calls.{first_call, is_null}
use Rattle.rule_laws.specs.rule_shape.Places.{places_where}
use Rattle.rule_laws.specs.rule_shape.Promise.{is_promise, is_wrong_promise, promise_operand, slot_named, slot_of, wrong_promise}
use Rattle.rule_laws.proofs.ir_laws.facts.Members.{each_behind}
use Rattle.rule_laws.proofs.ir_laws.facts.Truth.{equal_numbers}
use Rattle.pass_early_proof.proofs.early.renaming.Parts.{call_of_same, call_operand_same}
use Rattle.pass_early_proof.specs.early.renaming.Passes.{renamed_block, renamed_coroutine}
use Rattle.pass_early_proof.specs.early.renaming.Regular.{IsRegular}
use Rattle.pass_early.specs.Renaming.{is_renamed, renamed, renamed_instr}
use Rattle.pass_early.specs.declared.renaming.Renaming.{Renaming}
use Rattle.pass_early_proof.proofs.early.path_rules.RenamedOperands.{null_stays}
use Rattle.pass_early_proof.proofs.early.path_rules.SavedCalls.{by_promise, if_own, promise_by}
use Rattle.rule_laws.specs.ir_parts.Parts.{place_if}
use Rattle.ir_model.specs.declared.instr.Instr.{Instr}
use Rattle.ir_model.specs.declared.module.Block.{Block}
use Rattle.ir_model.specs.declared.module.Function.{Function}
use Rattle.ir_model.specs.declared.operand.Intrinsic.{Intrinsic}
use Rattle.ir_model.specs.declared.operand.Operand.{Operand}
use Rattle.rule_laws.specs.ir_paths.Slots.{allocas_in, allocas_of}
use Rattle.rule_laws.specs.ir_paths.Windows.{call_operand, instr_at, instr_in, is_call_of}
use Rattle.rule_laws.specs.run_laws.changed.Changed.{Each, result_of}
use Rattle.pass_early_proof.proofs.early.path_rules.RenamedCalls.{either_stays, first_call_renamed, places_same}

-- no alloca is a value of coro.frame
module _ (r : Renaming) where
  abbrev Stays : ℕ → Type 0
  Stays v = is_renamed r v ≡ false

  slots_stay : (is : List Instr) → ((k : ℕ) (i : Instr) (v : ℕ) → slice_get is k ≡ Some i → result_of i ≡ Some v → is_call_of Intrinsic.CoroFrame i ≡ false → Stays v) → Each Stays (allocas_in is)
  slots_stay [] h = tt
  slots_stay (Instr.Alloca name ty align ∷ is) h = (h 0 (Instr.Alloca name ty align) name refl refl refl, slots_stay is (λ k i v e d c. h (suc k) i v e d c))
  slots_stay (_ ∷ is) h = slots_stay is (λ k i v e d c. h (suc k) i v e d c)

  missed : (v : ℕ) (vs : List ℕ) → is_renamed r v ≡ true → Each Stays vs → position_or_len (λ a. a == v) vs ≡ length vs
  missed v [] renamed h = refl
  missed v (a ∷ vs) renamed h = ap (λ (b : Bool). cond (not b) (1 + position_or_len (λ a. a == v) vs) 0) (apart (a == v) refl) ∙ (let again = missed v vs renamed h.1 in omega (arith, again))
    where
      apart : (b : Bool) → (a == v) ≡ b → b ≡ false
      apart true e = let t : true ≡ false = sym renamed ∙ ap (is_renamed r) (sym (equal_numbers a v e)) ∙ h.0 in absurd (cc)
      apart false e = refl

  not_below : (n : ℕ) → nat_lt n n ≡ false
  not_below n = le-ltb n n (omega arith)

  no_slot : (v : ℕ) (vs : List ℕ) → is_renamed r v ≡ true → Each Stays vs → is_some (position (λ a. a == v) vs) ≡ false
  no_slot v vs renamed h =
      let n : ℕ = position_or_len (λ a. a == v) vs in
      ap (λ (m : ℕ). is_some (cond (nat_lt n m) (Some n) None)) (sym (missed v vs renamed h))
      ∙ ap (λ (b : Bool). is_some (cond b (Some n) None)) (not_below n)

  allocas_renamed : (is : List Instr) → allocas_in (map (renamed_instr r) is) ≡ allocas_in is
  allocas_renamed [] = refl
  allocas_renamed (Instr.Alloca name ty align ∷ is) = ap (λ (vs : List ℕ). name ∷ vs) (allocas_renamed is)
  allocas_renamed (Instr.Binary result op flags ty a b ∷ is) = allocas_renamed is
  allocas_renamed (Instr.Icmp result pred ty a b ∷ is) = allocas_renamed is
  allocas_renamed (Instr.Select result x a b ∷ is) = allocas_renamed is
  allocas_renamed (Instr.Cast result op nneg arg to ∷ is) = allocas_renamed is
  allocas_renamed (Instr.Load result ty p align ∷ is) = allocas_renamed is
  allocas_renamed (Instr.Store arg p align ∷ is) = allocas_renamed is
  allocas_renamed (Instr.Gep result inbounds ty base indices ∷ is) = allocas_renamed is
  allocas_renamed (Instr.Call result must_tail ty callee args ∷ is) = allocas_renamed is

module _ (r : Renaming) (func : ℕ) (f : Function) (ok : IsRegular f r) where
  abbrev g : Function
  g = renamed_coroutine r f

  all_slots : (bs : List Block) → ((k j : ℕ) (b : Block) (i : Instr) (v : ℕ) → slice_get bs k ≡ Some b → slice_get b.instrs j ≡ Some i → result_of i ≡ Some v → is_call_of Intrinsic.CoroFrame i ≡ false → Stays r v) → Each (Stays r) (flat_map (λ b. allocas_in b.instrs) bs)
  all_slots [] h = tt
  all_slots (b ∷ bs) h = each_behind (Stays r) (allocas_in b.instrs) (flat_map (λ c. allocas_in c.instrs) bs) (slots_stay r b.instrs (λ j i v e d c. h 0 j b i v refl e d c)) (all_slots bs (λ k j c i v e d q w. h (suc k) j c i v e d q w))

  allocas_stay : Each (Stays r) (allocas_of f)
  allocas_stay = all_slots f.blocks (λ k j b i v e d result other. on k j i v (ap (λ (o : Option Block). instr_in o j) e ∙ d) result other (is_renamed r v) refl)
    where
      on : (k j : ℕ) (i : Instr) (v : ℕ) → instr_at f (record { block = k; at = j }) ≡ Some i → result_of i ≡ Some v → is_call_of Intrinsic.CoroFrame i ≡ false → (b : Bool) → is_renamed r v ≡ b → b ≡ false
      on k j i v e result other true renamed = let t : true ≡ false = sym (ok.frame_calls (record { block = k; at = j }) i v e result renamed) ∙ other in absurd (cc)
      on k j i v e result other false renamed = refl

  pub allocas_same : (bs : List Block) → flat_map (λ b. allocas_in b.instrs) (map (renamed_block r) bs) ≡ flat_map (λ b. allocas_in b.instrs) bs
  allocas_same [] = refl
  allocas_same (b ∷ bs) = λ k. allocas_renamed r b.instrs k ++ allocas_same bs k

  slot_same : (v : ℕ) → slot_of g v ≡ slot_of f v
  slot_same v = ap (position (λ a. a == v)) (allocas_same f.blocks)

  local_named : (v : ℕ) (b : Bool) → is_renamed r v ≡ b → is_some (slot_of f v) ≡ true → is_some (slot_of g (if b then r.to else v)) ≡ true
  local_named v true renamed e = let t : true ≡ false = sym e ∙ no_slot r v (allocas_of f) renamed allocas_stay in absurd (cc)
  local_named v false renamed e = ap is_some (slot_same v) ∙ e

  named_stays : (x : Operand) → is_some (slot_named f x) ≡ true → is_some (slot_named g (renamed r x)) ≡ true
  named_stays (Operand.Local v) e = local_named v (is_renamed r v) refl e
  named_stays _ e = absurd (cc)

  promise_stays : (x : Operand) → is_promise f x ≡ true → is_promise g (renamed r x) ≡ true
  promise_stays x e = either_stays (is_null x) (is_some (slot_named f x)) (is_null (renamed r x)) (is_some (slot_named g (renamed r x))) (null_stays r x) (named_stays x) e

  is_right_one : (b : Bool) → not b ≡ false → b ≡ true
  is_right_one true e = refl
  is_right_one false e = absurd (cc)

  operand_stays : (o : Option Instr) → is_wrong_promise f (option_map (λ i. call_operand i 1) o) ≡ false → is_wrong_promise g (option_map (λ i. call_operand i 1) (option_map (renamed_instr r) o)) ≡ false
  operand_stays None e = refl
  operand_stays (Some i) e =
      ap (λ (x : Operand). not (is_promise g x)) (call_operand_same r i 1)
      ∙ ap not (promise_stays (call_operand i 1) (is_right_one (is_promise f (call_operand i 1)) e))

  pub wrong_promise_renamed : wrong_promise func f ≡ None → wrong_promise func g ≡ None
  wrong_promise_renamed e =
      if_own f.coroutine
      (option_and_then (place_if (is_wrong_promise f (promise_operand f))) (slice_get (places_where (is_call_of Intrinsic.CoroId) func f) 0))
      (option_and_then (place_if (is_wrong_promise g (promise_operand g))) (slice_get (places_where (is_call_of Intrinsic.CoroId) func g) 0))
      (λ h. by_promise (is_wrong_promise g (promise_operand g)) (slice_get (places_where (is_call_of Intrinsic.CoroId) func g) 0) (on (promise_by (is_wrong_promise f (promise_operand f)) (slice_get (places_where (is_call_of Intrinsic.CoroId) func f) 0) h)))
      e
    where
      on : (is_wrong_promise f (promise_operand f) ≡ false) ⊎ (slice_get (places_where (is_call_of Intrinsic.CoroId) func f) 0 ≡ None) → (is_wrong_promise g (promise_operand g) ≡ false) ⊎ (slice_get (places_where (is_call_of Intrinsic.CoroId) func g) 0 ≡ None)
      on (inl w) = inl (ap (λ (o : Option Instr). is_wrong_promise g (option_map (λ i. call_operand i 1) o)) (first_call_renamed r Intrinsic.CoroId f) ∙ operand_stays (first_call Intrinsic.CoroId f) w)
      on (inr n) = inr (ap (λ (ps : List Place). slice_get ps 0) (places_same r (is_call_of Intrinsic.CoroId) (call_of_same r Intrinsic.CoroId) func f) ∙ n)
