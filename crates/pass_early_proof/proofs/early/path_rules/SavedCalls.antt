-- The calls of a function whose saves are written out: rules K2, K4, K10 and K11.
use Rattle.std.proofs.Common.{◌≡◌, ◌⊎◌, inl, inr, ℕ, ◌+◌, Bool, true, false, List, [], ◌∷◌, ◌++◌, length, refl, sym, ap, ◌∙◌, subst, arith, length-append}
use Rattle.std.proofs.lemmas.Option.{slice_get_past}
use Rattle.std.specs.Prelude.{Some, None, Option, find, is_none, is_some, not, option_and_then, option_map, position, slice_get, if◌then◌else◌, ◌==◌, ◌&&◌, ◌||◌}
use Rattle.rule_laws.specs.ir_base.declared.outcome.Place.{Place}
use Rattle.rule_laws.specs.ir_calls.Calls.{first_call, first_call_by, first_call_in, is_null, or_instr}
use Rattle.rule_laws.specs.rule_shape.OneOfEach.{breaks_calls, calls_of, has_no_other_frame, is_first_in_block, is_right, is_right_instr, is_second, second_call, wrong_call}
use Rattle.rule_laws.specs.rule_shape.Places.{is_spot, is_the, place_of_passing, places_by, places_in, places_where}
use Rattle.rule_laws.specs.rule_shape.Promise.{is_wrong_promise, promise_operand, slot_named, wrong_promise}
use Rattle.rule_laws.specs.rule_shape.Suspends.{is_final_suspend, is_suspend, second_final, suspend_too_many}
use Rattle.rule_laws.specs.rule_shape.declared.one_of_each.Calls.{Calls}
use Rattle.rule_laws.proofs.ir_laws.facts.Truth.{equal_numbers, second_false as no_call_breaks}
use Rattle.rule_laws.proofs.rules.renamed.Switches.{none_part}
use Rattle.pass_early.specs.Early.{save_call, saved}
use Rattle.rule_laws.proofs.rules.path_rules.Holding.{HoldsIn, HoldsOf, of_parts, part_none, to_parts}
use Rattle.pass_early_proof.proofs.early.path_rules.Origins.{ComesFrom, IsSavedBlock, Saves, Stays, Suspends, block_from, comes_from, number_least}
use Rattle.rule_laws.proofs.rules.source_rules.Once.{no_second_begin, no_second_end, no_second_id}
use Rattle.rule_laws.specs.ir_parts.Parts.{OfInstr, first_part, instr_place, parts_of, place_if}
use Rattle.ir_model.specs.declared.instr.Instr.{Instr}
use Rattle.ir_model.specs.declared.module.Block.{Block}
use Rattle.ir_model.specs.declared.module.Function.{Function}
use Rattle.ir_model.specs.declared.operand.Arg.{Arg}
use Rattle.ir_model.specs.declared.operand.Callee.{Callee}
use Rattle.ir_model.specs.declared.operand.Intrinsic.{Intrinsic}
use Rattle.ir_model.specs.declared.operand.Operand.{Operand}
use Rattle.rule_laws.specs.ir_paths.Windows.{call_operand, call_result, is_call_of}
use Rattle.rule_laws.proofs.ir_laws.facts.Lists.{none_past}
use Rattle.pass_early_proof.proofs.early.saves.Slots.{same_allocas}
use Rattle.pass_early_proof.proofs.early.saves.Tokens.{bare_is}
use Rattle.pass_early_proof.specs.early.saves.SavesWritten.{behind_save, behind_saves, is_bare, saved_blocks, saved_function, with_save, with_saves}
use Rattle.pass_early_proof.specs.early.saves.Spots.{number_of_block, place_in}
use Rattle.rule_laws.specs.ir_laws.paths.expanded.Tokens.{HasNamedTokens}

-- ---- how many instructions pass a test

-- no written save passes, and a suspend passes with its save as without
pub record IsOwn (t : Instr → Bool) : Type 0 where
  pub save : (n : ℕ) → t (save_call n) ≡ false
  pub saved_one : (c : Bool) (n : ℕ) (i : Instr) → is_bare c i ≡ true → t (saved n i) ≡ t i

-- a call of another intrinsic than save
pub own_call : (k : Intrinsic) → ((n : ℕ) → is_call_of k (save_call n) ≡ false) → IsOwn (is_call_of k)
own_call k h = record {
  save = h;
  saved_one = λ c n i e. let is = bare_is c i e in ap (λ (x : Instr). is_call_of k (saved n x)) is.is ∙ sym (ap (is_call_of k) is.is);
}

own_final : IsOwn is_final_suspend
own_final = record {
  save = λ n. refl;
  saved_one = λ c n i e. let is = bare_is c i e in ap (λ (x : Instr). is_final_suspend (saved n x)) is.is ∙ sym (ap is_final_suspend is.is);
}

module _ (t : Instr → Bool) (own : IsOwn t) (func : ℕ) where
  one : (i : Instr) (p q : Place) → length (place_of_passing t i p) ≡ length (place_of_passing t i q)
  one i p q = on (t i)
    where
      on : (b : Bool) → length (if b then p ∷ [] else []) ≡ length (if b then q ∷ [] else [])
      on true = refl
      on false = refl

  group_count : (c : Bool) (n : ℕ) (i : Instr) (rest : List Instr) (block at : ℕ) (p : Place) → (k : ℕ) × (length (places_in t func block at (with_save c n i ++ rest)) ≡ length (place_of_passing t i p) + length (places_in t func block k rest))
  group_count c n i rest block at p = on (is_bare c i) refl
    where
      on : (b : Bool) → is_bare c i ≡ b → (k : ℕ) × (length (places_in t func block at ((if b then save_call n ∷ saved n i ∷ [] else i ∷ []) ++ rest)) ≡ length (place_of_passing t i p) + length (places_in t func block k rest))
      on true e = (
        at + 1 + 1,
        ap (λ (b : Bool). length ((if b then instr_place func block at ∷ [] else []) ++ (place_of_passing t (saved n i) (instr_place func block (at + 1)) ++ places_in t func block (at + 1 + 1) rest))) (own.save n)
            ∙ length-append (place_of_passing t (saved n i) (instr_place func block (at + 1))) (places_in t func block (at + 1 + 1) rest)
            ∙ ap (λ (b : Bool). length (if b then instr_place func block (at + 1) ∷ [] else []) + length (places_in t func block (at + 1 + 1) rest)) (own.saved_one c n i e)
            ∙ ap (λ (m : ℕ). m + length (places_in t func block (at + 1 + 1) rest)) (one i (instr_place func block (at + 1)) p),
      )
      on false e = (
        at + 1,
        length-append (place_of_passing t i (instr_place func block at)) (places_in t func block (at + 1) rest)
            ∙ ap (λ (m : ℕ). m + length (places_in t func block (at + 1) rest)) (one i (instr_place func block at) p),
      )

  count_in : (c : Bool) (n : ℕ) (is : List Instr) (block at from : ℕ) → length (places_in t func block at (with_saves c n is)) ≡ length (places_in t func block from is)
  count_in c n [] block at from = refl
  count_in c n (i ∷ is) block at from =
      let first = group_count c n i (with_saves c (behind_save c n i) is) block at (instr_place func block from) in
      first.1
      ∙ ap (λ (m : ℕ). length (place_of_passing t i (instr_place func block from)) + m) (count_in c (behind_save c n i) is block first.0 (from + 1))
      ∙ sym (length-append (place_of_passing t i (instr_place func block from)) (places_in t func block (from + 1) is))

  count_by : (c : Bool) (n : ℕ) (bs : List Block) (block : ℕ) → length (places_by t func block (saved_blocks c n bs)) ≡ length (places_by t func block bs)
  count_by c n [] block = refl
  count_by c n (b ∷ bs) block =
      let first = count_in c n b.instrs block (length b.phis) (length b.phis) in
      let rest = count_by c (behind_saves c n b.instrs) bs (block + 1) in
      length-append (places_in t func block (length b.phis) (with_saves c n b.instrs)) (places_by t func (block + 1) (saved_blocks c (behind_saves c n b.instrs) bs))
      ∙ (λ k. first k + rest k)
      ∙ sym (length-append (places_in t func block (length b.phis) b.instrs) (places_by t func (block + 1) bs))

  pub as_many_pass : (f : Function) → length (places_where t func (saved_function f)) ≡ length (places_where t func f)
  as_many_pass f = count_by f.coroutine (length f.names) f.blocks 0

  pub none_more : (f : Function) (k : ℕ) → slice_get (places_where t func f) k ≡ None → slice_get (places_where t func (saved_function f)) k ≡ None
  none_more f k e =
      let short = none_past (places_where t func f) k e in
      let same = as_many_pass f in
      slice_get_past (places_where t func (saved_function f)) k (omega (arith, short, same))

pub if_own : (c : Bool) (a b : Option Place) → (a ≡ None → b ≡ None) → (if c then a else None) ≡ None → (if c then b else None) ≡ None
if_own true a b h e = h e
if_own false a b h e = refl

-- ---- K4 and K11

pub second_final_saved : (func : ℕ) (f : Function) → second_final func f ≡ None → second_final func (saved_function f) ≡ None
second_final_saved func f e = if_own f.coroutine (slice_get (places_where is_final_suspend func f) 1) (slice_get (places_where is_final_suspend func (saved_function f)) 1) (none_more is_final_suspend own_final func f 1) e

pub too_many_saved : (func : ℕ) (f : Function) → suspend_too_many func f ≡ None → suspend_too_many func (saved_function f) ≡ None
too_many_saved func f e = if_own f.coroutine (slice_get (places_where is_suspend func f) 65536) (slice_get (places_where is_suspend func (saved_function f)) 65536) (none_more is_suspend (own_call Intrinsic.CoroSuspend (λ n. refl)) func f 65536) e

-- ---- the first call of an intrinsic

not_bare : (k : Intrinsic) → ((c : Bool) (i : Instr) → is_bare c i ≡ true → is_call_of k i ≡ false) → (c : Bool) (i : Instr) → is_call_of k i ≡ true → is_bare c i ≡ false
not_bare k h c i e = on (is_bare c i) refl
  where
    on : (b : Bool) → is_bare c i ≡ b → b ≡ false
    on true d = let t : true ≡ false = sym e ∙ h c i d in absurd (cc)
    on false d = refl

module _ (k : Intrinsic) (own : IsOwn (is_call_of k)) (other : (c : Bool) (i : Instr) → is_bare c i ≡ true → is_call_of k i ≡ false) where
  first_in_saved : (c : Bool) (n : ℕ) (is : List Instr) → first_call_in k (with_saves c n is) ≡ first_call_in k is
  first_in_saved c n [] = refl
  first_in_saved c n (i ∷ is) = on (is_bare c i) refl (first_in_saved c (behind_save c n i) is)
    where
      rest : List Instr
      rest = with_saves c (behind_save c n i) is

      on : (b : Bool) → is_bare c i ≡ b → first_call_in k rest ≡ first_call_in k is → first_call_in k ((if b then save_call n ∷ saved n i ∷ [] else i ∷ []) ++ rest) ≡ first_call_in k (i ∷ is)
      on true e again =
          ap (λ (b : Bool). if b then Some (save_call n) else find (is_call_of k) (saved n i ∷ rest)) (own.save n)
          ∙ ap (λ (b : Bool). if b then Some (saved n i) else find (is_call_of k) rest) (own.saved_one c n i e ∙ other c i e)
          ∙ again
          ∙ sym (ap (λ (b : Bool). if b then Some i else find (is_call_of k) is) (other c i e))
      on false e again = ap (λ (o : Option Instr). if is_call_of k i then Some i else o) again

  first_by_saved : (c : Bool) (n : ℕ) (bs : List Block) → first_call_by k (saved_blocks c n bs) ≡ first_call_by k bs
  first_by_saved c n [] = refl
  first_by_saved c n (b ∷ bs) =
      let first = first_in_saved c n b.instrs in
      let rest = first_by_saved c (behind_saves c n b.instrs) bs in
      λ j. or_instr (first j) (rest j)

  pub first_call_saved : (f : Function) → first_call k (saved_function f) ≡ first_call k f
  first_call_saved f = first_by_saved f.coroutine (length f.names) f.blocks

no_id : (c : Bool) (i : Instr) → is_bare c i ≡ true → is_call_of Intrinsic.CoroId i ≡ false
no_id c i e = let is = bare_is c i e in ap (is_call_of Intrinsic.CoroId) is.is

no_begin : (c : Bool) (i : Instr) → is_bare c i ≡ true → is_call_of Intrinsic.CoroBegin i ≡ false
no_begin c i e = let is = bare_is c i e in ap (is_call_of Intrinsic.CoroBegin) is.is

no_end : (c : Bool) (i : Instr) → is_bare c i ≡ true → is_call_of Intrinsic.CoroEnd i ≡ false
no_end c i e = let is = bare_is c i e in ap (is_call_of Intrinsic.CoroEnd) is.is

pub first_id : (f : Function) → first_call Intrinsic.CoroId (saved_function f) ≡ first_call Intrinsic.CoroId f
first_id = first_call_saved Intrinsic.CoroId (own_call Intrinsic.CoroId (λ n. refl)) no_id

pub first_begin : (f : Function) → first_call Intrinsic.CoroBegin (saved_function f) ≡ first_call Intrinsic.CoroBegin f
first_begin = first_call_saved Intrinsic.CoroBegin (own_call Intrinsic.CoroBegin (λ n. refl)) no_begin

pub first_end : (f : Function) → first_call Intrinsic.CoroEnd (saved_function f) ≡ first_call Intrinsic.CoroEnd f
first_end = first_call_saved Intrinsic.CoroEnd (own_call Intrinsic.CoroEnd (λ n. refl)) no_end

-- ---- K10

-- id is wrong, or there is none
pub promise_by : (b : Bool) (o : Option Place) → option_and_then (place_if b) o ≡ None → (b ≡ false) ⊎ (o ≡ None)
promise_by b None e = inr refl
promise_by true (Some p) e = absurd (cc)
promise_by false (Some p) e = inl refl

pub by_promise : (b : Bool) (o : Option Place) → (b ≡ false) ⊎ (o ≡ None) → option_and_then (place_if b) o ≡ None
by_promise b None h = refl
by_promise b (Some p) (inl e) = ap (λ (t : Bool). place_if t p) e
by_promise b (Some p) (inr e) = absurd (cc)

module _ (func : ℕ) (f : Function) (named : HasNamedTokens f) where
  abbrev g : Function
  g = saved_function f

  named_same : (x : Operand) → is_some (slot_named g x) ≡ is_some (slot_named f x)
  named_same (Operand.Local v) = ap (λ (vs : List ℕ). is_some (position (λ a. a == v) vs)) (same_allocas f named)
  named_same (Operand.Global n) = refl
  named_same (Operand.Number z) = refl
  named_same Operand.True = refl
  named_same Operand.False = refl
  named_same Operand.Null = refl
  named_same Operand.None = refl
  named_same Operand.Poison = refl

  wrong_same : (o : Option Operand) → is_wrong_promise g o ≡ is_wrong_promise f o
  wrong_same None = refl
  wrong_same (Some x) = ap (λ (b : Bool). not (is_null x || b)) (named_same x)

  promise_saved_same : is_wrong_promise g (promise_operand g) ≡ is_wrong_promise f (promise_operand f)
  promise_saved_same = ap (λ (o : Option Instr). is_wrong_promise g (option_map (λ i. call_operand i 1) o)) (first_id f) ∙ wrong_same (promise_operand f)

  pub wrong_promise_saved : wrong_promise func f ≡ None → wrong_promise func g ≡ None
  wrong_promise_saved e =
      if_own f.coroutine
      (option_and_then (place_if (is_wrong_promise f (promise_operand f))) (slice_get (places_where (is_call_of Intrinsic.CoroId) func f) 0))
      (option_and_then (place_if (is_wrong_promise g (promise_operand g))) (slice_get (places_where (is_call_of Intrinsic.CoroId) func g) 0))
      (λ h. by_promise (is_wrong_promise g (promise_operand g)) (slice_get (places_where (is_call_of Intrinsic.CoroId) func g) 0) (on (promise_by (is_wrong_promise f (promise_operand f)) (slice_get (places_where (is_call_of Intrinsic.CoroId) func f) 0) h)))
      e
    where
      on : (is_wrong_promise f (promise_operand f) ≡ false) ⊎ (slice_get (places_where (is_call_of Intrinsic.CoroId) func f) 0 ≡ None) → (is_wrong_promise g (promise_operand g) ≡ false) ⊎ (slice_get (places_where (is_call_of Intrinsic.CoroId) func g) 0 ≡ None)
      on (inl w) = inl (promise_saved_same ∙ w)
      on (inr n) = inr (none_more (is_call_of Intrinsic.CoroId) (own_call Intrinsic.CoroId (λ n. refl)) func f 0 n)

-- ---- K2

-- an end that stands first in its block stays first
first_stays : (c : Bool) (k n phis : ℕ) (is : List Instr) → is_the (Some (phis + k)) 0 ≡ true → is_the (Some (phis + place_in c k n is)) 0 ≡ true
first_stays c k n phis is e =
    let sum : phis + k ≡ 0 = equal_numbers (phis + k) 0 e in
    let first : k ≡ 0 = omega (arith, sum) in
    let none : phis ≡ 0 = omega (arith, sum) in
    let both : phis + place_in c k n is ≡ 0 = (λ i. none i + place_in c (first i) n is) in
    ap (λ (x : ℕ). x == 0) both

right_stays : (s : Calls) (p q : Place) (j : Intrinsic) (args : List Arg) → (is_first_in_block p ≡ true → is_first_in_block q ≡ true) → is_right s p j args ≡ true → is_right s q j args ≡ true
right_stays s p q Intrinsic.CoroEnd args h e = on (is_first_in_block p) refl e
  where
    on : (b : Bool) → is_first_in_block p ≡ b → (b && has_no_other_frame s args) ≡ true → (is_first_in_block q && has_no_other_frame s args) ≡ true
    on true d k = ap (λ (t : Bool). t && has_no_other_frame s args) (h d) ∙ k
    on false d k = absurd (cc)
right_stays s p q Intrinsic.CoroAlloc args h e = e
right_stays s p q Intrinsic.CoroBegin args h e = e
right_stays s p q Intrinsic.CoroFree args h e = e
right_stays s p q Intrinsic.CoroSave args h e = e
right_stays s p q _ args h e = refl

instr_right : (s : Calls) (p q : Place) (i : Instr) → (is_first_in_block p ≡ true → is_first_in_block q ≡ true) → is_right_instr s p i ≡ true → is_right_instr s q i ≡ true
instr_right s p q (Instr.Call result must_tail ty (Callee.Intrinsic j) args) h e = right_stays s p q j args h e
instr_right s p q _ h e = refl

module _ (func : ℕ) (f : Function) (coroutine : f.coroutine ≡ true) (calls : wrong_call func f ≡ None) where
  abbrev h : Function
  h = saved_function f

  abbrev s : Calls
  s = calls_of func f

  seconds : (second_call Intrinsic.CoroId func f ≡ None) × (second_call Intrinsic.CoroBegin func f ≡ None) × (second_call Intrinsic.CoroEnd func f ≡ None)
  seconds = (no_second_id func f coroutine calls, no_second_begin func f coroutine calls, no_second_end func f coroutine calls)

  calls_same : calls_of func h ≡ s
  calls_same = λ k. record {
    is_missing = is_none (first_id f k) || (is_none (first_begin f k) || is_none (first_end f k));
    second_id = (none_more (is_call_of Intrinsic.CoroId) (own_call Intrinsic.CoroId (λ n. refl)) func f 1 seconds.0 ∙ sym seconds.0) k;
    second_begin = (none_more (is_call_of Intrinsic.CoroBegin) (own_call Intrinsic.CoroBegin (λ n. refl)) func f 1 seconds.1 ∙ sym seconds.1) k;
    second_end = (none_more (is_call_of Intrinsic.CoroEnd) (own_call Intrinsic.CoroEnd (λ n. refl)) func f 1 seconds.2 ∙ sym seconds.2) k;
    token = option_and_then call_result (first_id f k);
    frame = option_and_then call_result (first_begin f k);
  }

  none_second : (p : Place) → is_second s p ≡ false
  none_second p =
      ap (λ (o : Option Place). is_spot o p || (is_spot s.second_begin p || is_spot s.second_end p)) seconds.0
      ∙ ap (λ (o : Option Place). is_spot o p || is_spot s.second_end p) seconds.1
      ∙ ap (λ (o : Option Place). is_spot o p) seconds.2

  parts : HoldsOf (λ x. breaks_calls s x.0 x.1 ≡ false) func f
  parts = of_parts (λ x. breaks_calls s x.0 x.1 ≡ false) func f (none_part (breaks_calls s) (parts_of func f) (subst (λ (b : Bool). (if b then first_part (breaks_calls s) (parts_of func f) else None) ≡ None) coroutine calls))

  no_break : (q : Place) (y : Instr) → is_right_instr s q y ≡ true → breaks_calls s q (OfInstr y) ≡ false
  no_break q y e = (λ k. none_second q k || not (e k))

  saved_right : (name : ℕ) (c : Bool) (i : Instr) (q : Place) → is_bare c i ≡ true → is_right_instr s q (saved name i) ≡ true
  saved_right name c i q e = let is = bare_is c i e in ap (λ (x : Instr). is_right_instr s q (saved name x)) is.is

  abbrev number : ℕ → ℕ
  number k = number_of_block f.coroutine k (length f.names) f.blocks

  instr_then : (k : ℕ) (b : Block) → HoldsIn (λ x. breaks_calls s x.0 x.1 ≡ false) func k b → (j : ℕ) (y : Instr) → ComesFrom f.coroutine (length f.names) (number k) b.instrs j y → breaks_calls s (instr_place func k (length b.phis + j)) (OfInstr y) ≡ false
  instr_then k b holds j y (Stays m e bare at) =
      let right = (no_call_breaks (is_second s (instr_place func k (length b.phis + m))) (is_right_instr s (instr_place func k (length b.phis + m)) y) (holds.instrs m y e)).1 in
      no_break (instr_place func k (length b.phis + j)) y
      (instr_right s (instr_place func k (length b.phis + m)) (instr_place func k (length b.phis + j)) y
      (λ first. subst (λ (x : ℕ). is_the (Some (length b.phis + x)) 0 ≡ true) (sym at) (first_stays f.coroutine m (number k) (length b.phis) b.instrs first)) right)
  instr_then k b holds j y (Suspends m name i e bare le at same) =
      no_break (instr_place func k (length b.phis + j)) y (ap (is_right_instr s (instr_place func k (length b.phis + j))) same ∙ saved_right name f.coroutine i (instr_place func k (length b.phis + j)) bare)
  instr_then k b holds j y (Saves m name i e bare le at same) =
      no_break (instr_place func k (length b.phis + j)) y (ap (is_right_instr s (instr_place func k (length b.phis + j))) same)

  block_then : (k : ℕ) (d : Block) (x : IsSavedBlock f k d) → HoldsIn (λ x. breaks_calls s x.0 x.1 ≡ false) func k x.block → HoldsIn (λ x. breaks_calls s x.0 x.1 ≡ false) func k d
  block_then k d x holds =
      subst (HoldsIn (λ x. breaks_calls s x.0 x.1 ≡ false) func k) (sym x.is)
      (record {
        head = refl;
        phis = λ j p e. refl;
        instrs = λ j y e. instr_then k x.block holds j y (comes_from f.coroutine (length f.names) (number k) x.block.instrs j y (number_least f k) e);
        ending = refl;
      })

  pub wrong_call_saved : wrong_call func h ≡ None
  wrong_call_saved =
      subst (λ (b : Bool). (if b then first_part (breaks_calls (calls_of func h)) (parts_of func h) else None) ≡ None) (sym coroutine)
      (subst (λ (c : Calls). first_part (breaks_calls c) (parts_of func h) ≡ None) (sym calls_same)
      (part_none (breaks_calls s) (parts_of func h) (to_parts (λ x. breaks_calls s x.0 x.1 ≡ false) func h (record {
        signature = parts.signature;
        blocks = λ k d e. let x = block_from f k d e in block_then k d x (parts.blocks k x.block x.got);
      }))))
