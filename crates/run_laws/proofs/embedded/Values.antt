-- Numbers and values that stand for others.
use Rattle.std.proofs.Common.{◌≡◌, ◌≢◌, ℕ, zero, suc, ◌<◌, Bool, true, false, List, [], ◌∷◌, length, Option, Some, None, Ok, Err, refl, sym, ap, ◌∙◌, subst, ⊎_elim, inl, inr, arith, if◌then◌else◌, ◌&&◌, ◌||◌, ◌==◌}
use Rattle.std.specs.Prelude.{slice_get, slice_set, option_map}
use Rattle.std.proofs.lemmas.Bool.{cases_eq, cases_lt, eqb-true, or_cases}
use Rattle.std.proofs.lemmas.Option.{slice_get_past}
use Rattle.run_memory.specs.declared.pointer.Access.{Access}
use Rattle.run_memory.specs.declared.pointer.Value.{Value}
use Rattle.ir_base.specs.declared.cause.Cause.{Cause}
use Rattle.ir_base.specs.declared.ops.BinOp.{BinOp}
use Rattle.ir_base.specs.declared.ops.CastOp.{CastOp}
use Rattle.ir_base.specs.declared.ops.Flags.{Flags}
use Rattle.ir_base.specs.declared.ops.Pred.{Pred}
use Rattle.ir_base.specs.declared.outcome.Word.{Word}
use Rattle.run_ints.specs.Numbers.{binary, cast, computed, divided, divides_by_minus_one, icmp, is_division, is_least}
use Rattle.run_ints.specs.declared.num.Num.{Num}
use Rattle.ir_model.specs.Ty.{Ty, array, int, named, ptr, structure, token}
use Rattle.run_laws.specs.memory.Pointers.{Home, IsValue}
use Rattle.run_laws.specs.memory.Standing.{IsAlignment}
use Rattle.run_step.specs.Step.{cast_to, chosen, is_alignment, words_of}
use Rattle.run_step.specs.Values.{Env, address, nth, number_at, number_of_width, stored, value_in, value_of, value_or_poison, with_result, with_value}
use Rattle.run_laws.specs.embedded.Related.{AreEnvs, AreValues}

-- ---- numbers

-- for poison any number may stand
abbrev pub IsNum : Num → Num → Type 0
IsNum Num.Poison b = Unit {0}
IsNum (Num.Is x) b = b ≡ Num.Is x

num_itself : (a : Num) → IsNum a a
num_itself Num.Poison = tt
num_itself (Num.Is x) = refl

module _ (homes : List Home) where
  pub value_of_kept : (a b : Num) → IsNum a b → IsValue homes (value_of a) (value_of b)
  value_of_kept Num.Poison b h = tt
  value_of_kept (Num.Is x) b h = ap value_of h

  pub width_kept : (n : ℕ) (v w : Value) → IsValue homes v w → IsNum (number_of_width n v) (number_of_width n w)
  width_kept n Value.Poison w h = tt
  width_kept n (Value.Int x) w h = subst (λ (u : Value). IsNum (number_of_width n (Value.Int x)) (number_of_width n u)) (sym h) (num_itself (number_of_width n (Value.Int x)))
  width_kept n (Value.Ptr p) w h = tt

  pub number_kept : (ty : Ty) (v w : Value) → IsValue homes v w → IsNum (number_at ty v) (number_at ty w)
  number_kept (int n) v w h = width_kept n v w h
  number_kept ptr v w h = tt
  number_kept token v w h = tt
  number_kept (array n t) v w h = tt
  number_kept (structure ts) v w h = tt
  number_kept (named n) v w h = tt

  pub address_kept : (v w : Value) → IsValue homes v w → IsValue homes (address v) (address w)
  address_kept Value.Poison w h = tt
  address_kept (Value.Int x) w h = tt
  address_kept (Value.Ptr p) w h = (h.0, ap address h.1)

  pub stored_kept : (what : Access) (v w : Value) → IsValue homes v w → IsValue homes (stored what v) (stored what w)
  stored_kept (Access.Int n) v w h = value_of_kept _ _ (width_kept n v w h)
  stored_kept Access.Ptr v w h = address_kept v w h

  pub chosen_kept : (x a b x' a' b' : Value) → IsValue homes x x' → IsValue homes a a' → IsValue homes b b' → IsValue homes (chosen x a b) (chosen x' a' b')
  chosen_kept Value.Poison a b x' a' b' hx ha hb = tt
  chosen_kept (Value.Ptr p) a b x' a' b' hx ha hb = tt
  chosen_kept (Value.Int x) a b x' a' b' hx ha hb = subst (λ (u : Value). IsValue homes (chosen (Value.Int x) a b) (chosen u a' b')) (sym hx) (on (x.bits == 1))
    where
      on : (t : Bool) → IsValue homes (if t then a else b) (if t then a' else b')
      on true = ha
      on false = hb

  -- ---- lists of values

  pub nth_kept : (vs ws : List Value) (i : ℕ) → AreValues homes vs ws → IsValue homes (nth vs i) (nth ws i)
  nth_kept [] [] i h = tt
  nth_kept [] (w ∷ ws) i h = absurd h
  nth_kept (v ∷ vs) [] i h = absurd h
  nth_kept (v ∷ vs) (w ∷ ws) zero h = h.0
  nth_kept (v ∷ vs) (w ∷ ws) (suc i) h = nth_kept vs ws i h.1

  pub words_kept : (vs ws : List Value) (xs : List Word) → AreValues homes vs ws → words_of vs ≡ Some xs → words_of ws ≡ Some xs
  words_kept [] [] xs h e = e
  words_kept [] (w ∷ ws) xs h e = absurd h
  words_kept (v ∷ vs) [] xs h e = absurd h
  words_kept (Value.Poison ∷ vs) (w ∷ ws) xs h e = absurd (cc)
  words_kept (Value.Ptr p ∷ vs) (w ∷ ws) xs h e = absurd (cc)
  words_kept (Value.Int x ∷ vs) (w ∷ ws) xs h e = on (words_of vs) refl e (λ ys f. words_kept vs ws ys h.1 f)
    where
      on : (o : Option (List Word)) → words_of vs ≡ o → option_map (λ ys. x ∷ ys) o ≡ Some xs → ((ys : List Word) → words_of vs ≡ Some ys → words_of ws ≡ Some ys) → words_of (w ∷ ws) ≡ Some xs
      on None f e again = absurd (cc)
      on (Some ys) f e again = ap (λ (u : Value). words_of (u ∷ ws)) h.0 ∙ ap (option_map (λ zs. x ∷ zs)) (again ys f) ∙ e

  -- ---- the values of an activation

  set_here : {A : Type 0} (l : List A) (i : ℕ) (x : A) → i < length l → slice_get (slice_set l i x) i ≡ Some x
  set_here [] i x lt = absurd (omega arith)
  set_here (y ∷ l) zero x lt = refl
  set_here (y ∷ l) (suc i) x lt = set_here l i x (omega arith)

  set_other : {A : Type 0} (l : List A) (i j : ℕ) (x : A) → j ≢ i → slice_get (slice_set l i x) j ≡ slice_get l j
  set_other [] i j x ne = refl
  set_other (y ∷ l) zero zero x ne = absurd (ne refl)
  set_other (y ∷ l) zero (suc j) x ne = refl
  set_other (y ∷ l) (suc i) zero x ne = refl
  set_other (y ∷ l) (suc i) (suc j) x ne = set_other l i j x (λ e. ne (ap suc e))

  length_set : {A : Type 0} (l : List A) (i : ℕ) (x : A) → length (slice_set l i x) ≡ length l
  length_set [] i x = refl
  length_set (y ∷ l) zero x = refl
  length_set (y ∷ l) (suc i) x = ap suc (length_set l i x)

  pub env_set : (env other : Env) (name : ℕ) (v w : Value) → AreEnvs homes env other → IsValue homes v w → AreEnvs homes (with_value env name v) (with_value other name w)
  env_set env other name v w h hv = record {
    each = λ i. ⊎_elim
        (λ e. subst (λ j. IsValue homes (value_in (with_value env name v) j) (value_in (with_value other name w) j)) (sym e) here)
        (λ ne.
        let a : value_in (with_value env name v) i ≡ value_in env i = ap value_or_poison (set_other env name i (Some v) ne) in
        let b : value_in (with_value other name w) i ≡ value_in other i = ap value_or_poison (set_other other name i (Some w) ne) in
        subst (λ (p : Value × Value). IsValue homes p.0 p.1) (λ k. (sym a k, sym b k)) (h.each i))
        (cases_eq i name);
    room = let a = length_set env name (Some v) in let b = length_set other name (Some w) in let r = h.room in omega arith;
  }
    where
      here : IsValue homes (value_in (with_value env name v) name) (value_in (with_value other name w) name)
      here = ⊎_elim
          (λ lt.
          let r = h.room in
          let a : value_in (with_value env name v) name ≡ v = ap value_or_poison (set_here env name (Some v) lt) in
          let b : value_in (with_value other name w) name ≡ w = ap value_or_poison (set_here other name (Some w) (omega arith)) in
          subst (λ (p : Value × Value). IsValue homes p.0 p.1) (λ k. (sym a k, sym b k)) hv)
          (λ ge.
          let l = length_set env name (Some v) in
          let a : value_in (with_value env name v) name ≡ Value.Poison = ap value_or_poison (slice_get_past (slice_set env name (Some v)) name (omega arith)) in
          subst (λ (u : Value). IsValue homes u (value_in (with_value other name w) name)) (sym a) tt)
          (cases_lt name (length env))

  pub env_result : (env other : Env) (name : Option ℕ) (v w : Value) → AreEnvs homes env other → IsValue homes v w → AreEnvs homes (with_result env name v) (with_result other name w)
  env_result env other None v w h hv = h
  env_result env other (Some name) v w h hv = env_set env other name v w h hv

-- ---- operations on numbers

computed_kept : (op : BinOp) (flags : Flags) (a b a' b' : Num) → IsNum a a' → IsNum b b' → IsNum (computed op flags a b) (computed op flags a' b')
computed_kept op flags Num.Poison b a' b' ha hb = tt
computed_kept op flags (Num.Is x) Num.Poison a' b' ha hb = tt
computed_kept op flags (Num.Is x) (Num.Is y) a' b' ha hb =
    subst (λ (p : Num × Num). IsNum (computed op flags (Num.Is x) (Num.Is y)) (computed op flags p.0 p.1)) (λ k. (sym ha k, sym hb k)) (num_itself (computed op flags (Num.Is x) (Num.Is y)))

-- what an operation gives that isn't refused
pub record IsComputed (op : BinOp) (flags : Flags) (a b n : Num) : Type 0 where
  pub number : Num
  pub gives : binary op flags a b ≡ Ok number
  pub stands : IsNum n number

first_false : (a b : Bool) → (a || b) ≡ false → a ≡ false
first_false true b e = absurd (cc)
first_false false b e = refl

second_false : (a b : Bool) → (a || b) ≡ false → b ≡ false
second_false true b e = absurd (cc)
second_false false b e = e

true_and : (a : Bool) → (a && true) ≡ a
true_and true = refl
true_and false = refl

divided_test : (op : BinOp) (y : Word) (a a' : Num) → IsNum a a' → ((y.bits == 0) || (divides_by_minus_one op y && is_least a)) ≡ false → ((y.bits == 0) || (divides_by_minus_one op y && is_least a')) ≡ false
divided_test op y Num.Poison a' h e =
    let zero_no = first_false _ _ e in
    let one_no : divides_by_minus_one op y ≡ false = sym (true_and (divides_by_minus_one op y)) ∙ second_false _ _ e in
    ap (λ t. t || (divides_by_minus_one op y && is_least a')) zero_no ∙ ap (λ t. t && is_least a') one_no
divided_test op y (Num.Is x) a' h e = ap (λ (u : Num). (y.bits == 0) || (divides_by_minus_one op y && is_least u)) h ∙ e

divided_on : (op : BinOp) (flags : Flags) (a b a' b' : Num) (n : Num) → IsNum a a' → IsNum b b' → divided op flags a b ≡ Ok n → (m : Num) × ((divided op flags a' b' ≡ Ok m) × IsNum n m)
divided_on op flags a Num.Poison a' b' n ha hb e = absurd (cc)
divided_on op flags a (Num.Is y) a' b' n ha hb e = on ((y.bits == 0) || (divides_by_minus_one op y && is_least a)) refl e
  where
    on : (t : Bool) → ((y.bits == 0) || (divides_by_minus_one op y && is_least a)) ≡ t → (if t then Err Cause.Div else Ok (computed op flags a (Num.Is y))) ≡ Ok n → (m : Num) × ((divided op flags a' b' ≡ Ok m) × IsNum n m)
    on true f e = absurd (cc)
    on false f e =
        let is : computed op flags a (Num.Is y) ≡ n = cc in
        (computed op flags a' (Num.Is y), (ap (divided op flags a') hb ∙ ap (λ (t : Bool). if t then Err Cause.Div else Ok (computed op flags a' (Num.Is y))) (divided_test op y a a' ha f), subst (λ (u : Num). IsNum u (computed op flags a' (Num.Is y))) is (computed_kept op flags a (Num.Is y) a' (Num.Is y) ha refl)))

pub binary_kept : (op : BinOp) (flags : Flags) (a b a' b' n : Num) → IsNum a a' → IsNum b b' → binary op flags a b ≡ Ok n → IsComputed op flags a' b' n
binary_kept op flags a b a' b' n ha hb e = on (is_division op) refl e
  where
    on : (t : Bool) → is_division op ≡ t → (if t then divided op flags a b else Ok (computed op flags a b)) ≡ Ok n → IsComputed op flags a' b' n
    on true f e =
        let r = divided_on op flags a b a' b' n ha hb e in
        record { number = r.0; gives = ap (λ (t : Bool). if t then divided op flags a' b' else Ok (computed op flags a' b')) f ∙ r.1.0; stands = r.1.1 }
    on false f e =
        let is : computed op flags a b ≡ n = cc in
        record { number = computed op flags a' b'; gives = ap (λ (t : Bool). if t then divided op flags a' b' else Ok (computed op flags a' b')) f; stands = subst (λ (u : Num). IsNum u (computed op flags a' b')) is (computed_kept op flags a b a' b' ha hb) }

pub icmp_kept : (pred : Pred) (a b a' b' : Num) → IsNum a a' → IsNum b b' → IsNum (icmp pred a b) (icmp pred a' b')
icmp_kept pred Num.Poison b a' b' ha hb = tt
icmp_kept pred (Num.Is x) Num.Poison a' b' ha hb = tt
icmp_kept pred (Num.Is x) (Num.Is y) a' b' ha hb = λ k. icmp pred (ha k) (hb k)

cast_kept : (op : CastOp) (nneg : Bool) (a a' : Num) (to : ℕ) → IsNum a a' → IsNum (cast op nneg a to) (cast op nneg a' to)
cast_kept op nneg Num.Poison a' to h = tt
cast_kept op nneg (Num.Is x) a' to h = subst (λ (u : Num). IsNum (cast op nneg (Num.Is x) to) (cast op nneg u to)) (sym h) (num_itself (cast op nneg (Num.Is x) to))

pub cast_to_kept : (homes : List Home) (op : CastOp) (nneg : Bool) (a a' : Num) (to : Ty) → IsNum a a' → IsValue homes (cast_to op nneg a to) (cast_to op nneg a' to)
cast_to_kept homes op nneg a a' (int w) h = value_of_kept homes _ _ (cast_kept op nneg a a' w h)
cast_to_kept homes op nneg a a' ptr h = tt
cast_to_kept homes op nneg a a' token h = tt
cast_to_kept homes op nneg a a' (array n t) h = tt
cast_to_kept homes op nneg a a' (structure ts) h = tt
cast_to_kept homes op nneg a a' (named n) h = tt

-- ---- alignments

pub alignment_is : (n : ℕ) → is_alignment n ≡ true → IsAlignment n
alignment_is n e = ⊎_elim
    (λ a. ⊎_elim
    (λ b. ⊎_elim
    (λ c. ⊎_elim (λ d. inl (eqb-true n 1 d)) (λ d. inr (inl (eqb-true n 2 d))) (or_cases _ _ c))
    (λ c. inr (inr (inl (eqb-true n 4 c))))
    (or_cases _ _ b))
    (λ b. inr (inr (inr (inl (eqb-true n 8 b)))))
    (or_cases _ _ a))
    (λ a. inr (inr (inr (inr (eqb-true n 16 a)))))
    (or_cases _ _ e)
