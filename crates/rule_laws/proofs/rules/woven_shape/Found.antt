-- The first call of an intrinsic, and how many there are, by the calls by which a function is a coroutine.
use Rattle.std.proofs.Common.{◌≡◌, ℕ, suc, ◌+◌, Bool, true, false, List, [], ◌∷◌, ◌++◌, length, refl, sym, ap, ◌∙◌, arith, length-append}
use Rattle.std.specs.List.{list_any}
use Rattle.std.specs.Prelude.{Some, None, Option, is_none, map, option_and_then, option_map, slice_get, unwrap_or, if◌then◌else◌, ◌||◌}
use Rattle.ir_laws.specs.ir_base.declared.outcome.Place.{Place}
use Rattle.ir_laws.specs.ir_calls.Calls.{first_call, first_call_by, first_call_in, or_instr, value_of_first}
use Rattle.rule_shape.specs.OneOfEach.{is_missing}
use Rattle.rule_shape.specs.Places.{place_of_passing, places_by, places_in, places_where}
use Rattle.rule_shape.specs.Switches.{end_label}
use Rattle.ir_parts.specs.Parts.{instr_place}
use Rattle.ir_laws.specs.ir_model.Calls.{first_result, first_result_by, first_result_in, or_else, result_of_call}
use Rattle.ir_laws.specs.ir_model.Names.{first_where, same_intrinsic}
use Rattle.ir_laws.specs.ir_model.declared.instr.Instr.{Instr}
use Rattle.ir_laws.specs.ir_model.declared.module.Block.{Block}
use Rattle.ir_laws.specs.ir_model.declared.module.Function.{Function}
use Rattle.ir_laws.specs.ir_model.declared.operand.Callee.{Callee}
use Rattle.ir_laws.specs.ir_model.declared.operand.Intrinsic.{Intrinsic}
use Rattle.ir_laws.specs.ir_paths.Windows.{call_result, is_call_of}
use Rattle.ir_laws.specs.facts.woven_rules.Pairs.{one_if}
use Rattle.rule_laws.specs.rules.woven_shape.Calls.{ShapingCall, call_at, calls_in, calls_of_block, is_shaping, joined, shaping_call, shaping_calls}

-- ---- what is found in a list of calls

abbrev pub count_of : Intrinsic → List ShapingCall → ℕ
count_of x [] = 0
count_of x (c ∷ cs) = one_if (same_intrinsic x c.intrinsic) + count_of x cs

abbrev pub or_found : Option (Option ℕ) → Option (Option ℕ) → Option (Option ℕ)
or_found (Some r) o = Some r
or_found None o = o

-- what the first has as a result
abbrev pub found : Intrinsic → List ShapingCall → Option (Option ℕ)
found x [] = None
found x (c ∷ cs) = if same_intrinsic x c.intrinsic then Some c.result else found x cs

-- the result of the first that has one
abbrev pub made : Intrinsic → List ShapingCall → Option ℕ
made x [] = None
made x (c ∷ cs) = or_else (if same_intrinsic x c.intrinsic then c.result else None) (made x cs)

-- the label of the block of the first
abbrev pub label_of_first : Intrinsic → List ShapingCall → Option ℕ
label_of_first x [] = None
label_of_first x (c ∷ cs) = if same_intrinsic x c.intrinsic then Some c.block else label_of_first x cs

or_else_joined : (a b c : Option ℕ) → or_else (or_else a b) c ≡ or_else a (or_else b c)
or_else_joined None b c = refl
or_else_joined (Some n) b c = refl

module _ (x : Intrinsic) where
  count_joined : (cs ds : List ShapingCall) → count_of x (cs ++ ds) ≡ count_of x cs + count_of x ds
  count_joined [] ds = let none : count_of x ds ≡ 0 + count_of x ds = omega arith in none
  count_joined (c ∷ cs) ds =
      let rest : count_of x (cs ++ ds) ≡ count_of x cs + count_of x ds = count_joined cs ds in
      let all : one_if (same_intrinsic x c.intrinsic) + count_of x (cs ++ ds) ≡ one_if (same_intrinsic x c.intrinsic) + count_of x cs + count_of x ds = omega (arith, rest) in
      all

  found_joined : (cs ds : List ShapingCall) → found x (cs ++ ds) ≡ or_found (found x cs) (found x ds)
  found_joined [] ds = refl
  found_joined (c ∷ cs) ds = on (same_intrinsic x c.intrinsic) (found_joined cs ds)
    where
      on : (t : Bool) → found x (cs ++ ds) ≡ or_found (found x cs) (found x ds) → (if t then Some c.result else found x (cs ++ ds)) ≡ or_found (if t then Some c.result else found x cs) (found x ds)
      on true e = refl
      on false e = e

  made_joined : (cs ds : List ShapingCall) → made x (cs ++ ds) ≡ or_else (made x cs) (made x ds)
  made_joined [] ds = refl
  made_joined (c ∷ cs) ds =
      ap (or_else (if same_intrinsic x c.intrinsic then c.result else None)) (made_joined cs ds)
      ∙ sym (or_else_joined (if same_intrinsic x c.intrinsic then c.result else None) (made x cs) (made x ds))

  label_joined : (cs ds : List ShapingCall) → label_of_first x (cs ++ ds) ≡ or_else (label_of_first x cs) (label_of_first x ds)
  label_joined [] ds = refl
  label_joined (c ∷ cs) ds = on (same_intrinsic x c.intrinsic) (label_joined cs ds)
    where
      on : (t : Bool) → label_of_first x (cs ++ ds) ≡ or_else (label_of_first x cs) (label_of_first x ds) → (if t then Some c.block else label_of_first x (cs ++ ds)) ≡ or_else (if t then Some c.block else label_of_first x cs) (label_of_first x ds)
      on true e = refl
      on false e = e

-- ---- what is found in a function

module _ (x : Intrinsic) (own : (y : Intrinsic) → is_shaping y ≡ false → same_intrinsic x y ≡ false) where
  -- how many calls there are
  one_counted : (b : Block) (at : ℕ) (i : Instr) (p : Place) → length (place_of_passing (is_call_of x) i p) ≡ count_of x (call_at b at i)
  one_counted b at (Instr.Call result must_tail ty (Callee.Intrinsic y) args) p = on (is_shaping y) refl
    where
      two : (u : Bool) → length (if u then p ∷ [] else []) ≡ one_if u + 0
      two true = refl
      two false = refl

      on : (t : Bool) → is_shaping y ≡ t → length (if same_intrinsic x y then p ∷ [] else []) ≡ count_of x (if t then shaping_call b at y result args ∷ [] else [])
      on true e = two (same_intrinsic x y)
      on false e = ap (λ (u : Bool). length (if u then p ∷ [] else [])) (own y e)
  one_counted b at _ p = refl

  instrs_counted : (b : Block) (func block at : ℕ) (is : List Instr) → length (places_in (is_call_of x) func block at is) ≡ count_of x (calls_in b at is)
  instrs_counted b func block at [] = refl
  instrs_counted b func block at (i ∷ is) =
      length-append (place_of_passing (is_call_of x) i (instr_place func block at)) (places_in (is_call_of x) func block (at + 1) is)
      ∙ (λ k. one_counted b at i (instr_place func block at) k + instrs_counted b func block (at + 1) is k)
      ∙ sym (count_joined x (call_at b at i) (calls_in b (at + 1) is))

  blocks_counted : (func block : ℕ) (bs : List Block) → length (places_by (is_call_of x) func block bs) ≡ count_of x (joined (map calls_of_block bs))
  blocks_counted func block [] = refl
  blocks_counted func block (b ∷ bs) =
      length-append (places_in (is_call_of x) func block (length b.phis) b.instrs) (places_by (is_call_of x) func (block + 1) bs)
      ∙ (λ k. instrs_counted b func block (length b.phis) b.instrs k + blocks_counted func (block + 1) bs k)
      ∙ sym (count_joined x (calls_of_block b) (joined (map calls_of_block bs)))

  pub counted : (func : ℕ) (f : Function) → length (places_where (is_call_of x) func f) ≡ count_of x (shaping_calls f)
  counted func f = blocks_counted func 0 f.blocks

  -- the first call
  instrs_found : (b : Block) (at : ℕ) (is : List Instr) → option_map call_result (first_call_in x is) ≡ found x (calls_in b at is)
  instrs_found b at [] = refl
  instrs_found b at (i ∷ is) = one i (instrs_found b (at + 1) is) ∙ sym (found_joined x (call_at b at i) (calls_in b (at + 1) is))
    where
      one : (i : Instr) → option_map call_result (first_call_in x is) ≡ found x (calls_in b (at + 1) is) → option_map call_result (first_call_in x (i ∷ is)) ≡ or_found (found x (call_at b at i)) (found x (calls_in b (at + 1) is))
      one (Instr.Call result must_tail ty (Callee.Intrinsic y) args) rest = on (is_shaping y) refl
        where
          two : (u : Bool) → option_map call_result (if u then Some (Instr.Call result must_tail ty (Callee.Intrinsic y) args) else first_call_in x is) ≡ or_found (if u then Some result else None) (found x (calls_in b (at + 1) is))
          two true = refl
          two false = rest

          on : (t : Bool) → is_shaping y ≡ t → option_map call_result (if same_intrinsic x y then Some (Instr.Call result must_tail ty (Callee.Intrinsic y) args) else first_call_in x is) ≡ or_found (found x (if t then shaping_call b at y result args ∷ [] else [])) (found x (calls_in b (at + 1) is))
          on true e = two (same_intrinsic x y)
          on false e = ap (λ (u : Bool). option_map call_result (if u then Some (Instr.Call result must_tail ty (Callee.Intrinsic y) args) else first_call_in x is)) (own y e) ∙ rest
      one _ rest = rest

  first_or : (o p : Option Instr) → option_map call_result (or_instr o p) ≡ or_found (option_map call_result o) (option_map call_result p)
  first_or None p = refl
  first_or (Some i) p = refl

  blocks_found : (bs : List Block) → option_map call_result (first_call_by x bs) ≡ found x (joined (map calls_of_block bs))
  blocks_found [] = refl
  blocks_found (b ∷ bs) =
      first_or (first_call_in x b.instrs) (first_call_by x bs)
      ∙ (λ k. or_found (instrs_found b (length b.phis) b.instrs k) (blocks_found bs k))
      ∙ sym (found_joined x (calls_of_block b) (joined (map calls_of_block bs)))

  none_mapped : (o : Option Instr) → is_none o ≡ is_none (option_map call_result o)
  none_mapped None = refl
  none_mapped (Some i) = refl

  value_mapped : (o : Option Instr) → option_and_then call_result o ≡ option_and_then (λ (r : Option ℕ). r) (option_map call_result o)
  value_mapped None = refl
  value_mapped (Some i) = refl

  pub missing_found : (f : Function) → is_missing x f ≡ is_none (found x (shaping_calls f))
  missing_found f = none_mapped (first_call x f) ∙ ap is_none (blocks_found f.blocks)

  pub value_found : (f : Function) → value_of_first x f ≡ option_and_then (λ (r : Option ℕ). r) (found x (shaping_calls f))
  value_found f = value_mapped (first_call x f) ∙ ap (option_and_then (λ (r : Option ℕ). r)) (blocks_found f.blocks)

  -- the first result
  instrs_made : (b : Block) (at : ℕ) (is : List Instr) → first_result_in x is ≡ made x (calls_in b at is)
  instrs_made b at [] = refl
  instrs_made b at (i ∷ is) = (λ k. or_else (one i k) (instrs_made b (at + 1) is k)) ∙ sym (made_joined x (call_at b at i) (calls_in b (at + 1) is))
    where
      none_behind : (o : Option ℕ) → o ≡ or_else o None
      none_behind None = refl
      none_behind (Some n) = refl

      one : (i : Instr) → result_of_call x i ≡ made x (call_at b at i)
      one (Instr.Call result must_tail ty (Callee.Intrinsic y) args) = on (is_shaping y) refl
        where
          on : (t : Bool) → is_shaping y ≡ t → (if same_intrinsic x y then result else None) ≡ made x (if t then shaping_call b at y result args ∷ [] else [])
          on true e = none_behind (if same_intrinsic x y then result else None)
          on false e = ap (λ (u : Bool). if u then result else None) (own y e)
      one _ = refl

  blocks_made : (bs : List Block) → first_result_by x bs ≡ made x (joined (map calls_of_block bs))
  blocks_made [] = refl
  blocks_made (b ∷ bs) = (λ k. or_else (instrs_made b (length b.phis) b.instrs k) (blocks_made bs k)) ∙ sym (made_joined x (calls_of_block b) (joined (map calls_of_block bs)))

  pub result_made : (f : Function) → first_result x f ≡ made x (shaping_calls f)
  result_made f = blocks_made f.blocks

  -- the block of the first
  instrs_label : (b : Block) (at : ℕ) (is : List Instr) → (if list_any (is_call_of x) is then Some b.label else None) ≡ label_of_first x (calls_in b at is)
  instrs_label b at [] = refl
  instrs_label b at (i ∷ is) = one i (instrs_label b (at + 1) is) ∙ sym (label_joined x (call_at b at i) (calls_in b (at + 1) is))
    where
      one : (i : Instr) → (if list_any (is_call_of x) is then Some b.label else None) ≡ label_of_first x (calls_in b (at + 1) is) → (if (is_call_of x i || list_any (is_call_of x) is) then Some b.label else None) ≡ or_else (label_of_first x (call_at b at i)) (label_of_first x (calls_in b (at + 1) is))
      one (Instr.Call result must_tail ty (Callee.Intrinsic y) args) rest = on (is_shaping y) refl
        where
          two : (u : Bool) → (if (u || list_any (is_call_of x) is) then Some b.label else None) ≡ or_else (if u then Some b.label else None) (label_of_first x (calls_in b (at + 1) is))
          two true = refl
          two false = rest

          on : (t : Bool) → is_shaping y ≡ t → (if (same_intrinsic x y || list_any (is_call_of x) is) then Some b.label else None) ≡ or_else (label_of_first x (if t then shaping_call b at y result args ∷ [] else [])) (label_of_first x (calls_in b (at + 1) is))
          on true e = two (same_intrinsic x y)
          on false e = ap (λ (u : Bool). if (u || list_any (is_call_of x) is) then Some b.label else None) (own y e) ∙ rest
      one _ rest = rest

  abbrev has_call : Block → Bool
  has_call b = list_any (is_call_of x) b.instrs

  blocks_label : (bs : List Block) → option_map (λ (b : Block). b.label) (slice_get bs (unwrap_or (first_where has_call bs) (length bs))) ≡ label_of_first x (joined (map calls_of_block bs))
  blocks_label [] = refl
  blocks_label (b ∷ bs) =
      on (has_call b)
      ∙ (λ k. or_else (instrs_label b (length b.phis) b.instrs k) (blocks_label bs k))
      ∙ sym (label_joined x (calls_of_block b) (joined (map calls_of_block bs)))
    where
      later : (o : Option ℕ) → option_map (λ (c : Block). c.label) (slice_get (b ∷ bs) (unwrap_or (option_map suc o) (suc (length bs)))) ≡ option_map (λ (c : Block). c.label) (slice_get bs (unwrap_or o (length bs)))
      later None = refl
      later (Some n) = refl

      on : (t : Bool) → option_map (λ (c : Block). c.label) (slice_get (b ∷ bs) (unwrap_or (if t then Some 0 else option_map suc (first_where has_call bs)) (suc (length bs)))) ≡ or_else (if t then Some b.label else None) (option_map (λ (c : Block). c.label) (slice_get bs (unwrap_or (first_where has_call bs) (length bs))))
      on true = refl
      on false = later (first_where has_call bs)

-- ---- of the intrinsics of which there is one

pub not_id : (y : Intrinsic) → is_shaping y ≡ false → same_intrinsic Intrinsic.CoroId y ≡ false
not_id Intrinsic.CoroId e = absurd (cc)
not_id _ e = refl

pub not_begin : (y : Intrinsic) → is_shaping y ≡ false → same_intrinsic Intrinsic.CoroBegin y ≡ false
not_begin Intrinsic.CoroBegin e = absurd (cc)
not_begin _ e = refl

pub not_end : (y : Intrinsic) → is_shaping y ≡ false → same_intrinsic Intrinsic.CoroEnd y ≡ false
not_end Intrinsic.CoroEnd e = absurd (cc)
not_end _ e = refl

pub not_suspend : (y : Intrinsic) → is_shaping y ≡ false → same_intrinsic Intrinsic.CoroSuspend y ≡ false
not_suspend Intrinsic.CoroSuspend e = absurd (cc)
not_suspend _ e = refl

-- the label of the end's block
pub end_found : (f : Function) → end_label f ≡ label_of_first Intrinsic.CoroEnd (shaping_calls f)
end_found f = blocks_label Intrinsic.CoroEnd not_end f.blocks
