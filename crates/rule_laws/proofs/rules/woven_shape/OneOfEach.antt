-- Rule K2 goes by the calls by which a function is a coroutine.
use Rattle.std.proofs.Common.{◌≡◌, ℕ, ◌+◌, ◌≤◌, Bool, true, false, List, [], ◌∷◌, length, refl, sym, ap, ◌∙◌, subst, arith}
use Rattle.std.proofs.lemmas.Bool.{or_parts}
use Rattle.std.proofs.lemmas.Option.{slice_get_past}
use Rattle.std.specs.Prelude.{Some, None, Option, is_none, not, option_and_then, slice_get, if◌then◌else◌, ◌&&◌, ◌||◌}
use Rattle.ir_laws.specs.ir_base.declared.outcome.Place.{Place}
use Rattle.ir_laws.specs.ir_calls.Calls.{is_null, is_value}
use Rattle.rule_shape.specs.OneOfEach.{breaks_calls, calls_of, is_missing, is_right, is_right_instr, is_second, second_call, wrong_call}
use Rattle.rule_shape.specs.Places.{is_spot, places_where}
use Rattle.rule_shape.specs.declared.one_of_each.Calls.{Calls}
use Rattle.rule_laws.proofs.rules.renamed.Switches.{none_part}
use Rattle.rule_laws.proofs.rules.path_rules.Holding.{HoldsOf, of_parts, part_none, to_parts}
use Rattle.rule_laws.proofs.rules.source_rules.Once.{no_second_begin, no_second_end, no_second_id}
use Rattle.ir_parts.specs.Parts.{first_part, instr_place, parts_of}
use Rattle.ir_laws.specs.ir_model.Names.{same_intrinsic}
use Rattle.ir_laws.specs.ir_model.declared.instr.Instr.{Instr}
use Rattle.ir_laws.specs.ir_model.declared.module.Block.{Block}
use Rattle.ir_laws.specs.ir_model.declared.module.Function.{Function}
use Rattle.ir_laws.specs.ir_model.declared.operand.Arg.{Arg}
use Rattle.ir_laws.specs.ir_model.declared.operand.Callee.{Callee}
use Rattle.ir_laws.specs.ir_model.declared.operand.Intrinsic.{Intrinsic}
use Rattle.ir_laws.specs.ir_model.declared.operand.Operand.{Operand}
use Rattle.ir_laws.specs.ir_paths.Windows.{is_call_of}
use Rattle.ir_laws.proofs.facts.Lists.{none_past}
use Rattle.ir_laws.specs.run_laws.changed.Changed.{Each}
use Rattle.rule_laws.proofs.rules.woven_shape.Found.{count_of, counted, found, missing_found, not_begin, not_end, not_id, value_found}
use Rattle.rule_laws.proofs.rules.woven_shape.Gathered.{gathered, of_rows, spread, to_row}
use Rattle.rule_laws.specs.rules.woven_shape.Calls.{ShapingCall, call_at, first_named, is_shaping, leads_block, second_named, shaping_call, shaping_calls}
use Rattle.ir_laws.proofs.facts.Truth.{holds as not_true}

-- ---- what a call names is right

abbrev pub right_of : Option ℕ → Option ℕ → Bool → Intrinsic → Operand → Operand → Bool
right_of token frame leads Intrinsic.CoroAlloc a b = is_value token a
right_of token frame leads Intrinsic.CoroBegin a b = is_value token a
right_of token frame leads Intrinsic.CoroFree a b = is_value token a && is_value frame b
right_of token frame leads Intrinsic.CoroSave a b = is_null a || is_value frame a
right_of token frame leads Intrinsic.CoroEnd a b = leads && (is_null a || is_value frame a)
right_of token frame leads _ a b = true

abbrev pub IsRight : Calls → ShapingCall → Type 0
IsRight s c = right_of s.token s.frame c.leads c.intrinsic c.first c.second ≡ true

module _ (s : Calls) (func block : ℕ) where
  right_same : (at : ℕ) (x : Intrinsic) (args : List Arg) → is_right s (instr_place func block at) x args ≡ right_of s.token s.frame (leads_block x at) x (first_named x args) (second_named x args)
  right_same at Intrinsic.CoroAlloc args = refl
  right_same at Intrinsic.CoroBegin args = refl
  right_same at Intrinsic.CoroFree args = refl
  right_same at Intrinsic.CoroSave args = refl
  right_same at Intrinsic.CoroEnd args = refl
  right_same at _ args = refl

  unjudged : (at : ℕ) (x : Intrinsic) (args : List Arg) → is_shaping x ≡ false → is_right s (instr_place func block at) x args ≡ true
  unjudged at Intrinsic.CoroAlloc args e = absurd (cc)
  unjudged at Intrinsic.CoroBegin args e = absurd (cc)
  unjudged at Intrinsic.CoroFree args e = absurd (cc)
  unjudged at Intrinsic.CoroSave args e = absurd (cc)
  unjudged at Intrinsic.CoroEnd args e = absurd (cc)
  unjudged at _ args e = refl

  abbrev RightAt : ℕ → Instr → Type 0
  RightAt at i = is_right_instr s (instr_place func block at) i ≡ true

  pub call_right : (b : Block) (at : ℕ) (i : Instr) → RightAt at i → Each (IsRight s) (call_at b at i)
  call_right b at (Instr.Call result must_tail ty (Callee.Intrinsic x) args) h = on (is_shaping x)
    where
      on : (t : Bool) → Each (IsRight s) (if t then shaping_call b at x result args ∷ [] else [])
      on true = (sym (right_same at x args) ∙ h, tt)
      on false = tt
  call_right b at _ h = tt

  pub right_call : (b : Block) (at : ℕ) (i : Instr) → Each (IsRight s) (call_at b at i) → RightAt at i
  right_call b at (Instr.Call result must_tail ty (Callee.Intrinsic x) args) h = on (is_shaping x) refl h
    where
      on : (t : Bool) → is_shaping x ≡ t → Each (IsRight s) (if t then shaping_call b at x result args ∷ [] else []) → is_right s (instr_place func block at) x args ≡ true
      on true e k = right_same at x args ∙ k.0
      on false e k = unjudged at x args e
  right_call b at _ h = refl

module _ (func : ℕ) (f g : Function) (same : shaping_calls g ≡ shaping_calls f) where
  module _ (x : Intrinsic) (own : (y : Intrinsic) → is_shaping y ≡ false → same_intrinsic x y ≡ false) where
    missing_same : is_missing x g ≡ is_missing x f
    missing_same = missing_found x own g ∙ ap (λ (cs : List ShapingCall). is_none (found x cs)) same ∙ sym (missing_found x own f)

    value_same : option_and_then (λ (r : Option ℕ). r) (found x (shaping_calls g)) ≡ option_and_then (λ (r : Option ℕ). r) (found x (shaping_calls f))
    value_same = ap (λ (cs : List ShapingCall). option_and_then (λ (r : Option ℕ). r) (found x cs)) same

    no_second : second_call x func f ≡ None → second_call x func g ≡ None
    no_second e =
        let short : length (places_where (is_call_of x) func f) ≤ 1 = none_past (places_where (is_call_of x) func f) 1 e in
        let now : length (places_where (is_call_of x) func g) ≡ length (places_where (is_call_of x) func f) = counted x own func g ∙ ap (count_of x) same ∙ sym (counted x own func f) in
        slice_get_past (places_where (is_call_of x) func g) 1 (omega (arith, short, now))

  module _ (coroutine : f.coroutine ≡ true) (right : wrong_call func f ≡ None) where
    parts : HoldsOf (λ x. breaks_calls (calls_of func f) x.0 x.1 ≡ false) func f
    parts = of_parts (λ x. breaks_calls (calls_of func f) x.0 x.1 ≡ false) func f (none_part (breaks_calls (calls_of func f)) (parts_of func f) (subst (λ (b : Bool). (if b then first_part (breaks_calls (calls_of func f)) (parts_of func f) else None) ≡ None) coroutine right))

    -- no call is a second one
    second_none : (p : Place) → is_second (calls_of func g) p ≡ false
    second_none p =
        λ k.
        is_spot (no_second Intrinsic.CoroId not_id (no_second_id func f coroutine right) k) p
        || (is_spot (no_second Intrinsic.CoroBegin not_begin (no_second_begin func f coroutine right) k) p
        || is_spot (no_second Intrinsic.CoroEnd not_end (no_second_end func f coroutine right) k) p)

    pub all_right : Each (IsRight (calls_of func f)) (shaping_calls f)
    all_right =
        of_rows (IsRight (calls_of func f)) f.blocks
        (λ k b e.
        gathered (IsRight (calls_of func f)) b (RightAt (calls_of func f) func k) (call_right (calls_of func f) func k b) (length b.phis) b.instrs
        (λ j i d. not_true (is_right_instr (calls_of func f) (instr_place func k (length b.phis + j)) i)
        (or_parts (is_second (calls_of func f) (instr_place func k (length b.phis + j))) (not (is_right_instr (calls_of func f) (instr_place func k (length b.phis + j)) i)) ((parts.blocks k b e).instrs j i d)).1))

    token_same : (calls_of func g).token ≡ (calls_of func f).token
    token_same = value_found Intrinsic.CoroId not_id g ∙ value_same Intrinsic.CoroId not_id ∙ sym (value_found Intrinsic.CoroId not_id f)

    frame_same : (calls_of func g).frame ≡ (calls_of func f).frame
    frame_same = value_found Intrinsic.CoroBegin not_begin g ∙ value_same Intrinsic.CoroBegin not_begin ∙ sym (value_found Intrinsic.CoroBegin not_begin f)

    -- so the calls of the other function are right, too
    all_right_again : Each (IsRight (calls_of func g)) (shaping_calls g)
    all_right_again =
        subst (λ (token : Option ℕ). Each (λ c. right_of token (calls_of func g).frame c.leads c.intrinsic c.first c.second ≡ true) (shaping_calls g)) (sym token_same)
        (subst (λ (frame : Option ℕ). Each (λ c. right_of (calls_of func f).token frame c.leads c.intrinsic c.first c.second ≡ true) (shaping_calls g)) (sym frame_same)
        (subst (λ (cs : List ShapingCall). Each (IsRight (calls_of func f)) cs) (sym same) all_right))

    right_at : (k : ℕ) (b : Block) → slice_get g.blocks k ≡ Some b → (j : ℕ) (i : Instr) → slice_get b.instrs j ≡ Some i → is_right_instr (calls_of func g) (instr_place func k (length b.phis + j)) i ≡ true
    right_at k b e =
        spread (IsRight (calls_of func g)) b (RightAt (calls_of func g) func k) (right_call (calls_of func g) func k b) (length b.phis) b.instrs
        (to_row (IsRight (calls_of func g)) g.blocks all_right_again k b e)

    none_missing : (calls_of func g).is_missing ≡ false
    none_missing =
        (λ k. missing_same Intrinsic.CoroId not_id k || (missing_same Intrinsic.CoroBegin not_begin k || missing_same Intrinsic.CoroEnd not_end k))
        ∙ parts.signature

    pub wrong_call_same : g.coroutine ≡ f.coroutine → wrong_call func g ≡ None
    wrong_call_same is =
        subst (λ (b : Bool). (if b then first_part (breaks_calls (calls_of func g)) (parts_of func g) else None) ≡ None) (sym (is ∙ coroutine))
        (part_none (breaks_calls (calls_of func g)) (parts_of func g) (to_parts (λ x. breaks_calls (calls_of func g) x.0 x.1 ≡ false) func g (record {
          signature = none_missing;
          blocks = λ k b e. record {
            head = refl;
            phis = λ j p d. refl;
            instrs = λ j i d. (λ n. second_none (instr_place func k (length b.phis + j)) n || not (right_at k b e j i d n));
            ending = refl;
          };
        })))
