-- Names of allocas and begin's name, of an accepted source with blocks on edges.
use Rattle.std.proofs.Common.{◌≡◌, ◌⊎◌, inl, inr, ℕ, ◌<◌, Bool, true, false, not, List, [], ◌∷◌, ◌++◌, ◌&&◌, ◌||◌}
use Rattle.std.proofs.Common.{length}
use Rattle.std.proofs.Common.{Option, Some, None, refl, sym, ap, ◌∙◌, subst}
use Rattle.std.proofs.lemmas.Bool.{eqb-true}
use Rattle.std.proofs.lemmas.Option.{slice_get-map}
use Rattle.std.specs.Prelude.{filter, if◌then◌else◌, option_map, slice_get, unwrap_or, ◌==◌}
use Rattle.compiler_theorem.proofs.known.Begins.{begin_is, begin_named, calls_begin, no_begin}
use Rattle.compiler_theorem.proofs.theorem.Asked.{asked_kept}
use Rattle.compiler_theorem.proofs.theorem.Begins.{begun_once}
use Rattle.compiler_theorem.proofs.theorem.Built.{coroutine_there}
use Rattle.compiler_theorem.proofs.theorem.Renewing.{all_kept, slots_kept}
use Rattle.compiler_theorem.specs.known.Counts.{counts, is_slot_of, own, stays_own}
use Rattle.compiler_theorem.specs.theorem.Anew.{Anew, IsAnewOf}
use Rattle.compiler_theorem.specs.theorem.Asked.{asking}
use Rattle.compiler_theorem.specs.theorem.Between.{renewing}
use Rattle.compiler_theorem.specs.theorem.Entries.{IsEntryCall, Run}
use Rattle.compiler_theorem.specs.theorem.Lowered.{HasFewBytes, IsLowered, Lowered, early, edged}
use Rattle.compiler.specs.frame_classes.Classes.{suspends}
use Rattle.compiler.proofs.ir_laws.facts.Truth.{and_first, and_second}
use Rattle.compiler.proofs.ir_paths.Search.{or_left, or_right}
use Rattle.compiler.proofs.ir_laws.paths.path_rules.Where.{where_has}
use Rattle.compiler.specs.ir_laws.facts.expanded.Tokens.{IsNamedResult}
use Rattle.compiler.specs.ir_model.Names.{function_at, no_function}
use Rattle.compiler.specs.ir_model.declared.instr.Instr.{Instr}
use Rattle.compiler.specs.ir_model.declared.module.Function.{Function}
use Rattle.compiler.specs.ir_model.declared.operand.Callee.{Callee}
use Rattle.compiler.specs.ir_model.declared.operand.Intrinsic.{Intrinsic}
use Rattle.compiler.specs.ir_paths.Slots.{allocas_of, has_name}
use Rattle.compiler.specs.ir_paths.Paths.{has_point}
use Rattle.compiler.specs.ir_paths.Windows.{call_result, instr_at, is_call_of}
use Rattle.compiler.specs.ir_paths.declared.point.Point.{Point}
use Rattle.compiler.specs.pass_edges.EdgeBlocks.{with_edge_blocks}
use Rattle.compiler.specs.pass_frames.Framed.{begin_of}
use Rattle.pass_frames_meaning.proofs.led.Tables.{tables_led}
use Rattle.pass_frames_meaning.specs.Executed.{IsUnframed, KeepAllOwn}
use Rattle.pass_frames_meaning.specs.Led.{IsBegin, IsBegunOnce, KeepAllNames, KeepsLedTables}
use Rattle.pass_frames_meaning.specs.pass_frames_proof.Framings.{IsFraming}
use Rattle.pass_frames_meaning.specs.pass_frames_proof.Places as place
use Rattle.compiler.proofs.pass_kept_proof.Read.{listed_by_name}
use Rattle.compiler.specs.pass_kept_proof.SuspendRules.{IsCallAt}
use Rattle.compiler.proofs.pass_proofs.early.save_simulation.Suspending.{fetch_at}
use Rattle.compiler.proofs.pass_proofs.kept.sources.Names.{suspend_inside}
use Rattle.compiler.proofs.pass_proofs.kept.sources.Whole.{split_rules}
use Rattle.compiler.specs.pass_proofs.edges.states.MovedState.{edge_function}
use Rattle.pass_frames_meaning.proofs.pass_renewed_meaning.Tables.{renewed_are}
use Rattle.pass_frames_meaning.specs.pass_renewed_proof.SlotRules.{IsMadeOnce}
use Rattle.compiler.proofs.rule_laws.rules.source_rules.Slots.{alloca_of}
use Rattle.compiler.proofs.rule_laws.rules.sources.Places.{instr_there, point}
use Rattle.run_accepted.proofs.Once.{made_once}
use Rattle.run_accepted.proofs.Plain.{no_call}
use Rattle.compiler.specs.run_framed.Framed.{begin_name}
use Rattle.compiler.specs.run_laws.changed.Changed.{result_at}
use Rattle.compiler.specs.run_source.Source.{is_among}
use Rattle.compiler.specs.run_source_tables.Given.{facts_at}
use Rattle.compiler.proofs.run_states.sound_states.Fits.{result_named}
use Rattle.compiler.specs.ir_paths.declared.point.Facts.{Facts}
use Rattle.compiler.specs.run_step.Step.{AtInstr, fetch}
use Rattle.compiler.specs.run_step.declared.world.Slot.{Slot}
use Rattle.compiler.specs.rule_laws.rules.function_rules.Kept.{KeepsFunctionRules}

-- ---- lists of names

named_among : (p : ℕ → Bool) (xs ys : List ℕ) (v : ℕ) → has_name xs v ≡ true → p v ≡ true
    → has_name (filter p xs ++ ys) v ≡ true
named_among p [] ys v h k = absurd (cc)
named_among p (x ∷ xs) ys v h k = on (x == v) refl (p x) refl h (λ e. named_among p xs ys v e k)
  where
    on : (t : Bool) → (x == v) ≡ t → (b : Bool) → p x ≡ b → (t || has_name xs v) ≡ true
        → (has_name xs v ≡ true → has_name (filter p xs ++ ys) v ≡ true)
        → has_name ((if b then x ∷ filter p xs else filter p xs) ++ ys) v ≡ true
    on true e true d h rest = or_left (x == v) _ e
    on true e false d h rest =
        let same : p x ≡ p v = ap p (eqb-true x v e) in
        let no : false ≡ true = sym d ∙ same ∙ k in
        absurd (cc)
    on false e true d h rest = or_right (x == v) _ (rest h)
    on false e false d h rest = rest h

-- ---- functions of a source

module _ (l : Lowered) (low : IsLowered l) (few : HasFewBytes l) (a : Anew) (anew : IsAnewOf (early l) a) (r : Run)
    (entered : IsEntryCall l.source r) where
  abbrev f : ℕ → Function
  f func = function_at (edged l) func

  abbrev is_one : ℕ → Bool
  is_one func = (function_at (early l) func).coroutine

  pub framed : (func : ℕ) → is_one func ≡ true → IsFraming ((asking l low a r).b.framing func)
  framed func c = (asked_kept l low few a anew r).given.framings func c

  pub framed_function : (func : ℕ) → is_one func ≡ true
      → function_at (edged l) func ≡ place.edged ((asking l low a r).b.framing func)
  framed_function func c = (asked_kept l low few a anew r).given.coroutines func c

  -- an instruction stands in a function of the module
  pub rules_there : (func : ℕ) → KeepsFunctionRules (edged l) func (function_at (edged l) func)
      ⊎ (function_at (edged l) func ≡ no_function)
  rules_there func = on (slice_get (edged l).functions func) refl
    where
      on : (o : Option Function) → slice_get (edged l).functions func ≡ o
          → KeepsFunctionRules (edged l) func (unwrap_or o no_function) ⊎ (unwrap_or o no_function ≡ no_function)
      on None e = inr refl
      on (Some g) e = inl (split_rules l.text l.source low.source.stands low.source.accepted func g e)

  pub made : (func v : ℕ) → is_slot_of l func v ≡ true → IsMadeOnce (function_at (edged l) func) v
  made func v e = on (rules_there func)
    where
      on : KeepsFunctionRules (edged l) func (f func) ⊎ (f func ≡ no_function) → IsMadeOnce (f func) v
      on (inl rules) =
          let x = alloca_of (f func) v (listed_by_name (allocas_of (f func)) v e) in
          made_once (edged l) func (f func) rules v x.ty x.align x.point.block x.point.at
          (fetch_at (f func) x.point (Instr.Alloca v x.ty x.align) x.stands)
      on (inr same) = let no : has_name (allocas_of no_function) v ≡ true =
          subst (λ (g : Function). has_name (allocas_of g) v ≡ true) same e in absurd (cc)

  pub low_name : (func v : ℕ) → is_slot_of l func v ≡ true → v < length (function_at (edged l) func).names
  low_name func v e =
      let x = made func v e in
      subst (IsNamedResult (length (f func).names)) (ap result_at x.stands)
      (result_named (f func) ((all_kept l low a anew r entered few).locals func).results 0 x.at)

  -- ---- begin

  plain_function : (func : ℕ) → is_one func ≡ false → (f func).coroutine ≡ false
  plain_function func plain = ap (λ (g : Function). g.coroutine)
      ((asked_kept l low few a anew r).given.others func plain)
      ∙ plain

  pub unframed : (func : ℕ) → is_one func ≡ false → IsUnframed (function_at (edged l) func)
  unframed func plain = on (rules_there func)
    where
      on : KeepsFunctionRules (edged l) func (f func) ⊎ (f func ≡ no_function) → IsUnframed (f func)
      on (inl rules) = λ block at i there b.
          no_begin (edged l) func (f func) rules (plain_function func plain) block at i there b
      on (inr same) = subst IsUnframed (sym same) (λ block at i there b. absurd (cc))

  pub begin_there : (func : ℕ) (block at : ℕ) (i : Instr) → fetch (function_at (edged l) func) block at ≡ AtInstr i
      → IsBegin i → begin_name (function_at (edged l) func) ≡ call_result i
  begin_there func block at i there b = on (is_one func) refl
    where
      on : (t : Bool) → is_one func ≡ t → begin_name (f func) ≡ call_result i
      on false plain = absurd (unframed func plain block at i there b)
      on true c =
          let same = framed_function func c in
          ap begin_name same ∙ begin_named ((asking l low a r).b.framing func) (framed func c) (point block at) i
          (subst (λ (g : Function). instr_at g (point block at) ≡ Some i) same
          (instr_there (f func) block at i there)) (calls_begin i b)

  pub begin_known : (func : ℕ) → is_one func ≡ true
      → begin_name (function_at (edged l) func) ≡ Some (begin_of ((asking l low a r).b.framing func).function)
  begin_known func c = ap begin_name (framed_function func c)
      ∙ begin_is ((asking l low a r).b.framing func) (framed func c)

  -- ---- names of functions

  is_other : (func v : ℕ) → counts l a r func v ≡ true → stays_own l a r func v ≡ false
  is_other func v e =
      let no : not (stays_own l a r func v) ≡ true = and_second (is_slot_of l func v)
      (not (stays_own l a r func v)) e in
      not_true (stays_own l a r func v) no
    where
      not_true : (b : Bool) → not b ≡ true → b ≡ false
      not_true true h = absurd (cc)
      not_true false h = refl

  is_slot : (func v : ℕ) → counts l a r func v ≡ true → is_slot_of l func v ≡ true
  is_slot func v e = and_first (is_slot_of l func v) (not (stays_own l a r func v)) e

  pub names_kept : KeepAllNames (renewing l a r).given (counts l a r)
  names_kept func = record {
    made = λ v e. made func v (is_slot func v e);
    shared = λ slot e. is_other func slot.alloca e;
    begins = λ v e. begins v e;
    given = λ block at result must_tail ty args there. begin_there func block at
        (Instr.Call result must_tail ty (Callee.Intrinsic Intrinsic.CoroBegin) args) there tt;
  }
    where
      begins : (v : ℕ) → begin_name (f func) ≡ Some v → IsBegunOnce (f func) v
      begins v e = on (rules_there func)
        where
          on : KeepsFunctionRules (edged l) func (f func) ⊎ (f func ≡ no_function) → IsBegunOnce (f func) v
          on (inl rules) =
              begun_once (edged l) func (f func) rules ((all_kept l low a anew r entered few).locals func) v e
          on (inr same) = let no : begin_name no_function ≡ Some v =
              subst (λ (g : Function). begin_name g ≡ Some v) same e in absurd (cc)

  pub own_kept : KeepAllOwn (renewing l a r).given (own l a r)
  own_kept func = record {
    made = λ v e. made func v (and_first (is_slot_of l func v) _ e);
    low = λ v e. low_name func v (and_first (is_slot_of l func v) _ e);
    own = on (is_one func) refl;
  }
    where
      on : (b : Bool) → is_one func ≡ b
          → ((slot : Slot) → (is_slot_of l func slot.alloca && (not b || stays_own l a r func slot.alloca)) ≡ true
          → is_among (facts_at (renewing l a r).given.facts func).ramp_slots slot ≡ true)
          ⊎ IsUnframed (function_at (edged l) func)
      on true c = inl (λ slot e. and_second (is_slot_of l func slot.alloca) (stays_own l a r func slot.alloca) e)
      on false plain = inr (unframed func plain)

  -- ---- tables

  pub there_of : (func v : ℕ) → is_slot_of l func v ≡ true
      → slice_get (edged l).functions func ≡ Some (function_at (edged l) func)
  there_of func v e = on (slice_get (edged l).functions func) refl e
    where
      on : (o : Option Function) → slice_get (edged l).functions func ≡ o
          → has_name (allocas_of (unwrap_or o no_function)) v ≡ true → o ≡ Some (unwrap_or o no_function)
      on None d h = absurd (cc)
      on (Some g) d h = refl

  pub flagged_own : (func v : ℕ) → is_slot_of l func v ≡ true → a.flags func v ≡ true → stays_own l a r func v ≡ true
  flagged_own func v e flag =
      ap (λ (z : Facts). has_name z.ramp_slots v) (renewed_are (edged l) a.flags func (there_of func v e))
      ∙ named_among (a.flags func) (allocas_of (f func)) _ v e flag

  edge_is : (func : ℕ) → is_one func ≡ true
      → function_at (edged l) func ≡ with_edge_blocks (function_at (early l) func)
  edge_is func c =
      let g : Function = function_at (early l) func in
      ap (λ (o : Option Function). unwrap_or o no_function) (slice_get-map edge_function (early l).functions func
      ∙ ap (option_map edge_function) (coroutine_there l low r.answers func c))
      ∙ ap (λ (b : Bool). if b then with_edge_blocks g else g) c

  unflagged : (func v : ℕ) → counts l a r func v ≡ true → a.flags func v ≡ false
  unflagged func v e = on (a.flags func v) refl
    where
      on : (b : Bool) → a.flags func v ≡ b → b ≡ false
      on false d = refl
      on true d = let no : true ≡ false = sym (flagged_own func v (is_slot func v e) d)
          ∙ is_other func v e in absurd (cc)

  -- a resume hands on begin's value
  handed : (func : ℕ) (u : Point) (v : ℕ) → IsCallAt Intrinsic.CoroSuspend (function_at (edged l) func) u
      → begin_name (function_at (edged l) func) ≡ Some v → a.keep func u v ≡ true
  handed func u v c e = on (is_one func) refl
    where
      on : (b : Bool) → is_one func ≡ b → a.keep func u v ≡ true
      on false plain = absurd (plain_suspend (rules_there func))
        where
          plain_suspend : KeepsFunctionRules (edged l) func (f func) ⊎ (f func ≡ no_function) → ⊥
          plain_suspend (inl rules) =
              no_call (edged l) func (f func) rules (plain_function func plain) Intrinsic.CoroSuspend suspend_inside u c
          plain_suspend (inr same) =
              let x : IsCallAt Intrinsic.CoroSuspend no_function u = subst
              (λ (g : Function). IsCallAt Intrinsic.CoroSuspend g u) same c in
              let none = x.stands in
              absurd (cc)
      on true is =
          let same : f func ≡ with_edge_blocks (function_at (early l) func) = edge_is func is in
          ((anew func).keep_is u v (subst (λ (g : Function). has_point (suspends g) u ≡ true) same
          (where_has (is_call_of Intrinsic.CoroSuspend) (f func) u c.instr
          (instr_there (f func) u.block u.at c.instr c.stands) c.is))).1
          (inr (inl (ap begin_name (sym same) ∙ e)))

  pub tables_kept : KeepsLedTables (renewing l a r) (counts l a r)
  tables_kept = tables_led (renewing l a r) (counts l a r) (slots_kept l low a anew r entered few) names_kept
      (λ func v e. unflagged func v e) (λ func u v c e. handed func u v c e)
