-- In each state of the run in which resumes hand values on, slots that live and aren't made anew may be alive.
use Rattle.std.proofs.Common.{◌≡◌, ◌⊎◌, inl, inr, ℕ, Bool, true, false, not, Option, Some, None, refl, ap, ◌∙◌, subst}
use Rattle.std.proofs.lemmas.Option.{slice_get-map}
use Rattle.std.specs.Prelude.{if◌then◌else◌, option_map, slice_get, unwrap_or}
use Rattle.compiler_theorem.proofs.apart.Tables.{unnamed}
use Rattle.compiler_theorem.proofs.known.Names.{made, rules_there}
use Rattle.compiler_theorem.proofs.theorem.Built.{coroutine_there}
use Rattle.compiler_theorem.proofs.theorem.Needed.{memory}
use Rattle.compiler_theorem.specs.known.Counts.{counts, is_slot_of, stays_own}
use Rattle.compiler_theorem.specs.theorem.Anew.{Anew, IsAnewOf}
use Rattle.compiler_theorem.specs.theorem.Between.{setting}
use Rattle.compiler_theorem.specs.theorem.Entries.{IsEntryCall, Run}
use Rattle.compiler_theorem.specs.theorem.Lowered.{HasFewBytes, IsLowered, Lowered, early, edged, sizes_of}
use Rattle.compiler.specs.frame_classes.Classes.{suspends}
use Rattle.compiler.proofs.ir_laws.facts.Truth.{and_first, and_second}
use Rattle.compiler.proofs.ir_laws.paths.path_rules.Where.{where_has}
use Rattle.compiler.specs.ir_model.Names.{function_at, no_function}
use Rattle.compiler.specs.ir_model.declared.module.Function.{Function}
use Rattle.compiler.specs.ir_model.declared.operand.Intrinsic.{Intrinsic}
use Rattle.compiler.specs.ir_paths.Paths.{has_point}
use Rattle.compiler.specs.ir_paths.Slots.{allocas_of, has_name}
use Rattle.compiler.specs.ir_paths.Windows.{is_call_of}
use Rattle.compiler.specs.ir_paths.declared.point.Point.{Point}
use Rattle.compiler.specs.pass_edges.EdgeBlocks.{with_edge_blocks}
use Rattle.compiler.specs.pass_kept_proof.SuspendRules.{IsCallAt}
use Rattle.compiler.proofs.pass_proofs.kept.sources.Names.{suspend_inside}
use Rattle.compiler.specs.pass_proofs.edges.states.MovedState.{edge_function}
use Rattle.pass_frames_meaning.specs.pass_renewed_meaning.Offsets.{first_at}
use Rattle.pass_frames_meaning.specs.pass_renewed_proof.SlotRules.{IsMadeOnce}
use Rattle.compiler.proofs.rule_laws.rules.sources.Places.{instr_there}
use Rattle.compiler.specs.rule_laws.rules.function_rules.Kept.{KeepsFunctionRules}
use Rattle.run_accepted.proofs.Accepted.{edged_alive, edged_places, edged_switches}
use Rattle.run_accepted.proofs.Plain.{no_call}
use Rattle.pass_frames_meaning.proofs.run_hooks.alive.Runs.{kept_alive}
use Rattle.pass_frames_meaning.specs.run_hooks.alive.Alive.{IsAliveState}
use Rattle.compiler.specs.run_source.Source.{given}

module _ (l : Lowered) (low : IsLowered l) (few : HasFewBytes l) (a : Anew) (anew : IsAnewOf (early l) a) (r : Run)
    (entered : IsEntryCall l.source r) where
  abbrev h : ℕ → Function
  h func = function_at (edged l) func

  abbrev is_one : ℕ → Bool
  is_one func = (function_at (early l) func).coroutine

  edge_is : (func : ℕ) → function_at (edged l) func
      ≡ (if is_one func then with_edge_blocks (function_at (early l) func) else function_at (early l) func)
  edge_is func = on (slice_get (early l).functions func) refl
    where
      on : (o : Option Function) → slice_get (early l).functions func ≡ o → function_at (edged l) func
          ≡ (if (unwrap_or o no_function).coroutine then with_edge_blocks (unwrap_or o no_function) else unwrap_or o no_function)
      on None e = ap (λ (o : Option Function). unwrap_or o no_function)
          (slice_get-map edge_function (early l).functions func ∙ ap (option_map edge_function) e)
      on (Some f) e = ap (λ (o : Option Function). unwrap_or o no_function)
          (slice_get-map edge_function (early l).functions func ∙ ap (option_map edge_function) e)

  pub edged_is : (func : ℕ) → (function_at (early l) func).coroutine ≡ true
      → function_at (edged l) func ≡ with_edge_blocks (function_at (early l) func)
  edged_is func c = edge_is func
      ∙ ap (λ (b : Bool). if b then with_edge_blocks (function_at (early l) func) else function_at (early l) func) c

  -- suspends stand in coroutines
  pub of_coroutine : (func : ℕ) (u : Point) → IsCallAt Intrinsic.CoroSuspend (function_at (edged l) func) u
      → (function_at (early l) func).coroutine ≡ true
  of_coroutine func u c = on (is_one func) refl
    where
      plain : is_one func ≡ false → (h func).coroutine ≡ false
      plain e = ap (λ (g : Function). g.coroutine) (edge_is func
          ∙ ap (λ (b : Bool). if b then with_edge_blocks (function_at (early l) func) else function_at (early l) func) e) ∙ e

      never : is_one func ≡ false → KeepsFunctionRules (edged l) func (h func) ⊎ (h func ≡ no_function) → ⊥
      never e (inl rules) = no_call (edged l) func (h func) rules (plain e) Intrinsic.CoroSuspend suspend_inside u c
      never e (inr same) =
          let x : IsCallAt Intrinsic.CoroSuspend no_function u
          = subst (λ (g : Function). IsCallAt Intrinsic.CoroSuspend g u) same c in
          let none = x.stands in
          absurd (cc)

      on : (b : Bool) → is_one func ≡ b → b ≡ true
      on true e = refl
      on false e = absurd (never e (rules_there l low few a anew r entered func))

  -- a resume hands on the address of each slot that counts
  pub keeps : (func : ℕ) (u : Point) (v : ℕ) → IsCallAt Intrinsic.CoroSuspend (function_at (edged l) func) u
      → counts l a r func v ≡ true → a.keep func u v ≡ true
  keeps func u v c counted =
      let coroutine = of_coroutine func u c in
      let now = edged_is func coroutine in
      let there = coroutine_there l low r.answers func coroutine in
      let slot : is_slot_of l func v ≡ true = and_first (is_slot_of l func v) (not (stays_own l a r func v)) counted in
      let away : stays_own l a r func v ≡ false =
      not_true (stays_own l a r func v) (and_second (is_slot_of l func v) (not (stays_own l a r func v)) counted) in
      let among : has_name (allocas_of (with_edge_blocks (function_at (early l) func))) v ≡ true =
      subst (λ (g : Function). has_name (allocas_of g) v ≡ true) now slot in
      let once : IsMadeOnce (with_edge_blocks (function_at (early l) func)) v =
      subst (λ (g : Function). IsMadeOnce g v) now (made l low few a anew r entered func v slot) in
      ((anew func).keep_is u v (subst (λ (g : Function). has_point (suspends g) u ≡ true) now
      (where_has (is_call_of Intrinsic.CoroSuspend) (h func) u c.instr
      (instr_there (h func) u.block u.at c.instr c.stands) c.is))).1
      (inr (inr (memory l low a anew func (function_at (early l) func) there coroutine v once
      (unnamed l low a anew func (function_at (early l) func) there coroutine v among away))))
    where
      not_true : (b : Bool) → not b ≡ true → b ≡ false
      not_true true e = absurd (cc)
      not_true false e = refl

  pub alive : (n : ℕ) → IsAliveState (edged l) (counts l a r) (first_at (setting l a r) n)
  alive n = kept_alive (given (edged l) (sizes_of l) r.answers) a.keep (counts l a r) keeps r.entry r.args n
      (edged_alive l.text l.source low.source.stands low.source.accepted (sizes_of l) r.answers)
      (edged_places l.text l.source low.source.stands low.source.accepted (sizes_of l) r.answers)
      (edged_switches l.text l.source low.source.stands low.source.accepted)
