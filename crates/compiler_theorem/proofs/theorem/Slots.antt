-- An accepted source with blocks on edges keeps what is asked of slots made anew.
use Rattle.std.proofs.Common.{◌≡◌, inl, inr, ℕ, Bool, true, false, List, Option, Some, None, refl, sym, ap, ◌∙◌, subst}
use Rattle.std.proofs.lemmas.Option.{slice_get-map}
use Rattle.std.specs.Prelude.{IsTrue, option_map, slice_get, unwrap_or, if◌then◌else◌}
use Rattle.compiler_theorem.specs.theorem.Anew.{Anew, HaveSteadyIndices, IsAnewIn, IsAnewOf, IsSlotOf}
use Rattle.compiler_theorem.specs.theorem.Lowered.{IsLowered, Lowered, early, edged}
use Rattle.compiler.specs.frame_classes.Classes.{suspends}
use Rattle.compiler.specs.frame_classes.declared.class.SlotClass.{SlotClass}
use Rattle.compiler.specs.ir_model.Names.{function_at, no_function}
use Rattle.compiler.specs.ir_model.declared.module.Function.{Function}
use Rattle.compiler.specs.ir_paths.Paths.{has_point}
use Rattle.compiler.proofs.ir_paths.Right.{facts_of_right}
use Rattle.compiler.specs.ir_paths.Slots.{IsRampSlot, allocas_of, has_name}
use Rattle.compiler.specs.ir_paths.declared.point.Point.{Point}
use Rattle.compiler.specs.pass_edges.EdgeBlocks.{with_edge_blocks}
use Rattle.compiler.specs.pass_kept_proof.Handed.{HasPlainNames}
use Rattle.compiler.specs.pass_kept_proof.SuspendRules.{KeepsSuspendRules}
use Rattle.compiler.proofs.pass_proofs.edges.paths.Slots.{same_allocas, same_ramp_slots}
use Rattle.compiler.proofs.pass_proofs.kept.sources.Whole.{edges_kept, split_keeps, split_named}
use Rattle.compiler.specs.pass_proofs.edges.states.MovedState.{KeepsEdges, edge_function}
use Rattle.pass_frames_meaning.specs.pass_renewed_proof.SlotRules.{KeepsAllSlots, KeepsSlots}
use Rattle.run_accepted.proofs.Accepted.{edged_slots}
use Rattle.run_accepted.proofs.EdgeFrames.{needs_home}
use Rattle.run_accepted.proofs.Slots.{HasSlotTables, no_slots}

module _ (l : Lowered) (low : IsLowered l) (a : Anew) (anew : IsAnewOf (early l) a)
    (steady : (func : ℕ) → HaveSteadyIndices (edged l) (function_at (edged l) func)) where
  -- what is flagged is a local slot of a coroutine
  flagged : (func v : ℕ) → a.flags func v ≡ true → IsSlotOf (function_at (early l) func) SlotClass.Local v
  flagged func v e = ((anew func).flags_are v).0 e

  rooted : (func v r : ℕ) → a.roots func v ≡ Some r → a.flags func r ≡ true
  rooted func v r e = (((anew func).roots_are v r).0 e).0

  -- a function that is no coroutine has none
  none_of : (func v : ℕ) → (function_at (early l) func).coroutine ≡ false → a.flags func v ≡ true → ⊥
  none_of func v plain e =
      let x = flagged func v e in
      let no : true ≡ false = sym x.coroutine ∙ plain in
      absurd (cc)

  -- the function at a position, and its form with blocks on edges
  module _ (func : ℕ) (f : Function) (there : slice_get (early l).functions func ≡ Some f) where
    early_is : function_at (early l) func ≡ f
    early_is = ap (λ (o : Option Function). unwrap_or o no_function) there

    now : slice_get (edged l).functions func ≡ Some (edge_function f)
    now = slice_get-map edge_function (early l).functions func ∙ ap (option_map edge_function) there

    here : function_at (edged l) func ≡ edge_function f
    here = ap (λ (o : Option Function). unwrap_or o no_function) now

    of_plain : f.coroutine ≡ false → HasSlotTables (edge_function f) (a.flags func) (a.roots func)
    of_plain plain = record {
      slots = λ v e. absurd (none v e);
      is_local = λ v e. absurd (none v e);
      rooted = λ v r e. absurd (none r (rooted func v r e));
      addresses = λ v r e named. absurd (none r e);
    }
      where
        none : (v : ℕ) → a.flags func v ≡ true → ⊥
        none v e = none_of func v (ap (λ (z : Function). z.coroutine) early_is ∙ plain) e

    of_coroutine : f.coroutine ≡ true → HasSlotTables (edge_function f) (a.flags func) (a.roots func)
    of_coroutine coroutine = subst (λ (z : Function). HasSlotTables z (a.flags func) (a.roots func)) (sym same) tables
      where
        same : edge_function f ≡ with_edge_blocks f
        same = ap (λ (b : Bool). if b then with_edge_blocks f else f) coroutine

        own : IsAnewIn f (with_edge_blocks f) (λ s v. IsTrue (a.keep func s v)) (λ v. IsTrue (a.flags func v))
            (λ v r. a.roots func v ≡ Some r)
        own = subst (λ (z : Function). IsAnewIn z (with_edge_blocks z) (λ s v. IsTrue (a.keep func s v))
            (λ v. IsTrue (a.flags func v)) (λ v r. a.roots func v ≡ Some r)) early_is (anew func)

        edges : KeepsEdges f
        edges = edges_kept l.text l.source low.source.stands low.source.accepted func f there coroutine

        ramp_before : (v : ℕ) → has_name (allocas_of f) v ≡ true → IsRampSlot (with_edge_blocks f) v → IsRampSlot f v
        ramp_before v among ramp =
            let now_named = ((facts_of_right (with_edge_blocks f)).ramp_slots v).1
            (ap (λ (vs : List ℕ). has_name vs v) (same_allocas f) ∙ among, ramp) in
            let before = ((facts_of_right f).ramp_slots v).0
            (sym (same_ramp_slots f edges.labels edges.once edges.phis v) ∙ now_named) in
            before.1

        tables : HasSlotTables (with_edge_blocks f) (a.flags func) (a.roots func)
        tables = record {
          slots = λ v e. ap (λ (vs : List ℕ). has_name vs v) (same_allocas f) ∙ ((own.flags_are v).0 e).is_alloca;
          is_local = λ v e. (
            λ ramp. let x = (own.flags_are v).0 e in x.is_of.0 (ramp_before v x.is_alloca ramp),
            λ needs. let x = (own.flags_are v).0 e in x.is_of.1 (needs_home f edges v needs),
          );
          rooted = λ v r e. (own.roots_are v r).0 e;
          addresses = λ v r e named. (own.roots_are v r).1 (e, named);
        }

    tables_of : (b : Bool) → f.coroutine ≡ b → HasSlotTables (edge_function f) (a.flags func) (a.roots func)
    tables_of true c = of_coroutine c
    tables_of false c = of_plain c

    slots_there : KeepsSlots (edged l) (function_at (edged l) func) (a.flags func) (a.roots func)
    slots_there = subst (λ (z : Function). KeepsSlots (edged l) z (a.flags func) (a.roots func)) (sym here)
        (edged_slots l.text l.source low.source.stands low.source.accepted func (edge_function f) now (a.flags func)
        (a.roots func) (tables_of f.coroutine refl)
        (subst (λ (z : Function). HaveSteadyIndices (edged l) z) here (steady func)))

    coroutine_there : f.coroutine ≡ true → (function_at (edged l) func).coroutine ≡ true
    coroutine_there c = ap (λ (z : Function). z.coroutine) here
        ∙ ap (λ (b : Bool). (if b then with_edge_blocks f else f).coroutine) c ∙ c

    points_there : f.coroutine ≡ true → (s : Point) → has_point (suspends (function_at (edged l) func)) s ≡ true
        → has_point (suspends (with_edge_blocks (function_at (early l) func))) s ≡ true
    points_there c s is = subst (λ (z : Function). has_point (suspends (with_edge_blocks z)) s ≡ true) (sym early_is)
        (subst (λ (z : Function). has_point (suspends z) s ≡ true)
        (here ∙ ap (λ (b : Bool). if b then with_edge_blocks f else f) c) is)

  -- where there is no function
  module _ (func : ℕ) (there : slice_get (early l).functions func ≡ None) where
    early_none : function_at (early l) func ≡ no_function
    early_none = ap (λ (o : Option Function). unwrap_or o no_function) there

    here_none : function_at (edged l) func ≡ no_function
    here_none = ap (λ (o : Option Function). unwrap_or o no_function)
        (slice_get-map edge_function (early l).functions func ∙ ap (option_map edge_function) there)

    none_there : (v : ℕ) → a.flags func v ≡ true → ⊥
    none_there v e = none_of func v (ap (λ (z : Function). z.coroutine) early_none) e

    slots_nowhere : KeepsSlots (edged l) (function_at (edged l) func) (a.flags func) (a.roots func)
    slots_nowhere = subst (λ (z : Function). KeepsSlots (edged l) z (a.flags func) (a.roots func)) (sym here_none)
        (no_slots (edged l) (a.flags func) (a.roots func) none_there (λ v r e. none_there r (rooted func v r e))
        (subst KeepsSuspendRules here_none (split_keeps l.text l.source low.source.stands low.source.accepted func))
        (subst HasPlainNames here_none (split_named l.text l.source low.source.stands low.source.accepted func)))

  each_slot : (func : ℕ) → KeepsSlots (edged l) (function_at (edged l) func) (a.flags func) (a.roots func)
  each_slot func = on (slice_get (early l).functions func) refl
    where
      on : (o : Option Function) → slice_get (early l).functions func ≡ o
          → KeepsSlots (edged l) (function_at (edged l) func) (a.flags func) (a.roots func)
      on None e = slots_nowhere func e
      on (Some f) e = slots_there func f e

  coroutines : (func v : ℕ) → a.flags func v ≡ true → (function_at (edged l) func).coroutine ≡ true
  coroutines func v flag = on (slice_get (early l).functions func) refl
    where
      on : (o : Option Function) → slice_get (early l).functions func ≡ o
          → (function_at (edged l) func).coroutine ≡ true
      on None e = absurd (none_there func e v flag)
      on (Some f) e = coroutine_there func f e
          (sym (ap (λ (z : Function). z.coroutine) (early_is func f e)) ∙ (flagged func v flag).coroutine)

  -- a resume hands on its address
  handed : (func v : ℕ) (s : Point) → a.flags func v ≡ true
      → has_point (suspends (function_at (edged l) func)) s ≡ true → a.keep func s v ≡ true
  handed func v s flag is = on (slice_get (early l).functions func) refl
    where
      on : (o : Option Function) → slice_get (early l).functions func ≡ o → a.keep func s v ≡ true
      on None e = absurd (none_there func e v flag)
      on (Some f) e =
          let x = flagged func v flag in
          ((anew func).keep_is s v (points_there func f e
          (sym (ap (λ (z : Function). z.coroutine) (early_is func f e)) ∙ x.coroutine) s is)).1 (inr (inr (inl x)))

  pub split_slots : KeepsAllSlots (edged l) a.keep a.flags a.roots
  split_slots = record {
    each = λ func. each_slot func;
    coroutines = λ func v flag. coroutines func v flag;
    handed = λ func v s flag is. handed func v s flag is;
  }
