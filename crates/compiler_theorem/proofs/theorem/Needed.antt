-- What is needed behind a suspend of an accepted source with blocks on edges is handed on there.
use Rattle.std.proofs.Common.{◌≡◌, ◌⊎◌, inl, inr, ℕ, zero, suc, ◌<◌, Bool, true, false, List, [], ◌∷◌, length}
use Rattle.std.proofs.Common.{refl, sym, ap}
use Rattle.std.proofs.Common.{◌∙◌, subst, Option, Some, None, arith}
use Rattle.std.proofs.lemmas.Option.{slice_get-map}
use Rattle.std.specs.Prelude.{IsTrue, option_map, slice_get, unwrap_or, ◌&&◌, ◌==◌, ◌||◌, if◌then◌else◌}
use Rattle.compiler_theorem.proofs.theorem.Facts.{good_layouts}
use Rattle.compiler.proofs.whole.lowered_sources.Sources.{early_unused}
use Rattle.compiler_theorem.specs.theorem.Anew.{Anew, IsAnewIn, IsAnewOf, IsMemorySlot}
use Rattle.compiler_theorem.specs.theorem.Lowered.{IsLowered, Lowered, early, edged}
use Rattle.compiler.specs.flow_solver.Paths.{IsListed}
use Rattle.compiler.specs.frame_classes.Classes.{IsOf, suspends}
use Rattle.compiler.specs.frame_classes.declared.class.SlotClass.{SlotClass}
use Rattle.compiler.specs.frame_crossing.Crossing.{Crosses}
use Rattle.compiler.specs.frame_crossing.Values.{values_of}
use Rattle.compiler.proofs.frame_good.Frames.{layouts_found}
use Rattle.compiler.proofs.frame_slots.Points.{where_complete}
use Rattle.compiler.proofs.ir_laws.facts.Lists.{below}
use Rattle.compiler.proofs.ir_laws.facts.Truth.{and_both, and_first, and_second, itself}
use Rattle.compiler.specs.ir_model.Names.{function_at, no_function}
use Rattle.compiler.specs.ir_model.declared.module.Function.{Function}
use Rattle.compiler.specs.ir_model.declared.operand.Intrinsic.{Intrinsic}
use Rattle.compiler.proofs.ir_paths.Right.{facts_of_right}
use Rattle.compiler.specs.ir_paths.Paths.{has_point}
use Rattle.compiler.specs.ir_paths.Slots.{IsRampSlot, allocas_of, has_name}
use Rattle.compiler.specs.ir_paths.Windows.{is_call_of}
use Rattle.compiler.specs.ir_paths.declared.point.Point.{Point}
use Rattle.compiler.specs.pass_edges.EdgeBlocks.{with_edge_blocks}
use Rattle.compiler.proofs.pass_kept_proof.Handed.{keeps}
use Rattle.compiler.proofs.pass_kept_proof.Read.{listed_by_name}
use Rattle.compiler.specs.pass_kept_proof.Crossing.{IsDefinite}
use Rattle.compiler.specs.pass_kept_proof.Handed.{HandsOn, HasPlainNames}
use Rattle.compiler.specs.pass_kept_proof.Kept.{Keep}
use Rattle.compiler.specs.pass_kept_proof.Needed.{IsNeededBehind, IsReached}
use Rattle.compiler.specs.pass_kept_proof.SuspendRules.{IsCallAt, KeepsNeeded, KeepsSuspendRules}
use Rattle.compiler.proofs.pass_proofs.edges.paths.Slots.{same_allocas, same_ramp_slots}
use Rattle.compiler.proofs.pass_proofs.edges.shape.Kept.{calls_kept}
use Rattle.compiler.proofs.pass_proofs.edges.unused_frames.Edges.{unused_where_edges_have_blocks}
use Rattle.compiler.proofs.pass_proofs.kept.sources.Modules.{early_has_shape, early_rules}
use Rattle.compiler.proofs.pass_proofs.kept.sources.Names.{none_outside, suspend_inside}
use Rattle.compiler.proofs.pass_proofs.kept.sources.Whole.{edges_kept, split_definite, split_keeps, split_named, split_rules}
use Rattle.compiler.specs.pass_proofs.edges.states.MovedState.{KeepsEdges, edge_function}
use Rattle.pass_frames_meaning.specs.pass_renewed_proof.SlotRules.{IsMadeOnce}
use Rattle.compiler.proofs.rule_laws.rules.sources.Places.{instr_there}
use Rattle.compiler.specs.rule_laws.rules.unused.Unused.{AreFramesUnused}
use Rattle.compiler.specs.rule_shape.OneOfEach.{wrong_call}
use Rattle.run_accepted.proofs.Alive.{listed}
use Rattle.run_accepted.proofs.Needed.{Begun, IsAnew, Slot, other_anew}
use Rattle.compiler.specs.run_framed.Framed.{begin_name}
use Rattle.compiler.specs.run_step.Step.{AtInstr, Nowhere}

-- ---- names in lists

pub named_in : (v : ℕ) (vs : List ℕ) → IsListed v vs → has_name vs v ≡ true
named_in v [] h = absurd h
named_in v (u ∷ us) (inl same) = ap (λ (n : ℕ). (n == v) || has_name us v) (sym same)
    ∙ ap (λ (b : Bool). b || has_name us v) (itself v)
named_in v (u ∷ us) (inr h) = on (u == v) (named_in v us h)
  where
    on : (b : Bool) → has_name us v ≡ true → (b || has_name us v) ≡ true
    on true e = refl
    on false e = e

-- a name stands at a position
pub record StandsIn (vs : List ℕ) (v : ℕ) : Type 0 where
  pub at : ℕ
  pub there : slice_get vs at ≡ Some v

pub stands_at : (v : ℕ) (vs : List ℕ) → IsListed v vs → StandsIn vs v
stands_at v [] h = absurd h
stands_at v (u ∷ us) (inl same) = record { at = 0; there = ap Some (sym same) }
stands_at v (u ∷ us) (inr h) = let x = stands_at v us h in record { at = suc x.at; there = x.there }

pub some_class : (cs : List SlotClass) (k : ℕ) → k < length cs → (c : SlotClass) × (slice_get cs k ≡ Some c)
some_class [] k h = absurd (omega (arith, h))
some_class (c ∷ cs) zero h = (c, refl)
some_class (c ∷ cs) (suc k) h = some_class cs k (omega (arith, h))

-- ---- modules

module _ (l : Lowered) (low : IsLowered l) (a : Anew) (anew : IsAnewOf (early l) a) where
  -- ---- a coroutine

  module _ (k : ℕ) (f : Function) (there : slice_get (early l).functions k ≡ Some f)
      (coroutine : f.coroutine ≡ true) where
    abbrev h : Function
    h = with_edge_blocks f

    now : slice_get (edged l).functions k ≡ Some (with_edge_blocks f)
    now = slice_get-map edge_function (early l).functions k ∙ ap (option_map edge_function) there
        ∙ ap (λ (b : Bool). Some (if b then with_edge_blocks f else f)) coroutine

    here : function_at (edged l) k ≡ with_edge_blocks f
    here = ap (λ (o : Option Function). unwrap_or o no_function) now

    edges : KeepsEdges f
    edges = edges_kept l.text l.source low.source.stands low.source.accepted k f there coroutine

    alloca : (v : ℕ) → IsMadeOnce h v → IsListed v (allocas_of f)
    alloca v made = listed_by_name (allocas_of f) v (ap (λ (vs : List ℕ). has_name vs v) (sym (same_allocas f))
        ∙ listed h v made)

    ramp_now : (v : ℕ) → IsListed v (allocas_of f) → IsRampSlot f v → IsRampSlot h v
    ramp_now v among is =
        let own = ((facts_of_right h).ramp_slots v).0 (same_ramp_slots f edges.labels edges.once edges.phis v
        ∙ ((facts_of_right f).ramp_slots v).1 (named_in v (allocas_of f) among, is)) in
        own.1

    of_class : (v : ℕ) → IsListed v (allocas_of f) → (class : SlotClass) → IsOf f v class → (IsRampSlot h v → ⊥)
        → IsMemorySlot f v
    of_class v among SlotClass.Ramp is apart = absurd (apart (ramp_now v among is))
    of_class v among SlotClass.Local is apart = inl (record {
      coroutine = coroutine;
      is_alloca = named_in v (allocas_of f) among;
      is_of = is;
    })
    of_class v among SlotClass.Frame is apart = inr (record {
      coroutine = coroutine;
      is_alloca = named_in v (allocas_of f) among;
      is_of = is;
    })

    pub memory : (v : ℕ) → IsMadeOnce (with_edge_blocks f) v → (IsRampSlot (with_edge_blocks f) v → ⊥)
        → IsMemorySlot f v
    memory v made apart =
        let at = stands_at v (allocas_of f) (alloca v made) in
        let good = (layouts_found (early l) l.layouts.coroutines k f (good_layouts l low) there coroutine).is_good in
        let classes = good.contents_are.classes_are in
        let c = some_class good.contents.classes at.at (subst (λ (n : ℕ). at.at < n) (sym classes.count)
        (below (allocas_of f) at.at v at.there)) in
        of_class v (alloca v made) c.0 (classes.each at.at v c.0 at.there c.1) apart

    calls : wrong_call k h ≡ None
    calls =
        let shape = early_has_shape l.text l.source low.source.stands low.source.accepted k f there in
        calls_kept (early l) k f (early_rules l.text l.source low.source.stands low.source.accepted k f there) coroutine
        shape.calls shape.switches

    unused : AreFramesUnused k h
    unused = unused_where_edges_have_blocks k f
        (early_unused l.text l.source low.source.stands low.source.accepted k f there coroutine)

    other : (s : Point) (v : ℕ) → IsReached h s.block s.at → IsCallAt Intrinsic.CoroSuspend h s → IsNeededBehind h s v
        → (IsListed v (values_of h) → ⊥) → (begin_name h ≡ Some v) ⊎ IsMemorySlot f v
    other s v reached c n none = by (other_anew (edged l) k h coroutine
        (split_rules l.text l.source low.source.stands low.source.accepted k h now) calls
        (subst KeepsSuspendRules here (split_keeps l.text l.source low.source.stands low.source.accepted k))
        (subst IsDefinite here ((split_definite l.text l.source low.source.stands low.source.accepted).each k))
        (subst HasPlainNames here (split_named l.text l.source low.source.stands low.source.accepted k)) unused v s
        reached c n none)
      where
        by : IsAnew h v → (begin_name h ≡ Some v) ⊎ IsMemorySlot f v
        by (Begun e) = inl e
        by (Slot made apart) = inr (memory v made apart)

    -- what crosses, begin's value and memory slots are handed on at suspends
    given : (s : Point) (v : ℕ) → has_point (suspends h) s ≡ true
        → Crosses h v s ⊎ ((begin_name h ≡ Some v) ⊎ IsMemorySlot f v) → a.keep k s v ≡ true
    given s v is x =
        let early_is : function_at (early l) k ≡ f = ap (λ (o : Option Function). unwrap_or o no_function) there in
        let tables = subst (λ (z : Function). IsAnewIn z (with_edge_blocks z) (λ t u. IsTrue (a.keep k t u))
        (λ u. IsTrue (a.flags k u)) (λ u r. a.roots k u ≡ Some r)) early_is (anew k) in
        (tables.keep_is s v is).1 x

  -- ---- what is handed on where other names are, too

  abbrev g : ℕ → Function
  g func = function_at (edged l) func

  -- a value at a suspend of a coroutine
  abbrev is_asked : ℕ → Point → ℕ → Bool
  is_asked func s v = (function_at (early l) func).coroutine
      && (has_point (suspends (g func)) s && has_name (values_of (g func)) v)

  abbrev handed : Keep
  handed func s v = if is_asked func s v then a.keep func s v else true

  crossing : (func : ℕ) (s : Point) (v : ℕ) → (function_at (early l) func).coroutine ≡ true
      → has_point (suspends (g func)) s ≡ true → Crosses (g func) v s → a.keep func s v ≡ true
  crossing func s v coroutine is x = on (slice_get (early l).functions func) refl coroutine
    where
      on : (o : Option Function) → slice_get (early l).functions func ≡ o → (unwrap_or o no_function).coroutine ≡ true
          → a.keep func s v ≡ true
      on None e c = absurd (cc)
      on (Some f) e c = given func f e c s v
          (subst (λ (z : Function). has_point (suspends z) s ≡ true) (here func f e c) is)
          (inl (subst (λ (z : Function). Crosses z v s) (here func f e c) x))

  hands : HandsOn (edged l) handed
  hands = record {
    crossing = λ func s v x. to_crossing func s v x (is_asked func s v) refl;
    others = λ func s v none. to_other func s v none (is_asked func s v) refl;
  }
    where
      to_crossing : (func : ℕ) (s : Point) (v : ℕ) → Crosses (g func) v s → (b : Bool) → is_asked func s v ≡ b
          → (if b then a.keep func s v else true) ≡ true
      to_crossing func s v x false e = refl
      to_crossing func s v x true e =
          let inner = and_second (function_at (early l) func).coroutine _ e in
          crossing func s v (and_first (function_at (early l) func).coroutine _ e)
          (and_first (has_point (suspends (g func)) s) _ inner) x

      to_other : (func : ℕ) (s : Point) (v : ℕ) → (IsListed v (values_of (g func)) → ⊥) → (b : Bool)
          → is_asked func s v ≡ b → (if b then a.keep func s v else true) ≡ true
      to_other func s v none false e = refl
      to_other func s v none true e =
          let inner = and_second (function_at (early l) func).coroutine _ e in
          absurd (none (listed_by_name (values_of (g func)) v
          (and_second (has_point (suspends (g func)) s) (has_name (values_of (g func)) v) inner)))

  -- ---- what is needed

  handed_on : KeepsNeeded (edged l) handed
  handed_on = keeps (edged l) handed (split_keeps l.text l.source low.source.stands low.source.accepted)
      (split_definite l.text l.source low.source.stands low.source.accepted)
      (split_named l.text l.source low.source.stands low.source.accepted) hands

  value_needed : (func : ℕ) (s : Point) (v : ℕ) → is_asked func s v ≡ true → handed func s v ≡ true
      → a.keep func s v ≡ true
  value_needed func s v asked e = ap (λ (b : Bool). if b then a.keep func s v else true) (sym asked) ∙ e

  module _ (func : ℕ) (s : Point) (v : ℕ) (reached : IsReached (g func) s.block s.at)
      (c : IsCallAt Intrinsic.CoroSuspend (g func) s) (n : IsNeededBehind (g func) s v) where
    suspend : has_point (suspends (g func)) s ≡ true
    suspend = where_complete (is_call_of Intrinsic.CoroSuspend) (g func) s c.instr
        (instr_there (g func) s.block s.at c.instr c.stands) c.is

    inside : (f : Function) → slice_get (early l).functions func ≡ Some f → f.coroutine ≡ true → a.keep func s v ≡ true
    inside f e coroutine = on (has_name (values_of (g func)) v) refl
      where
        same : g func ≡ with_edge_blocks f
        same = here func f e coroutine

        is_coroutine : (function_at (early l) func).coroutine ≡ true
        is_coroutine = ap (λ (o : Option Function). (unwrap_or o no_function).coroutine) e ∙ coroutine

        on : (b : Bool) → has_name (values_of (g func)) v ≡ b → a.keep func s v ≡ true
        on true named = value_needed func s v (and_both (function_at (early l) func).coroutine
            (has_point (suspends (g func)) s && has_name (values_of (g func)) v) is_coroutine
            (and_both (has_point (suspends (g func)) s) (has_name (values_of (g func)) v) suspend named))
            (handed_on func s v reached c n)
        on false named = given func f e coroutine s v
            (subst (λ (z : Function). has_point (suspends z) s ≡ true) same suspend) (inr (other func f e coroutine s v
            (subst (λ (z : Function). IsReached z s.block s.at) same reached)
            (subst (λ (z : Function). IsCallAt Intrinsic.CoroSuspend z s) same c)
            (subst (λ (z : Function). IsNeededBehind z s v) same n) none))
          where
            none : IsListed v (values_of (with_edge_blocks f)) → ⊥
            none x =
                let yes : has_name (values_of (g func)) v ≡ true =
                named_in v (values_of (g func)) (subst (λ (z : Function). IsListed v (values_of z)) (sym same) x) in
                let no : true ≡ false = sym yes ∙ named in
                absurd (cc)

    outside : (f : Function) → slice_get (early l).functions func ≡ Some f → f.coroutine ≡ false → ⊥
    outside f e plain =
        let now : slice_get (edged l).functions func ≡ Some f = slice_get-map edge_function (early l).functions func
        ∙ ap (option_map edge_function) e ∙ ap (λ (b : Bool). Some (if b then with_edge_blocks f else f)) plain in
        let same : g func ≡ f = ap (λ (o : Option Function). unwrap_or o no_function) now in
        let call = subst (λ (z : Function). IsCallAt Intrinsic.CoroSuspend z s) same c in
        none_outside (edged l) func f (split_rules l.text l.source low.source.stands low.source.accepted func f now)
        plain s.block s.at call.instr Intrinsic.CoroSuspend suspend_inside call.stands call.is

    nowhere : slice_get (early l).functions func ≡ None → ⊥
    nowhere e =
        let now : slice_get (edged l).functions func ≡ None = slice_get-map edge_function (early l).functions func
        ∙ ap (option_map edge_function) e in
        let same : g func ≡ no_function = ap (λ (o : Option Function). unwrap_or o no_function) now in
        let call = subst (λ (z : Function). IsCallAt Intrinsic.CoroSuspend z s) same c in
        let none : Nowhere ≡ AtInstr call.instr = call.stands in
        absurd (cc)

    kept : a.keep func s v ≡ true
    kept = by (slice_get (early l).functions func) refl
      where
        by : (o : Option Function) → slice_get (early l).functions func ≡ o → a.keep func s v ≡ true
        by None e = absurd (nowhere e)
        by (Some f) e = on f.coroutine refl
          where
            on : (b : Bool) → f.coroutine ≡ b → a.keep func s v ≡ true
            on true d = inside f e d
            on false d = absurd (outside f e d)

  pub split_needed : KeepsNeeded (edged l) a.keep
  split_needed func s v reached c n = kept func s v reached c n
