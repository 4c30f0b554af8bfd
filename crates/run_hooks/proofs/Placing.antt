-- Steps by hooks come from placed states to placed states.
use Rattle.std.proofs.Common.{◌≡◌, ◌⊎◌, inl, inr, ℕ, zero, suc, ◌+◌, Bool, true, false, List, [], ◌∷◌, ◌++◌, map}
use Rattle.std.proofs.Common.{Option, Some, None, Result, Ok, Err, refl, sym, ap, ◌∙◌, subst, arith}
use Rattle.std.proofs.lemmas.List.Elements.{recursion_from_All}
use Rattle.std.specs.List.{AllByRecursion, cons_option}
use Rattle.std.specs.Prelude.{All, filter, filter_map, if◌then◌else◌, length, negsuc, ◌==◌, option_map, slice_get}
use Rattle.std.specs.Prelude.{slice_set}
use Rattle.pass_renewed_proof.proofs.frame_slots.Points.{PassesAt, where_sound}
use Rattle.pass_renewed_proof.specs.ir_base.declared.cause.Cause.{Cause}
use Rattle.pass_renewed_proof.specs.ir_base.declared.outcome.Outcome.{Outcome}
use Rattle.pass_renewed_proof.specs.ir_model.Names.{function_at, position_of}
use Rattle.pass_renewed_proof.specs.ir_model.declared.module.Module.{Module}
use Rattle.pass_renewed_proof.specs.ir_model.Layout.{size_of}
use Rattle.pass_renewed_proof.specs.ir_model.declared.instr.Case.{Case}
use Rattle.pass_renewed_proof.specs.ir_model.declared.instr.Instr.{Instr}
use Rattle.pass_renewed_proof.specs.ir_model.declared.instr.Terminator.{Terminator}
use Rattle.pass_renewed_proof.specs.ir_model.declared.module.Block.{Block}
use Rattle.pass_renewed_proof.specs.ir_model.declared.module.Function.{Function}
use Rattle.pass_renewed_proof.specs.ir_model.declared.operand.Arg.{Arg}
use Rattle.pass_renewed_proof.specs.ir_model.declared.operand.Callee.{Callee}
use Rattle.pass_renewed_proof.specs.ir_model.declared.operand.Intrinsic.{Intrinsic}
use Rattle.pass_renewed_proof.specs.ir_model.declared.operand.Operand.{Operand}
use Rattle.pass_renewed_proof.proofs.ir_paths.Search.{same_point-itself}
use Rattle.pass_renewed_proof.specs.ir_paths.Paths.{has_point, same_point}
use Rattle.pass_renewed_proof.specs.ir_paths.Windows.{destroy_label, end_block, instr_at, instr_in, is_call_of, points_where}
use Rattle.pass_renewed_proof.specs.ir_paths.Windows.{resume_label, saves_of, suspend_of}
use Rattle.pass_renewed_proof.specs.ir_paths.declared.point.Point.{Point}
use Rattle.pass_renewed_proof.specs.ir_paths.declared.point.Window.{Window}
use Rattle.pass_renewed_proof.proofs.pass_kept_proof.Same.{either, or_left, or_right, same_point_same}
use Rattle.pass_renewed_proof.specs.pass_kept_proof.Needed.{BranchesTo}
use Rattle.pass_renewed_proof.specs.pass_kept_proof.SuspendRules.{IsCallAt}
use Rattle.pass_renewed_proof.proofs.Left.{call_listed}
use Rattle.pass_renewed_proof.specs.rule_windows.Sets.{IsAfterEnd}
use Rattle.run_hooks.proofs.Points.{after_end as behind_end, after_clear, away_next, behind}
use Rattle.run_hooks.proofs.Points.{clear_next, left_by, no_call}
use Rattle.run_hooks.proofs.Points.{straight, suspend_no_end}
use Rattle.run_hooks.proofs.Reached.{IsOfInstr, at_is, of_term, sound_get}
use Rattle.pass_renewed_proof.specs.pass_kept_proof.Related.{IsSoundStatus}
use Rattle.run_hooks.specs.Away.{ArePlaced, ArePlacedInstances, Behind, HasStop, IsAllocaAt, IsAway, IsBehind}
use Rattle.run_hooks.specs.Away.{IsBehindAlloca, IsClear, IsClearBut, IsNextPlaced, IsOrdinary, IsPair}
use Rattle.run_hooks.specs.Away.{IsPlaced, IsPlacedState, IsPlacedStatus, KeepsAllPlaceRules, KeepsPlaceRules}
use Rattle.run_hooks.specs.Away.{StaysPlaced, behind_instr, point_in, spot_by}
use Rattle.run_hooks.specs.Hooks.{Hooks}
use Rattle.run_hooks.specs.Reached.{IsReachedState}
use Rattle.pass_renewed_proof.specs.run_memory.declared.pointer.Value.{Value}
use Rattle.pass_renewed_proof.specs.run_source.Source.{Sleeper, after_end, change_own, if_let_go}
use Rattle.pass_renewed_proof.specs.run_source.Source.{let_go, may_be_freed, pop, push, return, returned}
use Rattle.pass_renewed_proof.specs.run_source.Source.{sleeper_at, sleeper_of}
use Rattle.pass_renewed_proof.specs.run_source.State.{function_of, gives, instance_at}
use Rattle.pass_renewed_proof.specs.run_source.State.{settled, work_of}
use Rattle.pass_renewed_proof.specs.run_source.declared.state.Activation.{Activation}
use Rattle.pass_renewed_proof.specs.run_source.declared.state.Instance.{Instance}
use Rattle.pass_renewed_proof.specs.run_source.declared.state.Mode.{Mode}
use Rattle.pass_renewed_proof.specs.run_source.declared.state.State.{State}
use Rattle.pass_renewed_proof.specs.run_source.declared.state.Status.{Status}
use Rattle.pass_renewed_proof.specs.run_source_tables.Given.{Given, facts_at}
use Rattle.pass_renewed_proof.specs.run_step.Effects.{is_alloca}
use Rattle.pass_renewed_proof.specs.run_step.Results.{and_then, found, ok_if}
use Rattle.pass_renewed_proof.specs.run_step.Step.{Action, AtInstr, AtTerm, Context, Coro, Fetched, GoTo, NewSlot}
use Rattle.pass_renewed_proof.specs.run_step.Step.{Stuck, Work, action_of, alloca, fetch, fetch_in, fetch_or, is_alignment, outcome_of}
use Rattle.pass_renewed_proof.specs.run_step.Step.{switch, target_of}
use Rattle.pass_renewed_proof.specs.run_ints.Numbers.{word_of}
use Rattle.pass_renewed_proof.specs.run_step.Values.{Env, arg_value, integer, operand_value, value_in, with_result, with_value}
use Rattle.pass_renewed_proof.specs.run_step.declared.world.Slot.{Slot}

-- ---- where an activation stands

-- one that isn't entering a label stands at its point
pub spot_here : (f : Function) (mode : Mode) (p : Point) → ((from label : ℕ) → mode ≡ Mode.Entering from label → ⊥)
    → spot_by f mode p ≡ p
spot_here f Mode.Plain p never = refl
spot_here f Mode.Ramp p never = refl
spot_here f Mode.Resumed p never = refl
spot_here f (Mode.GivenRamp frame) p never = refl
spot_here f (Mode.Entering from label) p never = absurd (never from label refl)

-- ---- instances

pub placed_get : (g : Given) (xs : List Instance) (i : ℕ) (x : Instance) → ArePlacedInstances g.code xs
    → slice_get xs i ≡ Some x
    → IsPlacedStatus (function_at g.code x.coroutine) x.status
placed_get g [] i x h e = absurd (cc)
placed_get g (y ∷ xs) zero x h e = let k : y ≡ x = cc in subst
    (λ (z : Instance). IsPlacedStatus (function_at g.code z.coroutine) z.status) k h.0
placed_get g (y ∷ xs) (suc i) x h e = placed_get g xs i x h.1 e

pub placed_set : (g : Given) (xs : List Instance) (i : ℕ) (y : Instance) → ArePlacedInstances g.code xs
    → IsPlacedStatus (function_at g.code y.coroutine) y.status → ArePlacedInstances g.code (slice_set xs i y)
placed_set g [] i y h k = tt
placed_set g (x ∷ xs) zero y h k = (k, h.1)
placed_set g (x ∷ xs) (suc i) y h k = (h.0, placed_set g xs i y h.1 k)

pub placed_push : (g : Given) (xs : List Instance) (y : Instance) → ArePlacedInstances g.code xs
    → IsPlacedStatus (function_at g.code y.coroutine) y.status → ArePlacedInstances g.code (xs ++ y ∷ [])
placed_push g [] y h k = (k, tt)
placed_push g (x ∷ xs) y h k = (h.0, placed_push g xs y h.1 k)

-- the topmost activation's own instance is changed
pub change_placed : (g : Given) (s : State) (f : Instance → Instance) (o : Option (ℕ × Instance))
    → ArePlacedInstances g.code s.instances
    → ((i : ℕ) (x : Instance) → o ≡ Some (i, x) → slice_get s.instances i ≡ Some x)
    → ((x : Instance) → IsPlacedStatus (function_at g.code x.coroutine) x.status
    → IsPlacedStatus (function_at g.code (f x).coroutine) (f x).status)
    → ArePlacedInstances g.code (change_own s f o).instances
change_placed g s f None h is k = h
change_placed g s f (Some p) h is k = placed_set g s.instances p.0 (f p.1) h
    (k p.1 (placed_get g s.instances p.0 p.1 h (is p.0 p.1 refl)))

-- ---- windows that a branch leaves

pub first_kept : {A : Type 0} (t : A → Bool) (xs : List A) (y : A) (ys : List A) → filter t xs ≡ y ∷ ys
    → (k : ℕ) × (slice_get xs k ≡ Some y) × (t y ≡ true)
first_kept t [] y ys e = absurd (cc)
first_kept t (x ∷ xs) y ys e = on (t x) refl e (λ h. first_kept t xs y ys h)
  where
    on : (b : Bool) → t x ≡ b → (if b then x ∷ filter t xs else filter t xs) ≡ y ∷ ys
        → (filter t xs ≡ y ∷ ys → (k : ℕ) × (slice_get xs k ≡ Some y) × (t y ≡ true))
        → (k : ℕ) × (slice_get (x ∷ xs) k ≡ Some y) × (t y ≡ true)
    on true et h again = let same : x ≡ y = cc in (0, ap Some same, ap t (sym same) ∙ et)
    on false et h again = let r = again h in (suc r.0, r.1, r.2)

pub none_kept : {A : Type 0} (t : A → Bool) (xs : List A) → filter t xs ≡ [] → (k : ℕ) (x : A)
    → slice_get xs k ≡ Some x → t x ≡ false
none_kept t [] e k x h = absurd (cc)
none_kept t (y ∷ xs) e k x h = on (t y) refl e k h (λ d j i. none_kept t xs d j x i)
  where
    on : (b : Bool) → t y ≡ b → (if b then y ∷ filter t xs else filter t xs) ≡ [] → (k : ℕ)
        → slice_get (y ∷ xs) k ≡ Some x
        → (filter t xs ≡ [] → (j : ℕ) → slice_get xs j ≡ Some x → t x ≡ false) → t x ≡ false
    on true et d k i again = absurd (cc)
    on false et d zero i again = let same : y ≡ x = cc in ap t (sym same) ∙ et
    on false et d (suc j) i again = again d j i

each_by : {A : Type 0} (P : A → Type 0) (xs : List A) → AllByRecursion P xs → (k : ℕ) (x : A)
    → slice_get xs k ≡ Some x → P x
each_by P [] h k x e = absurd (cc)
each_by P (y ∷ xs) h zero x e = let same : y ≡ x = cc in subst P same h.0
each_by P (y ∷ xs) h (suc k) x e = each_by P xs h.1 k x e

pub each_is : {A : Type 0} (P : A → Type 0) (xs : List A) → All P xs → (k : ℕ) (x : A) → slice_get xs k ≡ Some x → P x
each_is P xs h k x e = each_by P xs (recursion_from_All P xs h) k x e

-- the pairs of a function's windows are those of its saves
abbrev pairs_of : Function → List Point → List (Point × Point)
pairs_of f ks = filter_map (λ save. option_map {U = Point × Point} (λ suspend. (save, suspend)) (suspend_of f save)) ks

abbrev some_pair : Point → Point → Option (Point × Point)
some_pair s k = Some (k, s)

-- a pair is among that of a save, if it has a suspend, and those of others
abbrev IsAmong : Function → List Point → Point → Point → Point → Option Point → Type 0
IsAmong f ks x k s o = (n : ℕ) × (slice_get (cons_option (option_map {U = Point × Point} (λ suspend. (x, suspend)) o)
    (pairs_of f ks)) n ≡ Some (k, s))

pair_found : (f : Function) (ks : List Point) (n : ℕ) (k s : Point)
    → slice_get (filter_map (λ save. option_map {U = Point × Point} (λ suspend. (save, suspend))
    (suspend_of f save)) ks) n ≡ Some (k, s)
    → (has_point ks k ≡ true) × (suspend_of f k ≡ Some s)
pair_found f [] n k s e = absurd (cc)
pair_found f (x ∷ ks) n k s e = on (suspend_of f x) refl n e (λ j h. pair_found f ks j k s h)
  where
    later : (has_point ks k ≡ true) × (suspend_of f k ≡ Some s)
        → (has_point (x ∷ ks) k ≡ true) × (suspend_of f k ≡ Some s)
    later r = (or_right (same_point k x) (has_point ks k) r.0, r.1)

    on : (o : Option Point) → suspend_of f x ≡ o → (n : ℕ)
        → slice_get (cons_option (option_map {U = Point × Point} (λ suspend. (x, suspend)) o)
        (pairs_of f ks)) n ≡ Some (k, s)
        → ((j : ℕ) → slice_get (pairs_of f ks) j ≡ Some (k, s) → (has_point ks k ≡ true) × (suspend_of f k ≡ Some s))
        → (has_point (x ∷ ks) k ≡ true) × (suspend_of f k ≡ Some s)
    on None eo n e again = later (again n e)
    on (Some t) eo zero e again =
        let same : ◌≡◌ {A = Point × Point} (x, t) (k, s) = cc in
        let ek : x ≡ k = ap (λ (z : Point × Point). z.0) same in
        let es : t ≡ s = ap (λ (z : Point × Point). z.1) same in (
          or_left (same_point k x) (has_point ks k) (ap (same_point k) ek
              ∙ same_point-itself k),
          ap (suspend_of f) (sym ek) ∙ eo ∙ ap Some es,
        )
    on (Some t) eo (suc j) e again = later (again j e)

pair_listed : (f : Function) (ks : List Point) (k s : Point) → has_point ks k ≡ true → suspend_of f k ≡ Some s
    → (n : ℕ) × (slice_get (filter_map (λ save. option_map {U = Point × Point} (λ suspend. (save, suspend))
    (suspend_of f save)) ks) n ≡ Some (k, s))
pair_listed f [] k s h e = absurd (cc)
pair_listed f (x ∷ ks) k s h e = on (either (same_point k x) (has_point ks k) h) (λ d. pair_listed f ks k s d e)
  where
    behind_one : (n : ℕ) × (slice_get (pairs_of f ks) n ≡ Some (k, s)) → (o : Option Point) → IsAmong f ks x k s o
    behind_one r None = r
    behind_one r (Some t) = (suc r.0, r.1)

    on : (same_point k x ≡ true) ⊎ (has_point ks k ≡ true) → (has_point ks k ≡ true
        → (n : ℕ) × (slice_get (pairs_of f ks) n ≡ Some (k, s))) → IsAmong f ks x k s (suspend_of f x)
    on (inl d) again =
        let same : k ≡ x = same_point_same k x d in
        let own : suspend_of f x ≡ Some s = ap (suspend_of f) (sym same) ∙ e in
        subst (IsAmong f ks x k s) (sym own) (0, ap (some_pair s) (sym same))
    on (inr d) again = behind_one (again d) (suspend_of f x)

map_back : {A B : Type 0} (t : A → B) (xs : List A) (n : ℕ) (y : B) → slice_get (map t xs) n ≡ Some y
    → (x : A) × (slice_get xs n ≡ Some x) × (t x ≡ y)
map_back t [] n y e = absurd (cc)
map_back t (x ∷ xs) zero y e = let same : t x ≡ y = cc in (x, refl, same)
map_back t (x ∷ xs) (suc n) y e = map_back t xs n y e

map_there : {A B : Type 0} (t : A → B) (xs : List A) (n : ℕ) (x : A) → slice_get xs n ≡ Some x
    → slice_get (map t xs) n ≡ Some (t x)
map_there t [] n x e = absurd (cc)
map_there t (y ∷ xs) zero x e = let same : y ≡ x = cc in ap (λ z. Some (t z)) same
map_there t (y ∷ xs) (suc n) x e = map_there t xs n x e

save_there : (f : Function) (p : Point) → has_point (points_where (is_call_of Intrinsic.CoroSave) f) p ≡ true
    → IsCallAt Intrinsic.CoroSave f p
save_there f p h = on (where_sound (is_call_of Intrinsic.CoroSave) f p h)
  where
    at : (i : Instr) (o : Option Block) → instr_in o p.at ≡ Some i → fetch_in o p.at ≡ AtInstr i
    at i None e = absurd (cc)
    at i (Some b) e = ap (λ (o : Option Instr). fetch_or o (p.at == length b.instrs) b.term) e

    on : PassesAt (is_call_of Intrinsic.CoroSave) (instr_at f p) → IsCallAt Intrinsic.CoroSave f p
    on x = record { instr = x.instr; stands = at x.instr (slice_get f.blocks p.block) x.is; is = x.passes }

module _ (g : Given) (rules : KeepsAllPlaceRules g) (func : ℕ) where
  abbrev windows : List Window
  windows = (facts_at g.facts func).windows

  -- a window of the function is that of a save with its suspend
  pub window_pair : (k : ℕ) (w : Window) → slice_get (facts_at g.facts func).windows k ≡ Some w
      → IsPair (function_at g.code func) w.save w.suspend
  window_pair k w e =
      let f = function_at g.code func in
      let there : slice_get (saves_of f) k ≡ Some (w.save, w.suspend) =
      ap (λ (xs : List (Point × Point)). slice_get xs k) (sym (rules.saves func))
      ∙ map_there (λ (y : Window). (y.save, y.suspend)) windows k w e in
      let r = pair_found f (points_where (is_call_of Intrinsic.CoroSave) f) k w.save w.suspend there in
      record { is_save = save_there f w.save r.0; takes = r.1 }

  -- and each pair has a window
  pub pair_window : (k s : Point) → IsPair (function_at g.code func) k s
      → (n : ℕ) × (w : Window) × (slice_get (facts_at g.facts func).windows n ≡ Some w) × (w.save ≡ k) ×
      (w.suspend ≡ s)
  pair_window k s pair =
      let f = function_at g.code func in
      let r = pair_listed f (points_where (is_call_of Intrinsic.CoroSave) f) k s
      (call_listed f Intrinsic.CoroSave k pair.is_save) pair.takes in
      let there : slice_get (map (λ (y : Window). (y.save, y.suspend)) windows) r.0 ≡ Some (k, s) =
      ap (λ (xs : List (Point × Point)). slice_get xs r.0) (rules.saves func) ∙ r.1 in
      let w = map_back (λ (y : Window). (y.save, y.suspend)) windows r.0 (k, s) there in
      (r.0, w.0, w.1, ap (λ (z : Point × Point). z.0) w.2, ap (λ (z : Point × Point). z.1) w.2)

-- ---- a step

module _ (g : Hooks) (rules : KeepsAllPlaceRules g.given) (s : State) (reached : IsReachedState g.given s)
    (h : IsPlacedState g s) where
  abbrev f : Function
  f = function_of g.given s

  abbrev p : Point
  p = point_in s.top

  abbrev r : KeepsPlaceRules g.given.code f
  r = rules.each s.top.func

  abbrev here : Fetched
  here = fetch f s.top.block s.top.at

  abbrev pub NotEntering : Type 0
  NotEntering = (from label : ℕ) → s.top.mode ≡ Mode.Entering from label → ⊥

  -- one that is entering a label is at an alloca
  pub no_entering : (x : Fetched) → here ≡ x → ((i : Instr) → x ≡ AtInstr i → is_alloca i ≡ true → ⊥) → NotEntering
  no_entering x e never from label k =
      let a : IsAllocaAt f p = (h.top.entering from label k).alloca in
      never a.instr (sym e ∙ a.stands) a.is

  -- what comes of an activation that isn't entering: another that isn't either, at another place
  pub clear_at : NotEntering → (q : Point) → IsClear f q → IsClear f (spot_by f s.top.mode q)
  clear_at never q c = subst (IsClear f) (sym (spot_here f s.top.mode q never)) c

  pub clear_here : NotEntering → s.top.has_left ≡ false → IsClear f p
  clear_here never e = subst (IsClear f) (spot_here f s.top.mode p never) (h.top.clear e)

  -- right behind a suspend stands its switch
  not_behind : (i : Instr) → here ≡ AtInstr i → IsBehind f p → ⊥
  not_behind i e b =
      let stop : HasStop g.given.code f b.suspend = r.stops b.suspend b.is_suspend in
      let at : fetch f p.block p.at ≡ AtTerm (Terminator.Switch stop.arg stop.default stop.cases) =
      ap (λ (z : Point). fetch f z.block z.at) b.next ∙ stop.stands in
      let k : AtInstr i ≡ AtTerm (Terminator.Switch stop.arg stop.default stop.cases) = sym e ∙ at in
      absurd (cc)

  -- where it has left it is away
  pub away_here : (i : Instr) → here ≡ AtInstr i → s.top.has_left ≡ true → IsAway f p
  away_here i e left = on (h.top.away left)
    where
      on : IsAway f p ⊎ (IsBehind f p × IsClear f p) → IsAway f p
      on (inl a) = a
      on (inr b) = absurd (not_behind i e b.0)

  behind_is : (b : IsBehind f (behind p)) → p ≡ b.suspend
  behind_is b =
      let eb : s.top.block ≡ b.suspend.block = ap (λ (z : Point). z.block) b.next in
      let ea : s.top.at + 1 ≡ b.suspend.at + 1 = ap (λ (z : Point). z.at) b.next in
      let at : s.top.at ≡ b.suspend.at = omega (arith, ea) in
      (λ j. record { block = eb j; at = at j })

  pub not_fresh : (IsCallAt Intrinsic.CoroSuspend f p → ⊥) → IsBehind f (behind p) → ⊥
  not_fresh never b = never (subst (IsCallAt Intrinsic.CoroSuspend f) (sym (behind_is b)) b.is_suspend)

  -- ---- behind an instruction

  abbrev IsNext : Type 0
  IsNext = IsNextPlaced g s

  next_by : NotEntering → (s.top.has_left ≡ false → IsClear f (behind p)) → (s.top.has_left ≡ true
      → IsAway f (behind p))
      → (IsCallAt Intrinsic.CoroSuspend f p → ⊥) → IsNext
  next_by never clear away no_suspend = record {
    waits = record {
      clear = λ e. clear_at never (behind p) (clear e);
      away = away;
      entering = λ from label k. absurd (never from label k);
      fresh = not_fresh no_suspend;
    };
    below = h.below;
    instances = h.instances;
  }

  module _ (i : Instr) (e : here ≡ AtInstr i) where
    pub ordinary_next : is_call_of Intrinsic.CoroSave i ≡ false → is_call_of Intrinsic.CoroSuspend i ≡ false
        → is_call_of Intrinsic.CoroEnd i ≡ false
        → NotEntering → IsNext
    ordinary_next no_save no_suspend no_end never =
        let ns = no_call Intrinsic.CoroSave f p i e no_save in
        let nu = no_call Intrinsic.CoroSuspend f p i e no_suspend in
        next_by never
        (λ left. clear_next f p (behind p) (straight f p i e) ns (clear_here never left))
        (λ left. away_next g.given.code f r p i e ns nu (no_call Intrinsic.CoroEnd f p i e no_end)
        (away_here i e left))
        nu

  pub plain_next : IsOrdinary here → IsNext
  plain_next o = ordinary_next o.instr o.stands o.no_save o.no_suspend o.no_end
      (no_entering (AtInstr o.instr) o.stands (λ i k a. let same : o.instr ≡ i = cc in let d : is_alloca i ≡ false =
      subst (λ (j : Instr). is_alloca j ≡ false) same o.no_alloca in absurd (cc)))

  -- behind coro.end
  pub end_next : IsCallAt Intrinsic.CoroEnd f p → NotEntering → IsNext
  end_next c never =
      let a : IsAfterEnd f (behind p) = behind_end f p (behind p) c (straight f p c.instr c.stands) in
      next_by never (λ left. after_clear g.given.code f r (behind p) a) (λ left. let s = left_by f p (away_here c.instr c.stands left) in Behind s.0 s.1 a)
      (λ d. suspend_no_end f p d c)

-- a state whose topmost activation has gone on behind its instruction
pub next_placed : (g : Hooks) (s : State) (n : IsNextPlaced g s) (w : Work) → IsPlacedState g (settled s w)
next_placed g s n w = record {
  top = record {
    clear = n.waits.clear;
    away = λ e. inl (n.waits.away e);
    entering = λ from label e. let k = n.waits.entering from label e in record {
      may = k.may;
      stays = k.stays;
      alloca
          = k.alloca;
    };
    stops = λ b. absurd (n.waits.fresh b);
  };
  below = n.below;
  instances = n.instances;
}

-- with instances that are placed as well
pub with_instances : (g : Hooks) (s t : State) → IsNextPlaced g s → t.top ≡ s.top → t.below ≡ s.below
    → ArePlacedInstances g.given.code t.instances → IsNextPlaced g t
with_instances g s t n et eb k = record {
  waits = subst (λ (a : Activation). IsPlaced g (function_at g.given.code a.func) (behind_instr a)) (sym et) n.waits;
  below = subst (ArePlaced g) (sym eb) n.below;
  instances = k;
}

pub gives_placed : (g : Hooks) (s : State) (n : IsNextPlaced g s) (result : Option ℕ) (v : Value)
    → IsPlacedState g (gives s result v)
gives_placed g s n result v = next_placed g s n (record { world = s.world; values = _ })

-- an activation of a callee on top
pub called_placed : (g : Hooks) (rules : KeepsAllPlaceRules g.given) (s : State) → IsNextPlaced g s
    → (a : Activation) → a.has_left ≡ false → a.block ≡ 0 → a.at ≡ 0
    → ((from label : ℕ) → a.mode ≡ Mode.Entering from label → ⊥) → IsPlacedState g (push s a)
called_placed g rules s n a stays eb ea never = record {
  top = record {
    clear = λ e. subst (IsClear fa) (sym (spot_here fa a.mode (point_in a) never))
        (subst (IsClear fa) (sym at) (rules.each a.func).entry);
    away = λ e. let k : true ≡ false = sym e ∙ stays in absurd (cc);
    entering = λ from label e. absurd (never from label e);
    stops = λ b. let k : b.suspend.at + 1 ≡ 0 = sym (ap (λ (z : Point). z.at) b.next)
        ∙ ea in absurd (omega (arith, k));
  };
  below = (n.waits, n.below);
  instances = n.instances;
}
  where
    fa : Function
    fa = function_at g.given.code a.func

    at : point_in a ≡ record { block = 0; at = 0 }
    at = λ j. record { block = eb j; at = ea j }

-- ---- returns

pop_placed : (g : Hooks) (s : State) (v : Option Value) → IsPlacedState g s → (below : List Activation)
    → ArePlaced g below
    → StaysPlaced g (pop s v below)
pop_placed g s v h [] k = on (outcome_of v)
  where
    on : (o : Result Outcome Cause) → StaysPlaced g (and_then o (λ outcome. Ok (record s { outcome = outcome })))
    on (Err cause) = tt
    on (Ok outcome) = record { top = h.top; below = h.below; instances = h.instances }
pop_placed g s v h (a ∷ below) k = record {
  top = record {
    clear = k.0.clear;
    away = λ e. inl (k.0.away e);
    entering = λ from label e. let x = k.0.entering from label e in record {
      may = x.may;
      stays = x.stays;
      alloca =
          x.alloca;
    };
    stops = λ b. absurd (k.0.fresh b);
  };
  below = k.1;
  instances = h.instances;
}

pub return_placed : (g : Hooks) (s : State) (v : Option Value) → IsPlacedState g s → StaysPlaced g (return s v)
return_placed g s v h = pop_placed g (returned s) v (record {
  top = record {
    clear = h.top.clear;
    away = h.top.away;
    entering =
        λ from label e. let k = h.top.entering from label e in record {
          may = k.may;
          stays = k.stays;
          alloca = k.alloca;
        };
    stops = h.top.stops;
  };
  below = h.below;
  instances = h.instances;
}) s.below h.below

-- ---- parts of a step

pub then_placed : (g : Hooks) {A : Type 0} (r : Result A Cause) (k : A → Result State Cause) → ((a : A) → r ≡ Ok a
    → StaysPlaced g (k a)) → StaysPlaced g (and_then r k)
then_placed g (Err cause) k h = tt
then_placed g (Ok a) k h = h a refl

pub ok_placed : (g : Hooks) (b : Bool) (cause : Cause) (s : State) → IsPlacedState g s
    → StaysPlaced g (ok_if b cause s)
ok_placed g true cause s h = h
ok_placed g false cause s h = tt

pub sleeper_placed : (g : Hooks) (s : State) (v : Value) (go : Sleeper → Result State Cause)
    → ((i : ℕ) (x : Instance) (at : Point) (vs : Env) → slice_get s.instances i ≡ Some x
    → x.status ≡ Status.Suspended at vs
    → StaysPlaced g (go (record { number = i; instance = x; suspend = at; values = vs })))
    → StaysPlaced g (and_then (sleeper_at s v) go)
sleeper_placed g s v go k = on (instance_at s.instances v) (λ j x e. at_is s.instances v j x e)
  where
    by : (i : ℕ) (x : Instance) → slice_get s.instances i ≡ Some x → (st : Status) → x.status ≡ st
        → StaysPlaced g (and_then (sleeper_of i x st) go)
    by i x e Status.Running es = tt
    by i x e (Status.Suspended at vs) es = k i x at vs e es
    by i x e Status.Finished es = tt

    on : (o : Option (ℕ × Instance)) → ((j : ℕ) (x : Instance) → o ≡ Some (j, x) → slice_get s.instances j ≡ Some x)
        → StaysPlaced g (and_then (and_then (found Cause.Frame o) (λ (i, x). sleeper_of i x x.status)) go)
    on None is = tt
    on (Some z) is = by z.0 z.1 (is z.0 z.1 refl) z.1.status refl

-- the suspend of a Suspended instance
pub suspended_clear : (g : Hooks) (xs : List Instance) (i : ℕ) (x : Instance) (at : Point) (vs : Env)
    → ArePlacedInstances g.given.code xs → slice_get xs i ≡ Some x
    → x.status ≡ Status.Suspended at vs → IsClearBut (function_at g.given.code x.coroutine) at at
suspended_clear g xs i x at vs h e es = subst (IsPlacedStatus (function_at g.given.code x.coroutine)) es
    (placed_get g.given xs i x h e)

-- ---- actions of saves, suspends, the end and allocas

abbrev pub IsCoro : Action → Type 0
IsCoro (Coro i args result) = Unit {0}
IsCoro _ = ⊥

pub save_acts : (c : Context) (w : Work) (i : Instr) → is_call_of Intrinsic.CoroSave i ≡ true
    → IsCoro (action_of c w (AtInstr i))
save_acts c w (Instr.Call result must_tail ty (Callee.Intrinsic Intrinsic.CoroSave) args) e = tt
save_acts c w _ e = absurd (cc)

pub suspend_acts : (c : Context) (w : Work) (i : Instr) → is_call_of Intrinsic.CoroSuspend i ≡ true
    → IsCoro (action_of c w (AtInstr i))
suspend_acts c w (Instr.Call result must_tail ty (Callee.Intrinsic Intrinsic.CoroSuspend) args) e = tt
suspend_acts c w _ e = absurd (cc)

pub end_acts : (c : Context) (w : Work) (i : Instr) → is_call_of Intrinsic.CoroEnd i ≡ true
    → IsCoro (action_of c w (AtInstr i))
end_acts c w (Instr.Call result must_tail ty (Callee.Intrinsic Intrinsic.CoroEnd) args) e = tt
end_acts c w _ e = absurd (cc)

-- an alloca gives a slot, or is stuck
pub data IsSlot : Action → Type 0 where
  Slots : (w : Work) (slot : Slot) → IsSlot (NewSlot w slot)
  IsStuck : (cause : Cause) → IsSlot (Stuck cause)

pub alloca_acts : (c : Context) (w : Work) (i : Instr) → is_alloca i ≡ true → IsSlot (action_of c w (AtInstr i))
alloca_acts c w (Instr.Alloca name ty align) e = on (is_alignment align)
  where
    on : (b : Bool) → IsSlot (if b then alloca c w name (size_of c.code ty) align else Stuck Cause.Align)
    on true = Slots _ _
    on false = IsStuck Cause.Align
alloca_acts c w _ e = absurd (cc)

pub alloca_no_call : (x : Intrinsic) (i : Instr) → is_alloca i ≡ true → is_call_of x i ≡ true → ⊥
alloca_no_call x (Instr.Alloca name ty align) a e = absurd (cc)
alloca_no_call x _ a e = absurd (cc)

pub term_no_instr : (c : Context) (s : State) (t : Terminator) (a : Action) → action_of c (work_of s) (AtTerm t) ≡ a
    → IsOfInstr a ≡ true → ⊥
term_no_instr c s t a e k = let never : true ≡ false = sym k ∙ ap IsOfInstr (sym e) ∙ of_term c s t in absurd (cc)

-- behind any instruction of an activation that isn't entering
pub behind_any : (g : Hooks) (s : State) → IsNextPlaced g s → (w : Work) → ((from label : ℕ)
    → s.top.mode ≡ Mode.Entering from label → ⊥) → IsBehindAlloca g (settled s w)
behind_any g s n w never = record {
  clear = n.waits.clear;
  away = n.waits.away;
  entering = λ from label e. absurd (never from label e);
  fresh = n.waits.fresh;
  below = n.below;
  instances = n.instances;
}

pub let_go_next : (g : Hooks) (s : State) (o : Option (ℕ × Instance)) → ((i : ℕ) (x : Instance) → o ≡ Some (i, x)
    → slice_get s.instances i ≡ Some x)
    → ArePlacedInstances g.given.code s.instances → IsNextPlaced g s → IsNextPlaced g (if_let_go s o)
let_go_next g s None is h n = n
let_go_next g s (Some q) is h n = on (may_be_freed q.1)
  where
    on : (b : Bool) → IsNextPlaced g (if b then let_go s q.0 q.1 else s)
    on true = with_instances g s (let_go s q.0 q.1) n refl refl
        (placed_set g.given s.instances q.0 (record q.1 { freed = true }) h
        (placed_get g.given s.instances q.0 q.1 h (is q.0 q.1 refl)))
    on false = n

-- ---- the switch behind a suspend

set_there : (env : Env) (n : ℕ) (v : Value) → (value_in (with_value env n v) n ≡ v) ⊎
    (value_in (with_value env n v) n ≡ Value.Poison)
set_there [] n v = inr refl
set_there (x ∷ env) zero v = inl refl
set_there (x ∷ env) (suc n) v = set_there env n v

pub at_stop : (m : Module) (f : Function) (values : Env) (result : Option ℕ) (n : ℕ) → result ≡ Some n
    → (arg : Arg) (default : ℕ) (cases : List Case) (label : ℕ) → arg.value ≡ Operand.Local n
    → target_of m (word_of 8 (negsuc 0)) default cases ≡ default → position_of f default ≡ end_block f
    → switch m (arg_value m (with_result values result (integer 8 (negsuc 0))) arg) default cases ≡ GoTo label
    → position_of f label ≡ end_block f
at_stop m f values result n er arg default cases label ea stop end e = on (set_there values n (integer 8 (negsuc 0)))
  where
    v : Value
    v = integer 8 (negsuc 0)

    is : arg_value m (with_result values result v) arg ≡ value_in (with_value values n v) n
    is = ap (λ (o : Option ℕ). operand_value m (with_result values o v) arg.ty arg.value) er
        ∙ ap (operand_value m (with_value values n v) arg.ty) ea

    on : (value_in (with_value values n v) n ≡ v) ⊎ (value_in (with_value values n v) n ≡ Value.Poison)
        → position_of f label ≡ end_block f
    on (inl k) =
        let at : switch m v default cases ≡ GoTo label = ap (λ (x : Value). switch m x default cases) (sym (is ∙ k))
        ∙ e in
        let same : target_of m (word_of 8 (negsuc 0)) default cases ≡ label = cc in
        ap (position_of f) (sym same ∙ stop) ∙ end
    on (inr k) =
        let at : switch m Value.Poison default cases ≡ GoTo label = ap (λ (x : Value). switch m x default cases)
        (sym (is ∙ k)) ∙ e in
        absurd (cc)

-- ---- the end, a suspend that an instance has

pub end_placed : (g : Hooks) (s : State) → IsPlacedState g s → IsNextPlaced g s → (result : Option ℕ) (mode : Mode)
    → StaysPlaced g (after_end s result mode)
end_placed g s h n result Mode.Resumed = return_placed g s None h
end_placed g s h n result _ = gives_placed g s n result _

pub release_top : (s : State) (o : Option (ℕ × Instance))
    → (change_own s (λ x. record x { released = true }) o).top ≡ s.top
release_top s None = refl
release_top s (Some q) = refl

pub release_below : (s : State) (o : Option (ℕ × Instance))
    → (change_own s (λ x. record x { released = true }) o).below ≡ s.below
release_below s None = refl
release_below s (Some q) = refl

pub suspended_call : (g : Hooks) (s : State) → IsReachedState g.given s
    → (i : ℕ) (x : Instance) (at : Point) (vs : Env) → slice_get s.instances i ≡ Some x
    → x.status ≡ Status.Suspended at vs → IsCallAt Intrinsic.CoroSuspend (function_at g.given.code x.coroutine) at
suspended_call g s reached i x at vs e es = (subst (IsSoundStatus g.given x.coroutine) es
    (sound_get g.given s.instances i x reached.instances e)).1

-- the resume and the destroy label are labels of the suspend's switch
pub own_branch : (g : Hooks) (rules : KeepsAllPlaceRules g.given) (s : State) → IsReachedState g.given s
    → (i : ℕ) (x : Instance) (at : Point) (vs : Env) → slice_get s.instances i ≡ Some x
    → x.status ≡ Status.Suspended at vs
    → BranchesTo (resume_label (function_at g.given.code x.coroutine) at)
    (fetch (function_at g.given.code x.coroutine) at.block (at.at + 1))
    × BranchesTo (destroy_label (function_at g.given.code x.coroutine) at)
    (fetch (function_at g.given.code x.coroutine) at.block (at.at + 1))
own_branch g rules s reached i x at vs e es =
    let f = function_at g.given.code x.coroutine in
    let stop : HasStop g.given.code f at = (rules.each x.coroutine).stops at
    (suspended_call g s reached i x at vs e es) in (
      subst (BranchesTo (resume_label f at)) (sym stop.stands) stop.own.0,
      subst (BranchesTo (destroy_label f at))
          (sym stop.stands) stop.own.1,
    )
