-- What holds of the values of coro.frame in each state of a run.
use Rattle.std.proofs.Common.{◌≡◌, ◌⊎◌, inl, inr, ⊎_elim, ℕ, ◌+◌, Bool, true, false, List, [], ◌∷◌, ◌++◌, length, refl, sym, ap, ◌∙◌, subst}
use Rattle.std.proofs.lemmas.Bool.{lt-ltb}
use Rattle.std.specs.Prelude.{IsTrue, Some, None, Option, option_map, map, nat_lt, slice_get, slice_set, ◌==◌, ◌||◌, ◌&&◌, if◌then◌else◌}
use Rattle.rule_laws.specs.run_memory.declared.pointer.Value.{Value}
use Rattle.rule_laws.specs.run_source.State.{frame_address_of}
use Rattle.rule_laws.specs.run_source.declared.state.Instance.{Instance}
use Rattle.rule_laws.specs.run_source.declared.state.Mode.{Mode}
use Rattle.rule_laws.proofs.ir_laws.facts.Truth.{equal_numbers, not_equal}
use Rattle.rule_laws.proofs.ir_laws.facts.Lists.{get_before, get_within, set_here, set_length, set_other}
use Rattle.rule_laws.specs.ir_laws.paths.renamed.Regular.{Ahead, Here, Next, HasNoFrame, IsDead, is_call_at, makes, stops}
use Rattle.pass_early_proof.specs.early.renaming.Regular.{IsDeadBehind, IsPlain}
use Rattle.rule_laws.specs.ir_laws.facts.renamed.Regular.{is_result, passes}
use Rattle.pass_early.specs.Renaming.{is_renamed}
use Rattle.pass_early.specs.declared.renaming.Renaming.{Renaming}
use Rattle.ir_model.specs.declared.instr.Instr.{Instr}
use Rattle.ir_model.specs.declared.module.Block.{Block}
use Rattle.ir_model.specs.declared.module.Function.{Function}
use Rattle.ir_model.specs.declared.operand.Intrinsic.{Intrinsic}
use Rattle.rule_laws.proofs.ir_paths.Search.{same_point-itself}
use Rattle.rule_laws.specs.ir_paths.Paths.{entry_point, has_point, nexts, nexts_in, targets}
use Rattle.rule_laws.specs.ir_paths.Windows.{instr_at, instr_in, is_call_of}
use Rattle.rule_laws.specs.ir_paths.declared.point.Point.{Point}
use Rattle.rule_laws.specs.run_step.Values.{Env, value_in, value_or_poison, with_result, with_value}
use Rattle.rule_laws.specs.run_laws.changed.Changed.{result_of}

-- ---- instances, by their coroutines and frame addresses

abbrev pub origin_of : Instance → ℕ × Value
origin_of x = (x.coroutine, frame_address_of x)

abbrev pub origin_at : List Instance → ℕ → Option (ℕ × Value)
origin_at instances i = option_map origin_of (slice_get instances i)

-- each instance is there still
abbrev pub IsGrown : List Instance → List Instance → Type 0
IsGrown a b = (i : ℕ) (o : ℕ × Value) → origin_at a i ≡ Some o → origin_at b i ≡ Some o

pub grown_set : (a : List Instance) (i : ℕ) (x y : Instance) → slice_get a i ≡ Some x → origin_of y ≡ origin_of x → IsGrown a (slice_set a i y)
grown_set a i x y e same j o h = on (i == j) refl
  where
    on : (b : Bool) → (i == j) ≡ b → origin_at (slice_set a i y) j ≡ Some o
    on true k =
        let there : i ≡ j = equal_numbers i j k in
        subst (λ (n : ℕ). origin_at (slice_set a i y) n ≡ Some o) there
        (ap (option_map origin_of) (set_here a i y (get_within a i x e)) ∙ ap Some same ∙ ap (option_map origin_of) (sym e) ∙ subst (λ (n : ℕ). origin_at a n ≡ Some o) (sym there) h)
    on false k = ap (option_map origin_of) (set_other a i j y (not_equal i j k)) ∙ h

pub grown_more : (a : List Instance) (x : Instance) → IsGrown a (a ++ x ∷ [])
grown_more a x i o h = on (slice_get a i) refl
  where
    on : (u : Option Instance) → slice_get a i ≡ u → origin_at (a ++ x ∷ []) i ≡ Some o
    on None e = let t : None ≡ Some o = sym (ap (option_map origin_of) e) ∙ h in absurd (cc)
    on (Some y) e = ap (option_map origin_of) (get_before a (x ∷ []) i y e) ∙ sym (ap (option_map origin_of) e) ∙ h

-- ---- an activation at a point

-- the activation was resumed, and returns at coro.end
abbrev pub is_resumed : Mode → Bool
is_resumed Mode.Resumed = true
is_resumed Mode.Plain = false
is_resumed Mode.Ramp = false
is_resumed (Mode.GivenRamp v) = false
is_resumed (Mode.Entering from label) = false

module _ (f : Function) (r : Renaming) where
  -- before begin no path leads to a coro.frame; then begin's value is the instance's frame address
  abbrev pub HasBegun : List Instance → ℕ → Option ℕ → Env → Point → Type 0
  HasBegun instances func None env p = HasNoFrame f p
  HasBegun instances func (Some i) env p = origin_at instances i ≡ Some (func, value_in env r.to)

  abbrev pub IsKnown : Option ℕ → Env → ℕ → Type 0
  IsKnown None env n = ⊥
  IsKnown (Some i) env n = value_in env r.to ≡ value_in env n

  pub record IsSteady (instances : List Instance) (resumed : Bool) (func : ℕ) (o : Option ℕ) (env : Env) (p : Point) : Type 0 where
    pub room : length env ≡ length f.names
    pub begun : HasBegun instances func o env p
    pub frames : (n : ℕ) → is_renamed r n ≡ true → IsKnown o env n ⊎ IsDead f resumed n p

  -- what an instance keeps behind its suspend
  pub record IsAsleep (instances : List Instance) (func i : ℕ) (env : Env) (s : Point) : Type 0 where
    pub room : length env ≡ length f.names
    pub begun : origin_at instances i ≡ Some (func, value_in env r.to)
    pub frames : (n : ℕ) → is_renamed r n ≡ true → (value_in env r.to ≡ value_in env n) ⊎ IsDeadBehind f n s

  begun_grown : (a b : List Instance) (func : ℕ) (o : Option ℕ) (env : Env) (p : Point) → IsGrown a b → HasBegun a func o env p → HasBegun b func o env p
  begun_grown a b func None env p grown h = h
  begun_grown a b func (Some i) env p grown h = grown i (func, value_in env r.to) h

  pub steady_grown : (a b : List Instance) (resumed : Bool) (func : ℕ) (o : Option ℕ) (env : Env) (p : Point) → IsGrown a b → IsSteady a resumed func o env p → IsSteady b resumed func o env p
  steady_grown a b resumed func o env p grown h = record { room = h.room; begun = begun_grown a b func o env p grown h.begun; frames = h.frames }

  -- ---- along an edge

  neither : (a b : Bool) → a ≡ false → b ≡ false → (a || b) ≡ false
  neither true b e d = e
  neither false b e d = d

  none_both : (a b : Bool) → b ≡ false → (a && b) ≡ false
  none_both true b e = e
  none_both false b e = refl

  -- no path of the value ends at the point
  pub unstopped : (resumed : Bool) (n : ℕ) (p : Point) → (resumed && is_call_at f Intrinsic.CoroEnd p) ≡ false → makes f n p ≡ false → stops f resumed n p ≡ false
  unstopped resumed n p e d = neither (resumed && is_call_at f Intrinsic.CoroEnd p) (makes f n p) e d

  pub unstopped_at : (resumed : Bool) (n : ℕ) (p : Point) (o : Option Instr) → instr_at f p ≡ o → passes (is_call_of Intrinsic.CoroEnd) o ≡ false → passes (λ i. is_result n (result_of i)) o ≡ false → stops f resumed n p ≡ false
  unstopped_at resumed n p o here e d =
      unstopped resumed n p
      (none_both resumed (is_call_at f Intrinsic.CoroEnd p) (ap (passes (is_call_of Intrinsic.CoroEnd)) here ∙ e))
      (ap (passes (λ i. is_result n (result_of i))) here ∙ d)

  pub dead_next : (resumed : Bool) (n : ℕ) (p q : Point) → stops f resumed n p ≡ false → IsTrue (has_point (nexts f p) q) → IsDead f resumed n p → IsDead f resumed n q
  dead_next resumed n p q e h dead last path used = dead last (Next p q e h path) used

  -- what stops the paths of an activation that wasn't resumed stops those of one that was
  stops_too : (a b : Bool) → (a || b) ≡ false → b ≡ false
  stops_too true b e = absurd (cc)
  stops_too false b e = e

  ahead_too : (n : ℕ) (last p : Point) → Ahead f (stops f true n) last p → Ahead f (stops f false n) last p
  ahead_too n last p Here = Here
  ahead_too n last p (Next _ q e edge rest) = Next p q (stops_too (is_call_at f Intrinsic.CoroEnd p) (makes f n p) e) edge (ahead_too n last q rest)

  pub dead_resumed : (resumed : Bool) (n : ℕ) (p : Point) → IsDead f resumed n p → IsDead f true n p
  dead_resumed true n p dead = dead
  dead_resumed false n p dead = λ last path used. dead last (ahead_too n last p path) used

  begun_next : (instances : List Instance) (func : ℕ) (o : Option ℕ) (env : Env) (p q : Point) → is_call_at f Intrinsic.CoroBegin p ≡ false → IsTrue (has_point (nexts f p) q) → HasBegun instances func o env p → HasBegun instances func o env q
  begun_next instances func None env p q e h before = λ last path. before last (Next p q e h path)
  begun_next instances func (Some i) env p q e h before = before

  -- to a point behind an edge, where neither begin stands nor a path of a value of coro.frame ends
  pub steady_next : (instances : List Instance) (resumed : Bool) (func : ℕ) (o : Option ℕ) (env : Env) (p q : Point) → is_call_at f Intrinsic.CoroBegin p ≡ false → ((n : ℕ) → is_renamed r n ≡ true → stops f resumed n p ≡ false) → IsTrue (has_point (nexts f p) q) → IsSteady instances resumed func o env p → IsSteady instances resumed func o env q
  steady_next instances resumed func o env p q begin none edge h = record {
    room = h.room;
    begun = begun_next instances func o env p q begin edge h.begun;
    frames = λ n e. ⊎_elim (λ k. inl k) (λ dead. inr (dead_next resumed n p q (none n e) edge dead)) (h.frames n e);
  }

  -- ---- values that aren't concerned

  -- begin's value and the values of coro.frame are the same
  pub record AreKept (env env2 : Env) : Type 0 where
    pub as_long : length env2 ≡ length env
    pub to : value_in env2 r.to ≡ value_in env r.to
    pub each : (n : ℕ) → is_renamed r n ≡ true → value_in env2 n ≡ value_in env n

  pub known_kept : (o : Option ℕ) (env env2 : Env) (n : ℕ) → AreKept env env2 → is_renamed r n ≡ true → IsKnown o env n → IsKnown o env2 n
  known_kept None env env2 n k e h = h
  known_kept (Some i) env env2 n k e h = k.to ∙ h ∙ sym (k.each n e)

  begun_kept : (instances : List Instance) (func : ℕ) (o : Option ℕ) (env env2 : Env) (p : Point) → AreKept env env2 → HasBegun instances func o env p → HasBegun instances func o env2 p
  begun_kept instances func None env env2 p k h = h
  begun_kept instances func (Some i) env env2 p k h = h ∙ ap (λ v. Some (func, v)) (sym k.to)

  pub steady_kept : (instances : List Instance) (resumed : Bool) (func : ℕ) (o : Option ℕ) (env env2 : Env) (p : Point) → AreKept env env2 → IsSteady instances resumed func o env p → IsSteady instances resumed func o env2 p
  steady_kept instances resumed func o env env2 p k h = record {
    room = k.as_long ∙ h.room;
    begun = begun_kept instances func o env env2 p k h.begun;
    frames = λ n e. ⊎_elim (λ known. inl (known_kept o env env2 n k e known)) (λ dead. inr dead) (h.frames n e);
  }

  pub kept_same : (env : Env) → AreKept env env
  kept_same env = record { as_long = refl; to = refl; each = λ n e. refl }

  pub kept_on : (a b c : Env) → AreKept a b → AreKept b c → AreKept a c
  kept_on a b c h k = record { as_long = k.as_long ∙ h.as_long; to = k.to ∙ h.to; each = λ n e. k.each n e ∙ h.each n e }

  other_renamed : (v n : ℕ) → IsPlain r v → is_renamed r n ≡ true → v ≡ n → ⊥
  other_renamed v n plain e same = let t : true ≡ false = sym e ∙ ap (is_renamed r) (sym same) ∙ plain.stays in absurd (cc)

  -- a plain name is set
  pub kept_set : (env : Env) (v : ℕ) (x : Value) → IsPlain r v → AreKept env (with_value env v x)
  kept_set env v x plain = record {
    as_long = set_length env v (Some x);
    to = ap value_or_poison (set_other env v r.to (Some x) (not_equal v r.to plain.is_other));
    each = λ n e. ap value_or_poison (set_other env v n (Some x) (other_renamed v n plain e));
  }

  -- a result, or none
  abbrev pub PlainName : Option ℕ → Type 0
  PlainName None = Unit {0}
  PlainName (Some v) = IsPlain r v

  pub kept_result : (env : Env) (o : Option ℕ) (x : Value) → PlainName o → AreKept env (with_result env o x)
  kept_result env None x plain = kept_same env
  kept_result env (Some v) x plain = kept_set env v x plain

  pub not_made : (n : ℕ) (o : Option ℕ) → PlainName o → is_renamed r n ≡ true → is_result n o ≡ false
  not_made n None plain e = refl
  not_made n (Some v) plain e = on (v == n) refl
    where
      on : (b : Bool) → (v == n) ≡ b → b ≡ false
      on true k = absurd (other_renamed v n plain e (equal_numbers v n k))
      on false k = refl

-- ---- the next instruction

abbrev pub next_point : Point → Point
next_point p = record { block = p.block; at = p.at + 1 }

next_in : (f : Function) (p : Point) (o : Option Block) (i : Instr) → instr_in o p.at ≡ Some i → IsTrue (has_point (nexts_in f p o) (next_point p))
next_in f p None i e = absurd (cc)
next_in f p (Some b) i e =
    let lt : nat_lt p.at (length b.instrs) ≡ true = lt-ltb p.at (length b.instrs) (get_within b.instrs p.at i e) in
    subst (λ (t : Bool). IsTrue (has_point (if t then next_point p ∷ [] else if p.at == length b.instrs then map (entry_point f) (targets b.term) else []) (next_point p))) (sym lt)
    (subst (λ (t : Bool). IsTrue (t || false)) (sym (same_point-itself (next_point p))) refl)

-- behind an instruction stands the next one
pub next_edge : (f : Function) (p : Point) (i : Instr) → instr_at f p ≡ Some i → IsTrue (has_point (nexts f p) (next_point p))
next_edge f p i e = next_in f p (slice_get f.blocks p.block) i e
