-- A step at a terminator comes to where it came, or to the block of an edge.
use Rattle.std.proofs.Common.{◌≡◌, ◌⊎◌, inl, inr, ℕ, Bool, true, false, List, [], ◌∷◌, length, refl, sym, ap, ◌∙◌, subst}
use Rattle.std.specs.List.{list_all}
use Rattle.std.specs.Prelude.{ℤ, Some, None, Ok, Err, Option, Result, if◌then◌else◌, ◌==◌}
use Rattle.pass_proofs.specs.frame_layout.declared.layout.Layout.{Layout}
use Rattle.pass_proofs.specs.ir_base.declared.cause.Cause.{Cause}
use Rattle.pass_proofs.specs.ir_base.declared.outcome.Outcome.{Outcome}
use Rattle.pass_proofs.specs.ir_base.declared.outcome.Word.{Word}
use Rattle.pass_proofs.specs.ir_laws.facts.branches.Ways.{TermsPaired}
use Rattle.pass_proofs.specs.ir_laws.facts.sound_states.Named.{AreLocalsNamed}
use Rattle.pass_proofs.specs.ir_laws.facts.threads.Moved.{ArePaired}
use Rattle.pass_proofs.specs.ir_model.Names.{function_at, position_of}
use Rattle.pass_proofs.specs.ir_model.Ty.{int}
use Rattle.pass_proofs.specs.ir_model.declared.instr.Case.{Case}
use Rattle.pass_proofs.specs.ir_model.declared.instr.Terminator.{Terminator}
use Rattle.pass_proofs.specs.ir_model.declared.module.Function.{Function}
use Rattle.pass_proofs.specs.ir_model.declared.module.Module.{Module}
use Rattle.pass_proofs.specs.ir_model.declared.operand.Arg.{Arg}
use Rattle.pass_proofs.specs.ir_paths.declared.point.Window.{Window}
use Rattle.pass_split_proof.proofs.priced.Direct.{go_direct}
use Rattle.pass_proofs.specs.run_agreement.Machines.{IsFine}
use Rattle.pass_proofs.specs.run_framed.Framed.{FramedGiven, framed_act, framed_advance, framed_context, framed_given, framed_next, framed_step}
use Rattle.pass_proofs.specs.run_memory.declared.pointer.Value.{Value}
use Rattle.pass_proofs.specs.run_source.Source.{branch_leaving, enter_block, go_to, left_windows, may_leave, return}
use Rattle.pass_proofs.specs.run_source.State.{function_of, or_undefined, own_instance, point_of, with_left, with_status, work_of}
use Rattle.pass_proofs.specs.run_source.declared.state.Instance.{Instance}
use Rattle.pass_proofs.specs.run_source.declared.state.State.{State}
use Rattle.pass_proofs.specs.run_source.declared.state.Status.{Status}
use Rattle.pass_proofs.proofs.run_states.branches.Performs.{below_of, own_of}
use Rattle.pass_proofs.proofs.run_states.moved_states.Calls.{return_moved}
use Rattle.pass_proofs.proofs.run_states.moved_states.Entering.{go_to_near}
use Rattle.pass_proofs.proofs.run_states.moved_states.Parts.{function_moved, operand_moved}
use Rattle.pass_proofs.specs.run_states.moved_states.MovedState.{moved_module, moved_result, moved_state}
use Rattle.pass_proofs.specs.run_states.moved_states.Moving.{Goes, IsDirect, IsOver, KeepsKinds, Moves, Moving}
use Rattle.pass_proofs.specs.run_states.moved_states.Near.{HoldsIn, IsBefore, IsNear}
use Rattle.pass_proofs.specs.run_step.Results.{and_then, found, ok_if}
use Rattle.pass_proofs.specs.run_step.Step.{Action, AtTerm, Fetched, GoTo, Return, Stuck, branch, fetch, is_word, switch, target_of, term_action}
use Rattle.pass_proofs.specs.run_step.Values.{arg_value, operand_value}

-- ---- where a branch stands then

-- at the front of a block of a function
record StandsAt (f : Function) (number l : ℕ) (u : State) : Type 0 where
  func : u.top.func ≡ number
  block : u.top.block ≡ position_of f l
  front : u.top.at ≡ 0

module _ (k : FramedGiven) (w : State) (l : ℕ) where
  entered : (u : State) → enter_block k.given w l ≡ u → StandsAt (function_of k.given w) w.top.func l u
  entered u e = subst (StandsAt (function_of k.given w) w.top.func l) e (record { func = refl; block = refl; front = refl })

  tested : (b : Bool) (x u : State) → x.top.func ≡ w.top.func → ok_if b Cause.State (enter_block k.given x l) ≡ Ok u
      → StandsAt (function_of k.given x) x.top.func l u
  tested true x u same e =
      let is : enter_block k.given x l ≡ u = cc in
      subst (StandsAt (function_of k.given x) x.top.func l) is (record { func = refl; block = refl; front = refl })
  tested false x u same e = absurd (cc)

  branched : (vs : List Window) (u : State) → branch_leaving k.given w l vs ≡ Ok u
      → StandsAt (function_of k.given w) w.top.func l u
  branched [] u e = let is : enter_block k.given w l ≡ u = cc in entered u is
  branched (v ∷ vs) u e = on (own_instance w) e
    where
      on : (o : Option (ℕ × Instance)) → and_then (found Cause.State o) (λ (y : ℕ × Instance).
          ok_if (list_all (may_leave (length w.below) y.1) (v ∷ vs)) Cause.State
          (enter_block k.given (with_left (with_status w y.0 y.1 Status.Running) false) l)) ≡ Ok u
          → StandsAt (function_of k.given w) w.top.func l u
      on None d = absurd (cc)
      on (Some y) d = tested (list_all (may_leave (length w.below) y.1) (v ∷ vs))
          (with_left (with_status w y.0 y.1 Status.Running) false) u refl d

-- ---- a step

module _ (mv : Moving) (kinds : KeepsKinds mv) (m : Module) (names : AreLocalsNamed m) (layouts : List Layout)
    (answers : List ℤ) (s : State) (moves : Moves mv (function_at m s.top.func)) (holds : HoldsIn mv m s)
    (running : s.outcome ≡ Outcome.Running) (New : ℕ → Type 0) where
  abbrev g : FramedGiven
  g = framed_given m layouts answers

  abbrev k : FramedGiven
  k = framed_given (moved_module mv m) layouts answers

  abbrev f : Function
  f = function_at m s.top.func

  -- an edge leads directly, or to a new label
  abbrev pub IsEdge : ℕ → ℕ → Type 0
  IsEdge t l = Goes (function_at m s.top.func) (mv.to (function_at m s.top.func)) (mv.spot (function_at m s.top.func))
      (point_of s) t l
      × (IsDirect (function_at m s.top.func) (mv.to (function_at m s.top.func)) (mv.spot (function_at m s.top.func)) t l
      ⊎ New l)

  -- a state at the front of an edge's block, a step before
  pub record IsOnEdge (x u : State) : Type 0 where
    pub target : ℕ
    pub label : ℕ
    pub over : IsOver (function_at m s.top.func) (mv.to (function_at m s.top.func))
        (mv.spot (function_at m s.top.func)) target label
    pub is_new : New label
    pub func : u.top.func ≡ s.top.func
    pub block : u.top.block ≡ position_of (mv.to (function_at m s.top.func)) label
    pub front : u.top.at ≡ 0
    pub before : IsBefore mv m layouts answers x u

  abbrev Arrives : Result State Cause → Result State Cause → Type 0
  Arrives (Err c) (Err d) = Unit {0}
  Arrives (Ok x) (Ok u) = (u ≡ moved_state mv m x) ⊎ IsOnEdge x u
  Arrives _ _ = ⊥

  same : (r q : Result State Cause) → q ≡ moved_result mv m r → Arrives r q
  same r q e = subst (Arrives r) (sym e) (on r)
    where
      on : (r : Result State Cause) → Arrives r (moved_result mv m r)
      on (Err c) = tt
      on (Ok x) = inl refl

  over_edge : (t l : ℕ) → IsOver (function_at m s.top.func) (mv.to (function_at m s.top.func))
      (mv.spot (function_at m s.top.func)) t l → New l → (r q : Result State Cause)
      → q ≡ go_to k.given (moved_state mv m s) l → IsNear mv m layouts answers r q → Arrives r q
  over_edge t l o fresh (Err c) (Err d) e n = tt
  over_edge t l o fresh (Err c) (Ok u) e n = absurd n
  over_edge t l o fresh (Ok x) (Err d) e n = absurd n
  over_edge t l o fresh (Ok x) (Ok u) e (inl is) = inl is
  over_edge t l o fresh (Ok x) (Ok u) e (inr before) =
      let y = branched k (moved_state mv m s) l (left_windows k.given (moved_state mv m s) l) u (sym e) in
      inr (record {
        target = t;
        label = l;
        over = o;
        is_new = fresh;
        func = y.func;
        block = y.block ∙ ap (λ (h : Function). position_of h l) (function_moved mv kinds m s.top.func);
        front = y.front;
        before = before;
      })

  goes : (t l : ℕ) → IsEdge t l → Arrives (go_to g.given s t) (go_to k.given (moved_state mv m s) l)
  goes t l (w, inl d) = same (go_to g.given s t) (go_to k.given (moved_state mv m s) l)
      (go_direct mv kinds m layouts answers s moves (names s.top.func).phis holds.sound.top.values
      (own_of m s holds.sound) t l d.to w.left)
  goes t l (w, inr fresh) = on w.way
    where
      on : IsDirect (function_at m s.top.func) (mv.to (function_at m s.top.func)) (mv.spot (function_at m s.top.func)) t l
          ⊎ IsOver (function_at m s.top.func) (mv.to (function_at m s.top.func)) (mv.spot (function_at m s.top.func)) t l
          → Arrives (go_to g.given s t) (go_to k.given (moved_state mv m s) l)
      on (inl d) = same (go_to g.given s t) (go_to k.given (moved_state mv m s) l)
          (go_direct mv kinds m layouts answers s moves (names s.top.func).phis holds.sound.top.values
          (own_of m s holds.sound) t l d.to w.left)
      on (inr o) = over_edge t l o fresh (go_to g.given s t) (go_to k.given (moved_state mv m s) l) refl
          (go_to_near mv kinds m layouts answers s moves (names s.top.func).phis holds.sound.top.values
          (own_of m s holds.sound) running t l w)

  -- ---- what terminators do

  abbrev Acts : Action → Action → Type 0
  Acts (GoTo t) (GoTo l) = IsEdge t l
  Acts (Return v) (Return w) = w ≡ v
  Acts (Stuck c) (Stuck d) = Unit {0}
  Acts _ _ = ⊥

  branch_acts : (v : Value) (a b c d : ℕ) → IsEdge a c → IsEdge b d → Acts (branch v a b) (branch v c d)
  branch_acts (Value.Int x) a b c d u w = on (x.bits == 1)
    where
      on : (z : Bool) → IsEdge (if z then a else b) (if z then c else d)
      on true = u
      on false = w
  branch_acts Value.Poison a b c d u w = tt
  branch_acts (Value.Ptr p) a b c d u w = tt

  case_acts : (x : Word) (d e : ℕ) → IsEdge d e → (cases others : List Case)
      → ArePaired (λ (i : Case) (j : Case). (j.arg ≡ i.arg) × IsEdge i.target j.target) cases others
      → IsEdge (target_of m x d cases) (target_of (moved_module mv m) x e others)
  case_acts x d e w [] [] all = w
  case_acts x d e w [] (j ∷ others) all = absurd all
  case_acts x d e w (i ∷ cases) [] all = absurd all
  case_acts x d e w (i ∷ cases) (j ∷ others) all =
      on (is_word x (arg_value m [] i.arg)) (is_word x (arg_value (moved_module mv m) [] j.arg))
      (ap (is_word x) (ap (arg_value (moved_module mv m) []) all.0.0
      ∙ operand_moved mv kinds m 0 [] i.arg.ty i.arg.value)) (case_acts x d e w cases others all.1)
    where
      on : (a b : Bool) → b ≡ a → IsEdge (target_of m x d cases) (target_of (moved_module mv m) x e others)
          → IsEdge (if a then i.target else target_of m x d cases)
          (if b then j.target else target_of (moved_module mv m) x e others)
      on true true z again = all.0.1
      on true false z again = absurd (cc)
      on false true z again = absurd (cc)
      on false false z again = again

  switch_acts : (v : Value) (d e : ℕ) → IsEdge d e → (cases others : List Case)
      → ArePaired (λ (i : Case) (j : Case). (j.arg ≡ i.arg) × IsEdge i.target j.target) cases others
      → Acts (switch m v d cases) (switch (moved_module mv m) v e others)
  switch_acts (Value.Int x) d e w cases others all = case_acts x d e w cases others all
  switch_acts Value.Poison d e w cases others all = tt
  switch_acts (Value.Ptr p) d e w cases others all = tt

  abbrev before : Terminator → Action
  before t = term_action (framed_context g s) (work_of s) t

  abbrev behind : Terminator → Action
  behind t = term_action (framed_context k (moved_state mv m s)) (work_of (moved_state mv m s)) t

  operand_same : (x : Arg) → arg_value (moved_module mv m) (moved_state mv m s).top.values x
      ≡ arg_value m s.top.values x
  operand_same x = operand_moved mv kinds m (mv.more f) s.top.values x.ty x.value

  term_acts : (t u : Terminator) → TermsPaired IsEdge t u → Acts (before t) (behind u)
  term_acts (Terminator.Jump t) (Terminator.Jump l) w = w
  term_acts (Terminator.Branch x a b) (Terminator.Branch y c d) w =
      subst (λ (v : Value). Acts (branch (operand_value m s.top.values (int 1) x) a b) (branch v c d))
      (sym (ap (operand_value (moved_module mv m) (moved_state mv m s).top.values (int 1)) w.0
      ∙ operand_moved mv kinds m (mv.more f) s.top.values (int 1) x))
      (branch_acts (operand_value m s.top.values (int 1) x) a b c d w.1.0 w.1.1)
  term_acts (Terminator.Switch x d cases) (Terminator.Switch y e others) w =
      subst (λ (v : Value). Acts (switch m (arg_value m s.top.values x) d cases) (switch (moved_module mv m) v e others))
      (sym (ap (arg_value (moved_module mv m) (moved_state mv m s).top.values) w.0 ∙ operand_same x))
      (switch_acts (arg_value m s.top.values x) d e w.1.0 cases others w.1.1)
  term_acts (Terminator.Ret v) (Terminator.Ret u) w =
      subst (λ (x : Option Arg). Acts (before (Terminator.Ret v)) (behind (Terminator.Ret x))) (sym w) (returns v)
    where
      returns : (v : Option Arg) → Acts (before (Terminator.Ret v)) (behind (Terminator.Ret v))
      returns None = refl
      returns (Some x) = ap (λ (v : Value). Some v) (operand_same x)
  term_acts Terminator.Unreachable Terminator.Unreachable w = tt
  term_acts _ _ w = absurd w

  performs : (a b : Action) → Acts a b → Arrives (framed_act g s a) (framed_act k (moved_state mv m s) b)
  performs (GoTo t) (GoTo l) w = goes t l w
  performs (Return v) (Return w) e = same (return s v) (return (moved_state mv m s) w)
      (ap (return (moved_state mv m s)) e ∙ return_moved mv m s v (below_of m s holds.sound))
  performs (Stuck c) (Stuck d) w = tt
  performs _ _ w = absurd w

  arrived : (r q : Result State Cause) → Arrives r q → IsFine (or_undefined g.given s r).outcome
      → (or_undefined k.given (moved_state mv m s) q ≡ moved_state mv m (or_undefined g.given s r))
      ⊎ IsOnEdge (or_undefined g.given s r) (or_undefined k.given (moved_state mv m s) q)
  arrived (Err c) q n e = absurd e
  arrived (Ok x) (Err d) n e = absurd n
  arrived (Ok x) (Ok u) n e = n

  pub term_arrives : (t u : Terminator) → fetch (function_at m s.top.func) s.top.block s.top.at ≡ AtTerm t
      → fetch (function_at (moved_module mv m) s.top.func) (mv.spot (function_at m s.top.func) s.top.block) s.top.at
      ≡ AtTerm u → TermsPaired IsEdge t u → IsFine (framed_step g s).outcome
      → (framed_step k (moved_state mv m s) ≡ moved_state mv m (framed_step g s))
      ⊎ IsOnEdge (framed_step g s) (framed_step k (moved_state mv m s))
  term_arrives t u here there w fine =
      let first : framed_step g s ≡ or_undefined g.given s (framed_next g s (AtTerm t)) =
      ap (framed_advance g s) running ∙ ap (λ (z : Fetched). or_undefined g.given s (framed_next g s z)) here in
      let second : framed_step k (moved_state mv m s)
      ≡ or_undefined k.given (moved_state mv m s) (framed_next k (moved_state mv m s) (AtTerm u)) =
      ap (framed_advance k (moved_state mv m s)) running
      ∙ ap (λ (z : Fetched). or_undefined k.given (moved_state mv m s) (framed_next k (moved_state mv m s) z)) there in
      subst (λ (x : State). (framed_step k (moved_state mv m s) ≡ moved_state mv m x)
      ⊎ IsOnEdge x (framed_step k (moved_state mv m s))) (sym first)
      (subst (λ (y : State). (y ≡ moved_state mv m (or_undefined g.given s (framed_next g s (AtTerm t))))
      ⊎ IsOnEdge (or_undefined g.given s (framed_next g s (AtTerm t))) y) (sym second)
      (arrived (framed_next g s (AtTerm t)) (framed_next k (moved_state mv m s) (AtTerm u))
      (performs (before t) (behind u) (term_acts t u w))
      (subst (λ (x : State). IsFine x.outcome) first fine)))
