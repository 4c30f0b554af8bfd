-- A function that is no coroutine: the framed run makes the same step. Of a branch too.
use Rattle.std.proofs.Common.{◌≡◌, ◌⊎◌, inl, inr, ⊎_elim, ℕ, ◌<◌, ◌≤◌, Bool, true, false, List, [], ◌∷◌, length, refl, sym, ap, ◌∙◌, subst, arith}
use Rattle.std.specs.Prelude.{None, Ok, Option, Some, filter, slice_get, if◌then◌else◌}
use Rattle.pass_proofs.specs.ir_base.declared.outcome.Outcome.{Outcome}
use Rattle.pass_proofs.proofs.ir_laws.facts.Members.{each_all}
use Rattle.pass_proofs.proofs.ir_laws.facts.Truth.{is_number}
use Rattle.pass_proofs.specs.ir_model.Names.{declaration_named, function_at, function_named, position_of}
use Rattle.pass_proofs.specs.ir_model.Ty.{Ty}
use Rattle.pass_proofs.specs.ir_model.declared.instr.Case.{Case}
use Rattle.pass_proofs.specs.ir_model.declared.instr.Phi.{Phi}
use Rattle.pass_proofs.specs.ir_model.declared.instr.Terminator.{Terminator}
use Rattle.pass_proofs.specs.ir_model.declared.module.Function.{Function}
use Rattle.pass_proofs.specs.ir_model.declared.module.Module.{Module}
use Rattle.pass_proofs.specs.ir_model.declared.operand.Operand.{Operand}
use Rattle.pass_proofs.specs.ir_paths.Paths.{entry_point}
use Rattle.pass_proofs.specs.ir_paths.Windows.{leaves}
use Rattle.pass_proofs.specs.ir_paths.declared.point.Point.{Point}
use Rattle.pass_proofs.specs.ir_paths.declared.point.Window.{Window}
use Rattle.pass_frames_code.proofs.lined.Lines.{framed_does}
use Rattle.pass_frames_code.proofs.stepping.Operands.{AreSameNames, empty_same, other_stands}
use Rattle.pass_frames_code.proofs.stepping.Rest.{LeavesRest, own_slots, rest_related}
use Rattle.pass_frames_code.proofs.stepping.Same.{rest_left}
use Rattle.pass_frames_code.proofs.stepping.Stands.{cost_is, renewed_does}
use Rattle.pass_frames_code.specs.Followed.{IsFollowed}
use Rattle.pass_frames_code.specs.Meaning.{action_at, coroutine_cost, other_cost, step_cost}
use Rattle.pass_frames_code.specs.Related.{AreBuiltOf, AreOthers, Building, HasValues, is_coroutine, place_by, point_of, top_place}
use Rattle.pass_frames_code.specs.Stepping.{AreGiven, IsAtOtherBranch, IsNotEntering}
use Rattle.pass_renewed_proof.specs.Renewed.{RenewedGiven, renewed_step}
use Rattle.pass_proofs.specs.run_framed.Framed.{framed_context, framed_step, frame_rights}
use Rattle.pass_proofs.proofs.run_laws.memory.Itself.{owner_rights_fit}
use Rattle.pass_proofs.proofs.run_laws.transfer.Alone.{here_itself, looked_at}
use Rattle.pass_proofs.proofs.run_laws.transfer.Over.{step_over}
use Rattle.pass_proofs.proofs.run_laws.transfer.Sets.{sets_name}
use Rattle.pass_proofs.specs.run_laws.memory.Pointers.{Home, IsValue}
use Rattle.pass_proofs.specs.run_laws.transfer.Shapes.{StaysAt}
use Rattle.pass_proofs.specs.run_laws.transfer.Transfer.{AreJoined, AreOver, AreSet, GoesOver, IsSameCase, IsTransferred, StandsFor, cases_at, looks_at, same_maps}
use Rattle.run_access_worked.proofs.run_laws_worked.Frames.{frame_rights_fit}
use Rattle.pass_proofs.specs.run_memory.Memory.{Rights, owner_rights}
use Rattle.pass_proofs.specs.run_memory.declared.block.MemoryBlock.{MemoryBlock}
use Rattle.pass_proofs.specs.run_memory.declared.pointer.Value.{Value}
use Rattle.pass_proofs.specs.run_source.Source.{branch_leaving, context_of, enter_block, go_to}
use Rattle.pass_proofs.specs.run_source.State.{point_of as state_point, function_of, or_undefined, own_facts, work_of}
use Rattle.pass_proofs.specs.run_source.declared.state.Activation.{Activation}
use Rattle.pass_proofs.specs.run_source.declared.state.State.{State}
use Rattle.pass_proofs.specs.run_source_tables.Given.{Given, facts_at}
use Rattle.pass_proofs.specs.run_step.Step.{Action, AtTerm, Context, Fetched, GoTo, action_of, fetch, incoming_from, label_of, phi_values, phis_of, term_action, values_in, with_all}
use Rattle.pass_proofs.specs.run_step.Values.{Env, operand_value, value_in, with_value}
use Rattle.pass_proofs.specs.run_step.declared.world.World.{World}

-- ---- one step for one

module _ (b : Building) (g : RenewedGiven) (s t : State) where
  pub one_followed : 1 ≤ step_cost b g s s.top.mode → AreBuiltOf b (renewed_step g s) (framed_step b.given t)
      → IsFollowed b g s t
  one_followed le related = record {
    steps = 1;
    few = le;
    goes_on = inl (omega arith);
    passes = λ i pos lt. absurd (none i pos lt);
    related = related;
  }
    where
      none : (i : ℕ) → 0 < i → i < 1 → ⊥
      none i pos lt = omega arith

-- ---- values

-- names that get values which stand for each other
pub record AreStanding (homes : List Home) (env other : Env) : Type 0 where
  pub each : (v : ℕ) → IsValue homes (value_in env v) (value_in other v)
  pub room : length other ≡ length env

is_at : (r v : ℕ) → (Some r ≡ Some v) ⊎ (Some r ≡ Some v → ⊥)
is_at r v = ⊎_elim (λ e. inl (ap Some (sym e))) (λ n. inr (λ e. n (sym (same e)))) (is_number v r)
  where
    same : Some r ≡ Some v → r ≡ v
    same e = cc

is_given : (o : Option ℕ) (v : ℕ) → (o ≡ Some v) ⊎ (o ≡ Some v → ⊥)
is_given None v = inr (λ e. absurd (cc))
is_given (Some r) v = is_at r v

pub set_standing : (homes : List Home) (o : Option ℕ) (env other after later : Env) → AreStanding homes env other
    → AreSet homes o env other after later → AreStanding homes after later
set_standing homes o env other after later h set = record {
  each = λ v. ⊎_elim (set.stands v)
      (λ n. subst (λ (p : Value × Value). IsValue homes p.0 p.1)
      (λ k. (sym (set.source v n) k, sym (set.target v n) k)) (h.each v)) (is_given o v);
  room = set.length_target ∙ h.room ∙ sym set.length_source;
}

pub one_standing : (homes : List Home) (env other : Env) (r : ℕ) (v u : Value) → AreStanding homes env other
    → IsValue homes v u → AreStanding homes (with_value env r v) (with_value other r u)
one_standing homes env other r v u h e =
    set_standing homes (Some r) env other (with_value env r v) (with_value other r u) h
    (sets_name homes env other (let same = h.room in omega (arith, same)) r v u e)

-- all phis of a block get theirs
pub phis_standing : (homes : List Home) (m n : Module) (label : ℕ) (env other start later : Env) (phis : List Phi)
    → ((o : Operand) (ty : Ty) → IsValue homes (operand_value m env ty o) (operand_value n other ty o))
    → AreStanding homes start later
    → AreStanding homes (with_all start (phi_values m env label phis)) (with_all later (phi_values n other label phis))
phis_standing homes m n label env other start later [] operands h = h
phis_standing homes m n label env other start later (p ∷ phis) operands h =
    phis_standing homes m n label env other
    (with_value start p.result (operand_value m env p.ty (incoming_from p.incoming label)))
    (with_value later p.result (operand_value n other p.ty (incoming_from p.incoming label))) phis operands
    (one_standing homes start later p.result (operand_value m env p.ty (incoming_from p.incoming label))
    (operand_value n other p.ty (incoming_from p.incoming label)) h
    (operands (incoming_from p.incoming label) p.ty))

-- ---- a function that is no coroutine

other_values : (b : Building) (homes : List Home) (rights : Rights) (t : State) (a c : Activation) (k : Bool)
    → k ≡ false → HasValues b homes rights t a c k → AreOthers homes a c
other_values b homes rights t a c false e h = h
other_values b homes rights t a c true e h = absurd (cc)

pub values_other : (b : Building) (homes : List Home) (rights : Rights) (t : State) (a c : Activation) (k : Bool)
    → k ≡ false → AreOthers homes a c → HasValues b homes rights t a c k
values_other b homes rights t a c false e h = h
values_other b homes rights t a c true e h = absurd (cc)

module _ (b : Building) (g : RenewedGiven) (given : AreGiven b g) (s t : State) (r : AreBuiltOf b s t)
    (plain : is_coroutine b s.top.func ≡ false) (runs : s.outcome ≡ Outcome.Running)
    (mode : IsNotEntering s.top.mode) where
  abbrev R : Rights
  R = frame_rights b.given t.instances

  abbrev c : Context
  c = context_of g.given s

  abbrev d : Context
  d = framed_context b.given t

  values : AreOthers r.homes s.top t.top
  values = other_values b r.homes R t s.top t.top (is_coroutine b s.top.func) plain r.top.values

  pub stands : AreStanding r.homes s.top.values t.top.values
  stands = record { each = values.each; room = values.room }

  point_is : (a : Activation) → is_coroutine b a.func ≡ false → top_place b a ≡ point_of a
  point_is a e = ap (λ (k : Bool). if k then place_by (b.framing a.func) a a.mode else point_of a) e

  pub here_is : point_of t.top ≡ point_of s.top
  here_is = r.top.place ∙ point_is s.top plain

  code_is : function_of b.given.given t ≡ function_of g.given s
  code_is =
      (λ k. function_at (given.code k) (r.top.func k)) ∙ given.built.others s.top.func plain
      ∙ sym (given.others s.top.func plain)

  pub same_names : AreSameNames g.given.code b.given.given.code
  same_names = record {
    functions = λ name. ap (λ (k : Module). function_named k name) given.code ∙ given.functions name;
    declarations = λ name. ap (λ (k : Module). declaration_named k name) given.code ∙ given.declarations name;
    globals = ap (λ (k : Module). k.globals) given.code ∙ given.globals;
    count = ap (λ (k : Module). length k.functions) given.code ∙ given.count;
  }

  pub operand_stands : (o : Operand) (ty : Ty)
      → IsValue r.homes (operand_value g.given.code s.top.values ty o)
      (operand_value b.given.given.code t.top.values ty o)
  operand_stands (Operand.Local v) ty = values.each v
  operand_stands (Operand.Global name) ty = others (Operand.Global name) (λ v e. absurd (cc)) ty
    where
      others : (o : Operand) → ((u : ℕ) → o ≡ Operand.Local u → ⊥) → (ty : Ty)
          → IsValue r.homes (operand_value c.code s.top.values ty o) (operand_value d.code t.top.values ty o)
      others = other_stands r.homes g.given.code b.given.given.code same_names
          (λ k lt. r.globals k (subst (λ (z : Module). k < length z.globals) given.code lt)) s.top.values t.top.values
  operand_stands (Operand.Number z) ty = other_stands r.homes g.given.code b.given.given.code same_names
      (λ k lt. r.globals k (subst (λ (z : Module). k < length z.globals) given.code lt)) s.top.values t.top.values
      (Operand.Number z) (λ v e. absurd (cc)) ty
  operand_stands Operand.True ty = refl
  operand_stands Operand.False ty = refl
  operand_stands Operand.Null ty = (tt, refl)
  operand_stands Operand.None ty = tt
  operand_stands Operand.Poison ty = tt

  one_stands : (looks : Bool) (o : Operand) → StandsFor looks (IsValue r.homes) c d s.top.values t.top.values o o
  one_stands false o = tt
  one_stands true o = operand_stands o

  -- what stands there is of one shape with itself
  pub shape : (here : Fetched)
      → StaysAt (StandsFor (looks_at here) (IsValue r.homes) c d s.top.values t.top.values) (λ k. k) here here
  shape here =
      here_itself (StandsFor (looks_at here) (IsValue r.homes) c d s.top.values t.top.values) here
      (each_all (λ (o : Operand). StandsFor (looks_at here) (IsValue r.homes) c d s.top.values t.top.values o o)
      (one_stands (looks_at here)) (looked_at here))

  pub joined : AreJoined r.homes r.hides same_maps c d (work_of s) (work_of t)
  joined = record {
    over = r.world;
    hidden = r.hidden;
    answers = given.answers;
    room = let e = values.room in omega (arith, e);
  }

  pub fetched_there : (here : Fetched) → fetch (function_of g.given s) s.top.block s.top.at ≡ here
      → fetch (function_of b.given.given t) t.top.block t.top.at ≡ here
  fetched_there here e = (λ k. fetch (code_is k) (here_is k).block (here_is k).at) ∙ e

  pub cost_one : (a : Action) → action_at g s ≡ a → (other_cost b g s a ≡ 1) → 1 ≤ step_cost b g s s.top.mode
  cost_one a e one =
      subst (λ (k : ℕ). 1 ≤ k)
      (sym (cost_is b g s s.top.mode mode
      ∙ ap (λ (k : Bool). if k then coroutine_cost b g s (action_at g s) else other_cost b g s (action_at g s)) plain
      ∙ ap (other_cost b g s) e ∙ one)) (omega arith)

  -- behind a step of it the states are related where its values are, and the rest is left
  pub related_left : (w u : World) (block at : ℕ) (env other : Env)
      → AreOver owner_rights R r.homes r.hides (λ k. k) w u
      → LeavesRest b s t r w u → AreStanding r.homes env other
      → AreBuiltOf b (record s { world = w; top = record s.top { block = block; at = at; values = env } })
      (record t { world = u; top = record t.top { block = block; at = at; values = other } })
  related_left w u block at env other over left standing =
      rest_related b s t r w u left block at block at env other over
      (λ is first here. let no : true ≡ false = sym is ∙ plain in absurd (cc)) (record {
        func = r.top.func;
        place = sym (point_is (record s.top { block = block; at = at; values = env }) plain);
        result = r.top.result;
        mode = r.top.mode;
        instance = r.top.instance;
        has_left = r.top.has_left;
        values = values_other b r.homes R
            (record t { world = u; top = record t.top { block = block; at = at; values = other } })
            (record s.top { block = block; at = at; values = env })
            (record t.top { block = block; at = at; values = other }) (is_coroutine b s.top.func) plain
            (record { each = standing.each; room = standing.room });
        slots = own_slots b s t r w u left block at block at env other;
      })

  -- no memory is changed
  pub memory_left : (w u : World) → w.memory ≡ s.world.memory → u.memory ≡ t.world.memory → LeavesRest b s t r w u
  memory_left w u same same' =
      rest_left b s t r w u (λ k. ⊥) given.framings same
      (λ k none. ap (λ (m : List MemoryBlock). slice_get m k) same') (λ k lt seen no. no) (λ k l no. no)

-- ---- a branch

no_windows : (g : Given) (s : State) (label : ℕ) → (own_facts g s).windows ≡ [] → go_to g s label
    ≡ Ok (enter_block g s label)
no_windows g s label none =
    ap (λ (ws : List Window). branch_leaving g s label (filter (leaves (state_point s) (entry_point
    (function_of g s) label)) ws)) none

module _ (b : Building) (g : RenewedGiven) (given : AreGiven b g) (s t : State) (r : AreBuiltOf b s t) (e : Terminator)
    (label : ℕ) (h : IsAtOtherBranch b g s e label) where
  abbrev c2 : Context
  c2 = context_of g.given s

  abbrev d2 : Context
  d2 = framed_context b.given t

  transferred2 : IsTransferred (IsValue r.homes) same_maps c2 d2 s.top.values t.top.values (AtTerm e) (AtTerm e)
  transferred2 = record {
    shape = shape b g given s t r h.plain h.runs h.mode (AtTerm e);
    callee = tt;
    pointed = tt;
    distance = tt;
    cases = each_all (IsSameCase c2 d2) (λ (k : Case). empty_same g.given.code b.given.given.code
        (same_names b g given s t r h.plain h.runs h.mode) k.arg.value k.arg.ty) (cases_at (AtTerm e));
    no_slot = tt;
    bytes = tt;
  }

  goes : term_action d2 (work_of t) e ≡ GoTo label
  goes =
      subst
      (λ (act : Action). GoesOver owner_rights (frame_rights b.given t.instances) r.homes r.hides same_maps None [] []
      (work_of s) (work_of t) act (term_action d2 (work_of t) e)) h.does
      (step_over r.homes r.hides same_maps c2 d2 (work_of s) (work_of t) (AtTerm e) (AtTerm e) owner_rights_fit
      (frame_rights_fit b.given t.instances) (joined b g given s t r h.plain h.runs h.mode) transferred2)

  source_to : renewed_step g s ≡ enter_block g.given s label
  source_to =
      renewed_does g s (AtTerm e) (GoTo label) h.runs h.there refl h.does
      ∙ ap (or_undefined g.given s) (no_windows g.given s label h.windows.source)

  target_windows : (own_facts b.given.given t).windows ≡ []
  target_windows =
      ap (λ (k : ℕ). (facts_at b.given.given.facts k).windows) r.top.func ∙ h.windows.target

  target_to : framed_step b.given t ≡ enter_block b.given.given t label
  target_to =
      framed_does b.given t (AtTerm e) (GoTo label) (r.outcome ∙ h.runs)
      (fetched_there b g given s t r h.plain h.runs h.mode (AtTerm e) h.there) refl goes
      ∙ ap (or_undefined b.given.given t) (no_windows b.given.given t label target_windows)

  abbrev F : Function
  F = function_of g.given s

  abbrev phis : List Phi
  phis = phis_of (slice_get F.blocks (position_of F label))

  abbrev from : ℕ
  from = label_of (slice_get F.blocks s.top.block)

  entered : AreBuiltOf b (enter_block g.given s label) (enter_block b.given.given t label)
  entered =
      subst
      (λ (p : Function × ℕ). AreBuiltOf b (enter_block g.given s label)
      (record t {
        top = record t.top {
          block = position_of p.0 label;
          at = 0;
          values = values_in b.given.given.code (slice_get p.0.blocks (position_of p.0 label))
              (label_of (slice_get p.0.blocks p.1)) t.top.values;
        };
      }))
      (λ k. (
        sym (code_is b g given s t r h.plain h.runs h.mode) k,
        sym (ap (λ (p : Point). p.block) (here_is b g given s t r h.plain h.runs h.mode)) k,
      ))
      (related_left b g given s t r h.plain h.runs h.mode s.world t.world (position_of F label) 0
      (values_in g.given.code (slice_get F.blocks (position_of F label)) from s.top.values)
      (values_in b.given.given.code (slice_get F.blocks (position_of F label)) from t.top.values) r.world
      (memory_left b g given s t r h.plain h.runs h.mode s.world t.world refl refl)
      (phis_standing r.homes g.given.code b.given.given.code from s.top.values t.top.values s.top.values t.top.values phis
      (operand_stands b g given s t r h.plain h.runs h.mode) (stands b g given s t r h.plain h.runs h.mode)))

  pub branch_followed : IsFollowed b g s t
  branch_followed =
      one_followed b g s t
      (cost_one b g given s t r h.plain h.runs h.mode (GoTo label) (ap (action_of c2 (work_of s)) h.there ∙ h.does)
      refl)
      (subst (λ (p : State × State). AreBuiltOf b p.0 p.1) (λ k. (sym source_to k, sym target_to k)) entered)
