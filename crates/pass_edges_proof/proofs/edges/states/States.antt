-- A state of a source run, and that of the module whose edges have blocks: instances, and the entering and leaving of blocks.
use Rattle.std.proofs.Common.{◌≡◌, ◌⊎◌, inl, inr, ℕ, suc, ◌+◌, ◌<◌, Bool, true, false, List, [], ◌∷◌, length, refl, sym, ap, ◌∙◌, subst}
use Rattle.std.proofs.lemmas.List.{length-map}
use Rattle.std.proofs.lemmas.Option.{slice_get-map}
use Rattle.std.specs.List.{list_all}
use Rattle.std.specs.Prelude.{ℤ, Some, None, Ok, Err, Option, Result, filter, map, option_and_then, option_map, slice_get, ◌&&◌, ◌==◌, if◌then◌else◌}
use Rattle.pass_early_proof.specs.run_memory.declared.pointer.Pointer.{Pointer}
use Rattle.pass_early_proof.specs.run_memory.declared.pointer.Value.{Value}
use Rattle.pass_early_proof.specs.ir_base.declared.cause.Cause.{Cause}
use Rattle.pass_early_proof.specs.ir_base.declared.outcome.Outcome.{Outcome}
use Rattle.pass_early_proof.specs.run_source.Indexes.{last_from, or_else}
use Rattle.pass_early_proof.specs.run_source.Source.{act, advance_by, branch_leaving, context_of, continue, enter_block, given, go_to, is_save, left_windows, may_leave, step}
use Rattle.pass_early_proof.specs.run_source.State.{began_at, instance_at, is_suspended, numbered, or_undefined, own_instance, point_of, with_instance, with_left, with_status, work_of}
use Rattle.pass_early_proof.specs.run_source.declared.state.Instance.{Instance}
use Rattle.pass_early_proof.specs.run_source.declared.state.Saved.{Saved}
use Rattle.pass_early_proof.specs.run_source.declared.state.State.{State}
use Rattle.pass_early_proof.specs.run_source.declared.state.Status.{Status}
use Rattle.pass_edges_proof.proofs.edges.paths.Left.{left_moved, none_left}
use Rattle.pass_early_proof.specs.ir_laws.facts.threads.Moved.{ArePaired}
use Rattle.pass_early_proof.specs.ir_laws.paths.threads.Moved.{IsMoved}
use Rattle.pass_early_proof.specs.ir_laws.paths.threads.Threads.{IsBetween}
use Rattle.pass_edges.specs.EdgeBlocks.{edge_block}
use Rattle.pass_edges.specs.declared.edge.Edge.{Edge}
use Rattle.pass_edges_proof.proofs.edges.states.Parts.{by_kind, function_moved, named_moved, placed_apart}
use Rattle.pass_early_proof.specs.run_states.branches.MovedState.{IsOwnedBy}
use Rattle.pass_edges_proof.specs.edges.states.MovedState.{Keeps, edge_count, edge_function, edges_split, moved_activation, moved_instance, moved_result, moved_save, moved_state, moved_status, placed, placed_block}
use Rattle.pass_edges_proof.specs.edges.states.Near.{IsNear}
use Rattle.pass_edges_proof.specs.edges.states.Ways.{Enters, PhisTake, TakesSame}
use Rattle.ir_model.specs.Names.{declaration_named, function_at, function_named, global_named, position_of}
use Rattle.ir_model.specs.Ty.{Ty}
use Rattle.ir_model.specs.declared.instr.Phi.{Phi}
use Rattle.ir_model.specs.declared.module.Block.{Block}
use Rattle.ir_model.specs.declared.module.Frame.{Frame}
use Rattle.ir_model.specs.declared.module.Function.{Function}
use Rattle.ir_model.specs.declared.module.Module.{Module}
use Rattle.ir_model.specs.declared.operand.Operand.{Operand}
use Rattle.pass_early_proof.proofs.ir_paths.Search.{Has}
use Rattle.pass_early_proof.specs.ir_paths.Facts.{all_facts, facts_of}
use Rattle.pass_early_proof.specs.ir_paths.Paths.{entry_point, nexts, same_point}
use Rattle.pass_early_proof.specs.ir_paths.Windows.{leaves, windows_of}
use Rattle.pass_early_proof.specs.ir_paths.declared.point.Facts.{Facts}
use Rattle.pass_early_proof.specs.ir_paths.declared.point.Point.{Point}
use Rattle.pass_early_proof.specs.ir_paths.declared.point.Window.{Window}
use Rattle.pass_early_proof.specs.run_step.Results.{and_then, found, ok_if}
use Rattle.pass_early_proof.specs.run_step.Step.{action_of, fetch_in, incoming_from, label_of, phi_values, phis_of, values_in, with_all}
use Rattle.pass_early_proof.specs.run_step.Values.{Env, address_from, operand_value}
use Rattle.pass_early_proof.proofs.ir_laws.paths.expanded.Apart.{same_moved}
use Rattle.pass_early_proof.proofs.run_states.expanded.Environments.{all_grown, grown, value_grown}
use Rattle.pass_early_proof.proofs.ir_laws.facts.Members.{at_each as each_at}
use Rattle.pass_early_proof.specs.run_laws.changed.Changed.{Each}
use Rattle.pass_early_proof.specs.ir_laws.facts.sound_states.Named.{HasNamedPhis}
use Rattle.pass_early_proof.specs.run_source_tables.Given.{Given, facts_at}
use Rattle.pass_early_proof.proofs.ir_laws.facts.Lists.{map_set}
use Rattle.pass_early_proof.proofs.run_states.saved.States.{facts_are}

pub facts_moved : (m : Module) (func : ℕ) → facts_at (all_facts (edges_split m)) func ≡ facts_of (edge_function (function_at m func))
facts_moved m func = facts_are (edges_split m) func ∙ ap facts_of (function_moved m func)

-- ---- operands

pub operand_moved : (m : Module) (k : ℕ) (env : Env) (ty : Ty) (x : Operand) → operand_value (edges_split m) (grown k env) ty x ≡ operand_value m env ty x
operand_moved m k env ty (Operand.Local name) = value_grown k env name
operand_moved m k env ty (Operand.Global n) =
    ap (λ (o : Option ℕ). address_from (edges_split m) o (global_named m n) (declaration_named m n)) (named_moved m n)
    ∙ on (function_named m n) (global_named m n) (declaration_named m n)
  where
    on : (f b d : Option ℕ) → address_from (edges_split m) f b d ≡ address_from m f b d
    on (Some f) b d = refl
    on None (Some b) d = refl
    on None None (Some d) = ap (λ (n : ℕ). Value.Ptr (Pointer.Func (n + d))) (length-map m.functions edge_function)
    on None None None = refl
operand_moved m k env ty (Operand.Number z) = refl
operand_moved m k env ty Operand.True = refl
operand_moved m k env ty Operand.False = refl
operand_moved m k env ty Operand.Null = refl
operand_moved m k env ty Operand.None = refl
operand_moved m k env ty Operand.Poison = refl

module _ (m : Module) where
  abbrev now : Instance → Instance
  now x = moved_instance m x

  abbrev pub with_number : Option (ℕ × Instance) → Option (ℕ × Instance)
  with_number o = option_map (λ (y : ℕ × Instance). (y.0, moved_instance m y.1)) o

  -- ---- instances

  numbered_moved : (xs : List Instance) (i : ℕ) → numbered (map now xs) i ≡ with_number (numbered xs i)
  numbered_moved xs i = ap (option_map (λ (x : Instance). (i, x))) (slice_get-map now xs i) ∙ on (slice_get xs i)
    where
      on : (o : Option Instance) → option_map (λ (x : Instance). (i, x)) (option_map (moved_instance m) o) ≡ with_number (option_map (λ (x : Instance). (i, x)) o)
      on None = refl
      on (Some x) = refl

  pub own_moved : (s : State) → own_instance (moved_state m s) ≡ with_number (own_instance s)
  own_moved s = on s.top.instance
    where
      on : (o : Option ℕ) → option_and_then (numbered (map (moved_instance m) s.instances)) o ≡ with_number (option_and_then (numbered s.instances) o)
      on None = refl
      on (Some i) = numbered_moved s.instances i

  last_moved : (test : Instance → Bool) → ((x : Instance) → test (moved_instance m x) ≡ test x) → (i : ℕ) (xs : List Instance) → last_from test i (map now xs) ≡ last_from test i xs
  last_moved test h i [] = refl
  last_moved test h i (x ∷ xs) =
      let rest = last_moved test h (suc i) xs in
      λ j. or_else (rest j) (if h x j then Some i else None)

  pub found_moved : (xs : List Instance) (v : Value) → instance_at (map now xs) v ≡ with_number (instance_at xs v)
  found_moved xs (Value.Ptr (Pointer.At block offset)) =
      ap (option_and_then (numbered (map now xs))) (last_moved (began_at block offset.bits) (λ x. refl) 0 xs) ∙ on (last_from (began_at block offset.bits) 0 xs)
    where
      on : (o : Option ℕ) → option_and_then (numbered (map now xs)) o ≡ with_number (option_and_then (numbered xs) o)
      on None = refl
      on (Some i) = numbered_moved xs i
  found_moved xs (Value.Ptr Pointer.Null) = refl
  found_moved xs (Value.Ptr (Pointer.Func f)) = refl
  found_moved xs Value.Poison = refl
  found_moved xs (Value.Int x) = refl

  pub with_instance_moved : (s : State) (i : ℕ) (x : Instance) → with_instance (moved_state m s) i (moved_instance m x) ≡ moved_state m (with_instance s i x)
  with_instance_moved s i x = ap (λ (xs : List Instance). record (moved_state m s) { instances = xs }) (map_set now s.instances i x)

  -- ---- windows that are left

  suspended_moved : (f : Function) (status : Status) → is_suspended (moved_status f status) ≡ is_suspended status
  suspended_moved f Status.Running = refl
  suspended_moved f (Status.Suspended p values) = refl
  suspended_moved f Status.Finished = refl

  save_moved : (f : Function) (depth : ℕ) (a b : Point) → b ≡ placed f a → (o : Option Saved) → is_save depth b (option_map (moved_save f) o) ≡ is_save depth a o
  save_moved f depth a b e None = refl
  save_moved f depth a b e (Some x) = ap (λ (t : Bool). (x.depth == depth) && t) (ap (same_point (placed f x.save)) e ∙ same_moved (placed f) (placed f) x.save a (placed_apart f x.save a) refl)

  pub may_leave_moved : (h f : Function) (depth : ℕ) (x : Instance) → function_at m x.coroutine ≡ f → (ws vs : List Window) → ArePaired (IsMoved h (placed f)) ws vs → list_all (may_leave depth (moved_instance m x)) vs ≡ list_all (may_leave depth x) ws
  may_leave_moved h f depth x e [] [] all = refl
  may_leave_moved h f depth x e [] (v ∷ vs) all = absurd all
  may_leave_moved h f depth x e (w ∷ ws) [] all = absurd all
  may_leave_moved h f depth x e (w ∷ ws) (v ∷ vs) all =
      let rest = may_leave_moved h f depth x e ws vs all.1 in
      let status = suspended_moved (function_at m x.coroutine) x.status in
      let last = ap (λ (k : Function). is_save depth v.save (option_map (moved_save k) x.last_save)) e ∙ save_moved f depth w.save v.save all.0.save x.last_save in
      λ i. (status i && last i) && rest i

-- ---- windows

-- the windows that a branch leaves are moved
abbrev pub AreLeft : Function → Function → (Point → Point) → (p q y : Point) → Type 0
AreLeft f g move p q y = ArePaired (IsMoved g move) (filter (leaves p q) (windows_of f)) (filter (leaves (move p) y) (windows_of g))

same_windows : (f : Function) (ws : List Window) → ArePaired (IsMoved f (λ p. record { block = p.block; at = p.at })) ws ws
same_windows f [] = tt
same_windows f (w ∷ ws) = (
  record {
    save = refl;
    suspend = refl;
    inside = λ p. refl;
    entered = λ p q y e b h. absurd (b.apart y refl);
    stays = λ q y b h. absurd (b.apart y refl);
  },
  same_windows f ws,
)

pub left_kept : (f : Function) → Keeps f → (p q y : Point) → Has (nexts (edge_function f) (placed f p)) y → (y ≡ placed f q) ⊎ IsBetween (edge_function f) (placed f) (placed f q) y → AreLeft f (edge_function f) (placed f) p q y
left_kept f keeps = by_kind (λ g to n. (p q y : Point) → Has (nexts g (record { block = to p.block; at = p.at })) y → (y ≡ record { block = to q.block; at = q.at }) ⊎ IsBetween g (λ (x : Point). record { block = to x.block; at = x.at }) (record { block = to q.block; at = q.at }) y → AreLeft f g (λ (x : Point). record { block = to x.block; at = x.at }) p q y) f
    (λ e p q y h b. left_moved f (keeps e).labels p q y h b)
    (λ e p q y h b. plain p q y b)
  where
    plain : (p q y : Point) → (y ≡ q) ⊎ IsBetween f (λ (x : Point). record { block = x.block; at = x.at }) q y → AreLeft f f (λ (x : Point). record { block = x.block; at = x.at }) p q y
    plain p q y (inl e) = subst (λ (z : Point). AreLeft f f (λ (x : Point). record { block = x.block; at = x.at }) p q z) (sym e) (same_windows f (filter (leaves p q) (windows_of f)))
    plain p q y (inr b) = absurd (b.apart y refl)

pub none_left_kept : (f : Function) → Keeps f → (q y : Point) → IsBetween (edge_function f) (placed f) (placed f q) y → filter (leaves y (placed f q)) (windows_of (edge_function f)) ≡ []
none_left_kept f keeps = by_kind (λ g to n. (q y : Point) → IsBetween g (λ (x : Point). record { block = to x.block; at = x.at }) (record { block = to q.block; at = q.at }) y → filter (leaves y (record { block = to q.block; at = q.at })) (windows_of g) ≡ []) f
    (λ e q y b. none_left f (keeps e).labels q y b)
    (λ e q y b. absurd (b.apart y refl))

module _ (m : Module) (sizes : List Frame) (answers : List ℤ) where
  abbrev g : Given
  g = given m sizes answers

  abbrev k : Given
  k = given (edges_split m) sizes answers

  -- ---- entering a block

  phis_moved : (n : ℕ) (env : Env) (l j : ℕ) (ps qs : List Phi) → ArePaired (TakesSame l j) ps qs → phi_values (edges_split m) (grown n env) j qs ≡ phi_values m env l ps
  phis_moved n env l j [] [] h = refl
  phis_moved n env l j [] (q ∷ qs) h = absurd h
  phis_moved n env l j (p ∷ ps) [] h = absurd h
  phis_moved n env l j (p ∷ ps) (q ∷ qs) h =
      let first = (λ i. operand_value (edges_split m) (grown n env) (h.0.ty i) (h.0.operand i)) ∙ operand_moved m n env p.ty (incoming_from p.incoming l) in
      let rest = phis_moved n env l j ps qs h.1 in
      λ i. (h.0.result i, first i) ∷ rest i

  phis_named : (n : ℕ) (env : Env) (label : ℕ) (phis : List Phi) → Each (λ (p : Phi). p.result < n) phis → Each (λ (p : ℕ × Value). p.0 < n) (phi_values m env label phis)
  phis_named n env label [] h = tt
  phis_named n env label (p ∷ phis) h = (h.0, phis_named n env label phis h.1)

  values_moved : (n : ℕ) (o u : Option Block) (l j : ℕ) (env : Env) → ArePaired (TakesSame l j) (phis_of o) (phis_of u) → Each (λ (p : Phi). p.result < length env) (phis_of o) → values_in (edges_split m) u j (grown n env) ≡ grown n (values_in m o l env)
  values_moved n o u l j env h named =
      ap (with_all (grown n env)) (phis_moved n env l j (phis_of o) (phis_of u) h)
      ∙ all_grown n env (phi_values m env l (phis_of o)) (phis_named (length env) env l (phis_of o) named)

  phis_at : (f : Function) → HasNamedPhis f → (block : ℕ) → Each (λ (p : Phi). p.result < length f.names) (phis_of (slice_get f.blocks block))
  phis_at f h block = on (slice_get f.blocks block) refl
    where
      on : (o : Option Block) → slice_get f.blocks block ≡ o → Each (λ (p : Phi). p.result < length f.names) (phis_of o)
      on None e = tt
      on (Some b) e = each_at (λ (b : Block). Each (λ (p : Phi). p.result < length f.names) b.phis) f.blocks block b h e

  abbrev Near : Result State Cause → Result State Cause → Type 0
  Near r q = IsNear m sizes answers r q

  pub near_same : (r q : Result State Cause) → q ≡ moved_result m r → IsNear m sizes answers r q
  near_same r q e = subst (Near r) (sym e) (on r)
    where
      on : (r : Result State Cause) → Near r (moved_result m r)
      on (Err c) = refl
      on (Ok s) = inl refl

  module _ (s : State) (keeps : Keeps (function_at m s.top.func)) (phis : HasNamedPhis (function_at m s.top.func)) (room : length s.top.values ≡ length (function_at m s.top.func).names) where
    abbrev f : Function
    f = function_at m s.top.func

    abbrev h : Function
    h = function_at (edges_split m) s.top.func

    abbrev count : ℕ
    count = edge_count (function_at m s.top.func)

    -- the state that stands at a block of the second function
    abbrev standing : ℕ → Env → State
    standing b values = record (moved_state m s) { top = record (moved_activation m s.top) { block = b; at = 0; values = values } }

    named_there : (t : ℕ) → Each (λ (p : Phi). p.result < length s.top.values) (phis_of (slice_get (function_at m s.top.func).blocks (position_of (function_at m s.top.func) t)))
    named_there t = subst (λ (n : ℕ). Each (λ (p : Phi). p.result < n) (phis_of (slice_get f.blocks (position_of f t)))) (sym room) (phis_at f phis (position_of f t))

    -- at the block of t with the values of its phis
    arrives : (t j from : ℕ) → entry_point h t ≡ placed f (entry_point f j) → PhisTake f h (position_of f j) (position_of h t) (label_of (slice_get f.blocks s.top.block)) from → standing (position_of h t) (values_in (edges_split m) (slice_get h.blocks (position_of h t)) from (grown count s.top.values)) ≡ moved_state m (enter_block g s j)
    arrives t j from to take =
        (λ i. standing (to i).block (values_moved count (slice_get f.blocks (position_of f j)) (slice_get h.blocks (position_of h t)) (label_of (slice_get f.blocks s.top.block)) from s.top.values take (named_there j) i))

    -- from the block of an edge
    jumps : (edge : Edge) (t l : ℕ) → slice_get h.blocks (position_of h l) ≡ Some (edge_block edge) → edge.target ≡ t → filter (leaves (entry_point h l) (entry_point h t)) (windows_of h) ≡ [] → s.outcome ≡ Outcome.Running → step k (standing (position_of h l) (grown count s.top.values)) ≡ standing (position_of h t) (values_in (edges_split m) (slice_get h.blocks (position_of h t)) edge.label (grown count s.top.values))
    jumps edge t l got target none running =
        ap (advance_by k (continue k) u) running
        ∙ ap (λ (o : Option Block). or_undefined k u (act k (continue k) u (action_of (context_of k u) (work_of u) (fetch_in o 0)))) got
        ∙ ap (λ (x : ℕ). or_undefined k u (go_to k u x)) target
        ∙ ap (λ (x : Facts). or_undefined k u (branch_leaving k u t (filter (leaves (entry_point h l) (entry_point h t)) x.windows))) (facts_are (edges_split m) s.top.func)
        ∙ ap (λ (ws : List Window). or_undefined k u (branch_leaving k u t ws)) none
        ∙ ap (λ (o : Option Block). standing (position_of h t) (values_in (edges_split m) (slice_get h.blocks (position_of h t)) (label_of o) (grown count s.top.values))) got
      where
        u : State
        u = standing (position_of h l) (grown count s.top.values)

    -- a block is entered directly, or over an edge's block
    pub enters_near : s.outcome ≡ Outcome.Running → (t l : ℕ) → Enters (function_at m s.top.func) (function_at (edges_split m) s.top.func) (placed (function_at m s.top.func)) s.top.block t l → Near (Ok (enter_block g s t)) (Ok (enter_block k (moved_state m s) l))
    enters_near running t l (inl d) = inl (arrives l t (label_of (slice_get h.blocks (placed_block f s.top.block))) d.to d.phis)
    enters_near running t l (inr o) =
        subst (λ (u : State). Near (Ok (enter_block g s t)) (Ok u)) (sym there)
        (inr (record {
          running = running;
          world = refl;
          goes_on = jumps o.edge t l o.got o.target none running ∙ arrives t t o.edge.label o.to o.phis;
        }))
      where
        there : enter_block k (moved_state m s) l ≡ standing (position_of h l) (grown count s.top.values)
        there = ap (λ (x : Option Block). standing (position_of h l) (values_in (edges_split m) x (label_of (slice_get h.blocks (placed_block f s.top.block))) (grown count s.top.values))) o.got

        is : h ≡ edge_function f
        is = function_moved m s.top.func

        none : filter (leaves (entry_point h l) (entry_point h t)) (windows_of h) ≡ []
        none =
            ap (λ (q : Point). filter (leaves (entry_point h l) q) (windows_of h)) o.to
            ∙ subst (λ (x : Function). IsBetween x (placed f) (placed f (entry_point f t)) (entry_point h l) → filter (leaves (entry_point h l) (placed f (entry_point f t))) (windows_of x) ≡ []) (sym is)
            (none_left_kept f keeps (entry_point f t) (entry_point h l)) o.between

  -- ---- branches

  module _ (s : State) (keeps : Keeps (function_at m s.top.func)) (phis : HasNamedPhis (function_at m s.top.func)) (room : length s.top.values ≡ length (function_at m s.top.func).names) (own : IsOwnedBy s (own_instance s)) (running : s.outcome ≡ Outcome.Running) (t l : ℕ) (enters : Enters (function_at m s.top.func) (function_at (edges_split m) s.top.func) (placed (function_at m s.top.func)) s.top.block t l) where
    abbrev AreLeftHere : List Window → List Window → Type 0
    AreLeftHere ws vs = ArePaired (IsMoved (function_at (edges_split m) s.top.func) (placed (function_at m s.top.func))) ws vs

    tested : (a b : Bool) (x u : State) → b ≡ a → Near (Ok x) (Ok u) → Near (ok_if a Cause.State x) (ok_if b Cause.State u)
    tested true true x u e n = n
    tested true false x u e n = absurd (cc)
    tested false true x u e n = absurd (cc)
    tested false false x u e n = refl

    leave_near : (o : Option (ℕ × Instance)) → IsOwnedBy s o → (ws vs : List Window) → AreLeftHere ws vs → Near
        (and_then (found Cause.State o) (λ (y : ℕ × Instance). ok_if (list_all (may_leave (length s.below) y.1) ws) Cause.State (enter_block g (with_left (with_status s y.0 y.1 Status.Running) false) t)))
        (and_then (found Cause.State (with_number m o)) (λ (y : ℕ × Instance). ok_if (list_all (may_leave (length (map (moved_activation m) s.below)) y.1) vs) Cause.State (enter_block k (with_left (with_status (moved_state m s) y.0 y.1 Status.Running) false) l)))
    leave_near None e ws vs all = refl
    leave_near (Some y) e ws vs all =
        tested (list_all (may_leave (length s.below) y.1) ws) (list_all (may_leave (length (map (moved_activation m) s.below)) (moved_instance m y.1)) vs)
        (enter_block g (with_left (with_status s y.0 y.1 Status.Running) false) t)
        (enter_block k (with_left (with_status (moved_state m s) y.0 (moved_instance m y.1) Status.Running) false) l)
        (ap (λ (n : ℕ). list_all (may_leave n (moved_instance m y.1)) vs) (length-map s.below (moved_activation m)) ∙ may_leave_moved m (function_at (edges_split m) s.top.func) (function_at m s.top.func) (length s.below) y.1 (ap (function_at m) e) ws vs all)
        (subst (λ (x : State). Near (Ok (enter_block g (with_left (with_status s y.0 y.1 Status.Running) false) t)) (Ok (enter_block k (with_left x false) l))) (sym (with_instance_moved m s y.0 (record y.1 { status = Status.Running })))
        (enters_near (with_left (with_status s y.0 y.1 Status.Running) false) keeps phis room running t l enters))

    branch_near : (ws vs : List Window) → AreLeftHere ws vs → Near (branch_leaving g s t ws) (branch_leaving k (moved_state m s) l vs)
    branch_near [] [] all = enters_near s keeps phis room running t l enters
    branch_near [] (v ∷ vs) all = absurd all
    branch_near (w ∷ ws) [] all = absurd all
    branch_near (w ∷ ws) (v ∷ vs) all =
        subst (λ (o : Option (ℕ × Instance)). Near (branch_leaving g s t (w ∷ ws)) (and_then (found Cause.State o) (λ (y : ℕ × Instance). ok_if (list_all (may_leave (length (map (moved_activation m) s.below)) y.1) (v ∷ vs)) Cause.State (enter_block k (with_left (with_status (moved_state m s) y.0 y.1 Status.Running) false) l)))) (sym (own_moved m s))
        (leave_near (own_instance s) own (w ∷ ws) (v ∷ vs) all)

    goes : Enters (function_at m s.top.func) (function_at (edges_split m) s.top.func) (placed (function_at m s.top.func)) s.top.block t l → (entry_point (function_at (edges_split m) s.top.func) l ≡ placed (function_at m s.top.func) (entry_point (function_at m s.top.func) t)) ⊎ IsBetween (function_at (edges_split m) s.top.func) (placed (function_at m s.top.func)) (placed (function_at m s.top.func) (entry_point (function_at m s.top.func) t)) (entry_point (function_at (edges_split m) s.top.func) l)
    goes (inl d) = inl d.to
    goes (inr o) = inr o.between

    windows_left : Has (nexts (function_at (edges_split m) s.top.func) (placed (function_at m s.top.func) (point_of s))) (entry_point (function_at (edges_split m) s.top.func) l) → AreLeftHere (left_windows g s t) (left_windows k (moved_state m s) l)
    windows_left there =
        subst (λ (x : Facts). AreLeftHere (filter (leaves (point_of s) (entry_point f t)) x.windows) (left_windows k (moved_state m s) l)) (sym (facts_are m s.top.func))
        (subst (λ (x : Facts). AreLeftHere (filter (leaves (point_of s) (entry_point f t)) (windows_of f)) (filter (leaves (placed f (point_of s)) (entry_point (function_at (edges_split m) s.top.func) l)) x.windows)) (sym (facts_are (edges_split m) s.top.func))
        (subst (λ (h : Function). (y : Point) → Has (nexts h (placed f (point_of s))) y → (y ≡ placed f (entry_point f t)) ⊎ IsBetween h (placed f) (placed f (entry_point f t)) y → AreLeft f h (placed f) (point_of s) (entry_point f t) y) (sym (function_moved m s.top.func))
        (left_kept f keeps (point_of s) (entry_point f t)) (entry_point (function_at (edges_split m) s.top.func) l) there (goes enters)))
      where
        f : Function
        f = function_at m s.top.func

    -- a branch leaves what it left, and goes where it went, or to the edge's block
    pub go_to_near : Has (nexts (function_at (edges_split m) s.top.func) (placed (function_at m s.top.func) (point_of s))) (entry_point (function_at (edges_split m) s.top.func) l) → Near (go_to g s t) (go_to k (moved_state m s) l)
    go_to_near there = branch_near (left_windows g s t) (left_windows k (moved_state m s) l) (windows_left there)
