-- How blocks are entered and windows left, where functions have blocks on some of their edges.
use Rattle.std.proofs.Common.{◌≡◌, ◌⊎◌, inl, inr, ℕ, ◌<◌, Bool, true, false, List, [], ◌∷◌, length, refl, sym, ap, ◌∙◌, subst}
use Rattle.std.proofs.lemmas.List.{length-map}
use Rattle.std.specs.List.{list_all}
use Rattle.std.specs.Prelude.{ℤ, Some, None, Ok, Err, Option, Result, filter, map, slice_get}
use Rattle.ir_laws.specs.run_memory.declared.pointer.Value.{Value}
use Rattle.ir_laws.specs.ir_base.declared.cause.Cause.{Cause}
use Rattle.ir_laws.specs.ir_base.declared.outcome.Outcome.{Outcome}
use Rattle.ir_laws.specs.run_source.Source.{branch_leaving, enter_block, go_to, left_windows, may_leave}
use Rattle.ir_laws.specs.run_source.State.{or_undefined, own_facts, own_instance, point_of, with_left, with_status}
use Rattle.ir_laws.specs.run_source.declared.state.Instance.{Instance}
use Rattle.ir_laws.specs.run_source.declared.state.State.{State}
use Rattle.ir_laws.specs.run_source.declared.state.Status.{Status}
use Rattle.run_states.proofs.expanded.Environments.{all_grown, grown}
use Rattle.ir_laws.proofs.facts.Members.{at_each as each_at}
use Rattle.ir_laws.specs.run_laws.changed.Changed.{Each}
use Rattle.ir_laws.specs.facts.sound_states.Named.{HasNamedPhis}
use Rattle.frame_layout.specs.declared.layout.Layout.{Layout}
use Rattle.run_states.specs.branches.MovedState.{IsOwnedBy}
use Rattle.run_framed.specs.Framed.{FramedGiven, framed_advance, framed_given, framed_next, framed_step}
use Rattle.ir_laws.specs.ir_model.Names.{function_at, position_of}
use Rattle.ir_laws.specs.ir_model.declared.instr.Phi.{Phi}
use Rattle.ir_laws.specs.ir_model.declared.module.Block.{Block}
use Rattle.ir_laws.specs.ir_model.declared.module.Function.{Function}
use Rattle.ir_laws.specs.ir_model.declared.module.Module.{Module}
use Rattle.ir_laws.specs.ir_paths.Paths.{entry_point}
use Rattle.ir_laws.specs.ir_paths.Windows.{leaves}
use Rattle.ir_laws.specs.ir_paths.declared.point.Facts.{Facts}
use Rattle.ir_laws.specs.ir_paths.declared.point.Point.{Point}
use Rattle.ir_laws.specs.ir_paths.declared.point.Window.{Window}
use Rattle.ir_laws.specs.run_step.Results.{and_then, found, ok_if}
use Rattle.ir_laws.specs.run_step.Step.{fetch, fetch_in, incoming_from, label_of, phi_values, phis_of, values_in, with_all}
use Rattle.ir_laws.specs.run_step.Values.{Env}
use Rattle.run_states.proofs.moved_states.Parts.{facts_are, facts_moved, function_moved, operand_moved}
use Rattle.run_states.proofs.moved_states.States.{may_leave_moved, own_moved, with_instance_moved, with_number}
use Rattle.run_states.specs.moved_states.MovedState.{moved_activation, moved_instance, moved_module, moved_result, moved_state}
use Rattle.run_states.specs.moved_states.Moving.{Goes, IsDirect, IsOver, KeepsKinds, Moves, Moving, moved_point}
use Rattle.run_states.specs.moved_states.Near.{IsBefore, IsNear}

module _ (mv : Moving) (kinds : KeepsKinds mv) (m : Module) (layouts : List Layout) (answers : List ℤ) where
  abbrev g : FramedGiven
  g = framed_given m layouts answers

  abbrev k : FramedGiven
  k = framed_given (moved_module mv m) layouts answers

  -- ---- the values of phis

  phis_moved : (n : ℕ) (env : Env) (l : ℕ) (ps : List Phi) → phi_values (moved_module mv m) (grown n env) l ps ≡ phi_values m env l ps
  phis_moved n env l [] = refl
  phis_moved n env l (p ∷ ps) =
      let first = operand_moved mv kinds m n env p.ty (incoming_from p.incoming l) in
      let rest = phis_moved n env l ps in
      λ i. (p.result, first i) ∷ rest i

  phis_named : (n : ℕ) (env : Env) (label : ℕ) (ps : List Phi) → Each (λ (p : Phi). p.result < n) ps → Each (λ (p : ℕ × Value). p.0 < n) (phi_values m env label ps)
  phis_named n env label [] h = tt
  phis_named n env label (p ∷ ps) h = (h.0, phis_named n env label ps h.1)

  values_moved : (n : ℕ) (o u : Option Block) (l : ℕ) (env : Env) → phis_of u ≡ phis_of o → Each (λ (p : Phi). p.result < length env) (phis_of o) → values_in (moved_module mv m) u l (grown n env) ≡ grown n (values_in m o l env)
  values_moved n o u l env same named =
      ap (λ (ps : List Phi). with_all (grown n env) (phi_values (moved_module mv m) (grown n env) l ps)) same
      ∙ ap (with_all (grown n env)) (phis_moved n env l (phis_of o))
      ∙ all_grown n env (phi_values m env l (phis_of o)) (phis_named (length env) env l (phis_of o) named)

  phis_at : (f : Function) → HasNamedPhis f → (block : ℕ) → Each (λ (p : Phi). p.result < length f.names) (phis_of (slice_get f.blocks block))
  phis_at f h block = on (slice_get f.blocks block) refl
    where
      on : (o : Option Block) → slice_get f.blocks block ≡ o → Each (λ (p : Phi). p.result < length f.names) (phis_of o)
      on None e = tt
      on (Some b) e = each_at (λ (b : Block). Each (λ (p : Phi). p.result < length f.names) b.phis) f.blocks block b h e

  abbrev Near : Result State Cause → Result State Cause → Type 0
  Near r q = IsNear mv m layouts answers r q

  pub near_same : (r q : Result State Cause) → q ≡ moved_result mv m r → IsNear mv m layouts answers r q
  near_same r q e = subst (Near r) (sym e) (on r)
    where
      on : (r : Result State Cause) → Near r (moved_result mv m r)
      on (Err c) = refl
      on (Ok s) = inl refl

  -- ---- entering a block

  module _ (s : State) (moves : Moves mv (function_at m s.top.func)) (phis : HasNamedPhis (function_at m s.top.func)) (room : length s.top.values ≡ length (function_at m s.top.func).names) where
    abbrev f : Function
    f = function_at m s.top.func

    abbrev h : Function
    h = mv.to (function_at m s.top.func)

    abbrev env : Env
    env = grown (mv.more (function_at m s.top.func)) s.top.values

    -- the state that stands at a block of the second function
    abbrev standing : ℕ → Env → State
    standing b values = record (moved_state mv m s) { top = record (moved_activation mv m s.top) { block = b; at = 0; values = values } }

    -- at the block of a label of a function, from a block
    abbrev entered : Function → ℕ → ℕ → State
    entered x l from = standing (position_of x l) (values_in (moved_module mv m) (slice_get x.blocks (position_of x l)) (label_of (slice_get x.blocks from)) env)

    abbrev from : ℕ
    from = mv.spot (function_at m s.top.func) s.top.block

    is : function_at (moved_module mv m) s.top.func ≡ mv.to (function_at m s.top.func)
    is = function_moved mv kinds m s.top.func

    enters_as : (l : ℕ) → enter_block k.given (moved_state mv m s) l ≡ entered h l from
    enters_as l = ap (λ (x : Function). entered x l from) is

    named_there : (t : ℕ) → Each (λ (p : Phi). p.result < length s.top.values) (phis_of (slice_get (function_at m s.top.func).blocks (position_of (function_at m s.top.func) t)))
    named_there t = subst (λ (n : ℕ). Each (λ (p : Phi). p.result < n) (phis_of (slice_get f.blocks (position_of f t)))) (sym room) (phis_at f phis (position_of f t))

    at_spot : (t : ℕ) → standing (mv.spot f (position_of f t)) (values_in (moved_module mv m) (slice_get h.blocks (mv.spot f (position_of f t))) (label_of (slice_get h.blocks from)) env) ≡ moved_state mv m (enter_block g.given s t)
    at_spot t = ap (standing (mv.spot f (position_of f t)))
        (ap (λ (x : ℕ). values_in (moved_module mv m) (slice_get h.blocks (mv.spot f (position_of f t))) x env) (moves.labels s.top.block)
        ∙ values_moved (mv.more f) (slice_get f.blocks (position_of f t)) (slice_get h.blocks (mv.spot f (position_of f t))) (label_of (slice_get f.blocks s.top.block)) s.top.values (moves.phis (position_of f t)) (named_there t))

    pub enters_direct : (t l : ℕ) → position_of (mv.to (function_at m s.top.func)) l ≡ mv.spot (function_at m s.top.func) (position_of (function_at m s.top.func) t) → enter_block k.given (moved_state mv m s) l ≡ moved_state mv m (enter_block g.given s t)
    enters_direct t l to =
        enters_as l
        ∙ ap (λ (b : ℕ). standing b (values_in (moved_module mv m) (slice_get h.blocks b) (label_of (slice_get h.blocks from)) env)) to
        ∙ at_spot t

    enters_over : (t l : ℕ) → IsOver (function_at m s.top.func) (mv.to (function_at m s.top.func)) (mv.spot (function_at m s.top.func)) t l → s.outcome ≡ Outcome.Running → IsBefore mv m layouts answers (enter_block g.given s t) (standing (position_of (mv.to (function_at m s.top.func)) l) env)
    enters_over t l o running = record { running = running; world = refl; goes_on = goes }
      where
        u : State
        u = standing (position_of (mv.to (function_at m s.top.func)) l) env

        label : ℕ
        label = label_of (slice_get (mv.to (function_at m s.top.func)).blocks (position_of (mv.to (function_at m s.top.func)) l))

        before : ℕ
        before = label_of (slice_get (function_at m s.top.func).blocks s.top.block)

        spot : ℕ
        spot = mv.spot (function_at m s.top.func) (position_of (function_at m s.top.func) t)

        goes : framed_step k (standing (position_of (mv.to (function_at m s.top.func)) l) env) ≡ moved_state mv m (enter_block g.given s t)
        goes =
            ap (framed_advance k u) running
            ∙ ap (λ (x : Function). or_undefined k.given u (framed_next k u (fetch x (position_of h l) 0))) is
            ∙ ap (λ (b : Option Block). or_undefined k.given u (framed_next k u (fetch_in b 0))) o.got
            ∙ ap (λ (x : Function). or_undefined k.given u (branch_leaving k.given u t (filter (leaves (entry_point h l) (entry_point x t)) (own_facts k.given u).windows))) is
            ∙ ap (λ (x : Facts). or_undefined k.given u (branch_leaving k.given u t (filter (leaves (entry_point h l) (entry_point h t)) x.windows))) (facts_moved mv kinds m s.top.func)
            ∙ ap (λ (ws : List Window). or_undefined k.given u (branch_leaving k.given u t ws)) o.stays
            ∙ ap (λ (x : Function). entered x t (position_of h l)) is
            ∙ ap (λ (b : ℕ). standing b (values_in (moved_module mv m) (slice_get h.blocks b) label env)) o.next
            ∙ ap (λ (ps : List Phi). standing spot (with_all env (phi_values (moved_module mv m) env label ps))) (moves.phis (position_of f t) ∙ o.unphied)
            ∙ ap (λ (ps : List Phi). standing spot (grown (mv.more f) (with_all s.top.values (phi_values m s.top.values before ps)))) (sym o.unphied)

    -- a block is entered directly, or over the block of an edge
    pub enters_near : s.outcome ≡ Outcome.Running → (t l : ℕ) → IsDirect (function_at m s.top.func) (mv.to (function_at m s.top.func)) (mv.spot (function_at m s.top.func)) t l ⊎ IsOver (function_at m s.top.func) (mv.to (function_at m s.top.func)) (mv.spot (function_at m s.top.func)) t l → IsNear mv m layouts answers (Ok (enter_block g.given s t)) (Ok (enter_block k.given (moved_state mv m s) l))
    enters_near running t l (inl d) = inl (enters_direct t l d.to)
    enters_near running t l (inr o) =
        subst (λ (u : State). Near (Ok (enter_block g.given s t)) (Ok u)) (sym (enters_as l ∙ ap (λ (b : Option Block). standing (position_of h l) (values_in (moved_module mv m) b (label_of (slice_get h.blocks from)) env)) o.got))
        (inr (enters_over t l o running))

  -- ---- branches

  module _ (s : State) (moves : Moves mv (function_at m s.top.func)) (phis : HasNamedPhis (function_at m s.top.func)) (room : length s.top.values ≡ length (function_at m s.top.func).names) (own : IsOwnedBy s (own_instance s)) (running : s.outcome ≡ Outcome.Running) (t l : ℕ) (goes : Goes (function_at m s.top.func) (mv.to (function_at m s.top.func)) (mv.spot (function_at m s.top.func)) (point_of s) t l) where
    abbrev saves : List Window → List Point
    saves ws = map (λ w. w.save) ws

    abbrev AreLeftHere : List Window → List Window → Type 0
    AreLeftHere ws vs = saves vs ≡ map (moved_point mv (function_at m s.top.func)) (saves ws)

    tested : (a b : Bool) (x u : State) → b ≡ a → Near (Ok x) (Ok u) → Near (ok_if a Cause.State x) (ok_if b Cause.State u)
    tested true true x u e n = n
    tested true false x u e n = absurd (cc)
    tested false true x u e n = absurd (cc)
    tested false false x u e n = refl

    leave_near : (o : Option (ℕ × Instance)) → IsOwnedBy s o → (ws vs : List Window) → AreLeftHere ws vs → Near
        (and_then (found Cause.State o) (λ (y : ℕ × Instance). ok_if (list_all (may_leave (length s.below) y.1) ws) Cause.State (enter_block g.given (with_left (with_status s y.0 y.1 Status.Running) false) t)))
        (and_then (found Cause.State (with_number mv m o)) (λ (y : ℕ × Instance). ok_if (list_all (may_leave (length (map (moved_activation mv m) s.below)) y.1) vs) Cause.State (enter_block k.given (with_left (with_status (moved_state mv m s) y.0 y.1 Status.Running) false) l)))
    leave_near None e ws vs all = refl
    leave_near (Some y) e ws vs all =
        tested (list_all (may_leave (length s.below) y.1) ws) (list_all (may_leave (length (map (moved_activation mv m) s.below)) (moved_instance mv m y.1)) vs)
        (enter_block g.given (with_left (with_status s y.0 y.1 Status.Running) false) t)
        (enter_block k.given (with_left (with_status (moved_state mv m s) y.0 (moved_instance mv m y.1) Status.Running) false) l)
        (ap (λ (n : ℕ). list_all (may_leave n (moved_instance mv m y.1)) vs) (length-map s.below (moved_activation mv m)) ∙ may_leave_moved mv m (function_at m s.top.func) moves.spots (length s.below) y.1 (ap (function_at m) e) ws vs all)
        (subst (λ (x : State). Near (Ok (enter_block g.given (with_left (with_status s y.0 y.1 Status.Running) false) t)) (Ok (enter_block k.given (with_left x false) l))) (sym (with_instance_moved mv m s y.0 (record y.1 { status = Status.Running })))
        (enters_near (with_left (with_status s y.0 y.1 Status.Running) false) moves phis room running t l goes.way))

    branch_near : (ws vs : List Window) → AreLeftHere ws vs → Near (branch_leaving g.given s t ws) (branch_leaving k.given (moved_state mv m s) l vs)
    branch_near [] [] all = enters_near s moves phis room running t l goes.way
    branch_near [] (v ∷ vs) all = absurd (cc)
    branch_near (w ∷ ws) [] all = absurd (cc)
    branch_near (w ∷ ws) (v ∷ vs) all =
        subst (λ (o : Option (ℕ × Instance)). Near (branch_leaving g.given s t (w ∷ ws)) (and_then (found Cause.State o) (λ (y : ℕ × Instance). ok_if (list_all (may_leave (length (map (moved_activation mv m) s.below)) y.1) (v ∷ vs)) Cause.State (enter_block k.given (with_left (with_status (moved_state mv m s) y.0 y.1 Status.Running) false) l)))) (sym (own_moved mv m s))
        (leave_near (own_instance s) own (w ∷ ws) (v ∷ vs) all)

    windows_left : AreLeftHere (left_windows g.given s t) (left_windows k.given (moved_state mv m s) l)
    windows_left =
        ap (λ (x : Function). saves (filter (leaves (moved_point mv f (point_of s)) (entry_point x l)) (own_facts k.given (moved_state mv m s)).windows)) (function_moved mv kinds m s.top.func)
        ∙ ap (λ (x : Facts). saves (filter (leaves (moved_point mv f (point_of s)) (entry_point (mv.to f) l)) x.windows)) (facts_moved mv kinds m s.top.func)
        ∙ goes.left
        ∙ ap (λ (x : Facts). map (moved_point mv f) (saves (filter (leaves (point_of s) (entry_point f t)) x.windows))) (sym (facts_are m s.top.func))
      where
        f : Function
        f = function_at m s.top.func

    -- a branch leaves what it left, and goes where it went, or to the edge's block
    pub go_to_near : IsNear mv m layouts answers (go_to g.given s t) (go_to k.given (moved_state mv m s) l)
    go_to_near = branch_near (left_windows g.given s t) (left_windows k.given (moved_state mv m s) l) windows_left
