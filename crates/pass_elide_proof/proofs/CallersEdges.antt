-- Callers of instances stay on the stack where the topmost activation goes on over an edge.
use Rattle.std.proofs.Common.{◌≡◌, ◌<◌, ◌+◌, ◌∙◌, ◌&&◌, ◌||◌, ◌==◌, ◌∷◌, ◌⊎◌, [], ap, arith, Bool, false, inl, inr, ⊎_elim, List, length, map, Option, refl, subst, suc, sym, true, zero, ℕ, if◌then◌else◌}
use Rattle.std.specs.List.{list_all}
use Rattle.std.specs.Prelude.{IsTrue, None, Some, slice_get, slice_set}
use Rattle.elide_shape.specs.Edges.{edges_by, edges_of, edges_out}
use Rattle.elide_sites.specs.Destroyed.{IsOn, Step}
use Rattle.elide_sites.specs.Sites.{is_destroy_of}
use Rattle.elide_sites.specs.declared.destroyed.Way.{Way}
use Rattle.pass_elide_proof.proofs.Callees.{same_place}
use Rattle.pass_elide_proof.proofs.CallersBlocks.{KeepsStacks, frames_kept, stacks_same}
use Rattle.pass_elide_proof.proofs.CallersInstr.{Keep, or_keeps, was_itself}
use Rattle.pass_elide_proof.proofs.CallersOnward.{goes_onward}
use Rattle.pass_elide_proof.proofs.GivingMarkers.{plain_put}
use Rattle.pass_elide_proof.proofs.LeftWindows.{own_there}
use Rattle.pass_elide_proof.proofs.Modules.{finds_alike}
use Rattle.pass_elide_proof.proofs.PhiValues.{each_as, phis_elsewhere}
use Rattle.pass_elide_proof.proofs.Standing.{has_code}
use Rattle.pass_elide_proof.specs.Callers.{GoesOnAs, MovesOn, StandsAtEnd, WasBefore}
use Rattle.pass_elide_proof.specs.Edges.{phis_at}
use Rattle.pass_elide_proof.specs.Elision.{Elision, elided, elided_code, function_in, function_in_elided, rooms}
use Rattle.pass_elide_proof.specs.Invariant.{HaveCallers, IsDestroying}
use Rattle.pass_elide_proof.specs.Places.{front_at, own_at}
use Rattle.pass_proofs.proofs.ir_laws.facts.Lists.{set_at}
use Rattle.pass_proofs.proofs.ir_laws.facts.Truth.{itself, not_below}
use Rattle.pass_proofs.proofs.ir_laws.paths.renamed.Outside.{where_none}
use Rattle.pass_proofs.proofs.ir_laws.paths.source_rules.Locals.{listed_left, listed_right}
use Rattle.pass_proofs.specs.flow_blocks.Kinds.{kind_of}
use Rattle.pass_proofs.specs.flow_blocks.declared.kinds.EdgeKind.{EdgeKind}
use Rattle.pass_proofs.specs.flow_solver.Paths.{IsListed}
use Rattle.pass_proofs.specs.ir_base.declared.cause.Cause.{Cause}
use Rattle.pass_proofs.specs.ir_base.declared.outcome.Word.{Word}
use Rattle.pass_proofs.specs.ir_laws.facts.renamed.Regular.{passes}
use Rattle.pass_proofs.specs.ir_model.Names.{position_of}
use Rattle.pass_proofs.specs.ir_model.declared.instr.Case.{Case}
use Rattle.pass_proofs.specs.ir_model.declared.instr.Phi.{Phi}
use Rattle.pass_proofs.specs.ir_model.declared.instr.Terminator.{Terminator}
use Rattle.pass_proofs.specs.ir_model.declared.module.Block.{Block}
use Rattle.pass_proofs.specs.ir_model.declared.module.Function.{Function}
use Rattle.pass_proofs.specs.ir_paths.Paths.{entry_point, has_point, nexts, nexts_in, same_point, targets}
use Rattle.pass_proofs.specs.ir_paths.Windows.{instr_at, instr_in}
use Rattle.pass_proofs.specs.ir_paths.declared.point.Point.{Point}
use Rattle.pass_proofs.specs.ir_paths.declared.point.Window.{Window}
use Rattle.pass_proofs.specs.run_framed.Framed.{framed_act, framed_advance, framed_context, framed_next, framed_step}
use Rattle.pass_proofs.specs.run_laws.changed.Changed.{Each}
use Rattle.pass_proofs.specs.run_memory.declared.pointer.Value.{Value}
use Rattle.pass_proofs.specs.run_source.Source.{branch_leaving, enter_block, left_windows, may_leave}
use Rattle.pass_proofs.specs.run_source.State.{function_of, is_finished, is_suspended, or_undefined, own_instance, with_left, with_status, work_of}
use Rattle.pass_proofs.specs.run_source.declared.state.Activation.{Activation}
use Rattle.pass_proofs.specs.run_source.declared.state.Instance.{Instance}
use Rattle.pass_proofs.specs.run_source.declared.state.Mode.{Mode}
use Rattle.pass_proofs.specs.run_source.declared.state.State.{State}
use Rattle.pass_proofs.specs.run_source.declared.state.Status.{Status}
use Rattle.pass_proofs.specs.run_step.Results.{and_then, found, ok_if}
use Rattle.pass_proofs.specs.run_step.Step.{Action, AtTerm, Context, Fetched, GoTo, Work, branch, fetch, is_word, label_of, phis_of, switch, target_of, term_action}
use Rattle.pass_proofs.specs.run_step.Values.{arg_value, value_in}

-- ---- where a terminator goes

same_label : (a b : ℕ) → GoTo a ≡ GoTo b → a ≡ b
same_label a b e = cc

-- the label is one of its targets
module _ (c : Context) (w : Work) (label : ℕ) where
  target_listed : (x : Word) (default : ℕ) (cases : List Case)
      → IsListed (target_of c.code x default cases) (default ∷ map (λ k. k.target) cases)
  target_listed x default [] = inl refl
  target_listed x default (k ∷ cases) =
      on (is_word x (arg_value c.code [] k.arg)) (target_listed x default cases)
    where
      on : (b : Bool) → IsListed (target_of c.code x default cases) (default ∷ map (λ k. k.target) cases)
          → IsListed (if b then k.target else target_of c.code x default cases)
          (default ∷ k.target ∷ map (λ k. k.target) cases)
      on true rest = inr (inl refl)
      on false (inl same) = inl same
      on false (inr rest) = inr (inr rest)

  branch_listed : (v : Value) (one other : ℕ) → branch v one other ≡ GoTo label → IsListed label (one ∷ other ∷ [])
  branch_listed (Value.Int x) one other goes = on (x.bits == 1) goes
    where
      on : (b : Bool) → GoTo (if b then one else other) ≡ GoTo label → IsListed label (one ∷ other ∷ [])
      on true goes = inl (sym (same_label one label goes))
      on false goes = inr (inl (sym (same_label other label goes)))
  branch_listed Value.Poison one other goes = absurd (cc)
  branch_listed (Value.Ptr p) one other goes = absurd (cc)

  switch_listed : (v : Value) (default : ℕ) (cases : List Case) → switch c.code v default cases ≡ GoTo label
      → IsListed label (default ∷ map (λ k. k.target) cases)
  switch_listed (Value.Int x) default cases goes =
      subst (λ (l : ℕ). IsListed l (default ∷ map (λ k. k.target) cases))
      (same_label (target_of c.code x default cases) label goes) (target_listed x default cases)
  switch_listed Value.Poison default cases goes = absurd (cc)
  switch_listed (Value.Ptr p) default cases goes = absurd (cc)

  pub goes_listed : (t : Terminator) → term_action c w t ≡ GoTo label → IsListed label (targets t)
  goes_listed (Terminator.Jump l) goes = inl (sym (same_label l label goes))
  goes_listed (Terminator.Branch x one other) goes = branch_listed _ one other goes
  goes_listed (Terminator.Switch arg default cases) goes =
      switch_listed (arg_value c.code w.values arg) default cases goes
  goes_listed (Terminator.Ret None) goes = absurd (cc)
  goes_listed (Terminator.Ret (Some arg)) goes = absurd (cc)
  goes_listed Terminator.Unreachable goes = absurd (cc)

-- ---- edges

module _ (f : Function) where
  out_listed : (from at : ℕ) (ls : List ℕ) (label : ℕ) → IsListed label ls
      → (kind : EdgeKind) × IsListed (record { from = from; to = position_of f label; kind = kind })
      (edges_out f from at ls)
  out_listed from at [] label h = absurd h
  out_listed from at (l ∷ ls) label (inl same) =
      (kind_of f from at, inl (λ j. record { from = from; to = position_of f (same j); kind = kind_of f from at }))
  out_listed from at (l ∷ ls) label (inr rest) =
      let more = out_listed from (at + 1) ls label rest in (more.0, inr more.1)

  by_listed : (from : ℕ) (bs : List Block) (block : ℕ) (b : Block) (label : ℕ) → slice_get bs block ≡ Some b
      → IsListed label (targets b.term) → (at : ℕ) → at ≡ from + block
      → (kind : EdgeKind) × IsListed (record { from = at; to = position_of f label; kind = kind })
      (edges_by f from bs)
  by_listed from [] block b label there listed at is = absurd (cc)
  by_listed from (x ∷ bs) zero b label there listed at is =
      let same : x ≡ b = one x b there in
      let here : from ≡ at = omega (arith, is) in
      let out = out_listed from 0 (targets x.term) label
      (subst (λ (y : Block). IsListed label (targets y.term)) (sym same) listed) in (
        out.0,
        subst (λ (n : ℕ). IsListed (record { from = n; to = position_of f label; kind = out.0 })
            (edges_by f from (x ∷ bs))) here (listed_left _ (edges_out f from 0 (targets x.term))
            (edges_by f (from + 1) bs) out.1),
      )
    where
      one : (x y : Block) → Some x ≡ Some y → x ≡ y
      one x y e = cc
  by_listed from (x ∷ bs) (suc block) b label there listed at is =
      let more = by_listed (from + 1) bs block b label there listed at (omega (arith, is)) in
      (more.0, listed_right _ (edges_out f from 0 (targets x.term)) (edges_by f (from + 1) bs) more.1)

  pub edge_listed : (block : ℕ) (b : Block) (label : ℕ) → slice_get f.blocks block ≡ Some b
      → IsListed label (targets b.term)
      → (kind : EdgeKind) × IsListed (record { from = block; to = position_of f label; kind = kind }) (edges_of f)
  unfolding edges_of
  edge_listed block b label there listed = by_listed 0 f.blocks block b label there listed block (omega arith)

-- ---- the activation over an edge

past : {A : Type 0} (xs : List A) → slice_get xs (length xs) ≡ None
past [] = refl
past (x ∷ xs) = past xs

has_listed : (f : Function) (ls : List ℕ) (label : ℕ) → IsListed label ls
    → has_point (map (entry_point f) ls) (entry_point f label) ≡ true
has_listed f [] label h = absurd h
has_listed f (l ∷ ls) label (inl same) =
    (λ j. ((position_of f label == position_of f (sym same j)) && (0 == 0))
    || has_point (map (entry_point f) ls) (entry_point f label))
    ∙ (λ j. (itself (position_of f label) j && true) || has_point (map (entry_point f) ls) (entry_point f label))
has_listed f (l ∷ ls) label (inr rest) =
    right (same_point (entry_point f label) (entry_point f l)) _ (has_listed f ls label rest)
  where
    right : (a b : Bool) → b ≡ true → (a || b) ≡ true
    right true b h = refl
    right false b h = h

-- an activation of a destroyed instance stays on such a path
module _ (e : Elision) (c d : Activation) (block : ℕ) (b : Block) (label : ℕ) (func : d.func ≡ c.func)
    (result : d.result ≡ c.result) (mode : d.mode ≡ c.mode) (instance : d.instance ≡ c.instance)
    (left : c.has_left ≡ false → d.has_left ≡ false) (there : slice_get (function_in e c.func).blocks c.block ≡ Some b)
    (listed : IsListed label (targets b.term)) (to : d.block ≡ position_of (function_in e c.func) label) where
  edge_destroys : (y : Instance) (number : ℕ) → IsDestroying e y number c → IsDestroying e y number d
  edge_destroys y number h = record {
    func = func ∙ h.func;
    instance = instance ∙ h.instance;
    stays = left h.stays;
    block = d.block;
    entered = entered h.entered;
    way = λ resumed. by resumed h.entered;
    ahead = λ from l is. h.ahead from l (sym mode ∙ is);
  }
    where
      entered : ((c.mode ≡ Mode.Resumed) × (c.block ≡ h.block))
          ⊎ ((from : ℕ) × (l : ℕ) × (c.mode ≡ Mode.Entering from l))
          → ((d.mode ≡ Mode.Resumed) × (d.block ≡ d.block))
          ⊎ ((from : ℕ) × (l : ℕ) × (d.mode ≡ Mode.Entering from l))
      entered (inl both) = inl (mode ∙ both.0, refl)
      entered (inr entering) = inr (entering.0, entering.1, mode ∙ entering.2)

      same : c.func ≡ y.coroutine
      same = h.func

      edge : (kind : EdgeKind) × IsListed (record {
        from = c.block;
        to = position_of (function_in e c.func) label;
        kind = kind;
      })
          (edges_of (function_in e c.func))
      edge = edge_listed (function_in e c.func) c.block b label there listed

      by : d.mode ≡ Mode.Resumed → ((c.mode ≡ Mode.Resumed) × (c.block ≡ h.block))
          ⊎ ((from : ℕ) × (l : ℕ) × (c.mode ≡ Mode.Entering from l))
          → IsOn Way.Destroyed (function_in e y.coroutine) d.block
      by resumed (inr entering) = absurd (let no : Mode.Resumed ≡ Mode.Entering entering.0 entering.1
          = sym resumed ∙ (mode ∙ entering.2) in cc)
      by resumed (inl both) =
          let on : IsOn Way.Destroyed (function_in e c.func) c.block
          = subst (λ (p : ℕ × ℕ). IsOn Way.Destroyed (function_in e p.0) p.1) (λ j. (sym same j, sym both.1 j))
          (h.way both.0) in
          subst (λ (p : ℕ × ℕ). IsOn Way.Destroyed (function_in e p.0) p.1) (λ j. (same j, sym to j))
          (Step (record {
            from = c.block;
            to = position_of (function_in e c.func) label;
            kind = edge.0;
          }) on edge.1 refl)

  pub edge_goes : GoesOnAs e c d
  edge_goes = record {
    func = func;
    result = result;
    instance = λ number is. instance ∙ is;
    mode = λ frame is. mode ∙ is;
    given = λ frame is. sym mode ∙ is;
    begun = λ none. sym instance ∙ none;
    destroys = edge_destroys;
  }

-- ---- a status that changes

pub status_was : (xs : List Instance) (i : ℕ) (x z : Instance) → slice_get xs i ≡ Some x → z.coroutine ≡ x.coroutine
    → z.block ≡ x.block → z.start ≡ x.start → (is_finished z.status ≡ false → is_finished x.status ≡ false)
    → (number : ℕ) (y : Instance) → slice_get (slice_set xs i z) number ≡ Some y → WasBefore xs number y
status_was xs i x z there coroutine block start going number y at =
    ⊎_elim
    (λ here. record {
      before = x;
      there = ap (slice_get xs) here.0 ∙ there;
      coroutine = ap (λ (w : Instance). w.coroutine) here.1 ∙ coroutine;
      block = ap (λ (w : Instance). w.block) here.1 ∙ block;
      start = ap (λ (w : Instance). w.start) here.1 ∙ start;
      going = λ is. going (ap (λ (w : Instance). is_finished w.status) (sym here.1) ∙ is);
    })
    (λ other. was_itself xs number y other)
    (set_at xs i z number y at)

-- ---- the step

module _ (e : Elision) (t : State) (label : ℕ) (k : StandsAtEnd e t label) where
  abbrev f : Function
  f = function_in e t.top.func

  abbrev g : Function
  g = function_in_elided e t.top.func

  listed : IsListed label (targets k.block.term)
  listed = goes_listed (framed_context (elided e) t) (work_of t) label k.block.term k.goes

  labels : position_of g label ≡ position_of f label
  labels =
      ap (λ (h : Function). position_of h label) ((finds_alike e).functions t.top.func)
      ∙ (has_code (rooms e t.top.func) f).labels label

  pub phis_same : (block : ℕ) → phis_of (slice_get g.blocks block) ≡ phis_at f block
  phis_same block =
      ap (λ (h : Function). phis_of (slice_get h.blocks block)) ((finds_alike e).functions t.top.func)
      ∙ (has_code (rooms e t.top.func) f).phis block

  pub there : fetch (function_of (elided e).given t) t.top.block t.top.at ≡ AtTerm k.block.term
  there =
      (λ j. fetch g t.top.block (k.stands j))
      ∙ (ap (λ (h : Function). fetch h t.top.block (own_at (rooms e t.top.func) f t.top.block (length k.block.instrs)))
      ((finds_alike e).functions t.top.func)
      ∙ (has_code (rooms e t.top.func) f).term t.top.block k.block k.has_block)

  abbrev here : Point
  here = record { block = t.top.block; at = length k.block.instrs }

  abbrev next : Point
  next = record { block = position_of f label; at = 0 }

  none_here : instr_at f here ≡ None
  none_here = ap (λ (o : Option Block). instr_in o (length k.block.instrs)) k.has_block ∙ past k.block.instrs

  leads : IsTrue (has_point (nexts f here) next)
  leads =
      ap (λ (o : Option Block). has_point (nexts_in f here o) next) k.has_block
      ∙ ((λ j. has_point (if not_below (length k.block.instrs) j
      then record { block = t.top.block; at = length k.block.instrs + 1 } ∷ []
      else if length k.block.instrs == length k.block.instrs then map (entry_point f) (targets k.block.term) else [])
      next)
      ∙ ((λ j. has_point (if itself (length k.block.instrs) j then map (entry_point f) (targets k.block.term) else [])
      next)
      ∙ has_listed f (targets k.block.term) label listed))

  -- the state behind the edge, by what is left
  module _ (u : State) (below : u.below ≡ t.below) (memory : u.world.memory ≡ t.world.memory)
      (instances : (number : ℕ) (y : Instance) → slice_get u.instances number ≡ Some y
      → WasBefore t.instances number y) (left : Bool) (stays : t.top.has_left ≡ false → left ≡ false)
      (top : u.top ≡ record (enter_block (elided e).given t label).top { has_left = left }) where
    abbrev d : Activation
    d = record (enter_block (elided e).given t label).top { has_left = left }

    to : d.block ≡ position_of f label
    to = labels

    values : (v : ℕ) → ((block : ℕ) → Each (λ (x : Phi). x.result ≡ v → ⊥) (phis_at f block))
        → value_in d.values v ≡ value_in t.top.values v
    values v apart =
        phis_elsewhere (elided_code e) t.top.values (label_of (slice_get g.blocks t.top.block))
        (phis_of (slice_get g.blocks (position_of g label))) t.top.values v
        (subst (λ (ps : List Phi). Each (λ (x : Phi). x.result ≡ v → ⊥) ps) (sym (phis_same (position_of g label)))
        (apart (position_of g label)))

    moves : f.coroutine ≡ false → MovesOn e t.top d here next
    moves plain = record {
      stands = λ r at_r. (
        sym at_r.block,
        same_place e t.top.func (plain_put e t.top.func plain) t.top.block r.at (length k.block.instrs)
            ((λ j. front_at (rooms e t.top.func) f (at_r.block j) r.at) ∙ (sym at_r.at ∙ k.stands)),
      );
      behind = record { block = to; at = refl };
      next = leads;
      handles = λ call i v is gives apart. values v ((k.handles plain).once.phis call i v is gives);
      added = λ v le. values v (λ block.
          each_as (λ (x : Phi). x.result < length f.names) (λ (x : Phi). x.result ≡ v → ⊥)
          (λ x lt same. absurd (omega (arith, lt, same, le))) (phis_at f block)
          ((k.handles plain).once.phi_names block));
      slots = λ z has. has;
    }

    pub edge_keeps : HaveCallers e t → HaveCallers e u
    edge_keeps h =
        goes_onward e t u (record {
          below = below;
          instances = instances;
          frames = frames_kept t u (subst (KeepsStacks t.world.memory) (sym memory) (stacks_same t.world.memory));
          goes = subst (GoesOnAs e t.top) (sym top)
              (edge_goes e t.top d t.top.block k.block label refl refl refl refl stays k.has_block listed to);
          from = here;
          to = next;
          moves = λ plain. subst (λ (x : Activation). MovesOn e t.top x here next) (sym top) (moves plain);
          still = λ plain v. where_none (is_destroy_of v) f here (ap (passes (is_destroy_of v)) none_here);
          destroyed = λ plain. (k.handles plain).destroyed;
        }) h

  module _ (h : HaveCallers e t) where
    abbrev after : ℕ → Instance → State
    after i x = enter_block (elided e).given (with_left (with_status t i x Status.Running) false) label

    -- on a leaving edge the instance, which was Suspended, runs again
    leaves : (w : Window) (ws : List Window) → Keep e (branch_leaving (elided e).given t label (w ∷ ws))
    leaves w ws = on (own_instance t) refl
      where
        suspended : (a b : Bool) → (a && b) ≡ true → a ≡ true
        suspended true b is = refl
        suspended false b is = absurd (cc)

        going : (z : Status) → is_suspended z ≡ true → is_finished z ≡ false
        going Status.Running is = absurd (cc)
        going (Status.Suspended p values) is = refl
        going Status.Finished is = absurd (cc)

        if_may : (i : ℕ) (x : Instance) → own_instance t ≡ Some (i, x) → (b : Bool)
            → list_all (may_leave (length t.below) x) (w ∷ ws) ≡ b → Keep e (ok_if b Cause.State (after i x))
        if_may i x own false may = tt
        if_may i x own true may =
            edge_keeps (after i x) refl refl
            (status_was t.instances i x (record x { status = Status.Running }) (own_there t i x own).1 refl refl refl
            (λ is. going x.status (suspended (is_suspended x.status) _
            (suspended (may_leave (length t.below) x w) _ may))))
            false (λ is. refl) refl h

        on : (o : Option (ℕ × Instance)) → own_instance t ≡ o → Keep e (and_then (found Cause.State o)
            (λ (y : ℕ × Instance). ok_if (list_all (may_leave (length t.below) y.1) (w ∷ ws)) Cause.State
            (enter_block (elided e).given (with_left (with_status t y.0 y.1 Status.Running) false) label)))
        on None own = tt
        on (Some y) own =
            if_may y.0 y.1 own (list_all (may_leave (length t.below) y.1) (w ∷ ws)) refl

    enters : (ws : List Window) → Keep e (branch_leaving (elided e).given t label ws)
    enters [] =
        edge_keeps (enter_block (elided e).given t label) refl refl (was_itself t.instances) t.top.has_left
        (λ is. is) refl h
    enters (w ∷ ws) = leaves w ws

    pub edges_keep : HaveCallers e (framed_step (elided e) t)
    edges_keep =
        subst (HaveCallers e)
        (sym (ap (framed_advance (elided e) t) k.runs
        ∙ (ap (λ (x : Fetched). or_undefined (elided e).given t (framed_next (elided e) t x)) there
        ∙ ap (λ (a : Action). or_undefined (elided e).given t (framed_act (elided e) t a)) k.goes)))
        (or_keeps e t (branch_leaving (elided e).given t label (left_windows (elided e).given t label)) h
        (enters (left_windows (elided e).given t label)))
