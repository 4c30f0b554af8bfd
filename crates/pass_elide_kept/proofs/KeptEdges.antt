-- Keepers stay where the topmost activation goes on over an edge.
use Rattle.std.proofs.Common.{◌≡◌, ◌+◌, ◌<◌, ◌∙◌, ◌&&◌, ◌||◌, ◌==◌, ◌∷◌, [], ap, arith, Bool, Err, false, inl, inr, List, length, map, Ok, Option, refl, Result, subst, sym, true, ℕ, if◌then◌else◌}
use Rattle.std.specs.List.{list_all}
use Rattle.std.specs.Prelude.{IsTrue, None, Some, slice_get}
use Rattle.elide_sites.specs.Sites.{is_destroy_of}
use Rattle.pass_elide_kept.proofs.Keepers.{keeper_moves, kept_top}
use Rattle.pass_elide_kept.proofs.KeptRows.{all_renewed, renewed_on, rows_keep}
use Rattle.pass_elide_kept.specs.Keepers.{IsRenewed, KeepersIn}
use Rattle.pass_elide_kept.specs.Kept.{HasKeeper, IsKeptIn}
use Rattle.pass_elide_proof.proofs.Callees.{same_place}
use Rattle.pass_elide_proof.proofs.CallersEdges.{edge_goes, goes_listed, phis_same, status_was, there}
use Rattle.pass_elide_proof.proofs.CallersInstr.{was_itself}
use Rattle.pass_elide_proof.proofs.GivingMarkers.{plain_put}
use Rattle.pass_elide_proof.proofs.LeftWindows.{own_there}
use Rattle.pass_elide_proof.proofs.Modules.{finds_alike}
use Rattle.pass_elide_proof.proofs.PhiValues.{each_as, phis_elsewhere}
use Rattle.pass_elide_proof.proofs.Standing.{has_code}
use Rattle.pass_elide_proof.specs.Callers.{GoesOnAs, MovesOn, StandsAtEnd, WasBefore}
use Rattle.pass_elide_proof.specs.Edges.{phis_at}
use Rattle.pass_elide_proof.specs.Elision.{Elision, elided, elided_code, function_in, function_in_elided, rooms}
use Rattle.pass_elide_proof.specs.Places.{front_at}
use Rattle.pass_elide_proof.proofs.pass_proofs.ir_laws.facts.Truth.{itself, not_below}
use Rattle.pass_elide_proof.proofs.pass_proofs.ir_laws.paths.renamed.Outside.{where_none}
use Rattle.pass_elide_proof.specs.pass_proofs.flow_solver.Paths.{IsListed}
use Rattle.pass_elide_proof.specs.pass_proofs.ir_base.declared.cause.Cause.{Cause}
use Rattle.pass_elide_proof.specs.pass_proofs.ir_laws.facts.renamed.Regular.{passes}
use Rattle.pass_elide_proof.specs.pass_proofs.ir_model.Names.{position_of}
use Rattle.pass_elide_proof.specs.pass_proofs.ir_model.declared.instr.Phi.{Phi}
use Rattle.pass_elide_proof.specs.pass_proofs.ir_model.declared.module.Block.{Block}
use Rattle.pass_elide_proof.specs.pass_proofs.ir_model.declared.module.Function.{Function}
use Rattle.pass_elide_proof.specs.pass_proofs.ir_parts.Contents.{result_of}
use Rattle.pass_elide_proof.specs.pass_proofs.ir_paths.Paths.{entry_point, has_point, nexts, nexts_in, same_point, targets}
use Rattle.pass_elide_proof.specs.pass_proofs.ir_paths.Windows.{instr_at, instr_in}
use Rattle.pass_elide_proof.specs.pass_proofs.ir_paths.declared.point.Point.{Point}
use Rattle.pass_elide_proof.specs.pass_proofs.ir_paths.declared.point.Window.{Window}
use Rattle.pass_elide_proof.specs.pass_proofs.run_agreement.Machines.{IsFine}
use Rattle.pass_elide_proof.specs.pass_proofs.run_framed.Framed.{framed_act, framed_advance, framed_context, framed_next, framed_step, is_given}
use Rattle.pass_elide_proof.specs.pass_proofs.run_laws.changed.Changed.{Each}
use Rattle.pass_elide_proof.specs.pass_proofs.run_source.Source.{branch_leaving, enter_block, left_windows, may_leave}
use Rattle.pass_elide_proof.specs.pass_proofs.run_source.State.{is_finished, is_suspended, or_undefined, own_instance, with_left, with_status, work_of}
use Rattle.pass_elide_proof.specs.pass_proofs.run_source.declared.state.Activation.{Activation}
use Rattle.pass_elide_proof.specs.pass_proofs.run_source.declared.state.Instance.{Instance}
use Rattle.pass_elide_proof.specs.pass_proofs.run_source.declared.state.State.{State}
use Rattle.pass_elide_proof.specs.pass_proofs.run_source.declared.state.Status.{Status}
use Rattle.pass_elide_proof.specs.pass_proofs.run_step.Results.{and_then, found, ok_if}
use Rattle.pass_elide_proof.specs.pass_proofs.run_step.Step.{Action, Fetched, label_of, phis_of}
use Rattle.pass_elide_proof.specs.pass_proofs.run_step.Values.{value_in}

-- ---- points behind the end of a block

past : {A : Type 0} (xs : List A) → slice_get xs (length xs) ≡ None
past [] = refl
past (x ∷ xs) = past xs

has_listed : (f : Function) (ls : List ℕ) (label : ℕ) → IsListed label ls
    → has_point (map (entry_point f) ls) (entry_point f label) ≡ true
has_listed f [] label h = absurd h
has_listed f (l ∷ ls) label (inl same) =
    (λ j. ((position_of f label == position_of f (sym same j)) && (0 == 0))
    || has_point (map (entry_point f) ls) (entry_point f label))
    ∙ (λ j. (itself (position_of f label) j && true) || has_point (map (entry_point f) ls) (entry_point f label))
has_listed f (l ∷ ls) label (inr rest) =
    right (same_point (entry_point f label) (entry_point f l)) _ (has_listed f ls label rest)
  where
    right : (a b : Bool) → b ≡ true → (a || b) ≡ true
    right true b h = refl
    right false b h = h

-- ---- parts of a step

abbrev pub KeepersIf : Elision → State → Result State Cause → Type 0
KeepersIf e z (Err cause) = Unit {0}
KeepersIf e z (Ok u) = KeepersIn e z u

pub or_kept : (e : Elision) (z t : State) (r : Result State Cause)
    → IsFine (or_undefined (elided e).given t r).outcome → KeepersIf e z r
    → KeepersIn e z (or_undefined (elided e).given t r)
or_kept e z t (Err cause) fine k = absurd fine
or_kept e z t (Ok u) fine k = k

-- ---- the edge

module _ (e : Elision) (z t : State) (label : ℕ) (k : StandsAtEnd e t label) (h : KeepersIn e z t) where
  abbrev f : Function
  f = function_in e t.top.func

  abbrev g : Function
  g = function_in_elided e t.top.func

  listed : IsListed label (targets k.block.term)
  listed = goes_listed (framed_context (elided e) t) (work_of t) label k.block.term k.goes

  labels : position_of g label ≡ position_of f label
  labels =
      ap (λ (h : Function). position_of h label) ((finds_alike e).functions t.top.func)
      ∙ (has_code (rooms e t.top.func) f).labels label

  abbrev here : Point
  here = record { block = t.top.block; at = length k.block.instrs }

  abbrev next : Point
  next = record { block = position_of f label; at = 0 }

  none_here : instr_at f here ≡ None
  none_here = ap (λ (o : Option Block). instr_in o (length k.block.instrs)) k.has_block ∙ past k.block.instrs

  leads : IsTrue (has_point (nexts f here) next)
  leads =
      ap (λ (o : Option Block). has_point (nexts_in f here o) next) k.has_block
      ∙ ((λ j. has_point (if not_below (length k.block.instrs) j
      then record { block = t.top.block; at = length k.block.instrs + 1 } ∷ []
      else if length k.block.instrs == length k.block.instrs then map (entry_point f) (targets k.block.term) else [])
      next)
      ∙ ((λ j. has_point (if itself (length k.block.instrs) j then map (entry_point f) (targets k.block.term) else [])
      next)
      ∙ has_listed f (targets k.block.term) label listed))

  module _ (u : State) (below : u.below ≡ t.below)
      (memory : u.world.memory ≡ t.world.memory)
      (instances : (number : ℕ) (y : Instance) → slice_get u.instances number ≡ Some y
      → WasBefore t.instances number y) (left : Bool) (stays : t.top.has_left ≡ false → left ≡ false)
      (top : u.top ≡ record (enter_block (elided e).given t label).top { has_left = left }) where
    abbrev d : Activation
    d = record (enter_block (elided e).given t label).top { has_left = left }

    values : (v : ℕ) → ((block : ℕ) → Each (λ (x : Phi). x.result ≡ v → ⊥) (phis_at f block))
        → value_in d.values v ≡ value_in t.top.values v
    values v apart =
        phis_elsewhere (elided_code e) t.top.values (label_of (slice_get g.blocks t.top.block))
        (phis_of (slice_get g.blocks (position_of g label))) t.top.values v
        (subst (λ (ps : List Phi). Each (λ (x : Phi). x.result ≡ v → ⊥) ps)
        (sym (phis_same e t label k (position_of g label))) (apart (position_of g label)))

    moves : f.coroutine ≡ false → MovesOn e t.top d here next
    moves plain = record {
      stands = λ r at_r. (
        sym at_r.block,
        same_place e t.top.func (plain_put e t.top.func plain) t.top.block r.at (length k.block.instrs)
            ((λ j. front_at (rooms e t.top.func) f (at_r.block j) r.at) ∙ (sym at_r.at ∙ k.stands)),
      );
      behind = record { block = labels; at = refl };
      next = leads;
      handles = λ call i v is gives apart. values v ((k.handles plain).once.phis call i v is gives);
      added = λ v le. values v (λ block.
          each_as (λ (x : Phi). x.result < length f.names) (λ (x : Phi). x.result ≡ v → ⊥)
          (λ x lt same. absurd (omega (arith, lt, same, le))) (phis_at f block)
          ((k.handles plain).once.phi_names block));
      slots = λ z has. has;
    }

    goes : GoesOnAs e t.top d
    goes = edge_goes e t.top d t.top.block k.block label refl refl refl refl stays k.has_block listed labels

    top_keeps : (x : Instance) (number : ℕ) → HasKeeper e x number t.top None → HasKeeper e x number d None
    top_keeps x number c =
        let plain = c.site.plain in
        keeper_moves e t.top d here next refl (moves plain) (k.handles plain).destroyed x number c
        (where_none (is_destroy_of (result_of c.instr)) f here
        (ap (passes (is_destroy_of (result_of c.instr))) none_here)) None

    entered_keep : KeepersIn e z u
    entered_keep =
        rows_keep e z t u instances
        (λ number y there given. (λ j. is_given (sym memory j) y) ∙ given) h
        (λ number x there given c.
        inr (subst (λ (q : Activation × List Activation). IsKeptIn e x number None (q.0 ∷ q.1))
        (λ j. (sym top j, sym below j))
        (kept_top e x number t.top d t.below (top_keeps x number) (record {
          func = refl;
          result = refl;
          instance = λ n is. is;
          mode = λ frame is. is;
        }) (goes.destroys x number) c)))
        (subst (λ (q : Activation × List Activation). Each (IsRenewed z u.instances) (q.0 ∷ q.1))
        (λ j. (sym top j, sym below j)) (
          renewed_on z t.instances u.instances instances t.top d refl refl h.renewed.0,
          all_renewed z t.instances u.instances instances t.below h.renewed.1,
        ))

  abbrev after : ℕ → Instance → State
  after i x = enter_block (elided e).given (with_left (with_status t i x Status.Running) false) label

  leaves_keep : (w : Window) (ws : List Window) → KeepersIf e z (branch_leaving (elided e).given t label (w ∷ ws))
  leaves_keep w ws = on (own_instance t) refl
    where
      suspended : (a b : Bool) → (a && b) ≡ true → a ≡ true
      suspended true b is = refl
      suspended false b is = absurd (cc)

      going : (q : Status) → is_suspended q ≡ true → is_finished q ≡ false
      going Status.Running is = absurd (cc)
      going (Status.Suspended p values) is = refl
      going Status.Finished is = absurd (cc)

      if_may : (i : ℕ) (x : Instance) → own_instance t ≡ Some (i, x) → (b : Bool)
          → list_all (may_leave (length t.below) x) (w ∷ ws) ≡ b → KeepersIf e z (ok_if b Cause.State (after i x))
      if_may i x own false may = tt
      if_may i x own true may =
          entered_keep (after i x) refl refl
          (status_was t.instances i x (record x { status = Status.Running }) (own_there t i x own).1 refl refl refl
          (λ is. going x.status (suspended (is_suspended x.status) _
          (suspended (may_leave (length t.below) x w) _ may)))) false (λ is. refl) refl

      on : (o : Option (ℕ × Instance)) → own_instance t ≡ o → KeepersIf e z (and_then (found Cause.State o)
          (λ (y : ℕ × Instance). ok_if (list_all (may_leave (length t.below) y.1) (w ∷ ws)) Cause.State
          (after y.0 y.1)))
      on None own = tt
      on (Some y) own = if_may y.0 y.1 own (list_all (may_leave (length t.below) y.1) (w ∷ ws)) refl

  enters_keep : (ws : List Window) → KeepersIf e z (branch_leaving (elided e).given t label ws)
  enters_keep [] =
      entered_keep (enter_block (elided e).given t label) refl refl (was_itself t.instances) t.top.has_left (λ is. is)
      refl
  enters_keep (w ∷ ws) = leaves_keep w ws

  pub edges_keep_keepers : IsFine (framed_step (elided e) t).outcome → KeepersIn e z (framed_step (elided e) t)
  edges_keep_keepers fine =
      let is = ap (framed_advance (elided e) t) k.runs
      ∙ (ap (λ (x : Fetched). or_undefined (elided e).given t (framed_next (elided e) t x)) (there e t label k)
      ∙ ap (λ (a : Action). or_undefined (elided e).given t (framed_act (elided e) t a)) k.goes) in
      subst (KeepersIn e z) (sym is)
      (or_kept e z t (branch_leaving (elided e).given t label (left_windows (elided e).given t label))
      (subst (λ (u : State). IsFine u.outcome) is fine)
      (enters_keep (left_windows (elided e).given t label)))
