-- An edge that both runs take, which may leave windows, leaves the states beside each other.
use Rattle.std.proofs.Common.{◌≡◌, ℕ, inl, Bool, true, false, not, List, [], ◌∷◌, length, map, Option, Some, None, Result, Ok, refl, sym, ap, ◌∙◌, subst, arith, ⊎_elim}
use Rattle.std.specs.Prelude.{slice_get, slice_set, option_and_then, option_map}
use Rattle.std.specs.List.{list_all}
use Rattle.std.proofs.lemmas.Bool.{and_from, and_parts, and_right, false≢true, cases_eq}
use Rattle.pass_proofs.specs.ir_base.declared.cause.Cause.{Cause}
use Rattle.pass_proofs.specs.ir_model.Names.{function_at, position_of}
use Rattle.pass_proofs.specs.ir_model.Ty.{Ty}
use Rattle.pass_proofs.specs.ir_model.declared.instr.Phi.{Phi}
use Rattle.pass_proofs.specs.ir_model.declared.module.Function.{Function}
use Rattle.pass_proofs.specs.ir_model.declared.module.Module.{Module}
use Rattle.pass_proofs.specs.ir_model.declared.operand.Operand.{Operand}
use Rattle.pass_proofs.specs.ir_paths.declared.point.Window.{Window}
use Rattle.pass_proofs.specs.pass_intrinsics.Shapes.{given_name}
use Rattle.pass_split_proof.proofs.simulation.Knowing.{goes_knows, left_places, phis_unset}
use Rattle.pass_split_proof.specs.simulation.Knowing.{KnowsGiven}
use Rattle.pass_split_proof.proofs.states.Advanced.{KeepsFrames, advanced, same_frames}
use Rattle.pass_split_proof.proofs.states.Judged.{numbering}
use Rattle.pass_split_proof.proofs.states.Statuses.{runs_headed, status_beside, status_frames}
use Rattle.pass_split_proof.proofs.steps.Operands.{all_elsewhere, all_length, phis_stand}
use Rattle.pass_split_proof.specs.places.Places.{Enters, entering}
use Rattle.pass_split_proof.specs.states.Activations.{Inside, is_entering}
use Rattle.pass_split_proof.specs.states.Going.{goes_to, stands_at}
use Rattle.pass_split_proof.specs.states.Instances.{AreFrames, is_given_in, is_held_in, shape_at}
use Rattle.pass_split_proof.specs.states.Memories.{AreBeside, homes_of}
use Rattle.pass_split_proof.specs.states.Related.{AreRelated}
use Rattle.pass_split_proof.specs.states.Values.{AreValuesOf}
use Rattle.pass_split_proof.specs.steps.Branches.{AreReadablePhis, Entered, Left, Stayed, WasLeft}
use Rattle.pass_proofs.proofs.flow_solver.Lists.{set_here, set_other}
use Rattle.std.proofs.lemmas.Option.{slice_get_within}
use Rattle.pass_proofs.specs.run_framed.Framed.{FramedGiven}
use Rattle.pass_proofs.proofs.run_laws.memory.Written.{same_some}
use Rattle.pass_proofs.specs.run_laws.changed.Changed.{Each}
use Rattle.pass_proofs.specs.run_memory.declared.block.MemoryBlock.{MemoryBlock}
use Rattle.pass_proofs.specs.run_memory.declared.pointer.Value.{Value}
use Rattle.run_access_worked.specs.run_plain.Plain.{PlainGiven, plain_go_to, plain_work}
use Rattle.run_access_worked.specs.run_plain.declared.state.PlainState.{PlainState}
use Rattle.pass_proofs.specs.run_source.Source.{branch_leaving, enter_block, may_leave}
use Rattle.pass_proofs.specs.run_source.State.{frame_address_of, is_finished, is_suspended, numbered, own_instance, with_left, with_status}
use Rattle.pass_proofs.specs.run_source.declared.state.Instance.{Instance}
use Rattle.pass_proofs.specs.run_source.declared.state.State.{State}
use Rattle.pass_proofs.specs.run_source.declared.state.Status.{Status}
use Rattle.pass_proofs.specs.run_source_tables.Given.{Given}
use Rattle.pass_proofs.specs.run_step.Results.{and_then, found, ok_if}
use Rattle.pass_proofs.specs.run_step.Step.{incoming_from, label_of, phi_values, phis_of, values_in, with_all}
use Rattle.pass_proofs.specs.run_step.Values.{Env, operand_value}

-- ---- phis by what they take

phis_by : (m : Module) (env : Env) (label : ℕ) (ps : List Phi)
    → phi_values m env label ps ≡ map (λ (e : ℕ × (Ty × Operand)). (e.0, operand_value m env e.1.0 e.1.1))
    (entering label ps)
phis_by m env label [] = refl
phis_by m env label (p ∷ ps)
    = ap (λ rest. (p.result, operand_value m env p.ty (incoming_from p.incoming label)) ∷ rest)
    (phis_by m env label ps)

-- ---- the framed run: an edge that leaves windows makes a Suspended instance run again

pub own_there : (s : State) (i : ℕ) (x : Instance) → own_instance s ≡ Some (numbering i x)
    → slice_get s.instances i ≡ Some x
own_there s i x e = on s.top.instance refl
  where
    pair : (k : ℕ) (o : Option Instance) → slice_get s.instances k ≡ o
        → option_map (numbering k) o ≡ Some (numbering i x) → slice_get s.instances i ≡ Some x
    pair k None f h = absurd (cc)
    pair k (Some y) f h =
        let p : numbering k y ≡ numbering i x = same_some (numbering k y) (numbering i x) h in
        ap (slice_get s.instances) (sym (ap (λ (q : ℕ × Instance). q.0) p)) ∙ f ∙ ap (λ (q : ℕ × Instance). Some q.1) p

    on : (o : Option ℕ) → s.top.instance ≡ o → slice_get s.instances i ≡ Some x
    on None f = absurd (none (sym (ap (option_and_then (numbered s.instances)) f) ∙ e))
      where
        none : None ≡ Some (numbering i x) → ⊥
        none h = cc
    on (Some k) f = pair k (slice_get s.instances k) refl (sym (ap (option_and_then (numbered s.instances)) f) ∙ e)

ok_same : (r : Result State Cause) (a b : State) → r ≡ Ok a → r ≡ Ok b → a ≡ b
ok_same r a b e h = cc

module _ (g : Given) (s u : State) (label : ℕ) where
  -- the instance runs again, and the block is entered
  abbrev turned : ℕ → Instance → State
  turned i x = enter_block g (with_left (with_status s i x Status.Running) false) label

  pub left_by : (ws : List Window) → branch_leaving g s label ws ≡ Ok u → Entered g s label u
  left_by [] e = record {
    instances = s.instances;
    left = s.top.has_left;
    was = Stayed;
    is = sym (ok_same (Ok (enter_block g s label)) (enter_block g s label) u refl e);
  }
  left_by (w ∷ ws) e = on (own_instance s) refl e
    where
      found_one : (i : ℕ) (x : Instance) → own_instance s ≡ Some (numbering i x) → (t : Bool)
          → list_all (may_leave (length s.below) x) (w ∷ ws) ≡ t
          → ok_if t Cause.State (turned i x) ≡ Ok u → Entered g s label u
      found_one i x own false f h = absurd (cc)
      found_one i x own true f h = record {
        instances = slice_set s.instances i (record x { status = Status.Running });
        left = false;
        was = Left i x (own_there s i x own) (and_parts _ _ (and_parts _ _ f).0).0;
        is = sym (ok_same (Ok (turned i x)) (turned i x) u refl h);
      }

      on : (o : Option (ℕ × Instance)) → own_instance s ≡ o
          → and_then (found Cause.State o) (λ (p : ℕ × Instance). ok_if (list_all (may_leave (length s.below) p.1)
          (w ∷ ws)) Cause.State (turned p.0 p.1)) ≡ Ok u → Entered g s label u
      on None own h = absurd (cc)
      on (Some p) own h = found_one p.0 p.1 own (list_all (may_leave (length s.below) p.1) (w ∷ ws)) refl h

-- ---- frames stay where they were

pub left_frames : (xs ys : List Instance) → WasLeft xs ys → KeepsFrames xs ys
left_frames xs _ Stayed = same_frames xs
left_frames xs _ (Left i x e h) = record {
  each = λ j z f. ⊎_elim
      (λ is. let same : x ≡ z = same_some x z (sym e ∙ ap (slice_get xs) (sym is) ∙ f) in (
        record x { status = Status.Running },
        (
          ap (slice_get (slice_set xs i (record x { status = Status.Running }))) is
              ∙ set_here xs i (record x { status = Status.Running }) (slice_get_within xs i x e),
          ap
              (λ (w : Instance). w.coroutine) same,
          ap frame_address_of same,
        ),
      ))
      (λ ne. (z, (set_other xs i j (record x { status = Status.Running }) ne ∙ f, refl, refl)))
      (cases_eq j i);
}

module _ (g : FramedGiven) (m n : List MemoryBlock) where
  pub left_beside : (xs ys : List Instance) → WasLeft xs ys → AreBeside g xs m n → AreBeside g ys m n
  left_beside xs _ Stayed beside = beside
  left_beside xs _ (Left i x e h) beside = status_beside g xs m n i x e Status.Running x.last_save x.released beside

  held_before : (o : Option MemoryBlock) (x : Instance) → is_suspended x.status ≡ true
      → is_held_in o (record x { status = Status.Running }) ≡ true → is_held_in o x ≡ true
  held_before o x h held =
      let a = and_parts _ _ held in
      let b = and_parts _ _ a.1 in
      and_from _ _ a.0 (and_from _ _ (ap not (and_right (is_given_in o x) _ (unfinished x.status h))) b.1)
    where
      unfinished : (s : Status) → is_suspended s ≡ true → is_finished s ≡ false
      unfinished Status.Running e = refl
      unfinished (Status.Suspended p vs) e = refl
      unfinished Status.Finished e = absurd (false≢true e)

  pub left_all : (xs ys : List Instance) → WasLeft xs ys → AreFrames g xs m n → AreFrames g ys m n
  left_all xs _ Stayed frames = frames
  left_all xs _ (Left i x e h) frames = status_frames g xs m n i x e Status.Running x.last_save x.released
      (held_before (slice_get m x.block) x h) frames
      (λ held. runs_headed g xs m n i x e Status.Running x.last_save x.released
      (frames.headed i x e (held_before (slice_get m x.block) x h held)) (inl refl))

-- ---- both runs

module _ (g : FramedGiven) (h : PlainGiven) (s : State) (t : PlainState) (r : AreRelated g h s t) (label : ℕ) where
  abbrev f : Function
  f = function_at g.given.code s.top.func

  abbrev q : Function
  q = function_at h.code t.top.func

  abbrev from : ℕ
  from = label_of (slice_get f.blocks s.top.block)

  abbrev phis : List Phi
  phis = phis_of (slice_get f.blocks (position_of f label))

  module _ (piece : ℕ) (enters : Enters r.top.shape r.top.part f q s.top.block piece label)
      (readable : AreReadablePhis g.given.code h.code f from r.top.shape.begin phis)
      (mode : is_entering s.top.mode ≡ false) where
    taken_in_part : values_in h.code (slice_get q.blocks (position_of q label))
        (label_of (slice_get q.blocks piece)) t.top.values ≡ with_all t.top.values
        (phi_values h.code t.top.values from phis)
    taken_in_part = ap (with_all t.top.values) (phis_by h.code t.top.values (label_of (slice_get q.blocks piece))
        (phis_of (slice_get q.blocks (position_of q label)))
        ∙ ap (map (λ (e : ℕ × (Ty × Operand)). (e.0, operand_value h.code t.top.values e.1.0 e.1.1))) enters.phis
        ∙ sym (phis_by h.code t.top.values from phis))

    stand : AreValuesOf f (homes_of s.world.memory)
        (with_all s.top.values (phi_values g.given.code s.top.values from phis))
        (with_all t.top.values (phi_values h.code t.top.values from phis))
    stand = phis_stand g.given.code h.code f (length s.world.memory) from r.globals s.top.values t.top.values phis
        r.top.values readable.taken

    others : (ps : List Phi) → Each (λ (p : Phi). p.result ≡ r.top.shape.begin → ⊥) ps
        → Each (λ (p : ℕ × Value). p.0 ≡ r.top.shape.begin → ⊥) (phi_values h.code t.top.values from ps)
    others [] k = tt
    others (p ∷ ps) k = (k.0, others ps k.1)

    -- the framed run took the edge, and the parts' run takes it too, from the front of a block
    pub edges_from : (u : State) → Entered g.given s label u
        → AreRelated g h u (plain_go_to h (stands_at t piece 0 (plain_work t)) label)
    edges_from u entered = subst (λ (x : State). AreRelated g h x (plain_go_to h (stands_at t piece 0 (plain_work t))
        label)) (sym entered.is)
        (subst (λ (vs : Env). AreRelated g h (goes_to s s.world entered.instances (position_of f label) 0
        (with_all s.top.values (phi_values g.given.code s.top.values from phis)) entered.left)
        (stands_at t (position_of q label) 0 (record { world = t.world; values = vs }))) (sym taken_in_part)
        (advanced g h s t r
        (record { world = s.world; values = with_all s.top.values (phi_values g.given.code s.top.values from phis) })
        (record { world = t.world; values = with_all t.top.values (phi_values h.code t.top.values from phis) })
        entered.instances (position_of f label) 0 (position_of q label) 0 entered.left mode
        (record {
          memory = left_beside g s.world.memory t.world.memory s.instances entered.instances entered.was
              r.world.memory;
          events = r.world.events;
          answers = r.world.answers;
          allocs = r.world.allocs;
        })
        (left_all g s.world.memory t.world.memory s.instances entered.instances entered.was r.frames)
        (left_frames s.instances entered.instances entered.was)
        (omega arith) (record { each = λ b e. refl }) stand
        (all_length s.top.values (phi_values g.given.code s.top.values from phis))
        (all_length t.top.values (phi_values h.code t.top.values from phis))
        (all_elsewhere t.top.values (phi_values h.code t.top.values from phis) r.top.shape.begin
        (others phis readable.others))
        (Inside s.top.mode mode enters.place)))

    given_others : (at : ℕ) (ps : List Phi) → Each (λ (p : Phi). p.result ≡ at → ⊥) ps
        → Each (λ (p : ℕ × Value). p.0 ≡ at → ⊥) (phi_values h.code t.top.values from ps)
    given_others at [] k = tt
    given_others at (p ∷ ps) k = (k.0, given_others at ps k.1)

    -- what is known of given frames stays
    pub edges_know_from : (u : State) → Entered g.given s label u → KnowsGiven g s t
        → KnowsGiven g u (plain_go_to h (stands_at t piece 0 (plain_work t)) label)
    edges_know_from u entered known = subst (λ (x : State). KnowsGiven g x
        (plain_go_to h (stands_at t piece 0 (plain_work t)) label)) (sym entered.is)
        (subst (λ (vs : Env). KnowsGiven g (goes_to s s.world entered.instances (position_of f label) 0
        (with_all s.top.values (phi_values g.given.code s.top.values from phis)) entered.left)
        (stands_at t (position_of q label) 0 (record { world = t.world; values = vs }))) (sym taken_in_part)
        (goes_knows g s t entered.instances s.world.memory
        (with_all t.top.values (phi_values h.code t.top.values from phis)) (record { each = λ b e. refl })
        (left_places s.world.memory s.instances entered.instances entered.was) known
        (λ frame e. all_elsewhere t.top.values (phi_values h.code t.top.values from phis)
        (given_name (shape_at g s.top.func)) (given_others (given_name (shape_at g s.top.func)) phis
        (phis_unset g h s t r frame e (position_of f label))))))

  -- from the block in which it stands
  pub edges_know : Enters r.top.shape r.top.part f q s.top.block t.top.block label
      → AreReadablePhis g.given.code h.code f from r.top.shape.begin phis → is_entering s.top.mode ≡ false
      → (u : State) → Entered g.given s label u → KnowsGiven g s t → KnowsGiven g u (plain_go_to h t label)
  edges_know = edges_know_from t.top.block

  pub edges_related : Enters r.top.shape r.top.part f q s.top.block t.top.block label
      → AreReadablePhis g.given.code h.code f from r.top.shape.begin phis → is_entering s.top.mode ≡ false
      → (u : State) → Entered g.given s label u → AreRelated g h u (plain_go_to h t label)
  edges_related = edges_from t.top.block
