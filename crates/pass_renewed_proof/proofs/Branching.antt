-- A branch leads from states beside each other to such states, with the values of its block's phis.
use Rattle.std.proofs.Common.{◌≡◌, ℕ, ◌<◌, ◌⊎◌, inl, inr, true, false, List, [], ◌∷◌, length, map, Option}
use Rattle.std.proofs.Common.{Some, None, refl, sym, ap, ◌∙◌, subst, ⊎_elim, arith}
use Rattle.std.proofs.lemmas.Bool.{false≢true}
use Rattle.std.specs.Prelude.{IsTrue, nat_lt, slice_get}
use Rattle.pass_kept_proof.specs.flow_solver.Paths.{IsListed}
use Rattle.pass_kept_proof.specs.ir_model.Names.{function_at, is_local, position_of}
use Rattle.pass_kept_proof.specs.ir_model.declared.instr.Incoming.{Incoming}
use Rattle.pass_kept_proof.specs.ir_model.declared.instr.Instr.{Instr}
use Rattle.pass_kept_proof.specs.ir_model.declared.instr.Phi.{Phi}
use Rattle.pass_kept_proof.specs.ir_model.declared.instr.Terminator.{Terminator}
use Rattle.pass_kept_proof.specs.ir_model.declared.module.Block.{Block}
use Rattle.pass_kept_proof.specs.ir_model.declared.module.Function.{Function}
use Rattle.pass_kept_proof.specs.ir_model.declared.module.Module.{Module}
use Rattle.pass_kept_proof.specs.ir_model.declared.operand.Allocator.{Allocator}
use Rattle.pass_kept_proof.specs.ir_model.declared.operand.Arg.{Arg}
use Rattle.pass_kept_proof.specs.ir_model.declared.operand.Callee.{Callee}
use Rattle.pass_kept_proof.specs.ir_model.declared.operand.Intrinsic.{Intrinsic}
use Rattle.pass_kept_proof.specs.ir_paths.Paths.{entry_point}
use Rattle.pass_kept_proof.specs.ir_paths.Slots.{addresses_of, has_name, is_escaped, is_in_args, occurs_in_phi}
use Rattle.pass_kept_proof.specs.ir_paths.Windows.{IsInWindow, end_block, suspend_of}
use Rattle.pass_kept_proof.specs.ir_paths.declared.point.Point.{Point}
use Rattle.frame_classes.specs.Classes.{MeetsLater}
use Rattle.frame_classes.specs.frame_slots.Spots.{IsUse, On, Spot}
use Rattle.pass_kept_proof.specs.Needed.{phis_give}
use Rattle.pass_kept_proof.specs.SuspendRules.{IsCallAt}
use Rattle.pass_kept_proof.specs.rule_uses.Uses.{local_of}
use Rattle.frame_classes.specs.rule_window_values.Kept.{TakesFrom, phis_in}
use Rattle.pass_kept_proof.specs.run_source.declared.state.Activation.{Activation}
use Rattle.pass_kept_proof.specs.run_source.declared.state.Mode.{Mode}
use Rattle.pass_kept_proof.specs.run_source.declared.state.State.{State}
use Rattle.pass_kept_proof.specs.run_step.Step.{AtInstr, AtTerm, Fetched, fetch, incoming_from, label_of, phi_values}
use Rattle.pass_kept_proof.specs.run_step.Step.{phis_of, values_in, with_all}
use Rattle.pass_kept_proof.specs.run_step.Values.{Env}
use Rattle.pass_renewed_proof.proofs.Ahead.{IsEnd, branch_edge, get_within}
use Rattle.pass_renewed_proof.proofs.Carried.{envs_on}
use Rattle.pass_renewed_proof.proofs.Exposing.{phi_escapes}
use Rattle.pass_renewed_proof.proofs.History.{local_is}
use Rattle.pass_renewed_proof.proofs.Left.{after_edge, left_closed, switch_next, window_stays}
use Rattle.pass_renewed_proof.proofs.Onward.{IsEdgeOf}
use Rattle.pass_renewed_proof.proofs.Ordinary.{own_address, roots_of}
use Rattle.pass_renewed_proof.proofs.Stands.{end_at_first}
use Rattle.pass_renewed_proof.proofs.TouchedEdge.{edge_beside}
use Rattle.pass_renewed_proof.proofs.Touching.{IsTouching, args_stand, touched_extends}
use Rattle.pass_renewed_proof.proofs.Way.{drop_avoided, no_start_term}
use Rattle.pass_renewed_proof.specs.Ahead.{IsBehindSuspendCall}
use Rattle.pass_renewed_proof.specs.Beside.{AreOutdone, HasLeftSuspended, IsBeside, place_in}
use Rattle.pass_renewed_proof.specs.Branching.{IsBranching, StaysInside}
use Rattle.pass_renewed_proof.specs.Chosen.{places_at}
use Rattle.pass_renewed_proof.specs.Ledger.{used_ledger}
use Rattle.pass_renewed_proof.specs.Left.{AtEnd, AtSuspend, AtSwitch, Behind, Between, IsLeftAt, IsLeftBy}
use Rattle.pass_renewed_proof.specs.Renewed.{Flags, Roots}
use Rattle.pass_renewed_proof.specs.SlotEnvs.{AreRoots, AreSlotEnvs}
use Rattle.pass_renewed_proof.specs.SlotRules.{KeepsSlots}
use Rattle.pass_kept_proof.specs.rule_windows.Sets.{IsAfterEnd}
use Rattle.pass_renewed_proof.proofs.Phis.{all_set, any_listed, args_of, block_there, no_call_term, no_end_term}
use Rattle.pass_renewed_proof.proofs.Phis.{not_given, phi_taking, same_phis, taken, term_there}

-- ---- the branch

-- the topmost activation is at the label, with the values of its phis
abbrev pub entered_block : Module → State → ℕ → State
entered_block m s label = record s {
  top = record s.top {
    block = position_of (function_at m s.top.func) label;
    at = 0;
    values = values_in m (slice_get (function_at m s.top.func).blocks (position_of (function_at m s.top.func) label))
        (label_of (slice_get (function_at m s.top.func).blocks s.top.block)) s.top.values;
  };
}

module _ (m : Module) (flags : Flags) (roots : Roots) (keeps : (func : ℕ)
    → KeepsSlots m (function_at m func) (flags func) (roots func)) (s t : State) (beside : IsBeside m flags roots s t)
    (label : ℕ) (branching : IsBranching m s.top label) (stays : s.top.has_left ≡ true
    → StaysInside (function_at m s.top.func) (place_in s.top) (entry_point (function_at m s.top.func) label)) where
  abbrev f : Function
  f = function_at m s.top.func

  abbrev p : Point
  p = place_in s.top

  abbrev q : Point
  q = entry_point (function_at m s.top.func) label

  abbrev to : ℕ
  to = position_of (function_at m s.top.func) label

  abbrev from : ℕ
  from = label_of (slice_get (function_at m s.top.func).blocks s.top.block)

  abbrev phis : List Phi
  phis = phis_of (slice_get (function_at m s.top.func).blocks (position_of (function_at m s.top.func) label))

  abbrev args : List Arg
  args = map (λ (p : Phi). record {
    ty = p.ty;
    value = incoming_from p.incoming (label_of (slice_get (function_at m s.top.func).blocks s.top.block));
  }) (phis_of (slice_get (function_at m s.top.func).blocks (position_of (function_at m s.top.func) label)))

  -- as if the values were arguments
  abbrev reading : Fetched
  reading = AtInstr (Instr.Call None false None (Callee.Allocator Allocator.Malloc) args)

  abbrev spot : Spot
  spot = On s.top.block (position_of (function_at m s.top.func) label)

  term : (t : Terminator) × (fetch (function_at m s.top.func) s.top.block s.top.at ≡ AtTerm t)
  term = term_there label (fetch f s.top.block s.top.at) branching.branches

  no_suspend : IsCallAt Intrinsic.CoroSuspend (function_at m s.top.func) (place_in s.top) → ⊥
  no_suspend c = no_call_term f p term.0 Intrinsic.CoroSuspend term.1 c

  no_end : s.top.block ≡ end_block (function_at m s.top.func) → s.top.at ≡ 0 → ⊥
  no_end is first = (keeps s.top.func).names.end_is_there term.0 (sym (λ i. fetch f (is i) (first i)) ∙ term.1)

  not_last : s.top.mode ≡ Mode.Resumed → s.top.block ≡ end_block (function_at m s.top.func) → ⊥
  not_last is last = no_end last (end_at_first f p (beside.top.came is) last)

  is_end : IsEnd (function_at m s.top.func) s.top.block s.top.at label
  is_end = branch_edge f s.top.block s.top.at label branching.branches

  -- ---- uses on the edge

  takes : (v : ℕ) → IsTrue (is_in_args v args) → TakesFrom (function_at m s.top.func) v s.top.block to
  takes v is =
      let h = phi_taking v from phis is in
      let k = taken v from h.0.incoming h.1.1 in
      let b = block_there f s.top.block s.top.at term.0 term.1 in
      record {
        phi = h.0;
        incoming = k.incoming;
        stands = subst (λ (l : List Phi). IsListed h.0 l) (sym (same_phis (slice_get f.blocks to))) h.1.0;
        comes = k.listed;
        is_from = ap (position_of f) (k.is_from ∙ ap label_of b.1) ∙ (keeps s.top.func).names.labels s.top.block b.0
            b.1;
        takes = ap local_of (local_is v k.incoming.value k.names);
      }

  within : s.top.block < length (function_at m s.top.func).blocks
  within = let b = block_there f s.top.block s.top.at term.0 term.1 in less s.top.block (length f.blocks) (get_within
      f.blocks s.top.block b.0 b.1)
    where
      less : (a n : ℕ) → nat_lt a n ≡ true → a < n
      less a n h = grind arith

  escaping : (v al : ℕ) → IsTrue (has_name (addresses_of f al) v) → IsTrue (is_in_args v args) → IsTrue (is_escaped f
      al)
  escaping v al address is = on (slice_get f.blocks to) refl is
    where
      on : (o : Option Block) → slice_get f.blocks to ≡ o → is_in_args v (args_of from (phis_of o)) ≡ true
          → is_escaped f al ≡ true
      on None e h = absurd (false≢true h)
      on (Some b) e h =
          let k = phi_taking v from b.phis h in
          let i = taken v from k.0.incoming k.1.1 in
          phi_escapes f al v address to b e (any_listed (occurs_in_phi v) b.phis k.0 k.1.0 (any_listed (λ (j :
          Incoming). is_local v j.value) k.0.incoming i.incoming i.listed i.names))

  -- the switch of a suspend leads to the end, which has no phis
  no_switch : (al : ℕ) → IsUse f al spot → IsBehindSuspendCall f s.top.block s.top.at → ⊥
  no_switch al u behind =
      let none : phis_in (slice_get f.blocks to) ≡ [] = ap (λ n. phis_in (slice_get f.blocks n)) (branching.stops
      behind) ∙ same_phis (slice_get f.blocks (end_block f)) ∙ (keeps s.top.func).names.end_has_no_phis in
      subst (λ (l : List Phi). IsListed u.uses.1.phi l) none u.uses.1.stands

  stays_by : (z : Point) → s.top.has_left ≡ true → (k : Point) → IsCallAt Intrinsic.CoroSave f k
      → suspend_of f k ≡ Some z → IsInWindow f k z p → IsInWindow f k z q ⊎ (q ≡ z)
  stays_by z left k c es w = let r = stays left k z c es in window_stays f k z c es r.0 r.1 r.2 r.3 p q w r.4

  meets : (al : ℕ) → IsUse f al spot → s.top.has_left ≡ true → (z : Point) → IsCallAt Intrinsic.CoroSuspend f z
      → IsLeftBy f z p → MeetsLater f spot z
  meets al u left z call (Between k c es w) = ⊎_elim
      (λ h. inl (inr (
        refl,
        record {
          between = h.to_suspend.between;
          is_path = drop_avoided f (k ∷ z ∷ []) q h.to_suspend.between z h.to_suspend.is_path;
        },
      )))
      (λ e. inl (inl e))
      (stays_by z left k c es w)
  meets al u left z call (AtSuspend e) = absurd (no_suspend (subst (IsCallAt Intrinsic.CoroSuspend f) (sym e) call))
  meets al u left z call (AtSwitch e) = absurd (no_switch al u (subst (λ r. IsBehindSuspendCall f r.block r.at) (sym
      e) (record { before = z.at; next = refl; is_suspend = call })))
  meets al u left z call (AtEnd e first) = absurd (no_end e first)
  meets al u left z call (Behind after) = inr (subst (IsAfterEnd f) (sym is_end.is_end) after)

  touching : IsTouching m roots s.top reading spot
  touching = record {
    uses = λ v al root is. record {
      address = v;
      is_address = ((keeps s.top.func).rooted v al root).1;
      uses = (within, takes v is);
    };
    escapes = λ v al root is. escaping v al ((keeps s.top.func).rooted v al root).1 is;
    is_spot = λ al u. record {
      at = is_end.is_end;
      not_last = not_last;
      closed = λ left. let at : IsLeftAt f p = beside.top.left left in
          left_closed f at.suspend p at.is_call no_suspend (no_switch al u) no_end at.by;
      meets = meets al u;
    };
  }

  -- ---- the edge

  left_on : s.top.has_left ≡ true → (z : Point) → IsCallAt Intrinsic.CoroSuspend f z → IsLeftBy f z p
      → IsLeftBy f z q
  left_on left z call (Between k c es w) = ⊎_elim (λ h. Between k c es h) (λ e. AtSuspend e) (stays_by z left k c es w)
  left_on left z call (AtSuspend e) = absurd (no_suspend (subst (IsCallAt Intrinsic.CoroSuspend f) (sym e) call))
  left_on left z call (AtSwitch e) = switch_next f z label (branching.stops (subst (λ r. IsBehindSuspendCall f r.block
      r.at) (sym e) (record { before = z.at; next = refl; is_suspend = call })))
  left_on left z call (AtEnd e first) = absurd (no_end e first)
  left_on left z call (Behind after) = Behind (after_edge f p q after is_end.edge)

  edge : IsEdgeOf (function_at m s.top.func) s.top q
  edge = record {
    edge = is_end.edge;
    passed = λ slot old k ty align at is. absurd ((keeps s.top.func).entry s.top.block s.top.at label
        branching.branches is);
    not_last = not_last;
    left = left_on;
  }

  -- ---- the states

  idem : AreRoots (roots s.top.func)
  idem = roots_of m f (flags s.top.func) (roots s.top.func) (keeps s.top.func)

  unset : (slot : ℕ) → IsTrue (flags s.top.func slot) → phis_give slot phis ≡ false
  unset slot flagged = (keeps s.top.func).no_phi slot slot to ((keeps s.top.func).addresses slot slot flagged
      (own_address f slot))

  abbrev vs : Env
  vs = with_all s.top.values (phi_values m s.top.values from phis)

  abbrev ws : Env
  ws = with_all beside.top.values (phi_values m beside.top.values from phis)

  envs : AreSlotEnvs (used_ledger m beside.ledger (places_at (roots s.top.func) s.top.values beside.top.values
      reading)).homes (roots s.top.func) vs ws
  envs = all_set m _ (roots s.top.func) idem s.world from s.top.values beside.top.values phis s.top.values
      beside.top.values (λ v a root. (keeps s.top.func).no_phi v a to root)
      (args_stand m flags roots keeps s t beside reading spot touching args (λ v is. is))
      (envs_on beside.ledger.homes _ (roots s.top.func) s.top.values beside.top.values (touched_extends m flags roots
      keeps s t beside reading spot touching) beside.top.envs)

  branched : AreOutdone s.instances s.top s.below → HasLeftSuspended s.instances s.top
      → IsBeside m flags roots (record s {
        top = record s.top { block = q.block; at = q.at; values = vs };
      }) (record t { top = record t.top { block = q.block; at = q.at; values = ws } })
  branched = edge_beside m flags roots keeps s t beside reading spot touching q vs ws edge
      (λ al. no_start_term f al p term.0 term.1)
      (λ al. no_end_term f al p term.0 term.1)
      (λ c. no_call_term f p term.0 Intrinsic.CoroEnd term.1 c)
      (λ al. inl refl)
      envs
      (λ slot flagged. (
        not_given m from slot s.top.values phis s.top.values (unset slot flagged),
        not_given m from slot beside.top.values phis beside.top.values (unset slot flagged),
      ))
      (λ v other. (
        not_given m from v s.top.values phis s.top.values (other.made.no_phi to),
        not_given m from v beside.top.values phis beside.top.values (other.made.no_phi to),
      ))

  -- with the values that the second run's activation has
  pub branched_beside : AreOutdone s.instances s.top s.below → HasLeftSuspended s.instances s.top
      → IsBeside m flags roots (entered_block m s label) (entered_block m t label)
  branched_beside outdone asleep = subst (λ (a : Activation). IsBeside m flags roots (entered_block m s label)
      (record t {
        top = record a {
          block = position_of (function_at m a.func) label;
          at = 0;
          values = values_in m (slice_get (function_at m a.func).blocks (position_of (function_at m a.func) label))
              (label_of (slice_get (function_at m a.func).blocks a.block)) a.values;
        };
      })) (sym beside.top.is) at_first
    where
      at_first : IsBeside m flags roots (entered_block m s label) (record t {
        top = record (record s.top { values = beside.top.values; slots = beside.top.slots }) {
          block = q.block;
          at = q.at;
          values = ws;
        };
      })
      at_first = subst (λ (a : Activation). IsBeside m flags roots (entered_block m s label) (record t {
        top = record a { block = q.block; at = q.at; values = ws };
      })) beside.top.is (branched outdone asleep)
