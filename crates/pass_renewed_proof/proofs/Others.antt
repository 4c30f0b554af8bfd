-- What is said of a slot by other activations, and by a suspended instance, stays true where the topmost one uses it.
use Rattle.std.proofs.Common.{◌≡◌, ◌≢◌, ℕ, ◌⊎◌, inl, inr, Bool, true, false, not, List, Some, refl, sym, ap, ◌∙◌}
use Rattle.std.proofs.Common.{subst, ⊎_elim}
use Rattle.std.proofs.lemmas.Bool.{false≢true}
use Rattle.std.specs.Prelude.{IsTrue}
use Rattle.pass_kept_proof.specs.ir_model.Names.{function_at}
use Rattle.pass_kept_proof.specs.ir_model.declared.module.Function.{Function}
use Rattle.pass_kept_proof.specs.ir_model.declared.module.Module.{Module}
use Rattle.pass_kept_proof.specs.ir_paths.Slots.{is_escaped}
use Rattle.pass_kept_proof.specs.ir_paths.declared.point.Point.{Point}
use Rattle.frame_classes.specs.Classes.{NeedsFrame}
use Rattle.frame_classes.specs.frame_slots.Spots.{IsUse, Spot}
use Rattle.run_laws.specs.memory.Pointers.{home_of}
use Rattle.pass_kept_proof.specs.run_memory.declared.block.MemoryBlock.{MemoryBlock}
use Rattle.pass_kept_proof.specs.run_source.declared.state.Activation.{Activation}
use Rattle.pass_kept_proof.specs.run_source.declared.state.Instance.{Instance}
use Rattle.pass_kept_proof.specs.run_source.declared.state.Mode.{Mode}
use Rattle.pass_renewed_proof.proofs.Carried.{IsCarried}
use Rattle.pass_renewed_proof.proofs.Stands.{IsSpotOf, no_use_away, used_away}
use Rattle.pass_renewed_proof.proofs.Way.{left_unused_at, suspend_called}
use Rattle.pass_renewed_proof.specs.Ahead.{HasAwayUse}
use Rattle.pass_renewed_proof.specs.Beside.{GoesOn, IsActivationBeside, IsFirst, IsKeptSlot, IsSlotBeside}
use Rattle.pass_renewed_proof.specs.Beside.{place_in}
use Rattle.pass_renewed_proof.specs.Ledger.{Ledger, LivesIn, Seat, is_quiet}
use Rattle.pass_renewed_proof.specs.Renewed.{Flags, Roots}

not_true : (t : Bool) → (t ≡ false → ⊥) → t ≡ true
not_true true h = refl
not_true false h = absurd (h refl)

module _ (m : Module) (flags : Flags) (roots : Roots) (l k : Ledger) (xs : List Instance) (memory memory' target
    target' : List MemoryBlock) (depth : ℕ) (a b : Activation) (h : IsActivationBeside m flags roots l xs memory
    target depth a b) (spot : Spot) (is_spot : IsSpotOf (function_at m a.func) a spot) (alloca c d : ℕ) (local : ¬
    NeedsFrame (function_at m a.func) alloca) (u : IsUse (function_at m a.func) alloca spot) (s :
    IsSlotBeside m l xs memory target depth a alloca c d) where
  abbrev f : Function
  f = function_at m a.func

  first_or : IsFirst a ⊎ (a.mode ≡ Mode.Resumed)
  first_or = on h.modes
    where
      on : (a.mode ≡ Mode.Plain) ⊎ ((a.mode ≡ Mode.Ramp) ⊎ (a.mode ≡ Mode.Resumed))
          → IsFirst a ⊎ (a.mode ≡ Mode.Resumed)
      on (inl e) = inl (λ r. let z : Mode.Plain ≡ Mode.Resumed = sym e ∙ r in absurd (cc))
      on (inr (inl e)) = inl (λ r. let z : Mode.Ramp ≡ Mode.Resumed = sym e ∙ r in absurd (cc))
      on (inr (inr e)) = inr e

  away_here : a.has_left ≡ true → HasAwayUse (function_at m a.func) alloca
  away_here left = used_away m flags roots l xs memory target depth a b h spot is_spot alloca u left

  never : a.mode ≡ Mode.Resumed → HasAwayUse (function_at m a.func) alloca → ⊥
  never is away = no_use_away m flags roots l xs memory target depth a b h spot is_spot alloca local u is away

  -- where the activation has left, an escaped slot that lives isn't used
  pub used_gone : a.has_left ≡ true → IsTrue (is_escaped (function_at m a.func) alloca) → LivesIn memory c → ⊥
  used_gone left escaped lives = ⊎_elim
      (λ is. let w = s.away is left escaped (away_here left) lives in
      left_unused_at (function_at m a.func) alloca local escaped (place_in a) w spot (is_spot.meets left w.suspend
      (suspend_called (function_at m a.func) w.suspend w.is_suspend) w.by) u)
      (λ is. never is (away_here left))
      first_or

  -- of blocks of slots that are escaped alone pointers are about between steps
  pub loud_escaped : is_quiet m (l.seats c) ≡ false → IsTrue (is_escaped (function_at m a.func) alloca)
  loud_escaped e = on (is_escaped (function_at m a.func) alloca) refl (sym (ap (is_quiet m) s.seat) ∙ e)
    where
      on : (t : Bool) → is_escaped (function_at m a.func) alloca ≡ t
          → not (is_escaped (function_at m a.func) alloca) ≡ false → is_escaped (function_at m a.func) alloca ≡ true
      on true e n = e
      on false e n = absurd (false≢true (sym n ∙ ap not e))

  module _ (carried : IsCarried l k memory memory' target target') (home : (home_of k.homes c).block ≡ d) (lives :
      LivesIn memory' c → LivesIn memory c) (loud : (home_of k.homes c).is_seen ≡ true
      → is_quiet m (l.seats c) ≡ false) where
    -- where the topmost one has left, no pointer is about into the block if it lives
    live_unseen : a.has_left ≡ true → LivesIn memory' c → (home_of k.homes c).is_seen ≡ false
    live_unseen left live = on (home_of k.homes c).is_seen refl
      where
        on : (t : Bool) → (home_of k.homes c).is_seen ≡ t → (home_of k.homes c).is_seen ≡ false
        on true e = absurd (used_gone left (loud_escaped (loud e)) (lives live))
        on false e = e

    -- another activation, which may not go on where the topmost one hasn't left
    pub other_used : (depth' : ℕ) (z : Activation) (alloca' d' : ℕ) → depth' ≢ depth → (GoesOn xs depth' z
        → a.has_left ≡ false → ⊥) → z.func ≡ a.func → alloca' ≡ alloca
        → IsSlotBeside m l xs memory target depth' z alloca' c d'
        → IsSlotBeside m k xs memory' target' depth' z alloca' c d'
    other_used depth' z alloca' d' ne alone func same o = record {
      slot = o.slot;
      passed = o.passed;
      ramp = o.ramp;
      seat = carried.seats c _ o.seat;
      depth_is = o.depth_is;
      owner = carried.owners d' depth' o.owner;
      tenant = carried.tenants d' depth' o.owner ∙ o.tenant;
      ready = carried.ready c d' depth' _ o.seat o.owner o.ready;
      first = λ is goes. absurd (no_first is goes);
      resumed = λ is goes. inr (inr (theirs (away_here (not_true a.has_left (alone goes)))));
      told_first = λ is goes. absurd (no_first is (inl goes));
      told = λ is goes. inr (inr (record {
        away = theirs (away_here (not_true a.has_left (alone goes)));
        unseen = live_unseen (not_true a.has_left (alone goes));
      }));
      alive = λ goes live. o.alive goes (lives live);
      gone = λ left live seen at. ne (same_depth (sym o.owner ∙ ap l.owners (sym at ∙ home) ∙ s.owner));
      away = λ is left escaped away live. o.away is left escaped away (lives live);
    }
      where
        theirs : HasAwayUse (function_at m a.func) alloca → HasAwayUse (function_at m z.func) alloca'
        theirs away = subst (λ g. HasAwayUse (function_at m g) alloca') (sym func) (subst (HasAwayUse (function_at m
            a.func)) (sym same) away)

        ours : HasAwayUse (function_at m z.func) alloca' → HasAwayUse (function_at m a.func) alloca
        ours away = subst (HasAwayUse (function_at m a.func)) same (subst (λ g. HasAwayUse (function_at m g) alloca')
            func away)

        same_depth : {i j : ℕ} → Some i ≡ Some j → i ≡ j
        same_depth e = cc

        same_ramp : {p q : Seat} → Some p ≡ Some q → p.depth ≡ q.depth
        same_ramp e = cc

        no_first : IsFirst z → GoesOn xs depth' z ⊎ HasAwayUse (function_at m z.func) alloca' → ⊥
        no_first is goes = ⊎_elim
            (λ first. ne (sym (o.depth_is is) ∙ same_ramp (sym o.seat ∙ s.seat) ∙ s.depth_is first))
            (λ resumed. ⊎_elim (λ g. never resumed (away_here (not_true a.has_left (alone g)))) (λ away. never resumed
            (ours away)) goes)
            first_or

    -- a suspended instance that keeps its address
    pub kept_used : (x : Instance) (p : Point) (alloca' : ℕ) → a.has_left ≡ true → x.coroutine ≡ a.func
        → alloca' ≡ alloca → IsKeptSlot m l memory x p alloca' c → IsKeptSlot m k memory' x p alloca' c
    kept_used x p alloca' left func same o = record {
      slot = o.slot;
      told = inr (inr (record {
        away = subst (λ g. HasAwayUse (function_at m g) alloca') (sym func) (subst (HasAwayUse (function_at m
            a.func)) (sym same) (away_here left));
        unseen = live_unseen left;
      }));
      alive = λ live. o.alive (lives live);
      gone = live_unseen left;
    }
