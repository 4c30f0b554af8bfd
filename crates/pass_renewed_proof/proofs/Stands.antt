-- Where an activation comes to a use of a slot, the slot's block stands in the activation's own block, or may come
-- there.
use Rattle.std.proofs.Common.{◌≡◌, ℕ, ◌+◌, ◌<◌, ◌⊎◌, inl, inr, Bool, true, false, List, [], ◌∷◌, length, map}
use Rattle.std.proofs.Common.{Option, Some, None, refl, sym, ap, ◌∙◌, subst, ⊎_elim, arith, if◌then◌else◌, ◌==◌, nat_lt}
use Rattle.std.proofs.lemmas.Bool.{false≢true}
use Rattle.std.specs.Prelude.{slice_get}
use Rattle.pass_kept_proof.specs.ir_model.Names.{function_at}
use Rattle.pass_kept_proof.specs.ir_model.declared.module.Block.{Block}
use Rattle.pass_kept_proof.specs.ir_model.declared.module.Function.{Function}
use Rattle.pass_kept_proof.specs.ir_model.declared.module.Module.{Module}
use Rattle.pass_kept_proof.specs.ir_paths.Paths.{IsPath, entry_point, has_point, nexts, nexts_in, same_point, targets}
use Rattle.pass_kept_proof.specs.ir_paths.Slots.{end_points}
use Rattle.pass_kept_proof.specs.ir_model.declared.operand.Intrinsic.{Intrinsic}
use Rattle.pass_kept_proof.specs.ir_paths.Windows.{destroy_label, end_block, resume_label}
use Rattle.pass_kept_proof.specs.ir_paths.declared.point.Point.{Point}
use Rattle.frame_classes.proofs.Coming.{end_complete}
use Rattle.frame_classes.specs.Classes.{MeetsLater, NeedsFrame}
use Rattle.frame_classes.specs.frame_slots.Spots.{At, Comes, IsUse, Spot, point_at}
use Rattle.pass_kept_proof.proofs.Same.{either, same_point_same}
use Rattle.pass_kept_proof.specs.SuspendRules.{IsCallAt}
use Rattle.frame_classes.specs.rule_slots.Closed.{IsClosed}
use Rattle.pass_kept_proof.specs.run_memory.declared.block.MemoryBlock.{MemoryBlock}
use Rattle.pass_kept_proof.specs.run_source.declared.state.Activation.{Activation}
use Rattle.pass_kept_proof.specs.run_source.declared.state.Instance.{Instance}
use Rattle.pass_kept_proof.specs.run_source.declared.state.Mode.{Mode}
use Rattle.pass_renewed_proof.proofs.Left.{left_closed}
use Rattle.pass_renewed_proof.proofs.Way.{away_unused, barred_unused, meets_in}
use Rattle.pass_renewed_proof.specs.Ahead.{HasAwayUse, IsBehindSuspendCall}
use Rattle.pass_renewed_proof.specs.Beside.{IsActivationBeside, IsSlotBeside, MayStand, NotLeft, place_in}
use Rattle.pass_renewed_proof.specs.Ledger.{Ledger}
use Rattle.pass_renewed_proof.specs.Left.{IsLeftAt, IsLeftBy}
use Rattle.pass_renewed_proof.specs.Ordinary.{IsOrdinary}
use Rattle.pass_renewed_proof.specs.Renewed.{Flags, Roots}
use Rattle.pass_renewed_proof.specs.Way.{IsResumedAt}
use Rattle.pass_kept_proof.specs.rule_windows.Windows.{own_edges}

-- ---- a resumed activation comes to the end block at its first point alone

-- the last edge of a path comes from a point that isn't avoided
last_edge : (f : Function) (avoided : List Point) (r : Point) (between : List Point) (p : Point)
    → has_point avoided r ≡ false → IsPath f avoided r between p
    → (v : Point) × ((has_point (nexts f v) p ≡ true) × (has_point avoided v ≡ false))
last_edge f avoided r [] p out path = (r, (path, out))
last_edge f avoided r (v ∷ between) p out path = last_edge f avoided v between p path.1 path.2

first_of : (f : Function) (labels : List ℕ) (p : Point) → has_point (map (entry_point f) labels) p ≡ true → p.at ≡ 0
first_of f [] p h = absurd (false≢true h)
first_of f (label ∷ labels) p h = ⊎_elim (λ e. ap (λ (q : Point). q.at) (same_point_same p (entry_point f label) e))
    (λ k. first_of f labels p k) (either (same_point p (entry_point f label)) _ h)

module _ (f : Function) (v p : Point) (out : has_point (end_points f) v ≡ false) (is_end : p.block ≡ end_block f) where
  from_within : (b : Block) → slice_get f.blocks v.block ≡ Some b → v.at < length b.instrs
      → p ≡ record { block = v.block; at = v.at + 1 } → ⊥
  from_within b e lt is =
      let same : v.block ≡ end_block f = ap (λ (q : Point). q.block) (sym is) ∙ is_end in
      false≢true (sym out ∙ end_complete f v (record { block = b; is_block = e; within = omega arith }) same)

  comes_first : (o : Option Block) → slice_get f.blocks v.block ≡ o → has_point (nexts_in f v o) p ≡ true → p.at ≡ 0
  comes_first None e h = absurd (false≢true h)
  comes_first (Some b) e h = on (nat_lt v.at (length b.instrs)) refl (v.at == length b.instrs) h
    where
      less : (a n : ℕ) → nat_lt a n ≡ true → a < n
      less a n h = grind arith

      on : (t : Bool) → nat_lt v.at (length b.instrs) ≡ t → (u : Bool)
          → has_point (if t then record {
            block = v.block;
            at = v.at + 1;
          } ∷ [] else if u then map (entry_point f) (targets b.term) else []) p ≡ true → p.at ≡ 0
      on true et u h = ⊎_elim
          (λ k. absurd (from_within b e (less v.at (length b.instrs) et) (same_point_same p _ k)))
          (λ k. absurd (false≢true k))
          (either (same_point p (record { block = v.block; at = v.at + 1 })) false h)
      on false et true h = first_of f (targets b.term) p h
      on false et false h = absurd (false≢true h)

edge_first : (f : Function) (s r : Point) → has_point (own_edges f s) r ≡ true → r.at ≡ 0
edge_first f s r h = first_of f (resume_label f s ∷ destroy_label f s ∷ []) r h

pub end_at_first : (f : Function) (p : Point) → IsResumedAt f p → p.block ≡ end_block f → p.at ≡ 0
end_at_first f p r is_end = on r.came.comes
  where
    on : Comes f (end_points f) r.came.edge p → p.at ≡ 0
    on (inl e) = ap (λ (q : Point). q.at) (sym e) ∙ edge_first f r.suspend r.came.edge r.came.own
    on (inr h) =
        let l = last_edge f (end_points f) r.came.edge h.1.between p h.0 h.1.is_path in
        comes_first f l.0 p l.1.1 is_end (slice_get f.blocks l.0.block) refl l.1.0

-- ---- uses

-- a use stands where the activation does: at its place, or on an edge from there
pub record IsSpotOf (f : Function) (a : Activation) (spot : Spot) : Type 0 where
  pub at : point_at f spot ≡ place_in a
  pub not_last : a.mode ≡ Mode.Resumed → a.block ≡ end_block f → ⊥
  pub closed : a.has_left ≡ true → IsClosed f (place_in a)
  pub meets : a.has_left ≡ true → (s : Point) → IsCallAt Intrinsic.CoroSuspend f s → IsLeftBy f s (place_in a)
      → MeetsLater f spot s

module _ (m : Module) (flags : Flags) (roots : Roots) (l : Ledger) (xs : List Instance) (memory target : List
    MemoryBlock) (depth : ℕ) (a b : Activation) (h : IsActivationBeside m flags roots l xs memory target depth a b)
  where
    abbrev f : Function
    f = function_at m a.func

    pub at_place : IsOrdinary (function_at m a.func) (place_in a)
        → IsSpotOf (function_at m a.func) a (At (place_in a))
    at_place ordinary = record {
      at = refl;
      not_last = λ is e. ordinary.no_end e (end_at_first (function_at m a.func) (place_in a) (h.came is) e);
      closed = λ left. let at : IsLeftAt (function_at m a.func) (place_in a) = h.left left in
          left_closed (function_at m a.func) at.suspend (place_in a) at.is_call ordinary.no_suspend ordinary.no_switch
          ordinary.no_end at.by;
      meets = λ left s call by. meets_in (function_at m a.func) s (place_in a) call ordinary.no_suspend
          (λ e. ordinary.no_switch (subst (λ q. IsBehindSuspendCall f q.block q.at) (sym e) (record {
            before = s.at;
            next = refl;
            is_suspend = call;
          }))) ordinary.no_end by;
    }

    module _ (spot : Spot) (is_spot : IsSpotOf (function_at m a.func) a spot) where
      -- what is used by an activation that has left is used in a window or after the end
      pub used_away : (alloca : ℕ) → IsUse (function_at m a.func) alloca spot → a.has_left ≡ true
          → HasAwayUse (function_at m a.func) alloca
      used_away alloca u left = record {
        spot = spot;
        is_use = u;
        is_away = subst (IsClosed (function_at m a.func)) (sym is_spot.at) (is_spot.closed left);
      }

      -- a resumed activation that has left uses no slot
      pub no_use_away : (alloca : ℕ) → (¬ NeedsFrame (function_at m a.func) alloca)
          → IsUse (function_at m a.func) alloca spot → a.mode ≡ Mode.Resumed
          → HasAwayUse (function_at m a.func) alloca → ⊥
      no_use_away alloca local u is away = away_unused (function_at m a.func) alloca local away (place_in a) spot
          (h.came is) is_spot.at (is_spot.not_last is) u

      pub use_stands : (alloca c d : ℕ) → (¬ NeedsFrame (function_at m a.func) alloca)
          → IsUse (function_at m a.func) alloca spot → IsSlotBeside m l xs memory target depth a alloca c d
          → MayStand l memory c d
      use_stands alloca c d local u s = on a.has_left refl h.modes
        where
          first : (a.mode ≡ Mode.Resumed → ⊥) → (t : Bool) → a.has_left ≡ t → MayStand l memory c d
          first is false e = s.first is (inl (NotLeft e))
          first is true e = s.first is (inr (used_away alloca u e))

          resumed : a.mode ≡ Mode.Resumed → (t : Bool) → a.has_left ≡ t → MayStand l memory c d
          resumed is true e = absurd (no_use_away alloca local u is (used_away alloca u e))
          resumed is false e = ⊎_elim (λ k. k)
              (λ k. ⊎_elim
              (λ barred. absurd (barred_unused (function_at m a.func) alloca local (place_in a) spot barred is_spot.at
              (is_spot.not_last is) u))
              (λ away. absurd (no_use_away alloca local u is away))
              k)
              (s.resumed is (NotLeft e))

          on : (t : Bool) → a.has_left ≡ t → (a.mode ≡ Mode.Plain) ⊎ ((a.mode ≡ Mode.Ramp) ⊎ (a.mode ≡ Mode.Resumed))
              → MayStand l memory c d
          on t e (inl is) = first (λ k. let z : Mode.Plain ≡ Mode.Resumed = sym is ∙ k in absurd (cc)) t e
          on t e (inr (inl is)) = first (λ k. let z : Mode.Ramp ≡ Mode.Resumed = sym is ∙ k in absurd (cc)) t e
          on t e (inr (inr is)) = resumed is t e
