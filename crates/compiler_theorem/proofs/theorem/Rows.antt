-- The rows of the theorem: what each pass costs, up to the framed form and from there on.
use Rattle.std.proofs.Common.{◌≡◌, ℕ, ◌*◌, ◌≤◌, true, Some, arith}
use Rattle.std.specs.Prelude.{slice_get}
use Rattle.compiler.proofs.run_agreement.Compose.{compose_within, weaken}
use Rattle.compiler.proofs.run_agreement.Costs.{agrees_within, agrees_within_by_steps, cost_above}
use Rattle.compiler.specs.run_agreement.Agreements.{AgreesWithin}
use Rattle.compiler.specs.run_agreement.Costs.{AgreesBy, Through, cost_at}
use Rattle.compiler.specs.run_agreement.Factor.{size_factor}
use Rattle.compiler.specs.run_agreement.Machines.{IsFine, Machine, at, state_at}
use Rattle.compiler.specs.ir_model.Names.{function_at}
use Rattle.compiler.specs.run_framed.Framed.{layout_of}
use Rattle.compiler.specs.run_source.declared.state.Instance.{Instance}
use Rattle.compiler.specs.run_source.declared.state.State.{State}
use Rattle.compiler_theorem.proofs.theorem.Framing.{framing}
use Rattle.compiler_theorem.proofs.theorem.Needed.{split_needed}
use Rattle.compiler_theorem.proofs.theorem.shown.Bytes.{framed_bytes}
use Rattle.compiler_theorem.proofs.theorem.shown.Conflicting.{conflicts_there, suspend_number}
use Rattle.compiler_theorem.proofs.theorem.shown.Crossed.{fields_kept}
use Rattle.compiler_theorem.proofs.theorem.shown.Found.{held_slot, slot_field, value_field}
use Rattle.compiler_theorem.proofs.theorem.shown.Moved.{moved}
use Rattle.compiler_theorem.proofs.theorem.shown.Shown.{fields_shown}
use Rattle.compiler_theorem.proofs.theorem.shown.Slots.{coroutine, slots_shown}
use Rattle.compiler_theorem.proofs.theorem.shown.Small.{small_offsets}
use Rattle.compiler_theorem.specs.theorem.Anew.{Anew, IsAnewOf}
use Rattle.compiler_theorem.specs.theorem.Asked.{asking}
use Rattle.compiler_theorem.specs.theorem.Built.{building}
use Rattle.compiler_theorem.specs.theorem.Conflicting.{HasConflicts}
use Rattle.compiler_theorem.specs.theorem.Entries.{IsEntryCall, Run}
use Rattle.compiler_theorem.specs.theorem.Lowered.{HasFewBytes, IsLowered, Lowered, early, edged, framed_run, kept_run, price_kept, sizes_of, source_run}
use Rattle.compiler_theorem.specs.theorem.Rows.{joined}
use Rattle.compiler_theorem.specs.theorem.SharedBytes.{AreShown, HaveSlotFields, HaveValueFields}
use Rattle.compiler_theorem.specs.theorem.ShownSlots.{step_homes}
use Rattle.compiler_theorem.specs.theorem.Theorem.{AreMadeAnew, IsSomewhereShown, prices_of}
use Rattle.compiler_theorem.proofs.theorem.Paying.{runs_paid}
use Rattle.compiler_theorem.proofs.theorem.Paid.{frames_paid}
use Rattle.compiler_theorem.proofs.kinds.Blank.{blank_kept}
use Rattle.compiler_theorem.proofs.theorem.Steps.{covered_followed}
use Rattle.pass_frames_meaning.specs.Blank.{IsBlankState}
use Rattle.pass_frames_prices.proofs.priced.Within.{factor_less}
use Rattle.pass_frames_prices.specs.FramePrices.{frames_factor}
use Rattle.run_accepted.proofs.Sources.{source_rules}
use Rattle.pass_frames_meaning.specs.pass_frames_proof.Related.{AreBuiltOf, AreShownAlike}
use Rattle.pass_frames_meaning.specs.pass_renewed_meaning.Followed.{AreAlike}
use Rattle.compiler.proofs.pass_proofs.kept.sources.States.{split_corresponds}
use Rattle.compiler.specs.pass_proofs.kept.sources.Beside.{IsKeptOf, IsNearlyKeptOf}

-- each step costs 1 or more
pub at_least : {T : Type 0} (b : Machine T) (n : ℕ) → n ≤ cost_at b (λ t. 1) n
at_least b n = least n (cost_at b (λ t. 1) n) (cost_above b.step (λ t. 1) 1 (λ t. omega arith) n b.start)
  where
    least : (n x : ℕ) → 1 * n ≤ x → n ≤ x
    least n x h = omega arith

module _ (a : Anew) (l : Lowered) (low : IsLowered l) (few : HasFewBytes l) (anew : IsAnewOf (early l) a) (r : Run)
    (call : IsEntryCall l.source r) where
  -- what frames are built of
  abbrev Framed : State → State → Type 0
  Framed = AreBuiltOf (building l low.is_framed r.answers)

  abbrev NearlyFramed : State → State → Type 0
  NearlyFramed = AreShownAlike (building l low.is_framed r.answers)

  abbrev Handed : State → State → Type 0
  Handed = IsKeptOf l.source (sizes_of l) r.answers

  abbrev NearlyHanded : State → State → Type 0
  NearlyHanded = IsNearlyKeptOf l.source (sizes_of l) r.entry r.args r.answers

  -- Source to Kept
  pub to_kept : AgreesBy Handed NearlyHanded (source_run l r) (λ s. 4) (kept_run l a r) (λ t. 1)
  to_kept = split_corresponds l.text l.source low.source.stands low.source.accepted a.keep
      (split_needed l low a anew) (sizes_of l) r.entry r.args r.answers

  -- Kept to Framed
  pub to_framed : AgreesBy (Through (AreMadeAnew l a) Framed) (Through AreAlike NearlyFramed) (kept_run l a r)
      (price_kept l a r (prices_of l low a)) (framed_run l l.framed r) (λ t. 1)
  to_framed = framing l low few a anew (prices_of l low a) r call (IsBlankState (asking l low a r))
      (blank_kept l low few a anew r call) (covered_followed l low few a anew r call)
      (frames_paid l low a r few anew call)

  -- Source to Framed, by the names of the function that has most
  pub framed_few : AgreesWithin (4 * (4 * frames_factor l.source)) (at (source_run l r))
      (at (framed_run l l.framed r))
  framed_few =
      compose_within 4 (4 * frames_factor l.source) (at (source_run l r)) (at (kept_run l a r))
      (at (framed_run l l.framed r))
      (agrees_within_by_steps Handed NearlyHanded (source_run l r) (λ s. 4) (kept_run l a r) (λ t. 1) 4
      (λ s. omega arith) (λ t. omega arith) to_kept)
      (agrees_within (Through (AreMadeAnew l a) Framed) (Through AreAlike NearlyFramed) (kept_run l a r) (price_kept l a r (prices_of l low a))
      (framed_run l l.framed r) (λ t. 1) (4 * frames_factor l.source)
      (runs_paid l low few a anew r call) (at_least (framed_run l l.framed r)) to_framed)

  -- so by the step factor's
  pub framed_within : AgreesWithin (4 * (4 * size_factor l.source)) (at (source_run l r))
      (at (framed_run l l.framed r))
  framed_within =
      let less : frames_factor l.source ≤ size_factor l.source =
      factor_less l.source
      (λ k f there. (source_rules l.text l.source low.source.stands low.source.accepted k f there).calls) in
      record {
        runs = weaken (4 * (4 * frames_factor l.source)) 0 (4 * (4 * size_factor l.source)) 0 (at (source_run l r))
            (at (framed_run l l.framed r)) (larger (frames_factor l.source) (size_factor l.source) less) (omega arith)
            framed_few.runs;
        counts = framed_few.counts;
      }
    where
      larger : (m n : ℕ) → m ≤ n → 4 * (4 * m) ≤ 4 * (4 * n)
      larger m n h = omega (arith, h)

  -- ---- states in a row

  module _ (n k m : ℕ) (u : State) (kept : Handed (state_at (source_run l r) n) (state_at (kept_run l a r) k))
      (made : AreMadeAnew l a (state_at (kept_run l a r) k) u)
      (built : Framed u (state_at (framed_run l l.framed r) m)) where
    abbrev s : State
    s = state_at (source_run l r) n

    abbrev v : State
    v = state_at (kept_run l a r) k

    abbrev t : State
    t = state_at (framed_run l l.framed r) m

    -- instances are of coroutines
    coroutines : (i : ℕ) (x : Instance) → slice_get s.instances i ≡ Some x
        → (function_at (early l) x.coroutine).coroutine ≡ true
    coroutines i x e = coroutine l low a anew r n v u t kept made built i x e

    -- a value that crosses the suspend of an instance has a field
    value_fields : (i : ℕ) (x : Instance) → slice_get s.instances i ≡ Some x
        → HaveValueFields l.source (layout_of l.layouts.coroutines x.coroutine) x
    value_fields i x e p values v is crosses =
        let j = suspend_number l low few a anew r call n k kept coroutines i x e p values is in
        value_field l low a anew r x.coroutine (coroutines i x e) j.0 v p j.1 crosses

    -- and so has a frame slot of it
    slot_fields : (i : ℕ) (x : Instance) → slice_get s.instances i ≡ Some x
        → HaveSlotFields l.source (layout_of l.layouts.coroutines x.coroutine) s x
    slot_fields i x e slot w among class there =
        slot_field l low r x.coroutine (coroutines i x e) slot.alloca w.size
        (held_slot l low few a anew r call k s kept i x e (coroutines i x e) slot among class w there)

    -- slots and fields
    both_shown : AreShown l.source l.layouts.coroutines s t
    both_shown = record {
      homes = joined (step_homes (edged l) a.flags a.roots v u made) built.homes;
      each = λ i x e unfreed.
          let slots = slots_shown l low a anew r n v u t kept made built i x e in
          let fields = fields_shown l low a r s v u t (fields_kept l low a anew r) (small_offsets l r n) kept made built
          (framed_bytes l low a anew r call m) i x e unfreed slots.0 in (
            slots.0,
            record {
              moved = moved l low a anew r s v u t kept made built i x e (coroutines i x e) slots.0;
              slot_fields = slot_fields i x e;
              slots = slots.1;
              value_fields = value_fields i x e;
              values = fields.0;
              distances = fields.1;
            },
          );
    }

    -- what conflicts
    both_conflict : HasConflicts l.source s
    both_conflict = conflicts_there l low few a anew r call n k kept coroutines

  -- what is shown in frames
  pub somewhere_shown : (n : ℕ) → IsFine (at (source_run l r) n).outcome → IsSomewhereShown l r n
  somewhere_shown n fine =
      let x = to_kept.forward n fine in
      let y = to_framed.forward x.steps (x.unstuck x.steps (omega arith)) in
      record {
        steps = y.steps;
        shown = both_shown n x.steps y.steps y.related.0 x.related y.related.1 y.related.2;
      }

  -- and which fields conflict
  pub fields_conflict : (n : ℕ) → IsFine (at (source_run l r) n).outcome
      → HasConflicts l.source (state_at (source_run l r) n)
  fields_conflict n fine =
      let x = to_kept.forward n fine in
      let y = to_framed.forward x.steps (x.unstuck x.steps (omega arith)) in
      both_conflict n x.steps y.steps y.related.0 x.related y.related.1 y.related.2
