-- What is known of each access ahead of begin, in each state of the run of an accepted source, and so it is followed.
use Rattle.std.proofs.Common.{◌≡◌, ◌⊎◌, inl, inr, ℕ, suc, ◌<◌, true, List, [], ◌∷◌, length, map, Option, Some, None}
use Rattle.std.proofs.Common.{refl, sym, ap, ◌∙◌, subst, arith}
use Rattle.std.specs.List.{Contains}
use Rattle.compiler_theorem.proofs.accesses.Places.{place_before}
use Rattle.compiler_theorem.proofs.accesses.Stored.{early_entry, stores_none, unused_early}
use Rattle.compiler_theorem.proofs.apart.EarlyOnce.{early_once}
use Rattle.compiler_theorem.proofs.apart.Facts.{own_rules}
use Rattle.compiler_theorem.proofs.known.Names.{framed, framed_function}
use Rattle.compiler_theorem.proofs.known.Runs.{follow_known, known, run}
use Rattle.compiler_theorem.proofs.known.Sources.{source_known}
use Rattle.compiler_theorem.proofs.known.Unused.{uses_early}
use Rattle.compiler_theorem.proofs.theorem.Asked.{asked_kept}
use Rattle.compiler_theorem.proofs.theorem.Stepping.{same, switches}
use Rattle.compiler_theorem.specs.known.Counts.{counts, own}
use Rattle.compiler_theorem.specs.theorem.Anew.{Anew, IsAnewOf}
use Rattle.compiler_theorem.specs.theorem.Asked.{asking}
use Rattle.compiler_theorem.specs.theorem.Between.{renewing}
use Rattle.compiler_theorem.specs.theorem.Entries.{IsEntryCall, Run}
use Rattle.compiler_theorem.specs.theorem.Lowered.{HasFewBytes, IsLowered, Lowered, early, edged}
use Rattle.compiler.specs.flow_solver.Paths.{IsListed}
use Rattle.compiler.specs.ir_base.declared.outcome.Outcome.{Outcome}
use Rattle.compiler.specs.ir_laws.paths.woven_rules.Pairs.{AreDifferent}
use Rattle.compiler.specs.ir_model.Names.{function_at}
use Rattle.compiler.specs.ir_model.declared.instr.Instr.{Instr}
use Rattle.compiler.specs.ir_model.declared.module.Function.{Function}
use Rattle.compiler.specs.ir_model.declared.operand.Operand.{Operand}
use Rattle.compiler.specs.ir_parts.Contents.{instr_operands}
use Rattle.compiler.specs.pass_copies.Uses.{is_access}
use Rattle.compiler.specs.pass_copies.declared.slot.EarlySlot.{EarlySlot}
use Rattle.compiler.specs.pass_fetch.Fetching.{fetch_of}
use Rattle.compiler.specs.pass_fetch.declared.fetch.Fetch.{Fetch}
use Rattle.pass_frames_meaning.proofs.coroutines.Located.{located_followed}
use Rattle.pass_frames_meaning.proofs.known.Operands.{behind, each_of, of_each}
use Rattle.pass_frames_meaning.proofs.ordinary.Standing.{below}
use Rattle.pass_frames_meaning.specs.Accesses.{MayAccess}
use Rattle.pass_frames_meaning.specs.Led.{AreLedWith, IsLedBy}
use Rattle.pass_frames_meaning.specs.Setting.{AreOfRuns, Setting}
use Rattle.pass_frames_meaning.specs.Unbegun.{IsBefore}
use Rattle.pass_frames_meaning.proofs.pass_frames_proof.lines.Cells.{contained}
use Rattle.pass_frames_meaning.specs.pass_frames_proof.Code.{is_ahead}
use Rattle.pass_frames_meaning.specs.pass_frames_proof.Distances.{IsBelow}
use Rattle.pass_frames_meaning.specs.pass_frames_proof.Followed.{IsFollowed}
use Rattle.pass_frames_meaning.specs.pass_frames_proof.Framings.{IsFraming}
use Rattle.pass_frames_meaning.specs.pass_frames_proof.Located.{Early, IsEarlyOperand, IsLocatedOperand, Other, StoresNone, where_table}
use Rattle.pass_frames_meaning.specs.pass_frames_proof.Places.{Framing, copies}
use Rattle.pass_frames_meaning.specs.pass_frames_proof.Places as place
use Rattle.pass_frames_meaning.specs.pass_frames_proof.Related.{AreBuiltOf, is_coroutine}
use Rattle.pass_frames_meaning.specs.pass_frames_proof.Stepping.{IsNotEntering, state_in}
use Rattle.pass_frames_meaning.specs.pass_frames_proof.Temporaries.{HasLedSlots}
use Rattle.pass_frames_meaning.specs.pass_renewed_proof.Renewed.{renewed_step}
use Rattle.pass_frames_meaning.proofs.run_hooks.Keeping.{renewed_keeps}
use Rattle.pass_frames_meaning.proofs.run_hooks.Reaching.{states_reached}
use Rattle.pass_frames_meaning.specs.run_hooks.Meanings.{renewed_hooks}
use Rattle.pass_frames_meaning.specs.run_hooks.Reached.{IsReachedState}
use Rattle.compiler.specs.rule_laws.rules.function_rules.Kept.{KeepsFunctionRules}
use Rattle.compiler.specs.run_agreement.Machines.{IsFine}
use Rattle.compiler.specs.run_memory.declared.pointer.Value.{Value}
use Rattle.compiler.specs.run_source.declared.state.Mode.{Mode}
use Rattle.compiler.specs.run_source.declared.state.State.{State}
use Rattle.compiler.specs.run_step.Step.{AtInstr, fetch}
use Rattle.compiler.specs.run_step.Values.{pointer_to, value_in}
use Rattle.compiler.specs.run_step.declared.world.Slot.{Slot}

-- the name leads to one of the slots, or has no value
abbrev IsLedOr : List Slot → ℕ → Value → Type 0
IsLedOr slots v x =
    (x ≡ Value.Poison) ⊎ ((slot : Slot) × Contains slots slot × (slot.alloca ≡ v) × (x ≡ pointer_to slot.block))

led_or : (slots : List Slot) (v : ℕ) (x : Value) → IsLedBy slots v x → IsLedOr slots v x
led_or [] v x h = inl h
led_or (s ∷ ss) v x (inl h) = inr (s, (0, omega arith, refl), h.0, h.1)
led_or (s ∷ ss) v x (inr h) = on (led_or ss v x h)
  where
    on : IsLedOr ss v x → IsLedOr (s ∷ ss) v x
    on (inl e) = inl e
    on (inr z) =
        let lt = z.1.1 in
        inr (z.0, (suc z.1.0, omega (arith, lt), z.1.2), z.2, z.3)

-- of two slots that are used before begin each has a name of its own
name_listed : (es : List EarlySlot) (e : EarlySlot) → IsListed e es
    → IsListed e.slot (map (λ (z : EarlySlot). z.slot) es)
name_listed [] e l = absurd l
name_listed (z ∷ es) e (inl same) = inl (ap (λ (y : EarlySlot). y.slot) same)
name_listed (z ∷ es) e (inr l) = inr (name_listed es e l)

one_slot : (es : List EarlySlot) → AreDifferent (map (λ (z : EarlySlot). z.slot) es) → (e z : EarlySlot)
    → IsListed e es → IsListed z es → e.slot ≡ z.slot → e ≡ z
one_slot [] h e z k l same = absurd k
one_slot (y ∷ es) h e z (inl k) (inl l) same = k ∙ sym l
one_slot (y ∷ es) h e z (inl k) (inr l) same =
    let first : z.slot ≡ y.slot = sym same ∙ ap (λ (w : EarlySlot). w.slot) k in
    absurd (h.0 (subst (λ (n : ℕ). IsListed n (map (λ (w : EarlySlot). w.slot) es)) first (name_listed es z l)))
one_slot (y ∷ es) h e z (inr k) (inl l) same =
    let first : e.slot ≡ y.slot = same ∙ ap (λ (w : EarlySlot). w.slot) l in
    absurd (h.0 (subst (λ (n : ℕ). IsListed n (map (λ (w : EarlySlot). w.slot) es)) first (name_listed es e k)))
one_slot (y ∷ es) h e z (inr k) (inr l) same = one_slot es h.1 e z k l same

module _ (l : Lowered) (low : IsLowered l) (few : HasFewBytes l) (a : Anew) (anew : IsAnewOf (early l) a) (r : Run)
    (entered : IsEntryCall l.source r) where
  abbrev c : Setting
  c = asking l low a r

  -- activations are at reached places
  reached : (n : ℕ) → IsReachedState (renewing l a r).given (run l low few a anew r entered n)
  reached n = subst (IsReachedState (renewing l a r).given) (sym (same l low few a anew r entered n))
      (states_reached (renewed_hooks (renewing l a r)) (switches l low few a anew r entered)
      (renewed_keeps (renewing l a r)) r.entry r.args n)

  module _ (n : ℕ) (runs : (run l low few a anew r entered n).outcome ≡ Outcome.Running)
      (coroutine : is_coroutine (asking l low a r).b (run l low few a anew r entered n).top.func ≡ true)
      (calm : IsNotEntering (run l low few a anew r entered n).top.mode)
      (ramp : (run l low few a anew r entered n).top.instance ≡ None
      → (run l low few a anew r entered n).top.mode ≡ Mode.Ramp)
      (i : Instr)
      (there : fetch (function_at (edged l) (run l low few a anew r entered n).top.func)
      (run l low few a anew r entered n).top.block (run l low few a anew r entered n).top.at ≡ AtInstr i)
      (access : is_access i ≡ true)
      (ahead : is_ahead (state_in ((asking l low a r).b.framing (run l low few a anew r entered n).top.func)
      (run l low few a anew r entered n).top.block (run l low few a anew r entered n).top.at) ≡ true) where
    abbrev s : State
    s = run l low few a anew r entered n

    abbrev x : Framing
    x = c.b.framing s.top.func

    is : IsFraming ((asking l low a r).b.framing (run l low few a anew r entered n).top.func)
    is = framed l low few a anew r entered s.top.func coroutine

    keeps : KeepsFunctionRules ((asking l low a r).b.framing (run l low few a anew r entered n).top.func).code
        (run l low few a anew r entered n).top.func
        ((asking l low a r).b.framing (run l low few a anew r entered n).top.func).function
    keeps = own_rules l low a r s.top.func coroutine

    before : IsBefore (function_at (edged l) (run l low few a anew r entered n).top.func)
        (run l low few a anew r entered n).top.block (run l low few a anew r entered n).top.at
    before = place_before l low few a anew r entered s.top.func coroutine s.top.block s.top.at i there ahead
        (reached n).top.reached

    same_function : function_at (edged l) (run l low few a anew r entered n).top.func
        ≡ place.edged ((asking l low a r).b.framing (run l low few a anew r entered n).top.func)
    same_function = framed_function l low few a anew r entered s.top.func coroutine

    stored : StoresNone ((asking l low a r).b.framing (run l low few a anew r entered n).top.func) i
    stored = stores_none x is s.top.func keeps s.top.block s.top.at i
        (ap (λ (f : Function). fetch f s.top.block s.top.at) (sym same_function) ∙ there)
        (subst (λ (f : Function). IsBefore f s.top.block s.top.at) same_function before)

    low_name : (v : ℕ) → IsListed (Operand.Local v) (instr_operands i)
        → v < length (place.edged ((asking l low a r).b.framing (run l low few a anew r entered n).top.func)).names
    low_name v listed =
        of_each (IsBelow (length (place.edged x).names)) (instr_operands i)
        (below c (asked_kept l low few a anew r) s (known l low few a anew r entered n).sound coroutine calm i there)
        (Operand.Local v) listed

    is_early : (v : ℕ) (f : Fetch)
        → fetch_of (where_table ((asking l low a r).b.framing (run l low few a anew r entered n).top.func))
        (Operand.Local v) ≡ Some f → IsListed (Operand.Local v) (instr_operands i)
        → IsEarlyOperand ((asking l low a r).b.framing (run l low few a anew r entered n).top.func)
        (run l low few a anew r entered n) v
    is_early v f e listed =
        let d = early_entry x is s.top.func keeps v f e in
        let k = source_known l low few a anew r entered in
        let own_known = known l low few a anew r entered n in
        record {
          offset = d.0;
          lies = d.1;
          before = λ none.
              led_or s.top.slots v (value_in s.top.values v)
              ((subst (λ (q : Option ℕ). AreLedWith (counts l a r s.top.func) (function_at (edged l) s.top.func)
              s.instances q s.top.slots s.top.values) none (own_known.led runs).stack.0).counted v
              (k.counted s.top.func v d.0 coroutine (low_name v listed) d.1));
          behind = λ number has z offset.
              behind c (counts l a r) (own l a r) (asked_kept l low few a anew r) k s own_known runs coroutine number has v
              z (low_name v listed) offset;
        }

    located : (o : Operand) → IsListed o (instr_operands i)
        → IsLocatedOperand ((asking l low a r).b.framing (run l low few a anew r entered n).top.func)
        (run l low few a anew r entered n) o
    located (Operand.Local v) listed = on (fetch_of (where_table x) (Operand.Local v)) refl
      where
        on : (q : Option Fetch)
            → fetch_of (where_table ((asking l low a r).b.framing (run l low few a anew r entered n).top.func))
            (Operand.Local v) ≡ q
            → IsLocatedOperand ((asking l low a r).b.framing (run l low few a anew r entered n).top.func)
            (run l low few a anew r entered n) (Operand.Local v)
        on None e = Other (Operand.Local v) e (λ d offset.
            absurd (uses_early l low few a anew r entered s.top.func s.top.block s.top.at i coroutine there access v d
            listed offset (unused_early x is s.top.func keeps v e) before))
        on (Some f) e = Early v f e (is_early v f e listed)
    located (Operand.Global m) listed = Other (Operand.Global m) refl tt
    located (Operand.Number z) listed = Other (Operand.Number z) refl tt
    located Operand.True listed = Other Operand.True refl tt
    located Operand.False listed = Other Operand.False refl tt
    located Operand.Null listed = Other Operand.Null refl tt
    located Operand.None listed = Other Operand.None refl tt
    located Operand.Poison listed = Other Operand.Poison refl tt

    pub access_known : MayAccess (asking l low a r) (run l low few a anew r entered n) i
    access_known = record {
      ramp = ramp;
      operands = each_of (IsLocatedOperand x s) (instr_operands i) located;
      stored = stored;
      once = λ e z k h. one_slot (copies x).slots (early_once x is) e z (contained (copies x).slots e k)
          (contained (copies x).slots z h);
    }

    -- so it is followed
    pub access_located : (t : State) (built : AreBuiltOf (asking l low a r).b (run l low few a anew r entered n) t)
        → AreOfRuns (asking l low a r) (run l low few a anew r entered n) t built
        → IsFine (renewed_step (renewing l a r) (run l low few a anew r entered n)).outcome → HasLedSlots t
        → IsFollowed (asking l low a r).b (asking l low a r).g (run l low few a anew r entered n) t
    access_located t built of_runs fine ledger =
        located_followed c (asked_kept l low few a anew r) s t built of_runs runs fine coroutine calm
        (follow_known l low few a anew r entered n runs coroutine) ledger i there access ahead access_known
