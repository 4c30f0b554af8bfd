-- A function that breaks none of the rules keeps what is asked of live slots.
use Rattle.std.proofs.Common.{◌≡◌, inl, inr, ℕ, zero, suc, ◌+◌, Bool, true, false, List, [], ◌∷◌, ◌++◌, Option, Some}
use Rattle.std.proofs.Common.{None}
use Rattle.std.proofs.Common.{refl, sym, ap, ◌∙◌, subst, arith}
use Rattle.std.specs.Prelude.{IsTrue, flat_map, slice_get, ◌==◌, ◌||◌}
use Rattle.pass_proofs.proofs.ir_laws.facts.Truth.{itself}
use Rattle.pass_proofs.specs.ir_model.Ty.{Ty}
use Rattle.pass_proofs.specs.ir_model.declared.instr.Instr.{Instr}
use Rattle.pass_proofs.specs.ir_model.declared.module.Block.{Block}
use Rattle.pass_proofs.specs.ir_model.declared.module.Function.{Function}
use Rattle.pass_proofs.specs.ir_model.declared.module.Module.{Module}
use Rattle.pass_proofs.specs.ir_model.declared.operand.Intrinsic.{Intrinsic}
use Rattle.pass_proofs.proofs.ir_paths.Right.{facts_of_right}
use Rattle.pass_proofs.proofs.ir_paths.Search.{or_left, or_right}
use Rattle.pass_proofs.specs.ir_paths.Facts.{facts_of}
use Rattle.pass_proofs.specs.ir_paths.Slots.{IsRampSlot, allocas_in, allocas_of, has_name}
use Rattle.pass_proofs.specs.ir_paths.Windows.{end_block, instr_in}
use Rattle.pass_proofs.specs.ir_paths.declared.point.Point.{Point}
use Rattle.pass_proofs.specs.pass_kept_proof.Handed.{HasPlainNames}
use Rattle.pass_proofs.specs.pass_kept_proof.SuspendRules.{IsCallAt}
use Rattle.pass_proofs.proofs.early.save_simulation.Suspending.{fetch_at}
use Rattle.pass_proofs.proofs.kept.sources.Closed.{no_return, not_behind_end, save_ends}
use Rattle.pass_proofs.proofs.kept.sources.Names.{plain_names}
use Rattle.pass_renewed_meaning.proofs.pass_renewed_proof.Ahead.{next_edge}
use Rattle.pass_renewed_meaning.proofs.pass_renewed_proof.Left.{after_edge, end_next}
use Rattle.pass_renewed_meaning.specs.pass_renewed_proof.SlotRules.{IsMadeOnce}
use Rattle.pass_proofs.proofs.rule_laws.rules.sources.Places.{instr_there, point}
use Rattle.pass_proofs.specs.rule_laws.rules.function_rules.Kept.{KeepsFunctionRules}
use Rattle.pass_proofs.specs.rule_laws.rules.path_rules.Paths.{KeepsPaths}
use Rattle.pass_proofs.specs.rule_laws.rules.path_rules.Shape.{KeepsShape}
use Rattle.pass_proofs.specs.rule_shape.OneOfEach.{wrong_call}
use Rattle.pass_proofs.specs.rule_windows.Sets.{IsAfterEnd}
use Rattle.run_accepted.proofs.Entries.{never_entered}
use Rattle.run_accepted.proofs.Marks.{marks_alloca, none_closed}
use Rattle.run_accepted.proofs.Once.{made_once}
use Rattle.run_accepted.proofs.Plain.{never_begun, never_closed, none_behind_end}
use Rattle.pass_renewed_meaning.specs.run_hooks.alive.Alive.{IsEnded, KeepsAliveRules}
use Rattle.pass_proofs.specs.run_step.Step.{AtInstr, fetch, fetch_in, fetch_or}

-- ---- an alloca is among those of its function

named_first : (xs ys : List ℕ) (v : ℕ) → has_name xs v ≡ true → has_name (xs ++ ys) v ≡ true
named_first [] ys v h = absurd (cc)
named_first (x ∷ xs) ys v h = on (x == v) (named_first xs ys v) h
  where
    on : (t : Bool) → (has_name xs v ≡ true → has_name (xs ++ ys) v ≡ true) → (t || has_name xs v) ≡ true
        → (t || has_name (xs ++ ys) v) ≡ true
    on true rest e = refl
    on false rest e = rest e

listed_in : (v : ℕ) (ty : Ty) (align : ℕ) (is : List Instr) (k : ℕ) → slice_get is k ≡ Some (Instr.Alloca v ty align)
    → has_name (allocas_in is) v ≡ true
listed_in v ty align [] k e = absurd (cc)
listed_in v ty align (i ∷ is) zero e =
    let same : i ≡ Instr.Alloca v ty align = cc in
    subst (λ (j : Instr). has_name (allocas_in (j ∷ is)) v ≡ true) (sym same)
    (or_left (v == v) _ (itself v))
listed_in v ty align (i ∷ is) (suc k) e = later i (listed_in v ty align is k e)
  where
    later : (i : Instr) → has_name (allocas_in is) v ≡ true → has_name (allocas_in (i ∷ is)) v ≡ true
    later (Instr.Alloca name t a) h = or_right (name == v) _ h
    later _ h = h

pub listed : (f : Function) (v : ℕ) → IsMadeOnce f v → IsTrue (has_name (allocas_of f) v)
listed f v made = on f.blocks made.stands
  where
    at_place : (b : Block) (o : Option Instr) (t : Bool) → fetch_or o t b.term
        ≡ AtInstr (Instr.Alloca v made.ty made.align)
        → o ≡ Some (Instr.Alloca v made.ty made.align)
    at_place b (Some j) t h = let same : j ≡ Instr.Alloca v made.ty made.align = cc in ap Some same
    at_place b None true h = absurd (cc)
    at_place b None false h = absurd (cc)

    on : (bs : List Block) → fetch_in (slice_get bs 0) made.at ≡ AtInstr (Instr.Alloca v made.ty made.align)
        → has_name (flat_map (λ b. allocas_in b.instrs) bs) v ≡ true
    on [] h = absurd (cc)
    on (b ∷ bs) h = named_first (allocas_in b.instrs) (flat_map (λ c. allocas_in c.instrs) bs) v
        (listed_in v made.ty made.align b.instrs made.at (at_place b _ _ h))

pub ramp_named : (f : Function) (a : ℕ) → IsMadeOnce f a → IsRampSlot f a → IsTrue (has_name (facts_of f).ramp_slots a)
ramp_named f a made is = ((facts_of_right f).ramp_slots a).1 (listed f a made, is)

-- ---- the end's block

-- an instruction stands before each other one of a block
before : (f : Function) (block n : ℕ) (i : Instr) → fetch f block (suc n) ≡ AtInstr i
    → (j : Instr) × (fetch f block n ≡ AtInstr j)
before f block n i e = on (slice_get f.blocks block) refl (instr_there f block (suc n) i e)
  where
    earlier : (is : List Instr) (n : ℕ) → slice_get is (suc n) ≡ Some i → (j : Instr) × (slice_get is n ≡ Some j)
    earlier [] n h = absurd (cc)
    earlier (x ∷ is) zero h = (x, refl)
    earlier (x ∷ is) (suc n) h = earlier is n h

    on : (o : Option Block) → slice_get f.blocks block ≡ o → instr_in o (suc n) ≡ Some i
        → (j : Instr) × (fetch f block n ≡ AtInstr j)
    on None d h = absurd (cc)
    on (Some b) d h =
        let x = earlier b.instrs n h in
        (x.0, fetch_at f (point block n) x.0 (ap (λ (o : Option Block). instr_in o n) d ∙ x.1))

first_of : (f : Function) (block at : ℕ) (i : Instr) → fetch f block at ≡ AtInstr i
    → (j : Instr) × (fetch f block 0 ≡ AtInstr j)
first_of f block zero i e = (i, e)
first_of f block (suc n) i e = let x = before f block n i e in first_of f block n x.0 x.1

module _ (f : Function) (end_there : IsCallAt Intrinsic.CoroEnd f (point (end_block f) 0)) where
  ended_at : (at : ℕ) (i : Instr) → fetch f (end_block f) at ≡ AtInstr i → IsEnded f (point (end_block f) at)
  ended_at zero i e = inl end_there
  ended_at (suc n) i e =
      let x = before f (end_block f) n i e in
      subst (λ (at : ℕ). IsEnded f (point (end_block f) at)) (next n) (inr (on x.0 x.1 (ended_at n x.0 x.1)))
    where
      next : (n : ℕ) → n + 1 ≡ suc n
      next n = omega arith

      on : (j : Instr) → fetch f (end_block f) n ≡ AtInstr j → IsEnded f (point (end_block f) n)
          → IsAfterEnd f (point (end_block f) (n + 1))
      on j d (inl c) = end_next f (point (end_block f) n) c
      on j d (inr a) = after_edge f (point (end_block f) n) (point (end_block f) (n + 1)) a
          (next_edge f (end_block f) n j d)

module _ (f : Function) (names : HasPlainNames f) where
  -- K2: the end stands first in its block
  pub ended : (p : Point) (i : Instr) → fetch f p.block p.at ≡ AtInstr i → p.block ≡ end_block f → IsEnded f p
  ended p i e same =
      let here : fetch f (end_block f) p.at ≡ AtInstr i = ap (λ (b : ℕ). fetch f b p.at) (sym same) ∙ e in
      let x = first_of f (end_block f) p.at i here in
      subst (λ (b : ℕ). IsEnded f (point b p.at)) (sym same)
      (ended_at f (record { instr = x.0; stands = x.1; is = names.end_is_first x.0 x.1 }) p.at i here)

-- ---- the rules

module _ (m : Module) (k : ℕ) (f : Function) (rules : KeepsFunctionRules m k f) where
  pub coroutine_keeps : f.coroutine ≡ true → KeepsShape k f → KeepsPaths k f
      → KeepsAliveRules f (facts_of f).ramp_slots
  coroutine_keeps coroutine shape paths = record {
    made = λ a ty align block at e. made_once m k f rules a ty align block at e;
    marked = λ marker is p i e call. marks_alloca m k f rules marker is p i e call;
    closed = λ marker is a p x shut made no_ramp.
        none_closed k f coroutine paths.marked_slot (listed f) marker is a p x shut made no_ramp;
    first = λ p i e same. ended f (plain_names m k f rules (λ c. shape.calls)) p i e same;
    entry = λ block at label h same. never_entered m k f rules block at label h same;
    returns = λ p arg e r. no_return k f coroutine paths.outside p arg e r;
    no_save = λ p a c. not_behind_end k f coroutine paths.outside Intrinsic.CoroSave save_ends p a c;
    ramp = λ a made is. ramp_named f a made is;
  }

  pub plain_keeps : f.coroutine ≡ false → KeepsAliveRules f (facts_of f).ramp_slots
  plain_keeps outside = record {
    made = λ a ty align block at e. made_once m k f rules a ty align block at e;
    marked = λ marker is p i e call. marks_alloca m k f rules marker is p i e call;
    closed = λ marker is a p x shut made no_ramp. never_closed m k f rules outside p shut;
    first = λ p i e same. ended f (plain_names m k f rules none) p i e same;
    entry = λ block at label h same. never_entered m k f rules block at label h same;
    returns = λ p arg e r. never_begun m k f rules outside p r;
    no_save = λ p a c. none_behind_end m k f rules outside p a;
    ramp = λ a made is. ramp_named f a made is;
  }
    where
      none : f.coroutine ≡ true → wrong_call k f ≡ None
      none c = let no : true ≡ false = sym c ∙ outside in absurd (cc)
