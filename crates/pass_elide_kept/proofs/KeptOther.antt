-- Keepers stay at allocas that are made again, and while a function makes its new allocas. No activation that destroys
-- a given instance comes to a save.
use Rattle.std.proofs.Common.{◌≡◌, ◌++◌, ◌⊎◌, ◌∙◌, ◌||◌, ◌∷◌, [], ap, arith, Bool, false, inl, inr, List, length, Option, refl, subst, suc, sym, true, zero, ℕ, if◌then◌else◌}
use Rattle.std.specs.List.{list_any}
use Rattle.std.specs.Prelude.{None, Some, slice_get}
use Rattle.elide_sites.specs.Destroyed.{has_at, has_in, is_stop}
use Rattle.pass_elide_kept.proofs.Fronted.{IsFronted}
use Rattle.pass_elide_kept.proofs.Keepers.{kept_top}
use Rattle.pass_elide_kept.proofs.KeptEdges.{KeepersIf}
use Rattle.pass_elide_kept.proofs.KeptPushed.{next_kept}
use Rattle.pass_elide_kept.proofs.KeptRows.{all_renewed, renewed_on, rows_keep}
use Rattle.pass_elide_kept.specs.Keepers.{IsRenewed, KeepersIn}
use Rattle.pass_elide_kept.specs.Kept.{HasKeeper, IsKeptIn}
use Rattle.pass_elide_kept.specs.Modules.{KeepsHandlesAndEnds}
use Rattle.pass_elide_kept.specs.Runs.{IsKeptGiving}
use Rattle.pass_elide_proof.proofs.CallersAgain.{entering_goes}
use Rattle.pass_elide_proof.proofs.CallersBlocks.{new_frames}
use Rattle.pass_elide_proof.proofs.CallersInstr.{was_itself}
use Rattle.pass_elide_proof.proofs.Facts.{not_both}
use Rattle.pass_elide_proof.proofs.Modules.{finds_alike}
use Rattle.pass_elide_proof.proofs.Standing.{has_code}
use Rattle.pass_elide_proof.specs.Callers.{GoesOnAs, HaveBlocks, StandsAtInstr, WasBefore}
use Rattle.pass_elide_proof.specs.Elision.{Elision, elided, function_in, function_in_elided, rooms}
use Rattle.pass_elide_proof.specs.Invariant.{IsDestroying}
use Rattle.pass_elide_proof.specs.Places.{instrs_in, instrs_of}
use Rattle.pass_elide_proof.specs.pass_proofs.ir_base.declared.cause.Cause.{Cause}
use Rattle.pass_elide_proof.specs.pass_proofs.ir_model.Layout.{size_of}
use Rattle.pass_elide_proof.specs.pass_proofs.ir_model.Names.{position_of}
use Rattle.pass_elide_proof.specs.pass_proofs.ir_model.Ty.{Ty}
use Rattle.pass_elide_proof.specs.pass_proofs.ir_model.declared.instr.Instr.{Instr}
use Rattle.pass_elide_proof.specs.pass_proofs.ir_model.declared.module.Block.{Block}
use Rattle.pass_elide_proof.specs.pass_proofs.ir_model.declared.module.Function.{Function}
use Rattle.pass_elide_proof.specs.pass_proofs.ir_paths.declared.point.Point.{Point}
use Rattle.pass_elide_proof.specs.pass_proofs.run_agreement.Machines.{IsFine}
use Rattle.pass_elide_proof.specs.pass_proofs.run_framed.Framed.{alloca_from, enter_after, framed_act, framed_context, framed_slot, framed_step, is_given}
use Rattle.pass_elide_proof.specs.pass_proofs.run_laws.changed.Changed.{Each}
use Rattle.pass_elide_proof.specs.pass_proofs.run_laws.memory.Standing.{blank_block}
use Rattle.pass_elide_proof.specs.pass_proofs.run_memory.Memory.{end}
use Rattle.pass_elide_proof.specs.pass_proofs.run_memory.declared.block.MemoryBlock.{MemoryBlock}
use Rattle.pass_elide_proof.specs.pass_proofs.run_memory.declared.pointer.Value.{Value}
use Rattle.pass_elide_proof.specs.pass_proofs.run_source.State.{function_of, settled, with_slots, work_of}
use Rattle.pass_elide_proof.specs.pass_proofs.run_source.declared.state.Activation.{Activation}
use Rattle.pass_elide_proof.specs.pass_proofs.run_source.declared.state.Instance.{Instance}
use Rattle.pass_elide_proof.specs.pass_proofs.run_source.declared.state.Mode.{Mode}
use Rattle.pass_elide_proof.specs.pass_proofs.run_source.declared.state.State.{State}
use Rattle.pass_elide_proof.specs.pass_proofs.run_step.Step.{Context, NewSlot, Stuck, Work, alloca_kind, has_markers, is_alignment, set_memory, set_value}
use Rattle.pass_elide_proof.specs.pass_proofs.run_step.Values.{pointer_to}
use Rattle.pass_elide_proof.specs.pass_proofs.run_step.declared.world.Slot.{Slot}

-- ---- saves

-- in a block with such a call
has_there : (test : Instr → Bool) (f : Function) (block at : ℕ) (i : Instr)
    → slice_get (instrs_of f block) at ≡ Some i → test i ≡ true → has_at test f block ≡ true
has_there test f block at i there passes = by (slice_get f.blocks block) there
  where
    right : (a b : Bool) → b ≡ true → (a || b) ≡ true
    right true b h = refl
    right false b h = h

    any : (is : List Instr) (n : ℕ) → slice_get is n ≡ Some i → list_any test is ≡ true
    any [] n there = absurd (cc)
    any (x ∷ is) zero there = let same : x ≡ i = cc in (λ j. (ap test same ∙ passes) j || list_any test is)
    any (x ∷ is) (suc n) there = right (test x) (list_any test is) (any is n there)

    by : (o : Option Block) → slice_get (instrs_in o) at ≡ Some i → has_in test o ≡ true
    by None there = absurd (cc)
    by (Some b) there = any b.instrs at there

pub never_saves : (e : Elision) (keeps : KeepsHandlesAndEnds e) (t : State) (theirs : IsKeptGiving e t) (at : ℕ)
    (i : Instr) → StandsAtInstr e t at i
    → ((from label : ℕ) → t.top.mode ≡ Mode.Entering from label → ⊥) → is_stop i ≡ true → (number : ℕ) (y : Instance)
    → slice_get t.instances number ≡ Some y → is_given t.world.memory y ≡ true → IsDestroying e y number t.top → ⊥
never_saves e keeps t theirs at i k calm stops number y there given d = by d.entered
  where
    by : ((t.top.mode ≡ Mode.Resumed) × (t.top.block ≡ d.block))
        ⊎ ((from : ℕ) × (label : ℕ) × (t.top.mode ≡ Mode.Entering from label)) → ⊥
    by (inl both) =
        let shape = theirs.shapes.instances number y there given in
        not_both (has_at is_stop (function_in e t.top.func) t.top.block)
        (has_there is_stop (function_in e t.top.func) t.top.block at i k.there stops)
        ((λ j. has_at is_stop (function_in e (d.func j)) (both.1 j))
        ∙ keeps.still y.coroutine shape d.block (d.way both.0))
    by (inr entering) = calm entering.0 entering.1 entering.2

-- ---- new allocas

pub fronts_keep_keepers : (e : Elision) (z t u : State) → IsFronted t u → t.top.slots ≡ [] → t.top.mode ≡ Mode.Plain
    → KeepersIn e z t → KeepersIn e z u
fronts_keep_keepers e z t u k slots mode h =
    rows_keep e z t u was (λ number y there given. sym (k.given number y there) ∙ given) h
    (λ number x there given c.
    inr (subst (λ (rows : List Activation). IsKeptIn e x number None (u.top ∷ rows)) (sym k.below)
    (kept_top e x number t.top u.top t.below (λ keeper. absurd (none x number keeper)) (record {
      func = k.func;
      result = k.result;
      instance = λ n is. k.instance ∙ is;
      mode = λ frame is. k.mode ∙ is;
    }) (λ d. absurd (calm x number d)) c)))
    (subst (λ (rows : List Activation). Each (IsRenewed z u.instances) (u.top ∷ rows)) (sym k.below) (
      renewed_on z t.instances u.instances was t.top u.top k.mode k.instance h.renewed.0,
      all_renewed z t.instances u.instances was t.below h.renewed.1,
    ))
  where
    was : (number : ℕ) (y : Instance) → slice_get u.instances number ≡ Some y → WasBefore t.instances number y
    was number y there =
        was_itself t.instances number y (ap (λ (xs : List Instance). slice_get xs number) (sym k.instances) ∙ there)

    none : (x : Instance) (number : ℕ) → HasKeeper e x number t.top None → ⊥
    none x number c =
        let lt = c.slot.1 in
        let empty : length t.top.slots ≡ 0 = ap length slots in
        omega (arith, lt, empty)

    calm : (x : Instance) (number : ℕ) → IsDestroying e x number t.top → ⊥
    calm x number d = by d.entered
      where
        by : ((t.top.mode ≡ Mode.Resumed) × (t.top.block ≡ d.block))
            ⊎ ((from : ℕ) × (label : ℕ) × (t.top.mode ≡ Mode.Entering from label)) → ⊥
        by (inl both) = let no : Mode.Plain ≡ Mode.Resumed = sym mode ∙ both.0 in absurd (cc)
        by (inr entering) =
            let no : Mode.Plain ≡ Mode.Entering entering.0 entering.1 = sym mode ∙ entering.2 in absurd (cc)

-- ---- allocas again

module _ (e : Elision) (z t : State) (at name : ℕ) (ty : Ty) (align from label : ℕ)
    (inside : (function_in e t.top.func).coroutine ≡ true) (mode : t.top.mode ≡ Mode.Entering from label)
    (blocks : HaveBlocks t) (h : KeepersIn e z t) where
  abbrev g : Context
  g = framed_context (elided e) t

  abbrev next_block : MemoryBlock
  next_block = blank_block (size_of g.code ty) align (alloca_kind g.function)

  abbrev grown : List MemoryBlock
  grown = t.world.memory ++ next_block ∷ []

  abbrev work : Bool → Work
  work b =
      set_memory (set_value (work_of t) name (pointer_to (length t.world.memory)))
      (if b then end grown (length t.world.memory) else grown)

  abbrev slot : Slot
  slot = record { alloca = name; block = length t.world.memory }

  abbrev after : Bool → Option Point → State
  after b o = enter_after (elided e) (with_slots (settled t (work b)) (slot ∷ t.top.slots)) from label o

  labels : position_of (function_in_elided e t.top.func) label ≡ position_of (function_in e t.top.func) label
  labels =
      ap (λ (f : Function). position_of f label) ((finds_alike e).functions t.top.func)
      ∙ (has_code (rooms e t.top.func) (function_in e t.top.func)).labels label

  -- the state, by what the activation goes on as
  again_keep : (u : State) → u.below ≡ t.below → u.instances ≡ t.instances
      → ((number : ℕ) (y : Instance) → slice_get t.instances number ≡ Some y → is_given u.world.memory y ≡ true
      → is_given t.world.memory y ≡ true)
      → u.top.func ≡ t.top.func → u.top.result ≡ t.top.result → u.top.instance ≡ t.top.instance
      → ((frame : Value) → u.top.mode ≡ Mode.GivenRamp frame → ⊥) → GoesOnAs e t.top u.top → KeepersIn e z u
  again_keep u below instances given func result instance no_ramp goes =
      rows_keep e z t u was given h
      (λ number x there is_given c.
      inr (subst (λ (rows : List Activation). IsKeptIn e x number None (u.top ∷ rows)) (sym below)
      (kept_top e x number t.top u.top t.below
      (λ keeper. absurd (not_both (function_in e t.top.func).coroutine inside keeper.site.plain)) (record {
        func = func;
        result = result;
        instance = λ n is. instance ∙ is;
        mode = λ frame is.
            let no : Mode.Entering from label ≡ Mode.GivenRamp frame = sym mode ∙ is in absurd (cc);
      }) (goes.destroys x number) c)))
      (subst (λ (rows : List Activation). Each (IsRenewed z u.instances) (u.top ∷ rows)) (sym below) (
        λ block offset none is. absurd (no_ramp _ is),
        all_renewed z t.instances u.instances was t.below h.renewed.1,
      ))
    where
      was : (number : ℕ) (y : Instance) → slice_get u.instances number ≡ Some y → WasBefore t.instances number y
      was number y there =
          was_itself t.instances number y (ap (λ (xs : List Instance). slice_get xs number) (sym instances) ∙ there)

  after_keeps : (b : Bool) (o : Option Point) → KeepersIn e z (after b o)
  after_keeps b None =
      again_keep (after b None) refl refl (new_frames t next_block blocks b (after b None) refl).given refl refl refl
      (λ frame is. absurd (cc))
      (entering_goes e t.top (after b None).top from label mode refl refl refl refl (inr (refl, labels)))
  after_keeps b (Some p) =
      again_keep (after b (Some p)) refl refl (new_frames t next_block blocks b (after b (Some p)) refl).given refl refl
      refl (λ frame is. absurd (cc))
      (entering_goes e t.top (after b (Some p)).top from label mode refl refl refl refl (inl refl))

  by_mode : (b : Bool) → KeepersIn e z (framed_slot (elided e) (settled t (work b)) slot t.top.mode)
  by_mode b =
      subst (λ (m : Mode). KeepersIn e z (framed_slot (elided e) (settled t (work b)) slot m)) (sym mode)
      (after_keeps b (alloca_from (function_of (elided e).given (settled t (work b))) (settled t (work b)).top.at))

  aligned : (q b : Bool)
      → KeepersIf e z (framed_act (elided e) t (if q then NewSlot (work b) slot else Stuck Cause.Align))
  aligned true b = by_mode b
  aligned false b = tt

  pub again_keep_keepers : StandsAtInstr e t at (Instr.Alloca name ty align)
      → IsFine (framed_step (elided e) t).outcome → KeepersIn e z (framed_step (elided e) t)
  again_keep_keepers k fine =
      next_kept e z t at (Instr.Alloca name ty align) k fine
      (aligned (is_alignment align) (has_markers g.function name))
