-- Keepers stay where an activation returns. What it has destroyed was freed.
use Rattle.std.proofs.Common.{◌≡◌, ◌<◌, ◌∙◌, ◌||◌, ◌&&◌, ◌==◌, ◌∷◌, ◌⊎◌, [], ap, Bool, Err, false, inl, inr, ⊎_elim, List, length, not, Ok, Option, refl, Result, subst, sym, true, ℕ}
use Rattle.std.specs.Prelude.{IsTrue, None, Some, slice_get, unwrap_or}
use Rattle.elide_sites.specs.Sites.{destroys_of, is_ret_at, is_ret_in}
use Rattle.pass_elide_kept.proofs.Keepers.{kept_as, kept_under}
use Rattle.pass_elide_kept.proofs.KeptBack.{is_frame, keeper_back}
use Rattle.pass_elide_kept.proofs.KeptEdges.{KeepersIf, or_kept}
use Rattle.pass_elide_kept.proofs.KeptRows.{all_renewed, over_on, renewed_on}
use Rattle.pass_elide_kept.specs.Keepers.{IsOver, IsRenewed, KeepersIn}
use Rattle.pass_elide_kept.specs.Kept.{Calling, Destroying, HasKeeper, Held, IsKeptIn, Keeps}
use Rattle.pass_elide_proof.proofs.Callees.{same_place, site_value}
use Rattle.pass_elide_proof.proofs.CallersBack.{ret_does, ret_there, value_of}
use Rattle.pass_elide_proof.proofs.CallersBlocks.{KeepsStacks, stack_with, stacks_same}
use Rattle.pass_elide_proof.proofs.CallersInstr.{was_itself}
use Rattle.pass_elide_proof.proofs.CallersOnward.{destroys_as, given_as}
use Rattle.pass_elide_proof.proofs.GivingMarkers.{plain_put}
use Rattle.pass_elide_proof.proofs.Holding.{ends}
use Rattle.pass_elide_proof.proofs.Stacks.{destroys_on}
use Rattle.pass_elide_proof.specs.Callers.{WasBefore}
use Rattle.pass_elide_proof.specs.CallersStack.{AreCalled, GivesBegin, KeepAllHandles, StandsAtRet}
use Rattle.pass_elide_proof.specs.Elision.{Elision, elided, elided_code, function_in, rooms}
use Rattle.pass_elide_proof.specs.Invariant.{AreGivenBy, IsDestroying, StandsAt, behind}
use Rattle.pass_elide_proof.specs.Places.{front_at, instrs_of}
use Rattle.pass_elide_proof.proofs.pass_proofs.ir_laws.facts.Truth.{itself}
use Rattle.pass_elide_proof.specs.pass_proofs.flow_points.Reached.{IsReached}
use Rattle.pass_elide_proof.specs.pass_proofs.ir_base.declared.cause.Cause.{Cause}
use Rattle.pass_elide_proof.specs.pass_proofs.ir_base.declared.outcome.Outcome.{Outcome}
use Rattle.pass_elide_proof.specs.pass_proofs.ir_model.declared.instr.Instr.{Instr}
use Rattle.pass_elide_proof.specs.pass_proofs.ir_model.declared.module.Block.{Block}
use Rattle.pass_elide_proof.specs.pass_proofs.ir_model.declared.module.Function.{Function}
use Rattle.pass_elide_proof.specs.pass_proofs.ir_model.declared.operand.Arg.{Arg}
use Rattle.pass_elide_proof.specs.pass_proofs.ir_model.declared.operand.Intrinsic.{Intrinsic}
use Rattle.pass_elide_proof.specs.pass_proofs.ir_paths.Paths.{same_point}
use Rattle.pass_elide_proof.specs.pass_proofs.ir_paths.Windows.{is_call_of}
use Rattle.pass_elide_proof.specs.pass_proofs.ir_paths.declared.point.Point.{Point}
use Rattle.pass_elide_proof.specs.pass_proofs.rule_windows.Outside.{is_return}
use Rattle.pass_elide_proof.specs.pass_proofs.run_agreement.Machines.{IsFine}
use Rattle.pass_elide_proof.specs.pass_proofs.run_framed.Framed.{framed_advance, framed_next, framed_step, is_given, is_stack_block}
use Rattle.pass_elide_proof.specs.pass_proofs.run_laws.changed.Changed.{Each}
use Rattle.pass_elide_proof.specs.pass_proofs.run_memory.Memory.{killed, killed_block}
use Rattle.pass_elide_proof.specs.pass_proofs.run_memory.declared.block.MemoryBlock.{MemoryBlock}
use Rattle.pass_elide_proof.specs.pass_proofs.run_memory.declared.pointer.Value.{Value}
use Rattle.pass_elide_proof.specs.pass_proofs.run_source.Source.{given_back, pop, return, returned}
use Rattle.pass_elide_proof.specs.pass_proofs.run_source.State.{began_at, or_undefined}
use Rattle.pass_elide_proof.specs.pass_proofs.run_source.declared.state.Activation.{Activation}
use Rattle.pass_elide_proof.specs.pass_proofs.run_source.declared.state.Instance.{Instance}
use Rattle.pass_elide_proof.specs.pass_proofs.run_source.declared.state.Mode.{Mode}
use Rattle.pass_elide_proof.specs.pass_proofs.run_source.declared.state.State.{State}
use Rattle.pass_elide_proof.specs.pass_proofs.run_step.Results.{and_then}
use Rattle.pass_elide_proof.specs.pass_proofs.run_step.Step.{Fetched, outcome_of, without_slots}
use Rattle.pass_elide_proof.specs.pass_proofs.run_step.Values.{operand_value, pointer_to}
use Rattle.pass_elide_proof.specs.pass_proofs.run_step.declared.world.Slot.{Slot}
use Rattle.pass_elide_proof.specs.pass_proofs.run_step.declared.world.World.{World}

-- slots die; their blocks are of the stack as before
stack_without : (m : List MemoryBlock) (zs : List Slot) (b : ℕ)
    → is_stack_block (without_slots m zs) b ≡ is_stack_block m b
stack_without m [] b = refl
stack_without m (z ∷ zs) b =
    stack_without (killed m z.block) zs b ∙ stack_with killed_block (λ x. refl) m z.block b

-- a caller that stands behind a coro.destroy
pub record IsBehindADestroy (e : Elision) (b : Activation) : Type 0 where
  pub point : Point
  pub instr : Instr
  pub stands : StandsAt e b (behind point)
  pub there : slice_get (instrs_of (function_in e b.func) point.block) point.at ≡ Some instr
  pub destroys : is_call_of Intrinsic.CoroDestroy instr ≡ true
  pub plain : (function_in e b.func).coroutine ≡ false

module _ (e : Elision) (z t : State) (h : KeepersIn e z t) (ramps : AreGivenBy e t.instances (t.top ∷ t.below))
    (handles : KeepAllHandles e) (links : AreCalled e t) (world : World) (ys : List Instance)
    (was : (number : ℕ) (y : Instance) → slice_get ys number ≡ Some y → WasBefore t.instances number y)
    (stacks : KeepsStacks t.world.memory world.memory)
    (not_keeper : (y : Instance) (number : ℕ) → HasKeeper e y number t.top None → ⊥)
    (over : (b : Activation) (rest : List Activation) → t.below ≡ b ∷ rest → IsBehindADestroy e b → (number : ℕ)
    (y : Instance) (there : slice_get ys number ≡ Some y)
    → is_given t.world.memory (was number y there).before ≡ true → IsDestroying e y number t.top → IsOver z number y)
    (v : Option Value) (returns : (frame : Value) (number : ℕ) → t.top.mode ≡ Mode.GivenRamp frame
    → t.top.instance ≡ Some number → unwrap_or v Value.Poison ≡ frame) where
  abbrev now : State
  now = record t { world = world; instances = ys }

  abbrev dead : List MemoryBlock
  dead = without_slots world.memory t.top.slots

  given_before : (number : ℕ) (y : Instance) (there : slice_get ys number ≡ Some y) → is_given dead y ≡ true
      → is_given t.world.memory (was number y there).before ≡ true
  given_before number y there given =
      let old = was number y there in
      either (is_stack_block world.memory old.before.block) (is_stack_block t.world.memory old.before.block)
      (not (old.before.start == 0)) (stacks.stacks old.before.block)
      ((λ j. sym (stack_without world.memory t.top.slots old.before.block) j || not (old.before.start == 0))
      ∙ (sym (given_as e old.before y number old.coroutine old.block old.start dead) ∙ given))
    where
      either : (a b c : Bool) → (a ≡ true → b ≡ true) → (a || c) ≡ true → (b || c) ≡ true
      either true b c h is = ap (λ (d : Bool). d || c) (h refl)
      either false true c h is = refl
      either false false c h is = is

  replaced_back : (number later : ℕ) (y w : Instance) → slice_get ys number ≡ Some y → slice_get ys later ≡ Some w
      → number < later → is_given dead y ≡ true → began_at y.block y.start w ≡ true → IsOver z number y
  replaced_back number later y w there after lt given began =
      let old = was number y there in
      let next = was later w after in
      over_on z t.instances number y old
      (h.replaced number later old.before next.before old.there next.there lt (given_before number y there given)
      ((λ j. (sym next.block j == sym old.block j) && (sym next.start j == sym old.start j)) ∙ began))

  -- ---- to a caller

  module _ (b : Activation) (rest : List Activation) (below : t.below ≡ b ∷ rest) where
    abbrev back : Activation
    back = given_back b t.top.result v

    given_ramps : AreGivenBy e t.instances (t.top ∷ b ∷ rest)
    given_ramps = subst (λ (rows : List Activation). AreGivenBy e t.instances (t.top ∷ rows)) below ramps

    all_new : Each (IsRenewed z t.instances) (t.top ∷ b ∷ rest)
    all_new = subst (λ (rows : List Activation). Each (IsRenewed z t.instances) (t.top ∷ rows)) below h.renewed

    module _ (number : ℕ) (y : Instance) (there : slice_get ys number ≡ Some y) (given : is_given dead y ≡ true) where
      abbrev old : WasBefore t.instances number y
      old = was number y there

      abbrev x : Instance
      x = old.before

      -- a ramp that returns without an instance, where this one began
      renewed_here : HasKeeper e x number b (Some t.top) → t.top.instance ≡ None
          → t.top.mode ≡ Mode.GivenRamp (pointer_to x.block) → IsOver z number x
      renewed_here c none mode = (
        (given_ramps.0 (pointer_to x.block) mode none).over number x old.there
            (same_block x.block (given_ramps.0 (pointer_to x.block) mode none).block
            (given_ramps.0 (pointer_to x.block) mode none).is),
        h.renewed.0 x.block 0 none mode number x old.there refl c.start,
      )
        where
          same_block : (m n : ℕ) → pointer_to m ≡ pointer_to n → m ≡ n
          same_block m n e = cc

      abbrev Ends : Type 0
      Ends = IsOver z number y ⊎ IsKeptIn e y number None (back ∷ rest)

      as_now : IsKeptIn e x number None (back ∷ rest) → Ends
      as_now k = inr (kept_as e x y number old.coroutine old.block old.start None (back ∷ rest) k)

      with_keeper : (c : HasKeeper e x number b (Some t.top))
          → (t.top.instance ≡ None → t.top.mode ≡ Mode.GivenRamp (pointer_to x.block) → ⊥) → Ends
      with_keeper c other =
          by (keeper_back e t handles links v returns b rest below x number old.there (IsOver z number y) c other
          (λ p j stands at of d.
          over b rest below (record {
            point = p;
            instr = j;
            stands = stands;
            there = at;
            destroys = of;
            plain = c.site.plain;
          }) number y there (given_before number y there given)
          (destroys_as e x y number old.coroutine old.block old.start t.top d)))
        where
          by : IsOver z number y ⊎ HasKeeper e x number back None → Ends
          by (inl o) = inl o
          by (inr k) = as_now (inl k)

      by_top : HasKeeper e x number b (Some t.top) → (o : Option ℕ) → t.top.instance ≡ o → Ends
      by_top c (Some n) own = with_keeper c (λ none mode. some_not n (sym own ∙ none))
        where
          some_not : (n : ℕ) → ◌≡◌ {A = Option ℕ} (Some n) None → ⊥
          some_not n e = absurd (cc)
      by_top c None own =
          ⊎_elim (λ mode. inl (over_on z t.instances number y old (renewed_here c own mode)))
          (λ ne. with_keeper c (λ none mode. ne mode)) (is_frame t.top.mode x.block)

      in_rest : IsKeptIn e x number (Some t.top) (b ∷ rest) → Ends
      in_rest (inl c) = by_top c t.top.instance refl
      in_rest (inr k) =
          as_now (inr (kept_under e x number b back (record {
            func = refl;
            result = refl;
            instance = λ n is. is;
            mode = λ frame is. is;
          }) (destroys_on e [] x number b back
          (record { func = refl; block = refl; result = refl; mode = refl; instance = refl; has_left = refl })) rest k))

      each_back : Ends
      each_back = by (h.each number x old.there (given_before number y there given))
        where
          by : IsOver z number x ⊎ IsKeptIn e x number None (t.top ∷ t.below) → Ends
          by (inl o) = inl (over_on z t.instances number y old o)
          by (inr (inl c)) = absurd (not_keeper x number c)
          by (inr (inr k)) =
              in_rest (subst (λ (rows : List Activation). IsKeptIn e x number (Some t.top) rows) below k)

    back_keep : KeepersIn e z (record (returned now) { top = given_back b t.top.result v; below = rest })
    back_keep = record {
      each = each_back;
      replaced = replaced_back;
      renewed = (
        renewed_on z t.instances ys was b back refl refl all_new.1.0,
        all_renewed z t.instances ys was rest all_new.1.1,
      );
    }

  -- ---- of the run

  module _ (below : t.below ≡ []) where
    over_keep : (o : Outcome) → KeepersIn e z (record (returned now) { outcome = o })
    over_keep o = record {
      each = λ number y there given.
          by number y there (h.each number (was number y there).before (was number y there).there
          (given_before number y there given));
      replaced = replaced_back;
      renewed = (
        renewed_on z t.instances ys was t.top (returned now).top refl refl h.renewed.0,
        all_renewed z t.instances ys was t.below h.renewed.1,
      );
    }
      where
        by : (number : ℕ) (y : Instance) (there : slice_get ys number ≡ Some y)
            → IsOver z number (was number y there).before
            ⊎ IsKeptIn e (was number y there).before number None (t.top ∷ t.below)
            → IsOver z number y ⊎ IsKeptIn e y number None ((returned now).top ∷ t.below)
        by number y there (inl o) = inl (over_on z t.instances number y (was number y there) o)
        by number y there (inr (inl c)) = absurd (not_keeper (was number y there).before number c)
        by number y there (inr (inr k)) =
            absurd (subst (λ (rows : List Activation). IsKeptIn e (was number y there).before number (Some t.top) rows)
            below k)

  pub pops_keep_keepers : KeepersIf e z (return (record t { world = world; instances = ys }) v)
  pops_keep_keepers = on t.below refl
    where
      ended : t.below ≡ [] → (r : Result Outcome Cause)
          → KeepersIf e z (and_then r (λ (o : Outcome). Ok (record (returned now) { outcome = o })))
      ended below (Err cause) = tt
      ended below (Ok o) = over_keep below o

      on : (rows : List Activation) → t.below ≡ rows → KeepersIf e z (pop (returned now) v rows)
      on [] below = ended below (outcome_of v)
      on (b ∷ rest) below = back_keep b rest below

-- ---- rets

module _ (e : Elision) (z t : State) (k : StandsAtRet e t) (h : KeepersIn e z t)
    (ramps : AreGivenBy e t.instances (t.top ∷ t.below)) (handles : KeepAllHandles e) (links : AreCalled e t) where
  abbrev g : Function
  g = function_in e t.top.func

  ret_here : (p : Point) → p.block ≡ t.top.block → p.at ≡ length k.block.instrs → IsTrue (is_ret_at g p)
  ret_here p block at =
      (λ j. is_ret_in (slice_get g.blocks (block j)) (at j))
      ∙ (ap (λ (o : Option Block). is_ret_in o (length k.block.instrs)) k.has_block
      ∙ ((λ j. (length k.block.instrs == length k.block.instrs) && is_return (k.term j))
      ∙ ap (λ (b : Bool). b && true) (itself (length k.block.instrs))))

  -- no handle is kept at a ret
  not_held : (y : Instance) (number : ℕ) → HasKeeper e y number t.top None → ⊥
  not_held y number c = by None c.keeps refl
    where
      by : (o : Option Activation) → Keeps e y number c.call c.instr t.top o → o ≡ None → ⊥
      by _ (Calling d stands func result instance mode) none = absurd (cc)
      by _ (Destroying p j v d stands there of result destroys) none = absurd (cc)
      by _ (Held p o stands reached handle) none =
          let at : p.at ≡ length k.block.instrs
          = same_place e t.top.func (plain_put e t.top.func c.site.plain) t.top.block p.at (length k.block.instrs)
          ((λ j. front_at (rooms e t.top.func) g (stands.block j) p.at) ∙ (sym stands.at ∙ k.stands)) in
          ends g c.call p ((handles t.top.func c.site.plain).destroyed c.call c.instr c.name c.site)
          (subst (λ (o : Option ℕ). IsReached g (c.call ∷ []) (destroys_of g o) p)
          (sym (site_value e t.top.func c.call c.instr c.name c.site)) reached)
          (right (same_point p c.call) (is_ret_at g p) (ret_here p (sym stands.block) at))
        where
          right : (a b : Bool) → b ≡ true → (a || b) ≡ true
          right true b h = refl
          right false b h = h

  gives_frame : (frame : Value) (number : ℕ) → t.top.mode ≡ Mode.GivenRamp frame → t.top.instance ≡ Some number
      → unwrap_or (value_of e t k k.value) Value.Poison ≡ frame
  gives_frame frame number mode instance =
      by k.value ((k.frames frame mode).each t.top.block k.block k.value k.has_block k.term)
    where
      by : (value : Option Arg) → GivesBegin g value → unwrap_or (value_of e t k value) Value.Poison ≡ frame
      by None gives = absurd gives
      by (Some arg) gives =
          ap (operand_value (elided_code e) t.top.values arg.ty) gives.2
          ∙ links.begun.0.value frame number gives.0 mode instance gives.1

  never_destroys : (y : Instance) (number : ℕ) → IsDestroying e y number t.top → ⊥
  never_destroys y number d = by d.entered
    where
      by : ((t.top.mode ≡ Mode.Resumed) × (t.top.block ≡ d.block))
          ⊎ ((from : ℕ) × (label : ℕ) × (t.top.mode ≡ Mode.Entering from label)) → ⊥
      by (inl both) = k.called both.0
      by (inr entering) = k.mode entering.0 entering.1 entering.2

  pub rets_keep_keepers : IsFine (framed_step (elided e) t).outcome → KeepersIn e z (framed_step (elided e) t)
  rets_keep_keepers fine =
      let is = ap (framed_advance (elided e) t) k.runs
      ∙ (ap (λ (x : Fetched). or_undefined (elided e).given t (framed_next (elided e) t x)) (ret_there e t k)
      ∙ ap (or_undefined (elided e).given t) (ret_does e t k k.value)) in
      subst (KeepersIn e z) (sym is)
      (or_kept e z t (return t (value_of e t k k.value)) (subst (λ (u : State). IsFine u.outcome) is fine)
      (pops_keep_keepers e z t h ramps handles links t.world t.instances (was_itself t.instances)
      (stacks_same t.world.memory) not_held (λ b rest below behind number y at given d. absurd (never_destroys y number d))
      (value_of e t k k.value) gives_frame))
