-- A save of a coroutine is followed, where its instance runs.
use Rattle.std.proofs.Common.{◌≡◌, ⊎_elim, ℕ, suc, ◌+◌, ◌<◌, Bool, true, false, List, [], ◌∷◌, ◌++◌, length, Option, Some, None, Result, Ok, Err, refl, sym, ap, ◌∙◌, subst, arith}
use Rattle.std.specs.Prelude.{not, option_and_then, option_map, slice_get}
use Rattle.std.specs.List.{Contains}
use Rattle.std.proofs.lemmas.Bool.{and_parts, false≢true}
use Rattle.pass_frames_proof.specs.flow_solver.Paths.{IsListed}
use Rattle.pass_frames_proof.specs.frame_contents.Held.{position_of}
use Rattle.pass_frames_proof.specs.ir_base.declared.cause.Cause.{Cause}
use Rattle.pass_frames_proof.specs.ir_base.declared.outcome.Outcome.{Outcome}
use Rattle.pass_frames_proof.proofs.ir_laws.facts.Lists.{get_within, set_here}
use Rattle.pass_frames_proof.specs.ir_model.Names.{function_at}
use Rattle.pass_frames_proof.specs.ir_model.Ty.{Ty, token}
use Rattle.pass_frames_proof.specs.ir_model.declared.instr.Instr.{Instr}
use Rattle.pass_frames_proof.specs.ir_model.declared.module.Block.{Block}
use Rattle.pass_frames_proof.specs.ir_model.declared.module.Function.{Function}
use Rattle.pass_frames_proof.specs.ir_model.declared.operand.Arg.{Arg}
use Rattle.pass_frames_proof.specs.ir_model.declared.operand.Callee.{Callee}
use Rattle.pass_frames_proof.specs.ir_model.declared.operand.Intrinsic.{Intrinsic}
use Rattle.pass_frames_proof.specs.ir_model.declared.operand.Operand.{Operand}
use Rattle.pass_frames_proof.specs.ir_paths.Windows.{call_result, instr_at, is_suspend_of, operand_at, points_from, points_in, points_where, suspend_of}
use Rattle.pass_frames_proof.specs.ir_paths.declared.point.Point.{Point}
use Rattle.pass_frames_proof.specs.pass_cells.Cells.{fetches_of}
use Rattle.pass_frames_proof.specs.pass_cells.Written.{row_at, save_row, stored_at}
use Rattle.pass_frames_proof.specs.pass_cells.declared.plan.KeptValue.{KeptValue}
use Rattle.pass_frames_proof.specs.pass_fetch.Fetching.{fetch_of, value_bytes}
use Rattle.pass_frames_proof.specs.pass_fetch.declared.fetch.Fetch.{Fetch}
use Rattle.pass_frames_proof.specs.pass_frames.Framed.{begin_of}
use Rattle.pass_frames_proof.specs.pass_frames.Tables.{offset_at}
use Rattle.pass_frames_meaning.proofs.begun.Begun.{begin_plain}
use Rattle.pass_frames_meaning.proofs.coroutines.Steps.{acts_as}
use Rattle.pass_frames_meaning.proofs.coroutines.Tokens.{token_nowhere}
use Rattle.pass_frames_meaning.proofs.kinds.Fields.{free_there, room_for}
use Rattle.pass_frames_meaning.proofs.kinds.SaveNames.{saves_in_order}
use Rattle.pass_frames_meaning.proofs.kinds.Unkept.{token_given}
use Rattle.pass_frames_meaning.proofs.others.AtPlace.{args_wanted}
use Rattle.pass_frames_meaning.proofs.others.Names.{point_there, result_low}
use Rattle.pass_frames_meaning.proofs.others.Returns.{instr_in, no_return, no_returns_below}
use Rattle.pass_frames_meaning.proofs.slotted.Facts.{instances_placed}
use Rattle.pass_frames_meaning.specs.Coroutines.{HasStorables, IsNowhere, MayFollow}
use Rattle.pass_frames_meaning.specs.Kinds.{HasRowField, IsSaveWith, KeepsKinds, MaySave}
use Rattle.pass_frames_meaning.specs.Spared.{AreFieldsApart}
use Rattle.pass_frames_meaning.specs.Setting.{AreOfRuns, KeepsAll, Setting}
use Rattle.pass_frames_proof.proofs.saving.Saved.{save_followed}
use Rattle.pass_frames_proof.specs.Code.{slot_table}
use Rattle.pass_frames_proof.specs.Followed.{IsFollowed}
use Rattle.pass_frames_proof.specs.Framings.{IsFraming}
use Rattle.pass_frames_proof.specs.Places.{Framing, edged, instrs_at, offsets, plan}
use Rattle.pass_frames_proof.specs.Related.{AreBuiltOf, IsKeptValue, IsSuspendNumber, is_coroutine, point_of}
use Rattle.pass_frames_proof.specs.Lines.{IsStorable}
use Rattle.pass_frames_proof.specs.Saves.{HasRoomFor}
use Rattle.pass_frames_proof.specs.Saving.{HasFieldsFor, IsBare, IsRunningInstance, save_call}
use Rattle.pass_frames_proof.specs.Slotted.{AreRangesApart, HasFrameThere}
use Rattle.pass_frames_proof.specs.Stepping.{IsNotEntering}
use Rattle.pass_frames_proof.proofs.pass_proofs.addresses.rules.Placed.{outside_unfetched}
use Rattle.pass_frames_proof.proofs.pass_proofs.cells.rules.Planned.{unplaced_fetch}
use Rattle.pass_frames_proof.specs.pass_renewed_proof.Renewed.{renewed_act, renewed_step}
use Rattle.pass_frames_proof.specs.rule_types.Signatures.{are_wanted}
use Rattle.pass_frames_proof.specs.rule_types.Wants.{any}
use Rattle.pass_frames_proof.specs.rule_types.declared.wants.Basic.{Basic}
use Rattle.pass_frames_proof.specs.rule_values.Fits.{fits_kind}
use Rattle.pass_frames_proof.specs.rule_values.Kinds.{value_kind}
use Rattle.pass_frames_proof.specs.rule_values.declared.kinds.Kind.{Kind}
use Rattle.pass_frames_proof.specs.run_agreement.Machines.{IsFine}
use Rattle.pass_frames_proof.specs.run_framed.Framed.{frame_rights}
use Rattle.pass_frames_proof.specs.run_laws.access.Changed.{IsFree}
use Rattle.pass_frames_proof.specs.run_laws.transfer.Muted.{muted}
use Rattle.pass_frames_proof.specs.run_memory.Memory.{is_live, owner_rights}
use Rattle.pass_frames_proof.specs.run_memory.declared.block.MemoryBlock.{MemoryBlock}
use Rattle.pass_frames_proof.specs.run_source.Source.{save, save_for}
use Rattle.pass_frames_proof.specs.run_source.State.{function_of, next, numbered, own_instance, with_instance, with_left}
use Rattle.pass_frames_proof.specs.run_source.State.{point_of as here_of}
use Rattle.pass_frames_proof.specs.run_source.declared.state.Instance.{Instance}
use Rattle.pass_frames_proof.specs.run_source.declared.state.State.{State}
use Rattle.pass_frames_proof.specs.run_source.declared.state.Status.{Status}
use Rattle.pass_frames_proof.specs.run_states.sound_states.Sound.{IsInstanceOf}
use Rattle.pass_frames_proof.specs.run_step.Results.{and_then, found, ok_if}
use Rattle.pass_frames_proof.specs.run_step.Step.{AtInstr, Coro, fetch}
use Rattle.pass_frames_proof.specs.run_step.Values.{Env, value_in}
use Rattle.pass_frames_proof.specs.run_step.declared.world.World.{World}
use Rattle.pass_frames_proof.specs.run_step.declared.world.Slot.{Slot}
use Rattle.pass_frames_proof.specs.run_source_tables.Given.{Given}

-- ---- what a save does

-- the instance as it is suspended
abbrev slept_of : State → Point → Instance → Instance
slept_of s u x = record x {
  status = Status.Suspended u s.top.values;
  last_save = Some (record { depth = length s.below; save = here_of s });
}

-- a save that is done: its suspend, and the instance that is suspended there
pub record IsSaved (g : Given) (s after : State) : Type 0 where
  pub suspend : Point
  pub leads : suspend_of (function_of g s) (here_of s) ≡ Some suspend
  pub number : ℕ
  pub instance : Instance
  pub own : s.top.instance ≡ Some number
  pub there : slice_get s.instances number ≡ Some instance
  pub unfreed : instance.freed ≡ false
  pub values : after.top.values ≡ s.top.values
  pub func : after.top.func ≡ s.top.func
  pub world : after.world ≡ s.world
  pub asleep : slice_get after.instances number ≡ Some (slept_of s suspend instance)

same_pair : (j : ℕ) (z : Instance) (i : ℕ) (x : Instance)
    → ◌≡◌ {A = Option (ℕ × Instance)} (Some (j, z)) (Some (i, x)) → (j ≡ i) × (z ≡ x)
same_pair j z i x e =
    let pair : ◌≡◌ {A = ℕ × Instance} (j, z) (i, x) = cc in
    (ap (λ (p : ℕ × Instance). p.0) pair, ap (λ (p : ℕ × Instance). p.1) pair)

module _ (g : Given) (s after : State) where
  no_error : {A : Type 0} (cause : Cause) (x : A) → ◌≡◌ {A = Result A Cause} (Err cause) (Ok x) → ⊥
  no_error cause x e = cc

  same_state : (u : State) → ◌≡◌ {A = Result State Cause} (Ok u) (Ok after) → after ≡ u
  same_state u e = cc

  saved_at : (u : Point) → suspend_of (function_of g s) (here_of s) ≡ Some u → (p : Option (ℕ × Instance))
      → own_instance s ≡ p
      → and_then (and_then (found Cause.State p) (λ (i, x). ok_if (not x.freed) Cause.State
      (with_left (with_instance s i (slept_of s u x)) true))) (λ s. Ok (next s)) ≡ Ok after → IsSaved g s after
  saved_at u leads None own e = absurd (no_error Cause.State after e)
  saved_at u leads (Some (i, x)) own e = by x.freed refl e
    where
      has : (o : Option ℕ) → s.top.instance ≡ o → option_and_then (numbered s.instances) o ≡ Some (i, x)
          → (s.top.instance ≡ Some i) × (slice_get s.instances i ≡ Some x)
      has None d h = absurd (cc)
      has (Some j) d h = on (slice_get s.instances j) refl h
        where
          on : (q : Option Instance) → slice_get s.instances j ≡ q → option_map {U = ℕ × Instance} (λ (z : Instance). (j, z)) q ≡ Some (i, x)
              → (s.top.instance ≡ Some i) × (slice_get s.instances i ≡ Some x)
          on None f h' = absurd (cc)
          on (Some z) f h' =
              let both = same_pair j z i x h' in
              (d ∙ ap Some both.0, ap (slice_get s.instances) (sym both.0) ∙ f ∙ ap Some both.1)

      by : (b : Bool) → x.freed ≡ b
          → and_then (ok_if (not b) Cause.State (with_left (with_instance s i (slept_of s u x)) true)) (λ s. Ok (next s))
          ≡ Ok after → IsSaved g s after
      by true d h = absurd (no_error Cause.State after h)
      by false d h =
          let z = has s.top.instance refl own in
          let last = same_state (next (with_left (with_instance s i (slept_of s u x)) true)) h in
          record {
            suspend = u;
            leads = leads;
            number = i;
            instance = x;
            own = z.0;
            there = z.1;
            unfreed = d;
            values = ap (λ (q : State). q.top.values) last;
            func = ap (λ (q : State). q.top.func) last;
            world = ap (λ (q : State). q.world) last;
            asleep = ap (λ (q : State). slice_get q.instances i) last
                ∙ set_here s.instances i (slept_of s u x) (get_within s.instances i x z.1);
          }

  save_done : save g s ≡ Ok after → IsSaved g s after
  save_done e = on (suspend_of (function_of g s) (here_of s)) refl e
    where
      on : (o : Option Point) → suspend_of (function_of g s) (here_of s) ≡ o
          → and_then (found Cause.State o) (λ (suspend : Point). and_then (save_for s (here_of s) suspend)
          (λ s. Ok (next s))) ≡ Ok after → IsSaved g s after
      on None d h = absurd (no_error Cause.State after h)
      on (Some u) d h = saved_at u d (own_instance s) refl h

-- no suspend takes no token
none_from : (block at : ℕ) (is : List Instr) → points_from (is_suspend_of None) block at is ≡ []
none_from block at [] = refl
none_from block at (i ∷ is) = none_from block (suc at) is

none_in : (block : ℕ) (bs : List Block) → points_in (is_suspend_of None) block bs ≡ []
none_in block [] = refl
none_in block (b ∷ bs) = λ j. none_from block 0 b.instrs j ++ none_in (suc block) bs j

-- a save with a suspend gives a token
token_there : (f : Function) (p s : Point) (result : Option ℕ) (must_tail : Bool) (ty : Option Ty) (args : List Arg)
    → instr_at f p ≡ Some (Instr.Call result must_tail ty (Callee.Intrinsic Intrinsic.CoroSave) args)
    → suspend_of f p ≡ Some s → (v : ℕ) × (result ≡ Some v)
token_there f p s (Some v) must_tail ty args there e = (v, refl)
token_there f p s None must_tail ty args there e =
    let none : Some s ≡ slice_get (points_where (is_suspend_of None) f) 0 =
    sym e ∙ ap (λ (o : Option Instr). slice_get (points_where (is_suspend_of (option_and_then call_result o)) f) 0)
    there in
    absurd (nothing (none ∙ ap (λ (ps : List Point). slice_get ps 0) (none_in 0 f.blocks)))
  where
    nothing : ◌≡◌ {A = Option Point} (Some s) None → ⊥
    nothing e = cc

module _ (c : Setting) (all : KeepsAll c) (kinds : KeepsKinds c) (s t : State) (r : AreBuiltOf c.b s t)
    (k : AreOfRuns c s t r) (runs : s.outcome ≡ Outcome.Running) (fine : IsFine (renewed_step c.g s).outcome)
    (coroutine : is_coroutine c.b s.top.func ≡ true) (mode : IsNotEntering s.top.mode) (o : MayFollow c s)
    (m : MaySave c s) (result : Option ℕ) (must_tail : Bool) (ty : Option Ty) (args : List Arg)
    (there : fetch (function_of c.g.given s) s.top.block s.top.at
    ≡ AtInstr (Instr.Call result must_tail ty (Callee.Intrinsic Intrinsic.CoroSave) args)) where
  abbrev x : Framing
  x = c.b.framing s.top.func

  abbrev f : Function
  f = function_at c.g.given.code s.top.func

  is : IsFraming x
  is = all.given.framings s.top.func coroutine

  same : f ≡ edged x
  same = all.given.coroutines s.top.func coroutine

  abbrev made : Instr
  made = Instr.Call result must_tail ty (Callee.Intrinsic Intrinsic.CoroSave) args

  stands_made : slice_get (instrs_at x s.top.block) s.top.at ≡ Some made
  stands_made = instr_in x f same s.top.block s.top.at made there

  done : (after : State) × (renewed_act c.g s (Coro Intrinsic.CoroSave args result) ≡ Ok after)
      × (renewed_step c.g s ≡ after)
  done = acts_as c all s t r k runs fine coroutine mode o made there refl (Coro Intrinsic.CoroSave args result) refl

  y : IsSaved c.g.given s done.0
  y = save_done c.g.given s done.0 done.1

  leads : suspend_of (edged x) (point_of s.top) ≡ Some y.suspend
  leads = ap (λ (g : Function). suspend_of g (point_of s.top)) (sym same) ∙ y.leads

  token_is : (v : ℕ) × (result ≡ Some v)
  token_is =
      token_there (edged x) (point_of s.top) y.suspend result must_tail ty args
      (point_there x is s.top.block s.top.at made stands_made) leads

  abbrev v : ℕ
  v = token_is.0

  abbrev i : Instr
  i = save_call v must_tail ty args

  here : fetch f s.top.block s.top.at ≡ AtInstr i
  here = there
      ∙ ap (λ (q : Option ℕ). AtInstr (Instr.Call q must_tail ty (Callee.Intrinsic Intrinsic.CoroSave) args)) token_is.1

  stands : slice_get (instrs_at x s.top.block) s.top.at ≡ Some i
  stands = instr_in x f same s.top.block s.top.at i here

  with_suspend : IsSaveWith x (point_of s.top) y.suspend v
  with_suspend =
      kinds.saves s.top.func coroutine (point_of s.top) y.suspend v must_tail ty args
      (point_there x is s.top.block s.top.at i stands) leads

  row_is : save_row (plan x) i ≡ row_at (plan x).rows (Some with_suspend.order)
  row_is = ap (row_at (plan x).rows) with_suspend.told

  -- ---- its operand and its result

  nowhere : IsNowhere x v
  nowhere =
      token_nowhere x is v
      (ap (λ (g : Function). fits_kind (value_kind g v) token) (sym same)
      ∙ token_given c.g.given.code f (all.types s.top.func) s.top.block s.top.at v must_tail ty Intrinsic.CoroSave args
      here refl Kind.Saved refl refl)

  one_of : (as' : List Arg) → are_wanted (any Basic.Ptr ∷ []) as' ≡ true → (a : Arg) × (as' ≡ a ∷ [])
  one_of [] e = absurd (false≢true e)
  one_of (a ∷ []) e = (a, refl)
  one_of (a ∷ b ∷ more) e = absurd (false≢true (and_parts _ _ e).1)

  one : (a : Arg) × (args ≡ a ∷ [])
  one = one_of args (args_wanted c.g.given.code f (all.types s.top.func) s.top.block s.top.at result must_tail ty
      Intrinsic.CoroSave args there)

  bare_operand : (T : List (Option Fetch)) → fetch_of T (Operand.Local (begin_of x.function)) ≡ None
      → fetch_of T one.0.value ≡ None
  bare_operand T none =
      ⊎_elim
      (λ (e : operand_at args 0 ≡ Operand.Null).
      ap (fetch_of T) (sym (ap (λ (q : List Arg). operand_at q 0) one.1) ∙ e))
      (λ (e : operand_at args 0 ≡ Operand.Local (begin_of x.function)).
      ap (fetch_of T) (sym (ap (λ (q : List Arg). operand_at q 0) one.1) ∙ e) ∙ none)
      (kinds.pointers s.top.func s.top.block s.top.at result must_tail ty args coroutine there)

  bare : IsBare x i
  bare = subst (λ (q : List Arg). IsBare x (save_call v must_tail ty q)) (sym one.1) (record {
    unloaded = (
      bare_operand (fetches_of (plan x))
          (unplaced_fetch (plan x) (begin_of x.function) (begin_plain x is).unkept),
      tt,
    );
    unaddressed = (
      bare_operand (slot_table x)
          (outside_unfetched (begin_of x.function) (offsets x) (begin_of x.function)
          (begin_plain x is).outside),
      tt,
    );
    accesses = refl;
    begins = refl;
    unmarked = refl;
    same = refl;
    outside = refl;
    unkept = ap (stored_at (plan x).kept v) nowhere.unkept;
    unmeasured = λ n. refl;
  })

  -- ---- the instance

  func_is : y.instance.coroutine ≡ s.top.func
  func_is = by s.top.instance y.own k.sound.top.instance
    where
      by : (q : Option ℕ) → q ≡ Some y.number
          → IsInstanceOf s.instances s.top.func q
          → y.instance.coroutine ≡ s.top.func
      by None e h = absurd (cc)
      by (Some j) e h =
          let number : j ≡ y.number = cc in
          some_same
          (sym (ap (option_map (λ (z : Instance). z.coroutine)) (ap (slice_get s.instances) number ∙ y.there)) ∙ h)
        where
          some_same : Some y.instance.coroutine ≡ Some s.top.func → y.instance.coroutine ≡ s.top.func
          some_same e = cc

  running : IsRunningInstance c.b s
  running = record {
    number = y.number;
    instance = y.instance;
    own = y.own;
    there = y.there;
    coroutine = func_is;
    running = m.running y.number y.instance y.own y.there;
    unfreed = y.unfreed;
    small =
        let zero : y.instance.start ≡ 0 = (instances_placed s k.slots).starts y.number y.instance y.there in
        omega (arith, zero);
    begun = m.begun y.number y.instance y.own y.there;
    alone = λ j p e other unfreed block. other ((instances_placed s k.slots).apart j y.number p y.instance e y.there block);
  }

  -- ---- fields

  abbrev after : State
  after = done.0

  apart_there : AreFieldsApart c.b after
  apart_there = subst (AreFieldsApart c.b) done.2 m.apart

  coroutine_there : is_coroutine c.b y.instance.coroutine ≡ true
  coroutine_there = ap (is_coroutine c.b) func_is ∙ coroutine

  frame : HasFrameThere c.b s y.instance
  frame =
      let z = apart_there.frames y.number (slept_of s y.suspend y.instance) y.asleep y.unfreed y.suspend s.top.values
      refl in
      record {
        block = z.block;
        there = ap (λ (w : World). slice_get w.memory y.instance.block) (sym y.world) ∙ z.there;
        live = z.live;
        fits = z.fits;
        writable = z.writable;
        owned = z.owned;
      }

  spares : (u : ℕ) (kv : KeptValue)
      (g : HasRowField c.b y.instance.coroutine with_suspend.order u kv) (slot : Slot) (z : MemoryBlock) (place : ℕ)
      → Contains y.instance.slots slot → slice_get s.world.memory slot.block ≡ Some z → is_live z.life ≡ true
      → position_of (c.b.framing y.instance.coroutine).contents.held slot.alloca ≡ Some place
      → AreRangesApart (offset_at (c.b.framing y.instance.coroutine).layout place) z.size
      (offset_at (c.b.framing y.instance.coroutine).layout g.position) (value_bytes kv.field_ty)
  spares u kv g slot z place own e lives at =
      apart_there.apart y.number (slept_of s y.suspend y.instance) y.asleep y.unfreed y.suspend s.top.values refl
      with_suspend.order u g.position kv
      (subst (λ (q : ℕ). IsSuspendNumber (c.b.framing q) with_suspend.order y.suspend) (sym func_is)
      with_suspend.numbered) g.field slot z place own
      (ap (λ (w : World). slice_get w.memory slot.block) y.world ∙ e) lives at

  abbrev row_in : ℕ → List ℕ
  row_in func = row_at (plan (c.b.framing func)).rows (Some with_suspend.order)

  is_there : IsFraming (c.b.framing y.instance.coroutine)
  is_there = all.given.framings y.instance.coroutine coroutine_there

  fields : (w : Instance) → slice_get t.instances y.number ≡ Some w
      → HasFieldsFor c.b s t r (save_row (plan x) i) w
  fields w beside = record {
    room = subst (HasRoomFor x (frame_rights c.b.given t.instances) t.world.memory w.block w.start) (sym row_is)
        (subst (λ (q : ℕ). HasRoomFor (c.b.framing q) (frame_rights c.b.given t.instances) t.world.memory w.block w.start
        (row_in q)) func_is
        (room_for c all kinds s t r k y.number y.instance w y.there beside coroutine_there frame is_there.frameable.near
        is_there with_suspend.order spares));
    free = subst (λ (row : List ℕ). (u d : ℕ) (kv : KeptValue) → (kept : IsKeptValue x u kv) → IsListed kept.number row
        → slice_get (offsets x) kv.field ≡ Some (Some d) → (q : ℕ) → q < value_bytes kv.field_ty
        → IsFree owner_rights r.homes (muted r.hides s.world.memory) w.block (w.start + d + q)) (sym row_is)
        (subst (λ (n : ℕ). (u d : ℕ) (kv : KeptValue) → (kept : IsKeptValue (c.b.framing n) u kv)
        → IsListed kept.number (row_in n) → slice_get (offsets (c.b.framing n)) kv.field ≡ Some (Some d) → (q : ℕ)
        → q < value_bytes kv.field_ty
        → IsFree owner_rights r.homes (muted r.hides s.world.memory) w.block (w.start + d + q)) func_is
        (free_there c all kinds s t r k y.number y.instance w y.there beside coroutine_there frame
        is_there.frameable.near is_there with_suspend.order spares));
  }

  storable : (u : ℕ) (kv : KeptValue) → IsKeptValue x u kv → IsStorable kv.ty (value_in s.top.values u)
  storable =
      subst (λ (q : ℕ × Env). is_coroutine c.b q.0 ≡ true → (u : ℕ) (kv : KeptValue)
      → IsKeptValue (c.b.framing q.0) u kv → IsStorable kv.ty (value_in q.1 u)) (λ j. (y.func j, y.values j))
      (subst (HasStorables c) done.2 o.storables) coroutine

  pub save_at : IsFollowed c.b c.g s t
  unfolding running y
  save_at = save_followed c.b c.g all.given s t r (record {
    token = v;
    must_tail = must_tail;
    ty = ty;
    args = args;
    runs = runs;
    coroutine = coroutine;
    mode = mode;
    there = stands;
    unreturned = no_return c all s.top.func s.top.block s.top.at i coroutine here;
    bare = bare;
    instance = running;
    below = no_returns_below c all s k.called.below;
    suspend = y.suspend;
    order = with_suspend.order;
    leads = leads;
    leads_there = with_suspend.there;
    numbered = with_suspend.numbered;
    low = with_suspend.low;
    row = row_is;
    names = saves_in_order x is s.top.block s.top.at v must_tail ty args stands bare (Some with_suspend.order) row_is
        (λ u kv kept l. (_, (kinds.rows s.top.func with_suspend.order u kv coroutine kept l).told));
    begin = begin_plain x is;
    room = k.sound.top.values ∙ ap (λ (g : Function). length g.names) same;
    allocas = λ at u align of e. result_low x is 0 at u (Instr.Alloca u of align) e refl;
    storable = storable;
    fields = fields;
  })
