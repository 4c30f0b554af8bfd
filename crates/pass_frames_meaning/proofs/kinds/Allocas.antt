-- An alloca of a coroutine is followed.
use Rattle.std.proofs.Common.{◌≡◌, ◌≢◌, ◌⊎◌, inl, inr, ⊎_elim, ℕ, suc, ◌+◌, ◌<◌, ◌≤◌, ◌==◌, Bool, true, false, List, [], ◌∷◌, length, Option, Some, None, refl, sym, ap, ◌∙◌, subst, arith}
use Rattle.std.specs.List.{Contains, list_any}
use Rattle.std.specs.Prelude.{if◌then◌else◌, not, option_map, slice_get}
use Rattle.pass_frames_proof.specs.flow_solver.Paths.{IsListed}
use Rattle.pass_frames_proof.specs.frame_classes.declared.class.SlotClass.{SlotClass}
use Rattle.pass_frames_proof.specs.ir_base.declared.cause.Cause.{Cause}
use Rattle.pass_frames_proof.specs.ir_base.declared.outcome.Outcome.{Outcome}
use Rattle.pass_frames_proof.proofs.ir_laws.facts.Truth.{equal_numbers, itself}
use Rattle.pass_frames_proof.specs.ir_model.Layout.{extent_of, extent_or, size_of}
use Rattle.pass_frames_proof.specs.ir_model.Names.{function_at}
use Rattle.pass_frames_proof.specs.ir_model.Ty.{Ty}
use Rattle.pass_frames_proof.specs.ir_model.declared.instr.Instr.{Instr}
use Rattle.pass_frames_proof.specs.ir_model.declared.module.Function.{Function}
use Rattle.pass_frames_proof.specs.ir_model.declared.module.TypeItem.{TypeItem}
use Rattle.pass_frames_proof.specs.pass_cells.Kept.{entry}
use Rattle.pass_frames_proof.specs.pass_copies.Slots.{entry_instrs}
use Rattle.pass_frames_proof.specs.pass_copies.Uses.{used_before}
use Rattle.pass_frames_proof.specs.pass_copies.declared.slot.EarlySlot.{EarlySlot}
use Rattle.pass_frames_proof.specs.pass_frames.Tables.{class_flags, sizes_by_name}
use Rattle.pass_frames_meaning.proofs.coroutines.Steps.{not_stuck}
use Rattle.pass_frames_meaning.proofs.kinds.Entry.{alloca_first, same_alloca}
use Rattle.pass_frames_meaning.proofs.kinds.Unkept.{made_unkept}
use Rattle.pass_frames_meaning.proofs.others.Names.{no_distance, point_there, result_low}
use Rattle.pass_frames_meaning.proofs.others.Returns.{instr_in, no_return}
use Rattle.pass_frames_meaning.proofs.slotted.Facts.{instances_placed, listed_slots, slots_apart, slots_there}
use Rattle.pass_frames_meaning.specs.Coroutines.{MayFollow}
use Rattle.pass_frames_meaning.specs.Kinds.{KeepsKinds, MayMake}
use Rattle.pass_frames_meaning.specs.Setting.{AreOfRuns, KeepsAll, Setting}
use Rattle.pass_frames_proof.proofs.allocating.Before.{early_followed}
use Rattle.pass_frames_proof.proofs.allocating.Framed.{framed_followed}
use Rattle.pass_frames_proof.proofs.allocating.Unseen.{hidden_followed}
use Rattle.pass_frames_proof.proofs.allocating.Whole.{whole_followed}
use Rattle.pass_frames_proof.proofs.lines.Cells.{contained}
use Rattle.pass_frames_proof.proofs.stepping.Names.{edged_named, named_written, slots_new}
use Rattle.pass_frames_proof.specs.Allocating.{IsAtRampAlloca, IsEarlyAlloca, IsFrameBehind, IsOwnBehind, IsWholeAlloca}
use Rattle.pass_frames_proof.specs.Passes.{block_at}
use Rattle.pass_frames_proof.specs.Followed.{IsFollowed}
use Rattle.pass_frames_proof.specs.Framings.{IsFraming}
use Rattle.pass_frames_proof.specs.Places.{Framing, before_labels, copies, edged, instrs_at, is_return, offsets, plan, written}
use Rattle.pass_frames_proof.specs.Related.{AreBuiltOf, AreCellsRight, HasCells, HasValues, IsCell, IsDistanceOf, instance_in, is_coroutine, is_first, returned_from, root_of}
use Rattle.pass_frames_proof.specs.Slotted.{HasSlotsThere, IsSlotField}
use Rattle.pass_frames_proof.specs.Stepping.{IsNotEntering}
use Rattle.pass_frames_proof.specs.pass_frames.Tables.{offset_at}
use Rattle.pass_frames_proof.specs.frame_contents.Held.{position_of}
use Rattle.pass_frames_proof.specs.ir_model.Ty.{int}
use Rattle.pass_frames_proof.specs.run_framed.Framed.{layout_of}
use Rattle.pass_frames_proof.specs.run_memory.declared.pointer.Offset.{Offset}
use Rattle.pass_frames_proof.specs.run_source.Source.{context_of}
use Rattle.pass_frames_proof.specs.run_source.State.{work_of}
use Rattle.pass_frames_proof.specs.run_step.Step.{alloca}
use Rattle.pass_frames_proof.proofs.pass_proofs.copies.rules.Slots.{AreNumbered, numbered}
use Rattle.pass_frames_proof.specs.pass_proofs.addresses.rules.Addresses.{lies_in_frame}
use Rattle.pass_frames_proof.specs.pass_renewed_proof.Renewed.{renewed_step}
use Rattle.pass_frames_proof.specs.run_agreement.Machines.{IsFine}
use Rattle.pass_frames_proof.specs.run_framed.Framed.{frame_rights}
use Rattle.pass_frames_proof.specs.run_memory.declared.pointer.Value.{Value}
use Rattle.pass_frames_proof.specs.run_source.State.{function_of}
use Rattle.pass_frames_proof.specs.run_source.declared.state.Activation.{Activation}
use Rattle.pass_frames_proof.specs.run_source.declared.state.Instance.{Instance}
use Rattle.pass_frames_proof.specs.run_source.declared.state.Mode.{Mode}
use Rattle.pass_frames_proof.specs.run_source.declared.state.State.{State}
use Rattle.pass_frames_proof.specs.run_states.sound_states.Sound.{IsInstanceOf}
use Rattle.pass_frames_proof.specs.run_step.Step.{AtInstr, Stuck, fetch, is_alignment}
use Rattle.pass_frames_proof.specs.run_step.Values.{pointer_to, value_in}
use Rattle.pass_frames_proof.specs.run_source_tables.Given.{facts_at}

-- ---- temporaries

temporary_high : (k : ℕ) (ss : List EarlySlot) (e : EarlySlot) → AreNumbered k ss → IsListed e ss → k ≤ e.temporary
temporary_high k [] e h l = absurd l
temporary_high k (z ∷ ss) e h (inl d) =
    let a : z.temporary ≡ k = h.0 in
    let b : e.temporary ≡ z.temporary = ap (λ (y : EarlySlot). y.temporary) d in
    omega (arith, a, b)
temporary_high k (z ∷ ss) e h (inr l) = let a = temporary_high (k + 2) ss e h.1.1 l in omega (arith, a)

-- each slot has a temporary of its own
temporaries_once : (k : ℕ) (ss : List EarlySlot) (e f : EarlySlot) → AreNumbered k ss → IsListed e ss → IsListed f ss
    → e.temporary ≡ f.temporary → e.slot ≡ f.slot
temporaries_once k [] e f h l m same = absurd l
temporaries_once k (z ∷ ss) e f h (inl d) (inl g) same = ap (λ (y : EarlySlot). y.slot) (d ∙ sym g)
temporaries_once k (z ∷ ss) e f h (inl d) (inr m) same =
    let a : z.temporary ≡ k = h.0 in
    let b : e.temporary ≡ z.temporary = ap (λ (y : EarlySlot). y.temporary) d in
    let c = temporary_high (k + 2) ss f h.1.1 m in
    absurd (omega (arith, a, b, c, same))
temporaries_once k (z ∷ ss) e f h (inr l) (inl g) same =
    let a : z.temporary ≡ k = h.0 in
    let b : f.temporary ≡ z.temporary = ap (λ (y : EarlySlot). y.temporary) g in
    let c = temporary_high (k + 2) ss e h.1.1 l in
    absurd (omega (arith, a, b, c, same))
temporaries_once k (z ∷ ss) e f h (inr l) (inr m) same = temporaries_once (k + 2) ss e f h.1.1 l m same

pub same_slots : (x : Framing) (e f : EarlySlot) → Contains (copies x).slots e → Contains (copies x).slots f
    → e.temporary ≡ f.temporary → e.slot ≡ f.slot
same_slots x e f c d =
    temporaries_once (length (written x).names) (copies x).slots e f
    (numbered (used_before (written x) (class_flags x.function x.contents.classes SlotClass.Frame) (before_labels x))
    (sizes_by_name x.function x.contents.held) (length (written x).names) (entry_instrs (written x).blocks))
    (contained (copies x).slots e c) (contained (copies x).slots f d)

-- ---- whether a slot is among those that are used before begin

abbrev IsSought : List EarlySlot → ℕ → Type 0
IsSought ss v = (e : EarlySlot) × Contains ss e × (e.slot ≡ v)

listed_in : (ss : List EarlySlot) (e : EarlySlot) → IsListed e ss → Contains ss e
listed_in [] e l = absurd l
listed_in (z ∷ ss) e (inl d) = (0, omega arith, sym d)
listed_in (z ∷ ss) e (inr l) =
    let r = listed_in ss e l in
    let lt : r.0 < length ss = r.1 in
    (suc r.0, omega (arith, lt), r.2)

sought : (ss : List EarlySlot) (v : ℕ)
    → ((e : EarlySlot) × IsListed e ss × (e.slot ≡ v)) ⊎ ((e : EarlySlot) → IsListed e ss → e.slot ≢ v)
sought [] v = inr (λ e l. absurd l)
sought (z ∷ ss) v = on (z.slot == v) refl (sought ss v)
  where
    lost : (z.slot == v) ≡ false → ((e : EarlySlot) → IsListed e ss → e.slot ≢ v)
        → (e : EarlySlot) → IsListed e (z ∷ ss) → e.slot ≢ v
    lost d more e (inl g) same =
        let yes : true ≡ false =
        sym (itself v) ∙ ap (λ (n : ℕ). n == v) (sym same ∙ ap (λ (y : EarlySlot). y.slot) g) ∙ d in
        absurd (cc)
    lost d more e (inr l) same = more e l same

    on : (b : Bool) → (z.slot == v) ≡ b
        → ((e : EarlySlot) × IsListed e ss × (e.slot ≡ v)) ⊎ ((e : EarlySlot) → IsListed e ss → e.slot ≢ v)
        → ((e : EarlySlot) × IsListed e (z ∷ ss) × (e.slot ≡ v))
        ⊎ ((e : EarlySlot) → IsListed e (z ∷ ss) → e.slot ≢ v)
    on true d rest = inl (z, inl refl, equal_numbers z.slot v d)
    on false d (inl (e, l, h)) = inl (e, inr l, h)
    on false d (inr more) = inr (lost d more)

-- ---- an activation of a ramp is behind no suspend

none_returned : (x : Framing) (a : Activation) (mode : Mode) → is_first mode ≡ true → is_return x a.block ≡ false
    → returned_from x a mode ≡ None
none_returned x a Mode.Ramp e d =
    ap (λ (b : Bool). if b then entry (plan x).returns (block_at (edged x) a.block).label else None) d
none_returned x a (Mode.GivenRamp frame) e d =
    ap (λ (b : Bool). if b then entry (plan x).returns (block_at (edged x) a.block).label else None) d
none_returned x a mode e d = absurd (cc)

module _ (c : Setting) (all : KeepsAll c) (kinds : KeepsKinds c) (s t : State) (r : AreBuiltOf c.b s t)
    (k : AreOfRuns c s t r) (runs : s.outcome ≡ Outcome.Running) (fine : IsFine (renewed_step c.g s).outcome)
    (coroutine : is_coroutine c.b s.top.func ≡ true) (mode : IsNotEntering s.top.mode) (o : MayFollow c s)
    (name : ℕ) (ty : Ty) (align : ℕ) (m : MayMake c s name ty)
    (there : fetch (function_of c.g.given s) s.top.block s.top.at ≡ AtInstr (Instr.Alloca name ty align)) where
  abbrev x : Framing
  x = c.b.framing s.top.func

  abbrev f : Function
  f = function_at c.g.given.code s.top.func

  abbrev i : Instr
  i = Instr.Alloca name ty align

  abbrev Follows : Type 0
  Follows = IsFollowed c.b c.g s t

  is : IsFraming x
  is = all.given.framings s.top.func coroutine

  same : f ≡ edged x
  same = all.given.coroutines s.top.func coroutine

  stands : slice_get (instrs_at x s.top.block) s.top.at ≡ Some i
  stands = instr_in x f same s.top.block s.top.at i there

  entry_block : s.top.block ≡ 0
  entry_block =
      alloca_first x is (record { block = s.top.block; at = s.top.at }) name align ty
      (point_there x is s.top.block s.top.at i stands)

  at_entry : slice_get (instrs_at x 0) s.top.at ≡ Some i
  at_entry = ap (λ (b : ℕ). slice_get (instrs_at x b) s.top.at) (sym entry_block) ∙ stands

  aligned : is_alignment align ≡ true
  aligned = on (is_alignment align) refl
    where
      on : (b : Bool) → is_alignment align ≡ b → is_alignment align ≡ true
      on false e =
          absurd (not_stuck c all s t r k runs fine coroutine mode o i there refl Cause.Align
          (ap (λ (b : Bool). if b then alloca (context_of
          c.g.given s) (work_of s) name (size_of c.g.given.code ty) align
          else Stuck Cause.Align) e))
      on true e = e

  here_return : is_return x s.top.block ≡ false
  here_return = no_return c all s.top.func s.top.block s.top.at i coroutine there

  inside : returned_from x s.top s.top.mode ≡ None
  inside = none_returned x s.top s.top.mode m.first here_return

  -- of its name no distance is kept yet
  cells_right : AreCellsRight x r.homes (frame_rights c.b.given t.instances) t.world.memory s.top.values t.top
  cells_right =
      let values = subst (HasValues c.b r.homes (frame_rights c.b.given t.instances) t s.top t.top) coroutine r.top.values in
      (subst (HasCells x r.homes (frame_rights c.b.given t.instances) t.world.memory
      (instance_in t.instances t.top.instance) s.top t.top) inside values.cells).0

  unrooted : (v cell : ℕ) → entry (plan x).cells v ≡ Some cell → root_of x v ≡ Some name
      → value_in s.top.values v ≡ Value.Poison
  unrooted v cell e root = ⊎_elim
      (λ h. h)
      (λ h.
      let no : pointer_to h.0 ≡ Value.Poison = sym h.2 ∙ m.poison in
      absurd (not_poison h.0 no))
      (kept (cells_right.distances v cell name e root))
    where
      not_poison : (block : ℕ) → pointer_to block ≡ Value.Poison → ⊥
      not_poison block e = cc

      kept : IsCell (frame_rights c.b.given t.instances) t.world.memory t.top cell
          (int 64) (IsDistanceOf (value_in s.top.values name) (value_in s.top.values v))
          → (value_in s.top.values v ≡ Value.Poison) ⊎ ((block : ℕ) × (o : Offset)
          × (value_in s.top.values name ≡ pointer_to block))
      kept z = ⊎_elim (λ h. inl h) (λ h. inr (h.0, h.1, h.2)) z.has

  ramp : IsAtRampAlloca c.b c.g s name ty align
  ramp = record {
    runs = runs;
    coroutine = coroutine;
    first = m.first;
    entry_block = entry_block;
    there = at_entry;
    aligned = aligned;
    small = (all.steps s.top.func).sizes s.top.block s.top.at name ty align there;
    unreturned = subst (λ (b : ℕ). is_return x b ≡ false) entry_block here_return;
    unkept = made_unkept x is (record { block = s.top.block; at = s.top.at }) name align ty
        (point_there x is s.top.block s.top.at i stands);
    uncelled = no_distance x is s.top.block s.top.at i stands name refl tt;
    unrooted = unrooted;
    room = k.sound.top.values ∙ ap (λ (g : Function). length g.names) same;
    names = λ at u align' ty' e. (
      result_low x is 0 at u (Instr.Alloca u ty' align') e refl,
      λ d. same_alloca x is 0 at 0 s.top.at name align' align ty' ty
          (subst (λ (v : ℕ). slice_get (instrs_at x 0) at ≡ Some (Instr.Alloca v ty' align')) d e) at_entry,
    );
  }

  sized : size_of x.code ty ≡ size_of c.g.given.code ty
  sized = ap (λ (ts : List TypeItem). (extent_or (extent_of ts ty)).size) (kinds.types s.top.func coroutine)

  among : list_any (λ (a : ℕ). a == name) (facts_at c.g.given.facts s.top.func).ramp_slots
      ≡ not (lies_in_frame (offsets x) name)
  among = kinds.classes s.top.func s.top.at name align ty coroutine at_entry

  -- ---- the activation's instance

  module _ (j : ℕ) (own : s.top.instance ≡ Some j) where
    there_is : (y : Instance) × (slice_get s.instances j ≡ Some y) × (y.coroutine ≡ s.top.func)
    there_is = on (slice_get s.instances j) refl (subst (IsInstanceOf s.instances s.top.func) own k.sound.top.instance)
      where
        same_func : (a b : ℕ) → Some a ≡ Some b → a ≡ b
        same_func a b e = cc

        on : (q : Option Instance) → slice_get s.instances j ≡ q
            → option_map (λ (z : Instance). z.coroutine) q ≡ Some s.top.func
            → (y : Instance) × (slice_get s.instances j ≡ Some y) × (y.coroutine ≡ s.top.func)
        on None e h = absurd (cc)
        on (Some y) e h = (y, e, same_func y.coroutine s.top.func h)

    y : Instance
    y = there_is.0

    behind : lies_in_frame (offsets x) name ≡ false → IsOwnBehind c.g s name
    unfolding y there_is
    behind outside = record {
      number = j;
      instance = y;
      own = own;
      there = there_is.1;
      among = among ∙ ap not outside;
    }

    unflagged : lies_in_frame (offsets x) name ≡ true → (b : Bool) → c.g.flags s.top.func name ≡ b
        → c.g.flags s.top.func name ≡ false
    unflagged lies false e = e
    unflagged lies true e =
        let no : true ≡ false = sym lies ∙ kinds.whole s.top.func name coroutine e in absurd (cc)

    frame_behind : lies_in_frame (offsets x) name ≡ true → IsFrameBehind c.b c.g s name ty align
    unfolding y there_is
    frame_behind lies =
        let field = kinds.fields s.top.func s.top.at name align ty coroutine at_entry lies in
        let func : s.top.func ≡ y.coroutine = sym there_is.2 in
        let held : position_of (c.b.framing y.coroutine).contents.held name ≡ Some field.position =
        subst (λ (n : ℕ). position_of (c.b.framing n).contents.held name ≡ Some field.position) func field.held in
        record {
          number = j;
          instance = y;
          position = field.position;
          own = own;
          coroutine = there_is.2;
          among = among ∙ ap not lies;
          inside = lies;
          off = unflagged lies (c.g.flags s.top.func name) refl;
          alone = record {
            there = there_is.1;
            alone = λ n z e block.
                (instances_placed s k.slots).apart n j z y e there_is.1 block;
          };
          held = held;
          field = subst (λ (n : ℕ). IsSlotField (layout_of c.b.given.layouts n)
              (offset_at (c.b.framing n).layout field.position) (size_of c.g.given.code ty) align) func field.field;
          frame = λ over. m.frame j y own there_is.1 over;
          fits = λ z e. m.fits j y z own there_is.1 e;
          apart = λ markers other contains z e lives p at.
              m.apart j y own there_is.1 markers field.position held other contains z e lives p at;
        }

  -- ---- by where the slot stands

  whole : lies_in_frame (offsets x) name ≡ false → IsWholeAlloca c.b c.g s name ty
  whole outside = record {
    outside = outside;
    sized = sized;
    marks = kinds.marks s.top.func s.top.at name align ty coroutine at_entry outside;
  }

  early : (e : EarlySlot) → Contains (copies x).slots e → e.slot ≡ name → IsEarlyAlloca c.b c.g s name ty align
  early e listed is_slot =
      let told = kinds.early s.top.func s.top.at name align ty coroutine at_entry e listed is_slot in
      record {
        early = e;
        listed = listed;
        slot = is_slot;
        ty_is = told.1;
        align_is = told.2;
        inside = told.0;
        sized = sized;
        marks = kinds.new_marks s.top.func e.temporary coroutine
            (let a : length (written x).names ≤ e.temporary = (slots_new x e listed).0 in
            let b = named_written x in
            let d = edged_named x in
            omega (arith, a, b, d));
        alone = λ other l same. same_slots x other e l listed same;
      }

  pub alloca_at : Follows
  alloca_at = on (lies_in_frame (offsets x) name) refl s.top.instance refl
    where
      there_slots : HasSlotsThere s
      there_slots = slots_there s k.slots

      before : lies_in_frame (offsets x) name ≡ true → s.top.instance ≡ None → Follows
      before lies none = ⊎_elim
          (λ z. early_followed c.b c.g all.given s t r name ty align ramp there_slots
          (early z.0 (listed_in (copies x).slots z.0 z.1) z.2) none)
          (λ late. hidden_followed c.b c.g all.given s t r name ty align ramp there_slots
          (record { inside = lies; late = λ e l. late e (contained (copies x).slots e l) }) none)
          (sought (copies x).slots name)

      on : (b : Bool) → lies_in_frame (offsets x) name ≡ b → (q : Option ℕ) → s.top.instance ≡ q → Follows
      on false d None e =
          whole_followed c.b c.g all.given s t r name ty align ramp there_slots (whole d) (inl e)
      on false d (Some j) e =
          whole_followed c.b c.g all.given s t r name ty align ramp there_slots (whole d) (inr (behind j e d))
      on true d None e = before d e
      on true d (Some j) e =
          framed_followed c.b c.g all.given s t r name ty align ramp there_slots (listed_slots s k.slots)
          (slots_apart t k.other_slots) (frame_behind j e d)
