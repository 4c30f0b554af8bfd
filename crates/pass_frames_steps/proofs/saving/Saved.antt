-- A save is followed: what crosses goes to its fields, and both instances are Suspended, each at its suspend.
use Rattle.std.proofs.Common.{◌≡◌, ◌+◌, ◌-◌, ◌<◌, ◌≤◌, ◌^◌, ◌%◌, ◌&&◌, ◌∷◌, ◌++◌, ◌∙◌, [], if◌then◌else◌, Bool, List, Option, Some, ap, arith, false, inl, inr, length, length-append, refl, subst, sym, true, ℕ, ⊎_elim}
use Rattle.std.proofs.lemmas.Bool.{cases_lt}
use Rattle.std.specs.List.{Contains}
use Rattle.std.specs.Prelude.{slice_get, slice_set}
use Rattle.pass_frames_code.specs.flow_solver.Paths.{IsListed}
use Rattle.pass_frames_code.specs.ir_base.declared.outcome.Outcome.{Outcome}
use Rattle.pass_frames_code.proofs.ir_laws.facts.Lists.{set_length}
use Rattle.pass_frames_code.proofs.ir_laws.facts.Members.{each_joined, each_turns}
use Rattle.pass_frames_code.specs.ir_model.Names.{function_at}
use Rattle.pass_frames_code.specs.ir_model.Ty.{Ty}
use Rattle.pass_frames_code.specs.ir_model.declared.instr.Instr.{Instr}
use Rattle.pass_frames_code.specs.ir_model.declared.module.Function.{Function}
use Rattle.pass_frames_code.specs.ir_model.declared.operand.Intrinsic.{Intrinsic}
use Rattle.pass_frames_code.specs.ir_paths.Windows.{is_call_of, suspend_of}
use Rattle.pass_frames_code.specs.ir_paths.declared.point.Point.{Point}
use Rattle.pass_frames_code.specs.pass_cells.Written.{save_row}
use Rattle.pass_frames_code.specs.pass_copies.declared.slot.EarlySlot.{EarlySlot}
use Rattle.pass_frames_code.specs.pass_fetch.Fetching.{value_bytes}
use Rattle.pass_frames_code.specs.pass_frames.Framed.{begin_of}
use Rattle.pass_frames_code.proofs.code.Left.{IsMove}
use Rattle.pass_frames_code.proofs.followed.Assembly.{other_instance}
use Rattle.pass_frames_code.proofs.led.Steps.{fills_elsewhere}
use Rattle.pass_frames_code.proofs.lined.Lines.{each_between, framed_does, line_leads}
use Rattle.pass_frames_code.proofs.lines.Filled.{all_refilled, worlds_stand}
use Rattle.pass_frames_code.proofs.lines.Rows.{fields_right}
use Rattle.pass_frames_code.proofs.lines.SavedRows.{values_saved}
use Rattle.pass_frames_code.proofs.moved.Rest.{moved_related, wheres_on}
use Rattle.pass_frames_steps.proofs.saving.Becoming.{IsEasyMove, bare_becomes, easy_move, line_moves}
use Rattle.pass_frames_steps.proofs.saving.Left.{ahead_kept, block_moves, kept, mates_kept, block_shown, not_free, other_kept}
use Rattle.pass_frames_steps.proofs.saving.Own.{own_is}
use Rattle.pass_frames_steps.proofs.saving.Sets.{set_instances, set_places}
use Rattle.pass_frames_steps.proofs.saving.Stepped.{stand_split, save_is}
use Rattle.pass_frames_code.proofs.stepping.After.{cells_turned, past_value, wheres_there, wheres_turned}
use Rattle.pass_frames_code.proofs.stepping.Codes.{code_stands, instr_there}
use Rattle.pass_frames_code.proofs.stepping.May.{coroutine_values, not_returned, own_blocks}
use Rattle.pass_frames_code.proofs.stepping.Names.{cell_is_name, edged_named}
use Rattle.pass_frames_code.proofs.stepping.Operands.{asked}
use Rattle.pass_frames_code.proofs.stepping.Stands.{cost_is, made_of, renewed_does, top_is, values_of}
use Rattle.pass_frames_code.specs.Code.{address_state, write_name}
use Rattle.pass_frames_code.specs.Followed.{IsFollowed, IsOn}
use Rattle.pass_frames_code.specs.Framings.{IsFraming}
use Rattle.pass_frames_code.specs.Layers.{becomes}
use Rattle.pass_frames_code.specs.Lined.{GivesNone, lined}
use Rattle.pass_frames_code.specs.Lines.{AreAway, at_work}
use Rattle.pass_frames_code.specs.Meaning.{action_at, coroutine_cost, other_cost, step_cost}
use Rattle.pass_frames_code.specs.Moved.{IsSamePlace, MovesRest}
use Rattle.pass_frames_code.specs.Places.{Framing, Placed, copies, edged, framed, named, offsets, own_place, place, placed_layer, plan}
use Rattle.pass_frames_code.specs.Related.{AreActivations, AreAhead, AreBelow, AreBuiltOf, AreCellsRight, AreCoroutines, AreFieldsRight, AreInstances, AreNamed, AreWheresRight, Building, HasCells, IsAhead, IsCellName, IsFreeOf, IsSlotBy, IsSuspendNumber, instance_in, is_coroutine, is_first, point_of, top_place}
use Rattle.pass_frames_code.specs.Saves.{IsButBlock, IsFieldSpan, MaySave, SavesValues}
use Rattle.pass_frames_code.specs.Saving.{IsAtSave, save_call, saved_line}
use Rattle.pass_frames_code.specs.Stepping.{AreGiven, StandsInPlace, state_in}
use Rattle.pass_frames_code.specs.pass_front.Front.{is_no_alloca}
use Rattle.pass_frames_code.specs.pass_proofs.addresses.rules.Addresses.{lies_in_frame}
use Rattle.pass_frames_code.specs.pass_renewed_proof.Renewed.{RenewedGiven, renewed_step}
use Rattle.pass_frames_code.proofs.run_access_worked.Ended.{set_frames}
use Rattle.pass_frames_code.specs.run_access_worked.Frames.{IsSameFrame}
use Rattle.pass_frames_code.proofs.run_agreement.Runs.{iterate-add}
use Rattle.pass_frames_code.specs.run_agreement.Machines.{iterate}
use Rattle.pass_frames_code.specs.run_framed.Framed.{frame_rights, framed_context, framed_step}
use Rattle.pass_frames_code.proofs.run_laws.memory.Itself.{owner_rights_fit}
use Rattle.pass_frames_code.specs.run_laws.access.Accessed.{Span}
use Rattle.pass_frames_code.specs.run_laws.access.Lines.{StandAt, pointer_at}
use Rattle.pass_frames_code.specs.run_laws.changed.Changed.{Each}
use Rattle.pass_frames_code.specs.run_laws.embedded.Refilled.{AreRefilled}
use Rattle.pass_frames_code.specs.run_laws.memory.Pointers.{Home, IsValue, home_of}
use Rattle.pass_frames_code.specs.run_laws.memory.Standing.{IsAway, IsOpen}
use Rattle.pass_frames_code.specs.run_laws.transfer.Muted.{muted}
use Rattle.pass_frames_code.specs.run_laws.transfer.Transfer.{AreOver, muted_world}
use Rattle.pass_frames_code.proofs.run_access_worked.run_laws_worked.Frames.{frame_rights_fit}
use Rattle.pass_frames_code.specs.run_memory.Memory.{Rights, is_live, owner_rights}
use Rattle.pass_frames_code.specs.run_memory.Pointers.{moved, offset_of}
use Rattle.pass_frames_code.specs.run_memory.declared.block.MemoryBlock.{MemoryBlock}
use Rattle.pass_frames_code.specs.run_memory.declared.pointer.Pointer.{Pointer}
use Rattle.pass_frames_code.specs.run_memory.declared.pointer.Value.{Value}
use Rattle.pass_frames_code.specs.run_source.Source.{context_of}
use Rattle.pass_frames_code.specs.run_source.State.{function_of, or_undefined, work_of}
use Rattle.pass_frames_code.specs.run_source.declared.state.Activation.{Activation}
use Rattle.pass_frames_code.specs.run_source.declared.state.Instance.{Instance}
use Rattle.pass_frames_code.specs.run_source.declared.state.State.{State}
use Rattle.pass_frames_code.specs.run_source.declared.state.Status.{Status}
use Rattle.pass_frames_code.specs.run_step.Step.{AtInstr, Context, Coro, Fetched, Work, action_of, fetch}
use Rattle.pass_frames_code.specs.run_step.Values.{Env, value_in}
use Rattle.pass_frames_code.specs.run_step.declared.world.Slot.{Slot}
use Rattle.pass_frames_code.specs.run_step.declared.world.World.{World}
use Rattle.pass_frames_code.proofs.run_access_worked.Ended.{rights_same as frames_same}
use Rattle.pass_frames_code.proofs.stepping.After.{right_there as cells_there}

module _ (b : Building) (g : RenewedGiven) (given : AreGiven b g) (s t : State) (r : AreBuiltOf b s t)
    (h : IsAtSave b s t r) where
  abbrev x : Framing
  x = b.framing s.top.func

  abbrev R : Rights
  R = frame_rights b.given t.instances

  abbrev c : Context
  c = context_of g.given s

  abbrev d : Context
  d = framed_context b.given t

  is : IsFraming x
  is = given.framings s.top.func h.coroutine

  abbrev k : ℕ
  k = s.top.block

  abbrev i : Instr
  i = save_call h.token h.must_tail h.ty h.args

  abbrev n : Placed
  n = state_in x k s.top.at

  abbrev line : List Instr
  line = saved_line x k n i

  abbrev row : List ℕ
  row = save_row (plan x) i

  -- ---- the code

  abbrev easy : Instr → Type 0
  easy j = IsEasyMove b.given.given.code j

  moves : Each (IsEasyMove b.given.given.code) line
  moves = each_turns IsMove easy (easy_move b.given.given.code) line (line_moves x k n i)

  none : Each (λ (j : Instr). is_no_alloca j ≡ true) (line ++ (i ∷ []))
  none =
      each_joined (λ (j : Instr). is_no_alloca j ≡ true) line (i ∷ [])
      (each_turns easy (λ (j : Instr). is_no_alloca j ≡ true) (λ j q. q.no_alloca) line moves) (refl, tt)

  code : becomes (placed_layer x k) n i ≡ line ++ (i ∷ [])
  code = bare_becomes x is k s.top.at i h.there h.bare

  stands : StandsInPlace x k s.top.at (line ++ (i ∷ []))
  stands = code_stands x k s.top.at i (line ++ (i ∷ [])) h.there code none h.unreturned

  abbrev here : Point
  here = record { block = k; at = s.top.at }

  abbrev next_point : Point
  next_point = record { block = k; at = s.top.at + 1 }

  longer : length (line ++ (i ∷ [])) ≡ length line + 1
  longer = length-append line (i ∷ [])

  next_is : (place x next_point).at ≡ (place x here).at + length line + 1
  next_is = let e = stands.1 in let l = longer in omega (arith, e, l)

  own_at_place : (own_place x here).at ≡ (place x here).at + length line
  own_at_place =
      own_is x Intrinsic.CoroSave refl k s.top.at i i line [] h.there refl refl
      (each_turns easy (λ (j : Instr). is_call_of Intrinsic.CoroSave j ≡ false)
      (λ j q. q.calls Intrinsic.CoroSave) line moves) code none h.unreturned

  -- ---- where both runs stand

  at_place : point_of t.top ≡ place x here
  at_place = r.top.place ∙ top_is b s.top h.coroutine h.mode

  block_is : t.top.block ≡ k
  block_is = ap (λ (p : Point). p.block) at_place

  at_is : t.top.at ≡ (place x here).at
  at_is = ap (λ (p : Point). p.at) at_place

  edged_is : function_of g.given s ≡ edged x
  edged_is = given.coroutines s.top.func h.coroutine

  framed_is : function_of b.given.given t ≡ framed x
  framed_is =
      (λ j. function_at (given.code j) (r.top.func j)) ∙ (given.built.coroutines s.top.func h.coroutine).is

  running : t.outcome ≡ Outcome.Running
  running = r.outcome ∙ h.runs

  parted : StandAt (framed x) k (place x here).at line × StandAt (framed x) k ((place x here).at + length line)
      (i ∷ [])
  parted = stand_split (framed x) k (place x here).at line (i ∷ []) stands.0

  stand : StandAt (function_of b.given.given t) t.top.block t.top.at line
  stand =
      subst (λ (f : Function). StandAt f t.top.block t.top.at line) (sym framed_is)
      (subst (λ (p : Point). StandAt (framed x) p.block p.at line) (sym at_place) parted.0)

  -- ---- the instance

  abbrev number : ℕ
  number = h.instance.number

  abbrev p : Instance
  p = h.instance.instance

  beside : (y : Instance) × (slice_get t.instances number ≡ Some y) × AreInstances b r.homes t p y
  beside = other_instance b s t r number p h.instance.there

  abbrev y : Instance
  y = beside.0

  -- ---- what crosses is saved

  old : AreCoroutines x r.homes R t s.top t.top
  old = coroutine_values b r.homes R t s.top t.top (is_coroutine b s.top.func) h.coroutine r.top.values

  cells : AreCellsRight x r.homes R t.world.memory s.top.values t.top
      × AreWheresRight x R t.world.memory (instance_in t.instances t.top.instance) t.top
  cells =
      subst (λ (o : Option ℕ). HasCells x r.homes R t.world.memory
      (instance_in t.instances t.top.instance) s.top t.top o)
      (not_returned x s.top s.top.mode h.mode h.unreturned) old.cells

  begun : value_in t.top.values (begin_of x.function) ≡ pointer_at y.block y.start
  begun =
      let v = subst (λ (u : Value). IsValue r.homes u (value_in t.top.values (begin_of x.function)))
      h.instance.begun
      (old.names.each (begin_of x.function) (asked x s.top s.top.mode (begin_of x.function) h.mode) h.begin.unkept
      h.begin.outside) in
      v.1
      ∙ ap (λ (q : Home). Value.Ptr (Pointer.At q.block (moved (offset_of p.start) q.offset))) beside.2.block
      ∙ ap (λ (o : ℕ). pointer_at y.block o) (small p.start h.instance.small ∙ sym beside.2.start)
    where
      small : (o : ℕ) → o < 2 ^ 64 → (o + 0) % 2 ^ 64 ≡ o
      small o lt = omega (arith, lt)

  low_names : length (edged x).names ≤ write_name n
  low_names =
      let a : length (edged x).names ≤ length (named x).names = edged_named x in
      let e = h.names.low in
      omega (arith, a, e)

  begin_low : begin_of x.function < write_name n
  begin_low = let a = low_names in let e = h.begin.low in omega (arith, a, e)

  -- cells of the activation are free of the source's blocks
  free : (slot : Slot) → Contains t.top.slots slot → IsCellName x slot.alloca
      → IsFreeOf r.homes r.hides s.world.memory slot.block
  free slot listed name =
      r.cells.0 (subst (λ (q : ℕ). is_coroutine b q ≡ true) (sym r.top.func) h.coroutine) slot listed
      (subst (λ (q : ℕ). IsCellName (b.framing q) slot.alloca) (sym r.top.func) name)

  apart : (e : ℕ) → IsFreeOf r.homes r.hides s.world.memory e → e ≡ y.block → ⊥
  apart =
      not_free b s t r given.framings number p y h.instance.there beside.2 h.instance.running h.instance.alone running

  may : MaySave x r.homes d (work_of t) t.top s.top.values y.block y.start (write_name n) (address_state n).0 row
  may = record {
    begun = begun;
    begin_old = begin_low;
    room = h.names.addresses;
    long = subst (λ (q : ℕ). (address_state n).0 + length row ≤ q) (sym old.names.room) h.names.room;
    own = own_blocks t r.once;
    elsewhere = λ slot listed of. apart slot.block (free slot listed (cell_is_name x slot.alloca of));
    storable = h.storable;
    cells = cells.0;
    fields = (h.fields y beside.1).room;
  }

  saves : SavesValues x r.homes d (work_of t) t.top s.top.values y.block y.start k (write_name n) (address_state n).0
      row
  saves =
      values_saved x is r.homes d (frame_rights_fit b.given t.instances) s.top.values t.top (work_of t) y.block y.start
      k (write_name n) (address_state n).0 row h.names.low may

  abbrev w : Work
  w = saves.work

  gives : Each (GivesNone b.given.given.code) line
  gives = each_turns easy (GivesNone b.given.given.code) (λ j q. q.gives) line moves

  leads : iterate (framed_step b.given) (length line) t ≡ lined t (length line) w
  leads =
      line_leads b.given t (IsButBlock y.block (work_of t)) line w running stand gives saves.through

  -- ---- the memory behind the line

  others : (e : ℕ) → (e ≡ y.block → ⊥) → slice_get w.world.memory e ≡ slice_get t.world.memory e
  others e away =
      fills_elsewhere R saves.spans t.world.memory w.world.memory e saves.over.fills
      (each_turns (λ (q : Span). q.block ≡ y.block) (λ (q : Span). q.block ≡ e → ⊥)
      (λ q same eq. away (sym eq ∙ same)) saves.spans saves.inside)

  refilled : AreRefilled t.world.memory w.world.memory
  refilled = all_refilled R saves.spans t.world.memory w.world.memory saves.over.fills

  away : AreAway owner_rights r.homes (muted r.hides s.world.memory) saves.spans
  away =
      each_turns (IsFieldSpan x y.block y.start row)
      (λ (q : Span). (e : ℕ) (z : MemoryBlock) → slice_get (muted r.hides s.world.memory) e ≡ Some z
      → is_live z.life ≡ true → IsAway owner_rights r.homes e z q.block q.offset q.len) one saves.spans saves.in_fields
    where
      one : (q : Span) → IsFieldSpan x y.block y.start row q → (e : ℕ) (z : MemoryBlock)
          → slice_get (muted r.hides s.world.memory) e ≡ Some z → is_live z.life ≡ true
          → IsAway owner_rights r.homes e z q.block q.offset q.len
      one q f e z there live =
          subst (λ (a : Span). IsAway owner_rights r.homes e z a.block a.offset a.len) (sym f.is)
          (λ same j lt opens. ⊎_elim (λ less. inl less)
          (λ more. ⊎_elim
          (λ less. absurd (inside j same lt opens more less)) (λ past. inr past)
          (cases_lt ((home_of r.homes e).offset + j) (y.start + f.offset + value_bytes f.kept.field_ty)))
          (cases_lt ((home_of r.homes e).offset + j) (y.start + f.offset)))
        where
          inside : (j : ℕ) → (home_of r.homes e).block ≡ y.block → j < z.size → IsOpen owner_rights e z j
              → y.start + f.offset ≤ (home_of r.homes e).offset + j
              → (home_of r.homes e).offset + j < y.start + f.offset + value_bytes f.kept.field_ty → ⊥
          inside j same lt opens more less =
              ((h.fields y beside.1).free f.value f.offset f.kept f.is_kept f.listed f.told
              ((home_of r.homes e).offset + j - (y.start + f.offset))
              (omega (arith, more, less))).each e j z there live
              lt opens same (omega (arith, more))

  over : AreOver owner_rights R r.homes r.hides (λ q. q) s.world w.world
  over =
      subst (λ (u : World). AreOver owner_rights R r.homes r.hides (λ q. q) s.world u) (sym saves.over.world)
      (worlds_stand owner_rights R owner_rights_fit (frame_rights_fit b.given t.instances) r.homes (λ q. q)
      (muted_world r.hides s.world) t.world saves.spans w.world.memory saves.over.fills away r.world)

  -- ---- the save itself

  abbrev t1 : State
  t1 = lined t (length line) w

  abbrev suspend' : Point
  suspend' = own_place x h.suspend

  abbrev p' : Instance
  p' = record p {
    status = Status.Suspended h.suspend s.top.values;
    last_save = Some (record { depth = length s.below; save = here });
  }

  abbrev y' : Instance
  y' = record y {
    status = Status.Suspended suspend' w.values;
    last_save = Some (record {
      depth = length t.below;
      save = record { block = t.top.block; at = t.top.at + length line };
    });
  }

  abbrev xs : List Instance
  xs = slice_set s.instances number p'

  abbrev ys : List Instance
  ys = slice_set t.instances number y'

  abbrev a' : Activation
  a' = record s.top { at = s.top.at + 1; has_left = true }

  abbrev c' : Activation
  c' = record t.top { at = t.top.at + length line + 1; values = w.values; has_left = true }

  own_there : ◌≡◌ {A = Point} (record { block = t.top.block; at = t.top.at + length line }) (own_place x here)
  own_there =
      (λ j. record { block = block_is j; at = at_is j + length line })
      ∙ ap (λ (q : ℕ). record { block = k; at = q }) (sym own_at_place)

  source_is : renewed_step g s ≡ record s { instances = xs; top = a' }
  source_is =
      renewed_does g s (AtInstr i) (Coro Intrinsic.CoroSave h.args (Some h.token)) h.runs fetched refl refl
      ∙ ap (or_undefined g.given s)
      (save_is g.given s h.suspend number p (ap (λ (f : Function). suspend_of f here) edged_is ∙ h.leads)
      h.instance.own h.instance.there h.instance.unfreed)
    where
      fetched : fetch (function_of g.given s) k s.top.at ≡ AtInstr i
      fetched = ap (λ (f : Function). fetch f k s.top.at) edged_is ∙ instr_there (edged x) k s.top.at i h.there

  target_is : framed_step b.given t1 ≡ record t { world = w.world; instances = ys; top = c' }
  target_is =
      framed_does b.given t1 (AtInstr i) (Coro Intrinsic.CoroSave h.args (Some h.token)) running fetched refl refl
      ∙ ap (or_undefined b.given.given t1)
      (save_is b.given.given t1 suspend' number y
      ((λ j. suspend_of (framed_is j) (own_there j)) ∙ h.leads_there)
      (r.top.instance ∙ h.instance.own) beside.1 (beside.2.freed ∙ h.instance.unfreed))
    where
      fetched : fetch (function_of b.given.given t) t.top.block (t.top.at + length line) ≡ AtInstr i
      fetched =
          (λ j. fetch (framed_is j) (block_is j) (at_is j + length line)) ∙ parted.1.0

  all_leads : iterate (framed_step b.given) (length line + 1) t
      ≡ record t { world = w.world; instances = ys; top = c' }
  all_leads =
      iterate-add (framed_step b.given) (length line) 1 t ∙ ap (framed_step b.given) leads ∙ target_is

  -- ---- the relation behind it

  same_frame : IsSameFrame y y'
  same_frame = record { coroutine = refl; block = refl; start = refl }

  rights_same : frame_rights b.given ys ≡ R
  rights_same = frames_same b.given t.instances ys (set_frames t.instances number y y' beside.1 same_frame)

  places : (o : Option ℕ) → IsSamePlace (instance_in t.instances o) (instance_in ys o)
  places = set_places t.instances number y y' beside.1 (refl, refl)

  moves_rest : MovesRest b s t r s.below t.below r.homes r.hides ys s.world w.world
  moves_rest =
      block_moves b s t r given.framings number p y h.instance.there beside.2 h.instance.running h.instance.alone
      running w.world others refilled h.below ys rights_same places

  abbrev Q : Rights
  Q = frame_rights b.given ys

  abbrev t' : State
  t' = record t { world = w.world; instances = ys; top = c' }

  fields_there : AreFieldsRight x r.homes R w.world.memory h.order s.top.values y.block y.start
  fields_there =
      fields_right x is r.homes R w.world.memory h.order s.top.values y.block y.start h.low
      (λ v j kept l. saves.fields v j kept (subst (IsListed kept.number) (sym h.row) l))

  framing_is : b.framing p.coroutine ≡ x
  framing_is = ap b.framing h.instance.coroutine

  deep : (ups cs : List Activation) → AreBelow b r.homes r.hides t ups cs → length cs ≡ length ups
  deep [] [] q = refl
  deep [] (z ∷ cs) q = absurd q
  deep (z ∷ ups) [] q = absurd q
  deep (z ∷ ups) (q ∷ cs) m = let e = deep ups cs m.1 in omega (arith, e)

  suspended : AreInstances b r.homes t' p' y'
  suspended = record {
    coroutine = beside.2.coroutine;
    is_coroutine = beside.2.is_coroutine;
    block = beside.2.block;
    start = beside.2.start;
    status = subst
        (λ (f : Framing). (other : Env) × (j : ℕ)
        × (Status.Suspended suspend' w.values ≡ Status.Suspended (own_place f h.suspend) other)
        × IsSuspendNumber f j h.suspend
        × (p.freed ≡ false → AreFieldsRight f r.homes Q w.world.memory j s.top.values y.block y.start))
        (sym framing_is) (
          w.values,
          h.order,
          refl,
          h.numbered,
          λ live.
              subst (λ (q : Rights). AreFieldsRight x r.homes q w.world.memory h.order s.top.values y.block y.start)
              (sym rights_same) fields_there,
        );
    last_save = ap Some (λ j. record { depth = deep s.below t.below r.below j; save = own_there j })
        ∙ ap (λ (f : Framing). Some (record { depth = length s.below; save = own_place f here })) (sym framing_is);
    released = beside.2.released;
    freed = beside.2.freed;
    slots = λ slot e. let q = beside.2.slots slot e in record {
      position = q.position;
      position_is = q.position_is;
      home = q.home;
    };
    no_slots = beside.2.no_slots;
  }

  instances_there : (j : ℕ) (v z : Instance) → slice_get xs j ≡ Some v → slice_get ys j ≡ Some z
      → AreInstances b r.homes t' v z
  instances_there =
      set_instances s.instances t.instances number p p' y y' h.instance.there beside.1 (AreInstances b r.homes t')
      suspended
      (λ j v z e e' apart.
      other_kept b s t r given.framings number p y h.instance.there beside.2 h.instance.running h.instance.alone running
      w.world others refilled h.below ys rights_same places xs c' j v z e e')

  -- the values on top
  stays : (u : ℕ) → u < write_name n → value_in w.values u ≡ value_in t.top.values u
  stays u lt = saves.over.others u lt

  names : AreNamed x r.homes a' c'
  names = record {
    each = λ u asks unkept outside. ⊎_elim
        (λ lt. subst (IsValue r.homes (value_in s.top.values u)) (sym (stays u lt))
        (old.names.each u (asked x s.top s.top.mode u h.mode) unkept outside))
        (λ le. subst (λ (v : Value). IsValue r.homes v (value_in w.values u))
        (sym (past_value s.top.values u (let e = h.room in let l = low_names in omega (arith, e, l, le)))) tt)
        (cases_lt u (write_name n));
    room = saves.over.room ∙ old.names.room;
  }

  right_there : AreCellsRight x r.homes R w.world.memory s.top.values c'
  right_there =
      cells_turned R w.world.memory (at_work t.top w) c' x r.homes s.top.values refl refl saves.cells

  between : (e : EarlySlot) → Contains (copies x).slots e
      → (value_in w.values e.cell ≡ value_in t.top.values e.cell)
      × (value_in w.values e.temporary ≡ value_in t.top.values e.temporary)
  between e listed =
      let z = h.names.slots e listed in
      (saves.between e.cell z.0.1 z.1.1, saves.between e.temporary z.0.0 z.1.0)

  abbrev own : Option Instance
  own = instance_in t.instances t.top.instance

  abbrev own_now : Option Instance
  own_now = instance_in ys t.top.instance

  wheres_here : AreWheresRight x R w.world.memory own_now t.top
  wheres_here =
      wheres_on R R t.world.memory w.world.memory r.homes r.homes (record { each = λ e seen. refl }) x is t.top
      (λ slot listed name.
      kept b s t r given.framings number p y h.instance.there beside.2 h.instance.running h.instance.alone running w.world
      others slot.block (apart slot.block (free slot listed name)))
      own own_now (places t.top.instance) cells.1

  wheres : AreWheresRight x R w.world.memory own_now c'
  wheres = wheres_turned R w.world.memory t.top c' x own_now refl between wheres_here

  after : AreCoroutines x r.homes R t' a' c'
  after = record {
    names = names;
    cells = subst (λ (o : Option ℕ). HasCells x r.homes R w.world.memory own_now a' c' o)
        (sym (not_returned x a' s.top.mode h.mode h.unreturned)) (right_there, wheres);
    made = made_of x R w.world.memory c' s.top.mode h.mode (
      cells_there x is r.homes R w.world.memory s.top.values c' right_there,
      wheres_there x R w.world.memory c' own_now wheres,
    );
  }

  slot_by : (slot : Slot) (f : Bool) → IsSlotBy b r.homes r.hides s.top t.top slot f
      → IsSlotBy b r.homes r.hides a' c' slot f
  slot_by slot true q = q
  slot_by slot false q = record { block = q.block; home = q.home; own = q.own }

  top_place_is : point_of c' ≡ top_place b a'
  top_place_is =
      (λ j. record { block = block_is j; at = at_is j + length line + 1 })
      ∙ ap (λ (q : ℕ). record { block = k; at = q }) (sym next_is)
      ∙ sym (top_is b a' h.coroutine h.mode)

  top_after : AreActivations b r.homes r.hides t' (top_place b) a' c'
  top_after = record {
    func = r.top.func;
    place = top_place_is;
    result = r.top.result;
    mode = r.top.mode;
    instance = r.top.instance;
    has_left = refl;
    values = values_of b r.homes Q t' a' c' (is_coroutine b s.top.func) h.coroutine
        (subst (λ (q : Rights). AreCoroutines x r.homes q t' a' c') (sym rights_same) after);
    slots = λ slot e.
        slot_by slot
        (is_coroutine b s.top.func && lies_in_frame (offsets x) slot.alloca) (r.top.slots slot e);
  }

  ahead_there : is_coroutine b s.top.func ≡ true → is_first s.top.mode ≡ true → k ≡ 0
      → AreAhead x r.homes r.hides s.world.memory w.world.memory a' c'
  ahead_there q first at_entry_block = record {
    slots = λ at u align ty e le outside.
        turned u ty align
        (ahead_kept b s t r given.framings number p y h.instance.there beside.2 h.instance.running h.instance.alone
        running w.world others refilled h.below ys rights_same places x t.top u align ty
        ((r.ahead.0 q first at_entry_block).slots at u align ty e (omega (arith, le)) outside))
        (stays u (let lt = h.allocas at u align ty e in let l = low_names in omega (arith, lt, l)));
    temporaries = λ e at align ty listed there le.
        turned e.temporary e.ty e.align
        (ahead_kept b s t r given.framings number p y h.instance.there beside.2 h.instance.running h.instance.alone
        running w.world others refilled h.below ys rights_same places x t.top e.temporary e.align e.ty
        ((r.ahead.0 q first at_entry_block).temporaries e at align ty listed there (omega (arith, le))))
        (between e listed).1;
  }
    where
      turned : (u : ℕ) (ty : Ty) (align : ℕ)
          → (one : IsAhead x r.homes r.hides s.world.memory w.world.memory t.top u ty align)
          → value_in w.values u ≡ value_in t.top.values u
          → IsAhead x r.homes r.hides s.world.memory w.world.memory c' u ty align
      turned u ty align one value = record {
        block = one.block;
        address = value ∙ one.address;
        own = one.own;
        free = one.free;
        bytes = one.bytes;
        sized = one.sized;
        there = one.there;
      }

  related : AreBuiltOf b (record s { instances = xs; top = a' }) t'
  related =
      moved_related b s t r r.homes r.hides xs ys s.world w.world a' c' moves_rest
      (record {
        world = subst (λ (q : Rights). AreOver owner_rights q r.homes r.hides (λ z. z) s.world w.world)
            (sym rights_same) over;
        known = r.known;
        globals = r.globals;
        mates = mates_kept b s t r given.framings number p y h.instance.there beside.2 h.instance.running
            h.instance.alone running w.world others refilled h.below ys rights_same places;
        hidden = r.hidden;
        count = set_length t.instances number y' ∙ r.count ∙ sym (set_length s.instances number p');
        instances = instances_there;
      })
      (record { top = top_after; once = r.once; cells = r.cells.0; ahead = ahead_there })

  -- ---- the account

  cost : step_cost b g s s.top.mode ≡ length line + 1
  cost =
      cost_is b g s s.top.mode h.mode
      ∙ ap (λ (q : Bool). if q then coroutine_cost b g s (action_at g s) else other_cost b g s (action_at g s))
      h.coroutine
      ∙ ap (λ (f : Function). coroutine_cost b g s (action_of c (work_of s) (fetch f k s.top.at))) edged_is
      ∙ ap (λ (f : Fetched). coroutine_cost b g s (action_of c (work_of s) f))
      (instr_there (edged x) k s.top.at i h.there)
      ∙ ap (λ (q : ℕ). q - (place x here).at) next_is
      ∙ behind (place x here).at (length line)
    where
      behind : (q len : ℕ) → (q + len + 1) - q ≡ len + 1
      behind q len = omega arith

  shown : (u : Work) (j : ℕ) → IsButBlock y.block (work_of t) u → IsOn b s (lined t j u)
  shown u j but =
      block_shown b s t r given.framings number p y h.instance.there beside.2 h.instance.running h.instance.alone
      running u.world but.others (lined t j u).top (ap (λ (q : World). q.events) but.world)

  last_shown : IsButBlock y.block (work_of t) w
  last_shown = record { world = saves.over.world; others = others }

  on_way : (j : ℕ) → j < length line + 1 → IsOn b s (iterate (framed_step b.given) j t)
  on_way j lt = ⊎_elim
      (λ less.
      let z = each_between b.given t (IsButBlock y.block
      (work_of t)) line w running stand gives saves.through j less in
      subst (IsOn b s) (sym z.1.0) (shown z.0 j z.1.1))
      (λ le.
      let same : length line ≡ j = omega (arith, lt, le) in
      subst (λ (q : ℕ). IsOn b s (iterate (framed_step b.given) q t)) same
      (subst (IsOn b s) (sym leads) (shown w (length line) last_shown)))
      (cases_lt j (length line))

  pub save_followed : IsFollowed b g s t
  save_followed = record {
    steps = length line + 1;
    few = subst (λ (q : ℕ). length line + 1 ≤ q) (sym cost) (same (length line + 1));
    goes_on = inl (omega arith);
    passes = λ j pos lt. inl (on_way j lt);
    related = subst (λ (q : State × State). AreBuiltOf b q.0 q.1) (λ j. (sym source_is j, sym all_leads j)) related;
  }
    where
      same : (q : ℕ) → q ≤ q
      same q = omega arith
