-- Allocas: a slot that may be made anew is the activation's own in the second run, and any other belongs to whom it does
-- in the first.
use Rattle.std.proofs.Common.{◌≡◌, ℕ, ◌+◌, ◌<◌, ◌^◌, ◌⊎◌, inl, inr, Bool, true, false, not, List, [], ◌∷◌, ◌++◌, length, Option}
use Rattle.std.proofs.Common.{Some, None, Result, Ok, Err, refl, sym, ap, ◌∙◌, subst, if◌then◌else◌, ◌&&◌, ⊎_elim}
use Rattle.std.proofs.lemmas.Bool.{false≢true}
use Rattle.std.specs.Prelude.{IsTrue, option_and_then, option_map, slice_get}
use Rattle.run_types.specs.ir_base.declared.cause.Cause.{Cause}
use Rattle.run_types.specs.ir_model.Layout.{size_of}
use Rattle.run_types.specs.ir_model.Names.{function_at}
use Rattle.run_types.specs.ir_model.Ty.{Ty}
use Rattle.run_types.specs.ir_model.declared.instr.Instr.{Instr}
use Rattle.run_types.specs.ir_model.declared.module.Function.{Function}
use Rattle.run_types.specs.ir_model.declared.operand.Operand.{Operand}
use Rattle.run_types.specs.ir_paths.declared.point.Facts.{Facts}
use Rattle.run_types.specs.ir_laws.facts.expanded.Tokens.{IsNamedResult}
use Rattle.run_types.specs.rule_windows.Sets.{IsAfterEnd}
use Rattle.run_types.specs.run_hooks.Away.{HasStop}
use Rattle.run_types.specs.run_laws.changed.Changed.{result_at}
use Rattle.run_types.specs.run_laws.embedded.Making.{whole_home}
use Rattle.run_types.specs.run_laws.memory.Pointers.{home_of}
use Rattle.run_types.specs.run_memory.Memory.{end, fresh, killed, start}
use Rattle.run_types.specs.run_memory.declared.block.Kind.{Kind}
use Rattle.run_types.specs.run_source.Source.{is_among, is_over, kill_late, new_slot, with_new_slots}
use Rattle.run_types.specs.run_source.State.{numbered, own_facts, own_instance, settled, with_instance, with_memory, with_slots, work_of}
use Rattle.run_types.specs.run_source.declared.state.Instance.{Instance}
use Rattle.run_types.specs.run_source.declared.state.Mode.{Mode}
use Rattle.run_types.specs.run_source.declared.state.State.{State}
use Rattle.run_types.specs.run_source_tables.Given.{Given}
use Rattle.run_states.proofs.sound_states.Fits.{result_named}
use Rattle.run_types.specs.run_step.Step.{AtInstr, NewSlot, Stuck, Work, alloca, alloca_kind, fetch, has_markers, if_alignment}
use Rattle.run_types.specs.run_step.Step.{is_alignment, set_memory, set_value}
use Rattle.run_types.specs.run_step.Values.{pointer_to}
use Rattle.run_types.specs.run_step.declared.world.Slot.{Slot}
use Rattle.pass_renewed_meaning.proofs.Here.{Here, IsCase, first_act, keeps, other, own_coroutine, owns}
use Rattle.pass_renewed_meaning.proofs.OneStep.{IsOneStep}
use Rattle.pass_renewed_meaning.proofs.Points.{calm, ordinary}
use Rattle.pass_renewed_meaning.proofs.Tables.{facts_are, is_there, renewed_are}
use Rattle.pass_renewed_meaning.specs.Followed.{Goes}
use Rattle.pass_renewed_meaning.specs.Rules.{Setting}
use Rattle.pass_renewed_meaning.specs.Runs.{first_given, second_given}
use Rattle.run_types.proofs.pass_renewed_proof.Dying.{both_die}
use Rattle.run_types.proofs.pass_renewed_proof.EntryBlock.{entry_before_end}
use Rattle.run_types.proofs.pass_renewed_proof.GoingTo.{own_is}
use Rattle.run_types.proofs.pass_renewed_proof.LateAllocas.{late_slot}
use Rattle.run_types.proofs.pass_renewed_proof.Listing.{instance_beside, set_here, worlds_beside}
use Rattle.run_types.proofs.pass_renewed_proof.OtherAllocas.{instance_slot, own_slot}
use Rattle.run_types.proofs.pass_renewed_proof.Owning.{own_beside}
use Rattle.run_types.proofs.pass_renewed_proof.Places.{made_live}
use Rattle.run_types.proofs.pass_renewed_proof.Promising.{over_same}
use Rattle.run_types.proofs.pass_renewed_proof.RampSlots.{no_ramp_slot, renewed_ramp_slot, same_ramp_slot}
use Rattle.run_types.proofs.pass_renewed_proof.SlotAllocas.{begun_slot, early_slot, made_memory, set_same}
use Rattle.run_types.specs.pass_renewed_proof.Beside.{AreSlots, Both, First, IsBeside, NoSlots, Second, place_in}
use Rattle.run_types.specs.pass_renewed_proof.Found.{AreFound}
use Rattle.run_types.specs.pass_renewed_proof.Ledger.{Ledger}
use Rattle.run_types.specs.pass_renewed_proof.Making.{IsAllocaOfOther, IsAllocaOfSlot, slot_block, with_slot_of}
use Rattle.run_types.specs.pass_renewed_proof.Renewed.{renewed_act, renewed_slot, with_life}
use Rattle.run_types.specs.pass_renewed_proof.SlotRules.{IsAddressOf, Itself, KeepsSlots, Part}
use Rattle.run_types.specs.pass_renewed_proof.Steps.{given_at}

same_ok : {A : Type 0} {a b : A} → ◌≡◌ {A = Result A Cause} (Ok a) (Ok b) → a ≡ b
same_ok e = cc

-- ---- a slot that comes to an instance, by whether that is over, and whether the slot is the activation's

abbrev dead_if : Bool → State → Slot → State
dead_if dies s slot = if dies then with_memory s (killed s.world.memory slot.block) else s

abbrev comes : (over own : Bool) → State → ℕ → Instance → Slot → State
comes over own s i x slot =
    let s' = dead_if (over && not own) s slot in
    with_slots (with_instance s' i (record x { slots = (if not own then slot ∷ [] else []) ++ x.slots }))
    ((if own then slot ∷ [] else []) ++ s'.top.slots)

comes_in : (ramp : List ℕ) (s : State) (i : ℕ) (x : Instance) (slot : Slot) → with_new_slots ramp (Some (i, x)) (kill_late
    ramp (Some (i, x)) s slot) (slot ∷ []) ≡ comes (is_over x) (is_among ramp slot) s i x slot
comes_in ramp s i x slot = refl

-- its own: the instance stays as it was
comes_own : (over : Bool) (s : State) (i : ℕ) (x : Instance) (slot : Slot) → slice_get s.instances i ≡ Some x
    → comes over true s i x slot ≡ with_slots s (slot ∷ s.top.slots)
comes_own true s i x slot there = ap (λ xs. record s { instances = xs; top = record s.top { slots = slot ∷ s.top.slots } })
    (set_same s.instances i x there)
comes_own false s i x slot there = ap (λ xs. record s { instances = xs; top = record s.top { slots = slot ∷ s.top.slots } })
    (set_same s.instances i x there)

-- both list the first slot
both_first : (l : Ledger) (S O : Slot → Type 0) (flags : ℕ → Bool) → ((slot : Slot) → S slot → IsTrue (flags slot.alloca))
    → ((slot : Slot) → O slot → ⊥) → (us vs : List Slot) → AreSlots l S O flags us vs → (a b d : ℕ) (ss ts : List Slot)
    → flags a ≡ false → us ≡ record { alloca = a; block = b } ∷ ss → vs ≡ record { alloca = a; block = d } ∷ ts
    → (home_of l.homes b ≡ whole_home d) × (l.seats b ≡ None)
both_first l S O flags seated owns _ _ NoSlots a b d ss ts off us vs = absurd (cc)
both_first l S O flags seated owns _ _ (Both al e k us vs unflagged home none rest) a b d ss ts off first second =
    let one : record { alloca = al; block = e } ≡ record { alloca = a; block = b } = cc in
    let two : record { alloca = al; block = k } ≡ record { alloca = a; block = d } = cc in
    let eb : e ≡ b = ap (λ (z : Slot). z.block) one in
    let ed : k ≡ d = ap (λ (z : Slot). z.block) two in (
      ap (home_of l.homes) (sym eb) ∙ home ∙ ap whole_home ed,
      ap l.seats (sym eb) ∙ none,
    )
both_first l S O flags seated owns _ _ (First s us vs is rest) a b d ss ts off first second =
    let one : s ≡ record { alloca = a; block = b } = cc in
    absurd (false≢true (sym off ∙ ap (λ (z : Slot). flags z.alloca) (sym one) ∙ seated s is))
both_first l S O flags seated owns _ _ (Second t us vs is rest) a b d ss ts off first second = absurd (owns t is)

-- ---- both runs

module _ (c : Setting) (x : Here c) (name : ℕ) (ty : Ty) (align : ℕ) (here : fetch (function_at c.code x.s.top.func)
    x.s.top.block x.s.top.at ≡ AtInstr (Instr.Alloca name ty align)) where
  abbrev f : Function
  f = function_at c.code x.s.top.func

  abbrev marked : Bool
  marked = has_markers (function_at c.code x.s.top.func) name

  abbrev slot : Slot
  slot = record { alloca = name; block = length x.s.world.memory }

  abbrev mate : Slot
  mate = record { alloca = name; block = length x.t.world.memory }

  abbrev kind : Kind
  kind = alloca_kind (function_at c.code x.s.top.func)

  abbrev work : State → Work
  work s = set_memory (set_value (work_of s) name (pointer_to (length s.world.memory))) (if marked then end (fresh
      s.world.memory (size_of c.code ty) align kind) (length s.world.memory) else fresh s.world.memory (size_of c.code ty)
      align kind)

  abbrev first : State
  first = with_slot_of x.s (slot_block c.code x.s ty align marked) name

  abbrev facts : Facts
  facts = own_facts (first_given c) x.s

  rules : KeepsSlots c.code (function_at c.code x.s.top.func) (c.flags x.s.top.func) (c.roots x.s.top.func)
  rules = keeps c x x.s.top.func

  there : slice_get c.code.functions x.s.top.func ≡ Some (function_at c.code x.s.top.func)
  there = is_there c.code x.s.top.func x.s.top.block x.s.top.at (Instr.Alloca name ty align) here

  small : size_of c.code ty < 2 ^ 64
  small = (x.all.steps x.s.top.func).sizes x.s.top.block x.s.top.at name ty align here

  named : name < length x.s.top.values
  named = subst (λ k. name < k) (sym x.run.sound.top.values) (subst (λ w. IsNamedResult (length f.names) (result_at w)) here
      (result_named f (x.all.locals x.s.top.func).results x.s.top.block x.s.top.at))

  -- ---- one step

  abbrev OneStep : State → Type 0
  OneStep after = IsOneStep (second_given c) (other c x) (AtInstr (Instr.Alloca name ty align)) (first_given c) after

  moded : (u : State) (m : Mode) → (m ≡ Mode.Plain) ⊎ ((m ≡ Mode.Ramp) ⊎ (m ≡ Mode.Resumed)) → renewed_slot (second_given c) u
      mate m ≡ new_slot (second_given c).given u mate
  moded u m (inl e) = ap (renewed_slot (second_given c) u mate) e
  moded u m (inr (inl e)) = ap (renewed_slot (second_given c) u mate) e
  moded u m (inr (inr e)) = ap (renewed_slot (second_given c) u mate) e

  made : (after s t u : State) → is_alignment align ≡ true → new_slot (first_given c) (settled x.s (work x.s)) slot ≡ after
      → new_slot (first_given c) first slot ≡ s → with_life (second_given c) (settled (other c x) (work (other c x)))
      mate ≡ u → new_slot (second_given c).given u mate ≡ t → IsBeside c.code c.flags c.roots s t → OneStep after
  made after s t u aligned acts ours life theirs beside = record {
    other = t;
    goes = ap (λ b. renewed_act (second_given c) (other c x) (if b then NewSlot (work (other c x)) mate else Stuck
        Cause.Align)) aligned ∙ ap (λ k. Ok (renewed_slot (second_given c) k mate x.s.top.mode)) life ∙ ap Ok (moded u
        x.s.top.mode x.beside.top.modes ∙ theirs);
    related = Goes (subst (λ z. IsBeside c.code c.flags c.roots z t) (sym ours ∙ ap (λ k. new_slot (first_given c) k slot) (sym
        first_is) ∙ acts) beside);
  }
    where
      first_is : settled x.s (work x.s) ≡ first
      first_is = ap (λ k. settled x.s (set_memory (set_value (work_of x.s) name (pointer_to (length x.s.world.memory))) k))
          (made_memory c.code x.s ty align marked x.s.world.memory)

  -- ---- whose it is

  abbrev Found : ℕ → Instance → Type 0
  Found i y = AreFound c.code c.flags c.roots x.beside.ledger x.s.world.memory (Some (i, y)) (own_instance (other c x))

  none_other : own_instance x.s ≡ None → own_instance (other c x) ≡ None
  none_other e = subst (λ o. AreFound c.code c.flags c.roots x.beside.ledger x.s.world.memory o (own_instance (other c x))) e
      (own_beside c.code c.flags c.roots x.s (other c x) x.beside)

  some_other : (i : ℕ) (y : Instance) → own_instance x.s ≡ Some (i, y) → Found i y
  some_other i y e = subst (λ o. AreFound c.code c.flags c.roots x.beside.ledger x.s.world.memory o (own_instance (other c
      x))) e (own_beside c.code c.flags c.roots x.s (other c x) x.beside)

  -- what comes of a new slot, by the instance
  slot_none : (g : Given) (s : State) (k : Slot) → own_instance s ≡ None → new_slot g s k ≡ with_slots s (k ∷ s.top.slots)
  slot_none g s k e = ap (λ o. with_new_slots (own_facts g s).ramp_slots o (kill_late (own_facts g s).ramp_slots o s k) (k ∷
      [])) e

  slot_some : (g : Given) (s : State) (k : Slot) (i : ℕ) (y : Instance) → own_instance s ≡ Some (i, y) → (over own : Bool)
      → is_over y ≡ over → is_among (own_facts g s).ramp_slots k ≡ own → new_slot g s k ≡ comes over own s i y k
  slot_some g s k i y e over own eo ew = ap (λ o. with_new_slots (own_facts g s).ramp_slots o (kill_late (own_facts
      g s).ramp_slots o s k) (k ∷ [])) e ∙ (λ j. comes (eo j) (ew j) s i y k)

  -- ---- a slot that may be made anew

  module _ (flagged : c.flags x.s.top.func name ≡ true) where
    is_slot : IsAllocaOfSlot c.code c.flags x.s.top name ty align
    is_slot = record {
      place = ordinary c.code f (c.flags x.s.top.func) (c.roots x.s.top.func) rules (place_in x.s.top) (Instr.Alloca name ty
          align) here refl refl;
      here = here;
      flagged = flagged;
      named = named;
    }

    -- it lives
    abbrev live : State
    live = with_slot_of (other c x) (slot_block c.code x.s ty align false) name

    lives : with_life (second_given c) (settled (other c x) (work (other c x))) mate ≡ live
    lives = ap (λ u. if u then with_memory (settled (other c x) (work (other c x))) (start (if marked then end (fresh
        x.t.world.memory (size_of c.code ty) align kind) (length x.t.world.memory) else fresh x.t.world.memory (size_of c.code
        ty) align kind) (length x.t.world.memory)) else settled (other c x) (work (other c x))) flagged ∙ ap (with_memory
        (settled (other c x) (work (other c x)))) (made_live x.t.world.memory (size_of c.code ty) align kind marked)

    not_among : is_among (own_facts (first_given c) x.s).ramp_slots slot ≡ false
    not_among = no_ramp_slot c.code f (c.flags x.s.top.func) (c.roots x.s.top.func) rules slot flagged facts (facts_are c.code
        x.s.top.func there)

    among : is_among (own_facts (second_given c).given (other c x)).ramp_slots mate ≡ true
    among = ap (λ (z : Facts). is_among z.ramp_slots mate) (renewed_are c.code c.flags x.s.top.func there) ∙ renewed_ramp_slot
        c.code f (c.flags x.s.top.func) (c.roots x.s.top.func) rules facts mate flagged

    -- before begin
    no_own : own_instance x.s ≡ None → x.s.top.instance ≡ None
    no_own e = on x.s.top.instance refl
      where
        on : (o : Option ℕ) → x.s.top.instance ≡ o → x.s.top.instance ≡ None
        on None k = k
        on (Some n) k =
            let r = owns c x n k in
            let z : None ≡ Some (n, r.0) = sym e ∙ ap (option_and_then (numbered x.s.instances)) k ∙ ap (option_map (λ y. (
              n,
              y,
            ))) r.1 in
            absurd (cc)

    not_left : x.s.top.instance ≡ None → x.s.top.has_left ≡ false
    not_left none = on x.s.top.has_left refl
      where
        on : (u : Bool) → x.s.top.has_left ≡ u → x.s.top.has_left ≡ false
        on true e = absurd (x.beside.top.departs e none)
        on false e = e

    no_after : x.s.top.has_left ≡ true → IsAfterEnd (function_at c.code x.s.top.func) (place_in x.s.top) → ⊥
    no_after left after =
        let away = x.beside.top.left left in
        let made = rules.made name flagged in
        let entry : x.s.top.block ≡ 0 = (made.alone x.s.top.block x.s.top.at (ap given_at here)).0 in
        let stop : HasStop c.code f away.suspend = (x.all.places x.s.top.func).stops away.suspend away.is_call in
        entry_before_end c.code f (c.flags x.s.top.func) (c.roots x.s.top.func) rules away.suspend away.is_call stop.arg
        stop.default stop.cases stop.stands (place_in x.s.top) entry after

    flagged_case : (after : State) → is_alignment align ≡ true → new_slot (first_given c) (settled x.s (work x.s)) slot ≡
        after → OneStep after
    flagged_case after aligned acts = on (own_instance x.s) refl
      where
        second_some : (i : ℕ) (z : Instance) → own_instance (other c x) ≡ Some (i, z) → (over : Bool) → is_over z ≡ over
            → new_slot (second_given c).given live mate ≡ with_slots live (mate ∷ x.slots)
        second_some i z e over eo = slot_some (second_given c).given live mate i z e over true eo among ∙ comes_own over live i
            z mate (own_is (other c x) (i, z) e).1

        some : (i : ℕ) (y : Instance) → own_instance x.s ≡ Some (i, y) → Found i y → (u : Bool) → is_over y ≡ u → OneStep after
        some i y e h true over =
            let own = own_is x.s (i, y) e in
            made after _ _ live aligned acts (slot_some (first_given c) first slot i y e true false over not_among) lives
            (second_some i h.0 h.1 (is_over h.0) refl) (late_slot c.code c.flags c.roots (keeps c x) x.s (other c x)
            x.beside name ty align is_slot small marked i y own.0 own.1 (own_coroutine c x i y own.0 own.1))
        some i y e h false over =
            let own = own_is x.s (i, y) e in
            made after _ _ live aligned acts (slot_some (first_given c) first slot i y e false false over not_among) lives
            (second_some i h.0 h.1 (is_over h.0) refl) (begun_slot c.code c.flags c.roots (keeps c x) x.s (other c x)
            x.beside name ty align is_slot small marked refl i y own.0 own.1 over no_after (own_coroutine c x i y own.0
            own.1))

        on : (o : Option (ℕ × Instance)) → own_instance x.s ≡ o → OneStep after
        on None e = made after _ _ live aligned acts (slot_none (first_given c) first slot e) lives (slot_none (second_given
            c).given live mate (none_other e)) (early_slot c.code c.flags c.roots (keeps c x) x.s (other c x) x.beside name ty
            align is_slot small marked refl (no_own e) (not_left (no_own e)))
        on (Some r) e = some r.0 r.1 e (some_other r.0 r.1 e) (is_over r.1) refl

  -- ---- any other slot

  module _ (off : c.flags x.s.top.func name ≡ false) where
    is_other : IsAllocaOfOther c.code c.flags c.roots x.s.top name ty align
    is_other = record {
      place = calm c.code f (c.flags x.s.top.func) (c.roots x.s.top.func) rules (place_in x.s.top) (Instr.Alloca name ty
          align) here refl;
      here = here;
      no_part = λ v root at same. no_part v root at same (rules.given v root x.s.top.block x.s.top.at at (ap given_at here ∙ ap
          Some same));
      named = named;
      off = off;
    }
      where
        no_part : (v root : ℕ) → c.roots x.s.top.func v ≡ Some root → name ≡ v → IsAddressOf (function_at c.code
            x.s.top.func) (c.roots x.s.top.func) root v x.s.top.block x.s.top.at → ⊥
        no_part v root at same (Itself is) = false≢true (sym off ∙ ap (c.flags x.s.top.func) (same ∙ is) ∙ (rules.rooted v root
            at).0)
        no_part v root at same (Part inbounds ty' u indices stands k) =
            let z : AtInstr (Instr.Gep v inbounds ty' (Operand.Local u) indices) ≡ AtInstr (Instr.Alloca name ty align) = sym
            stands ∙ here in
            absurd (cc)

    abbrev second : State
    second = with_slot_of (other c x) (slot_block c.code x.s ty align marked) name

    stays : with_life (second_given c) (settled (other c x) (work (other c x))) mate ≡ second
    stays = ap (λ u. if u then with_memory (settled (other c x) (work (other c x))) (start (if marked then end (fresh
        x.t.world.memory (size_of c.code ty) align kind) (length x.t.world.memory) else fresh x.t.world.memory (size_of c.code
        ty) align kind) (length x.t.world.memory)) else settled (other c x) (work (other c x))) off ∙ ap (λ k. settled (other c
        x) (set_memory (set_value (work_of (other c x)) name (pointer_to (length x.t.world.memory))) k)) (made_memory c.code
        x.s ty align marked x.t.world.memory)

    same_among : is_among (own_facts (second_given c).given (other c x)).ramp_slots mate ≡ is_among (own_facts (first_given c)
        x.s).ramp_slots slot
    same_among = ap (λ (z : Facts). is_among z.ramp_slots mate) (renewed_are c.code c.flags x.s.top.func there) ∙ same_ramp_slot
        f (c.flags x.s.top.func) facts mate off

    own_there : IsBeside c.code c.flags c.roots (with_slots first (slot ∷ x.s.top.slots)) (with_slots second (mate ∷ x.slots))
    own_there = own_slot c.code c.flags c.roots (keeps c x) x.s (other c x) x.beside name ty align is_other small marked

    module _ (i : ℕ) (y z : Instance) (own : x.s.top.instance ≡ Some i) (at : slice_get x.s.instances i ≡ Some y) (at' :
        slice_get x.t.instances i ≡ Some z) where
      off_there : c.flags y.coroutine name ≡ false
      off_there = ap (λ k. c.flags k name) (own_coroutine c x i y own at) ∙ off

      abbrev s1 : State
      s1 = with_instance first i (record y { slots = slot ∷ y.slots })

      abbrev t1 : State
      t1 = with_instance second i (record z { slots = mate ∷ z.slots })

      both_there : IsBeside c.code c.flags c.roots (with_instance first i (record y { slots = slot ∷ y.slots })) (with_instance
          second i (record z { slots = mate ∷ z.slots }))
      both_there = instance_slot c.code c.flags c.roots (keeps c x) x.s (other c x) x.beside name ty align is_other small marked
          i y z at at' off_there

      -- where the instance is over both are dead
      homes : (home_of both_there.ledger.homes (length x.s.world.memory) ≡ whole_home (length x.t.world.memory))
          × (both_there.ledger.seats (length x.s.world.memory) ≡ None)
      homes =
          let r = instance_beside c.code c.flags c.roots both_there.ledger s1.world.memory 0 s1.instances t1.instances i (record y
          { slots = slot ∷ y.slots }) both_there.instances (set_here x.s.instances i y (record y { slots = slot ∷ y.slots })
          at) in
          let is : r.0 ≡ record z { slots = mate ∷ z.slots } = same_some (sym r.1 ∙ set_here x.t.instances i z (record z {
            slots = mate ∷ z.slots;
          }) at') in
          both_first both_there.ledger _ _ (c.flags y.coroutine) (λ k h. h.flagged) (λ k h. h) (slot ∷ y.slots) r.2.slots
          r.2.listed name (length x.s.world.memory) (length x.t.world.memory) y.slots z.slots off_there refl (ap (λ (k :
          Instance). k.slots) (sym r.2.is ∙ is))
        where
          same_some : {a b : Instance} → Some a ≡ Some b → a ≡ b
          same_some e = cc

      dead_there : IsBeside c.code c.flags c.roots (with_memory (with_instance first i (record y { slots = slot ∷ y.slots }))
          (killed (x.s.world.memory ++ slot_block c.code x.s ty align marked ∷ []) (length x.s.world.memory))) (with_memory
          (with_instance second i (record z { slots = mate ∷ z.slots })) (killed (x.t.world.memory ++ slot_block c.code x.s ty
          align marked ∷ []) (length x.t.world.memory)))
      dead_there =
          let b = both_there in
          let d = both_die c.code b.ledger s1.world.memory t1.world.memory (length x.s.world.memory) (length x.t.world.memory)
          homes.0 homes.1 (record {
            memory = b.world.memory;
            nulls = b.world.nulls;
            bounds = b.world.bounds;
          }) b.entered in
          worlds_beside c.code c.flags c.roots s1 t1 b b.ledger (record s1.world {
            memory = killed s1.world.memory (length x.s.world.memory);
          }) (record t1.world { memory = killed t1.world.memory (length x.t.world.memory) }) d.carried d.kept (record {
            memory = d.standing.memory;
            nulls = d.standing.nulls;
            bounds = d.standing.bounds;
            events = b.world.events;
            answers = b.world.answers;
            allocs = b.world.allocs;
          }) d.entered

    other_case : (after : State) → is_alignment align ≡ true → new_slot (first_given c) (settled x.s (work x.s)) slot ≡
        after → OneStep after
    other_case after aligned acts = on (own_instance x.s) refl
      where
        some : (i : ℕ) (y : Instance) → own_instance x.s ≡ Some (i, y) → (h : Found i y) → (u w : Bool) → is_over y ≡ u
            → is_among (own_facts (first_given c) x.s).ramp_slots slot ≡ w → OneStep after
        some i y e h u true over ramp =
            let own = own_is x.s (i, y) e in
            let theirs = own_is (other c x) (i, h.0) h.1 in
            made after _ _ second aligned acts (slot_some (first_given c) first slot i y e u true over ramp ∙ comes_own u first i
            y slot own.1) stays (slot_some (second_given c).given second mate i h.0 h.1 u true (over_same c.code c.flags
            c.roots (keeps c x) x.s (other c x) x.beside (first_given c) (second_given c).given refl refl i y h.0 h.2 ∙ over)
            (same_among ∙ ramp) ∙ comes_own u second i h.0 mate theirs.1) own_there
        some i y e h false false over ramp =
            let own = own_is x.s (i, y) e in
            let theirs = own_is (other c x) (i, h.0) h.1 in
            made after _ _ second aligned acts (slot_some (first_given c) first slot i y e false false over ramp) stays
            (slot_some (second_given c).given second mate i h.0 h.1 false false (over_same c.code c.flags c.roots (keeps c x)
            x.s (other c x) x.beside (first_given c) (second_given c).given refl refl i y h.0 h.2 ∙ over) (same_among ∙
            ramp)) (both_there i y h.0 own.0 own.1 theirs.1)
        some i y e h true false over ramp =
            let own = own_is x.s (i, y) e in
            let theirs = own_is (other c x) (i, h.0) h.1 in
            made after _ _ second aligned acts (slot_some (first_given c) first slot i y e true false over ramp) stays
            (slot_some (second_given c).given second mate i h.0 h.1 true false (over_same c.code c.flags c.roots (keeps c x)
            x.s (other c x) x.beside (first_given c) (second_given c).given refl refl i y h.0 h.2 ∙ over) (same_among ∙
            ramp)) (dead_there i y h.0 own.0 own.1 theirs.1)

        on : (o : Option (ℕ × Instance)) → own_instance x.s ≡ o → OneStep after
        on None e = made after _ _ second aligned acts (slot_none (first_given c) first slot e) stays (slot_none (second_given
            c).given second mate (none_other e)) own_there
        on (Some r) e = some r.0 r.1 e (some_other r.0 r.1 e) (is_over r.1) (is_among facts.ramp_slots slot) refl refl

  -- ---- both

  by_flag : (after : State) → is_alignment align ≡ true → new_slot (first_given c) (settled x.s (work x.s)) slot ≡ after → (u :
      Bool) → c.flags x.s.top.func name ≡ u → OneStep after
  by_flag after aligned acts true e = flagged_case e after aligned acts
  by_flag after aligned acts false e = other_case e after aligned acts

  pub alloca_goes : (after : State) → first_act c x (if_alignment align (NewSlot (work x.s) slot)) ≡ Ok after → OneStep after
  alloca_goes after acts = on (is_alignment align) refl acts
    where
      on : (u : Bool) → is_alignment align ≡ u → first_act c x (if u then NewSlot (work x.s) slot else Stuck Cause.Align) ≡ Ok
          after → OneStep after
      on true e k = by_flag after e (same_ok k) (c.flags x.s.top.func name) refl
      on false e k = let z : ◌≡◌ {A = Result State Cause} (Err Cause.Align) (Ok after) = k in absurd (cc)

pub alloca_case : (c : Setting) (x : Here c) (name : ℕ) (ty : Ty) (align : ℕ) → IsCase c x (AtInstr (Instr.Alloca name ty
    align))
alloca_case c x name ty align here after acts = alloca_goes c x name ty align here after acts
