-- An ordinary instruction that is done leads from states beside each other to states beside each other.
use Rattle.std.proofs.Common.{◌≡◌, ◌≢◌, ℕ, zero, suc, ◌+◌, ◌<◌, ◌≤◌, ◌^◌, Bool, true, false, not, List, [], ◌∷◌}
use Rattle.std.proofs.Common.{length, Option, Some, None, refl, sym, ap, ◌∙◌, subst, ⊎_elim, arith, nat_le}
use Rattle.std.proofs.lemmas.Bool.{cases_lt, false≢true}
use Rattle.std.specs.Prelude.{IsTrue, slice_get, ℤ}
use Rattle.std.specs.List.{Contains}
use Rattle.pass_kept_proof.specs.flow_solver.Paths.{IsListed}
use Rattle.pass_kept_proof.specs.ir_model.Names.{function_at}
use Rattle.pass_kept_proof.specs.ir_model.Ty.{Ty, array, int, named, ptr, structure, token}
use Rattle.pass_kept_proof.specs.ir_model.declared.instr.Instr.{Instr}
use Rattle.pass_kept_proof.specs.ir_model.declared.module.Function.{Function}
use Rattle.pass_kept_proof.specs.ir_model.declared.module.Module.{Module}
use Rattle.pass_kept_proof.specs.ir_model.declared.operand.Operand.{Operand}
use Rattle.pass_kept_proof.specs.ir_paths.Paths.{has_point}
use Rattle.pass_kept_proof.specs.ir_paths.declared.point.Point.{Point}
use Rattle.frame_classes.specs.Classes.{NeedsFrame}
use Rattle.frame_classes.specs.frame_slots.Spots.{At, IsUse}
use Rattle.frame_classes.specs.frame_slots.Uses.{ends_of}
use Rattle.run_laws.proofs.access.Blocks.{others_left}
use Rattle.run_laws.specs.access.Accessed.{accessed}
use Rattle.run_laws.specs.access.Changed.{ChangesOnly, IsFull, LeavesOthers}
use Rattle.run_laws.specs.changed.Changed.{Each}
use Rattle.run_laws.specs.embedded.Refilled.{AreRefilled}
use Rattle.run_laws.specs.embedded.Related.{HasBytes, HasDistance, HasNoSlot}
use Rattle.run_laws.specs.memory.Pointers.{Extends, Home, IsValue, home_of}
use Rattle.pass_kept_proof.specs.run_memory.Memory.{is_live, owner_rights, same_kind}
use Rattle.pass_kept_proof.specs.run_memory.declared.block.Kind.{Kind}
use Rattle.pass_kept_proof.specs.run_memory.declared.block.MemoryBlock.{MemoryBlock}
use Rattle.pass_kept_proof.specs.run_memory.Pointers.{moved}
use Rattle.pass_kept_proof.specs.run_memory.declared.pointer.Pointer.{Pointer}
use Rattle.pass_kept_proof.specs.run_memory.declared.pointer.Value.{Value}
use Rattle.pass_kept_proof.specs.run_source.State.{is_suspended, settled, work_of}
use Rattle.pass_kept_proof.specs.run_source.declared.state.Activation.{Activation}
use Rattle.pass_kept_proof.specs.run_source.declared.state.Instance.{Instance}
use Rattle.pass_kept_proof.specs.run_source.declared.state.State.{State}
use Rattle.pass_kept_proof.specs.run_step.Step.{AtInstr, Context, Done, Fetched, Work, action_of, fetch}
use Rattle.pass_kept_proof.specs.run_step.Values.{literal, operand_value, pointer_to, value_in}
use Rattle.pass_kept_proof.specs.run_step.declared.world.Slot.{Slot}
use Rattle.pass_renewed_proof.proofs.Accessing.{not_accessed}
use Rattle.pass_renewed_proof.proofs.Ahead.{next_edge, used_at}
use Rattle.pass_renewed_proof.proofs.Anew.{home_past}
use Rattle.pass_renewed_proof.proofs.Carried.{same_alloca, same_func, same_instance}
use Rattle.pass_renewed_proof.proofs.Carried.{AreBelowCarried, IsCarried, IsInstanceCarried, IsSlotKept, below_kept}
use Rattle.pass_renewed_proof.proofs.Carried.{instances_kept, kept_slot_on, made_no_slot, others_on, slot_kept, two_ramps}
use Rattle.pass_renewed_proof.proofs.Chosen.{are_places}
use Rattle.pass_renewed_proof.proofs.Exposing.{each_operand, spread_escapes}
use Rattle.pass_renewed_proof.proofs.Onward.{IsEdgeOf, activation_there, calm, left_next, no_end_here}
use Rattle.pass_renewed_proof.proofs.Onward.{no_start_here, passed_next, slot_passed, slot_used}
use Rattle.pass_renewed_proof.proofs.Ordinary.{GoesBeside, good, goes_beside, one_alloca, own_address, roots_of}
use Rattle.pass_renewed_proof.proofs.Reading.{read_used}
use Rattle.pass_renewed_proof.proofs.Way.{same_instr}
use Rattle.pass_renewed_proof.proofs.Others.{kept_used, loud_escaped, other_used, used_gone}
use Rattle.pass_renewed_proof.proofs.SlotEnvs.{set_stand}
use Rattle.pass_renewed_proof.proofs.Stands.{IsSpotOf, at_place, end_at_first}
use Rattle.pass_renewed_proof.proofs.Used.{each_listed, faded_loud, is_among, lives_before, refilled_from, refilled_to}
use Rattle.pass_renewed_proof.proofs.Used.{gone_before, unused_kept, used_block, used_extends, used_home}
use Rattle.pass_renewed_proof.proofs.Using.{IsGoodPlace, all_places, all_settled, all_theirs, apart, distances}
use Rattle.pass_renewed_proof.proofs.Using.{globals_stand, good_places, reads}
use Rattle.pass_renewed_proof.specs.Ahead.{IsNoStart}
use Rattle.pass_renewed_proof.specs.Beside.{AreOutdone, AreSlots, AreUnbegun, Both, First, GoesOn, HasLeftSuspended}
use Rattle.pass_renewed_proof.specs.Beside.{IsActivationBeside, IsBeside, IsInstanceBeside, IsKeptSlot, IsSlotBeside}
use Rattle.pass_renewed_proof.specs.Beside.{IsOther, NoSlots, Second, place_in}
use Rattle.pass_renewed_proof.specs.Chosen.{IsPlaceOf, places_at}
use Rattle.pass_renewed_proof.specs.Ledger.{AreEntered, AreTheirs, IsFresh, IsGone, IsHomeOf, Ledger, LivesIn}
use Rattle.pass_renewed_proof.specs.Ledger.{is_quiet}
use Rattle.pass_renewed_proof.specs.Ledger.{used_ledger}
use Rattle.pass_renewed_proof.specs.Left.{behind}
use Rattle.pass_renewed_proof.specs.Muted.{IsShown, IsShownOperand}
use Rattle.pass_renewed_proof.specs.Ordinary.{IsBase, IsOrdinary, IsOrdinaryInstr}
use Rattle.pass_renewed_proof.specs.Places.{IsReady}
use Rattle.pass_renewed_proof.specs.Ready.{ArePlacesApart, IsPlace, IsSettled, Place, stood}
use Rattle.pass_renewed_proof.specs.Shown.{spread_at, spread_by}
use Rattle.pass_renewed_proof.specs.SlotEnvs.{AreRoots}
use Rattle.pass_renewed_proof.specs.Renewed.{Flags, Roots}
use Rattle.pass_renewed_proof.specs.SlotRules.{KeepsSlots}
use Rattle.pass_renewed_proof.specs.Small.{ComparesSmall}
use Rattle.pass_renewed_proof.specs.Steps.{AreSet, given_at}

-- ---- lists of slots

-- a slot of a flagged alloca is one with a seat
pub seated_in : (l : Ledger) (S O : Slot → Type 0) (flags : ℕ → Bool) (ss ts : List Slot)
    → AreSlots l S O flags ss ts → (slot : Slot) → IsTrue (flags slot.alloca) → Contains ss slot → S slot
seated_in l S O flags _ _ NoSlots slot on (k, lt, e) = absurd (omega arith)
seated_in l S O flags _ _ (Both alloca b d ss ts off home none rest) slot on (
  zero,
  lt,
  e,
) = absurd (false≢true (sym off ∙ ap (λ (z : Slot). flags z.alloca) e ∙ on))
seated_in l S O flags _ _ (Both alloca b d ss ts off home none rest) slot on (
  suc k,
  lt,
  e,
) = seated_in l S O flags ss ts rest slot on (k, omega arith, e)
seated_in l S O flags _ _ (First s ss ts is rest) slot on (zero, lt, e) = subst S e is
seated_in l S O flags _ _ (First s ss ts is rest) slot on (
  suc k,
  lt,
  e,
) = seated_in l S O flags ss ts rest slot on (k, omega arith, e)
seated_in l S O flags ss _ (Second t _ ts is rest) slot on c = seated_in l S O flags ss ts rest slot on c

-- a block that is ready stays so where bytes are written
ready_refilled : (n k : List MemoryBlock) (c : ℕ) (x z : MemoryBlock) → AreRefilled n k → ((d : ℕ) → IsFull k d)
    → x ≡ record z { bytes = x.bytes } → IsReady n c z → IsReady k c x
ready_refilled n k c x z r full is h =
    let y = refilled_to n k c h.block r h.there in
    let live : is_live y.0.life ≡ true = ap (λ (q : MemoryBlock). is_live q.life) y.2 ∙ h.live in
    subst (IsReady k c) (sym is) (record {
      block = y.0;
      there = y.1;
      live = live;
      owner = ap (λ (q : MemoryBlock). q.owned) y.2 ∙ h.owner;
      whole = full c y.0 y.1 live;
      room = subst (λ (q : MemoryBlock). z.size ≤ q.size) (sym y.2) h.room;
      small = subst (λ (q : MemoryBlock). q.size < 2 ^ 64) (sym y.2) h.small;
      align = ap (λ (q : MemoryBlock). q.align) y.2 ∙ h.align;
      writable = ap (λ (q : MemoryBlock). same_kind q.kind Kind.Constant) y.2 ∙ h.writable;
    })

module _ (m : Module) (flags : Flags) (roots : Roots) (keeps : (func : ℕ)
    → KeepsSlots m (function_at m func) (flags func) (roots func)) (answers : List ℤ) (s t : State) (beside : IsBeside
    m flags roots s t) (ordinary : IsOrdinary (function_at m s.top.func) (place_in s.top)) (i : Instr) (here_is :
    fetch (function_at m s.top.func) s.top.block s.top.at ≡ AtInstr i) (no_slot : HasNoSlot (AtInstr i)) (bytes :
    HasBytes (AtInstr i)) (no_part : (v al : ℕ) → roots s.top.func v ≡ Some al → given_at (AtInstr i) ≡ Some v
    → ⊥) (no_base : (v al : ℕ) → roots s.top.func v ≡ Some al → IsBase v i → ⊥) (small : ComparesSmall m s.top.values
    (AtInstr i)) where
  abbrev f : Function
  f = function_at m s.top.func

  abbrev l : Ledger
  l = beside.ledger

  abbrev e : AreEntered m beside.ledger s.world.memory t.world.memory
  e = beside.entered

  abbrev h : IsActivationBeside m flags roots beside.ledger s.instances s.world.memory t.world.memory (length s.below)
      s.top t.top
  h = beside.top

  abbrev here : Fetched
  here = fetch (function_at m s.top.func) s.top.block s.top.at

  abbrev c : Context
  c = record { code = m; answers = answers; rights = owner_rights; function = function_at m s.top.func }

  abbrev w : Work
  w = record { world = s.world; values = s.top.values }

  abbrev x : Work
  x = record { world = t.world; values = beside.top.values }

  abbrev ps : List Place
  ps = places_at (roots s.top.func) s.top.values beside.top.values here

  abbrev k : Ledger
  k = used_ledger m beside.ledger ps

  abbrev quiet : ℕ → Bool
  quiet b = is_quiet m (beside.ledger.seats b)

  spot : IsSpotOf (function_at m s.top.func) s.top (At (place_in s.top))
  spot = at_place m flags roots l s.instances s.world.memory t.world.memory (length s.below) s.top t.top h ordinary

  none : HasNoSlot here
  none = subst HasNoSlot (sym here_is) no_slot

  unpart : (v al : ℕ) → roots s.top.func v ≡ Some al → given_at here ≡ Some v → ⊥
  unpart v al root given = no_part v al root (ap given_at (sym here_is) ∙ given)

  -- ---- values that don't lead into quiet blocks, or into such that aren't there

  loud : (b : ℕ) → (home_of l.homes b).is_seen ≡ true → quiet b ≡ false
  loud b seen = on (quiet b) refl
    where
      on : (u : Bool) → quiet b ≡ u → quiet b ≡ false
      on true q = absurd (false≢true (sym (e.quiet b q) ∙ seen))
      on false q = q

  present : (n b : ℕ) → b < n → nat_le n b ≡ false
  present n b lt = grind arith

  there : (b : ℕ) → (home_of l.homes b).is_seen ≡ true → nat_le (length s.world.memory) b ≡ false
  there b seen = ⊎_elim
      (λ lt. present (length s.world.memory) b (subst (λ n. b < n) e.known lt))
      (λ le. absurd (false≢true (sym (home_past l.homes b le) ∙ seen)))
      (cases_lt b (length l.homes))

  shown_value : (hides : ℕ → Bool) → ((b : ℕ) → (home_of l.homes b).is_seen ≡ true → hides b ≡ false)
      → (v u : Value) → IsValue l.homes v u → IsShown hides v
  shown_value hides ok Value.Poison u h = tt
  shown_value hides ok (Value.Int n) u h = tt
  shown_value hides ok (Value.Ptr Pointer.Null) u h = tt
  shown_value hides ok (Value.Ptr (Pointer.Func g)) u h = tt
  shown_value hides ok (Value.Ptr (Pointer.At b o)) u h = ok b h.0

  literal_shown : (hides : ℕ → Bool) (ty : Ty) (z : ℤ) → IsShown hides (literal ty z)
  literal_shown hides (int n) z = tt
  literal_shown hides ptr z = tt
  literal_shown hides token z = tt
  literal_shown hides (array n ty) z = tt
  literal_shown hides (structure tys) z = tt
  literal_shown hides (named name) z = tt

  other_operand : (hides : ℕ → Bool) → ((b : ℕ) → (home_of l.homes b).is_seen ≡ true → hides b ≡ false)
      → (o : Operand) → ((v : ℕ) → o ≡ Operand.Local v → ⊥) → (ty : Ty)
      → IsShown hides (operand_value m s.top.values ty o)
  other_operand hides ok (Operand.Local v) none ty = absurd (none v refl)
  other_operand hides ok (Operand.Global n) none ty = shown_value hides ok _ _ (globals_stand m l s.world.memory
      t.world.memory e n)
  other_operand hides ok (Operand.Number z) none ty = literal_shown hides ty z
  other_operand hides ok Operand.True none ty = tt
  other_operand hides ok Operand.False none ty = tt
  other_operand hides ok Operand.Null none ty = tt
  other_operand hides ok Operand.None none ty = tt
  other_operand hides ok Operand.Poison none ty = tt

  -- an address in a slot leads into a block with the slot's seat
  local_shown : (hides : ℕ → Bool) → ((b : ℕ) → (home_of l.homes b).is_seen ≡ true → hides b ≡ false) → (v : ℕ)
      → ((al b : ℕ) → roots s.top.func v ≡ Some al → (ramp : ℕ)
      → l.seats b ≡ Some (record { func = s.top.func; alloca = al; depth = ramp; instance = s.top.instance })
      → hides b ≡ false) → IsShown hides (value_in s.top.values v)
  local_shown hides ok v rooted = on (roots s.top.func v) refl
    where
      on : (o : Option ℕ) → roots s.top.func v ≡ o → IsShown hides (value_in s.top.values v)
      on None root = shown_value hides ok _ _ (h.envs.plain v root)
      on (Some al) root = ⊎_elim
          (λ poison. subst (IsShown hides) (sym poison) tt)
          (λ ad.
          let slot = h.each al ad.block ad.target ((keeps s.top.func).rooted v al root).0 ad.root_is ad.other_is in
          subst (IsShown hides) (sym ad.source) (rooted al ad.block root slot.ramp slot.seat))
          (h.envs.rooted v al root)

  quiet_spread : Each (IsShownOperand (λ b. is_quiet m (l.seats b)) c w) (spread_at here)
  quiet_spread = subst (λ z. Each (IsShownOperand (λ b. is_quiet m (l.seats b)) c w) (spread_at z)) (sym here_is)
      (each_operand (IsShownOperand (λ b. is_quiet m (l.seats b)) c w) (spread_by i)
      (λ v among ty. local_shown (λ b. is_quiet m (l.seats b)) loud v (λ al b root ramp seat.
      ap (is_quiet m) seat ∙ ap not (spread_escapes f al v s.top.block s.top.at ((keeps s.top.func).rooted v al
      root).1 (λ j is base. no_base v al root (subst (IsBase v) (same_instr j i (sym is
      ∙ here_is)) base)) i here_is among)))
      (λ o others ty. other_operand (λ b. is_quiet m (l.seats b)) loud o others ty))

  there_spread : Each (IsShownOperand (λ b. nat_le (length s.world.memory) b) c w) (spread_at here)
  there_spread = subst (λ z. Each (IsShownOperand (λ b. nat_le (length s.world.memory) b) c w) (spread_at z)) (sym
      here_is)
      (each_operand (IsShownOperand (λ b. nat_le (length s.world.memory) b) c w) (spread_by i)
      (λ v among ty. local_shown (λ b. nat_le (length s.world.memory) b) there v (λ al b root ramp seat. present
      (length s.world.memory) b (e.seated b _ seat)))
      (λ o others ty. other_operand (λ b. nat_le (length s.world.memory) b) there o others ty))

  -- ---- the step

  idem : AreRoots (roots s.top.func)
  idem = roots_of m f (flags s.top.func) (roots s.top.func) (keeps s.top.func)

  one : (a b d : ℕ) → roots s.top.func a ≡ Some a → roots s.top.func b ≡ Some b
      → value_in s.top.values a ≡ pointer_to d → value_in s.top.values b ≡ pointer_to d → a ≡ b
  one = one_alloca m flags roots keeps answers l s.instances (length s.below) s.world t.world s.top t.top h
      beside.world e ordinary

  good_here : (p : Place) → IsPlaceOf (roots s.top.func) s.top.values h.values here p
      → IsGoodPlace m l s.world.memory t.world.memory p
  good_here = good m flags roots keeps answers l s.instances (length s.below) s.world t.world s.top t.top h
      beside.world e ordinary none

  distance : HasDistance c c s.top.values h.values here
  distance = distances m l s.world.memory t.world.memory e c refl w x (roots s.top.func) here refl refl beside.world
      idem h.envs one good_here (λ name inbounds ty base indices is. (keeps s.top.func).indices name s.top.block
      s.top.at inbounds ty base indices is)

  abbrev Goes : Work → Type 0
  Goes v = GoesBeside m flags roots keeps answers l s.instances (length s.below) s.world t.world s.top t.top h
      beside.world e ordinary v

  goes : (v : Work) → action_of c w here ≡ Done v → Goes v
  goes v is = goes_beside m flags roots keeps answers l s.instances (length s.below) s.world t.world s.top t.top h
      beside.world e ordinary distance (subst (ComparesSmall m s.top.values) (sym here_is) small) none (subst HasBytes (sym here_is) bytes) quiet_spread there_spread v is

  module _ (v : Work) (done : action_of c w here ≡ Done v) where
    g : Goes v
    g = goes v done

    goods : Each (IsGoodPlace m l s.world.memory t.world.memory) ps
    goods = good_places m l s.world.memory t.world.memory e c refl w x (roots s.top.func) here refl refl beside.world
        idem h.envs one good_here

    abbrev places : Each (IsPlace l.homes l.hides s.world.memory t.world.memory) ps
    places = all_places m l s.world.memory t.world.memory e ps goods

    abbrev settle : Each (IsSettled l.homes l.hides s.world.memory) ps
    settle = all_settled m l s.world.memory t.world.memory e ps goods

    abbrev aparts : ArePlacesApart ps
    aparts = apart m l s.world.memory t.world.memory e c refl w x (roots s.top.func) here refl refl beside.world idem
        h.envs one good_here

    abbrev theirs : AreTheirs l ps
    theirs = all_theirs m l s.world.memory t.world.memory e ps goods

    extends : Extends l.homes k.homes
    extends = used_extends m l s.world.memory v.world.memory t.world.memory g.other.world.memory ps e places settle
        aparts theirs

    carried : IsCarried l k s.world.memory v.world.memory t.world.memory g.other.world.memory
    carried = record {
      extends = extends;
      seats = λ b seat at. at;
      unseated = λ b seen at. at;
      owners = λ d depth at. at;
      tenants = λ d depth at. refl;
      ready = λ b d depth seat seated at old z there.
          let y = refilled_from s.world.memory v.world.memory b z g.refilled there in
          ready_refilled t.world.memory g.other.world.memory d z y.0 g.refilled_target g.entered.full y.2 (old y.0
          y.1);
    }

    -- a fresh slot that isn't used is as it was
    same_fresh : (b : ℕ) → Each (λ (q : Place). q.block ≢ b) ps → IsFresh l s.world.memory b
        → slice_get v.world.memory b ≡ slice_get s.world.memory b
    same_fresh b out fresh =
        let left : ChangesOnly (accessed c w here) s.world.memory v.world.memory = subst (LeavesOthers (accessed c w
        here) s.world.memory) done (others_left c w here) in
        left.others b (not_accessed l.homes ps c w x here b fresh.unseen out
        (reads m l s.world.memory t.world.memory e c refl w x (roots s.top.func) here refl refl beside.world idem
        h.envs one good_here)
        (globals_stand m l s.world.memory t.world.memory e)
        (λ j is. subst HasNoSlot (sym here_is ∙ is) no_slot))

    passed : (b : ℕ) → Each (λ (q : Place). q.block ≢ b) ps → IsSlotKept l k s.world.memory v.world.memory b
    passed b out = unused_kept m l s.world.memory v.world.memory t.world.memory g.other.world.memory ps e places
        settle aparts theirs g.refilled g.refilled_target b out (same_fresh b out)

    lives : (b : ℕ) → LivesIn v.world.memory b → LivesIn s.world.memory b
    lives b live = lives_before s.world.memory v.world.memory b g.refilled live

    gone_kept : (b : ℕ) → IsGone s.world.memory b → IsGone v.world.memory b
    gone_kept b = gone_before s.world.memory v.world.memory b g.refilled

    -- what is known of a place that is used
    place_known : (p : Place) → IsListed p ps → IsPlaceOf (roots s.top.func) s.top.values h.values here p
    place_known p listed = each_listed _ ps p (are_places l.homes (roots s.top.func) s.top.values h.values here idem
        h.envs) listed

    used_slot : (p : Place) (i : IsPlaceOf (roots s.top.func) s.top.values h.values here p)
        → IsSlotBeside m l s.instances s.world.memory t.world.memory (length s.below) s.top i.alloca p.block p.target
    used_slot p i = h.each i.alloca p.block p.target ((keeps s.top.func).rooted i.name i.alloca i.root).0 i.source
        i.target

    local_of : (p : Place) (i : IsPlaceOf (roots s.top.func) s.top.values h.values here p)
        → ¬ NeedsFrame (function_at m s.top.func) i.alloca
    local_of p i = ((keeps s.top.func).is_local i.alloca ((keeps s.top.func).rooted i.name i.alloca i.root).0).1

    use_of : (p : Place) (i : IsPlaceOf (roots s.top.func) s.top.values h.values here p)
        → IsUse (function_at m s.top.func) i.alloca (At (place_in s.top))
    use_of p i = read_used (function_at m s.top.func) (place_in s.top) i.name i.alloca ((keeps s.top.func).rooted
        i.name i.alloca i.root).1 none i.is_read

    loud_after : (b : ℕ) → (home_of k.homes b).is_seen ≡ true → quiet b ≡ false
    loud_after b seen = on (quiet b) refl
      where
        on : (u : Bool) → quiet b ≡ u → quiet b ≡ false
        on true q = absurd (false≢true (sym (g.entered.quiet b q) ∙ seen))
        on false q = q

    -- ---- the topmost activation

    abbrev next : Point
    next = behind (place_in s.top)

    onward : IsEdgeOf (function_at m s.top.func) s.top next
    onward = record {
      edge = next_edge f s.top.block s.top.at i here_is;
      passed = λ slot. passed_next f slot (place_in s.top);
      not_last = λ is last. ordinary.no_end last (end_at_first f (place_in s.top) (h.came is) last);
      left = λ left z call by. left_next f z (place_in s.top) i here_is (calm f (place_in s.top) ordinary) call by;
    }

    unstarted : (slot : ℕ) → IsNoStart (function_at m s.top.func) slot (place_in s.top)
    unstarted slot = no_start_here f slot (place_in s.top) i here_is no_slot

    unended : (slot : ℕ) → has_point (ends_of (function_at m s.top.func) slot) (place_in s.top) ≡ false
    unended slot = no_end_here f slot (place_in s.top) i here_is no_slot

    abbrev top : Activation
    top = record s.top { at = s.top.at + 1; values = v.values }

    -- the name of another alloca isn't set
    not_alloca : (al : ℕ) → IsOther f (flags s.top.func) (roots s.top.func) al → given_at here ≡ Some al → ⊥
    not_alloca al other given = made_no_slot f al other.made s.top.block s.top.at i here_is no_slot given

    -- a name that isn't set has what it had
    unset : (al : ℕ) → IsTrue (flags s.top.func al) → given_at here ≡ Some al → ⊥
    unset al flagged given = unpart al al ((keeps s.top.func).addresses al al flagged (own_address f al)) given

    top_slot : (al b d : ℕ) → IsTrue (flags s.top.func al) → value_in s.top.values al ≡ pointer_to b
        → value_in h.values al ≡ pointer_to d
        → IsSlotBeside m k s.instances v.world.memory g.other.world.memory (length s.below) top al b d
    top_slot al b d flagged at' there' =
        let old = h.each al b d flagged at' there' in
        ⊎_elim
        (λ p. used p.0 p.1.0 p.1.1 at' there' old)
        (λ out. slot_passed m l k s.instances s.world.memory v.world.memory t.world.memory g.other.world.memory
        carried (length s.below) s.top next v.values onward al b d (unstarted al) (λ live. unended al) (passed b
        out) old)
        (is_among ps b)
      where
        used : (p : Place) → IsListed p ps → p.block ≡ b → value_in s.top.values al ≡ pointer_to b
            → value_in h.values al ≡ pointer_to d
            → IsSlotBeside m l s.instances s.world.memory t.world.memory (length s.below) s.top al b d
            → IsSlotBeside m k s.instances v.world.memory g.other.world.memory (length s.below) top al b d
        used p listed is at' there' old =
            let known = place_known p listed in
            let root : roots s.top.func al ≡ Some al = (keeps s.top.func).addresses al al flagged (own_address f al) in
            let same : known.alloca ≡ al = one known.alloca al b (idem known.name known.alloca known.root) root
            (known.source ∙ ap pointer_to is) at' in
            let target : p.target ≡ d = same_start p.target d (sym known.target ∙ ap (value_in h.values) same
            ∙ there') in
            let home : IsHomeOf k b d = subst (λ n. IsHomeOf k b n) target (subst (λ n. IsHomeOf k n p.target) is
            (used_home m l s.world.memory v.world.memory t.world.memory g.other.world.memory ps e places settle
            aparts theirs p listed)) in
            let u : IsUse f al (At (place_in s.top)) = subst (λ n. IsUse f n (At (place_in s.top))) same (use_of p
            known) in
            let local : ¬ NeedsFrame f al = ((keeps s.top.func).is_local al flagged).1 in
            slot_used m l k s.instances s.world.memory v.world.memory t.world.memory g.other.world.memory carried
            (length s.below) s.top next v.values onward al b d (unended al) home (lives b) (used_at f al
            (place_in s.top) next onward.edge u)
            (λ left live seen. used_gone m flags roots l k s.instances s.world.memory v.world.memory t.world.memory
            g.other.world.memory (length s.below) s.top t.top h (At (place_in s.top)) spot al b d local u old left
            (loud_escaped m flags roots l k s.instances s.world.memory v.world.memory t.world.memory
            g.other.world.memory (length s.below) s.top t.top h (At (place_in s.top)) spot al b d local u old
            (loud_after b seen))
            live)
            old
          where
            same_start : (a b : ℕ) → pointer_to a ≡ pointer_to b → a ≡ b
            same_start a b e = cc

    set_after : AreSet k.homes (given_at here) w x v g.other
    set_after = record {
      stands = λ name given. loud_value _ _ (g.set.stands name given) (not_quiet name given);
      source = g.set.source;
      target = g.set.target;
      room = g.set.room;
    }
      where
        not_quiet : (name : ℕ) → given_at here ≡ Some name → IsShown quiet (value_in v.values name)
        not_quiet name given = ⊎_elim
            (λ same. subst (IsShown quiet) (sym same) (on (roots s.top.func name) refl))
            (λ shown. shown)
            (g.shown name)
          where
            on : (o : Option ℕ) → roots s.top.func name ≡ o → IsShown quiet (value_in s.top.values name)
            on None root = shown_value quiet loud _ _ (h.envs.plain name root)
            on (Some al) root = absurd (unpart name al root given)

        loud_value : (a b : Value) → IsValue (stood l.homes ps) a b → IsShown quiet a → IsValue k.homes a b
        loud_value Value.Poison b at q = tt
        loud_value (Value.Int n) b at q = at
        loud_value (Value.Ptr Pointer.Null) b at q = at
        loud_value (Value.Ptr (Pointer.Func n)) b at q = at
        loud_value (Value.Ptr (Pointer.At d o)) b at q =
            let same : home_of k.homes d ≡ home_of (stood l.homes ps) d = faded_loud quiet (stood l.homes ps) ps d q
            in (
              ap (λ (z : Home). z.is_seen) same ∙ at.0,
              at.1
                  ∙ ap (λ (z : Home). Value.Ptr (Pointer.At z.block (moved o z.offset))) (sym same),
            )

    top_beside : IsActivationBeside m flags roots k s.instances v.world.memory g.other.world.memory (length s.below)
        top (record t.top { at = t.top.at + 1; values = g.other.values })
    top_beside = subst (λ (z : Activation). IsActivationBeside m flags roots k s.instances v.world.memory
        g.other.world.memory (length s.below) top z) same_place
        (activation_there m l k s.instances s.world.memory v.world.memory t.world.memory g.other.world.memory carried
        (length s.below) s.top next v.values onward flags roots t.top h g.other.values
        (set_stand l.homes k.homes (roots s.top.func) (given_at here) w x v g.other extends unpart idem h.envs
        set_after)
        (λ slot flagged. (g.set.source slot (unset slot flagged), g.set.target slot (unset slot flagged)))
        ordinary.no_close (others_on l k s.world.memory v.world.memory t.world.memory g.other.world.memory carried f
        (flags s.top.func) (roots s.top.func) s.top.values h.values v.values g.other.values h.envs (λ al other. (
          g.set.source al (λ given. not_alloca al other given),
          g.set.target al (λ given. not_alloca al other given),
        )) h.others) top_slot)
      where
        same_place : record t.top {
          block = s.top.block;
          at = s.top.at + 1;
          values = g.other.values;
        } ≡ record t.top { at = t.top.at + 1; values = g.other.values }
        same_place = ap (λ (z : Activation). record z {
          block = s.top.block;
          at = s.top.at + 1;
          values = g.other.values;
        }) h.is
            ∙ sym (ap (λ (z : Activation). record z { at = z.at + 1; values = g.other.values }) h.is)

    -- ---- others

    below_carried : (below : List Activation) → length below ≤ length s.below → AreOutdone s.instances s.top below
        → AreBelowCarried m flags roots l k s.instances s.instances s.world.memory v.world.memory t.world.memory
        g.other.world.memory carried below
    below_carried [] le outdone = tt
    below_carried (z ∷ below) le outdone = (
      record { over = λ stays o. o; slots = slot_of z (length below) less outdone.0 },
      below_carried below (omega arith) outdone.1,
    )
      where
        less : length below < length s.below
        less = omega arith

        slot_of : (z : Activation) (depth : ℕ) → depth < length s.below → (z.instance ≡ s.top.instance
            → GoesOn s.instances depth z → s.top.has_left ≡ false → AreUnbegun s.top.instance s.top.mode z.mode) → (al b d : ℕ) → IsTrue (flags z.func al)
            → IsSlotBeside m l s.instances s.world.memory t.world.memory depth z al b d
            → IsSlotBeside m k s.instances v.world.memory g.other.world.memory depth z al b d
        slot_of z depth lt alone al b d flagged old = ⊎_elim
            (λ p. subst (λ n. IsSlotBeside m l s.instances s.world.memory t.world.memory depth z al n d
            → IsSlotBeside m k s.instances v.world.memory g.other.world.memory depth z al n d) p.1.1 (used p.0
            p.1.0) old)
            (λ out. slot_kept m flags roots l k s.instances s.instances s.world.memory v.world.memory t.world.memory
            g.other.world.memory carried depth z al b d (record {
              goes_on = λ goes. goes;
              slots = λ slot is. is;
            }) (passed b out) old)
            (is_among ps b)
          where
            used : (p : Place) → IsListed p ps
                → IsSlotBeside m l s.instances s.world.memory t.world.memory depth z al p.block d
                → IsSlotBeside m k s.instances v.world.memory g.other.world.memory depth z al p.block d
            used p listed old =
                let known = place_known p listed in
                let ours = used_slot p known in
                let seats = sym old.seat ∙ ours.seat in
                other_used m flags roots l k s.instances s.world.memory v.world.memory t.world.memory
                g.other.world.memory (length s.below) s.top t.top h (At (place_in s.top)) spot known.alloca p.block
                p.target (local_of p known) (use_of p known) ours carried
                (used_block m l s.world.memory v.world.memory t.world.memory g.other.world.memory ps e places settle
                aparts theirs p listed) (lives p.block) (loud_after p.block)
                depth z al d (λ is. less_not depth (length s.below) lt is) (λ goes stays. two_ramps m l s.instances
                s.world.memory t.world.memory (length s.below) depth s.top z known.alloca al p.block p.target d (λ is.
                less_not depth (length s.below) lt is) ours old (alone (same_instance seats) goes stays)) (same_func
                seats) (same_alloca seats) old
              where
                less_not : (a b : ℕ) → a < b → a ≢ b
                less_not a b lt is = absurd (omega arith)

    instance_carried : HasLeftSuspended s.instances s.top → (j : ℕ) (z y : Instance)
        → slice_get s.instances j ≡ Some z → IsInstanceBeside m flags roots l s.world.memory (0 + j) z y
        → IsInstanceCarried m flags roots l k s.instances s.instances s.world.memory v.world.memory t.world.memory
        g.other.world.memory carried z
    instance_carried asleep j z y at ib = record {
      slots = λ p al b suspended flagged old. ⊎_elim
          (λ q. subst (λ n. IsKeptSlot m l s.world.memory z p al n
          → IsKeptSlot m k v.world.memory z p al n) q.1.1 (used p al q.0 q.1.0 suspended flagged) old)
          (λ out. kept_slot_on m flags roots l k s.instances s.instances s.world.memory v.world.memory t.world.memory
          g.other.world.memory carried z p al b (passed b out) old)
          (is_among ps b);
      gone = λ slot is flagged. gone_kept slot.block;
    }
      where
        used : (p : Point) (al : ℕ) (q : Place) → IsListed q ps → is_suspended z.status ≡ true
            → IsTrue (flags z.coroutine al) → IsKeptSlot m l s.world.memory z p al q.block
            → IsKeptSlot m k v.world.memory z p al q.block
        used p al q listed suspended flagged old =
            let known = place_known q listed in
            let ours = used_slot q known in
            let seated = seated_in l _ _ (flags z.coroutine) z.slots ib.slots ib.listed (record {
              alloca = al;
              block = q.block;
            }) flagged old.slot in
            let seats = sym seated.seat ∙ ours.seat in
            let number : 0 + j ≡ j = omega arith in
            kept_used m flags roots l k s.instances s.world.memory v.world.memory t.world.memory g.other.world.memory
            (length s.below) s.top t.top h (At (place_in s.top)) spot known.alloca q.block q.target (local_of q
            known) (use_of q known) ours carried
            (used_block m l s.world.memory v.world.memory t.world.memory g.other.world.memory ps e places settle
            aparts theirs q listed) (lives q.block) (loud_after q.block)
            z p al (asleep j z (sym (same_instance seats)
            ∙ ap Some number) at suspended) (same_func seats) (same_alloca seats) old

    -- ---- the states

    -- the second run does the same, and the states are beside each other again
    pub done_beside : AreOutdone s.instances s.top s.below → HasLeftSuspended s.instances s.top
        → (y : Work) × (action_of c x here ≡ Done y) × IsBeside m flags roots (settled s v) (settled t y)
    done_beside outdone asleep = (
      g.other,
      g.is,
      record {
        ledger = k;
        outcome = beside.outcome;
        world = g.world;
        entered = g.entered;
        instances = instances_kept m flags roots l k s.instances s.instances s.world.memory v.world.memory
            t.world.memory g.other.world.memory carried 0 s.instances t.instances (instance_carried asleep)
            beside.instances;
        top = top_beside;
        below = below_kept m flags roots l k s.instances s.instances s.world.memory v.world.memory t.world.memory
            g.other.world.memory carried s.top.result s.below t.below (below_carried s.below (omega arith) outdone)
            beside.below;
      },
    )

-- with the values that the second run's activation has
pub settled_beside : (m : Module) (flags : Flags) (roots : Roots) → ((func : ℕ)
    → KeepsSlots m (function_at m func) (flags func) (roots func)) → (answers : List ℤ) (s t : State)
    → IsBeside m flags roots s t → (i : Instr) → IsOrdinaryInstr m roots s.top i
    → AreOutdone s.instances s.top s.below → HasLeftSuspended s.instances s.top → (v : Work)
    → action_of (record {
      code = m;
      answers = answers;
      rights = owner_rights;
      function = function_at m s.top.func;
    }) (work_of s) (AtInstr i) ≡ Done v
    → (y : Work) × (action_of (record {
      code = m;
      answers = answers;
      rights = owner_rights;
      function = function_at m s.top.func;
    }) (work_of t) (AtInstr i) ≡ Done y) × IsBeside m flags roots (settled s
    v) (settled t y)
settled_beside m flags roots keeps answers s t beside i o outdone asleep v done =
    let c : Context = record {
      code = m;
      answers = answers;
      rights = owner_rights;
      function = function_at m s.top.func;
    } in
    let r = done_beside m flags roots keeps answers s t beside o.place i o.here o.no_slot o.bytes o.no_part o.no_base
    o.small
    v (ap (action_of c (work_of s)) o.here ∙ done) outdone asleep in
    let same : work_of t ≡ record {
      world = t.world;
      values = beside.top.values;
    } = ap (λ (z : Activation). record {
      world = t.world;
      values = z.values;
    }) beside.top.is in (
      r.0,
      ap (λ (z : Work). action_of c z (AtInstr i)) same
          ∙ ap (action_of c (record { world = t.world; values = beside.top.values })) (sym o.here) ∙ r.1,
      r.2,
    )
