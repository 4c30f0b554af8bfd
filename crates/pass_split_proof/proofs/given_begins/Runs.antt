-- In a run that gives frames in stack blocks a begin there is followed.
use Rattle.std.proofs.Common.{◌≡◌, ℕ, suc, ◌+◌, ◌&&◌, ◌||◌, ◌==◌, Bool, true, false, not, List, length, Option, Some, None, refl, sym, ap, ◌∙◌, subst, arith}
use Rattle.std.specs.Prelude.{slice_get}
use Rattle.std.specs.List.{list_any}
use Rattle.std.specs.Option.{option_map_or}
use Rattle.std.proofs.lemmas.Bool.{false≢true}
use Rattle.std.proofs.lemmas.Option.{slice_get_within}
use Rattle.pass_proofs.specs.ir_base.declared.outcome.Outcome.{Outcome}
use Rattle.pass_proofs.specs.ir_base.declared.outcome.Word.{Word}
use Rattle.pass_split_proof.proofs.given_begins.Blocks.{block_place, finished_there}
use Rattle.pass_split_proof.proofs.given_begins.Followed.{begun, given_begin_followed, within_beside}
use Rattle.pass_split_proof.proofs.given_begins.Places.{has_room as place_room}
use Rattle.pass_split_proof.proofs.states.Judged.{get_new, no_field}
use Rattle.pass_split_proof.specs.given_begins.Beginning.{BeginsWithin, HasBegunWithin, InBlock, InField, IsAtGivenBegin, IsGivenBlock}
use Rattle.pass_split_proof.specs.given_begins.Room.{HasRoom}
use Rattle.pass_split_proof.specs.given_begins.Runs.{AreAllLaidOut, GivesBlocks, NestsNoFrames}
use Rattle.pass_split_proof.specs.own_blocks.Own.{IsOwnState}
use Rattle.pass_split_proof.specs.simulation.Followed.{IsFollowed}
use Rattle.pass_split_proof.specs.states.Instances.{LiesAligned}
use Rattle.pass_split_proof.specs.states.Related.{AreRelated}
use Rattle.pass_split_proof.specs.steps.Begins.{begun_to}
use Rattle.run_access_worked.proofs.Begun.{get_more}
use Rattle.pass_proofs.proofs.run_agreement.Runs.{iterate-add}
use Rattle.pass_proofs.specs.run_agreement.Machines.{IsFine}
use Rattle.pass_proofs.specs.run_framed.Framed.{FramedGiven, are_finished_at, frame_around, framed_state_at, framed_step, has_room, is_frame_kind, is_over, is_room_at, is_stack_block, layout_of}
use Rattle.pass_proofs.proofs.run_laws.memory.Written.{changed_here}
use Rattle.pass_proofs.specs.run_laws.access.Lines.{pointer_at}
use Rattle.pass_proofs.specs.run_memory.Memory.{owned_to, same_kind, with_block}
use Rattle.pass_proofs.specs.run_memory.declared.block.Kind.{Kind}
use Rattle.pass_proofs.specs.run_memory.declared.block.MemoryBlock.{MemoryBlock}
use Rattle.pass_proofs.specs.run_memory.declared.pointer.Value.{Value}
use Rattle.run_access_worked.specs.run_plain.Plain.{PlainGiven}
use Rattle.run_access_worked.specs.run_plain.declared.state.PlainState.{PlainState}
use Rattle.pass_proofs.specs.run_source.Source.{first_state, new_instance}
use Rattle.pass_proofs.specs.run_source.State.{own_frame}
use Rattle.pass_proofs.specs.run_source.declared.state.Instance.{Instance}
use Rattle.pass_proofs.specs.run_source.declared.state.State.{State}
use Rattle.pass_proofs.specs.run_step.Values.{with_value}

-- ---- no field is for a callee's frame

no_room : (g : FramedGiven) → NestsNoFrames g → (offset size : ℕ) (o : Option (ℕ × Instance))
    → has_room g offset size o ≡ false
no_room g none offset size None = refl
no_room g none offset size (Some (i, x)) = closed (not (is_over x)) (list_any (is_room_at x.start offset size)
    (layout_of g.layouts x.coroutine).fields) (no_field (is_room_at x.start offset size)
    (layout_of g.layouts x.coroutine).fields (λ a y e. other (is_frame_kind y.kind) (x.start + y.offset == offset)
    (y.size == size) (none x.coroutine a y e)))
  where
    closed : (a b : Bool) → b ≡ false → (a && b) ≡ false
    closed true b e = e
    closed false b e = refl

    other : (a b c : Bool) → a ≡ false → ((a && b) && c) ≡ false
    other true b c e = absurd (false≢true (sym e))
    other false b c e = refl

module _ (g : FramedGiven) (h : PlainGiven) (entry : ℕ) (args : List Word) (gives : GivesBlocks g entry args)
    (laid : AreAllLaidOut g) (nests : NestsNoFrames g) (n : ℕ) (t : PlainState)
    (r : AreRelated g h (framed_state_at g entry args n) t)
    (own : IsOwnState g.given.code (framed_state_at g entry args n))
    (runs : (framed_state_at g entry args n).outcome ≡ Outcome.Running)
    (fine : IsFine (framed_step g (framed_state_at g entry args n)).outcome)
    (k : IsAtGivenBegin g h (framed_state_at g entry args n) t r) where
  abbrev s : State
  s = framed_state_at g entry args n

  y : HasBegunWithin g s r.top.shape.begin k.frame
  y = begun g h s t r runs fine k

  abbrev x : Instance
  x = new_instance s.top.func y.block y.start

  one_more : framed_step g s ≡ framed_state_at g entry args (suc n)
  one_more = sym (ap (λ (k : ℕ). framed_state_at g entry args k) (more n)
      ∙ iterate-add (framed_step g) n 1 (first_state g.given.code entry args))
    where
      more : (n : ℕ) → suc n ≡ n + 1
      more n = omega arith

  -- the state behind it
  abbrev u : State
  u = begun_to s x y.after (with_value s.top.values r.top.shape.begin (pointer_at y.block y.start))

  next_is : framed_state_at g entry args (suc n) ≡ u
  next_is = sym one_more ∙ y.is

  module _ (block : MemoryBlock) (start : y.start ≡ 0) (there : slice_get s.world.memory y.block ≡ Some block)
      (given : IsGivenBlock (own_frame g.given s).size block)
      (after : y.after ≡ with_block s.world.memory y.block (owned_to (own_frame g.given s).size)) where
    abbrev now : MemoryBlock
    now = owned_to (own_frame g.given s).size block

    now_there : slice_get y.after y.block ≡ Some now
    now_there = ap (λ (m : List MemoryBlock). slice_get m y.block) after
        ∙ changed_here s.world.memory y.block (owned_to (own_frame g.given s).size) block there

    stack_there : is_stack_block y.after y.block ≡ true
    stack_there = ap (λ (o : Option MemoryBlock). option_map_or (λ (z : MemoryBlock). same_kind z.kind Kind.Stack) o
        false) now_there ∙ ap (λ (k : Kind). same_kind k Kind.Stack) given.kind

    lies : LiesAligned g x now
    lies = subst (λ (z : State). slice_get z.instances (length s.instances) ≡ Some x
        → (is_stack_block z.world.memory y.block || not (y.start == 0)) ≡ true → false ≡ false
        → slice_get z.world.memory y.block ≡ Some now → LiesAligned g x now) next_is
        (gives.laid (suc n) (length s.instances) x now)
        (get_new s.instances x) (ap (λ (b : Bool). b || not (y.start == 0)) stack_there) refl now_there

    one : (i : ℕ) (z : Instance) → slice_get s.instances i ≡ Some z → z.block ≡ y.block
        → (z.start ≡ y.start) × (z.coroutine ≡ s.top.func)
    one i z e same =
        let p = subst (λ (q : State). slice_get q.instances (length s.instances) ≡ Some x
        → slice_get q.instances i ≡ Some z → z.block ≡ y.block → is_stack_block q.world.memory y.block ≡ true
        → (z.start ≡ 0) × (z.coroutine ≡ s.top.func)) next_is
        (gives.one (suc n) (length s.instances) i x z)
        (get_new s.instances x) (get_more s.instances x i (slice_get_within s.instances i z e) ∙ e) same stack_there in
        (p.0 ∙ sym start, p.1)

    room : HasRoom g s.instances x y.after t.world.memory
    room = place_room g s.instances x y.after t.world.memory
        (block_place g s.instances x y.after t.world.memory now now_there given.live given.kind lies
        k.laid
        (λ i z e. laid z.coroutine (own.instances i z e).coroutine) one
        (λ i z e same. finished_there s.instances y.block y.start
        (subst (λ (v : Value). are_finished_at s.instances v ≡ true) y.leads y.finished) i z e same (one i z e same).0))
        (within_beside g s t.world.memory y.block y.start y.after y.within r.frames r.world.memory)

    in_block : IsFollowed g h s t
    unfolding y
    in_block = given_begin_followed g h s t r runs fine k room

  by_place : BeginsWithin g s y.block y.start y.after → IsFollowed g h s t
  by_place (InBlock block start there given after) = in_block block start there given after
  by_place (InField room live after) = absurd (false≢true (sym (no_room g nests y.start (own_frame g.given s).size
      (frame_around g s.instances y.block y.start)) ∙ room))

  pub block_begin_followed : IsFollowed g h s t
  block_begin_followed = by_place y.within
