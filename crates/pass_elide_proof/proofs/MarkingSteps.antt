-- Lifetime markers and deallocations, which both runs execute, leave the states beside each other.
use Rattle.std.proofs.Common.{◌≡◌, ◌≢◌, ◌+◌, ◌%◌, ◌^◌, ⊎_elim, ℕ, suc, Bool, true, false, not, List, [], ◌∷◌, length, Option, Result, Ok, Err, refl, sym, ap, ◌∙◌, subst, arith, if◌then◌else◌, ◌&&◌, ◌==◌}
use Rattle.std.proofs.lemmas.Bool.{eqb-true, ne_eqb}
use Rattle.std.specs.Prelude.{None, Some, option_and_then, slice_get}
use Rattle.elide_shape.specs.Calls.{deals}
use Rattle.elide_shape.specs.declared.calls.Dealing.{Dealing}
use Rattle.pass_elide_proof.proofs.Facts.{each_at, not_both, or_true}
use Rattle.pass_elide_proof.proofs.Alike.{allowed}
use Rattle.pass_elide_proof.proofs.ChangedBoth.{IsChange, changes_on, ends, home_is, is_alone, kills, lives_alone, mate, mates_change, starts}
use Rattle.pass_elide_proof.proofs.ChangedBoth.{changed_many}
use Rattle.pass_elide_proof.proofs.Grown.{have_at}
use Rattle.pass_elide_proof.proofs.Modules.{finds_alike}
use Rattle.pass_elide_proof.proofs.Onward.{SlotsStay, each_all}
use Rattle.pass_elide_proof.proofs.OrdinarySteps.{all_made}
use Rattle.pass_elide_proof.proofs.OwnPlaces.{acts, there_too}
use Rattle.pass_elide_proof.proofs.Reading.{args_stand, nth_stands}
use Rattle.pass_elide_proof.proofs.Refilled.{goes_on, mates_stay}
use Rattle.pass_elide_proof.proofs.SetNames.{keeps_top}
use Rattle.pass_elide_proof.proofs.Settled.{KeepsTop, next_of, settles}
use Rattle.pass_elide_proof.specs.Counts.{counted}
use Rattle.pass_elide_proof.specs.Elision.{Elision, elided, framed, function_in, rooms}
use Rattle.pass_elide_proof.specs.Frames.{AreJudgedAlike, AreJudges}
use Rattle.pass_elide_proof.specs.Marking.{HoldsNoFrame, IsAtDeallocation, IsAtMarker, first_operand, second_operand}
use Rattle.pass_elide_proof.specs.Match.{AreElided, Sides, sides}
use Rattle.pass_elide_proof.specs.Ordinary.{IsAtOwn, StandsInFront, with_at}
use Rattle.pass_elide_proof.specs.Places.{allocas_ahead}
use Rattle.pass_proofs.proofs.run_laws.embedded.Memories.{same_refills}
use Rattle.pass_proofs.proofs.run_laws.embedded.Mirrors.{bounds_changed, dies_embedded, ended_dead, nulls_changed, nulls_dead, starts_embedded}
use Rattle.pass_proofs.proofs.run_laws.embedded.Values.{address_kept}
use Rattle.pass_proofs.proofs.run_laws.memory.Homes.{seen_within}
use Rattle.pass_proofs.proofs.run_laws.memory.Written.{same_some}
use Rattle.pass_proofs.proofs.run_laws.transfer.Muted.{muted_change, muted_get}
use Rattle.pass_proofs.proofs.run_laws.transfer.Sets.{sets_none}
use Rattle.run_access_worked.proofs.run_laws_worked.Frames.{frame_rights_fit, no_judge}
use Rattle.pass_proofs.specs.ir_base.declared.cause.Cause.{Cause}
use Rattle.pass_proofs.specs.ir_model.Ty.{Ty}
use Rattle.pass_proofs.specs.ir_model.declared.instr.Instr.{Instr}
use Rattle.pass_proofs.specs.ir_model.declared.operand.Allocator.{Allocator}
use Rattle.pass_proofs.specs.ir_model.declared.operand.Arg.{Arg}
use Rattle.pass_proofs.specs.ir_model.declared.operand.Callee.{Callee}
use Rattle.pass_proofs.specs.ir_model.declared.operand.Intrinsic.{Intrinsic}
use Rattle.pass_proofs.specs.run_framed.Framed.{frame_rights, framed_context, framed_step, judge_of}
use Rattle.pass_proofs.specs.run_laws.embedded.Making.{whole_home}
use Rattle.pass_proofs.specs.run_laws.embedded.Marks.{LivesAgain, MayStart, anew}
use Rattle.pass_proofs.specs.run_laws.memory.Pointers.{Home, IsValue, home_of}
use Rattle.pass_proofs.specs.run_laws.memory.Standing.{AreBoundsKept, AreNullsKept, Embeds, HasRights}
use Rattle.pass_proofs.specs.run_laws.transfer.Muted.{muted}
use Rattle.pass_proofs.specs.run_laws.transfer.Transfer.{AreOver, AreSet, given_at}
use Rattle.pass_proofs.specs.run_memory.Memory.{Rights, end, ended, is_killed, is_live, is_owned, is_unkilled, killed, killed_block, may_compare_at, start, started, with_block}
use Rattle.pass_proofs.specs.run_memory.Pointers.{moved}
use Rattle.pass_proofs.specs.run_memory.declared.block.Byte.{Byte}
use Rattle.pass_proofs.specs.run_memory.declared.block.Kind.{Kind}
use Rattle.pass_proofs.specs.run_memory.declared.block.MemoryBlock.{MemoryBlock}
use Rattle.pass_proofs.specs.run_memory.declared.pointer.Offset.{Offset}
use Rattle.pass_proofs.specs.run_memory.declared.pointer.Pointer.{Pointer}
use Rattle.pass_proofs.specs.run_memory.declared.pointer.Value.{Value}
use Rattle.pass_proofs.specs.run_source.Source.{deallocate, if_let_go}
use Rattle.pass_proofs.specs.run_source.State.{began_at, instance_at, last_from, next, numbered, or_else, settled, with_memory, work_of}
use Rattle.pass_proofs.specs.run_source.declared.state.Instance.{Instance}
use Rattle.pass_proofs.specs.run_source.declared.state.State.{State}
use Rattle.pass_proofs.specs.run_step.Results.{and_then}
use Rattle.pass_proofs.specs.run_step.Step.{AtInstr, Context, Deallocate, Done, Work, action_of, block_of, deallocated, on_block, set_memory}
use Rattle.pass_proofs.specs.run_step.Values.{address, arg_values, nth}

-- ---- worlds in which one block of both has changed

module _ (e : Elision) (s t : State) (n : ℕ) (r : AreElided e s (with_at t n)) (b : ℕ) (was : MemoryBlock)
    (at : slice_get s.world.memory b ≡ Some was) (shown : r.hides b ≡ false)
    (ours : (i : ℕ) (x : Instance) → slice_get s.instances i ≡ Some x → x.block ≢ b)
    (theirs : (i : ℕ) (y : Instance) → slice_get t.instances i ≡ Some y → y.block ≢ (home_of r.homes b).block) where
  abbrev R : Rights
  R = frame_rights (framed e) s.instances

  abbrev T : Rights
  T = frame_rights (elided e) t.instances

  abbrev m : List MemoryBlock
  m = muted r.hides s.world.memory

  abbrev home : ℕ
  home = (home_of r.homes b).block

  abbrev pub IsOverWith : (MemoryBlock → MemoryBlock) → Type 0
  IsOverWith f =
      AreOver (frame_rights (framed e) s.instances) (frame_rights (elided e) t.instances) r.homes r.hides (λ d. d)
      (counted t.world.allocs (record s.world { memory = with_block s.world.memory b f }))
      (record t.world { memory = with_block t.world.memory (home_of r.homes b).block f })

  over_by : (f : MemoryBlock → MemoryBlock) → Embeds R T r.homes (with_block m b f) (with_block t.world.memory home f)
      → AreNullsKept R T r.homes (with_block m b f) (with_block t.world.memory home f)
      → AreBoundsKept r.homes (with_block m b f) (with_block t.world.memory home f) → IsOverWith f
  over_by f memory nulls bounds =
      let same = muted_change r.hides s.world.memory b f shown in
      record {
        memory = subst (λ (k : List MemoryBlock). Embeds R T r.homes k (with_block t.world.memory home f)) same memory;
        nulls = subst (λ (k : List MemoryBlock). AreNullsKept R T r.homes k (with_block t.world.memory home f))
            same nulls;
        bounds = subst (λ (k : List MemoryBlock). AreBoundsKept r.homes k (with_block t.world.memory home f))
            same bounds;
        events = r.world.events;
        answers = r.world.answers;
        allocs = refl;
      }

  -- it lives no longer
  pub dies_over : (f : MemoryBlock → MemoryBlock) → IsChange f → ((x : MemoryBlock) → is_live (f x).life ≡ false)
      → IsOverWith f
  dies_over f change dead =
      over_by f
      (dies_embedded R T (frame_rights_fit (framed e) s.instances) (frame_rights_fit (elided e) t.instances) r.homes m
      t.world.memory b r.world.memory (lives_alone e s t n r b was at shown ours theirs) f f dead)
      (nulls_dead R T r.homes m t.world.memory b f f dead r.world.nulls)
      (bounds_changed r.homes m t.world.memory b home f f change.size change.size r.world.bounds)

  -- it lives again

  abbrev k : ℕ
  k = (mate e s t n r b was at shown ours theirs).0

  abbrev bytes : List Byte
  bytes = (mate e s t n r b was at shown ours theirs).1

  home_whole : home_of r.homes b ≡ whole_home k
  home_whole = (mate e s t n r b was at shown ours theirs).2

  mate_there : slice_get t.world.memory k ≡ Some (record was { bytes = bytes })
  mate_there = (mate e s t n r b was at shown ours theirs).3

  no_judges : (o : ℕ) → judge_of (framed e) s.instances b o ≡ None
  no_judges o =
      no_judge (framed e) s.instances b o (each_at (λ (x : Instance). x.block ≢ b) s.instances ours)

  no_judges_too : (o : ℕ) → judge_of (elided e) t.instances k o ≡ None
  no_judges_too o =
      no_judge (elided e) t.instances k o
      (each_at (λ (y : Instance). y.block ≢ k) t.instances
      (λ i y to same. theirs i y to (same ∙ sym (home_is e s t n r b was at shown ours theirs))))

  judged : AreJudgedAlike (framed e) (elided e) s.instances t.instances b k 0 was.size (anew was)
      (anew (record was { bytes = bytes }))
  judged = record {
    each = λ o lt. subst (λ (p : Option (ℕ × Instance) × Option (ℕ × Instance)). AreJudges 0 (anew was)
        (anew (record was { bytes = bytes })) p.0 p.1) (λ j. (sym (no_judges o) j, sym (no_judges_too (0 + o)) j))
        (refl, refl);
  }

  lives_again : (x : MemoryBlock) → slice_get m b ≡ Some x → is_killed x.life ≡ false
      → LivesAgain R T r.homes t.world.memory b x
  lives_again x there alive =
      let same : was ≡ x = same_some was x (sym at ∙ (sym (muted_get r.hides s.world.memory b shown) ∙ there)) in
      subst (LivesAgain R T r.homes t.world.memory b) same (record {
        block = record was { bytes = bytes };
        there = ap (λ (h : Home). slice_get t.world.memory h.block) home_whole ∙ mate_there;
        unkilled = ap (λ (u : MemoryBlock). is_killed u.life) same ∙ alive;
        writable = λ h. h;
        allowed = subst (λ (h : Home). HasRights R T h b (anew was) (anew (record was { bytes = bytes })))
            (sym home_whole)
            (allowed (framed e) (elided e) s.instances t.instances b k 0 was.size (anew was)
            (anew (record was { bytes = bytes })) refl judged (omega arith));
      })

  free : (c : ℕ) (x : Option MemoryBlock) (o : Offset) → may_compare_at T c x o ≡ true
  free c None o = refl
  free c (Some x) o = or_true (is_live x.life)

  may_start : MayStart R T r.homes m t.world.memory b
  may_start = record {
    again = lives_again;
    nulls = λ o may. free home (slice_get (start t.world.memory home) home) (moved o (home_of r.homes b).offset);
  }

  pub starts_over : (home_of r.homes b).is_seen ≡ true → IsOverWith started
  starts_over seen =
      over_by started
      (starts_embedded R T (frame_rights_fit (framed e) s.instances) (frame_rights_fit (elided e) t.instances) r.homes m
      t.world.memory b r.world.memory (lives_alone e s t n r b was at shown ours theirs) r.world.bounds seen may_start)
      (nulls_changed R T r.homes m t.world.memory b started started (is_alone e s t n r b was at shown ours theirs)
      may_start.nulls r.world.nulls)
      (bounds_changed r.homes m t.world.memory b home started started starts.size starts.size r.world.bounds)

-- ---- the states behind a change

module _ (e : Elision) (s t : State) (n : ℕ) (r : AreElided e s (with_at t n)) (i : Instr) (own : IsAtOwn e s t i)
    (made : length r.top.own ≡ length (allocas_ahead (rooms e s.top.func) (function_in e s.top.func)))
    (none : given_at (AtInstr i) ≡ None) where
  abbrev d : Sides
  d = sides s t

  set : AreSet r.homes (given_at (AtInstr i)) s.top.values t.top.values s.top.values t.top.values
  set =
      subst (λ (o : Option ℕ). AreSet r.homes o s.top.values t.top.values s.top.values t.top.values) (sym none)
      (sets_none r.homes s.top.values t.top.values)

  keeps : KeepsTop e s t r.homes (next_of s.top) (next_of t.top) s.top.values t.top.values
  keeps =
      keeps_top e s t n r i own r.homes (record { each = λ b seen. refl }) s.top.values t.top.values set

  -- with other memories
  abbrev pub StandWith : List MemoryBlock → List MemoryBlock → Type 0
  StandWith memory other =
      AreElided e (settled s (set_memory (work_of s) memory)) (settled t (set_memory (work_of t) other))

  -- nothing changes
  pub stand_on : StandWith s.world.memory t.world.memory
  stand_on =
      settles e s t n r made (work_of s) (work_of t) r.homes r.hides
      (goes_on d s.world.memory t.world.memory r.homes r.hides (same_refills s.world.memory)
      (same_refills t.world.memory) (λ b h. refl) (λ b h. refl))
      (next_of s.top) (next_of t.top) keeps r.world r.known r.hidden
      (mates_stay d s.world.memory t.world.memory r.homes r.hides (same_refills s.world.memory)
      (same_refills t.world.memory) (λ b h. refl) (λ b h. refl) r.mates)
      (each_all (SlotsStay e d s.world.memory t.world.memory r.homes r.homes r.hides r.hides
      (goes_on d s.world.memory t.world.memory r.homes r.hides (same_refills s.world.memory)
      (same_refills t.world.memory) (λ b h. refl) (λ b h. refl))) (λ a. refl) s.below)
      (λ more h. h) s.top.slots t.top.slots r.top.slots

  -- one block of both
  module _ (b : ℕ) (was : MemoryBlock) (at : slice_get s.world.memory b ≡ Some was) (shown : r.hides b ≡ false)
      (ours : (j : ℕ) (x : Instance) → slice_get s.instances j ≡ Some x → x.block ≢ b)
      (theirs : (j : ℕ) (y : Instance) → slice_get t.instances j ≡ Some y → y.block ≢ (home_of r.homes b).block)
      (f : MemoryBlock → MemoryBlock) (change : IsChange f) (over : IsOverWith e s t n r b was at shown ours theirs f)
    where
      pub stand_changed : StandWith (with_block s.world.memory b f)
          (with_block t.world.memory (home_of r.homes b).block f)
      stand_changed =
          let memory = with_block s.world.memory b f in
          let other = with_block t.world.memory (home_of r.homes b).block f in
          let on = changes_on e s t n r b was at shown ours theirs f change in
          settles e s t n r made (set_memory (work_of s) memory) (set_memory (work_of t) other) r.homes r.hides on
          (next_of s.top) (next_of t.top) keeps over (r.known ∙ sym (changed_many s.world.memory b f)) r.hidden
          (mates_change e s t n r b was at shown ours theirs f change)
          (each_all (SlotsStay e d memory other r.homes r.homes r.hides r.hides on) (λ a. refl) s.below)
          (λ more h. h) s.top.slots t.top.slots r.top.slots

  -- ---- by a pointer

  abbrev IsOverAt : (MemoryBlock → MemoryBlock) → Type 0
  IsOverAt f =
      (b : ℕ) (was : MemoryBlock) (at : slice_get s.world.memory b ≡ Some was) (shown : r.hides b ≡ false)
      (ours : (j : ℕ) (x : Instance) → slice_get s.instances j ≡ Some x → x.block ≢ b)
      (theirs : (j : ℕ) (y : Instance) → slice_get t.instances j ≡ Some y → y.block ≢ (home_of r.homes b).block)
      → (home_of r.homes b).is_seen ≡ true → IsOverWith e s t n r b was at shown ours theirs f

  module _ (f : MemoryBlock → MemoryBlock) (change : IsChange f) (over : IsOverAt f) where
    calm : (b : ℕ) (p : Bool) → r.hides b ≡ p → (home_of r.homes b).is_seen ≡ true → r.hides b ≡ false
    calm b true is seen = absurd (not_both (home_of r.homes b).is_seen seen (r.hidden b is))
    calm b false is seen = is

    pub stand_at : (b : ℕ) (o : Offset) (u : Value) → IsValue r.homes (Value.Ptr (Pointer.At b o)) u
        → HoldsNoFrame s.instances (Value.Ptr (Pointer.At b o)) → HoldsNoFrame t.instances u
        → StandWith (with_block s.world.memory b f) (with_block t.world.memory (home_of r.homes b).block f)
    stand_at b o u h first second =
        let lt = seen_within r.homes b h.0 in
        let known = r.known in
        let was = have_at s.world.memory b (omega (arith, lt, known)) in
        let shown = calm b (r.hides b) refl h.0 in
        let ours = λ (j : ℕ) (x : Instance) (there : slice_get s.instances j ≡ Some x). first b j x refl there in
        let theirs = λ (j : ℕ) (y : Instance) (there : slice_get t.instances j ≡ Some y).
        second (home_of r.homes b).block j y (ap block_of h.1) there in
        stand_changed b was.0 was.1 shown ours theirs f change (over b was.0 was.1 shown ours theirs h.0)

    abbrev Stand : Value → Value → Type 0
    Stand p u = StandWith (on_block (λ m b. with_block m b f) s.world.memory (block_of p))
        (on_block (λ m b. with_block m b f) t.world.memory (block_of u))

    unmarked : (u : Value) → block_of u ≡ None
        → StandWith s.world.memory (on_block (λ m b. with_block m b f) t.world.memory (block_of u))
    unmarked u e' =
        subst (λ (o : Option ℕ). StandWith s.world.memory (on_block (λ m b. with_block m b f) t.world.memory o))
        (sym e') stand_on

    pub stand_marked : (p u : Value) → IsValue r.homes p u → (block_of p ≡ None → block_of u ≡ None)
        → HoldsNoFrame s.instances p → HoldsNoFrame t.instances u → Stand p u
    stand_marked (Value.Ptr (Pointer.At b o)) u h nothing first second =
        subst (λ (z : Value). Stand (Value.Ptr (Pointer.At b o)) z) (sym h.1) (stand_at b o u h first second)
    stand_marked (Value.Ptr Pointer.Null) u h nothing first second = unmarked u (nothing refl)
    stand_marked (Value.Ptr (Pointer.Func g)) u h nothing first second = unmarked u (nothing refl)
    stand_marked Value.Poison u h nothing first second = unmarked u (nothing refl)
    stand_marked (Value.Int x) u h nothing first second = unmarked u (nothing refl)

-- ---- lifetime markers

module _ (e : Elision) (s t : State) (n : ℕ) (r : AreElided e s (with_at t n)) (result : Option ℕ) (must_tail : Bool)
    (ty : Option Ty) (args : List Arg)
    (made : length r.top.own ≡ length (allocas_ahead (rooms e s.top.func) (function_in e s.top.func))) where
  abbrev call : Intrinsic → Instr
  call j = Instr.Call result must_tail ty (Callee.Intrinsic j) args

  abbrev At : Intrinsic → Type 0
  At j = IsAtMarker e s t j result must_tail ty args

  abbrev Goes : Type 0
  Goes = AreElided e (framed_step (framed e) s) (framed_step (elided e) t)

  by_steps : (u v : State) → framed_step (framed e) s ≡ u → framed_step (elided e) t ≡ v → AreElided e u v → Goes
  by_steps u v first second h =
      subst (λ (p : State × State). AreElided e p.0 p.1) (λ j. (sym first j, sym second j)) h

  starts_go : At Intrinsic.LifetimeStart → Goes
  starts_go at =
      let i = call Intrinsic.LifetimeStart in
      let p = first_operand e s args 1 in
      let u = second_operand e t args 1 in
      let v = set_memory (work_of s) (on_block start s.world.memory (block_of p)) in
      let y = set_memory (work_of t) (on_block start t.world.memory (block_of u)) in
      by_steps (settled s v) (settled t y)
      (acts (framed e) s (settled s v) i (Done v) at.own.runs at.own.there at.own.no_ramp refl refl)
      (acts (elided e) t (settled t y) i (Done y) (r.outcome ∙ at.own.runs) (there_too e s t i at.own r.top.func)
      (λ m is. (finds_alike e).ramps m ∙ at.own.no_ramp m is) refl refl)
      (stand_marked e s t n r i at.own made refl started starts
      (λ b was there shown ours theirs seen. starts_over e s t n r b was there shown ours theirs seen) p u
      (nth_stands e r.homes r.globals s.top.values t.top.values args
      (args_stand e r.homes r.globals s.top.values t.top.values args
      (λ name is. r.top.values.each name (at.own.reads name is))) 1)
      at.nothing at.first at.second)

  ends_go : At Intrinsic.LifetimeEnd → Goes
  ends_go at =
      let i = call Intrinsic.LifetimeEnd in
      let p = first_operand e s args 1 in
      let u = second_operand e t args 1 in
      let v = set_memory (work_of s) (on_block end s.world.memory (block_of p)) in
      let y = set_memory (work_of t) (on_block end t.world.memory (block_of u)) in
      by_steps (settled s v) (settled t y)
      (acts (framed e) s (settled s v) i (Done v) at.own.runs at.own.there at.own.no_ramp refl refl)
      (acts (elided e) t (settled t y) i (Done y) (r.outcome ∙ at.own.runs) (there_too e s t i at.own r.top.func)
      (λ m is. (finds_alike e).ramps m ∙ at.own.no_ramp m is) refl refl)
      (stand_marked e s t n r i at.own made refl ended ends
      (λ b was there shown ours theirs seen. dies_over e s t n r b was there shown ours theirs ended ends ended_dead)
      p u
      (nth_stands e r.homes r.globals s.top.values t.top.values args
      (args_stand e r.homes r.globals s.top.values t.top.values args
      (λ name is. r.top.values.each name (at.own.reads name is))) 1)
      at.nothing at.first at.second)

  pub marker_goes : (j : Intrinsic) → At j → Goes
  marker_goes j at =
      ⊎_elim (λ is. starts_go (subst At is at)) (λ is. ends_go (subst At is at)) at.marker

pub markers_stay_beside : (e : Elision) (s t : State) (j : Intrinsic) (result : Option ℕ) (must_tail : Bool)
    (ty : Option Ty) (args : List Arg) → AreElided e s t → StandsInFront e s t
    → IsAtMarker e s t j result must_tail ty args
    → AreElided e (framed_step (framed e) s) (framed_step (elided e) t)
markers_stay_beside e s t j result must_tail ty args r front at =
    marker_goes e s t t.top.at r result must_tail ty args
    (all_made e s t r front (Instr.Call result must_tail ty (Callee.Intrinsic j) args) at.own) j at

-- ---- deallocations

-- no instance begins where a pointer leads to
none_last : (test : Instance → Bool) (k : ℕ) (xs : List Instance)
    → ((i : ℕ) (x : Instance) → slice_get xs i ≡ Some x → test x ≡ false) → last_from test k xs ≡ None
none_last test k [] h = refl
none_last test k (x ∷ xs) h =
    let first : test x ≡ false = h 0 x refl in
    let rest = none_last test (suc k) xs (λ i y there. h (suc i) y there) in
    λ j. or_else (rest j) (if first j then Some k else None)

no_instance : (xs : List Instance) (p : Value) → HoldsNoFrame xs p → instance_at xs p ≡ None
no_instance xs (Value.Ptr (Pointer.At b o)) h =
    ap (option_and_then (numbered xs))
    (none_last (began_at b o.bits) 0 xs
    (λ i x there. let other : x.block ≢ b = h b i x refl there in
    λ j. ne_eqb x.block b other j && (x.start == o.bits)))
no_instance xs (Value.Ptr Pointer.Null) h = refl
no_instance xs (Value.Ptr (Pointer.Func g)) h = refl
no_instance xs Value.Poison h = refl
no_instance xs (Value.Int x) h = refl

at_address : (xs : List Instance) (p : Value) → HoldsNoFrame xs p → HoldsNoFrame xs (address p)
at_address xs (Value.Ptr q) h = h
at_address xs Value.Poison h = h
at_address xs (Value.Int x) h = λ b i z leads there. absurd (cc)

frees : (s : State) (p : Value) (memory : List MemoryBlock) → instance_at s.instances p ≡ None
    → deallocated s.world.memory p ≡ Ok memory → deallocate s p ≡ Ok (settled s (set_memory (work_of s) memory))
frees s p memory none does =
    ap (λ (o : Option (ℕ × Instance)). and_then (deallocated (if_let_go s o).world.memory p)
    (λ (k : List MemoryBlock). Ok (next (with_memory (if_let_go s o) k)))) none
    ∙ ap (λ (x : Result (List MemoryBlock) Cause). and_then x
    (λ (k : List MemoryBlock). Ok (next (with_memory s k)))) does

-- what was asked of a block that was killed
record IsKilled (m memory : List MemoryBlock) (b : ℕ) (o : Offset) : Type 0 where
  start : (o.bits == 0) ≡ true
  unkilled : is_unkilled Kind.Allocator (slice_get m b) ≡ true
  free : is_owned (slice_get m b) ≡ false
  same : killed m b ≡ memory

killed_by : (m memory : List MemoryBlock) (b : ℕ) (o : Offset) → deallocated m (Value.Ptr (Pointer.At b o)) ≡ Ok memory
    → IsKilled m memory b o
killed_by m memory b o does =
    on (o.bits == 0) (is_unkilled Kind.Allocator (slice_get m b)) (is_owned (slice_get m b)) refl refl refl does
  where
    on : (p q u : Bool) → (o.bits == 0) ≡ p → is_unkilled Kind.Allocator (slice_get m b) ≡ q
        → is_owned (slice_get m b) ≡ u
        → (if not (p && q) then Err Cause.Free else if u then Err Cause.Owned else Ok (killed m b)) ≡ Ok memory
        → IsKilled m memory b o
    on true true false ep eq eu h = record { start = ep; unkilled = eq; free = eu; same = cc }
    on true true true ep eq eu h = absurd (cc)
    on true false u ep eq eu h = absurd (cc)
    on false q u ep eq eu h = absurd (cc)

-- the block of a pointer in which no frame lies is alike in both runs
record IsAlikeAt (s t : State) (homes : List Home) (b : ℕ) : Type 0 where
  was : MemoryBlock
  bytes : List Byte
  at : slice_get s.world.memory b ≡ Some was
  there : slice_get t.world.memory (home_of homes b).block ≡ Some (record was { bytes = bytes })
  start : (home_of homes b).offset ≡ 0

twin_alike : (s t : State) (homes : List Home) (b : ℕ) (was : MemoryBlock) → slice_get s.world.memory b ≡ Some was
    → ((k : ℕ) × (bytes : List Byte) × (home_of homes b ≡ whole_home k)
    × (slice_get t.world.memory k ≡ Some (record was { bytes = bytes }))) → IsAlikeAt s t homes b
twin_alike s t homes b was at twin = record {
  was = was;
  bytes = twin.1;
  at = at;
  there = ap (λ (q : Home). slice_get t.world.memory q.block) twin.2 ∙ twin.3;
  start = ap (λ (q : Home). q.offset) twin.2;
}

module _ (e : Elision) (s t : State) (n : ℕ) (r : AreElided e s (with_at t n)) (result : Option ℕ) (must_tail : Bool)
    (ty : Option Ty) (args : List Arg) (memory : List MemoryBlock)
    (made : length r.top.own ≡ length (allocas_ahead (rooms e s.top.func) (function_in e s.top.func))) where
  abbrev frees_by : Allocator → Instr
  frees_by a = Instr.Call result must_tail ty (Callee.Allocator a) args

  alike_at : (b : ℕ) (o : Offset) (u : Value) → IsValue r.homes (Value.Ptr (Pointer.At b o)) u
      → HoldsNoFrame s.instances (Value.Ptr (Pointer.At b o)) → HoldsNoFrame t.instances u
      → IsAlikeAt s t r.homes b
  alike_at b o u h first second =
      let lt = seen_within r.homes b h.0 in
      let known = r.known in
      let was = have_at s.world.memory b (omega (arith, lt, known)) in
      let shown = calm (r.hides b) refl in
      let ours = λ (j : ℕ) (x : Instance) (there : slice_get s.instances j ≡ Some x). first b j x refl there in
      let theirs = λ (j : ℕ) (y : Instance) (there : slice_get t.instances j ≡ Some y).
      second (home_of r.homes b).block j y (ap block_of h.1) there in
      twin_alike s t r.homes b was.0 was.1 (mate e s t n r b was.0 was.1 shown ours theirs)
    where
      calm : (p : Bool) → r.hides b ≡ p → r.hides b ≡ false
      calm true is = absurd (not_both (home_of r.homes b).is_seen h.0 (r.hidden b is))
      calm false is = is

  module _ (a : Allocator) (at : IsAtDeallocation e s t a result must_tail ty args memory) where
    none_given : (b : Allocator) → deals Dealing.Frees b ≡ true → given_at (AtInstr (frees_by b)) ≡ None
    none_given Allocator.Malloc h = absurd (cc)
    none_given Allocator.Znwm h = absurd (cc)
    none_given Allocator.Free h = refl
    none_given Allocator.ZdlPv h = refl
    none_given Allocator.ZdlPvm h = refl

    does_so : (c : Context) (w : Work) (b : Allocator) → deals Dealing.Frees b ≡ true
        → action_of c w (AtInstr (frees_by b)) ≡ Deallocate (address (nth (arg_values c.code w.values args) 0))
    does_so c w Allocator.Malloc h = absurd (cc)
    does_so c w Allocator.Znwm h = absurd (cc)
    does_so c w Allocator.Free h = refl
    does_so c w Allocator.ZdlPv h = refl
    does_so c w Allocator.ZdlPvm h = refl

    abbrev StandGone : List MemoryBlock → List MemoryBlock → Type 0
    StandGone k l = StandWith e s t n r (frees_by a) at.own made (none_given a at.frees) k l

    -- what the elided run leaves
    record IsGone (u : Value) : Type 0 where
      other : List MemoryBlock
      does : deallocated t.world.memory u ≡ Ok other
      stands : AreElided e (settled s (set_memory (work_of s) memory)) (settled t (set_memory (work_of t) other))

    start_moved : (o h : ℕ) → (o == 0) ≡ true → h ≡ 0 → ((o + h) % 2 ^ 64 == 0) ≡ true
    start_moved o h e is = ap (λ (p : ℕ × ℕ). (p.0 + p.1) % 2 ^ 64 == 0) (λ j. (eqb-true o 0 e j, is j))

    killed_too : (b : ℕ) (o : Offset) → IsAlikeAt s t r.homes b → IsKilled s.world.memory memory b o
        → deallocated t.world.memory (Value.Ptr (Pointer.At (home_of r.homes b).block
        (moved o (home_of r.homes b).offset)))
        ≡ Ok (killed t.world.memory (home_of r.homes b).block)
    killed_too b o alike k =
        λ j. if not (start_moved o.bits (home_of r.homes b).offset k.start alike.start j && unkilled j)
        then Err Cause.Free else if free j then Err Cause.Owned
        else Ok (killed t.world.memory (home_of r.homes b).block)
      where
        unkilled : is_unkilled Kind.Allocator (slice_get t.world.memory (home_of r.homes b).block) ≡ true
        unkilled =
            ap (is_unkilled Kind.Allocator) alike.there
            ∙ (sym (ap (is_unkilled Kind.Allocator) alike.at) ∙ k.unkilled)

        free : is_owned (slice_get t.world.memory (home_of r.homes b).block) ≡ false
        free = ap is_owned alike.there ∙ (sym (ap is_owned alike.at) ∙ k.free)

    gone_by : (p u : Value) → IsValue r.homes p u → HoldsNoFrame s.instances p → HoldsNoFrame t.instances u
        → deallocated s.world.memory p ≡ Ok memory → IsGone u
    gone_by (Value.Ptr Pointer.Null) u h first second does =
        let same : s.world.memory ≡ memory = cc in
        record {
          other = t.world.memory;
          does = ap (deallocated t.world.memory) h.1;
          stands = subst (λ (k : List MemoryBlock). StandGone k t.world.memory) same
              (stand_on e s t n r (frees_by a) at.own made (none_given a at.frees));
        }
    gone_by (Value.Ptr (Pointer.At b o)) u h first second does =
        let k = killed_by s.world.memory memory b o does in
        record {
          other = killed t.world.memory (home_of r.homes b).block;
          does = ap (deallocated t.world.memory) h.1
              ∙ killed_too b o (alike_at b o u h first second) k;
          stands = subst (λ (l : List MemoryBlock). StandGone l (killed t.world.memory (home_of r.homes b).block))
              k.same
              (stand_at e s t n r (frees_by a) at.own made (none_given a at.frees) killed_block kills
              (λ c was there shown ours theirs seen. dies_over e s t n r c was there shown ours theirs killed_block
              kills (λ x. refl)) b o u h first second);
        }
    gone_by (Value.Ptr (Pointer.Func g)) u h first second does = absurd (cc)
    gone_by Value.Poison u h first second does = absurd (cc)
    gone_by (Value.Int x) u h first second does = absurd (cc)

    abbrev first : Value
    first = address (first_operand e s args 0)

    abbrev second : Value
    second = address (second_operand e t args 0)

    both : IsValue r.homes first second
    both =
        address_kept r.homes (first_operand e s args 0) (second_operand e t args 0)
        (nth_stands e r.homes r.globals s.top.values t.top.values args
        (args_stand e r.homes r.globals s.top.values t.top.values args
        (λ name is. r.top.values.each name (at.own.reads name is))) 0)

    no_first : HoldsNoFrame s.instances first
    no_first = at_address s.instances (first_operand e s args 0) at.first

    no_second : HoldsNoFrame t.instances second
    no_second = at_address t.instances (second_operand e t args 0) at.second

    gone : IsGone second
    gone = gone_by first second both no_first no_second at.does

    pub deallocation_goes : AreElided e (framed_step (framed e) s) (framed_step (elided e) t)
    deallocation_goes =
        let i = frees_by a in
        let u = settled s (set_memory (work_of s) memory) in
        let v = settled t (set_memory (work_of t) gone.other) in
        let ours : framed_step (framed e) s ≡ u
        = acts (framed e) s u i (Deallocate first) at.own.runs at.own.there at.own.no_ramp
        (does_so (framed_context (framed e) s) (work_of s) a at.frees)
        (frees s first memory (no_instance s.instances first no_first) at.does) in
        let theirs : framed_step (elided e) t ≡ v
        = acts (elided e) t v i (Deallocate second) (r.outcome ∙ at.own.runs) (there_too e s t i at.own r.top.func)
        (λ m is. (finds_alike e).ramps m ∙ at.own.no_ramp m is)
        (does_so (framed_context (elided e) t) (work_of t) a at.frees)
        (frees t second gone.other (no_instance t.instances second no_second) gone.does) in
        subst (λ (p : State × State). AreElided e p.0 p.1) (λ j. (sym ours j, sym theirs j)) gone.stands

pub deallocations_stay_beside : (e : Elision) (s t : State) (a : Allocator) (result : Option ℕ) (must_tail : Bool)
    (ty : Option Ty) (args : List Arg) (memory : List MemoryBlock) → AreElided e s t → StandsInFront e s t
    → IsAtDeallocation e s t a result must_tail ty args memory
    → AreElided e (framed_step (framed e) s) (framed_step (elided e) t)
deallocations_stay_beside e s t a result must_tail ty args memory r front at =
    deallocation_goes e s t t.top.at r result must_tail ty args memory
    (all_made e s t r front (Instr.Call result must_tail ty (Callee.Allocator a) args) at.own) a at
