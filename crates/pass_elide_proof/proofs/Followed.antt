-- What the framed run does by an ordinary instruction the elided run does too. Counts of allocator calls aren't looked
-- at.
use Rattle.std.proofs.Common.{◌≡◌, ℕ, true, length, refl, sym, ap, ◌∙◌, subst}
use Rattle.std.specs.Prelude.{IsTrue, slice_get}
use Rattle.pass_elide_proof.proofs.Counted.{step_same}
use Rattle.pass_elide_proof.proofs.Lengths.{KeepsLength, lengths_left}
use Rattle.pass_elide_proof.proofs.Reading.{transferred}
use Rattle.pass_elide_proof.proofs.SameCounts.{IsNoAllocation, KeepsCount, count_stays}
use Rattle.pass_elide_proof.proofs.Unseen.{accessed_shown, none_hidden}
use Rattle.pass_elide_proof.specs.Counts.{counted, counted_action, counted_work}
use Rattle.pass_elide_proof.specs.Elision.{Elision, elided, framed}
use Rattle.pass_elide_proof.specs.Match.{AreElided}
use Rattle.pass_elide_proof.specs.Ordinary.{IsAtOwn, with_at}
use Rattle.pass_proofs.proofs.run_laws.access.Blocks.{others_left}
use Rattle.pass_proofs.proofs.run_laws.access.Walk.{Comes}
use Rattle.pass_proofs.proofs.run_laws.embedded.Refills.{step_only}
use Rattle.pass_proofs.proofs.run_laws.transfer.Over.{step_over}
use Rattle.run_access_worked.proofs.run_laws_worked.Frames.{frame_rights_fit}
use Rattle.pass_proofs.specs.ir_model.declared.instr.Instr.{Instr}
use Rattle.pass_proofs.specs.ir_model.declared.operand.Allocator.{Allocator}
use Rattle.pass_proofs.specs.ir_model.declared.operand.Callee.{Callee}
use Rattle.pass_proofs.specs.run_framed.Framed.{frame_rights, framed_context}
use Rattle.pass_proofs.specs.run_laws.access.Accessed.{accessed}
use Rattle.pass_proofs.specs.run_laws.access.Changed.{ChangesOnly, IsFull, LeavesOthers}
use Rattle.pass_proofs.specs.run_laws.embedded.Refilled.{AreRefilled, OnlyRefills}
use Rattle.pass_proofs.specs.run_laws.embedded.Related.{HasBytes, HasNoSlot}
use Rattle.pass_proofs.specs.run_laws.memory.Pointers.{IsValue}
use Rattle.pass_proofs.specs.run_laws.transfer.Transfer.{AreJoined, AreOver, AreSet, GoesOver, args_at, given_at, same_maps}
use Rattle.pass_proofs.specs.run_memory.Memory.{bytes_in}
use Rattle.pass_proofs.specs.run_source.State.{function_of, work_of}
use Rattle.pass_proofs.specs.run_source.declared.state.State.{State}
use Rattle.pass_proofs.specs.run_step.Reads.{reads_at}
use Rattle.pass_proofs.specs.run_step.Step.{Action, AtInstr, Context, Coro, Deallocate, Done, Enter, Fetched, GoTo, NewSlot, Return, Stuck, Work, action_of}
use Rattle.pass_proofs.specs.run_step.Values.{Env, value_in}
use Rattle.pass_proofs.specs.run_step.declared.world.World.{World}

-- ---- what is done with another count

abbrev work_in : Work → Action → Work
work_in v (Done z) = z
work_in v _ = v

pub counted_done : (n : ℕ) (a : Action) (v : Work) → counted_action n a ≡ Done (counted_work n v)
    → (z : Work) × (a ≡ Done z) × (counted_work n z ≡ counted_work n v)
counted_done n (Done z) v e = (z, refl, ap (work_in v) e)
counted_done n (NewSlot z slot) v e = absurd (cc)
counted_done n (Enter func args result must_tail) v e = absurd (cc)
counted_done n (Coro i args result) v e = absurd (cc)
counted_done n (Deallocate p) v e = absurd (cc)
counted_done n (GoTo label) v e = absurd (cc)
counted_done n (Return p) v e = absurd (cc)
counted_done n (Stuck cause) v e = absurd (cc)

-- a world with the count of another one that has the same count as it
pub recounted : (n : ℕ) (z v : Work) (k : ℕ) → counted_work n z ≡ counted_work n v → k ≡ z.world.allocs
    → z.world ≡ counted k v.world
recounted n z v k same count =
    ap (λ (j : ℕ). counted j z.world) (sym count) ∙ ap (λ (u : Work). counted k u.world) same

no_allocation : (i : Instr) → HasNoSlot (AtInstr i) → IsNoAllocation i
no_allocation (Instr.Call result must_tail ty (Callee.Allocator Allocator.Malloc) args) h = h
no_allocation (Instr.Call result must_tail ty (Callee.Allocator Allocator.Znwm) args) h = h
no_allocation (Instr.Call result must_tail ty (Callee.Allocator Allocator.Free) args) h = tt
no_allocation (Instr.Call result must_tail ty (Callee.Allocator Allocator.ZdlPv) args) h = tt
no_allocation (Instr.Call result must_tail ty (Callee.Allocator Allocator.ZdlPvm) args) h = tt
no_allocation (Instr.Call result must_tail ty (Callee.Intrinsic j) args) h = tt
no_allocation (Instr.Call result must_tail ty (Callee.Named n) args) h = tt
no_allocation (Instr.Call result must_tail ty (Callee.Local v) args) h = tt
no_allocation (Instr.Binary r op flags ty a b) h = tt
no_allocation (Instr.Icmp r pred ty a b) h = tt
no_allocation (Instr.Select r y a b) h = tt
no_allocation (Instr.Cast r op nneg a to) h = tt
no_allocation (Instr.Alloca r ty align) h = tt
no_allocation (Instr.Load r ty p align) h = tt
no_allocation (Instr.Store a p align) h = tt
no_allocation (Instr.Gep r inbounds ty p indices) h = tt

-- ---- the elided run's step

module _ (e : Elision) (s t : State) (n : ℕ) (r : AreElided e s (with_at t n)) (i : Instr) (own : IsAtOwn e s t i) where
  abbrev pub ours : Context
  ours = framed_context (framed e) s

  abbrev pub theirs : Context
  theirs = framed_context (elided e) t

  abbrev here : Fetched
  here = AtInstr i

  -- the framed run's work with the count of the other one
  abbrev pub recounted_work : Work
  recounted_work = counted_work t.world.allocs (work_of s)

  pub joined : AreJoined r.homes r.hides same_maps ours theirs recounted_work (work_of t)
  joined = record { over = r.world; hidden = r.hidden; answers = refl; room = r.top.values.room }

  pub reads : (v : ℕ) → IsTrue (reads_at v (AtInstr i))
      → IsValue r.homes (value_in s.top.values v) (value_in t.top.values v)
  reads v is = r.top.values.each v (own.reads v is)

  -- what comes of it there
  pub record IsFollowed (v : Work) : Type 0 where
    pub other : Work
    pub is : action_of (framed_context (elided e) t) (work_of t) (AtInstr i) ≡ Done other
    pub over : AreOver (frame_rights (framed e) s.instances) (frame_rights (elided e) t.instances) r.homes r.hides
        (λ d. d) (counted other.world.allocs v.world) other.world
    pub set : AreSet r.homes (given_at (AtInstr i)) s.top.values t.top.values v.values other.values

  abbrev Goes : Action → Type 0
  Goes a = GoesOver (frame_rights (framed e) s.instances) (frame_rights (elided e) t.instances) r.homes r.hides
      same_maps (given_at (AtInstr i)) (args_at (AtInstr i)) (args_at (AtInstr i)) recounted_work (work_of t) a
      (action_of (framed_context (elided e) t) (work_of t) (AtInstr i))

  module _ (v : Work) (does : action_of (framed_context (framed e) s) (work_of s) (AtInstr i) ≡ Done v) where
    found : (z : Work) × (action_of ours recounted_work here ≡ Done z)
        × (counted_work t.world.allocs z ≡ counted_work t.world.allocs v)
    found =
        counted_done t.world.allocs (action_of ours recounted_work here) v
        (step_same t.world.allocs t.world.allocs ours (work_of s) here ∙ ap (counted_action t.world.allocs) does)

    pub followed : Goes (action_of ours recounted_work here) → IsFollowed v
    followed g =
        let h = subst Goes found.1 g in
        record {
          other = h.0;
          is = h.1;
          over = subst (λ (q : World). AreOver (frame_rights (framed e) s.instances) (frame_rights
              (elided e) t.instances) r.homes r.hides (λ d. d) q h.0.world)
              (recounted t.world.allocs found.0 v h.0.world.allocs found.2 h.2.allocs) h.2;
          set = subst (λ (env : Env). AreSet r.homes (given_at (AtInstr i)) s.top.values t.top.values env
              h.0.values) (ap (λ (u : Work). u.values) found.2) h.3;
        }

    -- ---- it makes, marks and allocates no block

    module _ (no_slot : HasNoSlot (AtInstr i)) (bytes : HasBytes (AtInstr i)) where
      pub follows : IsFollowed v
      follows =
          followed
          (step_over r.homes r.hides same_maps ours theirs recounted_work (work_of t) here here
          (frame_rights_fit (framed e) s.instances) (frame_rights_fit (elided e) t.instances) joined
          (transferred e (frame_rights (framed e) s.instances) (frame_rights (elided e) t.instances)
          (function_of (framed e).given s) (function_of (elided e).given t) r.homes r.globals s.top.values t.top.values
          i reads own.indices no_slot bytes))

      pub first_refilled : AreRefilled s.world.memory v.world.memory
      first_refilled = subst (OnlyRefills s.world.memory) does (step_only ours (work_of s) here no_slot)

      pub second_refilled : AreRefilled t.world.memory follows.other.world.memory
      second_refilled = subst (OnlyRefills t.world.memory) follows.is (step_only theirs (work_of t) here no_slot)

      changes : ChangesOnly (accessed ours (work_of s) here) s.world.memory v.world.memory
      changes =
          subst (LeavesOthers (accessed ours (work_of s) here) s.world.memory) does (others_left ours (work_of s) here)

      -- hidden blocks stay as they are
      pub still : (b : ℕ) → r.hides b ≡ true → slice_get v.world.memory b ≡ slice_get s.world.memory b
      still b is =
          changes.others b
          (none_hidden r.homes r.hides r.hidden b is (accessed ours (work_of s) here)
          (accessed_shown e (frame_rights (framed e) s.instances) (function_of (framed e).given s) r.homes r.globals
          s.top.values t.top.values r.hides r.hidden s.world i reads no_slot))

      -- full blocks keep all their bytes
      pub lengths : (b : ℕ) → IsFull t.world.memory b
          → length (bytes_in (slice_get follows.other.world.memory b)) ≡ length (bytes_in (slice_get t.world.memory b))
      lengths b full =
          subst (Comes (KeepsLength t.world.memory b full) (λ k. Unit {0}) t.world.memory) follows.is
          (lengths_left theirs (work_of t) b full here no_slot)

      pub first_count : v.world.allocs ≡ s.world.allocs
      first_count = subst (KeepsCount ours (work_of s)) does (count_stays ours (work_of s) i (no_allocation i no_slot))

      pub second_count : follows.other.world.allocs ≡ t.world.allocs
      second_count =
          subst (KeepsCount theirs (work_of t)) follows.is (count_stays theirs (work_of t) i (no_allocation i no_slot))
