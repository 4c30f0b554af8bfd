-- At a marker of a slot its block starts or ends in both runs.
use Rattle.std.proofs.Common.{◌≡◌, ℕ, zero, suc, ◌+◌, ◌≤◌, List, [], ◌∷◌, length, Option, Some, refl, sym, ap, ◌∙◌, subst, arith}
use Rattle.pass_proofs.specs.ir_base.declared.outcome.Outcome.{Outcome}
use Rattle.pass_proofs.specs.ir_model.Names.{function_at}
use Rattle.pass_proofs.specs.ir_model.declared.instr.Instr.{Instr}
use Rattle.pass_proofs.specs.ir_model.declared.module.Function.{Function}
use Rattle.pass_proofs.specs.ir_model.declared.operand.Callee.{Callee}
use Rattle.pass_proofs.specs.ir_model.declared.operand.Intrinsic.{Intrinsic}
use Rattle.pass_split_proof.proofs.simulation.Knowing.{goes_knows, memory_places}
use Rattle.pass_split_proof.proofs.states.SameKind.{given_kept}
use Rattle.pass_split_proof.proofs.held.Memory.{ended_kind, started_kind}
use Rattle.pass_split_proof.proofs.calling.Called.{args_stand}
use Rattle.pass_split_proof.proofs.giving.Constants.{not_again}
use Rattle.pass_split_proof.proofs.marking.Started.{started_beside, started_frames}
use Rattle.pass_split_proof.proofs.states.Advanced.{advanced, same_frames}
use Rattle.pass_split_proof.proofs.states.Killed.{dead_beside, dead_frames, ends}
use Rattle.pass_split_proof.proofs.states.OwnHomes.{own_home, own_seen}
use Rattle.pass_split_proof.proofs.states.Written.{length-changed}
use Rattle.pass_split_proof.proofs.steps.Followed.{framed_does, one_followed}
use Rattle.pass_split_proof.proofs.steps.Ordinary.{IsCopied, alone}
use Rattle.pass_split_proof.proofs.steps.Settled.{plain_does}
use Rattle.pass_split_proof.specs.marking.Markers.{HoldsNoFrame, IsAtMarker}
use Rattle.pass_split_proof.specs.simulation.Followed.{IsFollowed}
use Rattle.pass_split_proof.specs.states.Activations.{Inside}
use Rattle.pass_split_proof.specs.states.Instances.{AreFrames}
use Rattle.pass_split_proof.specs.states.Memories.{AreBeside, homes_of}
use Rattle.pass_split_proof.specs.states.Related.{AreRelated, credit_of}
use Rattle.pass_split_proof.specs.states.Values.{AreValuesOf}
use Rattle.pass_proofs.specs.run_framed.Framed.{FramedGiven, framed_context}
use Rattle.pass_proofs.specs.run_laws.embedded.Related.{AreValues}
use Rattle.pass_proofs.specs.run_laws.memory.Pointers.{Extends, Home, IsValue}
use Rattle.pass_proofs.specs.run_laws.memory.Standing.{own_homes}
use Rattle.pass_proofs.specs.run_memory.Memory.{ended, started, with_block}
use Rattle.pass_proofs.specs.run_memory.declared.block.MemoryBlock.{MemoryBlock}
use Rattle.pass_proofs.specs.run_memory.declared.pointer.Offset.{Offset}
use Rattle.pass_proofs.specs.run_memory.declared.pointer.Pointer.{Pointer}
use Rattle.pass_proofs.specs.run_memory.declared.pointer.Value.{Value}
use Rattle.run_access_worked.specs.run_plain.Plain.{PlainGiven, plain_context, plain_settled, plain_work}
use Rattle.run_access_worked.specs.run_plain.declared.state.PlainState.{PlainState}
use Rattle.pass_proofs.specs.run_source.State.{function_of, settled, work_of}
use Rattle.pass_proofs.specs.run_source.declared.state.State.{State}
use Rattle.pass_proofs.specs.run_step.Step.{AtInstr, Context, Done, Work, action_of, block_of, on_block, set_memory}
use Rattle.pass_proofs.specs.run_step.Values.{arg_values, nth}

-- the value at a place stands for that at the same place
stands_there : (homes : List Home) (vs us : List Value) (i : ℕ) → AreValues homes vs us
    → IsValue homes (nth vs i) (nth us i)
stands_there homes [] [] i stand = tt
stands_there homes [] (u ∷ us) i stand = absurd stand
stands_there homes (v ∷ vs) [] i stand = absurd stand
stands_there homes (v ∷ vs) (u ∷ us) zero stand = stand.0
stands_there homes (v ∷ vs) (u ∷ us) (suc i) stand = stands_there homes vs us i stand.1

-- an address leads into the same block
same_block : (n b : ℕ) (o : Offset) (u : Value) → IsValue (own_homes 0 n) (Value.Ptr (Pointer.At b o)) u
    → block_of u ≡ Some b
same_block n b o u stands = ap block_of stands.1
    ∙ ap (λ (q : Home). Some q.block) (own_home n b (own_seen n b stands.0))

module _ (g : FramedGiven) (h : PlainGiven) (s : State) (t : PlainState) (r : AreRelated g h s t)
    (runs : s.outcome ≡ Outcome.Running) (x : Intrinsic) (k : IsAtMarker g h s t r x)
    (change : MemoryBlock → MemoryBlock) (kind : (y : MemoryBlock) → (change y).kind ≡ y.kind) where
  abbrev f : Function
  f = function_of g.given s

  abbrev q : Function
  q = function_at h.code t.top.func

  abbrev pub marker : Instr
  marker = Instr.Call k.result k.must_tail k.ty (Callee.Intrinsic x) k.args

  abbrev m : List MemoryBlock
  m = s.world.memory

  abbrev n : List MemoryBlock
  n = t.world.memory

  abbrev vs : List Value
  vs = arg_values g.given.code s.top.values k.args

  abbrev us : List Value
  us = arg_values h.code t.top.values k.args

  abbrev changing : List MemoryBlock → ℕ → List MemoryBlock
  changing l b = with_block l b change

  abbrev made : Work
  made = set_memory (work_of s) (changing m k.block)

  abbrev made_too : Work
  made_too = set_memory (plain_work t) (changing n k.block)

  there_too : block_of (nth us 1) ≡ Some k.block
  there_too = same_block (length m) k.block k.offset (nth us 1)
      (subst (λ (v : Value). IsValue (homes_of m) v (nth us 1)) k.marks
      (stands_there (homes_of m) vs us 1 (args_stand g h s t r k.args k.readable)))

  -- as many blocks as before
  long : length (changing m k.block) ≡ length m
  long = length-changed m k.block change

  same : (a b : ℕ) → b ≡ a → a ≤ b
  same a b e = omega arith

  -- the marker changes the block to which its operand leads
  module _ (acts : (c : Context) (w : Work) → action_of c w (AtInstr marker)
      ≡ Done (set_memory w (on_block changing w.world.memory (block_of (nth (arg_values c.code w.values k.args) 1)))))
      (copied : IsCopied r.top.shape r.top.part f q s.top.block s.top.at t.top.block t.top.at marker)
      (beside : AreBeside g s.instances (changing m k.block) (changing n k.block))
      (frames : AreFrames g s.instances (changing m k.block) (changing n k.block)) where
    ours : action_of (framed_context g s) (work_of s) (AtInstr marker) ≡ Done made
    ours = acts (framed_context g s) (work_of s)
        ∙ ap (λ (v : Value). Done (set_memory (work_of s) (on_block changing m (block_of v)))) k.marks

    theirs : action_of (plain_context h t) (plain_work t) (AtInstr marker) ≡ Done made_too
    theirs = acts (plain_context h t) (plain_work t)
        ∙ ap (λ (o : Option ℕ). Done (set_memory (plain_work t) (on_block changing n o))) there_too

    related : AreRelated g h (settled s made) (plain_settled t made_too)
    related = advanced g h s t r made made_too s.instances s.top.block (s.top.at + 1) t.top.block (t.top.at + 1)
        s.top.has_left k.settled
        (record { memory = beside; events = r.world.events; answers = r.world.answers; allocs = r.world.allocs })
        frames (same_frames s.instances) (same (length m) (length (changing m k.block)) long)
        (subst (λ (l : ℕ). Extends (homes_of m) (own_homes 0 l)) (sym long) (record { each = λ b e. refl }))
        (subst (λ (l : ℕ). AreValuesOf f (own_homes 0 l) s.top.values t.top.values) (sym long) r.top.values)
        refl refl refl (Inside s.top.mode k.settled copied.1)

    pub marker_followed : IsFollowed g h s t
    marker_followed = one_followed g h s t r runs (settled s made) (plain_settled t made_too)
        (framed_does g s (AtInstr marker) (Done made) runs k.there refl ours)
        (plain_does h t (AtInstr marker) (Done made_too) (r.outcome ∙ runs) copied.0 theirs)
        (same (credit_of s) (credit_of s) refl) related
        (λ know. goes_knows g s t s.instances (changing m k.block) t.top.values
        (subst (λ (l : ℕ). Extends (homes_of m) (own_homes 0 l)) (sym long) (record { each = λ b e. refl }))
        (memory_places s.instances m (changing m k.block) (λ i x e. given_kept change kind m k.block x.block x)) know
        (λ frame e. refl))

module _ (g : FramedGiven) (h : PlainGiven) (s : State) (t : PlainState) (r : AreRelated g h s t)
    (runs : s.outcome ≡ Outcome.Running) where
  abbrev ending : IsAtMarker g h s t r Intrinsic.LifetimeEnd → Instr
  ending k = marker g h s t r runs Intrinsic.LifetimeEnd k ended ended_kind

  pub end_followed : IsAtMarker g h s t r Intrinsic.LifetimeEnd → IsFollowed g h s t
  end_followed k = marker_followed g h s t r runs Intrinsic.LifetimeEnd k ended ended_kind (λ c w. refl)
      (alone r.top.shape r.top.part (function_of g.given s) (function_at h.code t.top.func) s.top.block s.top.at
      t.top.block t.top.at (ending k) (ending k)
      (record { begins = not_again r.top.part (ending k) refl; cut = λ after. refl; lowered = λ n. refl }) k.place
      k.there)
      (dead_beside ended ended ends g s.instances s.world.memory t.world.memory k.block r.frames.laid r.world.memory)
      (dead_frames ended ended ends g s.instances s.world.memory t.world.memory k.block r.frames)

  abbrev starting : IsAtMarker g h s t r Intrinsic.LifetimeStart → Instr
  starting k = marker g h s t r runs Intrinsic.LifetimeStart k started started_kind

  pub start_followed : (k : IsAtMarker g h s t r Intrinsic.LifetimeStart)
      → HoldsNoFrame s.instances s.world.memory k.block → IsFollowed g h s t
  start_followed k clear = marker_followed g h s t r runs Intrinsic.LifetimeStart k started started_kind (λ c w. refl)
      (alone r.top.shape r.top.part (function_of g.given s) (function_at h.code t.top.func) s.top.block s.top.at
      t.top.block t.top.at (starting k) (starting k)
      (record { begins = not_again r.top.part (starting k) refl; cut = λ after. refl; lowered = λ n. refl }) k.place
      k.there)
      (started_beside g s.instances s.world.memory t.world.memory k.block clear r.frames.laid r.world.memory)
      (started_frames g s.instances s.world.memory t.world.memory k.block clear r.frames)
