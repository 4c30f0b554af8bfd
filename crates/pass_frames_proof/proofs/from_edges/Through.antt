-- A line that fills cells of an activation alone: so it is at each of its instructions.
use Rattle.std.proofs.Common.{◌≡◌, ◌<◌, ◌≤◌, ◌∷◌, ◌∙◌, [], List, ap, arith, inl, inr, subst, sym, ℕ}
use Rattle.std.specs.Prelude.{slice_get}
use Rattle.pass_frames_steps.specs.ir_model.declared.instr.Instr.{Instr}
use Rattle.pass_frames_steps.specs.ir_model.declared.operand.Operand.{Operand}
use Rattle.pass_frames_proof.proofs.jumping.Fronts.{ChangesMemory, store_changes}
use Rattle.pass_frames_steps.proofs.led.Steps.{still_value, still_world}
use Rattle.pass_frames_steps.specs.FromEdges.{IsCellMove, IsNoOwnCell, IsOnCells, IsStillFrom, IsStoreInto}
use Rattle.pass_frames_steps.specs.Led.{RunsThrough}
use Rattle.pass_frames_steps.specs.Places.{Framing}
use Rattle.pass_frames_steps.proofs.run_laws.access.Blocks.{others_left}
use Rattle.pass_frames_steps.specs.run_laws.access.Accessed.{accessed, led_into}
use Rattle.pass_frames_steps.specs.run_laws.access.Changed.{ChangesOnly, IsNoneOf, LeavesOthers}
use Rattle.pass_frames_steps.specs.run_laws.access.Lines.{Runs}
use Rattle.pass_frames_steps.specs.run_laws.changed.Changed.{Each}
use Rattle.pass_frames_steps.specs.run_memory.declared.pointer.Value.{Value}
use Rattle.pass_frames_steps.specs.run_source.State.{work_of}
use Rattle.pass_frames_steps.specs.run_source.declared.state.State.{State}
use Rattle.pass_frames_steps.specs.run_step.Step.{AtInstr, Context, Done, Work, instr_action}
use Rattle.pass_frames_steps.specs.run_step.Values.{Env, address, value_in}
use Rattle.pass_frames_steps.specs.run_step.declared.world.World.{World}

module _ (x : Framing) (t : State) (d : Context) (n : ℕ) (start : Work) where
  abbrev Move : Instr → Type 0
  Move j = IsCellMove x t.top start n j

  abbrev On : Work → Type 0
  On u = IsOnCells x t.top (work_of t) u

  -- names below are as they were
  abbrev Low : Work → Type 0
  Low u = (v : ℕ) → v < n → value_in u.values v ≡ value_in start.values v

  still_on : (u z : Work) (j : Instr) → IsStillFrom n j → Low u → On u → instr_action d u j ≡ Done z → Low z × On z
  still_on u z j m low on is_done = (
    (λ v lt. still_value d v u z j m.still (λ e. let le : n ≤ v = m.high v e in absurd (omega (arith, le, lt))) is_done
        ∙ low v lt),
    record {
      events = ap (λ (q : World). q.events) same ∙ on.events;
      spares = λ e none. ap (λ (q : World). slice_get q.memory e) same ∙ on.spares e none;
    },
  )
    where
      same : z.world ≡ u.world
      same = still_world d u z j m.still is_done

  store_on : (u z : Work) (j : Instr) → IsStoreInto x t.top start n j → Low u → On u → instr_action d u j ≡ Done z
      → Low z × On z
  store_on u z j m low on is_done = (
    (λ v lt. ap (λ (q : Env). value_in q v) changes.values ∙ low v lt),
    record {
      events = changes.events ∙ on.events;
      spares = λ e none. only.others e (apart e none) ∙ on.spares e none;
    },
  )
    where
      changes : ChangesMemory u z
      changes =
          store_changes d u z m.arg (Operand.Local m.cell) m.align
          (subst (λ (i : Instr). instr_action d u i ≡ Done z) m.is is_done)

      only : ChangesOnly (accessed d u (AtInstr j)) u.world.memory z.world.memory
      only = subst (LeavesOthers (accessed d u (AtInstr j)) u.world.memory) is_done (others_left d u (AtInstr j))

      accesses : accessed d u (AtInstr j) ≡ m.block ∷ []
      accesses =
          ap (λ (i : Instr). accessed d u (AtInstr i)) m.is
          ∙ ap (λ (q : Value). led_into (address q)) (low m.cell m.low ∙ m.leads)

      apart : (e : ℕ) → IsNoOwnCell x t.top e → IsNoneOf e (accessed d u (AtInstr j))
      apart e none =
          subst (IsNoneOf e) (sym accesses)
          ((λ same. none (record { alloca = m.cell; block = m.block }) m.own m.name (sym same)), tt)

  one_on : (u z : Work) (j : Instr) → Move j → Low u → On u → instr_action d u j ≡ Done z → Low z × On z
  one_on u z j (inl m) low on is_done = still_on u z j m low on is_done
  one_on u z j (inr m) low on is_done = store_on u z j m low on is_done

  pub cells_through : (line : List Instr) → Each Move line → (u z : Work) → Low u → On u → Runs d line u z
      → RunsThrough d On line u z
  cells_through [] m u z low on runs = runs
  cells_through (j ∷ js) m u z low on runs =
      let next = one_on u runs.0 j m.0 low on runs.1.0 in
      (on, (runs.0, (runs.1.0, cells_through js m.1 runs.0 z next.0 next.1 runs.1.1)))
