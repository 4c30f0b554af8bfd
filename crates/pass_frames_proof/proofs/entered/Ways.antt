-- Stores into new blocks leave all others, and nothing is seen.
use Rattle.std.proofs.Common.{◌≡◌, ℕ, ◌<◌, List, [], ◌∷◌, sym, ap, ◌∙◌, subst, arith}
use Rattle.pass_frames_steps.specs.ir_model.declared.instr.Instr.{Instr}
use Rattle.pass_frames_steps.specs.ir_model.declared.operand.Operand.{Operand}
use Rattle.pass_frames_proof.proofs.jumping.Fronts.{ChangesMemory, store_changes}
use Rattle.pass_frames_steps.specs.Entered.{IsNewStore, IsOnEntry}
use Rattle.pass_frames_steps.specs.Led.{RunsThrough}
use Rattle.pass_frames_steps.proofs.run_laws.access.Blocks.{others_left}
use Rattle.pass_frames_steps.specs.run_laws.access.Accessed.{accessed, led_into}
use Rattle.pass_frames_steps.specs.run_laws.access.Changed.{ChangesOnly, IsNoneOf, LeavesOthers}
use Rattle.pass_frames_steps.specs.run_laws.access.Lines.{Runs}
use Rattle.pass_frames_steps.specs.run_laws.changed.Changed.{Each}
use Rattle.pass_frames_steps.specs.run_memory.declared.pointer.Value.{Value}
use Rattle.pass_frames_steps.specs.run_step.Step.{AtInstr, Context, Done, Work, instr_action}
use Rattle.pass_frames_steps.specs.run_step.Values.{Env, address, value_in}
use Rattle.pass_frames_steps.specs.run_step.declared.world.World.{World}

module _ (d : Context) (env : Env) (w : World) (base : ℕ) where
  one_on : (u v : Work) (j : Instr) → IsNewStore env base j → IsOnEntry env w base u → instr_action d u j ≡ Done v
      → IsOnEntry env w base v
  one_on u v j at on is_done = record {
    values = changes.values ∙ on.values;
    events = changes.events ∙ on.events;
    same = λ e lt. only.others e (apart e lt) ∙ on.same e lt;
  }
    where
      changes : ChangesMemory u v
      changes =
          store_changes d u v at.arg (Operand.Local at.name) at.align
          (subst (λ (i : Instr). instr_action d u i ≡ Done v) at.is is_done)

      only : ChangesOnly (accessed d u (AtInstr j)) u.world.memory v.world.memory
      only =
          subst (LeavesOthers (accessed d u (AtInstr j)) u.world.memory) is_done (others_left d u (AtInstr j))

      accesses : accessed d u (AtInstr j) ≡ at.block ∷ []
      accesses =
          ap (λ (i : Instr). accessed d u (AtInstr i)) at.is
          ∙ ap (λ (q : Value). led_into (address q)) (ap (λ (q : Env). value_in q at.name) on.values ∙ at.leads)

      apart : (e : ℕ) → e < base → IsNoneOf e (accessed d u (AtInstr j))
      apart e lt =
          subst (IsNoneOf e) (sym accesses) ((λ same. let le = at.new in absurd (omega (arith, lt, le, same))), tt)

  pub stores_pass : (line : List Instr) → Each (IsNewStore env base) line → (u v : Work) → IsOnEntry env w base u
      → Runs d line u v → RunsThrough d (IsOnEntry env w base) line u v × IsOnEntry env w base v
  stores_pass [] at u v on runs = (runs, subst (IsOnEntry env w base) (sym runs) on)
  stores_pass (j ∷ js) at u v on runs =
      let next : IsOnEntry env w base runs.0 = one_on u runs.0 j at.0 on runs.1.0 in
      let more = stores_pass js at.1 runs.0 v next runs.1.1 in
      ((on, (runs.0, (runs.1.0, more.0))), more.1)
