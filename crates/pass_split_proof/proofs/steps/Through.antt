-- Lines of a part, where something holds of each memory on the way.
use Rattle.std.proofs.Common.{◌≡◌, ◌≤◌, ℕ, zero, suc, List, [], ◌∷◌, length, sym, ap, subst, arith}
use Rattle.pass_proofs.specs.ir_base.declared.outcome.Outcome.{Outcome}
use Rattle.pass_proofs.specs.ir_model.declared.instr.Instr.{Instr}
use Rattle.pass_proofs.specs.run_agreement.Machines.{iterate}
use Rattle.pass_proofs.specs.run_laws.access.Lines.{Runs, StandAt}
use Rattle.pass_proofs.specs.run_memory.declared.block.MemoryBlock.{MemoryBlock}
use Rattle.pass_proofs.specs.run_step.Step.{AtInstr, Context, Done, Work, instr_action}
use Rattle.pass_split_proof.proofs.steps.Settled.{plain_does}
use Rattle.run_access_worked.specs.run_plain.Plain.{PlainGiven, plain_context, plain_function, plain_settled, plain_step, plain_work}
use Rattle.run_access_worked.specs.run_plain.declared.state.PlainState.{PlainState}

-- the instructions take one work to another, and it holds of each memory behind one of them
abbrev pub RunsThrough : (List MemoryBlock → Type 0) → Context → List Instr → Work → Work → Type 0
RunsThrough P c [] w x = x ≡ w
RunsThrough P c (i ∷ is) w x =
    (v : Work) × ((instr_action c w i ≡ Done v) × (P v.world.memory × RunsThrough P c is v x))

pub runs_of : (P : List MemoryBlock → Type 0) (c : Context) (line : List Instr) (w x : Work)
    → RunsThrough P c line w x → Runs c line w x
runs_of P c [] w x h = h
runs_of P c (i ∷ is) w x h = (h.0, (h.1.0, runs_of P c is h.0 x h.1.1.1))

-- so it holds in each state on the way
pub line_through : (P : List MemoryBlock → Type 0) (h : PlainGiven) (line : List Instr) (t : PlainState) (x : Work)
    → t.outcome ≡ Outcome.Running → StandAt (plain_function h t) t.top.block t.top.at line
    → RunsThrough P (plain_context h t) line (plain_work t) x → P t.world.memory → (n : ℕ) → n ≤ length line
    → P (iterate (plain_step h) n t).world.memory
line_through P h line t x runs stand does now zero le = now
line_through P h [] t x runs stand does now (suc n) le = absurd (none n le)
  where
    none : (n : ℕ) → suc n ≤ 0 → ⊥
    none n le = omega arith
line_through P h (i ∷ is) t x runs stand does now (suc n) le =
    let step : plain_step h t ≡ plain_settled t does.0 = plain_does h t (AtInstr i) (Done does.0) runs stand.0
    does.1.0 in
    subst (λ (y : PlainState). P y.world.memory) (sym (ap (iterate (plain_step h) n) step))
    (line_through P h is (plain_settled t does.0) x runs stand.1 does.1.1.1 does.1.1.0 n (less n (length is) le))
  where
    less : (n k : ℕ) → suc n ≤ suc k → n ≤ k
    less n k le = omega arith
