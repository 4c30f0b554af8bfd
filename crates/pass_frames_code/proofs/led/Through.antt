-- Lines of which something holds at each instruction.
use Rattle.std.proofs.Common.{ℕ, zero, suc, ◌<◌, ◌≤◌, List, [], ◌∷◌, ◌++◌, length, refl, subst, arith}
use Rattle.std.specs.Prelude.{take}
use Rattle.pass_proofs.specs.ir_model.declared.instr.Instr.{Instr}
use Rattle.pass_frames_code.specs.Led.{RunsThrough}
use Rattle.pass_proofs.specs.run_laws.access.Lines.{Runs}
use Rattle.pass_proofs.specs.run_step.Step.{Context, Work}

module _ (c : Context) (P : Work → Type 0) where
  pub runs_of : (line : List Instr) (w x : Work) → RunsThrough c P line w x → Runs c line w x
  runs_of [] w x r = r
  runs_of (i ∷ is) w x r = (r.1.0, (r.1.1.0, runs_of is r.1.0 x r.1.1.1))

  pub through_joined : (line more : List Instr) (w v x : Work) → RunsThrough c P line w v → RunsThrough c P more v x
      → RunsThrough c P (line ++ more) w x
  through_joined [] more w v x r q = subst (λ (u : Work). RunsThrough c P more u x) r q
  through_joined (i ∷ is) more w v x r q = (r.0, (r.1.0, (r.1.1.0, through_joined is more r.1.0 v x r.1.1.1 q)))

  -- a line of one instruction at most
  pub one_through : (line : List Instr) (w x : Work) → length line ≤ 1 → P w → Runs c line w x
      → RunsThrough c P line w x
  one_through [] w x le h r = r
  one_through (i ∷ []) w x le h r = (h, r)
  one_through (i ∷ j ∷ is) w x le h r = absurd (more (length is) le)
    where
      more : (n : ℕ) → suc (suc n) ≤ 1 → ⊥
      more n le = omega arith

  -- after some of the instructions it holds
  pub at_each : (line : List Instr) (w x : Work) → RunsThrough c P line w x → (k : ℕ) → k < length line
      → (u : Work) × (Runs c (take k line) w u × P u)
  at_each [] w x r k lt = absurd (omega arith)
  at_each (i ∷ is) w x r zero lt = (w, (refl, r.0))
  at_each (i ∷ is) w x r (suc k) lt =
      let more = at_each is r.1.0 x r.1.1.1 k (omega (arith, lt)) in
      (more.0, ((r.1.0, (r.1.1.0, more.1.0)), more.1.1))

-- what holds at each instruction may be weakened
pub through_turns : (c : Context) (P Q : Work → Type 0) → ((u : Work) → P u → Q u) → (line : List Instr) (w x : Work)
    → RunsThrough c P line w x → RunsThrough c Q line w x
through_turns c P Q turns [] w x r = r
through_turns c P Q turns (i ∷ is) w x r =
    (turns w r.0, (r.1.0, (r.1.1.0, through_turns c P Q turns is r.1.0 x r.1.1.1)))
