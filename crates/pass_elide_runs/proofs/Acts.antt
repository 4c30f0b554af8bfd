-- What stands where an action is taken.
use Rattle.std.proofs.Common.{◌≡◌, ◌∙◌, ℕ, Bool, true, false, ap, if◌then◌else◌, refl, sym, subst}
use Rattle.pass_elide_proof.proofs.Facts.{not_both}
use Rattle.pass_elide_proof.specs.StepCases.{ActsBy}
use Rattle.pass_elide_proof.proofs.pass_proofs.pass_kept_proof.Actions.{SameAction, action_same}
use Rattle.pass_elide_proof.proofs.pass_proofs.pass_kept_proof.Same.{same_all}
use Rattle.pass_elide_proof.specs.pass_proofs.ir_base.declared.cause.Cause.{Cause}
use Rattle.pass_elide_proof.specs.pass_proofs.ir_model.Layout.{size_of}
use Rattle.pass_elide_proof.specs.pass_proofs.ir_model.Ty.{Ty}
use Rattle.pass_elide_proof.specs.pass_proofs.ir_model.declared.instr.Instr.{Instr}
use Rattle.pass_elide_proof.specs.pass_proofs.pass_kept_proof.Needed.{BranchesTo}
use Rattle.pass_elide_proof.specs.pass_proofs.run_framed.Framed.{FramedGiven, framed_context}
use Rattle.pass_elide_proof.specs.pass_proofs.run_source.State.{work_of}
use Rattle.pass_elide_proof.specs.pass_proofs.run_source.declared.state.State.{State}
use Rattle.pass_elide_proof.specs.pass_proofs.run_step.Step.{Action, AtInstr, AtTerm, Context, Fetched, GoTo, NewSlot, Nowhere, Stuck, Work, action_of, alloca, if_alignment, is_alignment}
use Rattle.run_hooks.proofs.Reached.{IsOfInstr, of_term}

pub record IsInstr (x : Fetched) : Type 0 where
  pub instr : Instr
  pub is : x ≡ AtInstr instr

module _ (g : FramedGiven) (s : State) where
  abbrev c : Context
  c = framed_context g s

  abbrev w : Work
  w = work_of s

  no_truth : (a b : Bool) → a ≡ b → a ≡ false → b ≡ true → ⊥
  no_truth a b same off set = not_both b set (sym same ∙ off)

  by_here : (a : Action) → IsOfInstr a ≡ true → (x : Fetched) → action_of c w x ≡ a → IsInstr x
  by_here a h Nowhere acts = absurd (no_truth false (IsOfInstr a) (ap IsOfInstr acts) refl h)
  by_here a h (AtInstr i) acts = record { instr = i; is = refl }
  by_here a h (AtTerm t) acts =
      absurd (no_truth (IsOfInstr (action_of c w (AtTerm t))) (IsOfInstr a) (ap IsOfInstr acts) (of_term c s t) h)

  pub instr_of : (a : Action) → (acts : ActsBy g s a) → IsOfInstr a ≡ true → IsInstr acts.here
  instr_of a acts h = by_here a h acts.here acts.acts

  -- a branch stands at a terminator with the label
  abbrev Same : Fetched → Action → Type 0
  Same x a = SameAction c.code (λ v. Unit {0}) x s.top.values s.top.values a a

  pub branches_to : (label : ℕ) (acts : ActsBy g s (GoTo label)) → BranchesTo label acts.here
  branches_to label acts =
      (subst (Same acts.here) acts.acts
      (action_same c s.world s.top.values s.top.values (λ v. Unit {0}) (λ v. Unit {0})
      (same_all (λ v. Unit {0}) s.top.values) acts.here (λ v t. tt) (λ v n p. tt))).1

  -- ---- an alloca makes a slot, or is undefined

  abbrev pub MakesOne : Action → Type 0
  MakesOne (NewSlot x slot) = Unit {0}
  MakesOne (Stuck cause) = Unit {0}
  MakesOne _ = ⊥

  aligned_makes : (align : ℕ) (a : Action) → MakesOne a → MakesOne (if_alignment align a)
  aligned_makes align a h = by (is_alignment align)
    where
      by : (t : Bool) → MakesOne (if t then a else Stuck Cause.Align)
      by true = h
      by false = tt

  alloca_makes : (name : ℕ) (ty : Ty) (align : ℕ) → MakesOne (action_of c w (AtInstr (Instr.Alloca name ty align)))
  alloca_makes name ty align = aligned_makes align (alloca c w name (size_of c.code ty) align) tt

  pub makes_one : (a : Action) (acts : ActsBy g s a) (name : ℕ) (ty : Ty) (align : ℕ)
      → acts.here ≡ AtInstr (Instr.Alloca name ty align) → MakesOne a
  makes_one a acts name ty align is =
      subst MakesOne (ap (action_of c w) (sym is) ∙ acts.acts) (alloca_makes name ty align)
