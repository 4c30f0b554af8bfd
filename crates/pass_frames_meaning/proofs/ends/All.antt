-- Jumps, branches, switches and returns of coroutines are followed.
use Rattle.std.proofs.Common.{◌≡◌, ℕ, Bool, true, false, List, refl, sym, ap, ◌∙◌}
use Rattle.pass_frames_proof.specs.ir_base.declared.cause.Cause.{Cause}
use Rattle.pass_frames_proof.specs.ir_base.declared.outcome.Outcome.{Outcome}
use Rattle.pass_frames_proof.specs.ir_model.Ty.{int}
use Rattle.pass_frames_proof.specs.ir_model.declared.instr.Case.{Case}
use Rattle.pass_frames_proof.specs.ir_model.declared.instr.Terminator.{Terminator}
use Rattle.pass_frames_proof.specs.ir_model.declared.module.Function.{Function}
use Rattle.pass_frames_proof.specs.ir_model.declared.operand.Arg.{Arg}
use Rattle.pass_frames_proof.specs.ir_model.declared.operand.Operand.{Operand}
use Rattle.pass_frames_meaning.proofs.coroutines.Steps.{next_is}
use Rattle.pass_frames_meaning.proofs.ends.Jumps.{jump_followed}
use Rattle.pass_frames_meaning.proofs.ends.Returns.{return_followed}
use Rattle.pass_frames_meaning.proofs.ends.Suspends.{suspend_told}
use Rattle.pass_frames_meaning.proofs.ends.Targets.{IsTermAt, bare_jump, term_at}
use Rattle.pass_frames_meaning.proofs.others.Others.{no_ok}
use Rattle.pass_frames_meaning.specs.Coroutines.{IsEnding, MayFollow}
use Rattle.pass_frames_meaning.proofs.ends.Coming.{below_there, end_known}
use Rattle.pass_frames_meaning.proofs.ends.Edges.{edge_jump_followed}
use Rattle.pass_frames_meaning.specs.Ends.{AreEndsKnown, KeepsEdges, KeepsEnds, MayGoOn, MayLeaveEdge}
use Rattle.pass_frames_meaning.specs.Setting.{AreOfRuns, KeepsAll, Setting}
use Rattle.pass_frames_proof.specs.Followed.{IsFollowed}
use Rattle.pass_frames_proof.specs.Places.{Framing, edged, is_return}
use Rattle.pass_frames_proof.specs.Related.{AreBuiltOf, is_coroutine}
use Rattle.pass_frames_proof.specs.Stepping.{IsNotEntering}
use Rattle.pass_frames_proof.specs.pass_renewed_proof.Renewed.{renewed_act, renewed_step}
use Rattle.pass_frames_proof.specs.run_agreement.Machines.{IsFine}
use Rattle.pass_frames_proof.specs.run_memory.declared.pointer.Value.{Value}
use Rattle.pass_frames_proof.specs.run_source.Source.{context_of}
use Rattle.pass_frames_proof.specs.run_source.State.{function_of, work_of}
use Rattle.pass_frames_proof.specs.run_source.declared.state.State.{State}
use Rattle.pass_frames_proof.specs.run_step.Step.{AtTerm, GoTo, Stuck, branch, fetch, switch, term_action, value_at}
use Rattle.pass_frames_proof.specs.run_step.Values.{arg_value}

module _ (c : Setting) (all : KeepsAll c) (keeps : KeepsEnds c) (s t : State) (r : AreBuiltOf c.b s t)
    (k : AreOfRuns c s t r) (runs : s.outcome ≡ Outcome.Running) (fine : IsFine (renewed_step c.g s).outcome)
    (coroutine : is_coroutine c.b s.top.func ≡ true) (mode : IsNotEntering s.top.mode) (o : MayFollow c s)
    (m : MayGoOn c s) where
  abbrev x : Framing
  x = c.b.framing s.top.func

  abbrev Follows : Type 0
  Follows = IsFollowed c.b c.g s t

  abbrev At : Terminator → Type 0
  At e = fetch (function_of c.g.given s) s.top.block s.top.at ≡ AtTerm e

  -- ---- from other blocks

  module _ (unreturned : is_return (c.b.framing s.top.func) s.top.block ≡ false) where
    goes : (e : Terminator) → At e → (label : ℕ) → term_action (context_of c.g.given s) (work_of s) e ≡ GoTo label
        → Follows
    goes e there label does =
        jump_followed c all keeps s t r k runs fine coroutine mode o m e there unreturned label does

    stops : (e : Terminator) → At e → (cause : Cause)
        → term_action (context_of c.g.given s) (work_of s) e ≡ Stuck cause → Follows
    stops e there cause d =
        let z = next_is c all s t r k runs fine coroutine mode o (AtTerm e) there refl in
        absurd (no_ok cause z.after (ap (renewed_act c.g s) (sym d) ∙ z.acts))

    branches : (y : Operand) (a b : ℕ) → At (Terminator.Branch y a b) → Follows
    branches y a b there = on (value_at (context_of c.g.given s) (work_of s) (int 1) y) refl
      where
        on : (v : Value) → value_at (context_of c.g.given s) (work_of s) (int 1) y ≡ v → Follows
        on (Value.Int n) d = goes (Terminator.Branch y a b) there _ (ap (λ (v : Value). branch v a b) d)
        on Value.Poison d = stops (Terminator.Branch y a b) there Cause.Poison (ap (λ (v : Value). branch v a b) d)
        on (Value.Ptr p) d = stops (Terminator.Branch y a b) there Cause.Poison (ap (λ (v : Value). branch v a b) d)

    switches : (arg : Arg) (default : ℕ) (cases : List Case) → At (Terminator.Switch arg default cases) → Follows
    switches arg default cases there = on (arg_value c.g.given.code s.top.values arg) refl
      where
        on : (v : Value) → arg_value c.g.given.code s.top.values arg ≡ v → Follows
        on (Value.Int n) d = goes (Terminator.Switch arg default cases) there _
            (ap (λ (v : Value). switch c.g.given.code v default cases) d)
        on Value.Poison d = stops (Terminator.Switch arg default cases) there Cause.Poison
            (ap (λ (v : Value). switch c.g.given.code v default cases) d)
        on (Value.Ptr p) d = stops (Terminator.Switch arg default cases) there Cause.Poison
            (ap (λ (v : Value). switch c.g.given.code v default cases) d)

    pub others_followed : (e : Terminator) → IsEnding e → At e → Follows
    others_followed (Terminator.Jump label) is there = goes (Terminator.Jump label) there label refl
    others_followed (Terminator.Branch y a b) is there = branches y a b there
    others_followed (Terminator.Switch arg default cases) is there = switches arg default cases there
    others_followed (Terminator.Ret arg) is there =
        let y = below_there c all keeps s coroutine m in
        return_followed c all keeps s t r k runs fine coroutine mode o m arg there unreturned y.0 y.1 y.2
    others_followed Terminator.Unreachable is there = absurd is

  -- ---- of any block

  module _ (keeps_edges : KeepsEdges c) (leaves : MayLeaveEdge c s) where
    pub ends_followed : (e : Terminator) → IsEnding e → At e → Follows
    ends_followed e is there = on (is_return (c.b.framing s.top.func) s.top.block) refl
      where
        here : IsTermAt (edged (c.b.framing s.top.func)) s.top.block s.top.at e
        here = term_at (edged (c.b.framing s.top.func)) s.top.block s.top.at e
            (ap (λ (g : Function). fetch g s.top.block s.top.at) (sym (all.given.coroutines s.top.func coroutine))
            ∙ there)

        on : (b : Bool) → is_return (c.b.framing s.top.func) s.top.block ≡ b → Follows
        on false q = others_followed q e is there
        on true q =
            let framing = all.given.framings s.top.func coroutine in
            let own = all.returns s.top.func coroutine in
            let z = bare_jump (c.b.framing s.top.func) framing own s.top.block here.here q in
            edge_jump_followed c all keeps s t r k runs fine coroutine mode o m keeps_edges leaves q z.0
            (there ∙ ap AtTerm (sym here.term ∙ z.1))

-- ---- in all

pub ends_known : (c : Setting) → KeepsAll c → KeepsEnds c → KeepsEdges c → (s t : State) (r : AreBuiltOf c.b s t)
    → AreOfRuns c s t r → s.outcome ≡ Outcome.Running → IsFine (renewed_step c.g s).outcome
    → is_coroutine c.b s.top.func ≡ true → IsNotEntering s.top.mode → MayFollow c s → MayGoOn c s
    → MayLeaveEdge c s → AreEndsKnown c s t
ends_known c all keeps edges s t r k runs fine coroutine mode o m leaves = record {
  suspends = suspend_told c keeps s coroutine;
  end_calls = end_known c all keeps s coroutine m mode;
  ends = ends_followed c all keeps s t r k runs fine coroutine mode o m edges leaves;
}
