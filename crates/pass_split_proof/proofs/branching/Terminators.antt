-- A jump, a branch or a switch of the framed run is followed in its part, by the edges behind it.
use Rattle.std.proofs.Common.{◌≡◌, ℕ, inl, false, List, [], ◌∷◌, length, map, refl, ap, ◌∙◌, subst}
use Rattle.std.specs.Prelude.{slice_get, if◌then◌else◌, ◌==◌}
use Rattle.pass_proofs.specs.flow_solver.Paths.{IsListed}
use Rattle.pass_proofs.specs.ir_base.declared.cause.Cause.{Cause}
use Rattle.pass_proofs.specs.ir_base.declared.outcome.Outcome.{Outcome}
use Rattle.pass_proofs.specs.ir_base.declared.outcome.Word.{Word}
use Rattle.pass_proofs.specs.ir_model.Names.{function_at, position_of}
use Rattle.pass_proofs.specs.ir_model.Ty.{int}
use Rattle.pass_proofs.specs.ir_model.declared.instr.Case.{Case}
use Rattle.pass_proofs.specs.ir_model.declared.instr.Phi.{Phi}
use Rattle.pass_proofs.specs.ir_model.declared.instr.Terminator.{Terminator}
use Rattle.pass_proofs.specs.ir_model.declared.module.Function.{Function}
use Rattle.pass_proofs.specs.ir_model.declared.operand.Arg.{Arg}
use Rattle.pass_proofs.specs.ir_model.declared.operand.Operand.{Operand}
use Rattle.pass_proofs.specs.ir_paths.Paths.{targets}
use Rattle.pass_proofs.specs.pass_intrinsics.Shapes.{done_label}
use Rattle.pass_proofs.specs.pass_intrinsics.declared.shape.Shape.{Shape}
use Rattle.pass_proofs.specs.pass_split.Pieces.{redirected, redirected_case, redirected_term}
use Rattle.pass_split_proof.proofs.branching.Targets.{AreSameCases, chosen_through, end_begins, one_listed, switch_through, target_listed}
use Rattle.pass_split_proof.proofs.places.Laws.{end_of}
use Rattle.pass_split_proof.proofs.steps.Followed.{framed_does, straight_followed, through_followed}
use Rattle.pass_split_proof.proofs.steps.Operands.{operand_stands, same_nowhere}
use Rattle.pass_split_proof.proofs.steps.Settled.{plain_does}
use Rattle.pass_split_proof.specs.branching.Terminators.{IsAtTerm, is_return}
use Rattle.pass_split_proof.specs.places.Places.{JumpsOn, Leads, Straight, ThroughDone}
use Rattle.pass_split_proof.specs.simulation.Followed.{IsFollowed}
use Rattle.pass_split_proof.specs.states.Going.{stands_at}
use Rattle.pass_split_proof.specs.states.Memories.{homes_of}
use Rattle.pass_split_proof.specs.states.Related.{AreRelated}
use Rattle.pass_split_proof.specs.steps.Operands.{IsReadable}
use Rattle.pass_proofs.specs.run_agreement.Machines.{IsFine}
use Rattle.pass_proofs.specs.run_framed.Framed.{FramedGiven, framed_context, framed_step}
use Rattle.pass_proofs.specs.run_laws.changed.Changed.{Each}
use Rattle.pass_proofs.specs.run_laws.memory.Pointers.{IsValue}
use Rattle.pass_proofs.specs.run_memory.declared.pointer.Value.{Value}
use Rattle.run_access_worked.specs.run_plain.Plain.{PlainGiven, plain_context, plain_go_to, plain_step, plain_work}
use Rattle.run_access_worked.specs.run_plain.declared.state.PlainState.{PlainState}
use Rattle.pass_proofs.specs.run_source.State.{function_of, work_of}
use Rattle.pass_proofs.specs.run_source.declared.state.State.{State}
use Rattle.pass_proofs.specs.run_step.Step.{AtTerm, GoTo, Stuck, action_of, branch, fetch, label_of, phi_values, switch, target_of, with_all}
use Rattle.pass_proofs.specs.run_step.Values.{arg_value, operand_value}

-- a step that isn't undefined isn't stuck
pub stuck_not : (g : FramedGiven) (s : State) (term : Terminator) (c : Cause) → s.outcome ≡ Outcome.Running
    → IsFine (framed_step g s).outcome → fetch (function_of g.given s) s.top.block s.top.at ≡ AtTerm term
    → action_of (framed_context g s) (work_of s) (AtTerm term) ≡ Stuck c → ⊥
stuck_not g s term c runs fine there does
    = subst (λ (x : State). IsFine x.outcome) (framed_does g s (AtTerm term) (Stuck c) runs there refl does) fine

module _ (g : FramedGiven) (h : PlainGiven) (s : State) (t : PlainState) (r : AreRelated g h s t) (term : Terminator)
    (runs : s.outcome ≡ Outcome.Running) (fine : IsFine (framed_step g s).outcome) (k : IsAtTerm g h s t r term) where
  abbrev f : Function
  f = function_of g.given s

  abbrev q : Function
  q = function_at h.code t.top.func

  abbrev shape : Shape
  shape = r.top.shape

  pub code : (fetch q t.top.block t.top.at ≡ AtTerm (redirected_term shape term)) × ((label : ℕ)
      → IsListed label (targets term) → Leads shape r.top.part f q s.top.block t.top.block label)
  code = end_of f q shape r.top.part s.top.block s.top.at t.top.block t.top.at term r.top.coded k.place k.there

  -- an edge that both runs take
  module _ (label : ℕ) (listed : IsListed label (targets term))
      (ours : action_of (framed_context g s) (work_of s) (AtTerm term) ≡ GoTo label)
      (theirs : action_of (plain_context h t) (plain_work t) (AtTerm (redirected_term shape term)) ≡ GoTo
      (redirected shape label)) where
    abbrev mark : ℕ
    mark = position_of q (done_label shape)

    goes : plain_step h t ≡ plain_go_to h t (redirected shape label)
    goes = plain_does h t (AtTerm (redirected_term shape term)) (GoTo (redirected shape label)) (r.outcome ∙ runs)
        code.0 theirs

    no_phis : JumpsOn q mark label → plain_go_to h t (done_label shape) ≡ stands_at t mark 0 (plain_work t)
    no_phis jumps = ap (λ (ps : List Phi). stands_at t mark 0 (record {
      world = t.world;
      values = with_all t.top.values (phi_values h.code t.top.values (label_of (slice_get q.blocks t.top.block)) ps);
    })) jumps.bare

    by : Leads shape r.top.part f q s.top.block t.top.block label → IsFollowed g h s t
    by (Straight same enters) = straight_followed g h s t r runs term label k.there ours fine k.settled
        (k.phis label listed) enters (goes ∙ ap (plain_go_to h t) same)
    by (ThroughDone e through jumps enters) = through_followed g h s t r runs term label k.there ours fine k.settled
        (k.phis label listed) mark jumps enters
        (end_begins f q shape r.top.part s.top.block s.top.at term label r.top.coded k.there listed e)
        (goes ∙ ap (plain_go_to h t) through ∙ no_phis jumps)

    pub edge_followed : IsFollowed g h s t
    edge_followed = by (code.1 label listed)

module _ (g : FramedGiven) (h : PlainGiven) (s : State) (t : PlainState) (r : AreRelated g h s t)
    (runs : s.outcome ≡ Outcome.Running) (fine : IsFine (framed_step g s).outcome) where
  -- the word that the framed run reads is the part's too
  same_word : (v u : Value) (w : Word) → IsValue (homes_of s.world.memory) v u → v ≡ Value.Int w → u ≡ Value.Int w
  same_word v u w stands e = subst (λ (x : Value). IsValue (homes_of s.world.memory) x u) e stands

  -- ---- a branch

  module _ (x : Operand) (a b : ℕ) (k : IsAtTerm g h s t r (Terminator.Branch x a b)) where
    abbrev ours : Value
    ours = operand_value g.given.code s.top.values (int 1) x

    abbrev theirs : Value
    theirs = operand_value h.code t.top.values (int 1) x

    stands : IsValue (homes_of s.world.memory) ours theirs
    stands = operand_stands g.given.code h.code (function_of g.given s) (length s.world.memory) s.top.values
        t.top.values r.globals r.top.values x k.readable.0 (int 1)

    on : (v : Value) → ours ≡ v → IsFollowed g h s t
    on Value.Poison e = absurd (stuck_not g s (Terminator.Branch x a b) Cause.Poison runs fine k.there
        (ap (λ (v : Value). branch v a b) e))
    on (Value.Ptr p) e = absurd (stuck_not g s (Terminator.Branch x a b) Cause.Poison runs fine k.there
        (ap (λ (v : Value). branch v a b) e))
    on (Value.Int w) e = edge_followed g h s t r (Terminator.Branch x a b) runs fine k
        (if w.bits == 1 then a else b) (one_listed (w.bits == 1) a b) (ap (λ (v : Value). branch v a b) e)
        (ap (λ (v : Value). branch v (redirected r.top.shape a) (redirected r.top.shape b))
        (same_word ours theirs w stands e) ∙ ap (λ (l : ℕ). GoTo l) (chosen_through r.top.shape (w.bits == 1) a b))

    pub branch_followed : IsFollowed g h s t
    branch_followed = on ours refl

  -- ---- a switch

  module _ (arg : Arg) (default : ℕ) (cases : List Case)
      (k : IsAtTerm g h s t r (Terminator.Switch arg default cases)) where
    abbrev chosen : Value
    chosen = arg_value g.given.code s.top.values arg

    abbrev chosen_too : Value
    chosen_too = arg_value h.code t.top.values arg

    stand : IsValue (homes_of s.world.memory) chosen chosen_too
    stand = operand_stands g.given.code h.code (function_of g.given s) (length s.world.memory) s.top.values
        t.top.values r.globals r.top.values arg.value k.readable.0 arg.ty

    all_same : (cs : List Case) → Each (IsReadable g.given.code h.code (function_of g.given s))
        (map (λ c. c.arg.value) cs) → AreSameCases g.given.code h.code cs
    all_same [] e = tt
    all_same (c ∷ cs) e = (
      same_nowhere g.given.code h.code (function_of g.given s) (length s.world.memory) s.top.values t.top.values
          r.globals r.top.values c.arg.value e.0 c.arg.ty,
      all_same cs e.1,
    )

    by_value : (v : Value) → chosen ≡ v → IsFollowed g h s t
    by_value Value.Poison e = absurd (stuck_not g s (Terminator.Switch arg default cases) Cause.Poison runs fine k.there
        (ap (λ (v : Value). switch g.given.code v default cases) e))
    by_value (Value.Ptr p) e = absurd (stuck_not g s (Terminator.Switch arg default cases) Cause.Poison runs fine k.there
        (ap (λ (v : Value). switch g.given.code v default cases) e))
    by_value (Value.Int w) e = edge_followed g h s t r (Terminator.Switch arg default cases) runs fine k
        (target_of g.given.code w default cases) (target_listed g.given.code w default cases)
        (ap (λ (v : Value). switch g.given.code v default cases) e)
        (ap (λ (v : Value). switch h.code v (redirected r.top.shape default)
        (map (redirected_case r.top.shape) cases)) (same_word chosen chosen_too w stand e)
        ∙ ap (λ (l : ℕ). GoTo l) (switch_through r.top.shape g.given.code h.code w default cases
        (all_same cases k.readable.1)))

    pub switch_followed : IsFollowed g h s t
    switch_followed = by_value chosen refl

-- by what stands there
pub term_followed : (g : FramedGiven) (h : PlainGiven) (s : State) (t : PlainState) (r : AreRelated g h s t)
    (term : Terminator) → s.outcome ≡ Outcome.Running → IsFine (framed_step g s).outcome → IsAtTerm g h s t r term
    → is_return term ≡ false → IsFollowed g h s t
term_followed g h s t r (Terminator.Jump label) runs fine k e
    = edge_followed g h s t r (Terminator.Jump label) runs fine k label (inl refl) refl refl
term_followed g h s t r (Terminator.Branch x a b) runs fine k e = branch_followed g h s t r runs fine x a b k
term_followed g h s t r (Terminator.Switch arg default cases) runs fine k e
    = switch_followed g h s t r runs fine arg default cases k
term_followed g h s t r (Terminator.Ret value) runs fine k e = absurd (cc)
term_followed g h s t r Terminator.Unreachable runs fine k e
    = absurd (stuck_not g s Terminator.Unreachable Cause.Unreachable runs fine k.there refl)
