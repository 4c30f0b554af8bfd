-- An ordinary instruction stands in a part as it does in the framed function, and both runs do it in a step.
use Rattle.std.proofs.Common.{◌≡◌, ℕ, ◌+◌, Bool, true, false, List, [], ◌∷◌, length, Option, refl, sym, ap, ◌∙◌, subst, if◌then◌else◌}
use Rattle.std.proofs.lemmas.Bool.{false≢true}
use Rattle.std.specs.Prelude.{ℤ}
use Rattle.pass_proofs.specs.ir_model.Ty.{Ty}
use Rattle.pass_proofs.specs.ir_model.declared.instr.Instr.{Instr}
use Rattle.pass_proofs.specs.ir_model.declared.instr.Terminator.{Terminator}
use Rattle.pass_proofs.specs.ir_model.declared.module.Function.{Function}
use Rattle.pass_proofs.specs.ir_model.declared.operand.Arg.{Arg}
use Rattle.pass_proofs.specs.ir_model.declared.operand.Callee.{Callee}
use Rattle.pass_proofs.specs.ir_model.declared.operand.Intrinsic.{Intrinsic}
use Rattle.pass_proofs.specs.pass_intrinsics.Cuts.{cut_at, goes_on}
use Rattle.pass_proofs.specs.pass_intrinsics.Lowered.{lowered}
use Rattle.pass_proofs.specs.pass_intrinsics.declared.cuts.Cut.{Cut}
use Rattle.pass_proofs.specs.pass_intrinsics.declared.shape.Part.{Part}
use Rattle.pass_proofs.specs.pass_intrinsics.declared.shape.Shape.{Shape}
use Rattle.pass_split_proof.proofs.places.Coded.{has_code}
use Rattle.pass_split_proof.proofs.steps.Ready.{done}
use Rattle.pass_split_proof.proofs.ready.Begins.{gives_result}
use Rattle.pass_split_proof.proofs.simulation.Knowing.{result_unset}
use Rattle.pass_split_proof.proofs.steps.Settled.{settled_knows, settled_related, settles}
use Rattle.pass_split_proof.specs.simulation.Knowing.{KnowsGiven}
use Rattle.pass_split_proof.specs.states.Instances.{shape_at}
use Rattle.pass_proofs.specs.pass_intrinsics.Shapes.{given_name}
use Rattle.pass_split_proof.specs.places.Places.{BeginsAgain, HasCode, IsCode, IsPlace, Marks, Returns, Stays, Suspends, Transfers}
use Rattle.pass_split_proof.specs.states.Activations.{Inside}
use Rattle.pass_split_proof.specs.states.Related.{AreRelated}
use Rattle.pass_split_proof.specs.steps.Done.{IsDoneToo, theirs}
use Rattle.pass_split_proof.specs.steps.Ordinary.{IsAtOrdinary, StepsBeside, is_ordinary}
use Rattle.pass_split_proof.specs.steps.Ready.{IsReadyInPart}
use Rattle.pass_proofs.specs.pass_split.Pieces.{begins_again, is_begin}
use Rattle.pass_proofs.specs.run_framed.Framed.{FramedGiven, framed_context}
use Rattle.pass_proofs.specs.run_laws.access.Lines.{StandAt}
use Rattle.run_access_worked.specs.run_plain.Plain.{PlainGiven, plain_context, plain_function, plain_step, plain_work}
use Rattle.run_access_worked.specs.run_plain.declared.state.PlainState.{PlainState}
use Rattle.pass_proofs.specs.run_source.State.{function_of, settled, work_of}
use Rattle.pass_proofs.specs.run_source.declared.state.State.{State}
use Rattle.pass_proofs.specs.run_step.Step.{AtInstr, Done, Work, action_of, fetch}

-- ---- ordinary instructions are copied

call_lowered : (s : Shape) (part : Part) (n : ℕ) (x : Intrinsic) (r : Option ℕ) (must_tail : Bool) (ty : Option Ty) (args : List Arg)
    → is_ordinary (Instr.Call r must_tail ty (Callee.Intrinsic x) args) ≡ true
    → lowered s part n (Instr.Call r must_tail ty (Callee.Intrinsic x) args) ≡ Instr.Call r must_tail ty
    (Callee.Intrinsic x) args ∷ []
call_lowered s part n Intrinsic.LifetimeStart r must_tail ty args e = refl
call_lowered s part n Intrinsic.LifetimeEnd r must_tail ty args e = refl
call_lowered s part n Intrinsic.MemcpyI64 r must_tail ty args e = refl
call_lowered s part n Intrinsic.MemcpyI32 r must_tail ty args e = refl
call_lowered s part n _ r must_tail ty args e = absurd (false≢true e)

ordinary_lowered : (s : Shape) (part : Part) (n : ℕ) (i : Instr) → is_ordinary i ≡ true → lowered s part n i ≡ i ∷ []
ordinary_lowered s part n (Instr.Call r must_tail ty (Callee.Intrinsic x) args) e = call_lowered s part n x r must_tail ty args e
ordinary_lowered s part n (Instr.Call r must_tail ty (Callee.Named f) args) e = refl
ordinary_lowered s part n (Instr.Call r must_tail ty (Callee.Allocator a) args) e = refl
ordinary_lowered s part n (Instr.Call r must_tail ty (Callee.Local v) args) e = refl
ordinary_lowered s part n _ e = refl

call_stays : (s : Shape) (part : Part) (x : Intrinsic) (r : Option ℕ) (must_tail : Bool) (ty : Option Ty)
    (args : List Arg) (after : List Instr) → is_ordinary (Instr.Call r must_tail ty (Callee.Intrinsic x) args) ≡ true
    → cut_at s part (Instr.Call r must_tail ty (Callee.Intrinsic x) args) after ≡ Cut.Stays
call_stays s part Intrinsic.LifetimeStart r must_tail ty args after e = refl
call_stays s part Intrinsic.LifetimeEnd r must_tail ty args after e = refl
call_stays s part Intrinsic.MemcpyI64 r must_tail ty args after e = refl
call_stays s part Intrinsic.MemcpyI32 r must_tail ty args after e = refl
call_stays s part _ r must_tail ty args after e = absurd (false≢true e)

ordinary_stays : (s : Shape) (part : Part) (i : Instr) (after : List Instr) → is_ordinary i ≡ true
    → cut_at s part i after ≡ Cut.Stays
ordinary_stays s part (Instr.Call r must_tail ty (Callee.Intrinsic x) args) after e
    = call_stays s part x r must_tail ty args after e
ordinary_stays s part (Instr.Call r must_tail ty (Callee.Named f) args) after e = refl
ordinary_stays s part (Instr.Call r must_tail ty (Callee.Allocator a) args) after e = refl
ordinary_stays s part (Instr.Call r must_tail ty (Callee.Local v) args) after e = refl
ordinary_stays s part _ after e = refl

no_begin : (x : Intrinsic) (r : Option ℕ) (must_tail : Bool) (ty : Option Ty) (args : List Arg)
    → is_ordinary (Instr.Call r must_tail ty (Callee.Intrinsic x) args) ≡ true
    → is_begin (Instr.Call r must_tail ty (Callee.Intrinsic x) args) ≡ false
no_begin Intrinsic.CoroBegin r must_tail ty args e = absurd (false≢true e)
no_begin _ r must_tail ty args e = refl

ordinary_begins_not : (i : Instr) → is_ordinary i ≡ true → is_begin i ≡ false
ordinary_begins_not (Instr.Call r must_tail ty (Callee.Intrinsic x) args) e = no_begin x r must_tail ty args e
ordinary_begins_not (Instr.Call r must_tail ty (Callee.Named f) args) e = refl
ordinary_begins_not (Instr.Call r must_tail ty (Callee.Allocator a) args) e = refl
ordinary_begins_not (Instr.Call r must_tail ty (Callee.Local v) args) e = refl
ordinary_begins_not _ e = refl

ordinary_goes_on : (part : Part) (i : Instr) → is_ordinary i ≡ true → begins_again part i ≡ false
ordinary_goes_on part i e = on (goes_on part)
  where
    on : (t : Bool) → (if t then is_begin i else false) ≡ false
    on true = ordinary_begins_not i e
    on false = refl

-- ---- instructions for which one stands in the part

pub record IsAlone (s : Shape) (part : Part) (i j : Instr) : Type 0 where
  pub begins : begins_again part i ≡ false
  pub cut : (after : List Instr) → cut_at s part i after ≡ Cut.Stays
  pub lowered : (n : ℕ) → lowered s part n i ≡ j ∷ []

-- it stands there, and behind both is a place again
abbrev pub IsCopied : Shape → Part → Function → Function → ℕ → ℕ → ℕ → ℕ → Instr → Type 0
IsCopied s part f q block at piece offset j = (fetch q piece offset ≡ AtInstr j)
    × IsPlace s part f q block (at + 1) piece (offset + 1)

module _ (s : Shape) (part : Part) (f q : Function) (block at piece offset : ℕ) (i j : Instr) (k : IsAlone s part i j)
  where
    code_alone : (after : List Instr) (t : Terminator) → IsCode s part f q block at piece offset i after t
        → IsCopied s part f q block at piece offset j
    code_alone after t (Stays n begins cut new stand place) =
        let is = k.lowered n in (
          (subst (λ (xs : List Instr). StandAt q piece offset xs) is stand).0,
          subst (λ (l : ℕ). IsPlace s part f q block
              (at + 1) piece (offset + l)) (ap length is) place,
        )
    code_alone after t (Marks n mark begins cut new remain bare place) = absurd (stays_not (sym cut ∙ k.cut after))
      where
        stays_not : Cut.Marks mark ≡ Cut.Stays → ⊥
        stays_not e = absurd (cc)
    code_alone after t (Suspends begins cut jump) = absurd (stays_not (sym cut ∙ k.cut after))
      where
        stays_not : Cut.Suspends ≡ Cut.Stays → ⊥
        stays_not e = absurd (cc)
    code_alone after t (Returns begins cut ret) = absurd (stays_not (sym cut ∙ k.cut after))
      where
        stays_not : Cut.Returns ≡ Cut.Stays → ⊥
        stays_not e = absurd (cc)
    code_alone after t (Transfers n j begins cut new jump bare remain) = absurd (stays_not (sym cut ∙ k.cut after))
      where
        stays_not : Cut.Transfers j ≡ Cut.Stays → ⊥
        stays_not e = absurd (cc)
    code_alone after t (BeginsAgain begins jump) = absurd (false≢true (sym k.begins ∙ begins))

    pub alone : IsPlace s part f q block at piece offset → fetch f block at ≡ AtInstr i
        → IsCopied s part f q block at piece offset j
    alone place there = let h : HasCode s part f q block at piece offset i = has_code s part f q block at piece offset i
        place there in code_alone h.after h.end h.code

-- ---- the step

module _ (functions : ℕ → ℕ) (g : FramedGiven) (h : PlainGiven) (s : State) (t : PlainState) (r : AreRelated g h s t)
    (i : Instr) (k : IsAtOrdinary functions g h s t r i) where
  abbrev q : Function
  q = plain_function h t

  code : IsCopied r.top.shape r.top.part (function_of g.given s) q s.top.block s.top.at t.top.block t.top.at i
  code = alone r.top.shape r.top.part (function_of g.given s) q s.top.block s.top.at t.top.block t.top.at i i
      (record {
        begins = ordinary_goes_on r.top.part i k.ordinary;
        cut = λ after. ordinary_stays r.top.shape r.top.part i after k.ordinary;
        lowered
            = λ n. ordinary_lowered r.top.shape r.top.part n i k.ordinary;
      })
      k.place k.there

  module _ (v : Work) (does : action_of (framed_context g s) (work_of s) (AtInstr i) ≡ Done v) where
    -- with the answers of the framed run
    abbrev AnswersGive : List ℤ → Type 0
    AnswersGive answers = IsReadyInPart functions (function_of g.given s) (framed_context g s)
        (theirs h.code answers q) s.top.values t.top.values i
        → IsDoneToo g s.instances (theirs h.code answers q) (work_of s) (plain_work t) (AtInstr i) (AtInstr i) v

    by_same : AnswersGive g.given.answers
    by_same ready = done g s.instances g.given.code h.code g.given.answers (function_of g.given s) q functions
        (work_of s) (plain_work t) r.globals r.top.values i ready r.world v does

    too : IsDoneToo g s.instances (plain_context h t) (work_of s) (plain_work t) (AtInstr i) (AtInstr i) v
    too = subst AnswersGive (sym k.answers) by_same k.ready

    pub steps_beside : StepsBeside g h s t v
    steps_beside = subst (λ (u : PlainState). AreRelated g h (settled s v) u)
        (sym (settles g h s t r (AtInstr i) (AtInstr i) v too k.others k.settled k.running code.0))
        (settled_related g h s t r (AtInstr i) (AtInstr i) v too k.others k.settled
        (Inside s.top.mode k.settled code.1))

    pub steps_know : KnowsGiven g s t → KnowsGiven g (settled s v) (plain_step h t)
    steps_know known = subst (λ (u : PlainState). KnowsGiven g (settled s v) u)
        (sym (settles g h s t r (AtInstr i) (AtInstr i) v too k.others k.settled k.running code.0))
        (settled_knows g h s t r (AtInstr i) (AtInstr i) v too k.others k.settled
        (λ frame e sets. result_unset g h s t r frame e s.top.block s.top.at i k.there
        (given_name (shape_at g s.top.func)) (gives_result i (given_name (shape_at g s.top.func)) sets) refl) known)
