-- A terminator whose operands are fetched twice goes to the same label.
use Rattle.std.proofs.Common.{◌≡◌, ℕ, ◌≤◌, List, [], ◌∷◌, length, refl, sym, ap, ◌∙◌, subst, arith}
use Rattle.std.specs.Prelude.{None, Option, Some}
use Rattle.pass_frames_steps.specs.ir_model.Ty.{Ty}
use Rattle.pass_frames_steps.specs.ir_model.declared.instr.Case.{Case}
use Rattle.pass_frames_steps.specs.ir_model.declared.instr.Terminator.{Terminator}
use Rattle.pass_frames_steps.specs.ir_model.declared.operand.Operand.{Operand}
use Rattle.pass_frames_steps.specs.pass_cells.Cells.{fetches_of}
use Rattle.pass_frames_steps.specs.pass_fetch.Fetching.{fetch_of, fetched_arg, fetched_operand, next_after, next_after_all, next_by, operand_by}
use Rattle.pass_frames_steps.specs.pass_fetch.Instrs.{fetched_term, term_operands}
use Rattle.pass_frames_steps.specs.pass_fetch.declared.fetch.Fetch.{Fetch}
use Rattle.pass_frames_steps.proofs.code.Left.{Far, far_named}
use Rattle.pass_frames_steps.proofs.code.Names.{far_left}
use Rattle.pass_frames_steps.proofs.distances.Sums.{value_stays}
use Rattle.pass_frames_steps.proofs.led.Front.{stands}
use Rattle.pass_frames_steps.specs.Code.{address_state, end_term, last_state, load_name, slot_table}
use Rattle.pass_frames_steps.specs.Distances.{IsBelow, SetsFrom}
use Rattle.pass_frames_steps.specs.Edges.{IsAtJump}
use Rattle.pass_frames_steps.specs.Fetched.{AreSeenAs, IsSeenAs, seen_by, seen_of}
use Rattle.pass_frames_steps.specs.Framings.{IsFraming}
use Rattle.pass_frames_steps.specs.Jumps.{EndsAt, MayGo}
use Rattle.pass_frames_steps.specs.Led.{IsTwiceFor, seen_twice, twice_by}
use Rattle.pass_frames_steps.specs.Passes.{block_at}
use Rattle.pass_frames_steps.specs.Places.{Framing, edged, named, plan, unmarked}
use Rattle.pass_frames_steps.specs.Related.{AreBuiltOf, Building}
use Rattle.pass_frames_steps.specs.Stepping.{AreGiven}
use Rattle.pass_frames_steps.specs.pass_renewed_proof.Renewed.{RenewedGiven}
use Rattle.pass_frames_steps.specs.run_framed.Framed.{frame_rights, framed_context}
use Rattle.pass_frames_steps.proofs.run_laws.memory.Itself.{owner_rights_fit}
use Rattle.pass_frames_steps.proofs.run_laws.transfer.Over.{step_over}
use Rattle.pass_frames_steps.specs.run_laws.changed.Changed.{Each}
use Rattle.pass_frames_steps.specs.run_laws.memory.Pointers.{Home, IsValue}
use Rattle.pass_frames_steps.specs.run_laws.transfer.Shapes.{Branch, CaseStays, Empty, Jump, Pair, Pairwise, Switch, TermStays}
use Rattle.pass_frames_steps.specs.run_laws.transfer.Transfer.{AreJoined, AreOver, GoesOver, IsTransferred, StandsFor, looks_at, same_maps}
use Rattle.pass_frames_steps.proofs.run_access_worked.run_laws_worked.Frames.{frame_rights_fit}
use Rattle.pass_frames_steps.specs.run_memory.Memory.{owner_rights}
use Rattle.pass_frames_steps.specs.run_memory.declared.pointer.Value.{Value}
use Rattle.pass_frames_steps.specs.run_source.Source.{context_of}
use Rattle.pass_frames_steps.specs.run_source.State.{work_of}
use Rattle.pass_frames_steps.specs.run_source.declared.state.State.{State}
use Rattle.pass_frames_steps.specs.run_step.Step.{Action, AtTerm, Context, GoTo, Work, term_action, value_at}
use Rattle.pass_frames_steps.specs.run_step.declared.world.World.{World}

cases_itself : (cases : List Case) → Pairwise (CaseStays (λ n. n)) cases cases
cases_itself [] = Empty
cases_itself (k ∷ cases) = Pair k k cases cases (record { arg = refl; target = refl }) (cases_itself cases)

module _ (t u : List (Option Fetch)) (given reached : ℕ → Value) (d : Context) (first far : ℕ)
    (new : (k : ℕ) → first ≤ k → fetch_of u (Operand.Local k) ≡ None) (y one two three z : Work)
    (along : SetsFrom first y one) (along_three : SetsFrom first y three) (on : SetsFrom far two three) (n m : ℕ)
    (low : first ≤ n) where
  -- what is seen of an operand behind both
  pub one_at_end : (a : Operand) (ty : Ty) → IsBelow first a → next_after t n a ≤ far
      → IsSeenAs t given d one two a (fetched_operand t n a)
      → IsSeenAs u reached d three z (fetched_operand t n a) (fetched_operand u m (fetched_operand t n a))
      → value_at d z ty (fetched_operand u m (fetched_operand t n a)) ≡ seen_twice t u given reached d y ty a
  one_at_end a ty below fit seen more = more ty ∙ by (fetch_of t a) fit (seen ty)
    where
      later : (o : Option Fetch) → seen_by reached d three ty a o ≡ seen_by reached d y ty a o
      later None = value_stays d first y three ty a along_three below
      later (Some f) = refl

      by : (o : Option Fetch) → next_by n o ≤ far → value_at d two ty (operand_by n o a) ≡ seen_by given d one ty a o
          → seen_of u reached d three ty (operand_by n o a) ≡ twice_by u given reached d y ty a o
      by None fit e = later (fetch_of u a)
      by (Some f) fit e =
          ap (seen_by reached d three ty (Operand.Local n)) (new n low) ∙ on.others n (omega (arith, fit)) ∙ e

  -- of all of a terminator that goes on, which has the same shape then
  shape_at_end : (R : Operand → Operand → Type 0) (homes : List Home) (c : Context) (w : Work) (label : ℕ)
      → ((a b : Operand) → IsTwiceFor homes t u given reached c d w y a
      → ((ty : Ty) → value_at d z ty b ≡ seen_twice t u given reached d y ty a) → R a b)
      → (e : Terminator) → term_action c w e ≡ GoTo label → Each (IsBelow first) (term_operands e)
      → next_after_all t n (term_operands e) ≤ far → Each (IsTwiceFor homes t u given reached c d w y)
      (term_operands e)
      → AreSeenAs t given d one two n (term_operands e)
      → AreSeenAs u reached d three z m (term_operands (fetched_term t n e))
      → TermStays R (λ k. k) e (fetched_term u m (fetched_term t n e))
  shape_at_end R homes c w label turns (Terminator.Jump l) does below fit h seen more = Jump l
  shape_at_end R homes c w label turns (Terminator.Branch x a b) does below fit h seen more =
      Branch x (fetched_operand u m (fetched_operand t n x)) a b
      (turns x (fetched_operand u m (fetched_operand t n x)) h.0
      (λ ty. one_at_end x ty below.0 fit seen.0 more.0))
  shape_at_end R homes c w label turns (Terminator.Switch arg default cases) does below fit h seen more =
      Switch arg (fetched_arg u m (fetched_arg t n arg)) default cases cases (record {
        ty = refl;
        value = turns arg.value (fetched_operand u m (fetched_operand t n arg.value)) h.0
            (λ ty. one_at_end arg.value ty below.0 fit seen.0 more.0);
      }) (cases_itself cases)
  shape_at_end R homes c w label turns (Terminator.Ret None) does below fit h seen more = absurd (cc)
  shape_at_end R homes c w label turns (Terminator.Ret (Some arg)) does below fit h seen more = absurd (cc)
  shape_at_end R homes c w label turns Terminator.Unreachable does below fit h seen more = absurd (cc)

module _ (b : Building) (g : RenewedGiven) (given : AreGiven b g) (s t : State) (r : AreBuiltOf b s t) (e : Terminator)
    (label : ℕ) (h : IsAtJump b g s e label) (here reached : ℕ → Value) (q : MayGo b g s t r e here reached)
    (run : EndsAt (b.framing s.top.func) here reached (framed_context b.given t) s.top.block (work_of t)) where
  abbrev x : Framing
  x = b.framing s.top.func

  abbrev T : List (Option Fetch)
  T = fetches_of (plan x)

  abbrev U : List (Option Fetch)
  U = slot_table x

  abbrev c : Context
  c = context_of g.given s

  abbrev d : Context
  d = framed_context b.given t

  abbrev n : ℕ
  n = load_name (last_state x s.top.block)

  abbrev m : ℕ
  m = (address_state (last_state x s.top.block)).0

  is : IsFraming x
  is = given.framings s.top.func h.coroutine

  abbrev here_term : Terminator
  here_term = fetched_term U m (fetched_term T n e)

  abbrev R : Operand → Operand → Type 0
  R = StandsFor (looks_at (AtTerm e)) (IsValue r.homes) c d s.top.values run.work.values

  shape : TermStays R (λ k. k) e here_term
  shape =
      shape_at_end T U here reached d (length (named x).names) (length (unmarked x).names)
      (λ k le. let a : Far x is ≤ length (named x).names = far_named x is in
      (far_left x is k (omega (arith, a, le))).0) (work_of t) run.first run.loaded run.third run.work run.along_first
      run.along_third run.on_third n m q.low R r.homes c (work_of s) label
      (stands T U here reached r.homes c d (work_of s) (work_of t) (looks_at
      (AtTerm e)) run.work) e h.does q.below q.fit
      q.seen (subst (λ (k : Terminator). AreSeenAs T here d run.first run.loaded n (term_operands k)) q.term
      run.end_loaded)
      (subst (λ (k : Terminator). AreSeenAs U reached d run.third run.work m (term_operands k)) q.between
      run.end_reached)

  joined : AreJoined r.homes r.hides same_maps c d (work_of s) run.work
  joined = record {
    over = subst (λ (k : World). AreOver owner_rights (frame_rights b.given t.instances) r.homes r.hides
        (λ k. k) s.world k)
        (sym run.along.world) r.world;
    hidden = r.hidden;
    answers = given.answers;
    room = let a = q.room in let z = run.along.room in omega (arith, a, z);
  }

  transferred : IsTransferred (IsValue r.homes) same_maps c d s.top.values run.work.values (AtTerm e)
      (AtTerm here_term)
  transferred = record {
    shape = shape;
    callee = tt;
    pointed = tt;
    distance = tt;
    cases = q.cases;
    no_slot = tt;
    bytes = tt;
  }

  goes : term_action d run.work here_term ≡ GoTo label
  goes =
      subst
      (λ (act : Action). GoesOver owner_rights (frame_rights b.given t.instances) r.homes r.hides same_maps None [] []
      (work_of s) run.work act (term_action d run.work here_term)) h.does
      (step_over r.homes r.hides same_maps c d (work_of s) run.work (AtTerm e) (AtTerm here_term) owner_rights_fit
      (frame_rights_fit b.given t.instances) joined transferred)

  pub goes_there : term_action d run.work
      (end_term x (last_state x s.top.block) (block_at (edged x) s.top.block).term) ≡ GoTo label
  goes_there =
      ap (λ (k : Terminator). term_action d run.work (end_term x (last_state x s.top.block) k)) q.term ∙ goes
