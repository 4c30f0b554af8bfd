-- A call of an intrinsic that gives a value: where the part stands behind the code for it, and the states there.
use Rattle.std.proofs.Common.{◌≡◌, ℕ, ◌+◌, false, List, ◌∷◌, length, Some, sym, ap, ◌∙◌}
use Rattle.std.proofs.lemmas.Bool.{false≢true}
use Rattle.pass_proofs.specs.ir_model.Names.{function_at}
use Rattle.pass_proofs.specs.ir_model.declared.instr.Instr.{Instr}
use Rattle.pass_proofs.specs.ir_model.declared.instr.Terminator.{Terminator}
use Rattle.pass_proofs.specs.ir_model.declared.module.Function.{Function}
use Rattle.pass_proofs.specs.ir_model.declared.operand.Intrinsic.{Intrinsic}
use Rattle.pass_proofs.specs.pass_intrinsics.Cuts.{cut_at}
use Rattle.pass_proofs.specs.pass_intrinsics.Lowered.{lowered, names_taken}
use Rattle.pass_proofs.specs.pass_intrinsics.declared.cuts.Cut.{Cut}
use Rattle.pass_proofs.specs.pass_intrinsics.declared.shape.Part.{Part}
use Rattle.pass_proofs.specs.pass_intrinsics.declared.shape.Shape.{Shape}
use Rattle.pass_proofs.specs.pass_split.Pieces.{begins_again}
use Rattle.pass_split_proof.proofs.places.Coded.{has_code}
use Rattle.pass_split_proof.proofs.states.Advanced.{frame_on, same_frames}
use Rattle.pass_split_proof.proofs.waking.Cut.{marks_stays, returns_stays, suspends_stays, transfers_stays}
use Rattle.pass_split_proof.specs.asking.Asking.{IsAsking}
use Rattle.pass_split_proof.specs.giving.Intrinsics.{IsAtIntrinsic}
use Rattle.pass_split_proof.specs.places.Places.{AreNew, BeginsAgain, HasCode, IsCode, IsPlace, Marks, Returns, Stays, Suspends, Transfers}
use Rattle.pass_split_proof.specs.states.Activations.{IsPlaced, is_entering}
use Rattle.pass_split_proof.specs.states.Going.{goes_to, moved_to, placed_at, stands_at}
use Rattle.pass_split_proof.specs.states.Memories.{homes_of}
use Rattle.pass_split_proof.specs.states.Related.{AreRelated}
use Rattle.pass_split_proof.specs.states.Values.{AreValuesOf}
use Rattle.pass_proofs.specs.run_framed.Framed.{FramedGiven}
use Rattle.pass_proofs.specs.run_laws.access.Lines.{StandAt}
use Rattle.run_access_worked.specs.run_plain.Plain.{PlainGiven}
use Rattle.run_access_worked.specs.run_plain.declared.state.PlainState.{PlainState}
use Rattle.pass_proofs.specs.run_source.declared.state.State.{State}
use Rattle.pass_proofs.specs.run_step.Step.{AtInstr, fetch}
use Rattle.pass_proofs.specs.run_step.Values.{Env, value_in}

-- ---- code that stays in its block

-- the instructions for one stand at a place, with new names, and the place behind it is behind them
pub record HasStayed (s : Shape) (part : Part) (f q : Function) (block at piece offset : ℕ) (i : Instr) : Type 0 where
  pub name : ℕ
  pub new : AreNew f q name (names_taken i)
  pub stands : StandAt q piece offset (lowered s part name i)
  pub place : IsPlace s part f q block (at + 1) piece (offset + length (lowered s part name i))

module _ (s : Shape) (part : Part) (f q : Function) (block at piece offset : ℕ) (i : Instr)
    (begins : begins_again part i ≡ false) (cut : (after : List Instr) → cut_at s part i after ≡ Cut.Stays) where
  by_code : (after : List Instr) (t : Terminator) → IsCode s part f q block at piece offset i after t
      → HasStayed s part f q block at piece offset i
  by_code after t (Stays n begins' cut' new stand place) =
      record { name = n; new = new; stands = stand; place = place }
  by_code after t (Marks n mark begins' cut' new remain bare place)
      = absurd (marks_stays mark (sym cut' ∙ cut after))
  by_code after t (Suspends begins' cut' jump) = absurd (suspends_stays (sym cut' ∙ cut after))
  by_code after t (Returns begins' cut' ret) = absurd (returns_stays (sym cut' ∙ cut after))
  by_code after t (Transfers n j begins' cut' new jump bare remain) = absurd (transfers_stays j (sym cut' ∙ cut after))
  by_code after t (BeginsAgain begins' jump) = absurd (false≢true (sym begins ∙ begins'))

  pub has_stayed : IsPlace s part f q block at piece offset → fetch f block at ≡ AtInstr i
      → HasStayed s part f q block at piece offset i
  has_stayed place there = let c : HasCode s part f q block at piece offset i = has_code s part f q block at piece
      offset i place there in by_code c.after c.end c.code

-- ---- the states behind it

module _ (g : FramedGiven) (h : PlainGiven) (s : State) (t : PlainState) (r : AreRelated g h s t) where
  -- the call of an intrinsic that gives a value
  abbrev pub asks_at : (x : Intrinsic) → IsAsking g h s t r x → IsAtIntrinsic g h s t r x
  asks_at x k = record {
    settled = k.at.settled;
    place = k.at.place;
    result = k.at.result;
    must_tail = k.at.must_tail;
    ty = k.at.ty;
    args = k.at.arg ∷ k.at.rest;
    there = k.at.there;
    others = k.others;
  }

  pub goes_related : (values other : Env) (piece offset : ℕ) → is_entering s.top.mode ≡ false
      → AreValuesOf (function_at g.given.code s.top.func) (homes_of s.world.memory) values other
      → length values ≡ length s.top.values → length other ≡ length t.top.values
      → ((i : ℕ) → s.top.instance ≡ Some i
      → value_in other r.top.shape.begin ≡ value_in t.top.values r.top.shape.begin)
      → IsPlaced r.top.shape r.top.part (function_at g.given.code s.top.func) (function_at h.code t.top.func)
      (moved_to s.top s.top.block (s.top.at + 1) values s.top.has_left) (placed_at t.top piece offset other) s.top.mode
      → AreRelated g h (goes_to s s.world s.instances s.top.block (s.top.at + 1) values s.top.has_left)
      (stands_at t piece offset (record { world = t.world; values = other }))
  goes_related values other piece offset mode stand whole room begin place = record {
    outcome = r.outcome;
    globals = r.globals;
    world = r.world;
    frames = r.frames;
    top = record {
      shape = r.top.shape;
      part = r.top.part;
      coded = r.top.coded;
      shaped = r.top.shaped;
      runs = r.top.runs;
      func = r.top.func;
      place = place;
      values = stand;
      whole = whole ∙ r.top.whole;
      room = room ∙ r.top.room;
      frame = λ i own. frame_on s.instances s.instances s.top.func i _ _ (same_frames s.instances) (begin i own)
          (r.top.frame i own);
      result = r.top.result;
      slots = r.top.slots;
      own = r.top.own;
    };
    below = r.below;
    making = λ from label e. absurd (false≢true (sym mode ∙ ap is_entering e));
  }
