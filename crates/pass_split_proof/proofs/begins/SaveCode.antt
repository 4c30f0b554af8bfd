-- What stands in a part at a begin or a save, up to the mark behind it.
use Rattle.std.proofs.Common.{◌≡◌, ℕ, ◌+◌, ◌<◌, ◌≤◌, ◌^◌, ⊎_elim, true, false, List, [], length, Option, Some, refl, sym, ap, ◌∙◌, subst, arith}
use Rattle.std.proofs.lemmas.Bool.{false≢true}
use Rattle.std.proofs.lemmas.Option.{slice_get_within}
use Rattle.std.specs.Prelude.{slice_get}
use Rattle.pass_proofs.specs.ir_model.Names.{position_of}
use Rattle.pass_proofs.specs.ir_model.TypeView.{bits_of}
use Rattle.pass_proofs.specs.ir_model.declared.instr.Instr.{Instr}
use Rattle.pass_proofs.specs.ir_model.declared.instr.Terminator.{Terminator}
use Rattle.pass_proofs.specs.ir_model.declared.ir_type.IntWidth.{IntWidth}
use Rattle.pass_proofs.specs.ir_model.declared.module.Function.{Function}
use Rattle.pass_proofs.specs.ir_model.declared.operand.Callee.{Callee}
use Rattle.pass_proofs.specs.ir_model.declared.operand.Intrinsic.{Intrinsic}
use Rattle.pass_proofs.specs.ir_paths.Windows.{call_result, suspend_of}
use Rattle.pass_proofs.specs.ir_paths.declared.point.Point.{Point}
use Rattle.pass_proofs.specs.pass_intrinsics.Cuts.{cut_at, marks_save}
use Rattle.pass_proofs.specs.pass_intrinsics.Lowered.{lowered, names_taken, number_of_save, save_or_none, save_stores}
use Rattle.pass_proofs.specs.pass_intrinsics.Shapes.{saved_label, suspends_of}
use Rattle.pass_proofs.specs.pass_intrinsics.declared.cuts.Cut.{Cut}
use Rattle.pass_proofs.specs.pass_intrinsics.declared.shape.Part.{Part}
use Rattle.pass_proofs.specs.pass_intrinsics.declared.shape.Shape.{Shape}
use Rattle.pass_proofs.specs.pass_split.Pieces.{begins_again}
use Rattle.pass_split_proof.proofs.code.Dispatch.{wide}
use Rattle.pass_split_proof.proofs.code.Numbers.{by_save}
use Rattle.pass_split_proof.proofs.places.Coded.{has_code}
use Rattle.pass_split_proof.proofs.steps.Dispatched.{width_is_one}
use Rattle.pass_split_proof.specs.begins.Saving.{IsAtSave}
use Rattle.pass_split_proof.specs.code.Numbers.{IsNumbered}
use Rattle.pass_split_proof.specs.places.Places.{AreNew, BeginsAgain, HasCode, IsCode, IsCodeOf, IsPlace, Marks, OfCoroutine, OfPlain, Remain, Returns, Stays, Suspends, Transfers}
use Rattle.pass_split_proof.specs.states.Activations.{IsShapeOf}
use Rattle.pass_split_proof.specs.states.Instances.{address_of_part, shape_at}
use Rattle.pass_split_proof.specs.states.Related.{AreRelated}
use Rattle.pass_split_proof.specs.steps.Saves.{HasSaveCode}
use Rattle.pass_proofs.specs.run_framed.Framed.{FramedGiven}
use Rattle.run_access_worked.specs.run_plain.Plain.{PlainGiven, plain_function}
use Rattle.run_access_worked.specs.run_plain.declared.state.PlainState.{PlainState}
use Rattle.pass_proofs.specs.run_source.State.{function_of}
use Rattle.pass_proofs.specs.run_source.declared.state.State.{State}
use Rattle.pass_proofs.specs.run_step.Step.{AtInstr, fetch, phis_of}
use Rattle.pass_proofs.specs.run_step.Values.{address_of}

-- ---- a line up to a mark

-- what is lowered stands there, and then the jump to a mark, where the place behind the instruction is
pub record IsMarked (s : Shape) (part : Part) (f q : Function) (block at piece offset : ℕ) (i : Instr) : Type 0 where
  pub name : ℕ
  pub mark : ℕ
  pub new : AreNew f q name (names_taken i)
  pub stands : Remain q piece offset (lowered s part name i) (Terminator.Jump mark)
  pub bare : phis_of (slice_get q.blocks (position_of q mark)) ≡ []
  pub place : IsPlace s part f q block (at + 1) (position_of q mark) 0

module _ (s : Shape) (part : Part) (f q : Function) (block at piece offset : ℕ) (i : Instr) (to : ℕ)
    (goes : begins_again part i ≡ false) where
  by_code : (after : List Instr) (t : Terminator) → cut_at s part i after ≡ Cut.Marks to
      → IsCode s part f q block at piece offset i after t → IsMarked s part f q block at piece offset i
  by_code after t is (Marks n mark again cuts new stands bare place)
      = record { name = n; mark = mark; new = new; stands = stands; bare = bare; place = place }
  by_code after t is (Stays n again cuts new line place) = absurd (other (sym is ∙ cuts))
    where
      other : Cut.Marks to ≡ Cut.Stays → ⊥
      other e = cc
  by_code after t is (Suspends again cuts jump) = absurd (other (sym is ∙ cuts))
    where
      other : Cut.Marks to ≡ Cut.Suspends → ⊥
      other e = cc
  by_code after t is (Returns again cuts ret) = absurd (other (sym is ∙ cuts))
    where
      other : Cut.Marks to ≡ Cut.Returns → ⊥
      other e = cc
  by_code after t is (Transfers n j again cuts new jump bare line) = absurd (other (sym is ∙ cuts))
    where
      other : Cut.Marks to ≡ Cut.Transfers j → ⊥
      other e = cc
  by_code after t is (BeginsAgain again stops) = absurd (false≢true (sym goes ∙ again))

  pub marked : ((after : List Instr) → cut_at s part i after ≡ Cut.Marks to)
      → IsPlace s part f q block at piece offset → fetch f block at ≡ AtInstr i
      → IsMarked s part f q block at piece offset i
  marked cuts place there = let c : HasCode s part f q block at piece offset i = has_code s part f q block at piece
      offset i place there in by_code c.after c.end (cuts c.after) c.code

-- ---- numbers of suspends

-- the number of the suspend of a save, as code has it
pub save_number : (f q : Function) (s : Shape) (part : Part) (r block at : ℕ) (i : Instr) (p : Point)
    → IsCodeOf f q s part → f.coroutine ≡ true → fetch f block at ≡ AtInstr i → call_result i ≡ Some r
    → suspend_of f (record { block = block; at = at }) ≡ Some p
    → (j : ℕ) × ((number_of_save s (Some r) ≡ Some j) × IsNumbered f p j)
save_number f q _ _ r block at i p (OfCoroutine m k layout begin part x is) c there e found
    = by_save m k f begin x layout r block at i p there e found
save_number f q _ _ r block at i p (OfPlain m k plain rules same) c there e found
    = absurd (false≢true (sym plain ∙ c))

-- the shape of a coroutine is that of its layout
pub shape_is : (g : FramedGiven) (func : ℕ) (f : Function) (s : Shape) → IsShapeOf g func f s → f.coroutine ≡ true
    → s ≡ shape_at g func
shape_is g func f s shaped c = ⊎_elim (λ p. p.1) (λ p. absurd (false≢true (sym p.0 ∙ c))) shaped

-- ---- the code of a save

module _ (g : FramedGiven) (h : PlainGiven) (s : State) (t : PlainState) (r : AreRelated g h s t)
    (k : IsAtSave g h s t r) (j : ℕ) (is_number : number_of_save r.top.shape (Some k.result) ≡ Some j)
    (p : Point) (numbered : IsNumbered (function_of g.given s) p j) where
  abbrev f : Function
  f = function_of g.given s

  abbrev q : Function
  q = plain_function h t

  abbrev pub save_here : Instr
  save_here = Instr.Call (Some k.result) k.must_tail k.ty (Callee.Intrinsic Intrinsic.CoroSave) k.args

  pub same_shape : r.top.shape ≡ shape_at g s.top.func
  same_shape = shape_is g s.top.func f r.top.shape r.top.shaped k.coroutine

  not_again : (part : Part) → begins_again part save_here ≡ false
  not_again Part.Ramp = refl
  not_again Part.GivenRamp = refl
  not_again Part.Resume = refl
  not_again Part.Destroy = refl
  not_again Part.Cleanup = refl

  code : IsMarked r.top.shape r.top.part f q s.top.block s.top.at t.top.block t.top.at save_here
  code = marked r.top.shape r.top.part f q s.top.block s.top.at t.top.block t.top.at save_here
      (saved_label r.top.shape j) (not_again r.top.part) (λ after. ap (marks_save r.top.shape) is_number) k.place k.there

  low : j < 2 ^ bits_of (shape_at g s.top.func).width
  low = below j (length (suspends_of f)) (2 ^ bits_of (shape_at g s.top.func).width)
      (slice_get_within (suspends_of f) j numbered.suspend numbered.stands)
      (wide (length (suspends_of f)) (subst (λ (z : Shape). length z.suspends ≤ 65536) same_shape k.small.suspends))
    where
      below : (j n w : ℕ) → j < n → n ≤ w → j < w
      below j n w lt le = omega arith

  pub save_code : HasSaveCode g h s t r j
  save_code = record {
    same = same_shape;
    name = code.name;
    new = subst (λ (n : ℕ). n ≤ code.name) (sym r.top.whole) code.new.low;
    room = more code.name (length q.names) (length t.top.values) code.new.high (sym r.top.room);
    begin = subst (λ (n : ℕ). (shape_at g s.top.func).begin < n) (sym r.top.whole)
        (subst (λ (z : Shape). z.begin < length f.names) same_shape k.begin);
    mark = code.mark;
    stands = subst (λ (z : Shape). Remain q t.top.block t.top.at (save_stores z code.name j) (Terminator.Jump code.mark))
        same_shape (subst (λ (o : Option ℕ). Remain q t.top.block t.top.at (save_or_none r.top.shape code.name o)
        (Terminator.Jump code.mark)) is_number code.stands);
    bare = code.bare;
    place = code.place;
    width = width_is_one (length (suspends_of f));
    byte = λ e. subst (λ (w : IntWidth). j < 2 ^ bits_of w) e low;
    word = λ e. subst (λ (w : IntWidth). j < 2 ^ bits_of w) e low;
    named = subst (λ (z : Shape). address_of h.code z.resume_name ≡ address_of_part g s.top.func Part.Resume) same_shape
        k.named;
  }
    where
      more : (n a b : ℕ) → n + 1 ≤ a → a ≡ b → n < b
      more n a b le e = omega (arith, le, e)
