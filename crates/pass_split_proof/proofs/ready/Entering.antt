-- Activations that go on behind a suspend are ready in the parts.
use Rattle.std.proofs.Common.{◌≡◌, ◌<◌, ℕ, ◌+◌, Bool, true, false, List, length, refl, sym, ap, ◌∙◌, subst}
use Rattle.std.proofs.lemmas.Bool.{false≢true}
use Rattle.std.specs.Prelude.{ℤ, None, Option, Some, slice_get, unwrap_or}
use Rattle.pass_proofs.specs.flow_solver.Paths.{IsListed}
use Rattle.pass_proofs.specs.frame_layout.declared.layout.Layouts.{Layouts}
use Rattle.pass_proofs.proofs.ir_laws.paths.edges.Lists.{listed_at}
use Rattle.pass_proofs.specs.ir_model.Names.{function_at, no_function}
use Rattle.pass_proofs.specs.ir_model.declared.module.Function.{Function}
use Rattle.pass_proofs.specs.ir_model.declared.module.Module.{Module}
use Rattle.pass_proofs.specs.pass_front.Front.{allocas_of}
use Rattle.pass_proofs.specs.pass_intrinsics.Cuts.{goes_on}
use Rattle.pass_proofs.specs.pass_intrinsics.Shapes.{suspends_of}
use Rattle.pass_proofs.specs.pass_intrinsics.declared.shape.Part.{Part}
use Rattle.pass_proofs.specs.pass_intrinsics.declared.shape.Shape.{Shape}
use Rattle.pass_proofs.specs.pass_intrinsics.declared.shape.SuspendPoint.{SuspendPoint}
use Rattle.pass_proofs.specs.pass_split.Given.{has_given_call}
use Rattle.pass_proofs.specs.pass_split.Pieces.{going_on}
use Rattle.pass_split_proof.proofs.code.Entries.{later_entry}
use Rattle.pass_split_proof.proofs.places.Transfers.{end_first}
use Rattle.pass_split_proof.proofs.ready.Blocks.{is_alloca}
use Rattle.pass_split_proof.proofs.ready.Coroutine.{laid_out}
use Rattle.pass_split_proof.proofs.ready.Intrinsics.{coroutine_shape}
use Rattle.pass_split_proof.proofs.ready.Next.{no_cleanup}
use Rattle.pass_split_proof.proofs.ready.Parts.{part_goes_on}
use Rattle.pass_split_proof.specs.code.Entry.{HasEntry, HasFrontAllocas, IsAllocaAt}
use Rattle.pass_split_proof.specs.code.Positions.{is_given, moved, number_of}
use Rattle.pass_split_proof.specs.entering.Entering.{GoesBehind, IsMakingAgain}
use Rattle.pass_split_proof.specs.first_exits.Parted.{parted_module}
use Rattle.pass_split_proof.specs.places.Places.{IsCodeOf, OfCoroutine, OfPlain}
use Rattle.pass_split_proof.specs.ready.Module.{IsFollowableIn}
use Rattle.pass_split_proof.specs.simulation.Statement.{parts_given}
use Rattle.pass_split_proof.specs.states.Activations.{RunsPart}
use Rattle.pass_split_proof.specs.states.Related.{AreRelated}
use Rattle.pass_split_proof.specs.steps.Returns.{IsReturnBlock}
use Rattle.pass_proofs.specs.run_framed.Framed.{framed_given, layout_of}
use Rattle.run_access_worked.specs.run_plain.declared.state.PlainState.{PlainState}
use Rattle.pass_proofs.specs.run_source.declared.state.Mode.{Mode}
use Rattle.pass_proofs.specs.run_source.declared.state.State.{State}
use Rattle.pass_proofs.specs.run_step.Step.{fetch}
use Rattle.pass_proofs.specs.rule_names.declared.stage.Stage.{Stage}

-- ---- of a function and a part that goes on

pub coded_entry : (f q : Function) (s : Shape) (part : Part) → IsCodeOf f q s part → goes_on part ≡ true
    → HasEntry s part f q
coded_entry f q _ _ (OfCoroutine m k layout begin part x is) goes = later_entry m k f q begin layout part x is goes
coded_entry f q _ _ (OfPlain m k plain rules same) goes = absurd (false≢true goes)

pub coded_coroutine : (f q : Function) (s : Shape) (part : Part) → IsCodeOf f q s part → goes_on part ≡ true
    → f.coroutine ≡ true
coded_coroutine f q _ _ (OfCoroutine m k layout begin part x is) goes = x.coroutine
coded_coroutine f q _ _ (OfPlain m k plain rules same) goes = absurd (false≢true goes)

-- a coroutine is a function of the module
pub coroutine_there : (m : Module) (k : ℕ) → (function_at m k).coroutine ≡ true
    → slice_get m.functions k ≡ Some (function_at m k)
coroutine_there m k c = on (slice_get m.functions k) refl c
  where
    on : (o : Option Function) → slice_get m.functions k ≡ o → (unwrap_or o no_function).coroutine ≡ true
        → slice_get m.functions k ≡ Some (unwrap_or o no_function)
    on None e d = absurd (false≢true d)
    on (Some f) e d = e

-- the block at which a part goes on
own_label_on : (f : Function) → ((p : SuspendPoint) → IsListed p (suspends_of f)
    → IsReturnBlock f p.resume × IsReturnBlock f p.destroy) → (part : Part) (p : SuspendPoint) (label : ℕ)
    → IsListed p (suspends_of f) → going_on part (Some p) ≡ Some label → IsReturnBlock f label
own_label_on f h Part.Resume p label l e =
    let same : p.resume ≡ label = cc in subst (IsReturnBlock f) same (h p l).0
own_label_on f h Part.Destroy p label l e =
    let same : p.destroy ≡ label = cc in subst (IsReturnBlock f) same (h p l).1
own_label_on f h Part.Cleanup p label l e =
    let same : p.destroy ≡ label = cc in subst (IsReturnBlock f) same (h p l).1
own_label_on f h Part.Ramp p label l e = absurd (cc)
own_label_on f h Part.GivenRamp p label l e = absurd (cc)

-- a part that goes on stands there: where no call gives a frame none is for given frames
pub part_is_there : {stage : Stage} {ruler : Module} (ls : Layouts) (m : Module)
    → IsFollowableIn stage ruler ls m → (k : ℕ) (part : Part) (s : Shape)
    → slice_get m.functions k ≡ Some (function_at m k) → (function_at m k).coroutine ≡ true → goes_on part ≡ true
    → IsCodeOf (function_at m k) (function_at (parted_module ls m)
    (moved ls.coroutines m m.functions k + number_of part))
    s part → is_given part ≡ true → has_given_call m (function_at m k) ≡ true
part_is_there ls m w k Part.Cleanup s there c goes coded e = on (has_given_call m (function_at m k)) refl
  where
    on : (b : Bool) → has_given_call m (function_at m k) ≡ b → b ≡ true
    on true h = refl
    on false h = absurd (no_cleanup ls m k (function_at m k) there c h
        (w.coroutines k (function_at m k) there c).untaken s coded)
part_is_there ls m w k Part.Ramp s there c goes coded e = absurd (false≢true e)
part_is_there ls m w k Part.Resume s there c goes coded e = absurd (false≢true e)
part_is_there ls m w k Part.Destroy s there c goes coded e = absurd (false≢true e)
part_is_there ls m w k Part.GivenRamp s there c goes coded e = absurd (false≢true goes)

-- ---- at related states

module _ {stage : Stage} {ruler : Module} (ls : Layouts) (m : Module) (w : IsFollowableIn stage ruler ls m)
    (answers : List ℤ) (s : State) (t : PlainState)
    (r : AreRelated (framed_given m ls.coroutines answers) (parts_given ls m answers) s t) (from label : ℕ)
    (mode : s.top.mode ≡ Mode.Entering from label) where
  goes : goes_on r.top.part ≡ true
  goes = subst (λ (x : Mode). RunsPart x r.top.part) mode r.top.runs

  abbrev f : Function
  f = function_at m s.top.func

  c : (function_at m s.top.func).coroutine ≡ true
  c = coded_coroutine (function_at m s.top.func) (function_at (parted_module ls m) t.top.func) r.top.shape r.top.part
      r.top.coded goes

  there : slice_get m.functions s.top.func ≡ Some (function_at m s.top.func)
  there = coroutine_there m s.top.func c

  fronts : HasFrontAllocas (function_at m s.top.func) (function_at (parted_module ls m) t.top.func)
      (length (allocas_of (function_at m s.top.func).blocks))
  fronts = (coded_entry (function_at m s.top.func) (function_at (parted_module ls m) t.top.func) r.top.shape r.top.part
      r.top.coded goes).allocas

  pub making_ready : s.top.block ≡ 0 → t.top.block ≡ 0 → t.top.at ≡ s.top.at
      → s.top.at < length (allocas_of (function_at m s.top.func).blocks)
      → IsMakingAgain (framed_given m ls.coroutines answers) (parts_given ls m answers) s t r from label
  making_ready block piece at among =
      let x : IsAllocaAt (function_at m s.top.func) s.top.at = fronts.each s.top.at among in
      record {
        alloca = is_alloca ls m w answers s t r x.name x.align x.ty
            (ap (λ (b : ℕ). fetch (function_at m s.top.func) b s.top.at) block ∙ x.here);
        mode = mode;
        block = block;
        piece = piece;
        at = at;
        front = fronts;
        among = among;
      }

  pub behind_ready : GoesBehind (framed_given m ls.coroutines answers) (parts_given ls m answers) s t r label
  behind_ready =
      let own = w.partable.coroutines s.top.func (function_at m s.top.func) there c in
      let same = coroutine_shape ls m answers s.top.func r.top.shape r.top.shaped c in
      let y = r.making from label mode in
      let coded = subst (λ (n : ℕ). IsCodeOf (function_at m s.top.func) (function_at (parted_module ls m) n)
      r.top.shape
      r.top.part) r.top.func r.top.coded in
      record {
        part_there = part_goes_on ls m w answers s.top.func there c r.top.part
            (part_is_there ls m w s.top.func r.top.part r.top.shape there c goes coded) goes;
        laid = laid_out ls m s.top.func answers own.laid;
        own = own_label_on (function_at m s.top.func) own.returns r.top.part y.point label
            (listed_at (suspends_of (function_at m s.top.func)) y.number y.point
            (sym (ap (λ (x : Shape). slice_get x.suspends y.number) same) ∙ y.is)) y.leads;
        ends = end_first ruler s.top.func (function_at m s.top.func) own.begin (layout_of ls.coroutines s.top.func)
            own.splittable;
      }
