-- What splitting keeps of a run, and what it asks of the module.
use Rattle.std.specs.Prelude.{◌≡◌, ℕ, ℤ, true, false, List, [], slice_get, None, Some, is_some}
use Rattle.pass_proofs.specs.frame_layout.declared.layout.Layouts.{Layouts}
use Rattle.pass_proofs.specs.ir_base.declared.name.Name.{Name}
use Rattle.pass_proofs.specs.ir_base.declared.outcome.Word.{Word}
use Rattle.pass_proofs.specs.flow_solver.Paths.{IsListed}
use Rattle.pass_proofs.specs.ir_laws.facts.sound_states.Named.{AreLocalsNamed}
use Rattle.pass_proofs.specs.rule_laws.rules.function_rules.Kept.{KeepsFunctionRulesAt}
use Rattle.pass_proofs.specs.ir_model.declared.module.Block.{Block}
use Rattle.pass_proofs.specs.ir_model.declared.module.Function.{Function}
use Rattle.pass_proofs.specs.ir_model.declared.module.Module.{Module}
use Rattle.pass_cleanup.specs.Cleaned.{plain_machine}
use Rattle.pass_proofs.specs.pass_intrinsics.Shapes.{suspends_of}
use Rattle.pass_proofs.specs.pass_intrinsics.declared.shape.SuspendPoint.{SuspendPoint}
use Rattle.pass_split_proof.specs.code.Positions.{layout_at, moved}
use Rattle.pass_split_proof.specs.first_exits.Parted.{parted_module}
use Rattle.pass_proofs.specs.split.rules.Splittable.{IsSplittable}
use Rattle.pass_split_proof.specs.states.Instances.{IsLaidOut}
use Rattle.pass_split_proof.specs.states.Memories.{AreContents}
use Rattle.pass_split_proof.specs.states.Related.{AreHeadersKept, AreRelated, Follows, part_price}
use Rattle.pass_split_proof.specs.steps.Returns.{IsReturnBlock}
use Rattle.pass_proofs.specs.rule_names.Known.{knows_name}
use Rattle.pass_proofs.specs.rule_names.declared.stage.Stage.{Stage}
use Rattle.pass_proofs.specs.run_agreement.Costs.{AgreesBy, IsNear}
use Rattle.pass_proofs.specs.run_agreement.Machines.{Machine}
use Rattle.pass_proofs.specs.run_framed.Framed.{FramedGiven, framed_given, given_ramp, layout_of}
use Rattle.run_access_worked.specs.run_plain.Plain.{PlainGiven}
use Rattle.run_access_worked.specs.run_plain.declared.state.PlainState.{PlainState}
use Rattle.pass_proofs.specs.run_source.declared.state.State.{State}
use Rattle.pass_proofs.specs.run_states.moved_states.Beside.{framed_machine}
use Rattle.pass_proofs.specs.run_step.Step.{first_world}

-- ---- what is asked

-- A module by whose rules the functions of another are judged. It has the same types and globals, and further
-- functions are ramps to which calls give frames.
pub record IsRulerOf (r m : Module) : Type 0 where
  pub types : r.types ≡ m.types
  pub globals : r.globals ≡ m.globals
  pub known : (x : Name) → given_ramp m x ≡ None → knows_name r x ≡ true → knows_name m x ≡ true

-- of a coroutine of the module, at a position, by the rules of another
pub record IsCoroutinePartable (r : Module) (ls : Layouts) (m : Module) (k : ℕ) (f : Function) : Type 0 where
  -- the form of frames (`framed_forms_are_kept`), and `exits_keep_splittable`
  pub begin : ℕ
  pub splittable : IsSplittable r k f begin
  -- blocks on edges behind suspends (`returns_have_blocks_of_their_own`), in front of which what crosses is loaded
  pub returns : (p : SuspendPoint) → IsListed p (suspends_of f)
      → IsReturnBlock f p.resume × IsReturnBlock f p.destroy
  -- the first pass writes saves out, and later passes leave suspends as they are
  pub saved : (p : SuspendPoint) → IsListed p (suspends_of f) → is_some p.save ≡ true
  -- layouts of accepted sources are good (`layouts_of_accepted_sources_are_good`)
  pub layout : layout_of ls.coroutines k ≡ layout_at ls.coroutines m.functions k
  pub laid : IsLaidOut (framed_given m ls.coroutines []) k

-- What is asked of the framed module. Rules are those of another, and the allocas of functions that are no coroutines
-- are no larger than a stage allows.
pub record IsPartableIn (stage : Stage) (r : Module) (ls : Layouts) (m : Module) : Type 0 where
  -- readers make no other tables, and each pass keeps them
  pub named : AreLocalsNamed m
  -- rules of functions (`IsReady`)
  pub coroutines : (k : ℕ) (f : Function) → slice_get m.functions k ≡ Some f → f.coroutine ≡ true
      → IsCoroutinePartable r ls m k f
  pub plain : (k : ℕ) (f : Function) → slice_get m.functions k ≡ Some f → f.coroutine ≡ false
      → KeepsFunctionRulesAt stage r k f
  -- readers read no function without a block, and no pass leaves one
  pub blocks : (k : ℕ) (f : Function) → slice_get m.functions k ≡ Some f
      → (b : Block) × (slice_get f.blocks 0 ≡ Some b)
  -- Y1 of globals (their values name no functions), N1 and N3 (no global has the name of a part)
  pub globals : first_world (parted_module ls m) ≡ first_world m
  -- Y4: contents of globals have small sizes, and stand in themselves
  pub contents : AreContents m

-- where no call gives a frame they are its own, by the limits of sources
abbrev pub IsPartable : Layouts → Module → Type 0
IsPartable ls m = IsPartableIn Stage.Source m ls m

-- the function is no coroutine, and the other is what becomes of it
pub record IsEntryOfParts (ls : Layouts) (m : Module) (entry other : ℕ) : Type 0 where
  pub function : Function
  pub there : slice_get m.functions entry ≡ Some function
  pub plain : function.coroutine ≡ false
  pub moves : other ≡ moved ls.coroutines m m.functions entry

-- ---- what is kept

abbrev pub parts_given : Layouts → Module → List ℤ → PlainGiven
parts_given ls m answers = record { code = parted_module ls m; answers = answers }

-- A state of the parts' run stands at most eight steps from a related one, and keeps headers.
pub record IsBetween (g : FramedGiven) (h : PlainGiven) (b : Machine PlainState) (s : State) (t : PlainState)
    : Type 0 where
  pub near : IsNear b 9 (AreRelated g h) s t
  pub headers : AreHeadersKept g s t.world.memory

-- The run of the parts agrees with the framed run: what is related at corresponding steps stands at places at most
-- three steps apart, and each state stands between related ones.
abbrev pub PartsKeepStates : Layouts → Module → Type 0
PartsKeepStates ls m =
    (entry other : ℕ) (args : List Word) (answers : List ℤ) → IsEntryOfParts ls m entry other
    → AgreesBy (Follows (framed_given m ls.coroutines answers) (parts_given ls m answers))
    (IsBetween (framed_given m ls.coroutines answers) (parts_given ls m answers)
    (plain_machine (parted_module ls m) other args answers))
    (framed_machine m ls entry args answers) (part_price (framed_given m ls.coroutines answers))
    (plain_machine (parted_module ls m) other args answers) (λ t. 1)
