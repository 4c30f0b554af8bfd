-- What is known of frames that callers give stays where both runs go on, call or return.
use Rattle.std.proofs.Common.{◌≡◌, ℕ, zero, suc, ◌+◌, ◌<◌, ⊎_elim, inl, inr, true, List, [], ◌∷◌, ◌++◌, length, Option, Some, None, refl, sym, ap, ◌∙◌, subst, arith}
use Rattle.std.specs.Prelude.{slice_get, slice_set, unwrap_or}
use Rattle.std.proofs.lemmas.Option.{slice_get_within}
use Rattle.pass_proofs.proofs.flow_solver.Lists.{set_cases, set_here}
use Rattle.pass_proofs.specs.flow_solver.Paths.{IsListed}
use Rattle.pass_proofs.specs.ir_base.declared.outcome.Outcome.{Outcome}
use Rattle.pass_proofs.proofs.ir_laws.facts.Lists.{phi_names}
use Rattle.pass_proofs.specs.ir_model.Names.{function_at}
use Rattle.pass_proofs.specs.ir_model.declared.instr.Instr.{Instr}
use Rattle.pass_proofs.specs.ir_model.declared.instr.Phi.{Phi}
use Rattle.pass_proofs.specs.ir_model.declared.module.Block.{Block}
use Rattle.pass_proofs.specs.ir_model.declared.module.Function.{Function}
use Rattle.pass_proofs.specs.ir_model.declared.module.Module.{Module}
use Rattle.pass_proofs.specs.pass_intrinsics.Shapes.{given_name, shape_of}
use Rattle.pass_proofs.specs.pass_intrinsics.declared.shape.Part.{Part}
use Rattle.pass_proofs.specs.pass_intrinsics.declared.shape.Shape.{Shape}
use Rattle.pass_proofs.specs.pass_split.Given.{has_given_call}
use Rattle.pass_split_proof.proofs.given_calls.Unset.{given_unset, phi_other, result_other}
use Rattle.run_access_worked.proofs.Begun.{get_more}
use Rattle.pass_split_proof.proofs.given_begins.Stored.{more_parted}
use Rattle.pass_split_proof.proofs.states.Judged.{get_new}
use Rattle.pass_split_proof.proofs.states.SameKind.{given_kept}
use Rattle.pass_split_proof.proofs.steps.Calls.{result_elsewhere}
use Rattle.pass_split_proof.specs.code.Positions.{is_given, moved, number_of}
use Rattle.pass_split_proof.specs.places.Places.{IsCodeOf, OfCoroutine, OfPlain}
use Rattle.pass_split_proof.specs.simulation.Knowing.{KnowCalls, KnowFrames, KnowsFrame, KnowsGiven, LeavesGiven, is_for_some}
use Rattle.pass_split_proof.specs.states.Activations.{AreAllWaiting, RunsPart}
use Rattle.pass_split_proof.specs.states.Instances.{is_given_in, part_position, shape_at}
use Rattle.pass_split_proof.specs.states.Memories.{homes_of}
use Rattle.pass_split_proof.specs.states.Related.{AreRelated}
use Rattle.pass_split_proof.specs.steps.Branches.{Left, Stayed, WasLeft}
use Rattle.pass_proofs.specs.run_framed.Framed.{FramedGiven}
use Rattle.pass_proofs.proofs.run_laws.memory.Homes.{value_on}
use Rattle.pass_proofs.proofs.run_laws.memory.Written.{same_some}
use Rattle.pass_proofs.proofs.run_laws.transfer.Sets.{set_elsewhere}
use Rattle.pass_proofs.specs.run_laws.changed.Changed.{Each, result_of}
use Rattle.pass_proofs.specs.run_laws.memory.Pointers.{Extends, Home, IsValue}
use Rattle.pass_proofs.specs.run_laws.memory.Standing.{own_homes}
use Rattle.pass_proofs.specs.run_memory.Memory.{killed, killed_block}
use Rattle.pass_proofs.specs.run_memory.declared.block.MemoryBlock.{MemoryBlock}
use Rattle.pass_proofs.specs.run_memory.declared.pointer.Value.{Value}
use Rattle.run_access_worked.specs.run_plain.Plain.{PlainGiven, plain_given_back, plain_returned}
use Rattle.run_access_worked.specs.run_plain.declared.state.PlainActivation.{PlainActivation}
use Rattle.run_access_worked.specs.run_plain.declared.state.PlainState.{PlainState}
use Rattle.pass_proofs.specs.run_source.Source.{given_back, returned}
use Rattle.pass_proofs.specs.run_source.declared.state.Activation.{Activation}
use Rattle.pass_proofs.specs.run_source.declared.state.Instance.{Instance}
use Rattle.pass_proofs.specs.run_source.declared.state.Mode.{Mode}
use Rattle.pass_proofs.specs.run_source.declared.state.State.{State}
use Rattle.pass_proofs.specs.run_source.declared.state.Status.{Status}
use Rattle.pass_proofs.specs.run_step.Step.{AtInstr, fetch, phis_of, without_slots}
use Rattle.pass_proofs.specs.run_step.Values.{Env, value_in, with_result, with_value}
use Rattle.pass_proofs.specs.run_step.declared.world.Slot.{Slot}

-- ---- parts by their positions

abbrev part_at : ℕ → Part
part_at zero = Part.Ramp
part_at (suc zero) = Part.Resume
part_at (suc (suc zero)) = Part.Destroy
part_at (suc (suc (suc zero))) = Part.Cleanup
part_at (suc (suc (suc (suc n)))) = Part.GivenRamp

at_number : (part : Part) → part_at (number_of part) ≡ part
at_number Part.Ramp = refl
at_number Part.GivenRamp = refl
at_number Part.Resume = refl
at_number Part.Destroy = refl
at_number Part.Cleanup = refl

pub same_part : (g : FramedGiven) (func : ℕ) (one other : Part)
    → part_position g func one ≡ part_position g func other → one ≡ other
same_part g func one other e = sym (at_number one)
    ∙ ap part_at (same (moved g.layouts g.given.code g.given.code.functions func) (number_of one) (number_of other) e)
    ∙ at_number other
  where
    same : (a n k : ℕ) → a + n ≡ a + k → n ≡ k
    same a n k e = omega arith

-- ---- instances where they were

-- an instance of a list was there, for the same coroutine, and was given its frame if it is now
pub record HasPlace (xs : List Instance) (m k : List MemoryBlock) (i : ℕ) (y : Instance) : Type 0 where
  pub old : Instance
  pub there : slice_get xs i ≡ Some old
  pub coroutine : y.coroutine ≡ old.coroutine
  pub given : is_given_in (slice_get k y.block) y ≡ is_given_in (slice_get m old.block) old

abbrev pub KeepsPlaces : (xs ys : List Instance) (m k : List MemoryBlock) → Type 0
KeepsPlaces xs ys m k = (i : ℕ) (y : Instance) → slice_get ys i ≡ Some y → HasPlace xs m k i y

pub same_places : (xs : List Instance) (m : List MemoryBlock) → KeepsPlaces xs xs m m
same_places xs m i y e = record { old = y; there = e; coroutine = refl; given = refl }

-- blocks are of the same kinds
pub memory_places : (xs : List Instance) (m k : List MemoryBlock)
    → ((i : ℕ) (x : Instance) → slice_get xs i ≡ Some x
    → is_given_in (slice_get k x.block) x ≡ is_given_in (slice_get m x.block) x) → KeepsPlaces xs xs m k
memory_places xs m k same i y e = record { old = y; there = e; coroutine = refl; given = same i y e }

pub places_then : (xs ys zs : List Instance) (m k l : List MemoryBlock) → KeepsPlaces xs ys m k → KeepsPlaces ys zs k l
    → KeepsPlaces xs zs m l
places_then xs ys zs m k l first second i z e =
    let q : HasPlace ys k l i z = second i z e in
    let p : HasPlace xs m k i q.old = first i q.old q.there in
    record { old = p.old; there = p.there; coroutine = q.coroutine ∙ p.coroutine; given = q.given ∙ p.given }

-- one instance is another at the same place
pub set_places : (xs : List Instance) (m : List MemoryBlock) (i : ℕ) (x now : Instance) → slice_get xs i ≡ Some x
    → now.coroutine ≡ x.coroutine → is_given_in (slice_get m now.block) now ≡ is_given_in (slice_get m x.block) x
    → KeepsPlaces xs (slice_set xs i now) m m
set_places xs m i x now e coroutine given j y f = ⊎_elim
    (λ h. record {
      old = x;
      there = ap (slice_get xs) h.0 ∙ e;
      coroutine = ap (λ (z : Instance). z.coroutine) h.1 ∙ coroutine;
      given = ap (λ (z : Instance). is_given_in (slice_get m z.block) z) h.1 ∙ given;
    })
    (λ h. record { old = y; there = h.0; coroutine = refl; given = refl })
    (set_cases xs i j now y f)

pub left_places : (m : List MemoryBlock) (xs ys : List Instance) → WasLeft xs ys → KeepsPlaces xs ys m m
left_places m xs _ Stayed = same_places xs m
left_places m xs _ (Left i x e h) = set_places xs m i x (record x { status = Status.Running }) e refl refl

-- slots die
pub gone_given : (slots : List Slot) (m : List MemoryBlock) (c : ℕ) (z : Instance)
    → is_given_in (slice_get (without_slots m slots) c) z ≡ is_given_in (slice_get m c) z
gone_given [] m c z = refl
gone_given (s ∷ slots) m c z = gone_given slots (killed m s.block) c z
    ∙ given_kept killed_block (λ y. refl) m s.block c z

-- ---- all activations

module _ (g : FramedGiven) (xs ys : List Instance) (m k : List MemoryBlock) (ext : Extends (homes_of m) (homes_of k))
    (places : KeepsPlaces xs ys m k) where
  -- with other values
  pub frame_knows : (func : ℕ) (mode : Mode) (instance : Option ℕ) (position : ℕ) (values others : Env)
      → KnowsFrame g xs m func mode instance position values
      → ((frame : Value) → mode ≡ Mode.GivenRamp frame → value_in others (given_name (shape_at g func))
      ≡ value_in values (given_name (shape_at g func)))
      → KnowsFrame g ys k func mode instance position others
  frame_knows func mode instance position values others h same = record {
    given = λ frame e. subst (λ (u : Value). IsValue (homes_of k) frame u) (sym (same frame e))
        (value_on (homes_of m) (homes_of k) ext frame (value_in values (given_name (shape_at g func))) (h.given
        frame e));
    calls = h.calls;
    runs = λ part i y at some own there. let p : HasPlace xs m k i y = places i y there in
        p.given ∙ h.runs part i p.old at some own p.there;
  }

  -- in another mode, which is no ramp's
  pub mode_knows : (func : ℕ) (mode other : Mode) (instance : Option ℕ) (position : ℕ) (values others : Env)
      → KnowsFrame g xs m func mode instance position values → ((frame : Value) → other ≡ Mode.GivenRamp frame → ⊥)
      → KnowsFrame g ys k func other instance position others
  mode_knows func mode other instance position values others h none = record {
    given = λ frame e. absurd (none frame e);
    calls = λ frame e. absurd (none frame e);
    runs = λ part i y at some own there. let p : HasPlace xs m k i y = places i y there in
        p.given ∙ h.runs part i p.old at some own p.there;
  }

  pub frames_know : (result : Option ℕ) (ups : List Activation) (bs : List PlainActivation)
      → KnowFrames g xs m result ups bs → KnowFrames g ys k result ups bs
  frames_know result [] bs h = tt
  frames_know result (a ∷ ups) [] h = tt
  frames_know result (a ∷ ups) (b ∷ bs) h = (
    frame_knows a.func a.mode a.instance b.func b.values b.values h.0 (λ frame e. refl),
    (h.1.0, frames_know a.result ups bs h.1.1),
  )

  pub calls_know : KnowCalls g xs m → KnowCalls g ys k
  calls_know h i y e given =
      let p : HasPlace xs m k i y = places i y e in
      ap (λ (n : ℕ). has_given_call g.given.code (function_at g.given.code n)) p.coroutine
      ∙ h i p.old p.there (sym p.given ∙ given)

-- the topmost activations go on, where instances and memory are others
module _ (g : FramedGiven) (s : State) (t : PlainState) (ys : List Instance) (k : List MemoryBlock) (others : Env)
    (ext : Extends (homes_of s.world.memory) (homes_of k)) (places : KeepsPlaces s.instances ys s.world.memory k) where
  pub goes_knows : KnowsGiven g s t
      → ((frame : Value) → s.top.mode ≡ Mode.GivenRamp frame → value_in others (given_name (shape_at g s.top.func))
      ≡ value_in t.top.values (given_name (shape_at g s.top.func)))
      → (KnowsFrame g ys k s.top.func s.top.mode s.top.instance t.top.func others
      × KnowFrames g ys k s.top.result s.below t.below) × KnowCalls g ys k
  goes_knows h same = (
    (
      frame_knows g s.instances ys s.world.memory k ext places s.top.func s.top.mode s.top.instance t.top.func
          t.top.values others h.0.0 same,
      frames_know g s.instances ys s.world.memory k ext places s.top.result s.below t.below h.0.1,
    ),
    calls_know g s.instances ys s.world.memory k ext places h.1,
  )

  -- or in another mode, which is no ramp's
  pub turns_knows : (mode : Mode) → ((frame : Value) → mode ≡ Mode.GivenRamp frame → ⊥) → KnowsGiven g s t
      → (KnowsFrame g ys k s.top.func mode s.top.instance t.top.func others
      × KnowFrames g ys k s.top.result s.below t.below) × KnowCalls g ys k
  turns_knows mode none h = (
    (
      mode_knows g s.instances ys s.world.memory k ext places s.top.func s.top.mode mode s.top.instance t.top.func
          t.top.values others h.0.0 none,
      frames_know g s.instances ys s.world.memory k ext places s.top.result s.below t.below h.0.1,
    ),
    calls_know g s.instances ys s.world.memory k ext places h.1,
  )

-- ---- an activation that has no instance yet

pub new_knows : (g : FramedGiven) (xs : List Instance) (m : List MemoryBlock) (func : ℕ) (mode : Mode) (position : ℕ)
    (values : Env) → ((frame : Value) → mode ≡ Mode.GivenRamp frame
    → IsValue (homes_of m) frame (value_in values (given_name (shape_at g func))))
    → ((frame : Value) → mode ≡ Mode.GivenRamp frame
    → has_given_call g.given.code (function_at g.given.code func) ≡ true)
    → KnowsFrame g xs m func mode None position values
new_knows g xs m func mode position values given called = record {
  given = given;
  calls = called;
  runs = λ part i x at some own there. absurd (none i own);
}
  where
    none : (i : ℕ) → None ≡ Some i → ⊥
    none i e = cc

-- an activation without an instance is called: the one below it waits
pub calls_knows : (g : FramedGiven) (h : PlainGiven) (s : State) (t : PlainState) (func : ℕ) (mode : Mode)
    (result : Option ℕ) (position : ℕ) (values : Env) → KnowsGiven g s t
    → ((frame : Value) → mode ≡ Mode.GivenRamp frame
    → IsValue (homes_of s.world.memory) frame (value_in values (given_name (shape_at g func))))
    → ((frame : Value) → mode ≡ Mode.GivenRamp frame
    → has_given_call g.given.code (function_at g.given.code func) ≡ true)
    → LeavesGiven g result s.top.func s.top.mode
    → (KnowsFrame g s.instances s.world.memory func mode None position values
    × (KnowsFrame g s.instances s.world.memory s.top.func s.top.mode s.top.instance t.top.func t.top.values
    × (LeavesGiven g result s.top.func s.top.mode
    × KnowFrames g s.instances s.world.memory s.top.result s.below t.below)))
    × KnowCalls g s.instances s.world.memory
calls_knows g h s t func mode result position values know given called leaves = (
  (
    new_knows g s.instances s.world.memory func mode position values given called,
    (know.0.0, (leaves, know.0.1)),
  ),
  know.1,
)

-- ---- one instance more

module _ (g : FramedGiven) (h : Module) (xs : List Instance) (x : Instance) (m k : List MemoryBlock)
    (homes : List Home) (ext : Extends (homes_of m) (homes_of k))
    (same : (i : ℕ) (z : Instance) → slice_get xs i ≡ Some z
    → is_given_in (slice_get k z.block) z ≡ is_given_in (slice_get m z.block) z) where
  pub more_know : (result : Option ℕ) (ups : List Activation) (bs : List PlainActivation)
      → AreAllWaiting g h xs homes result ups bs → KnowFrames g xs m result ups bs
      → KnowFrames g (xs ++ x ∷ []) k result ups bs
  more_know result [] bs all know = tt
  more_know result (a ∷ ups) [] all know = tt
  more_know result (a ∷ ups) (b ∷ bs) all know = (
    record {
      given = λ frame e. value_on (homes_of m) (homes_of k) ext frame
          (value_in b.values (given_name (shape_at g a.func))) (know.0.given frame e);
      calls = know.0.calls;
      runs = λ part i y at some own there.
          let w = all.0.beside.frame i own in
          let was : slice_get xs i ≡ Some y = sym (get_more xs x i (slice_get_within xs i w.instance w.there))
          ∙ there in
          same i y was ∙ know.0.runs part i y at some own was;
    },
    (know.1.0, more_know a.result ups bs all.1 know.1.1),
  )

-- a call gives a frame to its coroutine if it was given its own
pub more_calls : (g : FramedGiven) (xs : List Instance) (x : Instance) (m k : List MemoryBlock)
    → ((i : ℕ) (z : Instance) → slice_get xs i ≡ Some z
    → is_given_in (slice_get k z.block) z ≡ is_given_in (slice_get m z.block) z)
    → (is_given_in (slice_get k x.block) x ≡ true
    → has_given_call g.given.code (function_at g.given.code x.coroutine) ≡ true)
    → KnowCalls g xs m → KnowCalls g (xs ++ x ∷ []) k
more_calls g xs x m k same new know i y e held = more_parted xs x
    (λ (z : Instance). is_given_in (slice_get k z.block) z ≡ true
    → has_given_call g.given.code (function_at g.given.code z.coroutine) ≡ true) i y e
    (λ lt there f. know i y there (sym (same i y there) ∙ f))
    (λ at is f. subst (λ (z : Instance). has_given_call g.given.code (function_at g.given.code z.coroutine) ≡ true)
    (sym is) (new (subst (λ (z : Instance). is_given_in (slice_get k z.block) z ≡ true) is f))) held

-- the topmost activation has it
pub newest_knows : (g : FramedGiven) (xs : List Instance) (x : Instance) (k : List MemoryBlock) (func : ℕ)
    (mode : Mode)
    (position : ℕ) (values : Env) (part : Part) → position ≡ part_position g func part
    → is_given_in (slice_get k x.block) x ≡ is_given part
    → ((frame : Value) → mode ≡ Mode.GivenRamp frame
    → IsValue (homes_of k) frame (value_in values (given_name (shape_at g func))))
    → ((frame : Value) → mode ≡ Mode.GivenRamp frame
    → has_given_call g.given.code (function_at g.given.code func) ≡ true)
    → KnowsFrame g (xs ++ x ∷ []) k func mode (Some (length xs)) position values
newest_knows g xs x k func mode position values part at right given called = record {
  given = given;
  calls = called;
  runs = λ other i y is some own there. subst (λ (z : Instance). is_given_in (slice_get k z.block) z ≡ is_given other)
      (newest i y own there) (right ∙ ap is_given (same_part g func part other (sym at ∙ is)));
}
  where
    number : (i : ℕ) → Some (length xs) ≡ Some i → length xs ≡ i
    number i own = cc

    newest : (i : ℕ) (y : Instance) → Some (length xs) ≡ Some i → slice_get (xs ++ x ∷ []) i ≡ Some y → x ≡ y
    newest i y own there = same_some x y (sym (get_new xs x) ∙ ap (slice_get (xs ++ x ∷ [])) (number i own) ∙ there)

-- ---- the topmost activation goes on with an instance

pub waking_knows : (g : FramedGiven) (xs : List Instance) (m : List MemoryBlock) (i : ℕ) (now : Instance) (func : ℕ)
    (mode : Mode) (position : ℕ) (values : Env) (part : Part) → i < length xs → position ≡ part_position g func part
    → (is_for_some part ≡ true → is_given part ≡ is_given_in (slice_get m now.block) now)
    → ((frame : Value) → mode ≡ Mode.GivenRamp frame → ⊥)
    → KnowsFrame g (slice_set xs i now) m func mode (Some i) position values
waking_knows g xs m i now func mode position values part lt at right none = record {
  given = λ frame e. absurd (none frame e);
  calls = λ frame e. absurd (none frame e);
  runs = λ other j y is some own there.
      let same : other ≡ part = same_part g func other part (sym is ∙ at) in
      subst (λ (z : Instance). is_given_in (slice_get m z.block) z ≡ is_given other) (woken j y own there)
      (sym (subst (λ (p : Part). is_for_some p ≡ true → is_given p ≡ is_given_in (slice_get m now.block) now)
      (sym same) right some));
}
  where
    number : (j : ℕ) → Some i ≡ Some j → i ≡ j
    number j own = cc

    woken : (j : ℕ) (y : Instance) → Some i ≡ Some j → slice_get (slice_set xs i now) j ≡ Some y → now ≡ y
    woken j y own there = same_some now y (sym (set_here xs i now lt)
        ∙ ap (slice_get (slice_set xs i now)) (number j own) ∙ there)

-- blocks of a memory that is as long
pub same_extends : (m k : List MemoryBlock) → length k ≡ length m → Extends (homes_of m) (homes_of k)
same_extends m k long = subst (λ (l : ℕ). Extends (homes_of m) (own_homes 0 l)) (sym long)
    (record { each = λ b e. refl })

-- ---- returns

module _ (g : FramedGiven) (z : State) (t : PlainState)
    (ext : Extends (homes_of z.world.memory) (homes_of (without_slots z.world.memory z.top.slots))) where
  abbrev gone : List MemoryBlock
  gone = without_slots z.world.memory z.top.slots

  gone_places : KeepsPlaces z.instances z.instances z.world.memory gone
  gone_places = memory_places z.instances z.world.memory gone (λ i x e. gone_given z.top.slots z.world.memory
      x.block x)

  -- the run is over
  pub over_knows : (one other : Outcome) → KnowsGiven g z t
      → KnowsGiven g (record (returned z) { outcome = one }) (record (plain_returned t) { outcome = other })
  over_knows one other know = goes_knows g z t z.instances gone t.top.values ext gone_places know (λ frame e. refl)

  -- the activation below goes on
  pub back_knows : (v u : Option Value) (a : Activation) (rest : List Activation) (b : PlainActivation)
      (bs : List PlainActivation) → z.below ≡ a ∷ rest → t.below ≡ b ∷ bs → t.top.result ≡ z.top.result
      → KnowsGiven g z t
      → KnowsGiven g (record (returned z) { top = given_back a z.top.result v; below = rest })
      (record (plain_returned t) { top = plain_given_back b t.top.result u; below = bs })
  back_knows v u a rest b bs e f same know =
      let below : KnowFrames g z.instances z.world.memory z.top.result (a ∷ rest) (b ∷ bs)
      = subst (λ (p : List Activation × List PlainActivation). KnowFrames g z.instances z.world.memory z.top.result
      p.0 p.1) (λ j. (e j, f j)) know.0.1 in (
        (
          frame_knows g z.instances z.instances z.world.memory gone ext gone_places a.func a.mode a.instance b.func
              b.values (with_result b.values t.top.result (unwrap_or u Value.Poison)) below.0
              (λ frame mode. result_elsewhere b.values t.top.result (unwrap_or u Value.Poison)
              (given_name (shape_at g a.func)) (λ sets. below.1.0 frame mode (sym same ∙ sets))),
          frames_know g z.instances z.instances z.world.memory gone ext gone_places a.result rest bs below.1.1,
        ),
        calls_know g z.instances z.instances z.world.memory gone ext gone_places know.1,
      )

-- ---- names that aren't the parameter's

-- a coroutine gives no name of that number
result_low : (f q : Function) (sh : Shape) (part : Part) → IsCodeOf f q sh part → part ≡ Part.GivenRamp
    → (block at : ℕ) (i : Instr) → fetch f block at ≡ AtInstr i → result_of i ≡ Some (length f.names + 6) → ⊥
result_low f q _ _ (OfCoroutine m k layout begin part x is) same block at i here sets =
    result_other m k f begin x (shape_of f layout) refl block at i here sets
result_low f q _ _ (OfPlain m k plain rules same) ramp block at i here sets = absurd (cc)

phi_low : (f q : Function) (sh : Shape) (part : Part) → IsCodeOf f q sh part → part ≡ Part.GivenRamp
    → (block : ℕ) (b : Block) → slice_get f.blocks block ≡ Some b → IsListed (length f.names + 6) (phi_names
    b.phis) → ⊥
phi_low f q _ _ (OfCoroutine m k layout begin part x is) same block b there h =
    phi_other m k f begin x (shape_of f layout) refl block b there h
phi_low f q _ _ (OfPlain m k plain rules same) ramp block b there h = absurd (cc)

-- what isn't listed is none of the results
each_other : (n : ℕ) (ps : List Phi) → (IsListed n (phi_names ps) → ⊥) → Each (λ (p : Phi). p.result ≡ n → ⊥) ps
each_other n [] none = tt
each_other n (p ∷ ps) none = (λ e. none (inl (sym e)), each_other n ps (λ h. none (inr h)))

module _ (g : FramedGiven) (h : PlainGiven) (s : State) (t : PlainState) (r : AreRelated g h s t) where
  abbrev f : Function
  f = function_at g.given.code s.top.func

  abbrev q : Function
  q = function_at h.code t.top.func

  -- the name of the parameter for the frame
  abbrev pub given : ℕ
  given = given_name (shape_at g s.top.func)

  part_is : (frame : Value) → s.top.mode ≡ Mode.GivenRamp frame → r.top.part ≡ Part.GivenRamp
  part_is frame e = subst (λ (m : Mode). RunsPart m r.top.part) e r.top.runs

  given_is : given_name r.top.shape ≡ given
  given_is = ap (λ (n : ℕ). n + 6) base
    where
      base : r.top.shape.base ≡ length f.names
      base = ⊎_elim (λ p. ap (λ (z : Shape). z.base) p.1) (λ p. ap (λ (z : Shape). z.base) p.1) r.top.shaped

  -- no instruction of the part sets it
  pub name_unset : (frame : Value) → s.top.mode ≡ Mode.GivenRamp frame → (block at : ℕ) (j : Instr)
      → fetch (function_at h.code t.top.func) block at ≡ AtInstr j → (name : ℕ) → result_of j ≡ Some name
      → name ≡ given_name (shape_at g s.top.func) → ⊥
  name_unset frame e block at j there name sets same = given_unset f q r.top.shape r.top.part r.top.coded
      (part_is frame e) block at j there (sets ∙ ap (λ (n : ℕ). Some n) (same ∙ sym given_is))

  -- nor one of the coroutine
  pub result_unset : (frame : Value) → s.top.mode ≡ Mode.GivenRamp frame → (block at : ℕ) (i : Instr)
      → fetch (function_at g.given.code s.top.func) block at ≡ AtInstr i → (name : ℕ) → result_of i ≡ Some name
      → name ≡ given_name (shape_at g s.top.func) → ⊥
  result_unset frame e block at i there name sets same = result_low f q r.top.shape r.top.part r.top.coded
      (part_is frame e) block at i there (sets ∙ ap (λ (n : ℕ). Some n) same)

  -- nor a phi
  pub phis_unset : (frame : Value) → s.top.mode ≡ Mode.GivenRamp frame → (block : ℕ)
      → Each (λ (p : Phi). p.result ≡ given_name (shape_at g s.top.func) → ⊥)
      (phis_of (slice_get (function_at g.given.code s.top.func).blocks block))
  phis_unset frame e block = on (slice_get f.blocks block) refl
    where
      on : (o : Option Block) → slice_get f.blocks block ≡ o
          → Each (λ (p : Phi). p.result ≡ given_name (shape_at g s.top.func) → ⊥) (phis_of o)
      on None there = tt
      on (Some b) there = each_other given b.phis (phi_low f q r.top.shape r.top.part r.top.coded (part_is
          frame e) block
          b there)

  -- a name of the coroutine is set
  pub set_kept : (env : Env) (v : Value) (block at : ℕ) (i : Instr)
      → fetch (function_at g.given.code s.top.func) block at ≡ AtInstr i → (name : ℕ) → result_of i ≡ Some name
      → (frame : Value) → s.top.mode ≡ Mode.GivenRamp frame
      → value_in (with_value env name v) (given_name (shape_at g s.top.func))
      ≡ value_in env (given_name (shape_at g s.top.func))
  set_kept env v block at i there name sets frame e = set_elsewhere env name given v
      (result_unset frame e block at i there name sets)

  -- or a new one of the part
  pub new_kept : (env : Env) (v : Value) (block at : ℕ) (j : Instr)
      → fetch (function_at h.code t.top.func) block at ≡ AtInstr j → (name : ℕ) → result_of j ≡ Some name
      → (frame : Value) → s.top.mode ≡ Mode.GivenRamp frame
      → value_in (with_value env name v) (given_name (shape_at g s.top.func))
      ≡ value_in env (given_name (shape_at g s.top.func))
  new_kept env v block at j there name sets frame e = set_elsewhere env name given v
      (name_unset frame e block at j there name sets)
