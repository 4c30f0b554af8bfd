-- The two runs stand in two blocks at fetches of the same.
use Rattle.std.proofs.Common.{◌≡◌, ◌⊎◌, ◌∙◌, ℕ, Bool, true, false, [], ◌∷◌, Result, Ok, Err, ap, arith, inl, inr, refl, subst, sym, if◌then◌else◌, ◌||◌, ◌&&◌}
use Rattle.std.specs.Prelude.{IsTrue, None, Some, is_some, pos, slice_get}
use Rattle.elide_shape.specs.Calls.{deals_by}
use Rattle.elide_shape.specs.declared.calls.Dealing.{Dealing}
use Rattle.elide_sites.specs.Sites.{is_named_call}
use Rattle.pass_elide_known.proofs.Acting.{act_ok}
use Rattle.pass_elide_known.proofs.Apart.{IsSetting, setting_of}
use Rattle.pass_elide_known.specs.Keeping.{AreBehindAllocation, GiveOnce, GivesPassed, KeepsAside, KeepsMore, only_sets}
use Rattle.pass_elide_known.specs.States.{IsKnownFramed, IsKnownGiving}
use Rattle.pass_elide_proof.proofs.GivingNone.{no_allocas}
use Rattle.pass_elide_proof.proofs.Grown.{have_at}
use Rattle.pass_elide_proof.proofs.OwnPlaces.{instr_there}
use Rattle.pass_elide_proof.proofs.PlacingFacts.{holds_over, no_frames, no_room, quiet}
use Rattle.pass_elide_proof.proofs.Roomless.{own_same}
use Rattle.pass_elide_proof.specs.Asides.{AreAside, IsUnsetBefore}
use Rattle.pass_elide_proof.specs.Elision.{Elision, Shape, differs_in, framed, function_in, no_shape, rooms}
use Rattle.pass_elide_proof.specs.Match.{is_given_mode, sides, was_given}
use Rattle.pass_elide_proof.specs.Places.{allocas_ahead, instrs_of}
use Rattle.pass_elide_proof.specs.Placing.{HasShape, KeepsPlaces, SetsPlain}
use Rattle.pass_elide_proof.specs.Shapes.{Addresses, AreSameFetches, AsksForFrame, Loads, slot_address}
use Rattle.pass_elide_proof.specs.Statement.{AreRelated}
use Rattle.pass_elide_proof.specs.Stepping.{IsAccompanied}
use Rattle.pass_elide_proof.proofs.pass_proofs.ir_laws.facts.Lists.{get_within}
use Rattle.pass_elide_proof.specs.pass_proofs.ir_base.declared.cause.Cause.{Cause}
use Rattle.pass_elide_proof.specs.pass_proofs.ir_base.declared.outcome.Outcome.{Outcome}
use Rattle.pass_elide_proof.specs.pass_proofs.ir_model.Ty.{int, ptr}
use Rattle.pass_elide_proof.specs.pass_proofs.ir_model.declared.instr.Instr.{Instr}
use Rattle.pass_elide_proof.specs.pass_proofs.ir_model.declared.module.Function.{Function}
use Rattle.pass_elide_proof.specs.pass_proofs.ir_model.declared.operand.Operand.{Operand}
use Rattle.pass_elide_proof.specs.pass_proofs.ir_parts.Contents.{result_of}
use Rattle.pass_elide_proof.specs.pass_proofs.ir_paths.Slots.{is_in_args}
use Rattle.pass_elide_proof.specs.pass_proofs.run_agreement.Machines.{IsFine}
use Rattle.pass_elide_proof.specs.pass_proofs.run_framed.Framed.{FramedGiven, frame_rights, framed_act, framed_step}
use Rattle.pass_elide_proof.specs.pass_proofs.run_memory.Memory.{load}
use Rattle.pass_elide_proof.specs.pass_proofs.run_memory.declared.pointer.Value.{Value}
use Rattle.pass_elide_proof.specs.pass_proofs.run_source.State.{function_of, work_of}
use Rattle.pass_elide_proof.specs.pass_proofs.run_source.declared.state.State.{State}
use Rattle.pass_elide_proof.specs.pass_proofs.run_step.Reads.{reads}
use Rattle.pass_elide_proof.specs.pass_proofs.run_step.Step.{AtInstr, Stuck, done, fetch, is_alignment, set_value}
use Rattle.pass_elide_proof.specs.pass_proofs.run_step.Values.{access_of, address, operand_value}

or_one : (a b c d : Bool) → a ≡ true → ((a && (b || true)) || (c && d)) ≡ true
or_one true true c d is = refl
or_one true false c d is = refl
or_one false b c d is = absurd (cc)

-- where a frame was given a name of what is made there differs in a ramp, and one of what is passed in each
made_differs : (x : Shape) (ramp given : Bool) (v : ℕ) → ramp ≡ true → x.made v ≡ true
    → differs_in x ramp given v ≡ true
made_differs x ramp given v is made =
    (λ j. (ramp && (x.need v || made j)) || (given && (x.freed v || (is_some (x.tested v) || x.passed v))))
    ∙ or_one ramp (x.need v) given (x.freed v || (is_some (x.tested v) || x.passed v)) is

or_two : (a b c d : Bool) → c ≡ true → (a || (c && (b || (d || true)))) ≡ true
or_two true b c d is = refl
or_two false true true d is = refl
or_two false false true true is = refl
or_two false false true false is = refl
or_two false b false d is = absurd (cc)

passed_differs : (x : Shape) (ramp given : Bool) (v : ℕ) → given ≡ true → x.passed v ≡ true
    → differs_in x ramp given v ≡ true
passed_differs x ramp given v is passed =
    (λ j. (ramp && (x.need v || x.made v)) || (given && (x.freed v || (is_some (x.tested v) || passed j))))
    ∙ or_two (ramp && (x.need v || x.made v)) (x.freed v) given (is_some (x.tested v)) is

-- a load that isn't undefined is aligned, and gives a value
record IsLoading (t : Bool) (r : Result Value Cause) : Type 0 where
  aligned : t ≡ true
  value : Value
  loads : r ≡ Ok value

module _ (g : FramedGiven) (s : State) (name : ℕ) where
  loading : (t : Bool) (r : Result Value Cause) (u : State)
      → framed_act g s (if t then done (set_value (work_of s) name) r else Stuck Cause.Align) ≡ Ok u → IsLoading t r
  loading true (Ok v) u h = record { aligned = refl; value = v; loads = refl }
  loading true (Err cause) u h = absurd (cc)
  loading false r u h = absurd (cc)

module _ (e : Elision) (keeps : KeepsPlaces e) (more : KeepsMore e) (s t : State) (r : AreRelated e s t)
    (known : IsKnownFramed e s) (giving : IsKnownGiving e t) (runs : s.outcome ≡ Outcome.Running)
    (fine : IsFine (framed_step (framed e) s).outcome) (given : was_given (sides s t) t.top ≡ true)
    (aside : (e.shape s.top.func).aside s.top.block ≡ Some t.top.block) (level : t.top.at ≡ s.top.at) where
  abbrev f : Function
  f = function_in e s.top.func

  abbrev x : Shape
  x = e.shape s.top.func

  abbrev ramp : Bool
  ramp = is_given_mode t.top.mode

  abbrev was : Bool
  was = was_given (sides s t) t.top

  func : t.top.func ≡ s.top.func
  func = r.beside.top.func

  shaped : (e.shape s.top.func ≡ no_shape) ⊎ HasShape e s.top.func → HasShape e s.top.func
  shaped (inl none) = absurd (never (sym (ap (λ (y : Shape). y.aside s.top.block) none) ∙ aside))
    where
      never : None ≡ Some t.top.block → ⊥
      never h = cc
  shaped (inr k) = k

  shape : HasShape e s.top.func
  shape = shaped (keeps.shapes s.top.func)

  k : KeepsAside e s.top.func s.top.block t.top.block
  k = more.asides s.top.func s.top.block t.top.block aside

  -- the other one passes by the allocation, if these are the blocks behind that
  behind : AreBehindAllocation e s.top.func s.top.block t.top.block → ramp ≡ true
  behind by =
      subst (λ (n : ℕ). (asks : AsksForFrame (function_in e n) (e.shape n)) → t.top.block ≡ asks.beside
      → is_given_mode t.top.mode ≡ true) func giving.aside by.asks by.beside

  none_ahead : allocas_ahead (rooms e s.top.func) (function_in e s.top.func) ≡ []
  none_ahead =
      no_allocas (rooms e s.top.func) f
      (no_frames (rooms e s.top.func) (keeps.wakes s.top.func shape.coroutine).none f)

  module _ (i j : Instr) (u v : ℕ) (there : fetch (function_of (framed e).given s) s.top.block s.top.at ≡ AtInstr i)
      (other : slice_get (instrs_of f t.top.block) s.top.at ≡ Some j) (sets : only_sets i ≡ true)
      (sets_too : only_sets j ≡ true) (unnamed : is_named_call j ≡ false) (gives : result_of i ≡ Some u)
      (gives_too : result_of j ≡ Some v) where
    here : slice_get (instrs_of f s.top.block) s.top.at ≡ Some i
    here = instr_there f s.top.block s.top.at i there

    kind : IsSetting x i
    kind = setting_of x i sets

    kind_too : IsSetting x j
    kind_too = setting_of x j sets_too

    set : SetsPlain f x s.top.block s.top.at i u
    set = (keeps.instrs s.top.func).sets s.top.block s.top.at u i here gives

    set_too : SetsPlain f x t.top.block s.top.at j v
    set_too = (keeps.instrs s.top.func).sets t.top.block s.top.at v j other gives_too

    differs : AreBehindAllocation e s.top.func s.top.block t.top.block
        ⊎ (GivesPassed e s.top.func s.top.block × GivesPassed e s.top.func t.top.block) → differs_in x ramp was u ≡ true
    differs (inl by) =
        made_differs x ramp was u (behind by)
        (by.asks.is_loaded s.top.at u i (sym (λ l. slice_get (instrs_of f (by.after l)) s.top.at) ∙ here) gives)
    differs (inr p) = passed_differs x ramp was u given (p.0 s.top.at u i here gives)

    differs_too : AreBehindAllocation e s.top.func s.top.block t.top.block
        ⊎ (GivesPassed e s.top.func s.top.block × GivesPassed e s.top.func t.top.block) → differs_in x ramp was v ≡ true
    differs_too (inl by) =
        made_differs x ramp was v (behind by)
        (by.asks.is_loaded_beside s.top.at v j (sym (λ l. slice_get (instrs_of f (by.beside l)) s.top.at) ∙ other)
        gives_too)
    differs_too (inr p) = passed_differs x ramp was v given (p.1 s.top.at v j other gives_too)

    unset : (block : ℕ) (h : Instr) (w : ℕ) → GiveOnce e s.top.func block
        → slice_get (instrs_of f block) s.top.at ≡ Some h → result_of h ≡ Some w
        → IsUnsetBefore e s.top.func block s.top.at w
    unset block h w once at is =
        λ m name l lt before gives' same.
        let one = once m s.top.at w l h before at (gives' ∙ ap Some same) is in absurd (omega (arith, lt, one))

    side : AreAside e s t i j u v
    side = record {
      runs = runs;
      here = there;
      there = other;
      given = given;
      aside = aside;
      other = k.apart;
      waits = k.waits;
      frees = k.frees;
      none = none_ahead;
      own = own_same (rooms e s.top.func) f (keeps.wakes s.top.func shape.coroutine).none t.top.block s.top.at;
      no_room = no_room e keeps s.top.func t.top.block s.top.at j unnamed;
      differs = differs k.names;
      differs_too = differs_too k.names;
      plain = record {
        need = λ h. set.need kind.asks;
        freed = λ h. set.freed kind.frees;
        tested = λ h. set.tested kind.tests;
      };
      plain_too = record {
        need = λ h. set_too.need kind_too.asks;
        freed = λ h. set_too.freed kind_too.frees;
        tested = λ h. set_too.tested kind_too.tests;
      };
      unset = unset s.top.block i u k.once here gives;
      unset_too = unset t.top.block j v k.once_too other gives_too;
      named = set_too.low;
      wide =
          let low = set_too.low in
          let room = known.known.acts.0.room in
          let more' = r.beside.top.values.room in
          omega (arith, low, room, more');
      holds = λ h. holds_over e s.top.func s.top.block s.top.at i here kind.begins kind.allocates
          (keeps.shapes s.top.func);
      kept = λ name h held. set.kept name held;
    }

    -- what it reads doesn't differ
    reads_alike : deals_by Dealing.Frees i ≡ false → (name : ℕ) → IsTrue (reads name i)
        → differs_in x ramp was name ≡ false
    reads_alike frees name is =
        let p = (keeps.instrs s.top.func).takes s.top.block s.top.at name i known.reached here is in
        quiet x ramp was name p.need (λ h. p.made kind.begins k.waits) (p.freed frees kind.tests) p.tested
        (λ h. p.passed k.frees)

  -- ---- both fetches

  by_fetch : (i j : Instr) → AreSameFetches i j
      → fetch (function_of (framed e).given s) s.top.block s.top.at ≡ AtInstr i
      → slice_get (instrs_of f t.top.block) s.top.at ≡ Some j → IsAccompanied e s t r.beside
  by_fetch _ _ (Loads u v align ty cell) there other =
      let ours = Instr.Load u ty cell align in
      let theirs = Instr.Load v ty cell align in
      let acts = act_ok e keeps s runs fine (Instr.Load u ty cell align) there in
      let loaded = loading (framed e) s u (is_alignment align)
      (load (frame_rights (framed e) s.instances) s.world.memory
      (address (operand_value e.code s.top.values ptr cell)) (access_of ty) align) acts.0 acts.1 in
      IsAccompanied.Loads u v align ty cell loaded.value (record {
        place = side (Instr.Load u ty cell align) (Instr.Load v ty cell align) u v there other refl refl refl refl
            refl;
        reads = λ name is. reads_alike (Instr.Load u ty cell align) (Instr.Load v ty cell align) u v there other refl
            refl refl refl refl refl name is;
        aligned = loaded.aligned;
        bytes = (keeps.instrs s.top.func).bytes s.top.block s.top.at (Instr.Load u ty cell align)
            (instr_there f s.top.block s.top.at (Instr.Load u ty cell align) there);
        loads = loaded.loads;
      })
  by_fetch _ _ (Addresses u v base distance) there other =
      IsAccompanied.Addresses u v base distance (record {
        place = side (slot_address u base distance) (slot_address v base distance) u v there other refl refl refl refl
            refl;
        reads = λ name is. reads_alike (slot_address u base distance) (slot_address v base distance) u v there other
            refl refl refl refl refl refl name
            (λ l. is l || is_in_args name (record { ty = int 64; value = Operand.Number (pos distance) } ∷ []));
      })

  pub aside_known : (i : Instr) → fetch (function_of (framed e).given s) s.top.block s.top.at ≡ AtInstr i
      → IsAccompanied e s t r.beside
  aside_known i there =
      let here = instr_there f s.top.block s.top.at i there in
      let lt = get_within (instrs_of f s.top.block) s.top.at i here in
      let many = k.many in
      let other = have_at (instrs_of f t.top.block) s.top.at (omega (arith, lt, many)) in
      by_fetch i other.0 (k.fetches s.top.at i other.0 here other.1) there other.1
