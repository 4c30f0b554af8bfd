-- An instruction of a coroutine behind a line of loads and addresses gives a value, and may change the worlds and
-- instances of both runs: the line is executed, then the instruction, and its result is stored.
use Rattle.std.proofs.Common.{◌≡◌, ◌⊎◌, ◌+◌, ◌<◌, ◌≤◌, ◌∷◌, ◌∙◌, List, Some, ap, arith, inl, inr, length}
use Rattle.std.proofs.Common.{length-append, refl, subst, suc, sym, ℕ, ⊎_elim}
use Rattle.std.proofs.lemmas.Bool.{cases_lt}
use Rattle.pass_frames_code.specs.ir_base.declared.outcome.Outcome.{Outcome}
use Rattle.pass_frames_code.proofs.ir_laws.facts.Members.{each_left, each_right}
use Rattle.pass_frames_code.specs.ir_model.Ty.{int}
use Rattle.pass_frames_code.specs.ir_model.declared.instr.Instr.{Instr}
use Rattle.pass_frames_code.specs.ir_model.declared.module.Module.{Module}
use Rattle.pass_frames_code.specs.ir_parts.Contents.{result_of}
use Rattle.pass_frames_code.specs.pass_cells.Written.{stored_result}
use Rattle.pass_frames_code.specs.pass_cells.declared.plan.KeptValue.{KeptValue}
use Rattle.pass_frames_steps.proofs.here.Behind.{IsStoredBehind, over_behind, spares_behind, stored_behind}
use Rattle.pass_frames_steps.proofs.here.Finish.{IsDoneHere}
use Rattle.pass_frames_steps.proofs.here.Giving.{stand_left, stand_right}
use Rattle.pass_frames_steps.proofs.fronted.Finish.{related_after}
use Rattle.pass_frames_steps.proofs.fronted.State.{cells, free, stand_going}
use Rattle.pass_frames_steps.proofs.fronted.Touched.{ahead_left, cells_left, wheres_left}
use Rattle.pass_frames_code.proofs.led.Steps.{short_result, still_others, still_through}
use Rattle.pass_frames_code.proofs.lined.Lines.{each_between, line_last}
use Rattle.pass_frames_code.proofs.lines.Names.{distance_of}
use Rattle.pass_frames_code.proofs.lines.Results.{kept_is_cell}
use Rattle.pass_frames_code.proofs.stepping.After.{cell_turned}
use Rattle.pass_frames_code.proofs.stepping.May.{own_blocks}
use Rattle.pass_frames_code.proofs.stepping.Names.{cell_is_name}
use Rattle.pass_frames_code.proofs.stepping.Shown.{still_shown}
use Rattle.pass_frames_code.specs.Distances.{SetsFrom}
use Rattle.pass_frames_code.specs.Followed.{IsFollowed, IsOn}
use Rattle.pass_frames_code.specs.Framings.{IsFraming}
use Rattle.pass_frames_code.specs.Fronted.{IsFronted}
use Rattle.pass_frames_code.specs.Led.{SparesBlocks, led_line}
use Rattle.pass_frames_code.specs.Lined.{GivesNone, lined}
use Rattle.pass_frames_code.specs.Lines.{IsCellOf, IsStorable, at_work}
use Rattle.pass_frames_code.specs.Meaning.{step_cost}
use Rattle.pass_frames_code.specs.Places.{Framing, edged, named, plan}
use Rattle.pass_frames_code.specs.Related.{AreBuiltOf, AreCellsRight, Building, IsDistanceOf, IsKeptValue}
use Rattle.pass_frames_code.specs.Stepping.{AreGiven, StandsInPlace}
use Rattle.pass_frames_code.specs.pass_renewed_proof.Renewed.{RenewedGiven, renewed_step}
use Rattle.pass_frames_code.proofs.run_agreement.Runs.{iterate-add}
use Rattle.pass_frames_code.specs.run_agreement.Machines.{iterate}
use Rattle.pass_frames_code.specs.run_framed.Framed.{framed_context, framed_step}
use Rattle.pass_frames_code.proofs.run_laws.memory.Itself.{owner_rights_fit}
use Rattle.pass_frames_code.proofs.run_laws.transfer.Sets.{sets_result}
use Rattle.pass_frames_code.specs.run_laws.access.Lines.{Runs, StandAt}
use Rattle.pass_frames_code.specs.run_laws.changed.Changed.{Each}
use Rattle.pass_frames_code.specs.run_laws.memory.Pointers.{IsValue}
use Rattle.pass_frames_code.specs.run_laws.transfer.Transfer.{AreOver, AreSet}
use Rattle.pass_frames_code.proofs.run_access_worked.run_laws_worked.Frames.{frame_rights_fit}
use Rattle.pass_frames_code.specs.run_memory.Memory.{owner_rights}
use Rattle.pass_frames_code.specs.run_memory.declared.pointer.Value.{Value}
use Rattle.pass_frames_code.specs.run_source.State.{function_of, gives, settled, work_of}
use Rattle.pass_frames_code.specs.run_source.declared.state.Instance.{Instance}
use Rattle.pass_frames_code.specs.run_source.declared.state.State.{State}
use Rattle.pass_frames_code.specs.run_step.Step.{Context, Work}
use Rattle.pass_frames_code.specs.run_step.Values.{Env, value_in, with_result}
use Rattle.pass_frames_code.specs.run_step.declared.world.World.{World}

module _ (b : Building) (g : RenewedGiven) (given : AreGiven b g) (s t : State) (r : AreBuiltOf b s t) (i j : Instr)
    (front : List Instr) (h : IsFronted b s.top i front) (goes_on : s.outcome ≡ Outcome.Running)
    (there : StandsInPlace (b.framing s.top.func) s.top.block s.top.at (led_line (b.framing s.top.func) front i j))
    (none : Each (GivesNone b.framed_code) (led_line (b.framing s.top.func) front i j)) (w : World)
    (xs : List Instance) (u : World) (ys : List Instance)
    (r2 : AreBuiltOf b (record s { world = w; instances = xs }) (record t { world = u; instances = ys }))
    (v z : Value) (stands : IsValue r2.homes v z) (S : Work) (n : ℕ)
    (far : length (named (b.framing s.top.func)).names ≤ n) (ran : Runs (framed_context b.given t) front (work_of t) S)
    (sets : SetsFrom n (work_of t) S) (wide : length s.top.values ≤ length S.values) where
  abbrev x : Framing
  x = b.framing s.top.func

  abbrev s2 : State
  s2 = record s { world = w; instances = xs }

  abbrev t2 : State
  t2 = record t { world = u; instances = ys }

  abbrev d : Context
  d = framed_context b.given t

  abbrev d2 : Context
  d2 = framed_context b.given t2

  abbrev stores : List Instr
  stores = stored_result (plan x) (result_of i)

  abbrev line : List Instr
  line = led_line x front i j

  abbrev k : ℕ
  k = length front

  abbrev env : Env
  env = with_result s.top.values (result_of i) v

  -- the framed run's work behind the instruction
  abbrev Z : Work
  Z = record { world = u; values = with_result S.values (result_of i) z }

  is : IsFraming x
  is = given.framings s.top.func h.going.coroutine

  set : AreSet r2.homes (result_of i) s.top.values S.values env Z.values
  set = sets_result r2.homes s.top.values S.values wide (result_of i) v z stands

  -- ---- cells

  cell_same : (c : ℕ) → IsCellOf x c → value_in Z.values c ≡ value_in t.top.values c
  cell_same c of =
      let lt : c < length (named x).names = of.1 in
      set.target c (λ e. other of.0 ((h.unmeasured c e).name.low)) ∙ sets.others c (omega (arith, lt, far))
    where
      other : length (edged x).names ≤ c → c < length (edged x).names → ⊥
      other low small = omega (arith, low, small)

  right : AreCellsRight x r2.homes d2.rights u.memory s.top.values (at_work t.top Z)
  right = record {
    values = λ q kv kept.
        cell_turned d2.rights u.memory t.top (at_work t.top Z) kv.cell kv.ty
        (IsValue r2.homes (value_in s.top.values q)) refl (cell_same kv.cell (kept_is_cell x is q kv kept))
        ((cells b s2 t2 r2 given.framings h.going).0.values q kv kept);
    distances = λ q cell slot told root.
        cell_turned d2.rights u.memory t.top (at_work t.top Z) cell (int 64)
        (IsDistanceOf (value_in s.top.values slot) (value_in s.top.values q)) refl
        (cell_same cell (distance_of x is q cell told))
        ((cells b s2 t2 r2 given.framings h.going).0.distances q cell slot told root);
  }

  module _ (storable : (q : ℕ) (kv : KeptValue) → result_of i ≡ Some q → IsKeptValue x q kv
      → IsStorable kv.ty (value_in env q)) where
    behind : IsStoredBehind x is r2.homes r2.hides owner_rights d2 owner_rights_fit (frame_rights_fit b.given ys) t.top
        (own_blocks t2 r2.once) n (result_of i) s.top.values env w Z r2.world right
        (λ slot listed of. free b s2 t2 r2 given.framings h.going slot listed
        (cell_is_name x slot.alloca of)) h.unmeasured set.source set.stands storable
        (result_of i)
    behind =
        stored_behind x is r2.homes r2.hides owner_rights d2 owner_rights_fit (frame_rights_fit b.given ys) t.top
        (own_blocks t2 r2.once) n (result_of i) s.top.values env w Z r2.world right
        (λ slot listed of. free b s2 t2 r2 given.framings h.going slot listed
        (cell_is_name x slot.alloca of)) h.unmeasured set.source set.stands storable

    abbrev last : Work
    last = behind.work

    over : AreOver owner_rights d2.rights r2.homes r2.hides (λ c. c) w last.world
    unfolding behind
    over =
        over_behind x is r2.homes r2.hides owner_rights d2 owner_rights_fit (frame_rights_fit b.given ys) t.top
        (own_blocks t2 r2.once) n (result_of i) s.top.values env w Z r2.world right
        (λ slot listed of. free b s2 t2 r2 given.framings h.going slot listed
        (cell_is_name x slot.alloca of)) h.unmeasured set.source set.stands storable

    spares : SparesBlocks x t.top u.memory last.world.memory
    unfolding behind
    spares =
        spares_behind x is r2.homes r2.hides owner_rights d2 owner_rights_fit (frame_rights_fit b.given ys) t.top
        (own_blocks t2 r2.once) n (result_of i) s.top.values env w Z r2.world right
        (λ slot listed of. free b s2 t2 r2 given.framings h.going slot listed
        (cell_is_name x slot.alloca of)) h.unmeasured set.source set.stands storable

    done : IsDoneHere x r2.homes d2.rights s.top.values t.top.values t.top i front env last
    done = record {
      cells = behind.right;
      set = λ c e.
          subst (λ (other : Env). IsValue r2.homes (value_in env c) (value_in other c)) (sym behind.values)
          (set.stands c e);
      others = λ c unset differ.
          ap (λ (other : Env). value_in other c) behind.values ∙ set.target c differ
          ∙ still_others d c front (work_of t) S h.still unset ran;
      room = behind.over.room ∙ set.length_target ∙ sets.room;
      source = set.source;
      source_room = set.length_source;
    }

    related_behind : AreBuiltOf b (gives s2 (result_of i) v) (lined t2 (length line) last)
    related_behind =
        related_after b s2 t2 r2 given.framings i front h line there env last done over
        (cells_left b s2 t2 r2 given.framings h.going last.world spares)
        (wheres_left b s2 t2 r2 given.framings h.going last.world spares (cells b s2 t2 r2 given.framings h.going).1)
        (ahead_left b s2 t2 r2 given.framings h.going last.world spares)

    -- ---- the framed run

    stand : StandAt (function_of b.given.given t) t.top.block t.top.at line
    stand = stand_going b g given s t r h.going line there.0

    none_there : Each (GivesNone b.given.given.code) line
    none_there =
        subst (λ (m : Module). Each (GivesNone m) line) (sym given.code) none

    running : t.outcome ≡ Outcome.Running
    running = r.outcome ∙ goes_on

    first_leads : iterate (framed_step b.given) k t ≡ lined t k S
    first_leads =
        line_last b.given t front S running
        (stand_left (function_of b.given.given t) t.top.block t.top.at front (j ∷ stores) stand)
        (each_left (GivesNone b.given.given.code) front (j ∷ stores) none_there) ran

    -- behind the instruction
    abbrev middle : State
    middle = lined t2 (k + 1) Z

    module _ (source : renewed_step g s ≡ gives (record s { world = w; instances = xs }) (result_of i) v)
        (target : framed_step b.given (lined t (length front) S)
        ≡ settled (lined (record t { world = u; instances = ys }) (length front) S)
        (record { world = u; values = with_result S.values (result_of i) z })) where
      one_on : framed_step b.given (lined t k S) ≡ middle
      one_on =
          let e : t.top.at + k + 1 ≡ t.top.at + (k + 1) = omega arith in
          target
          ∙ ap (λ (at : ℕ). record t2 { world = u; top = record t.top { at = at; values = Z.values } }) e

      to_middle : iterate (framed_step b.given) (k + 1) t ≡ middle
      to_middle =
          iterate-add (framed_step b.given) k 1 t ∙ ap (framed_step b.given) first_leads ∙ one_on

      stores_stand : StandAt (function_of b.given.given t) t.top.block (t.top.at + (k + 1)) stores
      stores_stand =
          let e : t.top.at + k + 1 ≡ t.top.at + (k + 1) = omega arith in
          subst (λ (at : ℕ). StandAt (function_of b.given.given t) t.top.block at stores) e
          (stand_right (function_of b.given.given t) t.top.block t.top.at front (j ∷ stores) stand).1

      last_leads : iterate (framed_step b.given) (length stores) middle ≡ lined middle (length stores) last
      last_leads =
          line_last b.given middle stores last running stores_stand
          (each_right (GivesNone b.given.given.code) front (j ∷ stores) none_there).1 behind.over.runs

      long : length line ≡ (k + 1) + length stores
      long =
          let e : length line ≡ k + suc (length stores) = length-append front (j ∷ stores) in
          omega (arith, e)

      leads : iterate (framed_step b.given) (length line) t ≡ lined t2 (length line) last
      leads =
          let e : (t.top.at + (k + 1)) + length stores ≡ t.top.at + ((k + 1) + length stores) = omega arith in
          ap (λ (n : ℕ). iterate (framed_step b.given) n t) long
          ∙ iterate-add (framed_step b.given) (k + 1) (length stores) t
          ∙ ap (iterate (framed_step b.given) (length stores)) to_middle
          ∙ last_leads
          ∙ ap (λ (at : ℕ). record t2 { world = last.world; top = record t.top { at = at; values = last.values } }) e
          ∙ ap (λ (n : ℕ). lined t2 n last) (sym long)

      -- ---- what is shown on the way

      front_shown : (n : ℕ) → n < k → IsOn b s (iterate (framed_step b.given) n t)
      front_shown n lt =
          let p = each_between b.given t (λ (y : Work). y.world ≡ t.world) front S running
          (stand_left (function_of b.given.given t) t.top.block t.top.at front (j ∷ stores) stand)
          (each_left (GivesNone b.given.given.code) front (j ∷ stores) none_there)
          (still_through d (λ (y : Work). y.world ≡ t.world) (work_of t) (λ y e. e) front (work_of t) S h.still refl
          ran) n lt in
          subst (IsOn b s) (sym p.1.0) (still_shown b s t r given.framings running n p.0 p.1.1)

      end_shown : IsOn b s (iterate (framed_step b.given) k t)
      end_shown =
          subst (IsOn b s) (sym first_leads) (still_shown b s t r given.framings running k S sets.world)

      middle_shown : IsOn b (gives (record s { world = w; instances = xs }) (result_of i) v)
          (iterate (framed_step b.given) (k + 1) t)
      middle_shown =
          let p = still_shown b s2 t2 r2 given.framings running (k + 1) Z refl in
          subst (IsOn b (gives s2 (result_of i) v)) (sym to_middle) (record {
            running = p.running;
            shown = record {
              homes = p.shown.homes;
              events = p.shown.events;
              outcome = p.shown.outcome;
              instances = p.shown.instances;
            };
          })

      on_way : (n : ℕ) → 0 < n → n < length line
          → IsOn b s (iterate (framed_step b.given) n t)
          ⊎ IsOn b (gives (record s { world = w; instances = xs }) (result_of i) v)
          (iterate (framed_step b.given) n t)
      on_way n pos lt = ⊎_elim (λ less. inl (front_shown n less)) (λ more. by_last more (cases_lt k n)) (cases_lt n k)
        where
          by_last : k ≤ n → (k < n) ⊎ (n ≤ k)
              → IsOn b s (iterate (framed_step b.given) n t)
              ⊎ IsOn b (gives (record s { world = w; instances = xs }) (result_of i) v)
              (iterate (framed_step b.given) n t)
          by_last more (inl less) =
              let short : length stores ≤ 1 = short_result x (result_of i) in
              let e : n ≡ k + 1 = (let all = long in omega (arith, less, lt, short, all)) in
              inr (subst (λ (m : ℕ). IsOn b (gives s2 (result_of i) v) (iterate (framed_step b.given) m t)) (sym e)
              middle_shown)
          by_last more (inr le) =
              let e : n ≡ k = omega (arith, more, le) in
              inl (subst (λ (m : ℕ). IsOn b s (iterate (framed_step b.given) m t)) (sym e) end_shown)

      pub front_followed : length (led_line (b.framing s.top.func) front i j) ≤ step_cost b g s s.top.mode
          → IsFollowed b g s t
      front_followed few = record {
        steps = length line;
        few = few;
        goes_on = inl (let all = long in omega (arith, all));
        passes = λ n pos lt.
            subst (λ (p : State). IsOn b s (iterate (framed_step b.given) n t)
            ⊎ IsOn b p (iterate (framed_step b.given) n t)) (sym source) (on_way n pos lt);
        related = subst (λ (p : State × State). AreBuiltOf b p.0 p.1) (λ q. (sym source q, sym leads q))
            related_behind;
      }
